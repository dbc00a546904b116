-- Which stream has what: `the_streams_have`, `in_order`. Standard output has what the lines that are right print, and the error stream the fault
-- of the line that is wrong, behind all else: for at most one line ends in a stretch, so that where the session stops the fault is all that the
-- stretch has put. A run that goes on has put nothing on the error stream, `no_fault_lem`; one that stops has put a fault, `one_fault`.
-- No contract cites this file. Assumes nothing.
use mathlib.Core.Path.{◌≡◌, refl, sym, ap, ◌∙◌}
use mathlib.Core.Bool.{Bool, true, false, cond, false≢true}
use mathlib.Core.List.{List, [], ◌∷◌, ◌++◌, append_assoc, append-nil}
use mathlib.Core.Logic.{◌⊎◌, inl, inr, ⊎_elim}
use Prim.Native.Nat.{ℕ, ◌+◌, ◌≤◌}
use native.Mathlib.Omega.{arith}
use lib.Dec.{eqb}
use lib.ListN.{length}
use Rattle.std.specs.Prelude.{Option, Some, None}
use Rattle.std.specs.Option.{option_map_or}
use Rattle.wording.specs.declared.Fault.{Fault}
use Rattle.lines.specs.Reader as lines
use Rattle.faults.specs.Faults.{fault_text}
use Rattle.session.specs.Run.{State, state_of, start, stopped_by, line_obeyed, judged, line_ended, fed, ran}
use Rattle.printing.specs.Line.{program_room}
use Rattle.printing.specs.Run.{judged_text, char_text, text_of, emptied_in, joined, Room, quietly, newlines, Cut}
use Rattle.printing.specs.Streams.{Stream, output, errors, judged_on, char_on, text_on, stream_of, seen_on, written_on, in_stretches_on}
use Rattle.printing.proofs.Run.{fed_alike, ran_alike, text_alike, stretch}
use Rattle.printing.proofs.Whole.{rooms, start_sane}

-- ---- where a character leaves the session

stopped_if : (x : Bool) (a b : State) → (cond x a b).session.stopped ≡ cond x a.session.stopped b.session.stopped
stopped_if true a b = refl
stopped_if false a b = refl

stopped_by_fault : (o : Option Fault) (a : State) (b : Fault → State)
    → (option_map_or b o a).session.stopped ≡ option_map_or (λ f. (b f).session.stopped) o a.session.stopped
stopped_by_fault None a b = refl
stopped_by_fault (Some f) a b = refl

-- what is wrong with the line that ends here
abbrev fault : State → Option Fault
fault st = (lines.end st.session.reader st.bytes).reader.fault

abbrev stops : Bool → Bool → Option Fault → Bool
stops x y z = cond x x (cond y (option_map_or (λ f. true) z x) x)

-- a session stops at the end of a line that is wrong
fed_stopped : (st : State) (c : ℕ) → (fed st c).session.stopped ≡ stops st.session.stopped (eqb c 10) (fault st)
unfolding fed line_ended judged line_obeyed stopped_by
fed_stopped st c =
    stopped_if st.session.stopped _ _
    ∙ ap (cond st.session.stopped st.session.stopped)
    (stopped_if (eqb c 10) _ _ ∙ ap (λ (b : Bool). cond (eqb c 10) b st.session.stopped) (stopped_by_fault (fault st) _ _))

-- it stays stopped
fed_still : (st : State) (c : ℕ) → st.session.stopped ≡ true → (fed st c).session.stopped ≡ true
fed_still st c h = fed_stopped st c ∙ rw h

ran_still : (st : State) (cs : List ℕ) → st.session.stopped ≡ true → (ran st cs).session.stopped ≡ true
unfolding ran
ran_still st [] h = h
ran_still st (c ∷ cs) h = ran_still (fed st c) cs (fed_still st c h)

-- ---- a character

-- x: the session has stopped; y: a line ends; z: what is wrong with it; t, u: its text and its fault
abbrev said : Bool → Bool → Option Fault → List ℕ → (Fault → List ℕ) → List ℕ
said x y z t u = cond x [] (cond y (option_map_or u z t) [])

abbrev said_on : Stream → Bool → Bool → Option Fault → List ℕ → (Fault → List ℕ) → List ℕ
said_on output x y z t u = said x y z t (λ f. [])
said_on errors x y z t u = said x y z [] u

seen_by : (v : Stream) (x y : Bool) (z : Option Fault) (t : List ℕ) (u : Fault → List ℕ) → seen_on v (cond (stops x y z) errors output) (said x y z t u) ≡ said_on v x y z t u
seen_by output true y z t u = refl
seen_by output false true None t u = refl
seen_by output false true (Some f) t u = refl
seen_by output false false z t u = refl
seen_by errors true y z t u = refl
seen_by errors false true None t u = refl
seen_by errors false true (Some f) t u = refl
seen_by errors false false z t u = refl

-- what a character prints goes whole to where the session that it leaves says
char_seen : (v : Stream) (st : State) (c : ℕ) → seen_on v (stream_of (fed st c).session) (char_text st c) ≡ char_on v st c
unfolding char_text judged_text char_on judged_on
char_seen output st c = rw (fed_stopped st c) (seen_by output st.session.stopped (eqb c 10) (fault st) _ _)
char_seen errors st c = rw (fed_stopped st c) (seen_by errors st.session.stopped (eqb c 10) (fault st) _ _)

parted_by : (x y : Bool) (z : Option Fault) (t : List ℕ) (u : Fault → List ℕ) → said x y z t u ≡ said x y z t (λ f. []) ++ said x y z [] u
parted_by true y z t u = refl
parted_by false true None t u = sym (append-nil t)
parted_by false true (Some f) t u = refl
parted_by false false z t u = refl

char_parted : (st : State) (c : ℕ) → char_text st c ≡ char_on output st c ++ char_on errors st c
unfolding char_text judged_text char_on judged_on
char_parted st c = parted_by st.session.stopped (eqb c 10) (fault st) _ _

-- ---- where no line ends, nothing is printed and no session stops

quiet_by : (x y : Bool) (t : List ℕ) → y ≡ false → cond x [] (cond y t []) ≡ []
quiet_by true y t e = refl
quiet_by false true t e = absurd (false≢true (sym e))
quiet_by false false t e = refl

char_none : (st : State) (c : ℕ) → eqb c 10 ≡ false → char_text st c ≡ []
unfolding char_text
char_none st c e = quiet_by st.session.stopped (eqb c 10) _ e

char_none_on : (v : Stream) (st : State) (c : ℕ) → eqb c 10 ≡ false → char_on v st c ≡ []
unfolding char_on
char_none_on v st c e = quiet_by st.session.stopped (eqb c 10) _ e

stops_none : (x : Bool) (z : Option Fault) → stops x false z ≡ x
stops_none true z = refl
stops_none false z = refl

fed_none : (st : State) (c : ℕ) → eqb c 10 ≡ false → (fed st c).session.stopped ≡ st.session.stopped
fed_none st c e = fed_stopped st c ∙ rw e (stops_none st.session.stopped (fault st))

no_head : (x : Bool) (n : ℕ) → cond x 1 0 + n ≡ 0 → x ≡ false
no_head true n h = absurd (omega (arith, h))
no_head false n h = refl

no_rest : (x : Bool) (n : ℕ) → cond x 1 0 + n ≡ 0 → n ≡ 0
no_rest true n h = omega arith
no_rest false n h = omega arith

text_none : (st : State) (cs : List ℕ) → newlines cs ≡ 0 → text_of st cs ≡ []
unfolding text_of newlines
text_none st [] h = refl
text_none st (c ∷ cs) h =
    rw (char_none st c (no_head (eqb c 10) (newlines cs) h), text_none (fed st c) cs (no_rest (eqb c 10) (newlines cs) h))

text_none_on : (v : Stream) (st : State) (cs : List ℕ) → newlines cs ≡ 0 → text_on v st cs ≡ []
unfolding text_on newlines
text_none_on v st [] h = refl
text_none_on v st (c ∷ cs) h =
    rw (char_none_on v st c (no_head (eqb c 10) (newlines cs) h), text_none_on v (fed st c) cs (no_rest (eqb c 10) (newlines cs) h))

ran_none : (st : State) (cs : List ℕ) → newlines cs ≡ 0 → (ran st cs).session.stopped ≡ st.session.stopped
unfolding ran newlines
ran_none st [] h = refl
ran_none st (c ∷ cs) h =
    ran_none (fed st c) cs (no_rest (eqb c 10) (newlines cs) h) ∙ fed_none st c (no_head (eqb c 10) (newlines cs) h)

-- ---- a stretch in which at most one line ends: what it prints goes whole to one stream

seen_none : (v w : Stream) → seen_on v w [] ≡ []
seen_none output output = refl
seen_none output errors = refl
seen_none errors output = refl
seen_none errors errors = refl

abbrev Seen : Stream → State → List ℕ → Type 0
Seen v st cs = seen_on v (stream_of (ran st cs).session) (text_of st cs) ≡ text_on v st cs

head_seen : (x : Bool) (v : Stream) (st : State) (c : ℕ) (cs : List ℕ) → eqb c 10 ≡ x → cond x 1 0 + newlines cs ≤ 1
    → (newlines cs ≤ 1 → Seen v (fed st c) cs) → Seen v st (c ∷ cs)
unfolding text_of text_on ran
head_seen true v st c cs e h ih =
    let n : newlines cs ≡ 0 = omega arith in
    rw (ran_none (fed st c) cs n, text_none (fed st c) cs n, text_none_on v (fed st c) cs n, append-nil (char_text st c), append-nil (char_on v st c))
    (char_seen v st c)
head_seen false v st c cs e h ih = rw (char_none st c e, char_none_on v st c e) (ih (omega arith))

stretch_seen : (v : Stream) (st : State) (cs : List ℕ) → newlines cs ≤ 1 → Seen v st cs
unfolding text_of text_on ran newlines
stretch_seen v st [] h = seen_none v _
stretch_seen v st (c ∷ cs) h = head_seen (eqb c 10) v st c cs refl h (stretch_seen v (fed st c) cs)

-- ---- stretches, as in Run

quiet_on_lem : (v : Stream) (st : State) (c : ℕ) → char_on v (quietly st) c ≡ char_on v st c
unfolding char_on judged_on
quiet_on_lem output st c = refl
quiet_on_lem errors st c = refl

alike_on : (v : Stream) (st su : State) (cs : List ℕ) → quietly st ≡ quietly su → text_on v st cs ≡ text_on v su cs
unfolding text_on
alike_on v st su [] e = refl
alike_on v st su (c ∷ cs) e =
    ap (λ (xs : List ℕ). xs ++ text_on v (fed st c) cs) (sym (quiet_on_lem v st c) ∙ ap (λ (x : State). char_on v x c) e ∙ quiet_on_lem v su c)
    ∙ ap (λ (xs : List ℕ). char_on v su c ++ xs) (alike_on v (fed st c) (fed su c) cs (fed_alike st su c e))

append_on : (v : Stream) (st : State) (xs ys : List ℕ) → text_on v st (xs ++ ys) ≡ text_on v st xs ++ text_on v (ran st xs) ys
unfolding text_on ran
append_on v st [] ys = refl
append_on v st (x ∷ xs) ys =
    ap (λ (zs : List ℕ). char_on v st x ++ zs) (append_on v (fed st x) xs ys)
    ∙ sym (append_assoc (char_on v st x) (text_on v (fed st x) xs) (text_on v (ran (fed st x) xs) ys))

-- what a stretch prints is written whole to the stream that has it
stretch_on : (v : Stream) (st : State) (xs : List ℕ) → newlines xs ≤ 1 → length (text_of st xs) ≤ length st.out
    → written_on v (ran (emptied_in st) xs) ≡ text_on v st xs
stretch_on v st xs n h =
    ap (seen_on v (stream_of (ran (emptied_in st) xs).session)) (stretch st xs h ∙ sym (text_alike (emptied_in st) st xs refl))
    ∙ stretch_seen v (emptied_in st) xs n
    ∙ alike_on v (emptied_in st) st xs refl

-- what is written to a stream in all is what the whole input prints there
pub stretches_on : (v : Stream) (st : State) (xss : List (List ℕ)) → Cut xss → Room st xss → in_stretches_on v st xss ≡ text_on v st (joined xss)
unfolding in_stretches_on joined text_on
stretches_on v st [] k h = refl
stretches_on v st (xs ∷ xss) k h =
    ap (λ (zs : List ℕ). zs ++ in_stretches_on v (ran (emptied_in st) xs) xss) (stretch_on v st xs k.0 h.0)
    ∙ ap (λ (zs : List ℕ). text_on v st xs ++ zs)
    (stretches_on v (ran (emptied_in st) xs) xss k.1 h.1
    ∙ alike_on v (ran (emptied_in st) xs) (ran st xs) (joined xss) (ran_alike (emptied_in st) st xs refl))
    ∙ sym (append_on v st xs (joined xss))

-- from the start, with the program's own lengths
pub the_streams_have : (v : Stream) (m h og by out : List ℕ) (xss : List (List ℕ)) → length by ≡ 65536 → length out ≡ program_room → Cut xss
    → in_stretches_on v (state_of start m h og by out) xss ≡ text_on v (state_of start m h og by out) (joined xss)
the_streams_have v m h og by out xss l o c =
    stretches_on v (state_of start m h og by out) xss c
    (rooms (state_of start m h og by out) xss (start_sane m h og by out (omega arith)) c (omega arith))

-- ---- both streams

stopped_on : (v : Stream) (st : State) (cs : List ℕ) → st.session.stopped ≡ true → text_on v st cs ≡ []
unfolding text_on char_on
stopped_on v st [] h = refl
stopped_on v st (c ∷ cs) h = rw (stopped_on v (fed st c) cs (fed_still st c h), h)

last_by : (x y : Bool) (z : Option Fault) (u : Fault → List ℕ) → (said x y z [] u ≡ []) ⊎ (stops x y z ≡ true)
last_by true y z u = inl refl
last_by false true None u = inl refl
last_by false true (Some f) u = inr refl
last_by false false z u = inl refl

-- a fault is the last thing that is printed
fault_last : (st : State) (c : ℕ) → (char_on errors st c ≡ []) ⊎ ((fed st c).session.stopped ≡ true)
unfolding char_on judged_on
fault_last st c = rw (fed_stopped st c) (last_by st.session.stopped (eqb c 10) (fault st) _)

joins : (a f b g : List ℕ) → (f ≡ []) ⊎ (b ≡ []) → a ++ f ++ (b ++ g) ≡ a ++ b ++ (f ++ g)
joins a f b g (inl e) = rw (e, append-nil a) (sym (append_assoc a b g))
joins a f b g (inr e) = rw (e, append-nil a) (append_assoc a f g)

-- what a run prints is what standard output has, and behind it what the error stream has
pub in_order : (st : State) (cs : List ℕ) → text_of st cs ≡ text_on output st cs ++ text_on errors st cs
unfolding text_of text_on
in_order st [] = refl
in_order st (c ∷ cs) =
    rw (char_parted st c, in_order (fed st c) cs)
    (joins (char_on output st c) (char_on errors st c) (text_on output (fed st c) cs) (text_on errors (fed st c) cs)
    (⊎_elim (λ (e : char_on errors st c ≡ []). inl e) (λ (e : (fed st c).session.stopped ≡ true). inr (stopped_on output (fed st c) cs e)) (fault_last st c)))

-- ---- the error stream has something exactly where a run stops

pub no_fault_lem : (st : State) (cs : List ℕ) → (ran st cs).session.stopped ≡ false → text_on errors st cs ≡ []
unfolding text_on ran
no_fault_lem st [] h = refl
no_fault_lem st (c ∷ cs) h =
    rw (no_fault_lem (fed st c) cs h)
    (append-nil _
    ∙ ⊎_elim (λ (e : char_on errors st c ≡ []). e) (λ (e : (fed st c).session.stopped ≡ true). absurd (false≢true (sym h ∙ ran_still (fed st c) cs e))) (fault_last st c))

-- a text that is of a fault of some line
abbrev FaultOf : List ℕ → Type 0
FaultOf t = (line : ℕ) × (f : Fault) × (t ≡ fault_text line f)

fault_by : (x y : Bool) (z : Option Fault) (line : ℕ) → x ≡ false → stops x y z ≡ true → FaultOf (said x y z [] (fault_text line))
fault_by true y z line p q = absurd (false≢true (sym p))
fault_by false true None line p q = absurd (false≢true q)
fault_by false true (Some f) line p q = (line, f, refl)
fault_by false false z line p q = absurd (false≢true q)

fault_of_lem : (st : State) (c : ℕ) → st.session.stopped ≡ false → (fed st c).session.stopped ≡ true → FaultOf (char_on errors st c)
unfolding char_on judged_on
fault_of_lem st c p q = fault_by st.session.stopped (eqb c 10) (fault st) st.session.line p (sym (fed_stopped st c) ∙ q)

step_fault : (x : Bool) (st : State) (c : ℕ) (cs : List ℕ) → (fed st c).session.stopped ≡ x → st.session.stopped ≡ false
    → ((fed st c).session.stopped ≡ false → FaultOf (text_on errors (fed st c) cs)) → FaultOf (char_on errors st c ++ text_on errors (fed st c) cs)
step_fault true st c cs e p ih = rw (stopped_on errors (fed st c) cs e, append-nil (char_on errors st c)) (fault_of_lem st c p e)
step_fault false st c cs e p ih =
    rw (⊎_elim (λ (f : char_on errors st c ≡ []). f) (λ (f : (fed st c).session.stopped ≡ true). absurd (false≢true (sym e ∙ f))) (fault_last st c)) (ih e)

pub one_fault : (st : State) (cs : List ℕ) → st.session.stopped ≡ false → (ran st cs).session.stopped ≡ true → FaultOf (text_on errors st cs)
unfolding text_on ran
one_fault st [] p q = absurd (false≢true (sym p ∙ q))
one_fault st (c ∷ cs) p q = step_fault (fed st c).session.stopped st c cs refl p (λ h. one_fault (fed st c) cs h q)
