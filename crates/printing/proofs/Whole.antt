-- What the program prints in all: `the_program_prints`. A stretch in which at most one line ends prints at most `longest_line` characters, which is
-- less than the slice for texts holds, so nothing is cut off; and in all the program prints what one run over the whole input prints.
-- No contract cites this file. Assumes nothing.
use mathlib.Core.Path.{◌≡◌, refl, ap, ◌∙◌}
use mathlib.Core.Bool.{Bool, true, false, cond}
use mathlib.Core.List.{List, [], ◌∷◌}
use Prim.Native.Nat.{ℕ, ◌*◌, ◌<◌, ◌≤◌, ◌^◌}
use native.Mathlib.Omega.{arith}
use lib.Dec.{eqb}
use lib.ListN.{length, take, length-append, length-take}
use lib.Seq.{length-sets}
use Rattle.std.specs.Prelude.{Option, Some, None, IfSome}
use Rattle.std.specs.Option.{option_map_or}
use Rattle.wording.specs.declared.Fault.{Fault}
use Rattle.lines.specs.Reader as lines
use Rattle.faults.specs.Faults.{fault_text}
use Rattle.faults.proofs.Lengths.{length_fault}
use Rattle.scene.specs.Scene.{play_of, scene_of}
use Rattle.session.specs.Run.{Session, State, state_of, start, stopped_by, line_obeyed, judged, line_ended, fed, ran}
use Rattle.printing.specs.Line.{longest_line, program_room}
use Rattle.printing.specs.Run.{judged_text, char_text, text_of, emptied_in, in_stretches, joined, Room, newlines, Cut}
use Rattle.printing.specs.Sane.{Narrow, Sane}
use Rattle.printing.proofs.Fits.{line_fits}
use Rattle.printing.proofs.Reading.{start_narrow, read_narrow, end_narrow, Fits, end_fits}
use Rattle.printing.proofs.Run.{ran_puts, stretches}

-- ---- a run stays sane

sane_if : (x : Bool) (a b : State) → Sane a → Sane b → Sane (cond x a b)
sane_if true a b p q = p
sane_if false a b p q = q

sane_by : (o : Option Fault) (a : State) (b : Fault → State) → Sane a → ((f : Fault) → Sane (b f)) → Sane (option_map_or b o a)
sane_by None a b p q = p
sane_by (Some f) a b p q = q f

module _ (s : Session) (m h og by out : List ℕ) (k : Sane (state_of s m h og by out)) (e : lines.Read) (n : Narrow e) where
  line_sane : Sane (line_obeyed s e.reader.line m h og e.bytes out)
  unfolding line_obeyed
  line_sane = record { reading = start_narrow e.bytes n.most; line = omega arith }

  stop_sane : (f : Fault) → Sane (stopped_by s e.reader f m h og e.bytes out)
  unfolding stopped_by
  stop_sane f = record { reading = n; line = k.line }

  judged_sane : Sane (judged s e.reader m h og e.bytes out)
  unfolding judged
  judged_sane = sane_by e.reader.fault _ _ line_sane stop_sane

pub fed_sane : (st : State) (c : ℕ) → Sane st → Sane (fed st c)
unfolding fed line_ended
fed_sane st c k =
    sane_if st.session.stopped _ _ k
    (sane_if (eqb c 10) _ _
    (judged_sane st.session st.memory st.holding st.outgoing st.bytes st.out k (lines.end st.session.reader st.bytes)
    (end_narrow st.session.reader st.bytes k.reading))
    (record { reading = read_narrow st.session.reader st.bytes k.reading c; line = k.line }))

pub ran_sane : (st : State) (cs : List ℕ) → Sane st → Sane (ran st cs)
unfolding ran
ran_sane st [] k = k
ran_sane st (c ∷ cs) k = ran_sane (fed st c) cs (fed_sane st c k)

-- the program starts in one, whatever its areas are
pub start_sane : (m h og by out : List ℕ) → length by ≤ 65536 → Sane (state_of start m h og by out)
start_sane m h og by out l = record { reading = start_narrow by l; line = omega arith }

-- ---- one line always fits

fault_fits : (line : ℕ) (f : Fault) → line < 2 ^ 64 → f.column < 2147483648 → length (fault_text line f) ≤ longest_line
fault_fits line f p q = omega (arith, length_fault line f p (omega arith))

-- t is what a line prints that is right, u a fault
text_by_lem : (o : Option Fault) (t : List ℕ) (u : Fault → List ℕ) → (o ≡ None → length t ≤ longest_line) → IfSome o (λ f. f.column < 2147483648)
    → ((f : Fault) → f.column < 2147483648 → length (u f) ≤ longest_line) → length (option_map_or u o t) ≤ longest_line
text_by_lem None t u p n q = p refl
text_by_lem (Some f) t u p n q = q f n

judged_fits : (s : Session) (m h og : List ℕ) (e : lines.Read) → s.line < 2 ^ 64 → Narrow e
    → (e.reader.fault ≡ None → Fits e.reader.line)
    → length (judged_text s e.reader m h og e.bytes) ≤ longest_line
unfolding judged_text
judged_fits s m h og e l n right =
    text_by_lem e.reader.fault _ _
    (λ (r : e.reader.fault ≡ None).
    let t : length (take e.reader.line.filled e.bytes) ≤ 65536 =
    rw (length-take e.reader.line.filled e.bytes) (omega (arith, n.most)) in
    line_fits e.reader.line.verb e.reader.line (take e.reader.line.filled e.bytes) (scene_of (play_of s.board 0) m h og []) t (right r))
    n.fault
    (λ f k. fault_fits s.line f l k)

char_by : (x y : Bool) (t : List ℕ) → length t ≤ longest_line → length (cond x [] (cond y t [])) ≤ longest_line * cond y 1 0
char_by true true t h = omega arith
char_by true false t h = omega arith
char_by false true t h = omega arith
char_by false false t h = omega arith

char_fits : (st : State) (c : ℕ) → Sane st → length (char_text st c) ≤ longest_line * cond (eqb c 10) 1 0
unfolding char_text
char_fits st c k =
    char_by st.session.stopped (eqb c 10) _
    (judged_fits st.session st.memory st.holding st.outgoing (lines.end st.session.reader st.bytes) k.line
    (end_narrow st.session.reader st.bytes k.reading) (end_fits st.session.reader st.bytes))

-- what a stretch prints
pub text_fits : (st : State) (cs : List ℕ) → Sane st → length (text_of st cs) ≤ longest_line * newlines cs
unfolding text_of newlines
text_fits st [] k = omega arith
text_fits st (c ∷ cs) k =
    let a : length (char_text st c) ≤ longest_line * cond (eqb c 10) 1 0 = char_fits st c k in
    let b : length (text_of (fed st c) cs) ≤ longest_line * newlines cs = text_fits (fed st c) cs (fed_sane st c k) in
    rw (length-append (char_text st c) (text_of (fed st c) cs)) (omega arith)

pub one_line_fits : (st : State) (cs : List ℕ) → newlines cs ≤ 1 → Sane st → length (text_of st cs) ≤ longest_line
one_line_fits st cs n k = omega (arith, text_fits st cs k)

-- ---- the program

emptied_sane : (st : State) → Sane st → Sane (emptied_in st)
emptied_sane st k = record { reading = k.reading; line = k.line }

ran_room : (st : State) (cs : List ℕ) → length (ran st cs).out ≡ length st.out
ran_room st cs = ap length (ran_puts st cs).bytes ∙ length-sets st.out st.session.at (text_of st cs)

pub rooms : (st : State) (xss : List (List ℕ)) → Sane st → Cut xss → longest_line ≤ length st.out → Room st xss
rooms st [] k h l = tt
rooms st (xs ∷ xss) k h l =
    let t : length (text_of st xs) ≤ longest_line = one_line_fits st xs h.0 k in
    let o : length (ran (emptied_in st) xs).out ≡ length st.out = ran_room (emptied_in st) xs in
    (omega arith, rooms (ran (emptied_in st) xs) xss (ran_sane (emptied_in st) xs (emptied_sane st k)) h.1 (omega arith))

-- from any sane state: what is written out, stretch by stretch, is what the whole input prints
pub sane_prints : (st : State) (xss : List (List ℕ)) → Sane st → Cut xss → longest_line ≤ length st.out → in_stretches st xss ≡ text_of st (joined xss)
sane_prints st xss k h l = stretches st xss (rooms st xss k h l)

-- from the start, with the program's own lengths
pub the_program_prints : (m h og by out : List ℕ) (xss : List (List ℕ)) → length by ≡ 65536 → length out ≡ program_room → Cut xss
    → in_stretches (state_of start m h og by out) xss ≡ text_of (state_of start m h og by out) (joined xss)
the_program_prints m h og by out xss l o c =
    sane_prints (state_of start m h og by out) xss (start_sane m h og by out (omega arith)) c (omega arith)
