-- What a run prints does not depend on how its input is cut into stretches: `stretches`, `any_cut`. No contract cites this file.
-- Assumes nothing.
use mathlib.Core.Path.{◌≡◌, refl, sym, ap, ◌∙◌}
use mathlib.Core.Bool.{Bool, true, false, cond}
use mathlib.Core.List.{List, [], ◌∷◌, ◌++◌, append_assoc}
use Prim.Native.Nat.{ℕ, ◌≤◌}
use lib.Dec.{eqb}
use lib.ListN.{length, take}
use Rattle.std.specs.Prelude.{Option, Some, None}
use Rattle.std.specs.Option.{option_map_or}
use Rattle.wording.specs.declared.Line.{Line}
use Rattle.wording.specs.declared.Fault.{Fault}
use Rattle.lines.specs.declared.Reader.{Reader}
use Rattle.texts.specs.Texts.{Puts}
use Rattle.faults.specs.Faults.{fault_text}
use Rattle.texts.proofs.Laws.{puts_none, puts_cat, puts_is}
use Rattle.texts.proofs.Lengths.{puts_whole}
use Rattle.scene.specs.Scene.{Scene, play_of, scene_of}
use Rattle.printing.specs.Line.{line_text, quiet}
use Rattle.printing.proofs.Line.{obeyed_puts, quiet_obeyed, text_quiet}
use Rattle.session.specs.Run.{Session, State, state_of, behind_line, stopped_by, line_obeyed, judged, line_ended, fed, ran}
use Rattle.printing.specs.Run.{judged_text, char_text, text_of, emptied_in, written, in_stretches, joined, Room, quietly}

-- ---- a state puts a text: from one state to another

abbrev Does : List ℕ → State → State → Type 0
Does text a b = Puts text a.session.at a.out b.session.at b.out

either : (x : Bool) (t u : List ℕ) (a b c : State) → Does t a b → Does u a c → Does (cond x t u) a (cond x b c)
either true t u a b c p q = p
either false t u a b c p q = q

by_fault : (o : Option Fault) (t : List ℕ) (u : Fault → List ℕ) (a b : State) (c : Fault → State) → Does t a b → ((f : Fault) → Does (u f) a (c f))
    → Does (option_map_or u o t) a (option_map_or c o b)
by_fault None t u a b c p q = p
by_fault (Some f) t u a b c p q = q f

module _ (s : Session) (m h og by out : List ℕ) where
  abbrev before : State
  before = state_of s m h og by out

  line_puts : (l : Line) (by' : List ℕ) → Does (line_text l.verb l (take l.filled by') (scene_of (play_of s.board 0) m h og [])) before (line_obeyed s l m h og by' out)
  unfolding line_obeyed
  line_puts l by' =
      puts_is (sym (text_quiet l.verb l (take l.filled by') (scene_of (play_of s.board s.at) m h og out)))
      (obeyed_puts l.verb l (take l.filled by') (scene_of (play_of s.board s.at) m h og out))

  stop_puts : (r : Reader) (by' : List ℕ) (f : Fault) → Does (fault_text s.line f) before (stopped_by s r f m h og by' out)
  unfolding stopped_by
  stop_puts r by' f = record { next = refl; bytes = refl }

  judged_puts : (r : Reader) (by' : List ℕ) → Does (judged_text s r m h og by') before (judged s r m h og by' out)
  unfolding judged judged_text
  judged_puts r by' = by_fault r.fault _ _ before _ _ (line_puts r.line by') (stop_puts r by')

fed_puts : (st : State) (c : ℕ) → Does (char_text st c) st (fed st c)
unfolding char_text fed line_ended
fed_puts st c =
    either st.session.stopped _ _ st _ _ (puts_none _ _)
    (either (eqb c 10) _ _ st _ _ (judged_puts st.session st.memory st.holding st.outgoing st.bytes st.out _ _) (puts_none _ _))

-- a stretch prints its text
pub ran_puts : (st : State) (cs : List ℕ) → Does (text_of st cs) st (ran st cs)
unfolding text_of ran
ran_puts st [] = puts_none _ _
ran_puts st (c ∷ cs) = puts_cat (fed_puts st c) (ran_puts (fed st c) cs)

-- ---- what was printed before does not matter

same_if : (x : Bool) (a b a' b' : State) → quietly a ≡ quietly a' → quietly b ≡ quietly b' → quietly (cond x a b) ≡ quietly (cond x a' b')
same_if true a b a' b' p q = p
same_if false a b a' b' p q = q

same_fault : (o : Option Fault) (a a' : State) (b b' : Fault → State) → quietly a ≡ quietly a' → ((f : Fault) → quietly (b f) ≡ quietly (b' f))
    → quietly (option_map_or b o a) ≡ quietly (option_map_or b' o a')
same_fault None a a' b b' p q = p
same_fault (Some f) a a' b b' p q = q f

behind_quiet : (s : Session) (by : List ℕ) (c : Scene) → quietly (behind_line s by (quiet c)) ≡ quietly (behind_line s by c)
behind_quiet s by c = refl

line_quiet : (s : Session) (l : Line) (m h og by out : List ℕ) → quietly (line_obeyed (quietly (state_of s m h og by out)).session l m h og by []) ≡ quietly (line_obeyed s l m h og by out)
unfolding line_obeyed
line_quiet s l m h og by out =
    ap (λ (c : Scene). quietly (behind_line s by c)) (quiet_obeyed l.verb l (take l.filled by) (scene_of (play_of s.board s.at) m h og out))

judged_quiet : (s : Session) (r : Reader) (m h og by out : List ℕ) → quietly (judged (quietly (state_of s m h og by out)).session r m h og by []) ≡ quietly (judged s r m h og by out)
unfolding judged stopped_by
judged_quiet s r m h og by out = same_fault r.fault _ _ _ _ (line_quiet s r.line m h og by out) (λ f. refl)

fed_quiet : (st : State) (c : ℕ) → quietly (fed (quietly st) c) ≡ quietly (fed st c)
unfolding fed line_ended
fed_quiet st c =
    same_if st.session.stopped _ _ _ _ refl
    (same_if (eqb c 10) _ _ _ _ (judged_quiet st.session _ st.memory st.holding st.outgoing _ st.out) refl)

pub fed_alike : (st su : State) (c : ℕ) → quietly st ≡ quietly su → quietly (fed st c) ≡ quietly (fed su c)
fed_alike st su c e = sym (fed_quiet st c) ∙ ap (λ (x : State). quietly (fed x c)) e ∙ fed_quiet su c

char_quiet : (st : State) (c : ℕ) → char_text (quietly st) c ≡ char_text st c
unfolding char_text judged_text
char_quiet st c = refl

char_alike : (st su : State) (c : ℕ) → quietly st ≡ quietly su → char_text st c ≡ char_text su c
char_alike st su c e = sym (char_quiet st c) ∙ ap (λ (x : State). char_text x c) e ∙ char_quiet su c

pub ran_alike : (st su : State) (cs : List ℕ) → quietly st ≡ quietly su → quietly (ran st cs) ≡ quietly (ran su cs)
unfolding ran
ran_alike st su [] e = e
ran_alike st su (c ∷ cs) e = ran_alike (fed st c) (fed su c) cs (fed_alike st su c e)

pub text_alike : (st su : State) (cs : List ℕ) → quietly st ≡ quietly su → text_of st cs ≡ text_of su cs
unfolding text_of
text_alike st su [] e = refl
text_alike st su (c ∷ cs) e =
    ap (λ (xs : List ℕ). xs ++ text_of (fed st c) cs) (char_alike st su c e)
    ∙ ap (λ (xs : List ℕ). char_text su c ++ xs) (text_alike (fed st c) (fed su c) cs (fed_alike st su c e))

-- ---- stretches

pub text_append : (st : State) (xs ys : List ℕ) → text_of st (xs ++ ys) ≡ text_of st xs ++ text_of (ran st xs) ys
unfolding text_of ran
text_append st [] ys = refl
text_append st (x ∷ xs) ys =
    ap (λ (zs : List ℕ). char_text st x ++ zs) (text_append (fed st x) xs ys) ∙ sym (append_assoc (char_text st x) (text_of (fed st x) xs) (text_of (ran (fed st x) xs) ys))

-- what is written out after a stretch is what it prints, whole
pub stretch : (st : State) (xs : List ℕ) → length (text_of st xs) ≤ length st.out → written (ran (emptied_in st) xs) ≡ text_of st xs
stretch st xs h =
    let e : text_of (emptied_in st) xs ≡ text_of st xs = text_alike (emptied_in st) st xs refl in
    puts_whole h (puts_is e (ran_puts (emptied_in st) xs))

-- what is written out in all is what the whole input prints
pub stretches : (st : State) (xss : List (List ℕ)) → Room st xss → in_stretches st xss ≡ text_of st (joined xss)
unfolding in_stretches joined text_of
stretches st [] h = refl
stretches st (xs ∷ xss) h =
    ap (λ (zs : List ℕ). zs ++ in_stretches (ran (emptied_in st) xs) xss) (stretch st xs h.0)
    ∙ ap (λ (zs : List ℕ). text_of st xs ++ zs)
    (stretches (ran (emptied_in st) xs) xss h.1
    ∙ text_alike (ran (emptied_in st) xs) (ran st xs) (joined xss) (ran_alike (emptied_in st) st xs refl))
    ∙ sym (text_append st xs (joined xss))

-- so it does not matter how the input is cut
pub any_cut : (st : State) (xss yss : List (List ℕ)) → joined xss ≡ joined yss → Room st xss → Room st yss → in_stretches st xss ≡ in_stretches st yss
any_cut st xss yss e h k = stretches st xss h ∙ ap (text_of st) e ∙ sym (stretches st yss k)
