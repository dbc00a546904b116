-- What the proofs of the session share: one thing after another, a line, a character, a stretch character by character. Assumes nothing.
use Rattle.std.proofs.Common.{◌≡◌, ℕ, zero, suc, ◌+◌, ◌%◌, ◌^◌, ◌<◌, Bool, true, false, cond, eqb, List, [], ◌∷◌, ◌++◌, length, get_or, take, sym, refl, ap, ◌∙◌, arith, Option, Some, None}
use Rattle.std.proofs.Math.Seq.{take-length}
use borrow.Author.Tests.{eq-eqb, ne_eqb}
use Rattle.std.specs.Option.{option_map_or}
use Rattle.wording.specs.declared.Fault.{Fault}
use Rattle.lines.specs.declared.Reader.{Reader}
use Rattle.lines.specs.Reader as lines
use Rattle.texts.specs.declared.Page.{Page}
use Rattle.texts.specs.Page.{Prints}
use Rattle.faults.specs.Faults.{fault_text}
use Rattle.scene.specs.declared.Scene.{Scene as Staged}
use Rattle.scene.specs.Scene.{Plays, obeyed}
use Rattle.session.specs.declared.Held.{Held}
use Rattle.session.specs.Run.{State, state_of, halted_in, stopped_at, stopped_in, stopped_by, behind_line, line_obeyed, judged, judged_in, ended_by, line_ended, read_by, fed, ran}
use Rattle.session.specs.Held.{session_in, state_in, Runs}

-- ---- one thing after another

pub in_turn : (f g : State → State) (h k j : Held) → Runs f h k → Runs g k j → Runs (λ t. g (f t)) h j
in_turn f g h k j p q =
    ((((q.0.0.0.0 ∙ p.0.0.0.0, q.0.0.0.1 ∙ p.0.0.0.1, q.0.0.0.2 ∙ p.0.0.0.2), q.0.0.1 ∙ p.0.0.1), q.0.1 ∙ p.0.1), q.1 ∙ ap g p.1)

-- the same in other words
pub runs_is : (f g : State → State) (h k : Held) → f (state_in h) ≡ g (state_in h) → Runs f h k → Runs g h k
runs_is f g h k e p = (p.0, p.1 ∙ e)

-- ---- a fault

abbrev pub with_page : Held → Page → Held
with_page h g =
    record {
      scene = record { board = h.scene.board; areas = h.scene.areas; page = g };
      bytes = h.bytes;
      session = h.session;
    }

-- it was printed, and the session has stopped
pub fault_told : (f : Fault) (h : Held) (g : Page) (k : Held) → Prints (fault_text h.session.line f) h.scene.page g
    → Runs halted_in (with_page h g) k
    → Runs (stopped_in f) h k
unfolding stopped_by
fault_told f h g k p q =
    let t = state_in h in (
      ((q.0.0.0, q.0.0.1 ∙ p.0), q.0.1),
      q.1 ∙ (λ i. state_of (stopped_at t.session t.session.reader (p.1.next i)) t.memory t.holding t.outgoing t.bytes (p.1.bytes i)),
    )

-- ---- a line that has been read to its end

abbrev obeyed_in : State → State
obeyed_in t = line_obeyed t.session t.session.reader.line t.memory t.holding t.outgoing t.bytes t.out

-- the session behind a line, whose scene is c
abbrev pub behind : Held → Staged → Reader → Held
behind h c r =
    record { scene = c; bytes = h.bytes; session = record { line = (h.session.line + 1) % 2 ^ 64; reader = r; stopped = h.session.stopped } }

line_done : (h : Held) (c : Staged) → Plays (obeyed h.session.reader.line.verb h.session.reader.line (take h.session.reader.line.filled h.bytes.now)) h.scene c
    → Runs obeyed_in h (behind h c lines.start)
unfolding line_obeyed
line_done h c p = ((p.0, refl), ap (behind_line (session_in h) h.bytes.now) p.1)

pub judged_right : (h : Held) (c : Staged) (r : Reader) → h.session.reader.fault ≡ None → r ≡ lines.start
    → Plays (obeyed h.session.reader.line.verb h.session.reader.line (take h.session.reader.line.filled h.bytes.now)) h.scene c
    → Runs judged_in h (behind h c r)
unfolding judged
judged_right h c r w e p =
    let t = state_in h in
    let done = line_done h c p in (
      done.0,
      ap (λ (x : Reader). state_in (behind h c x)) e
          ∙ done.1
          ∙ ap (λ (o : Option Fault). option_map_or (λ f. stopped_in f t) o (obeyed_in t)) (sym w),
    )

pub judged_wrong : (h k : Held) (f : Fault) → h.session.reader.fault ≡ Some f → Runs (stopped_in f) h k → Runs judged_in h k
unfolding judged
judged_wrong h k f w p =
    let t = state_in h in
    runs_is (stopped_in f) judged_in h k (ap (λ (o : Option Fault). option_map_or (λ g. stopped_in g t) o (obeyed_in t)) (sym w)) p

-- ---- a character

-- what was read of a line: r is the reader, ys are the bytes
abbrev pub with_read : Held → Reader → List ℕ → Held
with_read h r ys =
    record {
      scene = h.scene;
      bytes = record h.bytes { now = ys };
      session = record { line = h.session.line; reader = r; stopped = h.session.stopped };
    }

fed_when : (t : State) (c : ℕ) (a b : Bool) → t.session.stopped ≡ a → eqb c 10 ≡ b
    → fed t c ≡ cond a t (cond b (line_ended t) (read_by t (lines.read t.session.reader c t.bytes)))
unfolding fed
fed_when t c a b p q = λ i. cond (p i) t (cond (q i) (line_ended t) (read_by t (lines.read t.session.reader c t.bytes)))

pub fed_stopped : (h : Held) (c : ℕ) → h.session.stopped ≡ true → Runs (λ t. fed t c) h h
fed_stopped h c w = ((((refl, refl, refl), refl), refl), sym (fed_when (state_in h) c true (eqb c 10) w refl))

-- a line is judged by its reader, whatever the session had
judged_as : (t : State) (e : lines.Read) → judged_in (read_by t e) ≡ ended_by t e
unfolding judged stopped_by line_obeyed
judged_as t e = refl

read_as : (h : Held) (r : Reader) (ys : List ℕ) (e : lines.Read) → lines.Reads e r ys → state_in (with_read h r ys) ≡ read_by (state_in h) e
read_as h r ys e x = λ i. read_by (state_in h) (record { reader = x.reader i; bytes = x.bytes i })

pub fed_end : (h : Held) (c : ℕ) (r : Reader) (ys : List ℕ) (k : Held) → h.session.stopped ≡ false → c ≡ 10
    → lines.Reads (lines.end h.session.reader h.bytes.now) r ys
    → Runs judged_in (with_read h r ys) k
    → Runs (λ t. fed t c) h k
unfolding line_ended
fed_end h c r ys k w e x p =
    let t = state_in h in
    let end = lines.end h.session.reader h.bytes.now in
    (p.0, p.1 ∙ ap judged_in (read_as h r ys end x) ∙ judged_as t end ∙ sym (fed_when t c false true w (eq-eqb c 10 e)))

pub fed_on : (h : Held) (c : ℕ) (r : Reader) (ys : List ℕ) → h.session.stopped ≡ false → (c ≡ 10 → ⊥)
    → lines.Reads (lines.read h.session.reader c h.bytes.now) r ys
    → Runs (λ t. fed t c) h (with_read h r ys)
fed_on h c r ys w e x =
    let t = state_in h in
    ((((refl, refl, refl), refl), refl), read_as h r ys (lines.read h.session.reader c h.bytes.now) x ∙ sym (fed_when t c false false w (ne_eqb c 10 e)))

-- ---- a stretch

-- a stretch after a stretch is both at once
pub ran_append : (t : State) (xs ys : List ℕ) → ran (ran t xs) ys ≡ ran t (xs ++ ys)
unfolding ran
ran_append t [] ys = refl
ran_append t (x ∷ xs) ys = ran_append (fed t x) xs ys

-- one character more
ran_take : (t : State) (xs : List ℕ) (i : ℕ) → i < length xs → fed (ran t (take i xs)) (get_or xs i 0) ≡ ran t (take (suc i) xs)
unfolding ran
ran_take t [] i h = absurd (omega arith)
ran_take t (x ∷ xs) zero h = refl
ran_take t (x ∷ xs) (suc i) h = ran_take (fed t x) xs i (omega arith)

pub ran_none : (xs : List ℕ) (h : Held) → Runs (λ t. ran t (take 0 xs)) h h
unfolding ran
ran_none xs h = ((((refl, refl, refl), refl), refl), refl)

pub ran_more : (xs : List ℕ) (i : ℕ) (h k j : Held) → i < length xs → Runs (λ t. ran t (take i xs)) h k → Runs (λ t. fed t (get_or xs i 0)) k j
    → Runs (λ t. ran t (take (i + 1) xs)) h j
ran_more xs i h k j l p q =
    let n : suc i ≡ i + 1 = omega arith in
    runs_is (λ t. fed (ran t (take i xs)) (get_or xs i 0)) (λ t. ran t (take (i + 1) xs)) h j
    (ran_take (state_in h) xs i l ∙ ap (λ (m : ℕ). ran (state_in h) (take m xs)) n)
    (in_turn (λ t. ran t (take i xs)) (λ t. fed t (get_or xs i 0)) h k j p q)

pub ran_all : (xs : List ℕ) (i : ℕ) (h k : Held) → i ≡ length xs → Runs (λ t. ran t (take i xs)) h k → Runs (λ t. ran t xs) h k
ran_all xs i h k l p =
    runs_is (λ t. ran t (take i xs)) (λ t. ran t xs) h k
    (ap (λ (ys : List ℕ). ran (state_in h) ys) (ap (λ (m : ℕ). take m xs) l ∙ take-length xs)) p
