-- Runs of turns: the laws that a loop with a count uses, how many turns a run takes, and that the turns before the last have nothing to tell.
-- Assumes nothing.
use mathlib.Core.Path.{◌≡◌, refl, sym, ap, ◌∙◌}
use mathlib.Core.Bool.{Bool, true, false, not, ◌||◌, true≢false, false≢true}
use mathlib.Core.List.{List, []}
use Prim.Native.Nat.{ℕ, zero, suc, ◌+◌, ◌-◌, ◌≤◌, ◌<◌}
use native.Mathlib.Omega.{arith}
use borrow.Author.Tests.{eqb-true, eqb-false, not-false}
use lib.Dec.{eqb}
use Rattle.std.specs.Prelude.{Option, Some, None}
use Rattle.memory.specs.Memory.{Write}
use Rattle.memory.specs.declared.Offset.{Offset}
use Rattle.scb.specs.Words.{any_of}
use Rattle.device.specs.Answers.{answered, is_stored}
use Rattle.device.specs.State.{is_holding, cu_works, ru_works}
use Rattle.device.specs.declared.Answer.{Answer}
use Rattle.device.specs.declared.Fate.TheVariants as fate
use Rattle.device.specs.declared.Ru.{Ru}
use Rattle.device.specs.declared.Ru.TheVariants as ru
use Rattle.device.specs.declared.Storing.{Storing}
use Rattle.receive.specs.Part as receive
use Rattle.receive.specs.Begin as receive_begin
use Rattle.receive.specs.Buffer as receive_buffer
use Rattle.receive.specs.End as endings
use Rattle.receive.specs.Service as receive_service
use Rattle.chip.specs.World.{World, Ran, afterwards}
use Rattle.chip.specs.declared.Unit.{Unit}
use Rattle.chip.specs.declared.Unit.TheVariants as unit
use Rattle.chip.specs.Turn.{served_by, served_of, concluded, command_turn, receive_turn, turn_by, turn_of}
use Rattle.chip.specs.Run.{tells, stops, stops_at, Run, no_turn, last_turn, one_more, continued, run_of, run_from}

-- ---- which turns end a run

or_false : (x y : Bool) → (x || y) ≡ false → (x ≡ false) × (y ≡ false)
or_false true y e = absurd (true≢false e)
or_false false y e = (refl, e)

quiet : (n : ℕ) (e : Bool) → tells (answered n e) ≡ false → answered n e ≡ answered 0 false
quiet n e h =
    let b = or_false (not (eqb n 0)) e h in
    let z : n ≡ 0 = eqb-true n 0 (not-false (eqb n 0) b.0) in
    rw (z, b.1)

going_by : (s : Option Unit) (w : World) (report : ℕ) → stops s (turn_by s w report).outcome.answer ≡ false
    → (turn_by s w report).outcome.answer ≡ answered 0 false
unfolding stops command_turn receive_turn concluded
going_by None w report h = refl
going_by (Some unit.Command) w report h = quiet _ _ h
going_by (Some unit.Receive) w report h = quiet _ _ h

-- a turn that does not end a run has nothing to tell: number 0, length 0, no edge
pub going_quiet : (w : World) (report : ℕ) → stops_at w report ≡ false → (turn_of w report).outcome.answer ≡ answered 0 false
unfolding turn_of
going_quiet w report s = going_by (served_of w.device.units) w report s

-- nor does it make anything of a held frame: an end raises FR, or RNR, and so reports an edge
goes_raises : (x : Bool) (p : receive.Part) (s : Storing) (free : Offset) (ws : List Write) (m : List ℕ)
    → any_of (endings.proceeds x p s free fate.Stored ws m).raised ≡ true
unfolding any_of
goes_raises true p s free ws m = refl
goes_raises false p s free ws m = refl

rnr_raises : (x : Bool) → (false || x || false || true) ≡ true
rnr_raises true = refl
rnr_raises false = refl

ru_fate : (u : Ru) (p : receive.Part) (m : List ℕ) → is_holding u ≡ true → any_of (receive_service.service_by u p m).raised ≡ false
    → (receive_service.service_by u p m).fates ≡ []
unfolding any_of receive_begin.begin receive_buffer.buffer endings.close endings.lack
ru_fate ru.Idle p m a h = refl
ru_fate ru.NoResources p m a h = refl
ru_fate (ru.Suspended o) p m a h = refl
ru_fate (ru.Ready o) p m a h = refl
ru_fate (ru.Held o f q) p m a h = refl
ru_fate (ru.Filling s w) p m a h = refl
ru_fate (ru.Closing s free full) p m a h =
    absurd (true≢false (sym (goes_raises (s.el || full) p s free (endings.settles false p s m) m) ∙ h))
ru_fate (ru.Lacking s) p m a h = absurd (true≢false (sym (rnr_raises (is_stored (endings.fate_of true s.frame))) ∙ h))

receive_fate : (w : World) → is_holding w.device.units.ru ≡ true → tells (receive_turn w).outcome.answer ≡ false
    → (receive_turn w).outcome.fates ≡ []
unfolding receive_turn concluded receive_service.service
receive_fate w a h =
    ru_fate w.device.units.ru (receive.part_of w.device.units w.holding) w.memory a h

fate_by_lem : (c r l : Bool) (w : World) (report : ℕ) → is_holding w.device.units.ru ≡ r
    → stops (served_by c r l) (turn_by (served_by c r l) w report).outcome.answer ≡ false
    → (turn_by (served_by c r l) w report).outcome.fates ≡ []
unfolding stops command_turn concluded
fate_by_lem false false l w report a s = refl
fate_by_lem true false l w report a s = refl
fate_by_lem false true l w report a s = receive_fate w a s
fate_by_lem true true true w report a s = refl
fate_by_lem true true false w report a s = receive_fate w a s

pub going_fate : (w : World) (report : ℕ) → stops_at w report ≡ false → (turn_of w report).outcome.fates ≡ []
unfolding turn_of
going_fate w report s =
    fate_by_lem (cu_works w.device.units.cu) (ru_works w.device.units.ru) w.device.units.rulast w report refl s

told_by_lem : (s : Bool) (w : World) (report : ℕ) → stops_at w report ≡ s → ((turn_of w report).outcome.answer ≡ answered 0 false → ⊥) → s ≡ true
told_by_lem true w report e t = refl
told_by_lem false w report e t = absurd (t (going_quiet w report e))

-- a turn that sent a frame ends it, and so does one that reported an edge
pub sent_stops : (w : World) (report : ℕ) → ((turn_of w report).outcome.answer.length ≡ 0 → ⊥) → stops_at w report ≡ true
sent_stops w report n = told_by_lem (stops_at w report) w report refl (λ e. n (ap (λ (a : Answer). a.length) e))

pub edge_stops : (w : World) (report : ℕ) → (turn_of w report).outcome.answer.edge ≡ true → stops_at w report ≡ true
edge_stops w report t = told_by_lem (stops_at w report) w report refl (λ e. true≢false (sym t ∙ ap (λ (a : Answer). a.edge) e))

-- and one that had no work (`unchanged_stops`); no other does
pub data Cause (w : World) (r : Ran) : Type 0 where
  sent : (r.outcome.answer.length ≡ 0 → ⊥) → Cause w r
  edge : r.outcome.answer.edge ≡ true → Cause w r
  workless : r.outcome.device ≡ w.device → Cause w r

told_cause : (z e : Bool) (w : World) (r : Ran) → eqb r.outcome.answer.length 0 ≡ z → r.outcome.answer.edge ≡ e → (not z || e) ≡ true
    → Cause w r
told_cause false e w r a b h = sent (eqb-false _ _ a)
told_cause true true w r a b h = edge b
told_cause true false w r a b h = absurd (false≢true h)

tells_cause : (w : World) (r : Ran) → tells r.outcome.answer ≡ true → Cause w r
tells_cause w r h = told_cause (eqb r.outcome.answer.length 0) r.outcome.answer.edge w r refl refl h

cause_by : (s : Option Unit) (w : World) (report : ℕ) → stops s (turn_by s w report).outcome.answer ≡ true → Cause w (turn_by s w report)
unfolding stops
cause_by None w report h = workless refl
cause_by (Some unit.Command) w report h = tells_cause w (command_turn w report) h
cause_by (Some unit.Receive) w report h = tells_cause w (receive_turn w) h

pub stops_cause : (w : World) (report : ℕ) → stops_at w report ≡ true → Cause w (turn_of w report)
unfolding turn_of
stops_cause w report s = cause_by (served_of w.device.units) w report s

-- ---- turn by turn, from the front

-- budget 0 takes none
pub run_none : (w : World) (report : ℕ) → run_of 0 w report ≡ no_turn w
unfolding run_of
run_none w report = refl

pub run_stops : (n : ℕ) (w : World) (report : ℕ) → stops_at w report ≡ true → run_of (suc n) w report ≡ last_turn (turn_of w report)
unfolding run_of
run_stops n w report s = rw s

pub run_goes : (n : ℕ) (w : World) (report : ℕ) → stops_at w report ≡ false
    → run_of (suc n) w report ≡ one_more (run_of n (afterwards (turn_of w report)) report)
unfolding run_of
run_goes n w report s = rw s

one_by : (s : Bool) (w : World) (report : ℕ) → stops_at w report ≡ s
    → continued s (turn_of w report) (no_turn (afterwards (turn_of w report))) ≡ last_turn (turn_of w report)
one_by true w report e = refl
one_by false w report e = rw (going_quiet w report e)

-- budget 1 is a turn
pub run_one : (w : World) (report : ℕ) → run_of 1 w report ≡ last_turn (turn_of w report)
unfolding run_of
run_one w report = one_by (stops_at w report) w report refl

-- ---- for a loop that counts the turns taken: what is left of the run, so many having been taken

counted : (r : Run) (t : ℕ) → t ≡ r.taken → record { world = r.world; answer = r.answer; taken = t } ≡ r
counted r t e = rw e

-- at the start none is
pub from_start : (n : ℕ) (w : World) (report : ℕ) → run_from 0 n w report ≡ run_of n w report
unfolding run_from
from_start n w report = counted (run_of n w report) (0 + (run_of n w report).taken) (omega arith)

-- no budget is left
pub from_none : (k : ℕ) (w : World) (report : ℕ) → run_from k 0 w report ≡ record { world = w; answer = answered 0 false; taken = k }
unfolding run_from run_of
from_none k w report = counted (record { world = w; answer = answered 0 false; taken = k }) (k + 0) (omega arith)

-- a turn that ends the run
pub from_stops : (k n : ℕ) (w : World) (report : ℕ) → 0 < n → stops_at w report ≡ true
    → run_from k n w report ≡ record { world = afterwards (turn_of w report); answer = (turn_of w report).outcome.answer; taken = k + 1 }
unfolding run_from run_of
from_stops k zero w report l s = absurd (omega arith)
from_stops k (suc n) w report l s = rw s

-- a turn that does not
pub from_goes : (k n : ℕ) (w : World) (report : ℕ) → 0 < n → stops_at w report ≡ false
    → run_from k n w report ≡ run_from (k + 1) (n - 1) (afterwards (turn_of w report)) report
unfolding run_from run_of
from_goes k zero w report l s = absurd (omega arith)
from_goes k (suc n) w report l s =
    let rest = run_of n (afterwards (turn_of w report)) report in
    let more : k + suc rest.taken ≡ k + 1 + rest.taken = omega arith in
    let less : suc n - 1 ≡ n = omega arith in
    rw (s, less, more)

-- ---- how many turns

most_by : (s : Bool) (n : ℕ) (r : Ran) (rest : Run) → rest.taken ≤ n → (continued s r rest).taken ≤ suc n
most_by true n r rest l = omega arith
most_by false n r rest l = omega arith

-- no more than the budget
pub run_most : (n : ℕ) (w : World) (report : ℕ) → (run_of n w report).taken ≤ n
unfolding run_of
run_most zero w report = omega arith
run_most (suc n) w report =
    most_by (stops_at w report) n (turn_of w report) (run_of n (afterwards (turn_of w report)) report) (run_most n (afterwards (turn_of w report)) report)

some_by : (s : Bool) (r : Ran) (rest : Run) → (continued s r rest).taken ≡ 0 → ⊥
some_by true r rest e = omega arith
some_by false r rest e = omega arith

-- none only if the budget is 0
pub run_some : (n : ℕ) (w : World) (report : ℕ) → (run_of n w report).taken ≡ 0 → n ≡ 0
unfolding run_of
run_some zero w report e = refl
run_some (suc n) w report e =
    absurd (some_by (stops_at w report) (turn_of w report) (run_of n (afterwards (turn_of w report)) report) e)
