-- One event with a frame held: what it makes of the frame. Assumes nothing.
use mathlib.Core.Path.{◌≡◌, refl}
use mathlib.Core.Bool.{Bool, true, false, true≢false, false≢true}
use mathlib.Core.List.{List, [], ◌∷◌}
use Prim.Native.Nat.{ℕ}
use lib.Dec.{ltb}
use lib.ListN.{length}
use Rattle.std.specs.Prelude.{Option, Some, None}
use Rattle.device.specs.Header.{header}
use Rattle.device.specs.State.{is_holding, held_in, cu_works, ru_works}
use Rattle.device.proofs.Laws.{some_held}
use Rattle.device.specs.Answers.{is_held}
use Rattle.device.specs.declared.Frame.{Frame}
use Rattle.device.specs.declared.Ru.{Ru}
use Rattle.device.specs.declared.Ru.TheVariants as ru
use Rattle.device.specs.declared.Units.{Units}
use Rattle.filter.specs.Match.{matches}
use Rattle.receive.specs.Part as receive
use Rattle.receive.specs.Service as receive_service
use Rattle.receive.specs.Arrival as arrivals
use Rattle.chip.specs.World.{World, Ran}
use Rattle.chip.specs.Arrival as chip_arrival
use Rattle.chip.specs.declared.Unit.{Unit}
use Rattle.chip.specs.declared.Unit.TheVariants as unit
use Rattle.chip.specs.Turn.{served_by, served_of, is_receive, concluded, command_turn, receive_turn, turn_by, turn_of}
use Rattle.held.specs.Held.{frames_in}
use Rattle.held.proofs.Service.{left_of, Serving, serves}

pub holding : (u : Ru) (f : Frame) → held_in u ≡ f ∷ [] → is_holding u ≡ true
holding u f e = some_held u f [] e

-- ---- the two turns

-- a turn that goes to the receive unit
pub receives : (w : World) → is_holding w.device.units.ru ≡ true
    → Serving (frames_in w) (left_of w.device.units.ru) (receive_turn w).outcome.device.units.ru (receive_turn w).outcome.fates
unfolding receive_turn concluded receive_service.service
receives w h = serves w.device.units.ru (receive.part_of w.device.units w.holding) w.memory h

pub receive_last : (w : World) → (receive_turn w).outcome.device.units.rulast ≡ true
unfolding receive_turn concluded
receive_last w = refl

-- a turn that goes to the command unit leaves the receive unit as it was
pub record Passes (w : World) (r : Ran) : Type 0 where
  pub unit : r.outcome.device.units.ru ≡ w.device.units.ru
  pub fates : r.outcome.fates ≡ []
  pub last : r.outcome.device.units.rulast ≡ false

pub passes : (w : World) (report : ℕ) → Passes w (command_turn w report)
unfolding command_turn concluded
passes w report = record { unit = refl; fates = refl; last = refl }

-- ---- a turn, by the unit that is served

-- the receive unit is the one served
abbrev pub is_receiving : Units → Bool
is_receiving u = is_receive (served_of u)

received_by : (s : Option Unit) (w : World) (report : ℕ) → is_receive s ≡ true → turn_by s w report ≡ receive_turn w
received_by None w report h = absurd (false≢true h)
received_by (Some unit.Command) w report h = absurd (false≢true h)
received_by (Some unit.Receive) w report h = refl

pub turn_received : (w : World) (report : ℕ) → is_receiving w.device.units ≡ true → turn_of w report ≡ receive_turn w
unfolding turn_of
turn_received w report h = received_by (served_of w.device.units) w report h

-- with a frame held, the other unit is served only after the receive unit was
commanded_by : (c r l : Bool) (w : World) (report : ℕ) → r ≡ true → is_receive (served_by c r l) ≡ false
    → (turn_by (served_by c r l) w report ≡ command_turn w report) × (l ≡ true)
commanded_by c false l w report r h = absurd (false≢true r)
commanded_by false true l w report r h = absurd (true≢false h)
commanded_by true true true w report r h = (refl, refl)
commanded_by true true false w report r h = absurd (true≢false h)

pub turn_commanded : (w : World) (report : ℕ) → is_holding w.device.units.ru ≡ true → is_receiving w.device.units ≡ false
    → (turn_of w report ≡ command_turn w report) × (w.device.units.rulast ≡ true)
unfolding turn_of
turn_commanded w report r h =
    commanded_by (cu_works w.device.units.cu) (ru_works w.device.units.ru) w.device.units.rulast w report r h

pub passing : (w : World) (report : ℕ) → is_holding w.device.units.ru ≡ true → is_receiving w.device.units ≡ false → Passes w (turn_of w report)
passing w report h v = rw (turn_commanded w report h v).0 (passes w report)

-- ---- an arrival: a frame that is already held stays, and another one is not held

not_held : (few matched : Bool) (u : Ru) (f : Frame) → is_holding u ≡ true → is_held (arrivals.fate_by few matched u f) ≡ false
not_held true matched u f h = refl
not_held false false u f h = refl
not_held false true ru.Idle f h = absurd (false≢true h)
not_held false true ru.NoResources f h = absurd (false≢true h)
not_held false true (ru.Suspended fd) f h = absurd (false≢true h)
not_held false true (ru.Ready fd) f h = absurd (false≢true h)
not_held false true (ru.Held fd g p) f h = refl
not_held false true (ru.Filling t w) f h = refl
not_held false true (ru.Closing t free full) f h = refl
not_held false true (ru.Lacking t) f h = refl

unit_stays : (φ : Bool) (u : Ru) (f : Frame) → φ ≡ false → arrivals.unit_by φ u f ≡ u
unit_stays true u f h = absurd (true≢false h)
unit_stays false u f h = refl

pub arrival_unit : (w : World) (f : List ℕ) (v : ℕ) → is_holding w.device.units.ru ≡ true
    → (chip_arrival.arrival_of w f v).outcome.device.units.ru ≡ w.device.units.ru
unfolding chip_arrival.arrival_of chip_arrival.arrival arrivals.arrival arrivals.fate_of
arrival_unit w f v h =
    let u = w.device.units in
    let g = arrivals.judged u.settings f v in
    let few = ltb (length f) (header u.settings.form.length) in
    let matched = matches u.settings w.device.own w.device.filter f in
    unit_stays (is_held (arrivals.fate_by few matched u.ru g)) u.ru g (not_held few matched u.ru g h)

pub arrival_last : (w : World) (f : List ℕ) (v : ℕ) → (chip_arrival.arrival_of w f v).outcome.device.units.rulast ≡ w.device.units.rulast
unfolding chip_arrival.arrival_of
arrival_last w f v = refl
