-- A turn: 01, "Turns". Assumes nothing.
use Rattle.std.specs.Prelude.{Bool, true, false, not, ◌&&◌, ◌||◌, List, [], ◌∷◌, ◌++◌, ℕ, eqb, Option, Some, None}
use Rattle.memory.specs.Memory.{Write, apply}
use Rattle.scb.specs.Words.{raise, any_of, cu_number, ru_number}
use Rattle.scb.specs.declared.Events.{Events}
use Rattle.device.specs.Answers.{answered, Outcome, outcome_of}
use Rattle.device.specs.Change.{with_ru, with_events, served_ru, with_units}
use Rattle.device.specs.State.{cu_state, ru_state, cu_works, ru_works}
use Rattle.device.specs.declared.Device.{Device}
use Rattle.device.specs.declared.Fate.{Fate}
use Rattle.device.specs.declared.Units.{Units}
use Rattle.command.specs.Part as command
use Rattle.command.specs.Service as command_service
use Rattle.receive.specs.Part as receive
use Rattle.receive.specs.Service as receive_service
use Rattle.chip.specs.declared.Unit.{Unit}
use Rattle.chip.specs.declared.Unit.TheVariants as unit
use Rattle.attention.specs.Status.{status_to}
use Rattle.chip.specs.World.{World, Ran, writing}

-- ---- which unit is served

-- if both have work, the unit not served at the last working turn is served
abbrev pub served_by : (cu_works ru_works rulast : Bool) → Option Unit
served_by false false rulast = None
served_by true false rulast = Some unit.Command
served_by false true rulast = Some unit.Receive
served_by true true true = Some unit.Command
served_by true true false = Some unit.Receive

-- RU has work while a frame is held, CU while Active
abbrev pub served_of : Units → Option Unit
served_of u = served_by (cu_works u.cu) (ru_works u.ru) u.rulast

-- the command unit is the one served; the receive unit is
abbrev pub is_command : Option Unit → Bool
is_command None = false
is_command (Some unit.Command) = true
is_command (Some unit.Receive) = false

abbrev pub is_receive : Option Unit → Bool
is_receive None = false
is_receive (Some unit.Command) = false
is_receive (Some unit.Receive) = true

-- ---- what every working turn does with a service

-- the events that were raised are set
abbrev pub raised_in : Units → Events → Units
raised_in u raised = with_events u (raise u.events raised)

-- a unit's state, CUS or RUS, is another than before
abbrev pub changes : (before after : Units) → Bool
changes before after =
    not (eqb (cu_number (cu_state before.cu)) (cu_number (cu_state after.cu)) && eqb (ru_number (ru_state before.ru)) (ru_number (ru_state after.ru)))

-- status is, as the last write, written at every turn that raises an event or changes a unit's state
abbrev pub status_by : (due : Bool) → Units → List Write
status_by true u = status_to u ∷ []
status_by false u = []

abbrev pub written : (before : Units) → List Write → Events → (after : Units) → List Write
written before writes raised after = writes ++ status_by (any_of raised || changes before after) (raised_in after raised)

-- the outcome of a working turn: an edge is reported when an event is raised, again included
unfoldable pub concluded : Device → Units → Events → ℕ → List Fate → Outcome
concluded d u raised length fs = outcome_of (with_units d (raised_in u raised)) (answered length (any_of raised)) fs

-- ---- the command unit is served

abbrev pub command_units : Device → command.Service → Units
command_units d s = served_ru (command.with_part d s.part).units false

unfoldable pub command_turn : World → ℕ → Ran
command_turn w report =
    let s = command_service.service (command.part_of w.device w.outgoing) w.memory report in
    record {
      outcome = concluded (command.with_part w.device s.part) (command_units w.device s) s.raised s.length [];
      memory = apply (written w.device.units s.writes s.raised (command_units w.device s)) w.memory;
      holding = w.holding;
      outgoing = s.part.outgoing;
    }

-- ---- the receive unit is served

abbrev pub receive_units : Device → receive.Service → Units
receive_units d s = served_ru (with_ru d.units s.unit) true

unfoldable pub receive_turn : World → Ran
receive_turn w =
    let s = receive_service.service (receive.part_of w.device.units w.holding) w.memory in
    writing w (written w.device.units s.writes s.raised (receive_units w.device s))
    (concluded w.device (receive_units w.device s) s.raised 0 s.fates)

-- ---- a turn

-- with no work a turn changes nothing
abbrev pub turn_by : Option Unit → World → ℕ → Ran
turn_by None w report = writing w [] (outcome_of w.device (answered 0 false) [])
turn_by (Some unit.Command) w report = command_turn w report
turn_by (Some unit.Receive) w report = receive_turn w

unfoldable pub turn_of : World → ℕ → Ran
turn_of w report = turn_by (served_of w.device.units) w report
