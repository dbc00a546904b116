-- What the host sees of the command unit's services: 01, "The SCB": status is kept in the record; it is written, as the last write, at every turn
-- that raises an event or changes a unit's state; an edge is reported when an event is raised, again included. And the frames. Assumes nothing.
use Rattle.std.specs.Prelude.{◌≡◌, true, ◌||◌, List, [], ◌∷◌, ◌++◌, ℕ}
use Rattle.memory.specs.Memory.{apply}
use Rattle.scb.specs.Words.{no_events, raise, any_of}
use Rattle.scb.specs.declared.Events.{Events}
use Rattle.command.specs.Part.{part_of}
use Rattle.command.specs.Service.{service}
use Rattle.chip.specs.Call.{turn, ran}
use Rattle.chip.specs.Turn.{changes, status_by}
use Rattle.chip.specs.World.{World, Ran}
use Rattle.traces.specs.Event.{Event, step, is_turn, report}
use Rattle.lists.specs.Unit.{Note, began, ended, note_by, command_next}

-- ---- the interrupt and the SCB's status

-- the events that a service raises, by what it notes: an end raises events, and nothing else does
abbrev pub raised_of : List Note → Events
raised_of [] = no_events
raised_of (began c ∷ ns) = raised_of ns
raised_of (ended c status frames raised ∷ ns) = raised

abbrev pub raised_at : (line : ℕ) → World → Events
raised_at line w = raised_of (note_by w.device.units.cu (part_of w.device w.outgoing) w.memory line)

-- a turn that goes to the command unit, with the line report given, in the world w; r is what the call comes to
pub record Seen (line : ℕ) (w : World) (r : Ran) : Type 0 where
  -- an edge is reported when an event is raised
  pub edge : r.outcome.answer.edge ≡ any_of (raised_at line w)
  -- the events that were raised are set in the record
  pub events : r.outcome.device.units.events ≡ raise w.device.units.events (raised_at line w)
  -- the service's writes and, as the last, the status: those events and both units' states, if an event is raised or a unit's state changes
  pub memory :
      let after = r.outcome.device.units in
      r.memory
      ≡ apply ((service (part_of w.device w.outgoing) w.memory line).writes
      ++ status_by (any_of (raised_at line w) || changes w.device.units after) after) w.memory

-- so at every turn of a trace that goes to the command unit
abbrev pub AllSeen : List Event → World → Type 0
AllSeen [] w = Unit {0}
AllSeen (e ∷ es) w =
    (is_turn e ≡ true → command_next w.device.units ≡ true → Seen (report e) w (ran (turn (report e)) w)) × AllSeen es (step e w)

-- ---- the frames that are noted as sent, in order

abbrev pub frames_of : List Note → List (List ℕ)
frames_of [] = []
frames_of (began c ∷ ns) = frames_of ns
frames_of (ended c status frames raised ∷ ns) = frames ++ frames_of ns
