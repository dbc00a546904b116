-- What happens to the chip's state: the four calls, and what the host does between them; and what may happen. Assumes nothing.
use Rattle.std.specs.Prelude.{◌≡◌, Bool, true, false, List, [], ◌∷◌, ℕ}
use Rattle.chip.specs.World.{World, world_of, afterwards}
use Rattle.chip.specs.Call.{Call, reset, attention, arrive, turn, ran}
use Rattle.calls.specs.Calls.{answer_number}

-- a call; or the host leaves memory, holding area and outgoing area so, of any content and length. It keeps the record: no event but a call
-- changes the device
pub data Event : Type 0 where
  call : Call → Event
  host : List ℕ → List ℕ → List ℕ → Event

abbrev pub step : Event → World → World
step (call c) w = afterwards (ran c w)
step (host m h out) w = world_of w.device m h out

-- the turns, and the line report that each brings
abbrev pub is_turn : Event → Bool
is_turn (call reset) = false
is_turn (call attention) = false
is_turn (call (arrive f v)) = false
is_turn (call (turn report)) = true
is_turn (host m h out) = false

abbrev pub report : Event → ℕ
report (call reset) = 0
report (call attention) = 0
report (call (arrive f v)) = 0
report (call (turn r)) = r
report (host m h out) = 0

-- the answers of the calls, as numbers
abbrev pub answers_of : List Event → World → List ℕ
answers_of [] w = []
answers_of (call c ∷ es) w = answer_number (ran c w).outcome.answer ∷ answers_of es (step (call c) w)
answers_of (host m h out ∷ es) w = answers_of es (step (host m h out) w)

-- ---- which events may occur: a predicate of the event and of the world in which it comes

-- neither an attention nor a reset
abbrev pub is_calm : Event → Bool
is_calm (call reset) = false
is_calm (call attention) = false
is_calm (call (arrive f v)) = true
is_calm (call (turn r)) = true
is_calm (host m h out) = true

abbrev pub Calm : Event → World → Type 0
Calm e w = is_calm e ≡ true

-- the host keeps the outgoing area. That it keeps N is asked with the bytes of a list, and the record is kept by every event but a call
abbrev pub KeepsOutgoing : Event → World → Type 0
KeepsOutgoing (call c) w = Unit {0}
KeepsOutgoing (host m h out) w = out ≡ w.outgoing

-- what may come while a command list is run, and what while a frame is held
abbrev pub DuringList : Event → World → Type 0
DuringList e w = Calm e w × KeepsOutgoing e w

abbrev pub WhileHeld : Event → World → Type 0
WhileHeld e w = Calm e w
