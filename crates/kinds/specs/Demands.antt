-- Demands 1 and 2, of an arbitrary chip. Assumes nothing.
use Rattle.std.specs.Prelude.{◌≡◌, true, not, List, ℕ, ◌<◌, eqb, length, get_or}
use Rattle.memory.specs.Size.{Allowed}
use Rattle.scb.specs.Words.{any_of}
use Rattle.device.specs.Limits.{holding_size, outgoing_size, record_size}
use Rattle.device.specs.State.{fresh}
use Rattle.device.specs.declared.Device.{Device}
use Rattle.image.specs.Image.{image_of}
use Rattle.image.specs.Ranges.{in_range, Wide}
use Rattle.chip.specs.World.{Ran, world_of}
use Rattle.chip.specs.Call.{Call, reset, ran}
use Rattle.calls.specs.Calls.{Areas, Called, answer_number}
use Rattle.traces.specs.Areas.{shown}
use Rattle.traces.specs.Bytes.{number}
use Rattle.closure.specs.Refusals.{FrameRight, When, Untouched}
use Rattle.kinds.specs.Chips.{Chip, Handed}

-- ---- demand 1

-- each number is given exactly when the table says, which is true of one of its numbers or of 0; a refused call leaves all as it was
pub record Tabled (c : Call) (a : Areas) (r : Called) : Type 0 where
  pub given : (n : ℕ) → When n c a → number r.answer ≡ n
  pub only : (n : ℕ) → number r.answer ≡ n → When n c a
  pub refused : 0 < number r.answer → Untouched a r

pub record Demand1 (chip : Chip) : Type 0 where
  pub each : (s : chip.Inner) (c : Call) (a : Areas) → Handed c a → Tabled c a (chip.calls s c a)

-- ---- demand 2: after each call that is not refused, memory, areas, record and answer are what the definitions say of the state

-- a state in range, in areas of the right lengths: such a call is not refused
pub record Acceptable (c : Call) (d : Device) (m h out : List ℕ) : Type 0 where
  pub size : Allowed (length m)
  pub holding : length h ≡ holding_size
  pub outgoing : length out ≡ outgoing_size
  pub frame : FrameRight c
  pub wide : Wide d
  pub range : in_range d ≡ true

abbrev pub lent_of : Device → List ℕ → List ℕ → List ℕ → Areas
lent_of d m h out = shown (world_of d m h out)

-- answer and every lent byte; the interrupt is high while byte 5 of the record is not 0
pub record AsDefined (said : Ran) (r : Called) : Type 0 where
  pub answer : r.answer ≡ answer_number said.outcome.answer
  pub memory : r.areas.memory ≡ said.memory
  pub holding : r.areas.holding ≡ said.holding
  pub outgoing : r.areas.outgoing ≡ said.outgoing
  pub kept : r.areas.kept ≡ image_of said.outcome.device
  pub interrupt : not (eqb (get_or r.areas.kept 5 0) 0) ≡ any_of said.outcome.device.units.events

pub record Demand2 (chip : Chip) : Type 0 where
  pub each : (s : chip.Inner) (c : Call) (d : Device) (m h out : List ℕ) → Acceptable c d m h out → Handed c (lent_of d m h out)
      → AsDefined (ran c (world_of d m h out)) (chip.calls s c (lent_of d m h out))
  -- reset ignores the record's content
  pub renewed : (s : chip.Inner) (a : Areas) → Handed reset a → length a.kept ≡ record_size
      → AsDefined (ran reset (world_of fresh a.memory a.holding a.outgoing)) (chip.calls s reset a)
