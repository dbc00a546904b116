-- What every call keeps: a state in range, in areas of bytes. 01, "Calls, lent areas, refusals": docs/' ranges hold every state a call can leave.
-- Assumes nothing.
use Rattle.std.specs.Prelude.{◌≡◌, true, length}
use Rattle.memory.proofs.Bytes.{Bytes}
use Rattle.image.specs.Ranges.{in_range, Wide}
use Rattle.chip.specs.World.{World, Ran}

-- the state is in range, and every element of the three areas is a byte
pub record Sound (w : World) : Type 0 where
  pub range : in_range w.device ≡ true
  pub wide : Wide w.device
  pub memory : Bytes w.memory
  pub holding : Bytes w.holding
  pub outgoing : Bytes w.outgoing

-- a call leaves the three areas as long as they were
pub record SameLengths (w : World) (r : Ran) : Type 0 where
  pub memory : length r.memory ≡ length w.memory
  pub holding : length r.holding ≡ length w.holding
  pub outgoing : length r.outgoing ≡ length w.outgoing
