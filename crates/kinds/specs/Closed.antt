-- Closure, as a premise: what is left by a call that is not refused is in range again, in areas as long as before. Assumes nothing.
use Rattle.std.specs.Prelude.{◌≡◌, true}
use Rattle.image.specs.Ranges.{in_range, Wide}
use Rattle.chip.specs.World.{World, afterwards}
use Rattle.chip.specs.Call.{Call, ran}
use Rattle.traces.specs.Areas.{Hosted}
use Rattle.closure.specs.Refusals.{FrameRight}
use Rattle.kinds.specs.Chips.{Given}

-- a state in range, and areas of bytes of the right lengths
pub record Right (w : World) : Type 0 where
  pub areas : Hosted w.memory w.holding w.outgoing
  pub wide : Wide w.device
  pub range : in_range w.device ≡ true

-- 01, "Calls, lent areas, refusals": docs/' ranges hold every state a call can leave
pub record Closed : Type 0 where
  pub each : (c : Call) (w : World) → Given c → FrameRight c → Right w → Right (afterwards (ran c w))
