-- A call that is not refused, as the laws of this crate take it: 01, "Calls, lent areas, refusals". Assumes nothing.
use Rattle.std.specs.Prelude.{◌≡◌, true, List, ℕ}
use Rattle.image.specs.Ranges.{in_range}
use Rattle.chip.specs.World.{World, Ran}
use Rattle.calls.specs.Calls.{Areas, refusal_of, on_bytes, called_by}
use Rattle.frames.specs.Arrival.{RightLengths}

-- the areas are a world's: its record is the image of a state in range, the lengths are right, and the call leaves what it leaves of that world
pub record Runs (a : Areas) (f : List ℕ) : Type 0 where
  pub world : World
  pub memory : world.memory ≡ a.memory
  pub holding : world.holding ≡ a.holding
  pub outgoing : world.outgoing ≡ a.outgoing
  pub range : in_range world.device ≡ true
  pub lent : RightLengths world f
  pub runs : (run : World → Ran) → called_by (refusal_of a f) run a ≡ on_bytes (run world)
