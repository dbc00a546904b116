-- What an arrival comes to, over the calls on bytes: each that is not refused answers and leaves what the definitions do, and these do with the frame what is
-- said of its class. Assumes nothing.
use mathlib.Core.Path.{◌≡◌}
use mathlib.Core.Bool.{false}
use mathlib.Core.List.{List}
use Prim.Native.Nat.{ℕ}
use Rattle.memory.proofs.Bytes.{Bytes}
use Rattle.memory.proofs.Power.{size_allowed_lem}
use Rattle.device.specs.declared.Device.{Device}
use Rattle.chip.specs.Call.{arrive}
use Rattle.calls.specs.Calls.{Areas}
use Rattle.traces.specs.Areas.{AreBytes, Holds, world_in}
use Rattle.traces.specs.Bytes.{called, is_refused}
use Rattle.closure.proofs.Carried.{carry, not_refused}
use Rattle.frames.specs.Arrival.{RightLengths}
use Rattle.frames.specs.OnBytes.{ArrivedOn}
use Rattle.frames.proofs.Arrival.{arrival_fate}

-- the lengths are right where the call is not refused
pub right_lengths : (a : Areas) (d : Device) (f : List ℕ) (v : ℕ) → AreBytes a → is_refused (called (arrive f v) a) ≡ false → RightLengths (world_in d a) f
right_lengths a d f v b e =
    let x = not_refused (arrive f v) a b.kept e in record { size = size_allowed_lem _ x.size; area = x.holding; frame = x.frame }

pub arrived_on : (a : Areas) (d : Device) (f : List ℕ) (v : ℕ) → AreBytes a → Bytes f → Holds a.kept d → is_refused (called (arrive f v) a) ≡ false
    → ArrivedOn a d f v
arrived_on a d f v b fb h e =
    record { said = (carry (arrive f v) a d fb b h e).same; fate = arrival_fate (world_in d a) f v (right_lengths a d f v b e) }
