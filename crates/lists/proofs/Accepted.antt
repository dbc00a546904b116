-- Calls that are not refused, one after the other. Assumes nothing.
use mathlib.Core.List.{List, [], ◌∷◌}
use Prim.Native.Nat.{ℕ}
use Rattle.device.specs.declared.Device.{Device}
use Rattle.chip.specs.Call.{ran}
use Rattle.calls.specs.Calls.{Areas, areas_of}
use Rattle.traces.specs.Bytes.{called}
use Rattle.traces.specs.Event.{Event, call, host}
use Rattle.traces.specs.Areas.{FrameBytes, Hosted, world_in}
use Rattle.closure.specs.Refusals.{FrameRight}
use Rattle.closure.proofs.Accepted.{Right, accepts, right_again}
use Rattle.lists.proofs.Lift.{Accepted}

-- ---- a trace that is not refused: frames of at most 2,048 bytes; the host leaves areas of bytes, as long as they must be

abbrev pub Rights : List Event → Type 0
Rights [] = Unit {0}
Rights (call c ∷ es) = (FrameBytes c × FrameRight c) × Rights es
Rights (host m h out ∷ es) = Hosted m h out × Rights es

host_right : (m h out : List ℕ) (a : Areas) (d : Device) → Hosted m h out → Right a d → Right (areas_of m h out a.kept) d
host_right m h out a d x r =
    record {
      bytes = record { memory = x.memory_bytes; holding = x.holding_bytes; outgoing = x.outgoing_bytes; kept = r.bytes.kept };
      holds = r.holds;
      size = x.size;
      holding = x.holding;
      outgoing = x.outgoing;
    }

pub all_accepted : (es : List Event) (a : Areas) (d : Device) → Right a d → Rights es → Accepted es a
all_accepted [] a d r x = tt
all_accepted (call c ∷ es) a d r x = (
  accepts c a d r x.0.1,
  (x.0.0, r.bytes),
  all_accepted es (called c a).areas (ran c (world_in d a)).outcome.device (right_again c a d r x.0.0 x.0.1) x.1,
)
all_accepted (host m h out ∷ es) a d r x = all_accepted es (areas_of m h out a.kept) d (host_right m h out a d x.0 r) x.1
