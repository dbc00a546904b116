-- Calls that are not refused: on areas of bytes of the right lengths with the record of a state; what they leave is so again. Assumes nothing.
use mathlib.Core.Path.{◌≡◌, sym, ap, ◌∙◌, subst}
use mathlib.Core.Bool.{false, not}
use lib.ListN.{length}
use borrow.Author.Tests.{eq-eqb}
use Rattle.memory.specs.Size.{Allowed}
use Rattle.device.specs.Limits.{holding_size, outgoing_size}
use Rattle.device.specs.declared.Device.{Device}
use Rattle.chip.specs.Call.{Call, reset, attention, arrive, turn, ran}
use Rattle.calls.specs.Calls.{Areas}
use Rattle.traces.specs.Bytes.{called, number, is_refused}
use Rattle.traces.specs.Areas.{FrameBytes, AreBytes, Holds, world_in}
use Rattle.closure.specs.Refusals.{FrameRight}
use Rattle.closure.proofs.Refusals.{table, AllRight, Unrefused, gives_none}
use Rattle.closure.proofs.Carried.{carry, holds_length, lent_kept, areas_as_long}

-- areas that no call refuses, if its frame is not too long
pub record Right (a : Areas) (d : Device) : Type 0 where
  pub bytes : AreBytes a
  pub holds : Holds a.kept d
  pub size : Allowed (length a.memory)
  pub holding : length a.holding ≡ holding_size
  pub outgoing : length a.outgoing ≡ outgoing_size

all_right_lem : (c : Call) (a : Areas) (d : Device) → Right a d → FrameRight c → AllRight c a
all_right_lem c a d r f =
    record {
      size = r.size;
      kept = holds_length a.kept d r.holds;
      holding = r.holding;
      outgoing = r.outgoing;
      frame = f;
      image = (d, r.holds);
    }

unrefused : (c : Call) (a : Areas) (d : Device) → Right a d → FrameRight c → Unrefused c a
unrefused reset a d r f = holds_length a.kept d r.holds
unrefused attention a d r f = all_right_lem attention a d r f
unrefused (arrive x v) a d r f = all_right_lem (arrive x v) a d r f
unrefused (turn report) a d r f = all_right_lem (turn report) a d r f

pub accepts : (c : Call) (a : Areas) (d : Device) → Right a d → FrameRight c → is_refused (called c a) ≡ false
accepts c a d r f =
    ap not (eq-eqb (number (called c a).answer) 0 ((table c a r.bytes.kept 0).1 (gives_none c a (unrefused c a d r f))))

-- what such a call leaves is so again
pub right_again : (c : Call) (a : Areas) (d : Device) → Right a d → FrameBytes c → FrameRight c
    → Right (called c a).areas (ran c (world_in d a)).outcome.device
right_again c a d r f l =
    let long = areas_as_long c a f r.bytes in
    record {
      bytes = lent_kept c a f r.bytes;
      holds = (carry c a d f r.bytes r.holds (accepts c a d r l)).holds;
      size = subst Allowed (sym long.memory) r.size;
      holding = long.holding ∙ r.holding;
      outgoing = long.outgoing ∙ r.outgoing;
    }
