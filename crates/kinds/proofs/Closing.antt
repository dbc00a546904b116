-- Every state that a call leaves is in range: the premise of demand 3's proof holds, and ours has demand 3. Assumes nothing.
use mathlib.Core.Path.{◌∙◌}
use mathlib.Core.List.{List, ◌∷◌}
use Prim.Native.Nat.{ℕ}
use Rattle.chip.specs.World.{World}
use Rattle.chip.specs.Call.{attention}
use Rattle.traces.specs.Event.{call, step}
use Rattle.lists.specs.Done.{enough, Done}
use Rattle.closure.proofs.Closed.{closed}
use Rattle.closure.proofs.Lengths.{lengths_kept}
use Rattle.kinds.specs.Chips.{Chip, ours, Meets, Act, does, events_in}
use Rattle.kinds.specs.Closed.{Closed}
use Rattle.kinds.specs.Third.{AsSaid, ResumedRun, Demand3}
use Rattle.kinds.specs.Kinds.{Wrong}
use Rattle.kinds.proofs.Third as third
use Rattle.kinds.proofs.Inspected as inspected

pub closing : Closed
closing =
    record {
      each =
          λ c w g f r.
          let s =
          closed c w g.frame
          (record {
            range = r.range;
            wide = r.wide;
            memory = r.areas.memory_bytes;
            holding = r.areas.holding_bytes;
            outgoing = r.areas.outgoing_bytes;
          })
          in
          let l = lengths_kept c w in
          record {
            areas =
                record {
                  size = rw l.memory r.areas.size;
                  holding = l.holding ∙ r.areas.holding;
                  outgoing = l.outgoing ∙ r.areas.outgoing;
                  memory_bytes = s.memory;
                  holding_bytes = s.holding;
                  outgoing_bytes = s.outgoing;
                };
            wide = s.wide;
            range = s.range;
          };
    }

pub ours_demand3 : Demand3 ours
ours_demand3 = third.ours_demand3 closing

pub meets_demand3 : (chip : Chip) → Meets chip → Demand3 chip
meets_demand3 chip p = third.meets_demand3 closing chip p

-- and of a list that is resumed the same
pub meets_resumed : (chip : Chip) → Meets chip → (s : chip.Inner) (bs : List ℕ) (acts : List Act) (w : World) → ResumedRun enough bs acts w
    → Done bs (events_in acts) (step (call attention) w) × AsSaid chip s (does (call attention) ∷ acts) w
meets_resumed chip p = third.meets_resumed closing chip p

-- a chip of any kind of the inspector's list meets no promise
pub none_meets : (chip : Chip) → Wrong chip → Meets chip → ⊥
none_meets chip w p = inspected.none_meets closing chip w p
