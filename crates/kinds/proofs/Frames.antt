-- Demand 2's sentences on frames, of every chip that meets the promises. Assumes nothing.
use mathlib.Core.Path.{◌≡◌, refl, subst}
use mathlib.Core.Bool.{true}
use mathlib.Core.List.{List, [], ◌∷◌, ◌++◌}
use Prim.Native.Nat.{ℕ}
use lib.ListN.{length}
use Rattle.std.specs.Prelude.{Option}
use Rattle.memory.proofs.Power.{size_allowed_lem}
use Rattle.device.specs.declared.Counter.{Counter}
use Rattle.chip.specs.Call.{Call, reset, attention, arrive, turn}
use Rattle.chip.specs.World.{World}
use Rattle.progress.specs.Trace.{run}
use Rattle.traces.specs.Areas.{NotOverlong}
use Rattle.traces.specs.Event.{Event, call, host, step}
use Rattle.closure.specs.Refusals.{FrameRight}
use Rattle.frames.specs.Arrival.{RightLengths}
use Rattle.frames.specs.Fates.{opening, is_unaltered}
use Rattle.frames.proofs.Arrival.{arrival_fate}
use Rattle.frames.proofs.Fates as fates
use Rattle.frames.proofs.Data as stored
use Rattle.kinds.specs.Chips.{Chip, ours, Meets}
use Rattle.kinds.specs.Closed.{Right}
use Rattle.kinds.specs.Third.{AllAcceptable}
use Rattle.kinds.specs.Frames.{Arrived, AllArrived, deeds_in, StoredBytes, FramesAsSaid, Demand2Frames}
use Rattle.kinds.proofs.Equal.{ours_meets}
use Rattle.kinds.proofs.Third.{hosted, right_along, as_said}
use Rattle.kinds.proofs.Closing.{closing}

right_lengths : (w : World) (f : List ℕ) → NotOverlong f → Right w → RightLengths w f
right_lengths w f n r = record { size = size_allowed_lem (length w.memory) r.areas.size; area = r.areas.holding; frame = n }

arrived : (c : Call) (w : World) → FrameRight c → Right w → Arrived c w
arrived reset w f r = tt
arrived attention w f r = tt
arrived (arrive f v) w n r = arrival_fate w f v (right_lengths w f n r)
arrived (turn report) w f r = tt

all_arrived : (es : List Event) (w : World) → AllAcceptable es → Right w → AllArrived es w
all_arrived [] w a r = tt
all_arrived (call c ∷ es) w a r = (arrived c w a.1 r, all_arrived es (step (call c) w) a.2 (closing.each c w a.0 a.1 r))
all_arrived (host m h out ∷ es) w a r = all_arrived es (step (host m h out) w) a.1 (hosted w m h out a.0 r)

-- the host alters no record
unaltered : (es : List Event) → is_unaltered (deeds_in es) ≡ true
unaltered [] = refl
unaltered (e ∷ es) = unaltered es

-- what comes, in two parts
acceptable_parts : (xs ys : List Event) → AllAcceptable (xs ++ ys) → AllAcceptable xs × AllAcceptable ys
acceptable_parts [] ys a = (tt, a)
acceptable_parts (call c ∷ xs) ys a =
    let parts = acceptable_parts xs ys a.2 in
    ((a.0, a.1, parts.0), parts.1)
acceptable_parts (host m h out ∷ xs) ys a =
    let parts = acceptable_parts xs ys a.1 in
    ((a.0, parts.0), parts.1)

data_said : (before : List Event) (bs : List ℕ) (v : ℕ) (c : Option Counter) (meanwhile : List Event) (report : ℕ) (rest : List Event) (w : World)
    → AllAcceptable (before ++ (call (arrive bs v) ∷ rest)) → Right w → StoredBytes bs v c meanwhile report (run step before w)
data_said before bs v c meanwhile report rest w a r h m e =
    let parts = acceptable_parts before (call (arrive bs v) ∷ rest) a in
    let right = right_along closing before w parts.0 r in
    let at = run step before w in
    stored.arrived at bs v c meanwhile report (right_lengths at bs parts.1.1 right) right.range h m e

frames_said : (es : List Event) (w : World) → AllAcceptable es → Right w → FramesAsSaid es w
frames_said es w a r =
    record {
      arrivals = all_arrived es w a r;
      calls = fates.all_fates (deeds_in es) w r.range;
      one_fate = λ k h. fates.exactly_one_fate w (deeds_in es) k r.range (unaltered es) h;
      accounted = fates.conserved (deeds_in es) (opening w) r.range;
      fated = fates.all_fated (deeds_in es) (opening w) r.range (unaltered es);
      stored =
          λ before bs v c meanwhile report after e.
          data_said before bs v c meanwhile report (meanwhile ++ (call (turn report) ∷ after)) w (subst AllAcceptable e a) r;
    }

pub has_demand2_frames : (chip : Chip) → Meets chip → Demand2Frames chip
has_demand2_frames chip p = record { each = λ s acts w r a g. (frames_said _ w a r, as_said closing chip p acts s w a g r) }

pub ours_demand2_frames : Demand2Frames ours
ours_demand2_frames = has_demand2_frames ours ours_meets
