-- Demand 3, of every chip that meets the promises, since every state that a call leaves is in range. Assumes nothing.
use mathlib.Core.Path.{◌≡◌, refl, ap, ◌∙◌}
use mathlib.Core.List.{List, [], ◌∷◌, ◌++◌, map}
use Prim.Native.Nat.{ℕ}
use lib.Dec.{lit≤}
use Rattle.memory.specs.Memory.{word_at}
use Rattle.device.specs.Numbers.{counter_place}
use Rattle.device.specs.declared.Device.{Device}
use Rattle.image.proofs.Exact.{image_bytes}
use Rattle.control.specs.Obey.{of_scb}
use Rattle.chip.specs.World.{World, world_of}
use Rattle.chip.specs.Call.{Call, attention, ran}
use Rattle.calls.specs.Calls.{Areas, Called, answer_number, on_bytes}
use Rattle.progress.specs.Trace.{run}
use Rattle.traces.specs.Areas.{Hosted, shown}
use Rattle.traces.specs.Event.{Event, call, host, step, answers_of}
use Rattle.closure.specs.Refusals.{FrameRight}
use Rattle.lists.specs.Done.{enough, Done}
use Rattle.lists.proofs.Whole.{attention_list_done, resumed_list_done}
use Rattle.held.proofs.Whole.{held_frame}
use Rattle.held.proofs.OnRecords.{to_hold}
use Rattle.kinds.specs.Chips.{Chip, ours, Given, Handed, Meets, Act, does, asks, events_in, chip_run, chip_answers}
use Rattle.kinds.specs.Demands.{Acceptable, Demand2}
use Rattle.kinds.specs.Closed.{Right, Closed}
use Rattle.kinds.specs.Third.{AllAcceptable, AllRefused, AsSaid, RunBy, ResumedRun, Demand3}
use Rattle.kinds.specs.Kinds.{InventedAlong, another_count, another_edges, from_edge, InventsAlong, InventsWhileHeld}
use Rattle.kinds.proofs.Equal.{ours_meets, as_called}
use Rattle.kinds.proofs.Ours.{has_demand2, defined_kept}
use Rattle.kinds.proofs.Witness.{attending}

-- ---- a call in a world that is right is not to be refused, and leaves one that is

pub right_acceptable : (c : Call) (w : World) → FrameRight c → Right w → Acceptable c w.device w.memory w.holding w.outgoing
right_acceptable c w f r =
    let a = r.areas in
    record { size = a.size; holding = a.holding; outgoing = a.outgoing; frame = f; wide = r.wide; range = r.range }

pub right_handed : (c : Call) (w : World) → Given c → Right w → Handed c (shown w)
right_handed c w g r =
    let a = r.areas in
    record {
      given = g;
      areas =
          record {
            memory = a.memory_bytes;
            holding = a.holding_bytes;
            outgoing = a.outgoing_bytes;
            kept = image_bytes w.device r.wide;
          };
    }

-- what the host leaves is right, with a device that is
pub hosted : (w : World) (m h out : List ℕ) → Hosted m h out → Right w → Right (world_of w.device m h out)
hosted w m h out k r = record { areas = k; wide = r.wide; range = r.range }

module _ (closed : Closed) where
  pub right_along : (es : List Event) (w : World) → AllAcceptable es → Right w → Right (run step es w)
  right_along [] w f r = r
  right_along (call c ∷ es) w f r = right_along es (step (call c) w) f.2 (closed.each c w f.0 f.1 r)
  right_along (host m h out ∷ es) w f r = right_along es (step (host m h out) w) f.1 (hosted w m h out f.0 r)

-- ---- a chip that has demand 2 does, along everything that comes, what the definitions do, whatever it does at calls that are to be refused

abbrev pub AsIn2 : (chip : Chip) → chip.Inner → List Act → World → Type 0
AsIn2 chip s [] w = Unit {0}
AsIn2 chip s (does (call c) ∷ acts) w =
    (chip.calls s c (shown w) ≡ on_bytes (ran c w)) × AsIn2 chip (chip.next s c (shown w)) acts (step (call c) w)
AsIn2 chip s (does (host m h out) ∷ acts) w = AsIn2 chip s acts (step (host m h out) w)
AsIn2 chip s (asks c a ∷ acts) w = AsIn2 chip (chip.next s c a) acts w

module _ (closed : Closed) (chip : Chip) (q : Demand2 chip) where
  at_call : (s : chip.Inner) (c : Call) (w : World) → Given c → FrameRight c → Right w → chip.calls s c (shown w) ≡ on_bytes (ran c w)
  at_call s c w g f r =
      defined_kept _ _ (q.each s c w.device w.memory w.holding w.outgoing (right_acceptable c w f r) (right_handed c w g r))

  pub along : (acts : List Act) (s : chip.Inner) (w : World) → AllAcceptable (events_in acts) → Right w → AsIn2 chip s acts w
  along [] s w f r = tt
  along (does (call c) ∷ acts) s w f r = (
    at_call s c w f.0 f.1 r,
    along acts (chip.next s c (shown w)) (step (call c) w) f.2 (closed.each c w f.0 f.1 r),
  )
  along (does (host m h out) ∷ acts) s w f r = along acts s (step (host m h out) w) f.1 (hosted w m h out f.0 r)
  along (asks c a ∷ acts) s w f r = along acts (chip.next s c a) w f r

-- what that comes to: its run leaves what the definitions leave, and its answers are theirs
module _ (chip : Chip) where
  pub run_left : (acts : List Act) (s : chip.Inner) (w : World) → AsIn2 chip s acts w
      → chip_run chip s acts (shown w) ≡ shown (run step (events_in acts) w)
  run_left [] s w k = refl
  run_left (does (call c) ∷ acts) s w k =
      let s' = chip.next s c (shown w) in
      ap (λ (r : Called). chip_run chip s' acts r.areas) k.0 ∙ run_left acts s' (step (call c) w) k.1
  run_left (does (host m h out) ∷ acts) s w k = run_left acts s (step (host m h out) w) k
  run_left (asks c a ∷ acts) s w k = run_left acts (chip.next s c a) w k

  pub run_answers : (acts : List Act) (s : chip.Inner) (w : World) → AsIn2 chip s acts w
      → chip_answers chip s acts (shown w) ≡ answers_of (events_in acts) w
  run_answers [] s w k = refl
  run_answers (does (call c) ∷ acts) s w k =
      let s' = chip.next s c (shown w) in
      ap (λ (r : Called). r.answer ∷ chip_answers chip s' acts r.areas) k.0
      ∙ ap (λ (ys : List ℕ). answer_number (ran c w).outcome.answer ∷ ys) (run_answers acts s' (step (call c) w) k.1)
  run_answers (does (host m h out) ∷ acts) s w k = run_answers acts s (step (host m h out) w) k
  run_answers (asks c a ∷ acts) s w k = run_answers acts (chip.next s c a) w k

-- ---- at calls that are to be refused a chip that meets the promises does so too

module _ (chip : Chip) (p : Meets chip) where
  all_said : (acts : List Act) (s : chip.Inner) (w : World) → AllRefused acts → AsIn2 chip s acts w → AsSaid chip s acts w
  all_said [] s w g k = tt
  all_said (does (call c) ∷ acts) s w g k = (k.0, all_said acts (chip.next s c (shown w)) (step (call c) w) g k.1)
  all_said (does (host m h out) ∷ acts) s w g k = all_said acts s (step (host m h out) w) g k
  all_said (asks c a ∷ acts) s w g k = (as_called chip p s c a g.0, all_said acts (chip.next s c a) w g.2 k)

module _ (closed : Closed) (chip : Chip) (p : Meets chip) where
  pub as_said : (acts : List Act) (s : chip.Inner) (w : World) → AllAcceptable (events_in acts) → AllRefused acts → Right w → AsSaid chip s acts w
  as_said acts s w f g r = all_said chip p acts s w g (along closed chip (has_demand2 chip p) acts s w f r)

  -- a list, however the attention sets it off
  list_said : (SetsOff : List ℕ → World → Type 0) (least : ℕ → ℕ) (s : chip.Inner) (bs : List ℕ) (acts : List Act) (w : World)
      → RunBy SetsOff least bs acts w → AsSaid chip s (does (call attention) ∷ acts) w
  list_said SetsOff least s bs acts w k =
      as_said (does (call attention) ∷ acts) s w (attending, lit≤ tt, k.acceptable) k.refused k.right

  pub meets_resumed : (s : chip.Inner) (bs : List ℕ) (acts : List Act) (w : World) → ResumedRun enough bs acts w
      → Done bs (events_in acts) (step (call attention) w) × AsSaid chip s (does (call attention) ∷ acts) w
  meets_resumed s bs acts w k = (resumed_list_done bs (events_in acts) w k.sets_off k.listed k.premises, list_said _ enough s bs acts w k)

  pub meets_demand3 : Demand3 chip
  meets_demand3 =
      record {
        list =
            λ s bs acts w k. (
              attention_list_done bs (events_in acts) w k.sets_off.starts k.sets_off.first k.listed k.premises,
              list_said _ enough s bs acts w k,
            );
        frame =
            λ s f acts w k. (
              held_frame w f (events_in acts) k.holds (to_hold w.device f k.right.range k.holds) k.events k.turns,
              as_said acts s w k.acceptable k.refused k.right,
            );
      }

pub ours_demand3 : Closed → Demand3 ours
ours_demand3 closed = meets_demand3 closed ours ours_meets

module _ (chip : Chip) where
  -- ---- what demand 3 comes to: so every chip that has it leaves, all along, what the definitions leave, and its answers are theirs

  pub in_2 : (acts : List Act) (s : chip.Inner) (w : World) → AsSaid chip s acts w → AsIn2 chip s acts w
  in_2 [] s w k = tt
  in_2 (does (call c) ∷ acts) s w k = (k.0, in_2 acts (chip.next s c (shown w)) (step (call c) w) k.1)
  in_2 (does (host m h out) ∷ acts) s w k = in_2 acts s (step (host m h out) w) k
  in_2 (asks c a ∷ acts) s w k = in_2 acts (chip.next s c a) w k.1

  pub said_left : (acts : List Act) (s : chip.Inner) (w : World) → AsSaid chip s acts w
      → chip_run chip s acts (shown w) ≡ shown (run step (events_in acts) w)
  said_left acts s w k = run_left chip acts s w (in_2 acts s w k)

  pub said_answers : (acts : List Act) (s : chip.Inner) (w : World) → AsSaid chip s acts w
      → chip_answers chip s acts (shown w) ≡ answers_of (events_in acts) w
  said_answers acts s w k = run_answers chip acts s w (in_2 acts s w k)

  -- of a part of what comes, from the beginning on
  said_before : (acts more : List Act) (s : chip.Inner) (w : World) → AsSaid chip s (acts ++ more) w → AsSaid chip s acts w
  said_before [] more s w k = tt
  said_before (does (call c) ∷ acts) more s w k = (k.0, said_before acts more (chip.next s c (shown w)) (step (call c) w) k.1)
  said_before (does (host m h out) ∷ acts) more s w k = said_before acts more s (step (host m h out) w) k
  said_before (asks c a ∷ acts) more s w k = (k.0, said_before acts more (chip.next s c a) w k.1)

-- ---- a counter or an edge that the definitions do not have, in the run of a list or while a frame is held: demand 3, which means done as in 2

-- all bytes and answers are the definitions': nothing is invented
pub none_along : (d : Device) (after : Areas) (answers : List ℕ) (w : World) (said : List ℕ) → after ≡ shown w → answers ≡ said
    → InventedAlong d after answers w said → ⊥
none_along d after answers w said p q (another_count k differs) =
    differs (ap (λ (a : Areas). word_at a.memory (of_scb d.units (counter_place k))) p)
none_along d after answers w said p q (another_edges differs) = differs (ap (map from_edge) q)

pub invents_along_lacks_3 : (chip : Chip) → InventsAlong chip → Demand3 chip → ⊥
invents_along_lacks_3 chip k d =
    let all = (d.list k.inner k.blocks (k.acts ++ k.more) k.world k.comes).1 in
    let acts = does (call attention) ∷ k.acts in
    let same = said_before chip acts k.more k.inner k.world all in
    none_along k.world.device _ _ _ _ (said_left chip acts k.inner k.world same) (said_answers chip acts k.inner k.world same)
    k.invented

-- and while a frame is held
pub invents_while_held_lacks_3 : (chip : Chip) → InventsWhileHeld chip → Demand3 chip → ⊥
invents_while_held_lacks_3 chip k d =
    let all = (d.frame k.inner k.frame (k.acts ++ k.more) k.world k.comes).1 in
    let same = said_before chip k.acts k.more k.inner k.world all in
    none_along k.world.device _ _ _ _ (said_left chip k.acts k.inner k.world same) (said_answers chip k.acts k.inner k.world same)
    k.invented
