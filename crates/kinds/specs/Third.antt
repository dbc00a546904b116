-- Demand 3, of an arbitrary chip: both halves, over whatever comes, refused calls among it. Assumes nothing.
use Rattle.std.specs.Prelude.{◌≡◌, true, List, [], ◌∷◌, ℕ, ◌≤◌}
use Rattle.memory.specs.Memory.{word_at}
use Rattle.scb.specs.Words.{cbl_at}
use Rattle.device.specs.declared.Frame.{Frame}
use Rattle.control.specs.Obey.{of_scb}
use Rattle.chip.specs.World.{World}
use Rattle.chip.specs.Call.{attention, ran}
use Rattle.calls.specs.Calls.{on_bytes}
use Rattle.progress.specs.Trace.{AllMay, turns}
use Rattle.traces.specs.Areas.{Hosted, shown}
use Rattle.traces.specs.Bytes.{called, is_refused}
use Rattle.traces.specs.Event.{Event, call, host, step, is_turn, DuringList, WhileHeld}
use Rattle.closure.specs.Refusals.{FrameRight}
use Rattle.lists.specs.Uses.{Listed, first_of}
use Rattle.lists.specs.Done.{Starts, Resumes, enough, Premises, Done}
use Rattle.held.specs.Held.{frames_in, Settled}
use Rattle.kinds.specs.Chips.{Chip, Given, Handed, Act, does, asks, events_in}
use Rattle.kinds.specs.Closed.{Right}

-- ---- what comes

-- calls that are not to be refused for what they bring; areas of bytes of the right lengths, as the host leaves them
abbrev pub AllAcceptable : List Event → Type 0
AllAcceptable [] = Unit {0}
AllAcceptable (call c ∷ es) = Given c × FrameRight c × AllAcceptable es
AllAcceptable (host m h out ∷ es) = Hosted m h out × AllAcceptable es

-- calls that are to be refused, by the table
abbrev pub AllRefused : List Act → Type 0
AllRefused [] = Unit {0}
AllRefused (does e ∷ acts) = AllRefused acts
AllRefused (asks c a ∷ acts) = Handed c a × (is_refused (called c a) ≡ true) × AllRefused acts

-- ---- done as in 2: at every call the chip answers and leaves, of all that is lent, what the definitions do. So what it is lent next is what it left
-- itself, but for what the host changed
abbrev pub AsSaid : (chip : Chip) → chip.Inner → List Act → World → Type 0
AsSaid chip s [] w = Unit {0}
AsSaid chip s (does (call c) ∷ acts) w =
    (chip.calls s c (shown w) ≡ on_bytes (ran c w)) × AsSaid chip (chip.next s c (shown w)) acts (step (call c) w)
AsSaid chip s (does (host m h out) ∷ acts) w = AsSaid chip s acts (step (host m h out) w)
AsSaid chip s (asks c a ∷ acts) w = (chip.calls s c a ≡ called c a) × AsSaid chip (chip.next s c a) acts w

-- ---- what the sentences ask, in a world in which no call is refused for what stands. It is asked of the definitions' run, whatever the chip: up to
-- the first call at which the chip does otherwise, what it left is what the definitions left; and there the demand, done as in 2, is not met

-- a channel attention, in the world w, sets off a command list of the blocks bs, as they stand in memory after it; what comes then
pub record RunBy (SetsOff : List ℕ → World → Type 0) (least : ℕ → ℕ) (bs : List ℕ) (acts : List Act) (w : World) : Type 0 where
  pub right : Right w
  pub sets_off : SetsOff bs w
  pub listed : Listed (step (call attention) w).device.units.base (step (call attention) w).memory bs
  pub acceptable : AllAcceptable (events_in acts)
  pub refused : AllRefused acts
  pub premises : Premises DuringList least bs (events_in acts) (step (call attention) w)

-- the attention starts it, at the CBL offset
pub record StartsAt (bs : List ℕ) (w : World) : Type 0 where
  pub starts : Starts w
  pub first : first_of bs ≡ word_at w.memory (of_scb w.device.units cbl_at)

abbrev pub ListRun : (ℕ → ℕ) → List ℕ → List Act → World → Type 0
ListRun least bs acts w = RunBy StartsAt least bs acts w

-- or, beyond the sentence, resumes it, from the block before which the unit was suspended
abbrev pub ResumedRun : (ℕ → ℕ) → List ℕ → List Act → World → Type 0
ResumedRun least bs acts w = RunBy (λ cs. Resumes (first_of cs)) least bs acts w

-- a frame is held; no attention or reset comes
pub record HeldRun (most : ℕ) (f : Frame) (acts : List Act) (w : World) : Type 0 where
  pub right : Right w
  pub holds : frames_in w ≡ f ∷ []
  pub acceptable : AllAcceptable (events_in acts)
  pub refused : AllRefused acts
  pub events : AllMay WhileHeld step (events_in acts) w
  pub turns : most ≤ turns is_turn (events_in acts)

-- ---- the demand, with so many turns for n commands, and so many for a held frame

pub record Demand3By (least : ℕ → ℕ) (most : ℕ) (chip : Chip) : Type 0 where
  -- all n are done, once each, in list order, as in 2
  pub list : (s : chip.Inner) (bs : List ℕ) (acts : List Act) (w : World) → ListRun least bs acts w
      → Done bs (events_in acts) (step (call attention) w) × AsSaid chip s (does (call attention) ∷ acts) w
  -- a held frame is stored or counted
  pub frame : (s : chip.Inner) (f : Frame) (acts : List Act) (w : World) → HeldRun most f acts w
      → Settled most f (events_in acts) w × AsSaid chip s acts w

-- 132 times n turns, and 132
abbrev pub Demand3 : Chip → Type 0
Demand3 chip = Demand3By enough 132 chip
