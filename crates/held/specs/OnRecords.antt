-- Demand 3, second half, over the calls on byte areas: the host keeps the record, and lends what it will of all else. Assumes nothing.
use Rattle.std.specs.Prelude.{◌≡◌, Bool, true, false, List, [], ◌∷◌, ◌++◌, ℕ, ◌≤◌, ◌<◌}
use Rattle.device.specs.State.{held_in}
use Rattle.device.specs.declared.Fate.{Fate}
use Rattle.device.specs.declared.Frame.{Frame}
use Rattle.chip.specs.World.{World}
use Rattle.chip.specs.Call.{Call, turn, ran}
use Rattle.chip.specs.Turn.{turn_of}
use Rattle.calls.specs.Calls.{Areas, on_bytes, turn_call}
use Rattle.progress.specs.Trace.{run, turns}
use Rattle.traces.specs.Bytes.{called}
use Rattle.traces.specs.Event.{call, WhileHeld}
use Rattle.traces.specs.Areas.{units_in, world_said}
use Rattle.traces.specs.Driven.{Lending, lending, refused_at, left, is_taken, Drive, turns_driven, unrolled, AllFair, AllFairDrive}
use Rattle.frames.specs.Held.{Meanwhile}
use Rattle.held.specs.Held.{is_settled, Ending}
use Rattle.held.specs.Held as held

-- ---- what becomes of the frames that a record holds

abbrev pub frames_kept : List ℕ → List Frame
frames_kept r = held_in (units_in r).ru

-- what a call makes of them
abbrev pub fates_by : (refused : Bool) → Call → World → List Fate
fates_by true c w = []
fates_by false c w = held.fates_at (call c) w

abbrev pub fates_at : Lending → List Fate
fates_at l = fates_by (refused_at l) l.made (world_said l.lent)

-- the frame f is held in the record all along, and nothing is made of it; a stands
abbrev pub HeldAlong : Frame → List Lending → Areas → Type 0
HeldAlong f [] a = frames_kept a.kept ≡ f ∷ []
HeldAlong f (l ∷ ls) a = (frames_kept a.kept ≡ f ∷ []) × (fates_at l ≡ []) × HeldAlong f ls (left l a)

-- at each call that is not refused: it leaves what the definitions leave, and of the frame is said what is said of one that stays held
abbrev pub MeanwhileBy : (refused : Bool) → Frame → Lending → Type 0
MeanwhileBy true f l = Unit {0}
MeanwhileBy false f l =
    (called l.made l.lent ≡ on_bytes (ran l.made (world_said l.lent))) × Meanwhile f l.made (world_said l.lent)

abbrev pub AllMeanwhileOn : Frame → List Lending → Type 0
AllMeanwhileOn f [] = Unit {0}
AllMeanwhileOn f (l ∷ ls) = MeanwhileBy (refused_at l) f l × AllMeanwhileOn f ls

-- ---- the statement

-- one of the first n turns that are not refused settles the frame f, which is held until then and no longer: this call leaves what the turn
-- of the definitions leaves, and that turn stores or counts f
pub record Settled (n : ℕ) (f : Frame) (ls : List Lending) (a : Areas) : Type 0 where
  pub before : List Lending
  pub report : ℕ
  pub areas : Areas
  pub after : List Lending
  pub split : ls ≡ before ++ (lending (turn report) areas ∷ after)
  pub soon : turns is_taken before < n
  pub holds : HeldAlong f before a
  pub meanwhile : AllMeanwhileOn f before
  pub accepted : refused_at (lending (turn report) areas) ≡ false
  pub kept : areas.kept ≡ (run left before a).kept
  pub leaves : turn_call areas report ≡ on_bytes (turn_of (world_said areas) report)
  pub fate : Fate
  pub given : (turn_of (world_said areas) report).outcome.fates ≡ fate ∷ []
  pub settled : is_settled fate ≡ true
  pub ending : Ending f report (world_said areas)
  pub free : frames_kept (turn_call areas report).areas.kept ≡ []

-- the frame that a record holds is stored or counted within n turns that are not refused, if the record is kept and no attention or reset comes.
-- Of what stands at the start, a, the record alone counts
abbrev pub Within : ℕ → Type 0
Within n =
    (a : Areas) (f : Frame) (ls : List Lending) → frames_kept a.kept ≡ f ∷ [] → AllFair WhileHeld ls a → n ≤ turns is_taken ls → Settled n f ls a

-- the same where runs of turns are among the calls
abbrev pub WithinByRuns : ℕ → Type 0
WithinByRuns n =
    (a : Areas) (f : Frame) (ds : List Drive) → frames_kept a.kept ≡ f ∷ [] → AllFairDrive WhileHeld ds a → n ≤ turns_driven ds
    → Settled n f (unrolled ds) a
