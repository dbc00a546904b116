-- How a host drives the chip: by calls, each with what it is lent, and by runs of turns, which are as many turns as their answer says; and what is
-- asked of it. 01, "Calls, lent areas, refusals": the host keeps the record and lends what it will of all else. Assumes nothing.
use Rattle.std.specs.Prelude.{◌≡◌, Bool, true, false, not, ◌&&◌, List, [], ◌∷◌, ◌++◌, ℕ, zero, suc, ◌+◌, ◌<◌}
use Rattle.chip.specs.Call.{Call, turn}
use Rattle.chip.specs.World.{World}
use Rattle.calls.specs.Calls.{Areas, turn_call, run_call}
use Rattle.progress.specs.Trace.{bit, AllMay}
use Rattle.traces.specs.Bytes.{called, is_refused, turns_taken}
use Rattle.traces.specs.Event.{Event, call, host, is_turn}
use Rattle.traces.specs.Areas.{FrameBytes, AreBytes, world_said}

-- ---- calls

-- a call and the areas that it is lent
pub record Lending : Type 0 where
  pub made : Call
  pub lent : Areas

abbrev pub lending : Call → Areas → Lending
lending c a = record { made = c; lent = a }

-- the call is refused
abbrev pub refused_at : Lending → Bool
refused_at l = is_refused (called l.made l.lent)

-- a refused call counts for nothing: what stands is what the last call that was not refused left
abbrev pub left_by : (refused : Bool) → Lending → Areas → Areas
left_by true l a = a
left_by false l a = (called l.made l.lent).areas

abbrev pub left : Lending → Areas → Areas
left l a = left_by (refused_at l) l a

-- a turn that is not refused
abbrev pub is_taken : Lending → Bool
is_taken l = not (refused_at l) && is_turn (call l.made)

-- the same as events on a state: before each call that is not refused the host leaves memory, holding and outgoing area as it lends them
abbrev pub host_of : Areas → Event
host_of a = host a.memory a.holding a.outgoing

abbrev pub events_by : (refused : Bool) → Lending → List Event → List Event
events_by true l es = es
events_by false l es = host_of l.lent ∷ call l.made ∷ es

abbrev pub events_of : List Lending → List Event
events_of [] = []
events_of (l ∷ ls) = events_by (refused_at l) l (events_of ls)

-- ---- calls, and runs of turns among them

pub data Drive : Type 0 where
  calls : Lending → Drive
  runs : Areas → (report budget : ℕ) → Drive

-- how many turns a run took
abbrev pub taken_in : Areas → (report budget : ℕ) → ℕ
taken_in a report budget = turns_taken (run_call a report budget).answer

-- a run that took no turn counts for nothing, as a refused call does
abbrev pub ran_by : (taken : ℕ) → (before after : Areas) → Areas
ran_by zero before after = before
ran_by (suc k) before after = after

abbrev pub left_driven : Drive → Areas → Areas
left_driven (calls l) a = left l a
left_driven (runs lent report budget) a = ran_by (taken_in lent report budget) a (run_call lent report budget).areas

-- turns that are not refused: the turns inside a run count as turns
abbrev pub turns_one : Drive → ℕ
turns_one (calls l) = bit (is_taken l)
turns_one (runs lent report budget) = taken_in lent report budget

abbrev pub turns_driven : List Drive → ℕ
turns_driven [] = 0
turns_driven (d ∷ ds) = turns_one d + turns_driven ds

-- the same as calls alone: a run as its turns, each on what the one before left
abbrev pub turns_from : ℕ → Areas → (report : ℕ) → List Lending
turns_from zero a report = []
turns_from (suc k) a report = lending (turn report) a ∷ turns_from k (turn_call a report).areas report

abbrev pub unrolled_one : Drive → List Lending
unrolled_one (calls l) = l ∷ []
unrolled_one (runs lent report budget) = turns_from (taken_in lent report budget) lent report

abbrev pub unrolled : List Drive → List Lending
unrolled [] = []
unrolled (d ∷ ds) = unrolled_one d ++ unrolled ds

-- ---- what is asked of the host, where a stands and May says which events may occur

module _ (May : Event → World → Type 0) where
  -- it lends bytes, and the record as it stands; that it leaves the other areas so may occur, and so may the call
  pub record Lends (l : Lending) (a : Areas) : Type 0 where
    pub frame : FrameBytes l.made
    pub bytes : AreBytes l.lent
    pub kept : l.lent.kept ≡ a.kept
    pub leaves : May (host_of l.lent) (world_said a)
    pub may : May (call l.made) (world_said l.lent)

  -- of a call that is refused nothing is asked
  abbrev pub Fair : Lending → Areas → Type 0
  Fair l a = refused_at l ≡ false → Lends l a

  abbrev pub AllFair : List Lending → Areas → Type 0
  AllFair ls a = AllMay Fair left ls a

  -- of a run that took turns, what is asked of a turn
  abbrev pub FairDrive : Drive → Areas → Type 0
  FairDrive (calls l) a = Fair l a
  FairDrive (runs lent report budget) a = 0 < taken_in lent report budget → Lends (lending (turn report) lent) a

  abbrev pub AllFairDrive : List Drive → Areas → Type 0
  AllFairDrive ds a = AllMay FairDrive left_driven ds a
