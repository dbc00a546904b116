-- Frames over the calls on the areas that a host lends, refused calls among them: 01, "Calls, lent areas, refusals". The host may lend what it will;
-- its altering of the record is what it is: a record lent that is not the one that the last call left. Assumes nothing.
use Rattle.std.specs.Prelude.{◌≡◌, refl, Bool, true, false, ◌&&◌, List, [], ◌∷◌, ◌++◌, ℕ, ◌<◌, eqb}
use Rattle.device.specs.declared.Device.{Device}
use Rattle.image.specs.Found.{Found}
use Rattle.image.specs.Found as is
use Rattle.image.specs.Image.{decode_of, device_at}
use Rattle.image.specs.Ranges.{in_range}
use Rattle.chip.specs.Arrival.{arrival_of}
use Rattle.chip.specs.Call.{arrive}
use Rattle.chip.specs.World.{World}
use Rattle.calls.specs.Calls.{Areas, on_bytes}
use Rattle.progress.specs.Trace.{run, AllMay}
use Rattle.traces.specs.Areas.{FrameBytes, AreBytes, world_in}
use Rattle.traces.specs.Bytes.{called}
use Rattle.traces.specs.Driven.{Lending, refused_at, left, host_of, Drive, calls, runs, taken_in}
use Rattle.traces.specs.Event.{call}
use Rattle.traces.specs.Told.{Said}
use Rattle.frames.specs.Arrival.{ArrivalFate}
use Rattle.frames.specs.Fates.{Deed, event, alter, world_after, Noted, Ended, opening, still, advance, beginnings, endings}

-- ---- an arrival, on the areas a with the record of the state d: it answers and leaves what the definitions do, and these do with the frame what is said
-- of its class: held, or one more in one counter, or dropped

pub record ArrivedOn (a : Areas) (d : Device) (f : List ℕ) (v : ℕ) : Type 0 where
  pub said : called (arrive f v) a ≡ on_bytes (arrival_of (world_in d a) f v)
  pub fate : ArrivalFate (world_in d a) f v (arrival_of (world_in d a) f v)

-- ---- the calls as deeds

-- the record lent is the one that stands
abbrev pub same : List ℕ → List ℕ → Bool
same [] [] = true
same [] (y ∷ ys) = false
same (x ∷ xs) [] = false
same (x ∷ xs) (y ∷ ys) = eqb x y && same xs ys

-- the host alters the record to that of a state in range; a state that is found in a record of bytes is so, and the second line is not met there
abbrev pub altered_to : (d : Device) → (fits : Bool) → in_range d ≡ fits → List Deed
altered_to d true r = alter d r ∷ []
altered_to d false r = []

-- what a record r is found to be. A foreign one is taken by reset alone, which ignores its content: the record is not altered to another state, and
-- what was held is lost by the reset
abbrev pub altered_by : Found → (r : List ℕ) → List Deed
altered_by (is.Units u) r = altered_to (device_at r u) (in_range (device_at r u)) refl
altered_by is.Foreign r = []

abbrev pub altered_unless : (kept : Bool) → (r : List ℕ) → List Deed
altered_unless true r = []
altered_unless false r = altered_by (decode_of r) r

-- before a call the host alters the record, if it lends another than the one that stands
abbrev pub altering : Lending → Areas → List Deed
altering l a = altered_unless (same l.lent.kept a.kept) l.lent.kept

-- a refused call is no deed; before any other the host leaves memory, holding and outgoing area as it lends them
abbrev pub deeds_by : (refused : Bool) → Lending → Areas → List Deed
deeds_by true l a = []
deeds_by false l a = altering l a ++ (event (host_of l.lent) ∷ event (call l.made) ∷ [])

-- a stands at first, then what the last call that was not refused left
abbrev pub deeds_of : List Lending → Areas → List Deed
deeds_of [] a = []
deeds_of (l ∷ ls) a = deeds_by (refused_at l) l a ++ deeds_of ls (left l a)

-- ---- what is asked of the host

-- a call that is not refused is given bytes. Nothing else is asked, and of a refused call nothing
abbrev pub Given : Lending → Type 0
Given l = refused_at l ≡ false → FrameBytes l.made × AreBytes l.lent

abbrev pub AllGiven : List Lending → Type 0
AllGiven [] = Unit {0}
AllGiven (l ∷ ls) = Given l × AllGiven ls

-- of a run that took turns, the same
abbrev pub GivenDrive : Drive → Type 0
GivenDrive (calls l) = Given l
GivenDrive (runs lent report budget) = 0 < taken_in lent report budget → AreBytes lent

abbrev pub AllGivenDrive : List Drive → Type 0
AllGivenDrive [] = Unit {0}
AllGivenDrive (d ∷ ds) = GivenDrive d × AllGivenDrive ds

-- the host keeps the record: each call that is not refused is lent the one that stands
abbrev pub KeepsRecord : Lending → Areas → Type 0
KeepsRecord l a = refused_at l ≡ false → l.lent.kept ≡ a.kept

abbrev pub AllKept : List Lending → Areas → Type 0
AllKept ls a = AllMay KeepsRecord left ls a

-- ---- that these deeds are what the calls do: the answer and every lent byte of each call that is not refused are what the definitions say in the
-- world after the deeds before it, and a refused one leaves all as it was lent

abbrev pub AllSaidOf : List Lending → Areas → World → Type 0
AllSaidOf [] a w = Unit {0}
AllSaidOf (l ∷ ls) a w =
    Said (refused_at l) l (run world_after (altering l a) w) × AllSaidOf ls (left l a) (run world_after (deeds_by (refused_at l) l a) w)

-- ---- frames, where the record that stands at first holds the state d

-- the world at the end
abbrev pub world_at : List Lending → Areas → Device → World
world_at ls a d = run world_after (deeds_of ls a) (world_in d a)

-- all that were held, all that ended, and those that are held still
abbrev pub held_of : List Lending → Areas → Device → List Noted
held_of ls a d = still (opening (world_in d a)) ++ beginnings (deeds_of ls a) (opening (world_in d a))

abbrev pub ended_of : List Lending → Areas → Device → List Ended
ended_of ls a d = endings (deeds_of ls a) (opening (world_in d a))

abbrev pub still_of : List Lending → Areas → Device → List Noted
still_of ls a d = still (run advance (deeds_of ls a) (opening (world_in d a)))
