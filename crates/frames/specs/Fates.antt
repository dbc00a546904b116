-- Frames over time: which are held, under the number of their arrival, and how each holding ends. Assumes nothing.
use Rattle.std.specs.Prelude.{◌≡◌, Bool, true, false, cond, List, [], ◌∷◌, ◌++◌, map, ℕ, suc, ◌+◌, eqb, length, drop}
use Rattle.device.specs.Answers.{is_held}
use Rattle.device.specs.State.{held_in, is_good}
use Rattle.device.specs.declared.Device.{Device}
use Rattle.device.specs.declared.Fate.{Fate}
use Rattle.device.specs.declared.Fate.TheVariants as fate
use Rattle.device.specs.declared.Frame.{Frame}
use Rattle.image.specs.Ranges.{in_range}
use Rattle.receive.specs.Arrival.{judged}
use Rattle.chip.specs.Call.{Call, reset, attention, arrive, turn, ran}
use Rattle.chip.specs.World.{World, world_of}
use Rattle.traces.specs.Event.{Event, call, host, step}
use Rattle.frames.specs.Arrival.{unit_of, settings_of}
use Rattle.frames.specs.Held.{of_held, is_loss, held_fates, loses, GoodFate, BadFate}

-- ---- what happens

-- a call that is not refused, or what the host does to the areas; or the host alters the record, to another that is in range: with any other all
-- calls but reset are refused, and change nothing
pub data Deed : Type 0 where
  event : Event → Deed
  alter : (d : Device) → in_range d ≡ true → Deed

abbrev pub world_after : Deed → World → World
world_after (event e) w = step e w
world_after (alter d r) w = world_of d w.memory w.holding w.outgoing

-- the world, the number that the next arrival gets, and the numbers of the frames that are held, the oldest first
pub record Scene : Type 0 where
  pub world : World
  pub next : ℕ
  pub held : List ℕ

-- ---- what is noted

-- a frame under its number, as it was judged: at its arrival, or as the unit holds it
pub record Noted : Type 0 where
  pub number : ℕ
  pub frame : List Frame

abbrev pub noted : ℕ → List Frame → Noted
noted n f = record { number = n; frame = f }

abbrev pub numbers_of : List Noted → List ℕ
numbers_of ns = map (λ (n : Noted). n.number) ns

-- frames under the numbers from n on
abbrev pub numbered : ℕ → List Frame → List Noted
numbered n [] = []
numbered n (f ∷ fs) = noted n (f ∷ []) ∷ numbered (suc n) fs

-- at first: frames are numbered from 1 on, those that are held already before all that arrive
abbrev pub opening : World → Scene
opening w =
    let fs = held_in (unit_of w) in record { world = w; next = suc (length fs); held = numbers_of (numbered 1 fs) }

-- how a holding ends: by the fate that a call's outcome gives, or by the host, who alters the record
pub data Way : Type 0 where
  by_call : Fate → Way
  by_altering : Way

pub record Ended : Type 0 where
  pub noted : Noted
  pub way : Way

-- the frames that a unit holds under their numbers, both in their order. Where numbers lack, 0: no frame is left out
abbrev pub held_as : List Frame → List ℕ → List Noted
held_as [] ns = []
held_as (f ∷ fs) [] = noted 0 (f ∷ []) ∷ held_as fs []
held_as (f ∷ fs) (n ∷ ns) = noted n (f ∷ []) ∷ held_as fs ns

abbrev pub still : Scene → List Noted
still s = held_as (held_in (unit_of s.world)) s.held

-- which frames are held from now on: an arriving one whose fate says so; those that the host puts into the record count as ones that arrive then
abbrev pub begun_if : (held : Bool) → ℕ → Frame → List Noted
begun_if true n f = noted n (f ∷ []) ∷ []
begun_if false n f = []

abbrev pub begun_by : List Fate → ℕ → Frame → List Noted
begun_by [] n f = []
begun_by (x ∷ xs) n f = begun_if (is_held x) n f ++ begun_by xs n f

abbrev pub begun : Deed → Scene → List Noted
begun (event (call reset)) s = []
begun (event (call attention)) s = []
begun (event (call (arrive f v))) s =
    begun_by (ran (arrive f v) s.world).outcome.fates s.next (judged (settings_of s.world) f v)
begun (event (call (turn report))) s = []
begun (event (host m h out)) s = []
begun (alter d r) s = numbered s.next (held_in d.units.ru)

-- what a call notes as ends: the fates of held frames that it gives go to those that are held, the oldest first. None goes unnoted: one that is given
-- while no frame is left is noted under 0, of no frame
abbrev pub ended_as : List Fate → List Noted → List Ended
ended_as [] ns = []
ended_as (x ∷ xs) [] = record { noted = noted 0 []; way = by_call x } ∷ ended_as xs []
ended_as (x ∷ xs) (n ∷ ns) = record { noted = n; way = by_call x } ∷ ended_as xs ns

abbrev pub fates_in : Call → Scene → List Ended
fates_in c s = ended_as (held_fates (ran c s.world).outcome.fates) (still s)

-- all end in one way. Reset ignores the record's content, so its outcome has no fates: what it held is lost
abbrev pub ended_by : Way → List Noted → List Ended
ended_by way [] = []
ended_by way (n ∷ ns) = record { noted = n; way = way } ∷ ended_by way ns

abbrev pub ended : Deed → Scene → List Ended
ended (event (call reset)) s = ended_by (by_call fate.Reset) (still s)
ended (event (call attention)) s = fates_in attention s
ended (event (call (arrive f v))) s = fates_in (arrive f v) s
ended (event (call (turn report))) s = fates_in (turn report) s
ended (event (host m h out)) s = []
ended (alter d r) s = ended_by by_altering (still s)

-- ---- over time

-- an arrival takes a number, and so does each frame that the host puts into the record
abbrev pub takes : Deed → ℕ
takes (event (call reset)) = 0
takes (event (call attention)) = 0
takes (event (call (arrive f v))) = 1
takes (event (call (turn report))) = 0
takes (event (host m h out)) = 0
takes (alter d r) = length (held_in d.units.ru)

-- the numbers that are held after it: those that were, without as many of the oldest as ended, then those that begin
abbrev pub held_after : Deed → Scene → List ℕ
held_after d s = numbers_of (drop (length (ended d s)) (still s) ++ begun d s)

abbrev pub advance : Deed → Scene → Scene
advance d s = record { world = world_after d s.world; next = s.next + takes d; held = held_after d s }

-- all that were held, in the order of their numbers; all that ended, in their order
abbrev pub beginnings : List Deed → Scene → List Noted
beginnings [] s = []
beginnings (d ∷ ds) s = begun d s ++ beginnings ds (advance d s)

abbrev pub endings : List Deed → Scene → List Ended
endings [] s = []
endings (d ∷ ds) s = ended d s ++ endings ds (advance d s)

-- how often a number is noted
abbrev pub times : ℕ → List Noted → ℕ
times k [] = 0
times k (n ∷ ns) = cond (eqb n.number k) 1 0 + times k ns

abbrev pub names_of : List Ended → List Noted
names_of es = map (λ (e : Ended). e.noted) es

-- how often an end by a fate is noted under a number, and one by altering
abbrev pub fate_one : Way → ℕ
fate_one (by_call x) = 1
fate_one by_altering = 0

abbrev pub alter_one : Way → ℕ
alter_one (by_call x) = 0
alter_one by_altering = 1

abbrev pub times_fated : ℕ → List Ended → ℕ
times_fated k [] = 0
times_fated k (e ∷ es) = cond (eqb e.noted.number k) (fate_one e.way) 0 + times_fated k es

abbrev pub times_altered : ℕ → List Ended → ℕ
times_altered k [] = 0
times_altered k (e ∷ es) = cond (eqb e.noted.number k) (alter_one e.way) 0 + times_altered k es

-- the host alters no record
abbrev pub is_unaltered : List Deed → Bool
is_unaltered [] = true
is_unaltered (event e ∷ ds) = is_unaltered ds
is_unaltered (alter d r ∷ ds) = false

-- how a deed may end a holding. A call: by a held frame's fate, aborted or reset exactly if the call aborts or resets, else stored, counted or both. The
-- host: where that is allowed, by altering the record, and by nothing else
abbrev pub Proper : (altering : Type 0) → Deed → World → Way → Type 0
Proper altering (event (call c)) w (by_call x) = (of_held x ≡ true) × (is_loss x ≡ loses c w)
Proper altering (event (call c)) w by_altering = ⊥
Proper altering (event (host m h out)) w way = ⊥
Proper altering (alter d r) w (by_call x) = ⊥
Proper altering (alter d r) w by_altering = altering

abbrev pub EachProper : (altering : Type 0) → Deed → World → List Ended → Type 0
EachProper altering d w [] = Unit {0}
EachProper altering d w (e ∷ es) = Proper altering d w e.way × EachProper altering d w es

-- all that ended did so: the endings, deed by deed
abbrev pub AllProper : (altering : Type 0) → List Deed → Scene → Type 0
AllProper altering [] s = Unit {0}
AllProper altering (d ∷ ds) s = EachProper altering d s.world (ended d s) × AllProper altering ds (advance d s)

-- at every call while a frame is held its fate is as said of one call
abbrev pub AllFates : List Deed → World → Type 0
AllFates [] w = Unit {0}
AllFates (event (call c) ∷ ds) w =
    ((f : Frame) → held_in (unit_of w) ≡ f ∷ [] → is_good f ≡ true → GoodFate f c w)
    × ((f : Frame) → held_in (unit_of w) ≡ f ∷ [] → is_good f ≡ false → BadFate f c w)
    × AllFates ds (world_after (event (call c)) w)
AllFates (event (host m h out) ∷ ds) w = AllFates ds (world_after (event (host m h out)) w)
AllFates (alter d r ∷ ds) w = AllFates ds (world_after (alter d r) w)
