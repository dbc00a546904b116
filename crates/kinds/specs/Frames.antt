-- Demand 2's sentences on frames, of an arbitrary chip: what becomes of frames in its own run is what they say. Assumes nothing.
use Rattle.std.specs.Prelude.{◌≡◌, true, List, [], ◌∷◌, ◌++◌, map, ℕ, ◌+◌, ◌<◌, Option}
use Rattle.device.specs.declared.Counter.{Counter}
use Rattle.device.specs.declared.Fate.TheVariants as fate
use Rattle.chip.specs.Call.{Call, reset, attention, arrive, turn, ran}
use Rattle.chip.specs.World.{World}
use Rattle.progress.specs.Trace.{run, AllMay}
use Rattle.traces.specs.Event.{Event, call, host, step}
use Rattle.frames.specs.Arrival.{ArrivalFate}
use Rattle.frames.specs.Held.{ends}
use Rattle.frames.specs.Data.{Staying, ArrivedDelivered}
use Rattle.frames.specs.Fates.{Deed, event, Noted, Ended, opening, still, advance, beginnings, endings, names_of, times, times_fated, AllProper, AllFates}
use Rattle.kinds.specs.Chips.{Chip, Act, events_in}
use Rattle.kinds.specs.Closed.{Right}
use Rattle.kinds.specs.Third.{AllAcceptable, AllRefused, AsSaid}

-- ---- an arrival comes to what is said of its class: held, or one more in one counter, or dropped
abbrev pub Arrived : Call → World → Type 0
Arrived reset w = Unit {0}
Arrived attention w = Unit {0}
Arrived (arrive f v) w = ArrivalFate w f v (ran (arrive f v) w)
Arrived (turn report) w = Unit {0}

abbrev pub AllArrived : List Event → World → Type 0
AllArrived [] w = Unit {0}
AllArrived (call c ∷ es) w = Arrived c w × AllArrived es (step (call c) w)
AllArrived (host m h out ∷ es) w = AllArrived es (step (host m h out) w)

-- ---- frames over a run. The host keeps the record: with one that it alters, to another state in range, another run begins

abbrev pub deeds_in : List Event → List Deed
deeds_in es = map event es

-- all that were held, at first or from their arrival on; all that ended; and those that are held still
abbrev pub held_over : List Event → World → List Noted
held_over es w = still (opening w) ++ beginnings (deeds_in es) (opening w)

abbrev pub ended_over : List Event → World → List Ended
ended_over es w = endings (deeds_in es) (opening w)

abbrev pub still_after : List Event → World → List Noted
still_after es w = still (run advance (deeds_in es) (opening w))

-- a frame arrives in the world w and is held; meanwhile no call loses it or ends it, and the turn that comes then ends it. What is stored are its bytes
abbrev pub StoredBytes : List ℕ → ℕ → Option Counter → List Event → ℕ → World → Type 0
StoredBytes bs v c meanwhile report w =
    let held = step (call (arrive bs v)) w in
    (ran (arrive bs v) w).outcome.fates ≡ fate.Held c ∷ [] → AllMay Staying step meanwhile held
    → ends (turn report) (run step meanwhile held) ≡ true
    → ArrivedDelivered bs meanwhile held report

pub record FramesAsSaid (es : List Event) (w : World) : Type 0 where
  -- "held to be stored or adds one to exactly one counter", at every arrival
  pub arrivals : AllArrived es w
  -- at every call a held frame stays held, is stored, counted or both, or is lost by an abort or a reset
  pub calls : AllFates (deeds_in es) w
  -- "only an abort, a reset or the host's altering of the record may lose a held one": one that was held, under its number, has exactly one fate
  -- or is held still
  pub one_fate : (k : ℕ) → 0 < times k (held_over es w) → times_fated k (ended_over es w) + times k (still_after es w) ≡ 1
  -- frame by frame and in order: those that ended and those that are held still are those that were held; and each end is by a held frame's fate, lost
  -- exactly at a call that aborts or resets
  pub accounted : names_of (ended_over es w) ++ still_after es w ≡ held_over es w
  pub fated : AllProper ⊥ (deeds_in es) (opening w)
  -- "held to be stored": what the buffers get of one that arrived, and what its end writes, are its own bytes, while the host keeps the holding area
  pub stored : (before : List Event) (bs : List ℕ) (v : ℕ) (c : Option Counter) (meanwhile : List Event) (report : ℕ) (after : List Event)
      → es ≡ before ++ (call (arrive bs v) ∷ (meanwhile ++ (call (turn report) ∷ after)))
      → StoredBytes bs v c meanwhile report (run step before w)

-- ---- the demand: whatever comes, attentions, resets, arriving frames, turns, host writes and refused calls, from any state in range on. As with
-- demand 3, what becomes of frames is asked of the definitions' run, and of the chip that it does at every call what the definitions do
pub record Demand2Frames (chip : Chip) : Type 0 where
  pub each : (s : chip.Inner) (acts : List Act) (w : World) → Right w → AllAcceptable (events_in acts) → AllRefused acts
      → FramesAsSaid (events_in acts) w × AsSaid chip s acts w
