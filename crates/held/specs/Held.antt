-- Demand 3, second half, over states: a held frame is stored or counted within so many turns. Assumes nothing.
use Rattle.std.specs.Prelude.{◌≡◌, Bool, true, false, ◌||◌, List, [], ◌∷◌, ◌++◌, ℕ, ◌≤◌, ◌<◌, is_some}
use Rattle.device.specs.Answers.{counter_of, is_stored}
use Rattle.device.specs.State.{held_in, is_good}
use Rattle.device.specs.declared.Fate.{Fate}
use Rattle.device.specs.declared.Frame.{Frame}
use Rattle.chip.specs.World.{World, afterwards}
use Rattle.chip.specs.Call.{reset, attention, arrive, turn}
use Rattle.chip.specs.Turn.{turn_of}
use Rattle.progress.specs.Trace.{run, AllMay, turns}
use Rattle.traces.specs.Event.{Event, call, host, step, is_turn, WhileHeld}
use Rattle.frames.specs.Held.{ends, GoodFate, BadFate}
use Rattle.frames.specs.Data.{AllMeanwhile}

-- ---- the held frame

-- the frames that are held, each as it was judged at its arrival
abbrev pub frames_in : World → List Frame
frames_in w = held_in w.device.units.ru

-- 01, "Arrival and storing": a bad frame is held only with save-bad set, a good one always; no record that is accepted holds another
abbrev pub is_to_hold : Frame → Bool
is_to_hold f = is_good f || f.savebad

-- stored or counted, or both
abbrev pub is_settled : Fate → Bool
is_settled f = is_stored f || is_some (counter_of f)

-- ---- a trace

-- what an event makes of held frames: where no attention or reset comes, turns alone bring them to their end
abbrev pub fates_at : Event → World → List Fate
fates_at (call reset) w = []
fates_at (call attention) w = []
fates_at (call (arrive f v)) w = []
fates_at (call (turn report)) w = (turn_of w report).outcome.fates
fates_at (host m h out) w = []

-- the frame f is held all along, and nothing is made of it
abbrev pub HeldAlong : Frame → List Event → World → Type 0
HeldAlong f [] w = frames_in w ≡ f ∷ []
HeldAlong f (e ∷ es) w = (frames_in w ≡ f ∷ []) × (fates_at e w ≡ []) × HeldAlong f es (step e w)

-- ---- the statement

-- a turn that ends the storing of the frame f: it is stored, counted, or both, in memory and record as said of every call while a frame is held. The
-- turn ends it, so that nothing else of what is said there is possible
pub record Ending (f : Frame) (report : ℕ) (w : World) : Type 0 where
  pub at_end_lem : ends (turn report) w ≡ true
  pub good : is_good f ≡ true → GoodFate f (turn report) w
  pub bad : is_good f ≡ false → BadFate f (turn report) w

-- one of the first n turns of a trace settles the frame f, which is held until then and no longer
pub record Settled (n : ℕ) (f : Frame) (es : List Event) (w : World) : Type 0 where
  pub before : List Event
  pub report : ℕ
  pub after : List Event
  pub split : es ≡ before ++ (call (turn report) ∷ after)
  pub soon : turns is_turn before < n
  pub holds : HeldAlong f before w
  -- until then its own turns write what is said of begin and buffers, and every other call leaves how far storing has come
  pub meanwhile : AllMeanwhile f before w
  pub fate : Fate
  pub given : (turn_of (run step before w) report).outcome.fates ≡ fate ∷ []
  pub settled : is_settled fate ≡ true
  -- what is written then, and what the record says
  pub ending : Ending f report (run step before w)
  pub free : frames_in (afterwards (turn_of (run step before w) report)) ≡ []

-- a held frame is stored or counted within n turns, if the record is kept and no attention or reset comes: whatever arrives, and whatever
-- the host makes of memory, of its size and of both areas before each call
abbrev pub Within : ℕ → Type 0
Within n =
    (w : World) (f : Frame) (es : List Event) → frames_in w ≡ f ∷ [] → is_to_hold f ≡ true → AllMay WhileHeld step es w → n ≤ turns is_turn es
    → Settled n f es w
