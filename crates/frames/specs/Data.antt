-- Held to be stored, byte for byte: what the buffers get of a frame while it is held, put together, is its data. 01, "Arrival and storing": each
-- buffer turn fills its buffer; data left: out of buffers. Assumes nothing.
use Rattle.std.specs.Prelude.{◌≡◌, Bool, true, false, List, [], ◌∷◌, ◌++◌, ℕ, ◌+◌, ◌-◌, ◌<◌, length, take, drop}
use Rattle.memory.specs.Memory.{Write}
use Rattle.memory.specs.declared.Offset.{Offset}
use Rattle.device.specs.Header.{unbuffered}
use Rattle.device.specs.Limits.{held_from}
use Rattle.device.specs.State.{held_in, is_good}
use Rattle.device.specs.declared.Frame.{Frame}
use Rattle.device.specs.declared.Ru.{Ru}
use Rattle.device.specs.declared.Ru.TheVariants as ru
use Rattle.device.specs.declared.Storing.{Storing}
use Rattle.chip.specs.Arrival.{arrival_of}
use Rattle.chip.specs.Call.{arrive, turn, ran}
use Rattle.chip.specs.World.{World}
use Rattle.calls.specs.Calls.{Areas, on_bytes}
use Rattle.progress.specs.Trace.{run}
use Rattle.traces.specs.Areas.{AreBytes, Shows}
use Rattle.traces.specs.Bytes.{called, is_refused}
use Rattle.traces.specs.Driven.{Lending, host_of, events_of}
use Rattle.traces.specs.Event.{Event, call, host, step}
use Rattle.traces.specs.Told.{AllSaid}
use Rattle.frames.specs.Arrival.{settings_of, unit_of}
use Rattle.frames.specs.Held.{loses, ends, is_served, data_to, Meanwhile, GoodFate, BadFate}

-- ---- which events leave the frame held, and its bytes alone

-- a call that neither loses it nor ends it, so attentions that neither reset nor abort may come; the host keeps the holding area, and makes what it
-- will of memory, its size too, and of the outgoing area
abbrev pub Staying : Event → World → Type 0
Staying (call c) w = (loses c w ≡ false) × (ends c w ≡ false)
Staying (host m h out) w = h ≡ w.holding

-- ---- what the buffers get

-- the bytes that a buffer turn writes, and where: the first of its two writes. No other event fills a buffer
abbrev pub fills_by : (served : Bool) → Ru → World → List Write
fills_by false u w = []
fills_by true ru.Idle w = []
fills_by true ru.NoResources w = []
fills_by true (ru.Suspended fd) w = []
fills_by true (ru.Ready fd) w = []
fills_by true (ru.Held fd f p) w = []
fills_by true (ru.Filling s k) w = data_to w s k ∷ []
fills_by true (ru.Closing s free full) w = []
fills_by true (ru.Lacking s) w = []

abbrev pub fills_at : Event → World → List Write
fills_at (call c) w = fills_by (is_served c w) (unit_of w) w
fills_at (host m h out) w = []

-- over a trace, in the order of the buffers
abbrev pub fills_along : List Event → World → List Write
fills_along [] w = []
fills_along (e ∷ es) w = fills_at e w ++ fills_along es (step e w)

-- all that was written, put together
abbrev pub together : List Write → List ℕ
together [] = []
together (x ∷ xs) = x.bytes ++ together xs

-- these are what is written: at every call on the way the frame's own service writes what is said, and any other call leaves how far storing has come
abbrev pub AllMeanwhile : Frame → List Event → World → Type 0
AllMeanwhile f [] w = Unit {0}
AllMeanwhile f (call c ∷ es) w = Meanwhile f c w × AllMeanwhile f es (step (call c) w)
AllMeanwhile f (host m h out ∷ es) w = AllMeanwhile f es (step (host m h out) w)

-- ---- the data of a frame

-- of a frame that begins at `at` in an area: what of its first n bytes stands behind h bytes, which go to no buffer
abbrev pub data_within : (at h n : ℕ) → List ℕ → List ℕ
data_within at h n area = take (n - h) (drop (at + h) area)

-- all of it: what is behind the header; with location 1 the whole frame
abbrev pub data_of : Frame → List ℕ → List ℕ
data_of f area = data_within held_from (unbuffered f.form) f.length area

-- ---- when the end turn is next

-- buffers enough: the buffers got all of the data. Out of buffers: so many bytes of it from its beginning, and fewer than it has
pub data Got (f : Frame) (whole got : List ℕ) (u : Ru) : Type 0 where
  all : (s : Storing) (free : Offset) (full : Bool) → u ≡ ru.Closing s free full → s.frame ≡ f → got ≡ whole → Got f whole got u
  beginning : (s : Storing) (n : ℕ) → u ≡ ru.Lacking s → s.frame ≡ f → n < f.length - unbuffered f.form → got ≡ take n whole
      → Got f whole got u

-- the frame f, whose data is `whole`, was held along the events of a trace, and the turn that comes next ends it: that turn finds its bytes in the
-- holding area still, the buffers have got what is said, and of the frame becomes what is said of a held one, at an end stored, counted or both
pub record Delivered (f : Frame) (whole : List ℕ) (es : List Event) (w : World) (report : ℕ) : Type 0 where
  pub along : AllMeanwhile f es w
  pub holding : (run step es w).holding ≡ w.holding
  pub got : Got f whole (together (fills_along es w)) (unit_of (run step es w))
  pub good : is_good f ≡ true → GoodFate f (turn report) (run step es w)
  pub bad : is_good f ≡ false → BadFate f (turn report) (run step es w)

-- the same of the very bytes that arrived, w being the world after their arrival: 02, Wish 4: "A held frame is stored by the length and location it
-- arrived under, whatever Configure has said since". The data is what they have behind the header, with location 1 all of them, and the header bytes that
-- the end writes, the first of the holding area, are their first
pub record ArrivedDelivered (bs : List ℕ) (es : List Event) (w : World) (report : ℕ) : Type 0 where
  pub frame : Frame
  pub held : held_in (unit_of w) ≡ frame ∷ []
  pub bytes : frame.length ≡ length bs
  pub form : frame.form ≡ (settings_of w).form
  pub first : take (unbuffered frame.form) (run step es w).holding ≡ take (unbuffered frame.form) bs
  pub delivered : Delivered frame (drop (unbuffered frame.form) bs) es w report

-- ---- on the calls, each with what it is lent

-- the turn that ends it is lent bytes, the record and the holding area as they stand, and is not refused; a stands
pub record EndLent (b : Areas) (report : ℕ) (a : Areas) : Type 0 where
  pub bytes : AreBytes b
  pub kept : b.kept ≡ a.kept
  pub holding : b.holding ≡ a.holding
  pub accepted : is_refused (called (turn report) b) ≡ false

-- what happens up to that turn, on states
abbrev pub up_to : List Lending → Areas → List Event
up_to ls b = events_of ls ++ (host_of b ∷ [])

-- each call on the way, refused or not, answers and leaves what the definitions say, so that the buffers' bytes are those that are said; and so does the
-- turn that ends it, which is lent what shows the state
pub record SaidToTheEnd (ls : List Lending) (b : Areas) (w : World) (report : ℕ) : Type 0 where
  pub said : AllSaid ls w
  pub shows : Shows b (run step (up_to ls b) w)
  pub last : called (turn report) b ≡ on_bytes (ran (turn report) (run step (up_to ls b) w))

-- of the frame that is held at first
pub record DeliveredOnBytes (f : Frame) (whole : List ℕ) (ls : List Lending) (b : Areas) (w : World) (report : ℕ) : Type 0 where
  pub delivered : Delivered f whole (up_to ls b) w report
  pub calls : SaidToTheEnd ls b w report

-- of the bytes that a call on the areas a brings, w being the world before it
pub record ArrivedOnBytes (bs : List ℕ) (v : ℕ) (a : Areas) (ls : List Lending) (b : Areas) (w : World) (report : ℕ) : Type 0 where
  pub arrival : called (arrive bs v) a ≡ on_bytes (arrival_of w bs v)
  pub delivered : ArrivedDelivered bs (up_to ls b) (step (call (arrive bs v)) w) report
  pub calls : SaidToTheEnd ls b (step (call (arrive bs v)) w) report
