-- What a call can make of a held frame: 01, "Arrival and storing" and "The SCB". A fate is read from the outcome that also gives the call's writes:
-- each statement ties the outcome's fates to memory and record as the call leaves them. Assumes nothing.
use Rattle.std.specs.Prelude.{◌≡◌, Bool, true, false, not, ◌&&◌, ◌||◌, List, [], ◌∷◌, ◌++◌, map, ℕ, ◌+◌, eqb, leb, length, take, drop}
use Rattle.memory.specs.Address.{place, offset_at, is_none}
use Rattle.memory.specs.Memory.{Write, bytes_to, word_to, word_at, count_to, apply}
use Rattle.memory.specs.declared.Offset.{Offset}
use Rattle.scb.specs.Words.{bit, scb_status_at, scb_command_at, status_word, resets, ruc}
use Rattle.scb.specs.declared.Events.{Events}
use Rattle.device.specs.Answers.{answered}
use Rattle.device.specs.Change.{with_ru, served_ru, with_units}
use Rattle.device.specs.Header.{unbuffered}
use Rattle.device.specs.Limits.{held_from, most_buffers}
use Rattle.device.specs.State.{cu_state, ru_state, is_ready, held_in, fresh}
use Rattle.device.specs.declared.Fate.{Fate}
use Rattle.device.specs.declared.Fate.TheVariants as fate
use Rattle.device.specs.declared.Frame.{Frame}
use Rattle.device.specs.declared.Ru.{Ru}
use Rattle.device.specs.declared.Ru.TheVariants as ru
use Rattle.device.specs.declared.Storing.{Storing}
use Rattle.device.specs.declared.Walk.{Walk}
use Rattle.receive.specs.Begin.{begun_by, is_bare, to_first}
use Rattle.receive.specs.Buffer.{descriptor_at, count, past, is_done, after_buffer, filled_word}
use Rattle.receive.specs.End.{frame_status, bare_mark}
use Rattle.receive.specs.declared.Descriptor.{Descriptor}
use Rattle.control.specs.Control.{ru_suspend, aborted_ru}
use Rattle.control.specs.Obey.{obey_cuc}
use Rattle.attention.specs.Attention.{settled_writes}
use Rattle.chip.specs.Call.{Call, reset, attention, arrive, turn, ran}
use Rattle.chip.specs.World.{World, Ran}
use Rattle.chip.specs.Turn.{served_of, is_receive, raised_in}
use Rattle.frames.specs.Arrival.{in_scb, unit_of}

-- a fate of a held frame, not of an arriving one
abbrev pub of_held : Fate → Bool
of_held fate.TooFew = false
of_held fate.NoMatch = false
of_held fate.UnitIdle = false
of_held fate.UnitSuspended = false
of_held fate.Overrun = false
of_held (fate.Bad c) = false
of_held (fate.Held c) = false
of_held fate.NoResources = false
of_held fate.Stored = true
of_held fate.StoredCounted = true
of_held fate.Counted = true
of_held fate.Aborted = true
of_held fate.Reset = true

-- by which it is lost
abbrev pub is_loss : Fate → Bool
is_loss fate.TooFew = false
is_loss fate.NoMatch = false
is_loss fate.UnitIdle = false
is_loss fate.UnitSuspended = false
is_loss fate.Overrun = false
is_loss (fate.Bad c) = false
is_loss (fate.Held c) = false
is_loss fate.NoResources = false
is_loss fate.Stored = false
is_loss fate.StoredCounted = false
is_loss fate.Counted = false
is_loss fate.Aborted = true
is_loss fate.Reset = true

-- those among the fates that a call gives
abbrev pub chosen : (held : Bool) → Fate → List Fate → List Fate
chosen true x xs = x ∷ xs
chosen false x xs = xs

abbrev pub held_fates : List Fate → List Fate
held_fates [] = []
held_fates (x ∷ xs) = chosen (of_held x) x (held_fates xs)

-- ---- which calls end the holding

-- the SCB's command word, as an attention reads it
abbrev pub command_of : World → ℕ
command_of w = word_at w.memory (in_scb w scb_command_at)

-- 01, "The SCB": the reset call, a resetting attention, or an RU abort
abbrev pub loses : Call → World → Bool
loses reset w = true
loses attention w = resets (command_of w) || eqb (ruc (command_of w)) 4
loses (arrive f v) w = false
loses (turn report) w = false

-- 01, "Turns": an end turn is next once all is stored or buffers lack; it comes when the receive unit is served
abbrev pub end_is_next : Ru → Bool
end_is_next ru.Idle = false
end_is_next ru.NoResources = false
end_is_next (ru.Suspended fd) = false
end_is_next (ru.Ready fd) = false
end_is_next (ru.Held fd f p) = false
end_is_next (ru.Filling s w) = false
end_is_next (ru.Closing s free full) = true
end_is_next (ru.Lacking s) = true

-- the call is a turn that goes to the receive unit: the held frame's own service
abbrev pub is_served : Call → World → Bool
is_served reset w = false
is_served attention w = false
is_served (arrive f v) w = false
is_served (turn report) w = is_receive (served_of w.device.units)

abbrev pub ends : Call → World → Bool
ends reset w = false
ends attention w = false
ends (arrive f v) w = false
ends (turn report) w = is_served (turn report) w && end_is_next (unit_of w)

-- ---- it stays held

-- the same frame, judged as it was, in the holding area as it was; no fate of a held frame is given
pub record StaysHeld (f : Frame) (w : World) (r : Ran) : Type 0 where
  pub unit : held_in r.outcome.device.units.ru ≡ f ∷ []
  pub holding : r.holding ≡ w.holding
  pub fates : held_fates r.outcome.fates ≡ []

-- ---- its own service, short of its end: 01, "Arrival and storing": begin, and each buffer turn

-- begin: 4000h at its descriptor
abbrev pub begun_to : World → Offset → Write
begun_to w fd = word_to (place w.device.units.base fd 0) 0x4000

-- +2 and +6 are read: storing comes to the first buffer, or the end is next
abbrev pub begun_unit : World → Offset → Frame → (pausing : Bool) → Ru
begun_unit w fd f pausing =
    let first = offset_at w.memory (place w.device.units.base fd 6) in
    to_first (is_bare f) (is_none first) (begun_by fd f pausing (word_at w.memory (place w.device.units.base fd 2))) first

-- a buffer: one descriptor is read whole
abbrev pub buffer_in : World → Walk → Descriptor
buffer_in w k = descriptor_at w.device.units.base k.next w.memory

-- its buffer is filled, at its real address: so many bytes of the holding area, from where storing has come to
abbrev pub data_to : World → Storing → Walk → Write
data_to w s k = bytes_to (buffer_in w k).buffer.0 (take (count s k (buffer_in w k)) (drop (held_from + k.filled) w.holding))

-- then F, count, and EOF if the data ends there
abbrev pub filled_to : World → Storing → Walk → Write
filled_to w s k =
    word_to (place w.device.units.base k.next 0) (filled_word (is_done s (past s k (buffer_in w k))) (count s k (buffer_in w k)))

-- storing comes so much further, or the end is next
abbrev pub filled_unit : World → Storing → Walk → Ru
filled_unit w s k =
    let d = buffer_in w k in
    after_buffer (is_done s (past s k d)) d.el (is_none d.next) (leb most_buffers (k.used + 1)) s (past s k d)

-- memory changes by these writes and by nothing else, none of them a counter's; both areas are as they were; nothing is sent, there is no edge and no
-- fate; of the record the receive unit changes, and that it was the one served: the events are as before
pub record OnlyWrites (next : Ru) (writes : List Write) (w : World) (r : Ran) : Type 0 where
  pub memory : r.memory ≡ apply writes w.memory
  pub holding : r.holding ≡ w.holding
  pub outgoing : r.outgoing ≡ w.outgoing
  pub answer : r.outcome.answer ≡ answered 0 false
  pub fates : r.outcome.fates ≡ []
  pub device : r.outcome.device ≡ with_units w.device (served_ru (with_ru w.device.units next) true)

pub data Serves (f : Frame) (w : World) (r : Ran) : Type 0 where
  begin : (fd : Offset) (pausing : Bool) → unit_of w ≡ ru.Held fd f pausing → OnlyWrites (begun_unit w fd f pausing) (begun_to w fd ∷ []) w r
      → Serves f w r
  buffer : (s : Storing) (k : Walk) → unit_of w ≡ ru.Filling s k → s.frame ≡ f
      → OnlyWrites (filled_unit w s k) (data_to w s k ∷ filled_to w s k ∷ []) w r
      → Serves f w r

-- by this call a SUSPEND comes to wait: an attention with RUC 3. The first attention after reset obeys no command word; it finds no frame held, as a
-- state in range that is not initialised holds none
abbrev pub suspends_at : Call → World → Bool
suspends_at reset w = false
suspends_at attention w = eqb (ruc (command_of w)) 3
suspends_at (arrive f v) w = false
suspends_at (turn report) w = false

-- any other call leaves how far storing has come; a SUSPEND comes to wait exactly by such a call
pub data Waits (w : World) (c : Call) : Type 0 where
  untouched : suspends_at c w ≡ false → (ran c w).outcome.device.units.ru ≡ unit_of w → Waits w c
  suspends : suspends_at c w ≡ true → (ran c w).outcome.device.units.ru ≡ ru_suspend (unit_of w) → Waits w c

-- what a call that leaves it held does with it
pub data Meanwhile (f : Frame) (c : Call) (w : World) : Type 0 where
  served : is_served c w ≡ true → Serves f w (ran c w) → Meanwhile f c w
  unserved : is_served c w ≡ false → Waits w c → Meanwhile f c w

-- ---- they are held no more: so much is there wherever held frames' fates are given: of the frames that were held the oldest are gone, as many as
-- have a fate, and the others stay

pub record FatesOfHeld (w : World) (r : Ran) : Type 0 where
  pub gone : List Frame
  pub stay : List Frame
  pub held : held_in (unit_of w) ≡ gone ++ stay
  pub left : held_in r.outcome.device.units.ru ≡ stay
  pub each : length (held_fates r.outcome.fates) ≡ length gone

-- ---- the writes of an end turn

-- a field of its frame descriptor
abbrev pub in_frame : World → Storing → ℕ → ℕ
in_frame w s field = place w.device.units.base s.fd field

-- the header bytes, by the form that the frame arrived under (with location 1 none), from the holding area; the status
abbrev pub header_to : World → Storing → Write
header_to w s = bytes_to (in_frame w s 8) (take (unbuffered s.frame.form) w.holding)

abbrev pub mark_to : World → Storing → ℕ → Write
mark_to w s status = word_to (in_frame w s 0) status

-- FFFFh at +6 if no data
abbrev pub bare_to : World → Storing → List Write
bare_to w s = bare_mark (is_bare s.frame) (in_frame w s 6)

-- all of these
abbrev pub described : (lacking : Bool) → World → Storing → List Write
described lacking w s = header_to w s ∷ mark_to w s (frame_status lacking s.frame) ∷ bare_to w s

-- the link, read now: after these writes of a frame that is stored with buffers enough
abbrev pub link_now : World → Storing → Offset
link_now w s = offset_at (apply (described false w s) w.memory) (in_frame w s 4)

-- unless No Resources follows, +6 of the next frame descriptor (link read now) gets the next free offset
abbrev pub onward_by : (exhausted : Bool) → World → Storing → Offset → List Write
onward_by true w s free = []
onward_by false w s free = word_to (place w.device.units.base (link_now w s) 6) free.0 ∷ []

abbrev pub onward : World → Storing → Offset → Bool → List Write
onward w s free full = onward_by (s.el || full) w s free

-- the SCB status, as the record has it after the call
abbrev pub status_after : World → Ran → List Write
status_after w r =
    let u = r.outcome.device.units in word_to (in_scb w scb_status_at) (status_word u.events (cu_state u.cu) (ru_state u.ru)) ∷ []

-- ---- stored, counted

-- stored: the turn's writes contain the header bytes from the holding area and the status word with C (and bit 9 exactly if out of buffers)
pub record Stored (lacking : Bool) (s : Storing) (rest : List Write) (w : World) (r : Ran) : Type 0 where
  pub memory : r.memory ≡ apply (header_to w s ∷ mark_to w s (frame_status lacking s.frame) ∷ rest) w.memory
  pub complete : bit (frame_status lacking s.frame) 15 ≡ true
  pub lacks : bit (frame_status lacking s.frame) 9 ≡ lacking

-- counted: after the frame's other writes RSCERRS becomes one more (modulo 65,536) than the word that stands there then, and only the SCB status
-- follows
pub record Counted (others : List Write) (w : World) (r : Ran) : Type 0 where
  pub memory : r.memory ≡ apply (others ++ (count_to (apply others w.memory) (in_scb w 12) ∷ status_after w r)) w.memory

-- ---- all else of an end turn

-- descriptor EL, or EL on the last buffer used, gives No Resources, which wins over Suspended; otherwise S or a waiting SUSPEND suspends
abbrev pub unit_by : (exhausted pauses : Bool) → (link : Offset) → Ru
unit_by true pauses link = ru.NoResources
unit_by false true link = ru.Suspended link
unit_by false false link = ru.Ready link

-- the unit, all being stored: its next frame descriptor is the link, read now. Out of buffers: No Resources
abbrev pub unit_after : World → Storing → (full : Bool) → Ru
unit_after w s full = unit_by (s.el || full) (s.suspend || s.pausing) (link_now w s)

-- the events: if stored, raise FR; leaving Ready raises RNR
abbrev pub raised_at_end : (stored : Bool) → (next : Ru) → Events
raised_at_end stored next = record { cx = false; fr = stored; cna = false; rnr = not (is_ready (ru_state next)) }

-- of the record the receive unit changes, that it was the one served, and the events raised are set; nothing is sent, and an event is raised, so there
-- is an edge; both areas are as they were
pub record AtEnd (stored : Bool) (next : Ru) (w : World) (r : Ran) : Type 0 where
  pub device : r.outcome.device ≡ with_units w.device (raised_in (served_ru (with_ru w.device.units next) true) (raised_at_end stored next))
  pub answer : r.outcome.answer ≡ answered 0 true
  pub holding : r.holding ≡ w.holding
  pub outgoing : r.outgoing ≡ w.outgoing

-- ---- lost: only by the reset call, a resetting attention, or an RU abort

-- this fate for each held frame
abbrev pub for_each : Fate → World → List Fate
for_each x w = map (λ (f : Frame). x) (held_in (unit_of w))

pub data Lost (w : World) : Call → Type 0 where
  -- the record alone, whose content is ignored: so the outcome has no fates, and memory stays
  by_reset : (ran reset w).outcome.device ≡ fresh → (ran reset w).memory ≡ w.memory → Lost w reset
  -- write command 0 and become as after reset, nothing else
  by_resetting : resets (command_of w) ≡ true → (ran attention w).outcome.fates ≡ for_each fate.Reset w → (ran attention w).outcome.device ≡ fresh
      → (ran attention w).memory ≡ apply (word_to (in_scb w scb_command_at) 0x0000 ∷ []) w.memory
      → Lost w attention
  -- dropped uncounted: what CUC writes, 0000h to its frame descriptor if begun, then status and command
  by_abort : resets (command_of w) ≡ false → ruc (command_of w) ≡ 4 → (ran attention w).outcome.fates ≡ for_each fate.Aborted w
      → (ran attention w).outcome.device.units.ru ≡ ru.Idle
      → (ran attention w).memory
      ≡ apply ((obey_cuc w.device.units (command_of w) w.memory).writes ++ aborted_ru w.device.units.base (unit_of w)
      ++ settled_writes (ran attention w).outcome.device.units) w.memory
      → Lost w attention

-- ---- what becomes of a good one: stored exactly at the end of what has buffers enough, both exactly if kept with too few buffers

pub data GoodFate (f : Frame) (c : Call) (w : World) : Type 0 where
  stays : loses c w ≡ false → ends c w ≡ false → StaysHeld f w (ran c w) → Meanwhile f c w → GoodFate f c w
  stored : (s : Storing) (free : Offset) (full : Bool) → ends c w ≡ true → unit_of w ≡ ru.Closing s free full → s.frame ≡ f
      → (ran c w).outcome.fates ≡ fate.Stored ∷ []
      → Stored false s (bare_to w s ++ (onward w s free full ++ status_after w (ran c w))) w (ran c w)
      → AtEnd true (unit_after w s full) w (ran c w)
      → GoodFate f c w
  counted : (s : Storing) → ends c w ≡ true → unit_of w ≡ ru.Lacking s → s.frame ≡ f → f.savebad ≡ false
      → (ran c w).outcome.fates ≡ fate.Counted ∷ []
      → Counted (mark_to w s 0x0000 ∷ []) w (ran c w)
      → AtEnd false ru.NoResources w (ran c w)
      → GoodFate f c w
  both : (s : Storing) → ends c w ≡ true → unit_of w ≡ ru.Lacking s → s.frame ≡ f → f.savebad ≡ true
      → (ran c w).outcome.fates ≡ fate.StoredCounted ∷ []
      → Stored true s (bare_to w s ++ (count_to (apply (described true w s) w.memory) (in_scb w 12) ∷ status_after w (ran c w))) w (ran c w)
      → Counted (described true w s) w (ran c w)
      → AtEnd true ru.NoResources w (ran c w)
      → GoodFate f c w
  lost : loses c w ≡ true → Lost w c → GoodFate f c w

-- ---- what becomes of a bad one, which is held only to be saved: no write of its end turn is a counter's

pub data BadFate (f : Frame) (c : Call) (w : World) : Type 0 where
  stays : loses c w ≡ false → ends c w ≡ false → StaysHeld f w (ran c w) → Meanwhile f c w → BadFate f c w
  stored : (s : Storing) (free : Offset) (full : Bool) → ends c w ≡ true → unit_of w ≡ ru.Closing s free full → s.frame ≡ f
      → (ran c w).outcome.fates ≡ fate.Stored ∷ []
      → Stored false s (bare_to w s ++ (onward w s free full ++ status_after w (ran c w))) w (ran c w)
      → AtEnd true (unit_after w s full) w (ran c w)
      → BadFate f c w
  lacking : (s : Storing) → ends c w ≡ true → unit_of w ≡ ru.Lacking s → s.frame ≡ f
      → (ran c w).outcome.fates ≡ fate.Stored ∷ []
      → Stored true s (bare_to w s ++ status_after w (ran c w)) w (ran c w)
      → AtEnd true ru.NoResources w (ran c w)
      → BadFate f c w
  lost : loses c w ≡ true → Lost w c → BadFate f c w
