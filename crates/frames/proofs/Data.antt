-- Demand 2 of frames, "held to be stored": along a trace in which a frame stays held and the host keeps the holding area, the buffers get its data, all of
-- it if it is stored with buffers enough, a proper beginning of it if out of buffers. Assumes nothing.
use mathlib.Core.Path.{◌≡◌, refl, sym, ap, ap₂, ◌∙◌, subst}
use mathlib.Core.Bool.{Bool, true, false, true≢false, false≢true}
use mathlib.Core.List.{List, [], ◌∷◌, ◌++◌, append-nil, append_assoc, head-eq_of_cons-eq}
use Prim.Native.Nat.{ℕ, ◌+◌, ◌-◌, ◌≤◌, ◌<◌, min}
use native.Mathlib.Omega.{arith}
use borrow.Author.Tests.{leb-true, leb-false}
use lib.Dec.{leb}
use lib.ListN.{length, take, drop, length-take}
use lib.Seq.{take-add, drop-drop, take-take, drop_at}
use Rattle.std.specs.Prelude.{Option, None}
use Rattle.memory.specs.Memory.{Write}
use Rattle.memory.proofs.Bytes.{Bytes, bytes_nil}
use Rattle.memory.proofs.Power.{size_allowed_lem}
use Rattle.memory.specs.declared.Offset.{Offset}
use Rattle.device.specs.Answers.{is_held}
use Rattle.device.specs.Header.{unbuffered}
use Rattle.device.specs.Limits.{held_from}
use Rattle.device.specs.Numbers.{verdict_of}
use Rattle.device.specs.State.{held_in}
use Rattle.device.specs.declared.Counter.{Counter}
use Rattle.device.specs.declared.Device.{Device}
use Rattle.device.specs.declared.Fate.{Fate}
use Rattle.device.specs.declared.Fate.TheVariants as fate
use Rattle.device.specs.declared.Frame.{Frame}
use Rattle.device.specs.declared.Ru.{Ru}
use Rattle.device.specs.declared.Ru.TheVariants as ru
use Rattle.device.specs.declared.Storing.{Storing}
use Rattle.device.specs.declared.Verdict.{Verdict}
use Rattle.device.specs.declared.Verdict.TheVariants as verdict
use Rattle.device.specs.declared.Walk.{Walk}
use Rattle.device.proofs.Header.{at_most_the_header}
use Rattle.image.specs.Ranges.{in_range}
use Rattle.phases.proofs.Units.{both as parts}
use Rattle.receive.specs.Begin.{begun_by, to_first, is_bare}
use Rattle.receive.specs.Buffer.{count, past, is_done, after_buffer}
use Rattle.control.specs.Control.{ru_suspend}
use Rattle.chip.specs.Arrival.{arrival_of}
use Rattle.chip.specs.Call.{Call, arrive, turn, ran}
use Rattle.chip.specs.World.{World, Ran, afterwards}
use Rattle.calls.specs.Calls.{Areas, on_bytes}
use Rattle.progress.specs.Trace.{run, AllMay}
use Rattle.progress.proofs.Trace.{may_append}
use Rattle.traces.specs.Areas.{AreBytes, Holds, world_in, world_said, Shows}
use Rattle.traces.specs.Bytes.{called, is_refused}
use Rattle.traces.specs.Driven.{Lending, left, host_of, events_of, AllFair}
use Rattle.traces.specs.Event.{Event, call, host, step}
use Rattle.closure.proofs.Carried.{not_refused, carry, carry_shown}
use Rattle.closure.proofs.Driven.{shows_said, fair_along}
use Rattle.closure.proofs.Told.{fair_said}
use Rattle.frames.specs.Arrival.{RightLengths, settings_of, header_in, unit_of, judged_as, short_by, IsHeld, ArrivalFate}
use Rattle.frames.specs.Arrival as arrival
use Rattle.frames.specs.Held.{loses, is_served, ends, end_is_next, begun_unit, buffer_in, data_to, filled_unit, Serves, Waits, untouched, suspends, Meanwhile, served, unserved}
use Rattle.frames.specs.Held as held
use Rattle.frames.specs.Data.{Staying, fills_by, fills_at, fills_along, together, AllMeanwhile, data_within, data_of, Got, all, beginning, Delivered, ArrivedDelivered, EndLent, up_to, SaidToTheEnd, DeliveredOnBytes, ArrivedOnBytes}
use Rattle.frames.proofs.Arrival.{arrival_fate}
use Rattle.frames.proofs.Held.{HeldFate, stays, closing, lacking, lost, held_fate}
use Rattle.frames.proofs.Sound.{Sound, in_range_sound, sound_initialised, call_sound, good_sound, bad_sound}

-- ---- the law, in plain variables: of a frame that begins at `at` in an area, with a header of h bytes

-- with the header behind, nothing of the data has been written
pub none_yet : (at h : ℕ) (area : List ℕ) → data_within at h h area ≡ []
none_yet at h area = let z : h - h ≡ 0 = omega arith in rw z

-- k bytes more, from where storing has come to
pub so_much_further : (at h filled k : ℕ) (area : List ℕ) → h ≤ filled
    → data_within at h filled area ++ take k (drop (at + filled) area) ≡ data_within at h (filled + k) area
so_much_further at h filled k area l =
    let e : filled + k - h ≡ (filled - h) + k = omega arith in
    let o : at + filled ≡ at + h + (filled - h) = omega arith in
    rw (e, take-add, drop-drop, o)

-- so much is a beginning of all n bytes' data
pub so_far_lem : (at h filled n : ℕ) (area : List ℕ) → filled ≤ n → data_within at h filled area ≡ take (filled - h) (data_within at h n area)
so_far_lem at h filled n area l = sym (take-take (filled - h) (n - h) (drop (at + h) area) (omega arith))

-- of bytes that stand there
pub behind_header : (at h : ℕ) (bs area : List ℕ) → h ≤ length bs → take (length bs) (drop at area) ≡ bs
    → data_within at h (length bs) area ≡ drop h bs
behind_header at h bs area l e =
    let k = drop at area in
    let n : length bs ≡ h + (length bs - h) = omega arith in
    let full : min (length bs) (length k) ≡ length bs = sym (length-take (length bs) k) ∙ ap (λ (x : List ℕ). length x) e in
    let size : length (take h k) ≡ h = length-take h k ∙ omega arith in
    ap (take (length bs - h)) (sym (drop-drop h at area))
    ∙ sym (drop_at (take h k) (take (length bs - h) (drop h k)) h size)
    ∙ ap (drop h) (sym (take-add h (length bs - h) k))
    ∙ ap (λ (x : ℕ). drop h (take x k)) (sym n)
    ∙ ap (drop h) e

-- ---- how far storing has come, and what the buffers have got by then

abbrev pub Sofar : Frame → (area got : List ℕ) → Ru → Type 0
Sofar f area got ru.Idle = ⊥
Sofar f area got ru.NoResources = ⊥
Sofar f area got (ru.Suspended fd) = ⊥
Sofar f area got (ru.Ready fd) = ⊥
Sofar f area got (ru.Held fd g p) = (g ≡ f) × (got ≡ [])
Sofar f area got (ru.Filling s k) =
    (s.frame ≡ f) × (unbuffered f.form ≤ k.filled) × (k.filled < f.length) × (got ≡ data_within held_from (unbuffered f.form) k.filled area)
Sofar f area got (ru.Closing s free full) = (s.frame ≡ f) × (got ≡ data_of f area)
Sofar f area got (ru.Lacking s) = (s.frame ≡ f) × ((n : ℕ) × (n < f.length - unbuffered f.form) × (got ≡ take n (data_of f area)))

sofar_held : (f : Frame) (area got : List ℕ) (u : Ru) → Sofar f area got u → held_in u ≡ f ∷ []
sofar_held f area got ru.Idle h = absurd h
sofar_held f area got ru.NoResources h = absurd h
sofar_held f area got (ru.Suspended fd) h = absurd h
sofar_held f area got (ru.Ready fd) h = absurd h
sofar_held f area got (ru.Held fd g p) h = ap (λ (x : Frame). x ∷ []) h.0
sofar_held f area got (ru.Filling s k) h = ap (λ (x : Frame). x ∷ []) h.0
sofar_held f area got (ru.Closing s free full) h = ap (λ (x : Frame). x ∷ []) h.0
sofar_held f area got (ru.Lacking s) h = ap (λ (x : Frame). x ∷ []) h.0

-- a SUSPEND that comes to wait changes nothing of that
sofar_suspended : (f : Frame) (area got : List ℕ) (u : Ru) → Sofar f area got u → Sofar f area got (ru_suspend u)
sofar_suspended f area got ru.Idle h = h
sofar_suspended f area got ru.NoResources h = h
sofar_suspended f area got (ru.Suspended fd) h = h
sofar_suspended f area got (ru.Ready fd) h = h
sofar_suspended f area got (ru.Held fd g p) h = h
sofar_suspended f area got (ru.Filling s k) h = h
sofar_suspended f area got (ru.Closing s free full) h = h
sofar_suspended f area got (ru.Lacking s) h = h

-- begin: nothing is written of the data, and there is none, or data is left at FFFFh, or the first buffer is next
begun_sofar : (bare none : Bool) (s : Storing) (first : Offset) (f : Frame) (area : List ℕ) → s.frame ≡ f → is_bare f ≡ bare
    → Sofar f area [] (to_first bare none s first)
begun_sofar true none s first f area q b =
    let u = unbuffered f.form in
    let l = leb-true f.length u b in
    let z : f.length - u ≡ 0 = omega arith in
    (q, ap (λ (n : ℕ). take n (drop (held_from + u) area)) (sym z))
begun_sofar false true s first f area q b =
    let l = leb-false f.length (unbuffered f.form) b in (q, (0, omega arith, refl))
begun_sofar false false s first f area q b =
    let u = unbuffered f.form in
    let l = leb-false f.length u b in
    let e : unbuffered s.frame.form ≡ u = ap (λ (x : Frame). unbuffered x.form) q in
    (q, omega (arith, e), omega (arith, e), rw e (sym (none_yet held_from u area)))

-- a buffer: all of the data has been written, or data is left
left_over : (s : Storing) (n : ℕ) (f : Frame) (area : List ℕ) → s.frame ≡ f → unbuffered f.form ≤ n → n < f.length
    → Sofar f area (data_within held_from (unbuffered f.form) n area) (ru.Lacking s)
left_over s n f area q h l = let u = unbuffered f.form in (q, (n - u, omega arith, so_far_lem held_from u n f.length area (omega arith)))

filled_sofar : (done el none last : Bool) (s : Storing) (next : Walk) (f : Frame) (area : List ℕ) → s.frame ≡ f → unbuffered f.form ≤ next.filled
    → next.filled ≤ f.length → leb s.frame.length next.filled ≡ done
    → Sofar f area (data_within held_from (unbuffered f.form) next.filled area) (after_buffer done el none last s next)
filled_sofar true el none last s next f area q h l d =
    let t = leb-true s.frame.length next.filled d in
    let same : s.frame.length ≡ f.length = ap (λ (x : Frame). x.length) q in
    let e : next.filled ≡ f.length = omega arith in
    (q, ap (λ (n : ℕ). data_within held_from (unbuffered f.form) n area) e)
filled_sofar false true none last s next f area q h l d =
    let t = leb-false s.frame.length next.filled d in
    let same : s.frame.length ≡ f.length = ap (λ (x : Frame). x.length) q in
    left_over s next.filled f area q h (omega arith)
filled_sofar false false true last s next f area q h l d =
    let t = leb-false s.frame.length next.filled d in
    let same : s.frame.length ≡ f.length = ap (λ (x : Frame). x.length) q in
    left_over s next.filled f area q h (omega arith)
filled_sofar false false false true s next f area q h l d =
    let t = leb-false s.frame.length next.filled d in
    let same : s.frame.length ≡ f.length = ap (λ (x : Frame). x.length) q in
    left_over s next.filled f area q h (omega arith)
filled_sofar false false false false s next f area q h l d =
    let t = leb-false s.frame.length next.filled d in
    let same : s.frame.length ≡ f.length = ap (λ (x : Frame). x.length) q in
    (q, h, omega arith, refl)

-- ---- one event

-- a service of the frame's own
begin_on : (w : World) (fd : Offset) (p : Bool) (f : Frame) (area got : List ℕ) → Sofar f area got (ru.Held fd f p)
    → Sofar f area (got ++ []) (begun_unit w fd f p)
unfolding begun_by
begin_on w fd p f area got h = rw h.1 (begun_sofar (is_bare f) _ _ _ f area refl refl)

buffer_on : (w : World) (s : Storing) (k : Walk) (f : Frame) (got : List ℕ) → Sofar f w.holding got (ru.Filling s k)
    → Sofar f w.holding (got ++ ((data_to w s k).bytes ++ [])) (filled_unit w s k)
buffer_on w s k f got h =
    let d = buffer_in w k in
    let same : s.frame.length ≡ f.length = ap (λ (x : Frame). x.length) h.0 in
    let u = unbuffered f.form in
    let least : u ≤ k.filled = h.1 in
    let most : k.filled < f.length = h.2 in
    let e : got ++ ((data_to w s k).bytes ++ []) ≡ data_within held_from u (k.filled + count s k d) w.holding =
    ap₂ (λ (x y : List ℕ). x ++ y) h.3 (append-nil (data_to w s k).bytes)
    ∙ so_much_further held_from u k.filled (count s k d) w.holding h.1
    in
    subst (λ (x : List ℕ). Sofar f w.holding x (filled_unit w s k)) (sym e)
    (filled_sofar (is_done s (past s k d)) d.el _ _ s (past s k d) f w.holding h.0 (omega arith) (omega arith) refl)

-- what a call leaves, where it leaves the frame held
On : Frame → (got : List ℕ) → Call → World → Type 0
On f got c w = Sofar f w.holding (got ++ together (fills_by (is_served c w) (unit_of w) w)) (ran c w).outcome.device.units.ru

serves_on : (c : Call) (w : World) (f : Frame) (got : List ℕ) → is_served c w ≡ true → Sofar f w.holding got (unit_of w) → Serves f w (ran c w)
    → On f got c w
unfolding On
serves_on c w f got v h (held.begin fd p e o) =
    let next : (ran c w).outcome.device.units.ru ≡ begun_unit w fd f p = ap (λ (d : Device). d.units.ru) o.device in
    rw (v, next, e) (begin_on w fd p f w.holding got (rw e at h))
serves_on c w f got v h (held.buffer s k e q o) =
    let next : (ran c w).outcome.device.units.ru ≡ filled_unit w s k = ap (λ (d : Device). d.units.ru) o.device in
    rw (v, next, e) (buffer_on w s k f got (rw e at h))

waits_on : (c : Call) (w : World) (f : Frame) (got : List ℕ) → is_served c w ≡ false → Sofar f w.holding got (unit_of w) → Waits w c → On f got c w
unfolding On
waits_on c w f got v h (untouched r e) = rw (v, append-nil, e) h
waits_on c w f got v h (suspends r e) = rw (v, append-nil, e) (sofar_suspended f w.holding got (unit_of w) h)

meanwhile_on : (c : Call) (w : World) (f : Frame) (got : List ℕ) → Sofar f w.holding got (unit_of w) → Meanwhile f c w → On f got c w
meanwhile_on c w f got h (served v x) = serves_on c w f got v h x
meanwhile_on c w f got h (unserved v x) = waits_on c w f got v h x

-- a call that neither loses nor ends it
record Stayed (f : Frame) (got : List ℕ) (c : Call) (w : World) : Type 0 where
  holding : (ran c w).holding ≡ w.holding
  sofar : On f got c w
  meanwhile : Meanwhile f c w

stayed : (c : Call) (w : World) (f : Frame) (got : List ℕ) → loses c w ≡ false → ends c w ≡ false → Sofar f w.holding got (unit_of w) → HeldFate f c w
    → Stayed f got c w
stayed c w f got l n h (stays a b k m) = record { holding = k.holding; sofar = meanwhile_on c w f got h m; meanwhile = m }
stayed c w f got l n h (closing s free full b e q k) = absurd (true≢false (sym b ∙ n))
stayed c w f got l n h (lacking s b e q r) = absurd (true≢false (sym b ∙ n))
stayed c w f got l n h (lost a k) = absurd (true≢false (sym a ∙ l))

-- ---- all along

together_append : (xs ys : List Write) → together (xs ++ ys) ≡ together xs ++ together ys
together_append [] ys = refl
together_append (x ∷ xs) ys = ap (λ (l : List ℕ). x.bytes ++ l) (together_append xs ys) ∙ sym (append_assoc x.bytes (together xs) (together ys))

-- the bytes that the frame had when it came to be held are there still, and the buffers have got so much of them
record Along (f : Frame) (area got : List ℕ) (w : World) : Type 0 where
  sound : Sound w.device
  holding : w.holding ≡ area
  sofar : Sofar f area got (unit_of w)

one_call : (c : Call) (w : World) (f : Frame) (area got : List ℕ) → Staying (call c) w → Along f area got w → Stayed f got c w
one_call c w f area got m a =
    let h = subst (λ (x : List ℕ). Sofar f x got (unit_of w)) (sym a.holding) a.sofar in
    let i = sound_initialised w.device f a.sound (sofar_held f w.holding got (unit_of w) h) in
    stayed c w f got m.0 m.1 h (held_fate c w f i (sofar_held f w.holding got (unit_of w) h))

one_event : (e : Event) (w : World) (f : Frame) (area got : List ℕ) → Staying e w → Along f area got w
    → Along f area (got ++ together (fills_at e w)) (step e w)
unfolding On
one_event (call c) w f area got m a =
    let k = one_call c w f area got m a in
    record {
      sound = call_sound c w a.sound;
      holding = k.holding ∙ a.holding;
      sofar = subst (λ (x : List ℕ). Sofar f x (got ++ together (fills_at (call c) w)) (ran c w).outcome.device.units.ru) a.holding k.sofar;
    }
one_event (host n x out) w f area got m a =
    record { sound = a.sound; holding = m ∙ a.holding; sofar = rw append-nil a.sofar }

along : (es : List Event) (w : World) (f : Frame) (area got : List ℕ) → AllMay Staying step es w → Along f area got w
    → Along f area (got ++ together (fills_along es w)) (run step es w)
along [] w f area got m a = record { sound = a.sound; holding = a.holding; sofar = rw append-nil a.sofar }
along (e ∷ es) w f area got m a =
    rw (together_append, ← append_assoc) (along es (step e w) f area (got ++ together (fills_at e w)) m.1 (one_event e w f area got m.0 a))

meanwhile : (es : List Event) (w : World) (f : Frame) (area got : List ℕ) → AllMay Staying step es w → Along f area got w → AllMeanwhile f es w
meanwhile [] w f area got m a = tt
meanwhile (call c ∷ es) w f area got m a = (
  (one_call c w f area got m.0 a).meanwhile,
  meanwhile es (step (call c) w) f area (got ++ together (fills_at (call c) w)) m.1 (one_event (call c) w f area got m.0 a),
)
meanwhile (host n x out ∷ es) w f area got m a =
    meanwhile es (step (host n x out) w) f area (got ++ []) m.1 (one_event (host n x out) w f area got m.0 a)

-- ---- when the end turn is next

ending : (u : Ru) (f : Frame) (area got : List ℕ) → end_is_next u ≡ true → Sofar f area got u → Got f (data_of f area) got u
ending ru.Idle f area got e h = absurd h
ending ru.NoResources f area got e h = absurd h
ending (ru.Suspended fd) f area got e h = absurd h
ending (ru.Ready fd) f area got e h = absurd h
ending (ru.Held fd g p) f area got e h = absurd (false≢true e)
ending (ru.Filling s k) f area got e h = absurd (false≢true e)
ending (ru.Closing s free full) f area got e h = all s free full refl h.0 h.1
ending (ru.Lacking s) f area got e h = beginning s h.1.0 refl h.0 h.1.1 h.1.2

-- where a state is as calls leave it
sound_delivered : (w : World) (fd : Offset) (f : Frame) (p : Bool) (es : List Event) (report : ℕ) → Sound w.device → unit_of w ≡ ru.Held fd f p
    → AllMay Staying step es w → ends (turn report) (run step es w) ≡ true
    → Delivered f (data_of f w.holding) es w report
sound_delivered w fd f p es report s e m n =
    let first : Along f w.holding [] w = record { sound = s; holding = refl; sofar = rw e (refl, refl) } in
    let a = along es w f w.holding [] m first in
    let h = sofar_held f w.holding _ (unit_of (run step es w)) a.sofar in
    record {
      along = meanwhile es w f w.holding [] m first;
      holding = a.holding;
      got = ending (unit_of (run step es w)) f w.holding _ (parts (is_served (turn report) (run step es w)) _ n).1 a.sofar;
      good = good_sound (turn report) (run step es w) f a.sound h;
      bad = bad_sound (turn report) (run step es w) f a.sound h;
    }

-- a frame that is held and not begun: along any events that leave it held and its bytes alone the buffers get its data, all of it or a proper beginning,
-- until the turn that ends it. Nothing is asked of memory
pub delivered : (w : World) (fd : Offset) (f : Frame) (p : Bool) (es : List Event) (report : ℕ) → in_range w.device ≡ true
    → unit_of w ≡ ru.Held fd f p → AllMay Staying step es w → ends (turn report) (run step es w) ≡ true
    → Delivered f (data_of f w.holding) es w report
delivered w fd f p es report r e m n = sound_delivered w fd f p es report (in_range_sound w.device r) e m n

-- ---- from the arrival on

-- a frame of these bytes is held, and stands at the beginning of the holding area
record Came (bs : List ℕ) (r : Ran) : Type 0 where
  fd : Offset
  frame : Frame
  unit : r.outcome.device.units.ru ≡ ru.Held fd frame false
  form : frame.form ≡ r.outcome.device.units.settings.form
  bytes : frame.length ≡ length bs
  enough : unbuffered frame.form ≤ length bs
  entered : take (length bs) r.holding ≡ bs

is_held_lem : (w : World) (bs : List ℕ) (fd : Offset) (v : Verdict) (short : Bool) (c : Option Counter) (r : Ran) → header_in w ≤ length bs
    → IsHeld w bs fd (judged_as w bs v short) c r → Came bs r
is_held_lem w bs fd v short c r l h =
    record {
      fd = fd;
      frame = judged_as w bs v short;
      unit = ap (λ (d : Device). d.units.ru) h.device;
      form = sym (ap (λ (d : Device). d.units.settings.form) h.device);
      bytes = refl;
      enough = omega (arith, at_most_the_header (settings_of w).form);
      entered = h.entered;
    }

-- no other fate is that it is held
not_held : (x : Fate) (c : Option Counter) (fs : List Fate) → is_held x ≡ false → fs ≡ x ∷ [] → fs ≡ fate.Held c ∷ [] → ⊥
not_held x c fs n e h = true≢false (ap is_held (head-eq_of_cons-eq (sym h ∙ e)) ∙ n)

came : (w : World) (bs : List ℕ) (v : ℕ) (c : Option Counter) (r : Ran) → r.outcome.fates ≡ fate.Held c ∷ [] → ArrivalFate w bs v r → Came bs r
came w bs v c r h (arrival.few l k) = absurd (not_held fate.TooFew c r.outcome.fates refl k.fates h)
came w bs v c r h (arrival.unmatched l m k) = absurd (not_held fate.NoMatch c r.outcome.fates refl k.fates h)
came w bs v c r h (arrival.idle o e k) = absurd (not_held fate.UnitIdle c r.outcome.fates refl k.fates h)
came w bs v c r h (arrival.suspended fd o e k) = absurd (not_held fate.UnitSuspended c r.outcome.fates refl k.fates h)
came w bs v c r h (arrival.overrun o e k) = absurd (not_held fate.Overrun c r.outcome.fates refl k.fates h)
came w bs v c r h (arrival.good_ready fd o g e k) = is_held_lem w bs fd verdict.Good false None r o.enough k
came w bs v c r h (arrival.good_unready o g e k) = absurd (not_held fate.NoResources c r.outcome.fates refl k.fates h)
came w bs v c r h (arrival.bad_saved fd x o b e z k) = is_held_lem w bs fd (verdict_of v) (short_by x) x r o.enough k
came w bs v c r h (arrival.bad_unsaved fd x o b e z k) = absurd (not_held (fate.Bad x) c r.outcome.fates refl k.fates h)
came w bs v c r h (arrival.bad_unready x o b e k) = absurd (not_held (fate.Bad x) c r.outcome.fates refl k.fates h)

from_came : (bs : List ℕ) (r : Ran) (es : List Event) (report : ℕ) → Sound r.outcome.device → Came bs r
    → AllMay Staying step es (afterwards r) → ends (turn report) (run step es (afterwards r)) ≡ true
    → ArrivedDelivered bs es (afterwards r) report
from_came bs r es report s k m n =
    let d = sound_delivered (afterwards r) k.fd k.frame false es report s k.unit m n in
    let u = unbuffered k.frame.form in
    let whole : data_of k.frame r.holding ≡ drop u bs =
    ap (λ (n : ℕ). data_within held_from u n r.holding) k.bytes ∙ behind_header held_from u bs r.holding k.enough k.entered
    in
    record {
      frame = k.frame;
      held = ap held_in k.unit;
      bytes = k.bytes;
      form = k.form;
      first = ap (take u) d.holding ∙ sym (take-take u (length bs) r.holding k.enough) ∙ ap (take u) k.entered;
      delivered = subst (λ (x : List ℕ). Delivered k.frame x es (afterwards r) report) whole d;
    }

-- a frame that arrives and is held, good or bad: what the buffers get is what it has behind its header, all of it or a proper beginning, and the header
-- bytes that the end writes are its own
pub arrived : (w : World) (bs : List ℕ) (v : ℕ) (c : Option Counter) (es : List Event) (report : ℕ) → RightLengths w bs → in_range w.device ≡ true
    → (arrival_of w bs v).outcome.fates ≡ fate.Held c ∷ []
    → AllMay Staying step es (step (call (arrive bs v)) w) → ends (turn report) (run step es (step (call (arrive bs v)) w)) ≡ true
    → ArrivedDelivered bs es (step (call (arrive bs v)) w) report
arrived w bs v c es report l r h m n =
    from_came bs (arrival_of w bs v) es report (call_sound (arrive bs v) w (in_range_sound w.device r))
    (came w bs v c (arrival_of w bs v) h (arrival_fate w bs v l)) m n

-- ---- on the calls, each with what it is lent, refused ones among them

run_append : (es fs : List Event) (w : World) → run step (es ++ fs) w ≡ run step fs (run step es w)
run_append [] fs w = refl
run_append (e ∷ es) fs w = run_append es fs (step e w)

-- what is lent along the calls and to the turn at their end shows the state, and all of it may occur
record Driven (b : Areas) (w : World) (ls : List Lending) (report : ℕ) : Type 0 where
  may : AllMay Staying step (up_to ls b) w
  ends : ends (turn report) (run step (up_to ls b) w) ≡ true
  calls : SaidToTheEnd ls b w report

driven : (a b : Areas) (w : World) (ls : List Lending) (report : ℕ) → Shows a w → AllFair Staying ls a → EndLent b report (run left ls a)
    → ends (turn report) (world_said b) ≡ true → Driven b w ls report
driven a b w ls report s m t n =
    let k = fair_along Staying ls a w m s in
    let v : World = run step (events_of ls) w in
    let last : run step (up_to ls b) w ≡ step (host_of b) v = run_append (events_of ls) (host_of b ∷ []) w in
    let h : Holds b.kept v.device = subst (λ (r : List ℕ). Holds r v.device) (sym t.kept) k.0.kept in
    let z : Shows b (step (host_of b) v) = record { memory = refl; holding = refl; outgoing = refl; kept = h } in
    record {
      may = may_append Staying step (events_of ls) (host_of b ∷ []) w k.1 (t.holding ∙ k.0.holding, tt);
      ends = subst (λ (x : World). ends (turn report) x ≡ true) (shows_said b (step (host_of b) v) z ∙ sym last) n;
      calls =
          record {
            said = fair_said Staying ls a w m s;
            shows = subst (Shows b) (sym last) z;
            last =
                (carry (turn report) b v.device bytes_nil t.bytes h t.accepted).same
                ∙ ap (λ (x : World). on_bytes (ran (turn report) x)) (sym last);
          };
    }

-- the frame that the areas hold, not begun: every call leaves what the definitions leave, and by the turn that ends it the buffers have got the data
pub delivered_on_bytes : (a b : Areas) (w : World) (fd : Offset) (f : Frame) (p : Bool) (ls : List Lending) (report : ℕ) → Shows a w
    → unit_of w ≡ ru.Held fd f p → AllFair Staying ls a → EndLent b report (run left ls a) → ends (turn report) (world_said b) ≡ true
    → DeliveredOnBytes f (data_of f a.holding) ls b w report
delivered_on_bytes a b w fd f p ls report s e m t n =
    let k = driven a b w ls report s m t n in
    record { delivered = rw s.holding (delivered w fd f p (up_to ls b) report s.kept.range e k.may k.ends); calls = k.calls }

-- and of the bytes that a call brings
pub arrived_on_bytes : (a b : Areas) (d : Device) (bs : List ℕ) (v : ℕ) (c : Option Counter) (ls : List Lending) (report : ℕ) → AreBytes a → Holds a.kept d
    → Bytes bs → is_refused (called (arrive bs v) a) ≡ false → (arrival_of (world_in d a) bs v).outcome.fates ≡ fate.Held c ∷ []
    → AllFair Staying ls (called (arrive bs v) a).areas → EndLent b report (run left ls (called (arrive bs v) a).areas)
    → ends (turn report) (world_said b) ≡ true
    → ArrivedOnBytes bs v a ls b (world_in d a) report
arrived_on_bytes a b d bs v c ls report l h q z f m t n =
    let r = not_refused (arrive bs v) a l.kept z in
    let lengths : RightLengths (world_in d a) bs = record { size = size_allowed_lem (length a.memory) r.size; area = r.holding; frame = r.frame } in
    let s : Shows a (world_in d a) = record { memory = refl; holding = refl; outgoing = refl; kept = h } in
    let k = driven (called (arrive bs v) a).areas b (step (call (arrive bs v)) (world_in d a)) ls report
    (carry_shown (arrive bs v) a (world_in d a) q l s z).0 m t n
    in
    record {
      arrival = (carry (arrive bs v) a d q l h z).same;
      delivered = arrived (world_in d a) bs v c (up_to ls b) report lengths h.range f k.may k.ends;
      calls = k.calls;
    }
