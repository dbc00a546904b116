-- An arrival and a service of the receive unit leave a unit in range and bytes in the holding area, and write bytes. Assumes nothing.
use mathlib.Core.Path.{◌≡◌, refl}
use mathlib.Core.Bool.{Bool, true, false, not, ◌||◌, false≢true}
use mathlib.Core.List.{List, [], ◌∷◌}
use Prim.Native.Nat.{ℕ, ◌+◌, ◌≤◌, ◌<◌}
use native.Mathlib.Omega.{arith}
use borrow.Author.Tests.{leb-false, ltb-false, lt-ltb}
use lib.Dec.{leb, ltb}
use lib.ListN.{length, drop}
use Rattle.std.specs.Prelude.{Option, Some, None}
use Rattle.memory.specs.Address.{place, offset_at, is_none, none}
use Rattle.memory.specs.Memory.{Write, word_at, word_to, apply}
use Rattle.memory.specs.declared.Offset.{Offset}
use Rattle.memory.specs.declared.RealAddress.{RealAddress}
use Rattle.memory.proofs.Bytes.{Bytes, AllBytes, all_append, apply_bytes, take_bytes_lem, drop_bytes, field_bound, digits_bytes}
use Rattle.device.specs.Answers.{counter_of, counts, is_stored, is_held}
use Rattle.device.specs.Header.{header, unbuffered}
use Rattle.device.specs.Limits.{held_from}
use Rattle.device.specs.State.{is_good}
use Rattle.device.specs.declared.Counter.{Counter}
use Rattle.device.specs.declared.Fate.{Fate}
use Rattle.device.specs.declared.Frame.{Frame}
use Rattle.device.specs.declared.Ru.{Ru}
use Rattle.device.specs.declared.Ru.TheVariants as ru
use Rattle.device.specs.declared.Settings.{Settings}
use Rattle.device.specs.declared.Storing.{Storing}
use Rattle.device.specs.declared.Walk.{Walk}
use Rattle.receive.specs.Arrival.{length_of, judged, counter_for, in_ready, in_no_resources, fate_in, fate_by, fate_of, unit_by, area_by}
use Rattle.receive.specs.Part.{Part, Service, control_at, first_at, fd_link_at}
use Rattle.receive.specs.Begin.{begun_by, is_bare, to_first, begin}
use Rattle.receive.specs.Buffer.{descriptor_at, past, count, is_done, after_buffer, buffer}
use Rattle.receive.specs.End.{frame_status, bare_mark, descriptor_by, settles, before, proceeds, close, lack, fate_of as end_fate}
use Rattle.receive.specs.Service.{service_by}
use Rattle.phases.specs.Forms.{FormWide}
use Rattle.image.specs.Ranges.{frame_fits, has_data}
use Rattle.closure.proofs.Units.{RuGood, StoringGood, header_most, frame_size, frame_true, ru_none, ru_suspended, ru_ready, ru_held, ru_filling, ru_closing, ru_lacking, fd_ready, fd_held, held_frame, filling_storing, filling_left, filling_walk}
use Rattle.closure.proofs.Command.{sets_bytes}

or_left : (a b : Bool) → a ≡ true → (a || b) ≡ true
or_left true b e = refl
or_left false b e = absurd (false≢true e)

or_right : (a b : Bool) → b ≡ true → (a || b) ≡ true
or_right true b e = refl
or_right false b e = e

-- a counter's write is of bytes
pub counts_bytes : (c : Option Counter) (base : RealAddress) (scb : Offset) (m : List ℕ) → AllBytes (counts c base scb m)
unfolding counts
counts_bytes None base scb m = tt
counts_bytes (Some c) base scb m = (digits_bytes 2 _, tt)

-- ---- an arrival

judged_most : (s : Settings) (f : List ℕ) (v : ℕ) → (judged s f v).length ≤ 2048
unfolding judged length_of
judged_most s f v = omega arith

judged_least : (s : Settings) (f : List ℕ) (v : ℕ) → FormWide s.form → header s.form.length ≤ length f → header (judged s f v).form.length ≤ (judged s f v).length
unfolding judged length_of
judged_least s f v w h = omega (arith, header_most s.form w)

judged_form : (s : Settings) (f : List ℕ) (v : ℕ) → (judged s f v).form ≡ s.form
unfolding judged
judged_form s f v = refl

-- in Ready a frame is held if it is good, or bad and to be saved
ready_good : (good saved : Bool) (c : Option Counter) (fd : Offset) (f : Frame) → is_good f ≡ good → f.savebad ≡ saved → FormWide f.form
    → header f.form.length ≤ f.length → f.length ≤ 2048
    → RuGood (ru.Ready fd) → RuGood (unit_by (is_held (in_ready good saved c)) (ru.Ready fd) f)
ready_good true saved c fd f g s w p q h = ru_held fd f false (fd_ready fd h) (frame_true f w p q (or_left (is_good f) f.savebad g))
ready_good false true c fd f g s w p q h = ru_held fd f false (fd_ready fd h) (frame_true f w p q (or_right (is_good f) f.savebad s))
ready_good false false c fd f g s w p q h = h

lost_good : (held : Bool) (f : Frame) → RuGood (unit_by held ru.NoResources f)
lost_good true f = ru_none
lost_good false f = ru_none

fate_good : (u : Ru) (f : Frame) → FormWide f.form → header f.form.length ≤ f.length → f.length ≤ 2048 → RuGood u → RuGood (unit_by (is_held (fate_in u f)) u f)
fate_good ru.Idle f n p q h = h
fate_good ru.NoResources f n p q h = lost_good (is_held (in_no_resources (is_good f) (counter_for f))) f
fate_good (ru.Suspended fd) f n p q h = h
fate_good (ru.Ready fd) f n p q h = ready_good (is_good f) f.savebad (counter_for f) fd f refl refl n p q h
fate_good (ru.Held fd g x) f n p q h = h
fate_good (ru.Filling s w) f n p q h = h
fate_good (ru.Closing s o full) f n p q h = h
fate_good (ru.Lacking s) f n p q h = h

arrival_good_by : (s : Settings) (few matched : Bool) (u : Ru) (f : List ℕ) (v : ℕ) → FormWide s.form
    → ltb (length f) (header s.form.length) ≡ few → RuGood u
    → RuGood (unit_by (is_held (fate_by few matched u (judged s f v))) u (judged s f v))
arrival_good_by s true matched u f v w e h = h
arrival_good_by s false false u f v w e h = h
arrival_good_by s false true u f v w e h =
    fate_good u (judged s f v) (rw (judged_form s f v) w) (judged_least s f v w (ltb-false _ _ e)) (judged_most s f v) h

pub arrival_good : (s : Settings) (matched : Bool) (u : Ru) (f : List ℕ) (v : ℕ) → FormWide s.form → RuGood u
    → RuGood (unit_by (is_held (fate_of s matched u f v)) u (judged s f v))
unfolding fate_of
arrival_good s matched u f v w h = arrival_good_by s (ltb (length f) (header s.form.length)) matched u f v w refl h

pub area_bytes : (held : Bool) (area f : List ℕ) → Bytes area → Bytes f → Bytes (area_by held area f)
area_bytes true area f h k = sets_bytes area held_from f h k
area_bytes false area f h k = h

-- an Idle unit holds nothing
pub idle_stays : (held : Bool) (f : Frame) → unit_by held ru.Idle f ≡ ru.Idle
idle_stays true f = refl
idle_stays false f = refl

-- ---- what a service leaves

pub record ServiceGood (s : Service) : Type 0 where
  pub unit : RuGood s.unit
  pub writes : AllBytes s.writes

-- ---- begin

first_good : (bare none : Bool) (s : Storing) (first : Offset) → StoringGood s → first.0 < 65536 → leb s.frame.length (unbuffered s.frame.form) ≡ bare
    → is_none first ≡ none
    → RuGood (to_first bare none s first)
first_good true none s first h k b e = ru_closing s first false h k (or_right (has_data s.frame) true refl)
first_good false true s first h k b e = ru_lacking s h (leb-false _ _ b)
first_good false false s first h k b e =
    let left_over : unbuffered s.frame.form < s.frame.length = leb-false _ _ b in
    ru_filling s (record { next = first; used = 0; filled = unbuffered s.frame.form }) h
    (record { next = k; used = omega arith; some = e; enough = omega arith; most = omega (arith, left_over, (frame_size s.frame h.frame).1) })
    (leb-false _ _ b)

begun_good : (fd : Offset) (f : Frame) (pausing : Bool) (word : ℕ) → fd.0 < 65536 → frame_fits f ≡ true → StoringGood (begun_by fd f pausing word)
unfolding begun_by
begun_good fd f pausing word h e = record { fd = h; frame = e }

begun_bare : (fd : Offset) (f : Frame) (pausing : Bool) (word : ℕ) → leb (begun_by fd f pausing word).frame.length (unbuffered (begun_by fd f pausing word).frame.form) ≡ is_bare f
unfolding begun_by
begun_bare fd f pausing word = refl

begin_good : (p : Part) (fd : Offset) (f : Frame) (pausing : Bool) (m : List ℕ) → fd.0 < 65536 → frame_fits f ≡ true → Bytes m
    → ServiceGood (begin p fd f pausing m)
unfolding begin
begin_good p fd f pausing m h e mb =
    let first = offset_at m (place p.base fd first_at) in
    let word = word_at m (place p.base fd control_at) in
    record {
      unit =
          first_good (is_bare f) (is_none first) (begun_by fd f pausing word) first (begun_good fd f pausing word h e)
          (field_bound m (place p.base fd first_at) 2 mb) (begun_bare fd f pausing word) refl;
      writes = (digits_bytes 2 0x4000, tt);
    }

-- ---- buffer

after_good : (done el none last : Bool) (s : Storing) (w : Walk) → StoringGood s → unbuffered s.frame.form < s.frame.length → w.next.0 < 65536
    → unbuffered s.frame.form ≤ w.filled
    → leb s.frame.length w.filled ≡ done → is_none w.next ≡ none → leb 64 w.used ≡ last → RuGood (after_buffer done el none last s w)
after_good true el none last s w h l n p d e u = ru_closing s w.next el h n (or_left _ (not el) (lt-ltb (unbuffered s.frame.form) s.frame.length l))
after_good false true none last s w h l n p d e u = ru_lacking s h l
after_good false false true last s w h l n p d e u = ru_lacking s h l
after_good false false false true s w h l n p d e u = ru_lacking s h l
after_good false false false false s w h l n p d e u =
    let k : w.used < 64 = leb-false _ _ u in
    let x : w.filled < s.frame.length = leb-false _ _ d in
    let q = frame_size s.frame h.frame in
    ru_filling s w h (record { next = n; used = omega arith; some = e; enough = p; most = omega (arith, q.1) }) x

next_below : (base : RealAddress) (o : Offset) (m : List ℕ) → Bytes m → (descriptor_at base o m).next.0 < 65536
unfolding descriptor_at
next_below base o m h = field_bound m (place base o 2) 2 h

buffer_good : (p : Part) (s : Storing) (w : Walk) (m : List ℕ) → RuGood (ru.Filling s w) → Bytes p.holding → Bytes m → ServiceGood (buffer p s w m)
unfolding buffer
buffer_good p s w m h a mb =
    let d = descriptor_at p.base w.next m in
    let k = filling_walk s w h in
    let l : unbuffered s.frame.form < s.frame.length = omega (arith, k.enough, filling_left s w h) in
    let g : unbuffered s.frame.form ≤ w.filled + count s w d = omega (arith, k.enough) in
    record {
      unit =
          after_good (is_done s (past s w d)) d.el (is_none d.next) (leb 64 (w.used + 1)) s (past s w d) (filling_storing s w h) l
          (next_below p.base w.next m mb) g refl refl refl;
      writes = (
        take_bytes_lem (count s w d) (drop (held_from + w.filled) p.holding)
            (drop_bytes (held_from + w.filled) p.holding a),
        (digits_bytes 2 _, tt),
      );
    }

-- ---- end

mark_bytes : (bare : Bool) (a : ℕ) → AllBytes (bare_mark bare a)
mark_bytes true a = (digits_bytes 2 none.0, tt)
mark_bytes false a = tt

described_bytes : (stored lacking : Bool) (p : Part) (s : Storing) → Bytes p.holding → AllBytes (descriptor_by stored lacking p s)
described_bytes true lacking p s h = (
  take_bytes_lem (unbuffered s.frame.form) (drop held_from p.holding) (drop_bytes held_from p.holding h),
  (digits_bytes 2 (frame_status lacking s.frame), mark_bytes (is_bare s.frame) (place p.base s.fd first_at)),
)
described_bytes false lacking p s h = (digits_bytes 2 0x0000, tt)

settles_bytes : (lacking : Bool) (p : Part) (s : Storing) (m : List ℕ) → Bytes p.holding → AllBytes (settles lacking p s m)
unfolding settles
settles_bytes lacking p s m h =
    let f = end_fate lacking s.frame in
    let ws = descriptor_by (is_stored f) lacking p s in
    all_append ws (counts (counter_of f) p.base p.scb (apply ws m)) (described_bytes (is_stored f) lacking p s h)
    (counts_bytes (counter_of f) p.base p.scb (apply ws m))

before_good : (suspends : Bool) (link : Offset) → link.0 < 65536 → RuGood (before suspends link)
before_good true link h = ru_suspended link h
before_good false link h = ru_ready link h

goes_good : (exhausted : Bool) (p : Part) (s : Storing) (free : Offset) (f : Fate) (ws : List Write) (m : List ℕ) → AllBytes ws → Bytes m
    → ServiceGood (proceeds exhausted p s free f ws m)
goes_good true p s free f ws m h mb = record { unit = ru_none; writes = h }
goes_good false p s free f ws m h mb =
    let link = offset_at (apply ws m) (place p.base s.fd fd_link_at) in
    record {
      unit = before_good (s.suspend || s.pausing) link (field_bound (apply ws m) (place p.base s.fd fd_link_at) 2 (apply_bytes ws m h mb));
      writes = all_append ws (word_to (place p.base link first_at) free.0 ∷ []) h (digits_bytes 2 free.0, tt);
    }

close_good : (p : Part) (s : Storing) (free : Offset) (full : Bool) (m : List ℕ) → Bytes p.holding → Bytes m → ServiceGood (close p s free full m)
unfolding close
close_good p s free full m h mb =
    goes_good (s.el || full) p s free (end_fate false s.frame) (settles false p s m) m (settles_bytes false p s m h) mb

lack_good : (p : Part) (s : Storing) (m : List ℕ) → Bytes p.holding → ServiceGood (lack p s m)
unfolding lack
lack_good p s m h = record { unit = ru_none; writes = settles_bytes true p s m h }

-- ---- one service

pub receive_good : (u : Ru) (p : Part) (m : List ℕ) → RuGood u → RuGood p.unit → Bytes p.holding → Bytes m → ServiceGood (service_by u p m)
receive_good ru.Idle p m u o h b = record { unit = o; writes = tt }
receive_good ru.NoResources p m u o h b = record { unit = o; writes = tt }
receive_good (ru.Suspended fd) p m u o h b = record { unit = o; writes = tt }
receive_good (ru.Ready fd) p m u o h b = record { unit = o; writes = tt }
receive_good (ru.Held fd f x) p m u o h b = begin_good p fd f x m (fd_held fd f x u) (held_frame fd f x u) b
receive_good (ru.Filling s w) p m u o h b = buffer_good p s w m u h b
receive_good (ru.Closing s free full) p m u o h b = close_good p s free full m h b
receive_good (ru.Lacking s) p m u o h b = lack_good p s m h
