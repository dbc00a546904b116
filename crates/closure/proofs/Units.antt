-- A unit in range, phase by phase: what makes one, and what is known of one. Assumes nothing.
use mathlib.Core.Path.{◌≡◌, refl}
use mathlib.Core.Bool.{Bool, true, not, ◌&&◌, ◌||◌}
use Prim.Native.Nat.{ℕ, ◌≤◌, ◌<◌}
use native.Mathlib.Omega.{arith}
use borrow.Author.Tests.{leb-true, ltb-true, le-leb, lt-ltb, not-true}
use lib.Dec.{leb, ltb}
use Rattle.memory.specs.Address.{is_none}
use Rattle.memory.specs.declared.Offset.{Offset}
use Rattle.device.specs.Header.{header, unbuffered}
use Rattle.device.specs.Numbers.{action_number}
use Rattle.device.specs.State.{is_good}
use Rattle.device.specs.declared.Action.{Action}
use Rattle.device.specs.declared.Action.TheVariants as action
use Rattle.device.specs.declared.Begun.{Begun}
use Rattle.device.specs.declared.Cu.{Cu}
use Rattle.device.specs.declared.Cu.TheVariants as cu
use Rattle.device.specs.declared.Form.{Form}
use Rattle.device.specs.declared.Frame.{Frame}
use Rattle.device.specs.declared.Ru.{Ru}
use Rattle.device.specs.declared.Ru.TheVariants as ru
use Rattle.device.specs.declared.Storing.{Storing}
use Rattle.device.specs.declared.Walk.{Walk}
use Rattle.device.proofs.Header.{at_most_the_header}
use Rattle.phases.specs.Forms.{kind_of, FormWide}
use Rattle.phases.specs.Phases.{cu_word, ru_word, WordWide}
use Rattle.phases.proofs.Units.{both, kind_below}
use Rattle.closure.proofs.Walks.{WalkGood}
use Rattle.image.specs.Ranges.{form_fits, sized_from, has_next, has_data, cu_fits, frame_fits, ru_fits}

-- each unit's range, the command unit's by the form in force, and the widths of its words
pub record CuGood (f : Form) (u : Cu) : Type 0 where
  pub fits : cu_fits f u ≡ true
  pub wide : WordWide (cu_word u)

pub record RuGood (u : Ru) : Type 0 where
  pub fits : ru_fits u ≡ true
  pub wide : WordWide (ru_word u)

-- ---- numbers

action_below : (a : Action) → action_number a < 256
action_below action.Nop = omega arith
action_below action.IaSetup = omega arith
action_below action.Configure = omega arith
action_below action.McSetup = omega arith
action_below action.Tdr = omega arith
action_below action.Dump = omega arith
action_below action.Diagnose = omega arith

kind_wide : (f : Frame) → kind_of f.verdict f.form < 256
kind_wide f = omega (arith, kind_below f.verdict f.form)

sized_true : (least n : ℕ) → least ≤ n → n ≤ 2048 → sized_from least n ≡ true
sized_true least n p q = rw (le-leb least n p, le-leb n 2048 q)

sized_of : (least n : ℕ) → sized_from least n ≡ true → (least ≤ n) × (n ≤ 2048)
sized_of least n e = let x = both (leb least n) (leb n 2048) e in (leb-true least n x.0, leb-true n 2048 x.1)

-- what does not go through buffers is no more than the header, and that no more than a frame
pub header_most : (f : Form) → FormWide f → header f.length ≤ 14
header_most f h = omega arith

pub unbuffered_most : (f : Form) → FormWide f → unbuffered f ≤ 14
unbuffered_most f h = omega (arith, at_most_the_header f)

-- ---- the command unit

pub cu_idle : {f : Form} → CuGood f cu.Idle
unfolding cu_fits cu_word
cu_idle = record { fits = refl; wide = record { at = omega arith; kind = omega arith; size = omega arith; next = omega arith } }

pub cu_suspended : {f : Form} (o : Offset) → o.0 < 65536 → CuGood f (cu.Suspended o)
unfolding cu_fits cu_word
cu_suspended o h = record { fits = refl; wide = record { at = h; kind = omega arith; size = omega arith; next = omega arith } }

pub cu_waiting : {f : Form} (o : Offset) → o.0 < 65536 → CuGood f (cu.Waiting o)
unfolding cu_fits cu_word
cu_waiting o h = record { fits = refl; wide = record { at = h; kind = omega arith; size = omega arith; next = omega arith } }

pub cu_acting : {f : Form} (b : Begun) (a : Action) → b.block.0 < 65536 → CuGood f (cu.Acting b a)
unfolding cu_fits cu_word
cu_acting b a h = record { fits = refl; wide = record { at = h; kind = action_below a; size = omega arith; next = omega arith } }

pub cu_failing : {f : Form} (b : Begun) → b.block.0 < 65536 → CuGood f (cu.Failing b)
unfolding cu_fits cu_word
cu_failing b h = record { fits = refl; wide = record { at = h; kind = omega arith; size = omega arith; next = omega arith } }

pub cu_ending : {f : Form} (b : Begun) (n : ℕ) → b.block.0 < 65536 → unbuffered f ≤ n → n ≤ 2048 → CuGood f (cu.Ending b n)
unfolding cu_fits cu_word
cu_ending b n h p q = record { fits = sized_true _ n p q; wide = record { at = h; kind = omega arith; size = omega arith; next = omega arith } }

-- a walk that goes on
goes_true : (least : ℕ) (w : Walk) → WalkGood least w → has_next w ≡ true
goes_true least w h = rw (le-leb w.used 63 h.used, h.some)

pub cu_sending : {f : Form} (b : Begun) (w : Walk) → b.block.0 < 65536 → WalkGood (unbuffered f) w → CuGood f (cu.Sending b w)
unfolding cu_fits cu_word
cu_sending b w h k =
    let u = k.used in
    let m = k.most in
    record {
      fits = rw (goes_true _ w k, sized_true _ w.filled k.enough m);
      wide = record { at = h; kind = omega arith; size = omega arith; next = k.next };
    }

-- and what is known
pub at_suspended : {f : Form} (o : Offset) → CuGood f (cu.Suspended o) → o.0 < 65536
unfolding cu_word
at_suspended o h = h.wide.at

pub at_waiting : {f : Form} (o : Offset) → CuGood f (cu.Waiting o) → o.0 < 65536
unfolding cu_word
at_waiting o h = h.wide.at

pub at_acting : {f : Form} (b : Begun) (a : Action) → CuGood f (cu.Acting b a) → b.block.0 < 65536
unfolding cu_word
at_acting b a h = h.wide.at

pub at_failing : {f : Form} (b : Begun) → CuGood f (cu.Failing b) → b.block.0 < 65536
unfolding cu_word
at_failing b h = h.wide.at

pub at_ending : {f : Form} (b : Begun) (n : ℕ) → CuGood f (cu.Ending b n) → b.block.0 < 65536
unfolding cu_word
at_ending b n h = h.wide.at

pub ending_size : {f : Form} (b : Begun) (n : ℕ) → CuGood f (cu.Ending b n) → (unbuffered f ≤ n) × (n ≤ 2048)
unfolding cu_fits
ending_size b n h = sized_of _ n h.fits

pub at_sending : {f : Form} (b : Begun) (w : Walk) → CuGood f (cu.Sending b w) → b.block.0 < 65536
unfolding cu_word
at_sending b w h = h.wide.at

pub sending_walk : {f : Form} (b : Begun) (w : Walk) → CuGood f (cu.Sending b w) → WalkGood (unbuffered f) w
unfolding cu_fits cu_word
sending_walk {f = f} b w h =
    let x = both (has_next w) (sized_from (unbuffered f) w.filled) h.fits in
    let y = both (leb w.used 63) (not (is_none w.next)) x.0 in
    let z = sized_of (unbuffered f) w.filled x.1 in
    record { next = h.wide.next; used = leb-true _ _ y.0; some = not-true _ y.1; enough = z.0; most = z.1 }

-- ---- the receive unit

-- a held frame
pub frame_size : (f : Frame) → frame_fits f ≡ true → (header f.form.length ≤ f.length) × (f.length ≤ 2048)
unfolding frame_fits
frame_size f e =
    let x = both (form_fits f.form && sized_from (header f.form.length) f.length) (is_good f || f.savebad) e in
    sized_of _ f.length (both (form_fits f.form) (sized_from (header f.form.length) f.length) x.0).1

pub frame_true : (f : Frame) → FormWide f.form → header f.form.length ≤ f.length → f.length ≤ 2048 → (is_good f || f.savebad) ≡ true → frame_fits f ≡ true
unfolding frame_fits
frame_true f w p q e = rw (le-leb f.form.length 6 w, sized_true _ f.length p q, e)

-- one begun
pub record StoringGood (s : Storing) : Type 0 where
  pub fd : s.fd.0 < 65536
  pub frame : frame_fits s.frame ≡ true

pub ru_idle : RuGood ru.Idle
unfolding ru_fits ru_word
ru_idle = record { fits = refl; wide = record { at = omega arith; kind = omega arith; size = omega arith; next = omega arith } }

pub ru_none : RuGood ru.NoResources
unfolding ru_fits ru_word
ru_none = record { fits = refl; wide = record { at = omega arith; kind = omega arith; size = omega arith; next = omega arith } }

pub ru_suspended : (o : Offset) → o.0 < 65536 → RuGood (ru.Suspended o)
unfolding ru_fits ru_word
ru_suspended o h = record { fits = refl; wide = record { at = h; kind = omega arith; size = omega arith; next = omega arith } }

pub ru_ready : (o : Offset) → o.0 < 65536 → RuGood (ru.Ready o)
unfolding ru_fits ru_word
ru_ready o h = record { fits = refl; wide = record { at = h; kind = omega arith; size = omega arith; next = omega arith } }

pub ru_held : (o : Offset) (f : Frame) (p : Bool) → o.0 < 65536 → frame_fits f ≡ true → RuGood (ru.Held o f p)
unfolding ru_fits ru_word
ru_held o f p h e =
    let z = frame_size f e in
    let q : f.length < 65536 = omega (arith, z.1) in
    record { fits = e; wide = record { at = h; kind = kind_wide f; size = q; next = omega arith } }

pub ru_filling : (s : Storing) (w : Walk) → StoringGood s → WalkGood (unbuffered s.frame.form) w → w.filled < s.frame.length → RuGood (ru.Filling s w)
unfolding ru_fits ru_word
ru_filling s w h k l =
    let z = frame_size s.frame h.frame in
    let q : s.frame.length < 65536 = omega (arith, z.1) in
    record {
      fits = rw (h.frame, goes_true _ w k, le-leb (unbuffered s.frame.form) w.filled k.enough, lt-ltb w.filled s.frame.length l);
      wide = record { at = h.fd; kind = kind_wide s.frame; size = q; next = k.next };
    }

pub ru_closing : (s : Storing) (o : Offset) (full : Bool) → StoringGood s → o.0 < 65536
    → (has_data s.frame || not full) ≡ true → RuGood (ru.Closing s o full)
unfolding ru_fits ru_word
ru_closing s o full h k e =
    let z = frame_size s.frame h.frame in
    let q : s.frame.length < 65536 = omega (arith, z.1) in
    record { fits = rw h.frame e; wide = record { at = h.fd; kind = kind_wide s.frame; size = q; next = k } }

pub ru_lacking : (s : Storing) → StoringGood s → unbuffered s.frame.form < s.frame.length → RuGood (ru.Lacking s)
unfolding ru_fits ru_word
ru_lacking s h l =
    let z = frame_size s.frame h.frame in
    let q : s.frame.length < 65536 = omega (arith, z.1) in
    record {
      fits = rw (h.frame, lt-ltb (unbuffered s.frame.form) s.frame.length l);
      wide = record { at = h.fd; kind = kind_wide s.frame; size = q; next = omega arith };
    }

-- and what is known
pub fd_suspended : (o : Offset) → RuGood (ru.Suspended o) → o.0 < 65536
unfolding ru_word
fd_suspended o h = h.wide.at

pub fd_ready : (o : Offset) → RuGood (ru.Ready o) → o.0 < 65536
unfolding ru_word
fd_ready o h = h.wide.at

pub fd_held : (o : Offset) (f : Frame) (p : Bool) → RuGood (ru.Held o f p) → o.0 < 65536
unfolding ru_word
fd_held o f p h = h.wide.at

pub held_frame : (o : Offset) (f : Frame) (p : Bool) → RuGood (ru.Held o f p) → frame_fits f ≡ true
unfolding ru_fits
held_frame o f p h = h.fits

pub filling_storing : (s : Storing) (w : Walk) → RuGood (ru.Filling s w) → StoringGood s
unfolding ru_fits ru_word
filling_storing s w h =
    let x = both _ (ltb w.filled s.frame.length) h.fits in
    let y = both _ (leb (unbuffered s.frame.form) w.filled) x.0 in
    let z = both (frame_fits s.frame) (has_next w) y.0 in
    record { fd = h.wide.at; frame = z.0 }

pub filling_left : (s : Storing) (w : Walk) → RuGood (ru.Filling s w) → w.filled < s.frame.length
unfolding ru_fits
filling_left s w h =
    ltb-true _ _ (both (frame_fits s.frame && has_next w && leb (unbuffered s.frame.form) w.filled) (ltb w.filled s.frame.length) h.fits).1

pub filling_walk : (s : Storing) (w : Walk) → RuGood (ru.Filling s w) → WalkGood (unbuffered s.frame.form) w
unfolding ru_fits ru_word
filling_walk s w h =
    let x = both _ (ltb w.filled s.frame.length) h.fits in
    let y = both _ (leb (unbuffered s.frame.form) w.filled) x.0 in
    let z = both (frame_fits s.frame) (has_next w) y.0 in
    let v = both (leb w.used 63) (not (is_none w.next)) z.1 in
    let l : w.filled < s.frame.length = ltb-true _ _ x.1 in
    let q = frame_size s.frame z.0 in
    let m : w.filled ≤ 2048 = omega (arith, q.1) in
    record { next = h.wide.next; used = leb-true _ _ v.0; some = not-true _ v.1; enough = leb-true _ _ y.1; most = m }

pub closing_storing : (s : Storing) (o : Offset) (full : Bool) → RuGood (ru.Closing s o full) → StoringGood s
unfolding ru_fits ru_word
closing_storing s o full h =
    record { fd = h.wide.at; frame = (both (frame_fits s.frame) (has_data s.frame || not full) h.fits).0 }

pub closing_free : (s : Storing) (o : Offset) (full : Bool) → RuGood (ru.Closing s o full) → o.0 < 65536
unfolding ru_word
closing_free s o full h = h.wide.next

pub closing_full : (s : Storing) (o : Offset) (full : Bool) → RuGood (ru.Closing s o full) → (has_data s.frame || not full) ≡ true
unfolding ru_fits
closing_full s o full h = (both (frame_fits s.frame) (has_data s.frame || not full) h.fits).1

pub lacking_storing : (s : Storing) → RuGood (ru.Lacking s) → StoringGood s
unfolding ru_fits ru_word
lacking_storing s h = record { fd = h.wide.at; frame = (both (frame_fits s.frame) (has_data s.frame) h.fits).0 }

pub lacking_left : (s : Storing) → RuGood (ru.Lacking s) → unbuffered s.frame.form < s.frame.length
unfolding ru_fits
lacking_left s h = ltb-true _ _ (both (frame_fits s.frame) (has_data s.frame) h.fits).1
