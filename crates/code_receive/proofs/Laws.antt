-- Words of descriptors, the status of a frame, and an end whose writes come in two parts. No contract cites this file. Assumes nothing.
use mathlib.Core.Path.{◌≡◌, ◌∙◌, refl, sym, ap, subst}
use mathlib.Core.Bool.{Bool, true, false, not, cond, ◌&&◌, ◌||◌, true≢false, false≢true}
use mathlib.Core.List.{List, []}
use mathlib.Core.Logic.{⊎_elim}
use Prim.Native.Nat.{ℕ, ◌+◌, ◌*◌, ◌/◌, ◌%◌, ◌<◌, ◌≤◌, ◌^◌}
use native.Mathlib.Nat.{div-one}
use native.Mathlib.Omega.{arith}
use mir.Val.{bool_byte}
use borrow.Author.Tests.{leb-false, le-leb, lt-leb, eq-eqb, ne_eqb}
use lib.Dec.{eqb, leb}
use Rattle.std.specs.Prelude.{Some, None}
use Rattle.memory.proofs.Laws.{apply_append, below_or_not}
use Rattle.memory.specs.Memory.{Write, apply}
use Rattle.memory.specs.declared.Offset.{Offset}
use Rattle.memory.specs.declared.RealAddress.{RealAddress}
use Rattle.scb.specs.Words.{one, bits_at, bit, joined, event_bits, no_events}
use Rattle.device.specs.Answers.{counter_of, is_stored}
use Rattle.device.specs.State.{good_by, is_good}
use Rattle.device.specs.declared.Counter.TheVariants as counter
use Rattle.device.specs.declared.Fate.{Fate}
use Rattle.device.specs.declared.Frame.{Frame}
use Rattle.device.specs.declared.Ru.{Ru}
use Rattle.device.specs.declared.Ru.TheVariants as ru
use Rattle.device.specs.declared.Storing.{Storing}
use Rattle.device.specs.declared.Verdict.{Verdict}
use Rattle.device.specs.declared.Verdict.TheVariants as verdict
use Rattle.device.specs.declared.Walk.{Walk}
use Rattle.receive.specs.Begin.{begun_by}
use Rattle.receive.specs.Buffer.{after_buffer}
use Rattle.receive.specs.End.{verdict_bit, error_bits, frame_status, fate_by, raised_by, proceeds}
use Rattle.receive.specs.Part.{quietly}
use Rattle.receive.specs.Service.{service}
use Rattle.phases.specs.Forms.{form_in, FormWide}
use Rattle.phases.specs.Phases.{word_of, ru_tag, storing_with, storing_word}
use Rattle.phases.proofs.Units.{never, form_wide}
use Rattle.packed.specs.Packed.{WordIs}
use Rattle.code_arrival.specs.Arrives.{frame_in}
use Rattle.code_receive.specs.Receives.{part_by, part_at, Serves}
use Rattle.code_receive.specs.declared.Received.{Received}

-- ---- numbers and what they are of

pub offset_is : (o : Offset) (n : ℕ) → o.0 ≡ n → o ≡ record { 0 = n }
offset_is o n e = ap {B = Offset} (λ (x : ℕ). record { 0 = x }) e

pub none_raised : 0 ≡ event_bits no_events
unfolding event_bits joined
none_raised = refl

-- ---- words of descriptors

-- EL of a buffer descriptor, and its size
pub el_is : (w : ℕ) → w < 65536 → leb 32768 w ≡ bit w 15
unfolding bits_at
el_is w h =
    ⊎_elim
    (λ (l : w < 32768). lt-leb 32768 w l ∙ sym (ne_eqb (w / 32768 % 2) 1 (λ (z : w / 32768 % 2 ≡ 1). omega arith)))
    (λ (g : 32768 ≤ w). le-leb 32768 w g ∙ sym (eq-eqb (w / 32768 % 2) 1 (omega arith)))
    (below_or_not w 32768)

pub size_is : (w : ℕ) → w % 2 ^ 14 ≡ bits_at w 0 14
unfolding bits_at
size_is w = rw (div-one w)

-- S and EL of a frame descriptor
begun_by_is : (o : Offset) (f : Frame) (p : Bool) (w : ℕ) → storing_with o f p (w / 2 ^ 14) ≡ begun_by o f p w
unfolding begun_by bits_at
begun_by_is o f p w = let a : w / 2 ^ 14 / 2 ≡ w / 2 ^ 15 = omega arith in rw a

pub begun_by_lem : (o : Offset) (f : Frame) (p : Bool) (w n : ℕ) → WordIs (storing_word (storing_with o f p (w / 2 ^ 14)) 0 false) n
    → WordIs (storing_word (begun_by o f p w) 0 false) n
begun_by_lem o f p w n h = subst (λ (s : Storing). WordIs (storing_word s 0 false) n) (begun_by_is o f p w) h

-- the frame is the one held, and its form is whatever the word tells
pub begun_frame : (o : Offset) (f : Frame) (p : Bool) (w : ℕ) → (begun_by o f p w).frame ≡ f
unfolding begun_by
begun_frame o f p w = refl

pub begun_wide : (o : Offset) (n : ℕ) (p : Bool) (w : ℕ) → FormWide (begun_by o (frame_in n) p w).frame.form
begun_wide o n p w = rw (begun_frame o (frame_in n) p w) (form_wide (form_in (word_of n).kind))

last_false : (a b c : Bool) → (a || b || c) ≡ false → c ≡ false
last_false true b c e = absurd (never (sym e))
last_false false true c e = absurd (never (sym e))
last_false false false c e = e

-- with buffers left, the next one is not the last
pub buffers_left : (a b : Bool) (used : ℕ) → (a || b || leb 64 (used + 1)) ≡ false → used + 1 < 64
buffers_left a b used e = leb-false 64 (used + 1) (last_false a b (leb 64 (used + 1)) e)

-- what follows a buffer with data left
module _ (s : Storing) (w : Walk) where
  pub lacking_by : (el none last : Bool) → (el || none || last) ≡ true → after_buffer false el none last s w ≡ ru.Lacking s
  lacking_by true none last e = refl
  lacking_by false true last e = refl
  lacking_by false false true e = refl
  lacking_by false false false e = absurd (never e)

  pub filling_by : (el none last : Bool) → (el || none || last) ≡ false → after_buffer false el none last s w ≡ ru.Filling s w
  filling_by true none last e = absurd (never (sym e))
  filling_by false true last e = absurd (never (sym e))
  filling_by false false true e = absurd (never (sym e))
  filling_by false false false e = refl

-- ---- the status

-- a bit that is set if it applies
pub set_if : (k : ℕ) (applies : Bool) → k * bool_byte applies ≡ cond applies k 0
set_if k true = omega arith
set_if k false = omega arith

pub set_at_most : (applies : Bool) → bool_byte applies ≤ 1
set_at_most true = omega arith
set_at_most false = omega arith

-- a frame has no error bit exactly if it is good and buffers sufficed
no_error : (lacking short : Bool) (v : Verdict) → (not lacking && good_by short v) ≡ true → eqb (verdict_bit v + cond lacking 0x0200 0 + cond short 0x0080 0) 0 ≡ true
no_error true short v e = absurd (false≢true e)
no_error false true v e = absurd (false≢true e)
no_error false false verdict.Good e = refl
no_error false false verdict.Crc e = absurd (false≢true e)
no_error false false verdict.Misaligned e = absurd (false≢true e)

some_error : (lacking short : Bool) (v : Verdict) → (not lacking && good_by short v) ≡ false → eqb (verdict_bit v + cond lacking 0x0200 0 + cond short 0x0080 0) 0 ≡ false
some_error true true verdict.Good e = refl
some_error true true verdict.Crc e = refl
some_error true true verdict.Misaligned e = refl
some_error true false verdict.Good e = refl
some_error true false verdict.Crc e = refl
some_error true false verdict.Misaligned e = refl
some_error false true verdict.Good e = refl
some_error false true verdict.Crc e = refl
some_error false true verdict.Misaligned e = refl
some_error false false verdict.Good e = absurd (true≢false e)
some_error false false verdict.Crc e = refl
some_error false false verdict.Misaligned e = refl

pub status_good : (lacking : Bool) (f : Frame) → (not lacking && is_good f) ≡ true → 0xA000 ≡ frame_status lacking f
unfolding frame_status
status_good lacking f e = let z = no_error lacking f.short f.verdict e in rw z

pub status_bad : (lacking : Bool) (f : Frame) → (not lacking && is_good f) ≡ false → 0x8000 + error_bits lacking f ≡ frame_status lacking f
unfolding frame_status
status_bad lacking f e = let z = some_error lacking f.short f.verdict e in rw z

-- ---- the end

pub stored_is : (lacking saved good : Bool) → (not lacking || saved) ≡ is_stored (fate_by lacking saved good)
stored_is false saved good = refl
stored_is true true true = refl
stored_is true true false = refl
stored_is true false true = refl
stored_is true false false = refl

pub lost_is : (lacking saved good : Bool) → counter_of (fate_by lacking saved good) ≡ cond (lacking && good) (Some counter.Resources) None
lost_is false saved good = refl
lost_is true true true = refl
lost_is true true false = refl
lost_is true false true = refl
lost_is true false false = refl

-- leaving Ready, and staying there
pub raised_suspended : (f : Fate) (o : Offset) → 4 * one (is_stored f) + 1 ≡ event_bits (raised_by f (ru.Suspended o))
unfolding event_bits joined
raised_suspended f o = omega arith

pub raised_ready : (f : Fate) (o : Offset) → 4 * one (is_stored f) ≡ event_bits (raised_by f (ru.Ready o))
unfolding event_bits joined
raised_ready f o = omega arith

pub raised_none : (f : Fate) → 4 * one (is_stored f) + 1 ≡ event_bits (raised_by f ru.NoResources)
unfolding event_bits joined
raised_none f = omega arith

-- what goes on after writes, on memory as it stands then, is what goes on with those writes before it. Only the base is asked of the part
pub after_writes : (e : Bool) (base : RealAddress) (scb : Offset) (unit : Ru) (h : List ℕ) (s : Storing) (free : Offset) (f : Fate) (ws : List Write)
    (m m₁ : List ℕ) (r : Received) (m₂ : List ℕ)
    → m₁ ≡ apply ws m → Serves (proceeds e (part_at base []) s free f [] m₁) m₁ r m₂ → Serves (proceeds e (part_by base scb unit h) s free f ws m) m r m₂
after_writes true base scb unit h s free f ws m m₁ r m₂ w k = record { unit = k.unit; raised = k.raised; memory = k.memory ∙ w }
after_writes false base scb unit h s free f ws m m₁ r m₂ w k =
    record { unit = rw (← w) k.unit; raised = rw (← w) k.raised; memory = rw (apply_append, ← w) k.memory }

-- ---- one service

-- with no frame held there is no work
pub unserved : (base : RealAddress) (scb : Offset) (u : Ru) (h m : List ℕ) → ru_tag u < 4 → service (part_by base scb u h) m ≡ quietly u []
unfolding service
unserved base scb ru.Idle h m l = refl
unserved base scb ru.NoResources h m l = refl
unserved base scb (ru.Suspended o) h m l = refl
unserved base scb (ru.Ready o) h m l = refl
unserved base scb (ru.Held o f p) h m l = absurd (omega arith)
unserved base scb (ru.Filling s w) h m l = absurd (omega arith)
unserved base scb (ru.Closing s o full) h m l = absurd (omega arith)
unserved base scb (ru.Lacking s) h m l = absurd (omega arith)
