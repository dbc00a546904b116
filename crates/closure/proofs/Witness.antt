-- Each row of the table gives its number at some call: nothing shown of refusals is empty, and not every call is refused. Assumes nothing.
use mathlib.Core.Path.{◌≡◌, refl, sym, ◌∙◌}
use mathlib.Core.Bool.{false}
use mathlib.Core.List.{List}
use mathlib.Core.Logic.{inl, inr}
use Prim.Native.Nat.{ℕ}
use native.Mathlib.Omega.{arith}
use lib.ListN.{length, replicate, length-replicate}
use Rattle.std.specs.Prelude.{Option, Some, None}
use Rattle.memory.specs.Memory.{value}
use Rattle.memory.specs.Size.{Allowed}
use Rattle.memory.proofs.Bytes.{Bytes}
use Rattle.device.specs.Numbers.{refusal_or_0}
use Rattle.device.specs.State.{fresh}
use Rattle.device.specs.declared.Refusal.{Refusal}
use Rattle.device.specs.declared.Refusal.TheVariants as refusal
use Rattle.numerals.specs.Places.{bytes_from, field}
use Rattle.image.specs.Image.{image_of, decode_of, shaped, head_shaped}
use Rattle.image.specs.Found as is
use Rattle.image.proofs.Exact.{fresh_range, fresh_wide, image_bytes}
use Rattle.image.proofs.Steps.{length_image, decode_full_lem, full_other}
use Rattle.chip.specs.Call.{Call, attention, arrive}
use Rattle.calls.specs.Calls.{Areas, areas_of}
use Rattle.traces.specs.Areas.{AreBytes, Holds}
use Rattle.closure.specs.Refusals.{Right, Wrong, When, Seen}
use Rattle.closure.proofs.Command.{replicate_bytes}
use Rattle.closure.proofs.Refusals.{foreign_holds, table}

seen : (r : Option Refusal) (c : Call) (a : Areas) → AreBytes a → Wrong r c a → When (refusal_or_0 r) c a → Seen r
seen r c a l x w = record { call = c; areas = a; lent = l; wrong = x; given = (table c a l.kept (refusal_or_0 r)).1 w }

zeros : ℕ → List ℕ
zeros n = replicate n 0

zeros_length : (n : ℕ) → length (zeros n) ≡ n
unfolding zeros
zeros_length n = length-replicate {A = ℕ} n 0

zeros_bytes : (n : ℕ) → Bytes (zeros n)
unfolding zeros
zeros_bytes n = replicate_bytes n 0 (omega arith)

-- memory of 8,192 bytes, and areas as long as they must be
smallest : (m : List ℕ) → length m ≡ 8192 → Allowed (length m)
smallest m e = record { least = omega arith; most = omega arith; exponent = 13; power = e }

lent : (n h o : ℕ) (r : List ℕ) → Bytes r → AreBytes (areas_of (zeros n) (zeros h) (zeros o) r)
lent n h o r b = record { memory = zeros_bytes n; holding = zeros_bytes h; outgoing = zeros_bytes o; kept = b }

memory_right : Allowed (length (zeros 8192))
memory_right = smallest (zeros 8192) (zeros_length 8192)

area_right : length (zeros 2048) ≡ 2048
area_right = zeros_length 2048

-- the fresh record, and one of zeros, which is the image of no state
fresh_length : length (image_of fresh) ≡ 256
fresh_length = length_image fresh fresh_wide.own

fresh_holds : Holds (image_of fresh) fresh
fresh_holds = record { wide = fresh_wide; range = fresh_range; image = refl }

zeros_shaped : shaped (zeros 256) ≡ false
unfolding zeros shaped head_shaped field bytes_from value
zeros_shaped = refl

zeros_foreign : decode_of (zeros 256) ≡ is.Foreign
zeros_foreign = sym (decode_full_lem (zeros 256) (zeros_length 256)) ∙ sym (full_other (zeros 256) zeros_shaped)

-- everything right but, it may be, the frame
fine : (m h o : ℕ) → Areas
fine m h o = areas_of (zeros m) (zeros h) (zeros o) (image_of fresh)

fine_lent : (m h o : ℕ) → AreBytes (fine m h o)
unfolding fine
fine_lent m h o = lent m h o (image_of fresh) (image_bytes fresh fresh_wide)

-- a row that is the first to be wrong; memory, record, holding and outgoing area are right before it
pub each_row : (r : Option Refusal) → Seen r
unfolding fine
each_row None =
    seen None attention (fine 8192 2048 2048) (fine_lent 8192 2048 2048) tt
    (inr (memory_right, inr (fresh_length, inr (area_right, inr (area_right, inr (omega arith, inr ((fresh, fresh_holds), refl)))))))
each_row (Some refusal.Memory) =
    let w : Right attention (fine 0 2048 2048) refusal.Memory → ⊥ = λ h. omega (arith, h.least, zeros_length 0) in
    seen (Some refusal.Memory) attention (fine 0 2048 2048) (fine_lent 0 2048 2048) w (inl (w, refl))
each_row (Some refusal.Record) =
    let a = areas_of (zeros 8192) (zeros 2048) (zeros 2048) (zeros 0) in
    let w : Right attention a refusal.Record → ⊥ = λ h. omega (arith, h, zeros_length 0) in
    seen (Some refusal.Record) attention a (lent 8192 2048 2048 (zeros 0) (zeros_bytes 0)) w (inr (memory_right, inl (w, refl)))
each_row (Some refusal.Holding) =
    let w : Right attention (fine 8192 0 2048) refusal.Holding → ⊥ = λ h. omega (arith, h, zeros_length 0) in
    seen (Some refusal.Holding) attention (fine 8192 0 2048) (fine_lent 8192 0 2048) w (inr (memory_right, inr (fresh_length, inl (w, refl))))
each_row (Some refusal.Outgoing) =
    let w : Right attention (fine 8192 2048 0) refusal.Outgoing → ⊥ = λ h. omega (arith, h, zeros_length 0) in
    seen (Some refusal.Outgoing) attention (fine 8192 2048 0) (fine_lent 8192 2048 0) w
    (inr (memory_right, inr (fresh_length, inr (area_right, inl (w, refl)))))
each_row (Some refusal.Overlong) =
    let c = arrive (zeros 2049) 0 in
    let w : Right c (fine 8192 2048 2048) refusal.Overlong → ⊥ = λ h. omega (arith, h, zeros_length 2049) in
    seen (Some refusal.Overlong) c (fine 8192 2048 2048) (fine_lent 8192 2048 2048) w
    (inr (memory_right, inr (fresh_length, inr (area_right, inr (area_right, inl (w, refl))))))
each_row (Some refusal.Foreign) =
    let a = areas_of (zeros 8192) (zeros 2048) (zeros 2048) (zeros 256) in
    let w : Right attention a refusal.Foreign → ⊥ = foreign_holds (zeros 256) zeros_foreign in
    seen (Some refusal.Foreign) attention a (lent 8192 2048 2048 (zeros 256) (zeros_bytes 256)) w
    (inr (memory_right, inr (zeros_length 256, inr (area_right, inr (area_right, inr (omega arith, inl (w, refl)))))))
