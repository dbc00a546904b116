-- The laws of a word's fields, once over every place and width: what the code of `field` and `join` computes,
-- and what is read of a word that was joined. Assumes nothing.
use mathlib.Core.Path.{◌≡◌, ◌∙◌, sym}
use Prim.Native.Nat.{ℕ, ◌+◌, ◌*◌, ◌/◌, ◌%◌, ◌^◌, ◌-◌, ◌<◌, ◌≤◌}
use native.Mathlib.Nat.{add_comm, mod-lt, mod-eq_of_lt, div-eq_of_lt, zero-mod, lt_of_lt_of_le, lt_of_le_of_lt, suc-mul, mul-le-mul_right, add-mul-mod_self_right, mul_assoc, div-one}
use native.Mathlib.Omega.{arith}
use lib.Bits.{bit_and, bit_or, and_mask, or_shifted_r}
use lib.Dec.{eqb, eqb→eq}
use lib.Pow as pow
use lib.Pow.{pow_pos, pow-add, pow_mono, shr-shr, shr_le, high}
use Rattle.scb.specs.Words.{bits_at, joined}
use Rattle.scb.proofs.Below.{below}

-- ---- the code of `field`: shift right, and mask

one_mask : (n : ℕ) → n < 16 → 1 * 2 ^ n % 65536 ≡ 2 ^ n
one_mask n h = eqb→eq (1 * 2 ^ n % 65536) (2 ^ n) (below (λ k. eqb (1 * 2 ^ k % 65536) (2 ^ k)) 16 tt n h)

pub mask_room : (n : ℕ) → n < 16 → 1 ≤ 1 * 2 ^ n % 65536
mask_room n h = rw (one_mask n h) (pow_pos n)

pub bits_law : (w at bits : ℕ) → bits < 16 → bit_and (w / 2 ^ at) (1 * 2 ^ bits % 65536 - 1) ≡ bits_at w at bits
unfolding bits_at
bits_law w at bits h = rw (one_mask bits h) (and_mask (w / 2 ^ at) bits)

-- ---- the code of `join`: shift left, and or

pub join_law : (w at v : ℕ) → w < 2 ^ at → v * 2 ^ at < 65536 → bit_or w (v * 2 ^ at % 65536) ≡ joined w at v
unfolding joined
join_law w at v below fits = rw (mod-eq_of_lt fits) (or_shifted_r v at w below ∙ add_comm (v * 2 ^ at) w)

-- ---- bounds

pub bits_below : (w at bits : ℕ) → bits_at w at bits < 2 ^ bits
unfolding bits_at
bits_below w at bits = mod-lt (w / 2 ^ at) (pow_pos bits)

-- past the end of the word all is zero
pub bits_past : (w at bits : ℕ) → w < 2 ^ at → bits_at w at bits ≡ 0
unfolding bits_at
bits_past w at bits h = rw (div-eq_of_lt h) (zero-mod (2 ^ bits))

-- a word that is no wider than the field is the field
pub bits_whole : (w bits : ℕ) → w < 2 ^ bits → bits_at w 0 bits ≡ w
unfolding bits_at
bits_whole w bits h = rw (div-one w) (mod-eq_of_lt h)

-- a field that begins past bit 15, and one that is wider than the word
pub bits_outside : (w at bits : ℕ) → w < 65536 → 15 < at → 0 ≡ bits_at w at bits
bits_outside w at bits h past = rw (bits_past w at bits (lt_of_lt_of_le h (pow_mono past)))

pub bits_wide : (w at bits : ℕ) → w < 65536 → 15 < bits → w / 2 ^ at ≡ bits_at w at bits
unfolding bits_at
bits_wide w at bits h wide = sym (mod-eq_of_lt (lt_of_le_of_lt (shr_le w at) (lt_of_lt_of_le h (pow_mono wide))))

pub joined_below : (w at v bits : ℕ) → w < 2 ^ at → v < 2 ^ bits → joined w at v < 2 ^ (bits + at)
unfolding joined
joined_below w at v bits below fits =
    let over : v * 2 ^ at + 2 ^ at ≤ 2 ^ bits * 2 ^ at = rw (← suc-mul v (2 ^ at)) (mul-le-mul_right (2 ^ at) fits) in
    rw (pow-add 2 bits at) (omega arith)

-- ---- what is read of a joined word

-- from bit `at` on, what was joined there
pub bits_above : (w at v k bits : ℕ) → w < 2 ^ at → bits_at (joined w at v) (at + k) bits ≡ bits_at v k bits
unfolding bits_at joined
bits_above w at v k bits h = rw (← shr-shr (w + v * 2 ^ at) at k, add_comm w (v * 2 ^ at), high v at h)

-- at the place itself, at any width that holds it
pub bits_of_joined : (w at v bits : ℕ) → w < 2 ^ at → v < 2 ^ bits → bits_at (joined w at v) at bits ≡ v
unfolding bits_at joined
bits_of_joined w at v bits h fits = rw (add_comm w (v * 2 ^ at), high v at h) (mod-eq_of_lt fits)

kept : (w v d at bits : ℕ) → bits_at (joined w (d + (bits + at)) v) at bits ≡ bits_at w at bits
unfolding bits_at joined
kept w v d at bits =
    let whole = bits + at in
    let over : w + v * 2 ^ (d + whole) ≡ w + v * 2 ^ d * 2 ^ whole = rw (pow-add 2 d whole, ← mul_assoc v (2 ^ d) (2 ^ whole)) in
    rw (over, ← pow.field (w + v * 2 ^ d * 2 ^ whole) bits at, add-mul-mod_self_right w (v * 2 ^ d) (2 ^ whole)) (pow.field w bits at)

-- below bit `at`, what was there
pub bits_kept : (w at v k bits : ℕ) → bits + k ≤ at → bits_at (joined w at v) k bits ≡ bits_at w k bits
bits_kept w at v k bits h =
    let e : at - (bits + k) + (bits + k) ≡ at = omega arith in
    rw e at (kept w v (at - (bits + k)) k bits)
