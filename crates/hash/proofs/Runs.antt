-- Bits 0 that are shifted through a register pass through exclusive or; so bits may be taken in runs of any length, and a run
-- of four is what `four_taken` takes. Assumes nothing.
use mathlib.Core.Path.{◌≡◌, ◌∙◌, refl, sym, ap, ap₂}
use Prim.Native.Nat.{ℕ, zero, suc, ◌+◌, ◌*◌, ◌/◌, ◌%◌, ◌^◌}
use native.Mathlib.Nat.{mod-lt, mod-mod, add-zero, add-suc, mul-one, div-eq_of_lt}
use lib.Bits.{bit_xor, xor_comm, xor_zero_r, xor_shr, xor_mod, xor_shifted, shifted_half, shifted_even}
use lib.Pow.{pow_pos, mod-pow-add, split}
use Rattle.hash.specs.Numbers.{taps, drip, drained, four_taken, taken}
use Rattle.hash.proofs.Xor.{at_bit, xor_half, xor_odd, xor_assoc, xor_swap}

fed : (a b : ℕ) → bit_xor (a % 2) (b % 2) * taps ≡ bit_xor (a % 2 * taps) (b % 2 * taps)
fed a b =
    at_bit (λ x. bit_xor x (b % 2) * taps ≡ bit_xor (x * taps) (b % 2 * taps)) refl
    (at_bit (λ y. bit_xor 1 y * taps ≡ bit_xor taps (y * taps)) refl refl b) a

drip_xor : (a b : ℕ) → drip (bit_xor a b) ≡ bit_xor (drip a) (drip b)
unfolding drip
drip_xor a b =
    ap₂ (λ (x y : ℕ). bit_xor x (y * taps)) (xor_half a b) (xor_odd a b)
    ∙ ap (bit_xor (bit_xor (a / 2) (b / 2))) (fed a b)
    ∙ xor_swap (a / 2) (b / 2) (a % 2 * taps) (b % 2 * taps)

pub drained_xor : (k a b : ℕ) → drained k (bit_xor a b) ≡ bit_xor (drained k a) (drained k b)
unfolding drained
drained_xor zero a b = refl
drained_xor (suc k) a b = ap (drained k) (drip_xor a b) ∙ drained_xor k (drip a) (drip b)

-- bits that stand above k bits 0 come down unchanged
pub drained_high : (k n : ℕ) → drained k (n * 2 ^ k) ≡ n
unfolding drip drained
drained_high zero n = mul-one n
drained_high (suc k) n =
    ap₂ (λ (x y : ℕ). drained k (bit_xor x (y * taps))) (shifted_half n k) (shifted_even n k)
    ∙ ap (drained k) (xor_zero_r (n * 2 ^ k))
    ∙ drained_high k n

pub drained_add : (k j n : ℕ) → drained j (drained k n) ≡ drained (j + k) n
unfolding drained
drained_add zero j n = rw add-zero
drained_add (suc k) j n = rw add-suc (drained_add k j (drip n))

-- ---- the k low bits of b, taken by a register n in one run

abbrev pub run : ℕ → ℕ → ℕ → ℕ
run k n b = drained k (bit_xor n (b % 2 ^ k))

-- a run, and the run above it, are one
pub run_run : (j k n b : ℕ) → run j (run k n b) (b / 2 ^ k) ≡ run (j + k) n b
run_run j k n b =
    let low = b % 2 ^ k in
    let high = b / 2 ^ k % 2 ^ j in
    ap (λ (x : ℕ). drained j (bit_xor (run k n b) x)) (sym (drained_high k high))
    ∙ ap (drained j) (sym (drained_xor k (bit_xor n low) (high * 2 ^ k)) ∙ ap (drained k) (xor_assoc n low (high * 2 ^ k)))
    ∙ drained_add k j (bit_xor n (bit_xor low (high * 2 ^ k)))
    ∙ ap (λ (x : ℕ). drained (j + k) (bit_xor n x))
    (xor_comm low (high * 2 ^ k) ∙ xor_shifted high k low (mod-lt b (pow_pos k)) ∙ sym (mod-pow-add b j k))

-- the bits above the run only come down
pub run_split : (k n b : ℕ) → run k n b ≡ bit_xor (n / 2 ^ k) (drained k (bit_xor n b % 2 ^ k))
run_split k n b =
    let m = bit_xor n (b % 2 ^ k) in
    let high : m / 2 ^ k ≡ n / 2 ^ k =
    xor_shr n (b % 2 ^ k) k ∙ ap (bit_xor (n / 2 ^ k)) (div-eq_of_lt (mod-lt b (pow_pos k))) ∙ xor_zero_r (n / 2 ^ k) in
    let low : m % 2 ^ k ≡ bit_xor n b % 2 ^ k =
    xor_mod n (b % 2 ^ k) k ∙ ap (bit_xor (n % 2 ^ k)) (mod-mod b (2 ^ k)) ∙ sym (xor_mod n b k) in
    ap (drained k) (sym (split m k) ∙ sym (xor_shifted (m / 2 ^ k) k (m % 2 ^ k) (mod-lt m (pow_pos k))))
    ∙ drained_xor k (m / 2 ^ k * 2 ^ k) (m % 2 ^ k)
    ∙ ap₂ bit_xor (drained_high k (m / 2 ^ k) ∙ high) (ap (drained k) low)

pub four_taken_lem : (n b : ℕ) → four_taken n b ≡ run 4 n b
unfolding four_taken
four_taken_lem n b = sym (run_split 4 n b)

pub byte_taken : (n b : ℕ) → taken n b ≡ run 8 n b
unfolding taken
byte_taken n b = four_taken_lem (four_taken n b) (b / 16) ∙ ap (λ (x : ℕ). run 4 x (b / 16)) (four_taken_lem n b) ∙ run_run 4 4 n b
