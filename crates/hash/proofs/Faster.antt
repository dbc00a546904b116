-- The faster form of the function HASH, over the register as a number, is the paper's program, for every list of numbers;
-- and what one byte more does to the number. Assumes nothing.
use mathlib.Core.Path.{◌≡◌, ◌∙◌, refl, sym, ap}
use mathlib.Core.Bool.{Bool}
use mathlib.Core.List.{List, [], ◌∷◌, ◌++◌}
use Prim.Native.Nat.{ℕ, zero, suc, ◌+◌, ◌*◌, ◌/◌, ◌%◌, ◌^◌, ◌<◌}
use native.Mathlib.Nat.{mod-lt, mod-one}
use native.Mathlib.Numerals.{one-add}
use native.Mathlib.Omega.{arith}
use lib.Bits.{bit_xor, xor_zero_r}
use lib.Dec.{eqb}
use lib.ListN.{length}
use Rattle.scb.specs.Words.{bits_at, bit, one}
use Rattle.hash.specs.Hash.{ones, shifted, step, bits_in, register, selected, hash}
use Rattle.hash.specs.Numbers.{number_from, number, behind, drip, drained, taken, taken_all, flag_in, selected_in, fast}
use Rattle.hash.proofs.Flags.{number_below, step_number, flag_at_lem}
use Rattle.hash.proofs.Runs.{run, run_run, byte_taken}
use Rattle.hash.proofs.Xor.{at_bit}

-- ---- a register keeps its 32 flags

bits_length : (a : List Bool) (b k : ℕ) → length a ≡ 32 → length (bits_in a b k) ≡ 32
unfolding shifted step bits_in
bits_length a b zero h = h
bits_length a b (suc k) h = refl

register_length : (a : List Bool) (bs : List ℕ) → length a ≡ 32 → length (register a bs) ≡ 32
unfolding register
register_length a [] h = h
register_length a (b ∷ bs) h = register_length (bits_in a b 8) bs (bits_length a b 8 h)

pub behind_length : (bs : List ℕ) → length (register ones bs) ≡ 32
unfolding ones
behind_length bs = register_length ones bs refl

-- ---- bits, a byte, bytes

bit_one : (b k : ℕ) → one (bit b k) ≡ b / 2 ^ k % 2
unfolding bits_at
bit_one b k = at_bit (λ x. one (eqb x 1) ≡ x) refl refl (b / 2 ^ k)

bits_taken : (a : List Bool) (b k : ℕ) → length a ≡ 32 → number (bits_in a b k) ≡ run k (number a) b
unfolding bits_in drained
bits_taken a b zero h = sym (ap (bit_xor (number a)) (mod-one b) ∙ xor_zero_r (number a))
bits_taken a b (suc k) h =
    step_number (bits_in a b k) (bit b k) (bits_length a b k h)
    ∙ ap (λ (x : ℕ). drip (bit_xor (number (bits_in a b k)) x)) (bit_one b k)
    ∙ ap (λ (n : ℕ). run 1 n (b / 2 ^ k)) (bits_taken a b k h)
    ∙ run_run 1 k (number a) b
    ∙ ap (λ (j : ℕ). run j (number a) b) (one-add k)

register_taken : (a : List Bool) (bs : List ℕ) → length a ≡ 32 → number (register a bs) ≡ taken_all (number a) bs
unfolding register taken_all
register_taken a [] h = refl
register_taken a (b ∷ bs) h =
    register_taken (bits_in a b 8) bs (bits_length a b 8 h)
    ∙ ap (λ (n : ℕ). taken_all n bs) (bits_taken a b 8 h ∙ sym (byte_taken (number a) b))

-- ---- the number behind bytes

pub before : behind [] ≡ 0xFFFFFFFF
unfolding behind register ones number number_from
before = refl

behind_all : (bs : List ℕ) → behind bs ≡ taken_all 0xFFFFFFFF bs
unfolding behind ones number number_from
behind_all bs = register_taken ones bs refl

all_more : (n : ℕ) (bs : List ℕ) (b : ℕ) → taken_all n (bs ++ (b ∷ [])) ≡ taken (taken_all n bs) b
unfolding taken_all
all_more n [] b = refl
all_more n (c ∷ bs) b = all_more (taken n c) bs b

pub behind_more : (bs : List ℕ) (b : ℕ) → behind (bs ++ (b ∷ [])) ≡ taken (behind bs) b
behind_more bs b = behind_all (bs ++ (b ∷ [])) ∙ all_more 0xFFFFFFFF bs b ∙ ap (λ (n : ℕ). taken n b) (sym (behind_all bs))

pub behind_below : (bs : List ℕ) → behind bs < 2 ^ 32
unfolding behind
behind_below bs = rw (behind_length bs) at (number_below (register ones bs))

-- ---- the six bits

selected_in_lem : (a : List Bool) → length a ≡ 32 → selected_in (number a) ≡ selected a
unfolding selected selected_in
selected_in_lem a h =
    rw (flag_at_lem a 5 h (omega arith), flag_at_lem a 6 h (omega arith), flag_at_lem a 7 h (omega arith), flag_at_lem a 2 h (omega arith), flag_at_lem a 3 h (omega arith), flag_at_lem a 4 h (omega arith))

pub selected_behind : (bs : List ℕ) → selected_in (behind bs) ≡ hash bs
unfolding behind hash
selected_behind bs = selected_in_lem (register ones bs) (behind_length bs)

pub faster_is_hash : (bs : List ℕ) → fast bs ≡ hash bs
unfolding fast
faster_is_hash bs = ap selected_in (sym (behind_all bs)) ∙ selected_behind bs

six_below : (a b c d e f : ℕ) → a < 2 → b < 2 → c < 2 → d < 2 → e < 2 → f < 2 → a + 2 * b + 4 * c + 8 * d + 16 * e + 32 * f < 64
six_below a b c d e f ha hb hc hd he hf = omega arith

pub selected_below : (n : ℕ) → selected_in n < 64
unfolding selected_in
selected_below n =
    let low : (m : ℕ) → m % 2 < 2 = λ m. mod-lt m (omega arith) in
    six_below (flag_in n 5) (flag_in n 6) (flag_in n 7) (flag_in n 2) (flag_in n 3) (flag_in n 4) (low _) (low _) (low _) (low _) (low _) (low _)

pub hash_below : (bs : List ℕ) → hash bs < 64
hash_below bs = rw (← selected_behind bs) (selected_below (behind bs))
