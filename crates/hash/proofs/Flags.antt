-- What a register's number shows of its flags: A[k] is its bit 31 - k, a shift halves it, and one bit taken by the paper's
-- program is one bit taken by the number. Assumes nothing.
use mathlib.Core.Path.{◌≡◌, ◌∙◌, refl, sym, ap, ap₂}
use mathlib.Core.Bool.{Bool, true, false}
use mathlib.Core.List.{List, [], ◌∷◌}
use Prim.Native.Nat.{ℕ, zero, suc, ◌+◌, ◌-◌, ◌*◌, ◌/◌, ◌%◌, ◌^◌, ◌<◌}
use native.Mathlib.Nat.{div-one, div-lt_iff_lt-mul, mul_comm, not-suc-le-zero, suc-sub-suc, sub-zero, le_of_suc-le-suc, one-mul}
use native.Mathlib.Numerals.{add-one}
use native.Mathlib.Omega.{arith}
use lib.Arith.{digits_div, digits_mod}
use lib.Bits.{bit_xor, differ, xor_step, xor_zero_r}
use lib.ListN.{length}
use lib.Pow.{pow_pos, shr-shr}
use Rattle.scb.specs.Words.{bits_at, bit, one}
use Rattle.hash.specs.Hash.{◌<>◌, flag, shifted, step}
use Rattle.hash.specs.Numbers.{number_from, number, taps, drip, flag_in}
use Rattle.hash.proofs.Xor.{xor_half, xor_odd}

-- ---- a number and one flag below it

one_below : (b : Bool) → one b < 2
one_below true = omega arith
one_below false = omega arith

half : (n : ℕ) (b : Bool) → (2 * n + one b) / 2 ≡ n
half n b = rw (mul_comm 2 n) (digits_div n (one_below b))

odd : (n : ℕ) (b : Bool) → (2 * n + one b) % 2 ≡ one b
odd n b = rw (mul_comm 2 n) (digits_mod n (one_below b))

-- ---- all flags

-- flags that follow stand below
above : (n : ℕ) (bs : List Bool) → number_from n bs / 2 ^ length bs ≡ n
unfolding number_from
above n [] = div-one n
above n (b ∷ bs) =
    let m = number_from (2 * n + one b) bs in
    ap (λ (k : ℕ). m / 2 ^ k) (sym (add-one (length bs))) ∙ sym (shr-shr m (length bs) 1) ∙ ap (λ (x : ℕ). x / 2) (above (2 * n + one b) bs) ∙ half n b

pub number_below : (a : List Bool) → number a < 2 ^ length a
unfolding number
number_below a =
    let e : number a / 2 ^ length a < 1 = rw (above 0 a) (omega arith) in
    rw one-mul at ((div-lt_iff_lt-mul (pow_pos (length a))).0 e)

flag_from : (n : ℕ) (a : List Bool) (k : ℕ) → k < length a → number_from n a / 2 ^ (length a - suc k) % 2 ≡ one (flag a k)
unfolding number_from
flag_from n [] k h = absurd (not-suc-le-zero h)
flag_from n (b ∷ bs) zero h = rw (suc-sub-suc, sub-zero) (ap (λ (x : ℕ). x % 2) (above (2 * n + one b) bs) ∙ odd n b)
flag_from n (b ∷ bs) (suc k) h = rw suc-sub-suc (flag_from (2 * n + one b) bs k (le_of_suc-le-suc h))

pub flag_in_lem : (a : List Bool) (k : ℕ) → k < length a → number a / 2 ^ (length a - suc k) % 2 ≡ one (flag a k)
unfolding number
flag_in_lem = flag_from 0

-- ---- exclusive or, flag by flag

abbrev xors : List Bool → List Bool → List Bool
xors [] ys = []
xors (x ∷ xs) [] = []
xors (x ∷ xs) (y ∷ ys) = (x <> y) ∷ xors xs ys

differ_one : (x y : Bool) → differ (one x) (one y) ≡ one (x <> y)
differ_one true true = refl
differ_one true false = refl
differ_one false true = refl
differ_one false false = refl

xor_flag : (n m : ℕ) (x y : Bool) → bit_xor (2 * n + one x) (2 * m + one y) ≡ 2 * bit_xor n m + one (x <> y)
xor_flag n m x y =
    xor_step (2 * n + one x) (2 * m + one y)
    ∙ ap₂ (λ (p q : ℕ). bit_xor p q * 2 + differ ((2 * n + one x) % 2) ((2 * m + one y) % 2)) (half n x) (half m y)
    ∙ ap₂ (λ (p q : ℕ). bit_xor n m * 2 + differ p q) (odd n x) (odd m y)
    ∙ ap₂ (λ (p q : ℕ). p + q) (mul_comm (bit_xor n m) 2) (differ_one x y)

xors_from : (n m : ℕ) (xs ys : List Bool) → length xs ≡ length ys → number_from (bit_xor n m) (xors xs ys) ≡ bit_xor (number_from n xs) (number_from m ys)
unfolding number_from
xors_from n m [] [] h = refl
xors_from n m [] (y ∷ ys) h = omega arith
xors_from n m (x ∷ xs) [] h = omega arith
xors_from n m (x ∷ xs) (y ∷ ys) h =
    ap (λ (p : ℕ). number_from p (xors xs ys)) (sym (xor_flag n m x y)) ∙ xors_from (2 * n + one x) (2 * m + one y) xs ys (omega arith)

number_xors : (xs ys : List Bool) → length xs ≡ length ys → number (xors xs ys) ≡ bit_xor (number xs) (number ys)
unfolding number
number_xors = xors_from 0 0

-- ---- one bit

-- a list by its flags
abbrev listed : ℕ → (ℕ → Bool) → List Bool
listed zero f = []
listed (suc k) f = f 0 ∷ listed k (λ i. f (suc i))

as_listed : (a : List Bool) → a ≡ listed (length a) (flag a)
as_listed [] = refl
as_listed (b ∷ bs) = ap (λ (l : List Bool). b ∷ l) (as_listed bs)

-- the flags above the last, moved one place
abbrev moved : List Bool → List Bool
moved a = false ∷ listed 31 (flag a)

halved : (a : List Bool) → length a ≡ 32 → number (moved a) ≡ number a / 2
unfolding number number_from
halved a h =
    let e : a ≡ listed 32 (flag a) = rw h at (as_listed a) in
    sym (ap (λ (l : List Bool). number l / 2) e ∙ half (number (moved a)) (flag a 31))

-- the taps as flags, A[0] first
abbrev tapped : List Bool
tapped = listed 32 (λ k. bit taps (31 - k))

shift : (a : List Bool) (fb : Bool) → length a ≡ 32 → number (shifted a fb) ≡ bit_xor (number a / 2) (one fb * taps)
unfolding shifted bits_at number number_from
shift a true h = number_xors (moved a) tapped refl ∙ ap (λ (x : ℕ). bit_xor x taps) (halved a h)
shift a false h = halved a h ∙ sym (xor_zero_r (number a / 2))

feedback : (f x : Bool) → bit_xor (one f) (one x % 2) ≡ one (f <> x)
feedback true true = refl
feedback true false = refl
feedback false true = refl
feedback false false = refl

one_half : (x : Bool) → one x / 2 ≡ 0
one_half true = refl
one_half false = refl

last : (a : List Bool) → length a ≡ 32 → number a % 2 ≡ one (flag a 31)
last a h = rw (h, div-one) at (flag_in_lem a 31 (rw h (omega arith)))

pub step_number : (a : List Bool) (x : Bool) → length a ≡ 32 → number (step a x) ≡ drip (bit_xor (number a) (one x))
unfolding step drip
step_number a x h =
    let n = number a in
    let high : bit_xor n (one x) / 2 ≡ n / 2 = xor_half n (one x) ∙ ap (bit_xor (n / 2)) (one_half x) ∙ xor_zero_r (n / 2) in
    let low : bit_xor n (one x) % 2 ≡ one (flag a 31 <> x) =
    xor_odd n (one x) ∙ ap (λ (p : ℕ). bit_xor p (one x % 2)) (last a h) ∙ feedback (flag a 31) x in
    shift a (flag a 31 <> x) h ∙ sym (ap₂ (λ (p q : ℕ). bit_xor p (q * taps)) high low)

-- ---- A[k] of a whole register

pub flag_at_lem : (a : List Bool) (k : ℕ) → length a ≡ 32 → k < 32 → flag_in (number a) k ≡ one (flag a k)
flag_at_lem a k h l =
    ap (λ (p : ℕ). number a / 2 ^ p % 2) (sym (suc-sub-suc 31 k)) ∙ rw h at (flag_in_lem a k (rw h l))
