-- Bytes and numbers at a place: their lengths and bounds, what is read of lists that are put together, and the turns of the loops. Assumes nothing.
use Rattle.std.proofs.Common.{◌≡◌, ℕ, zero, suc, ◌+◌, ◌-◌, ◌*◌, ◌/◌, ◌%◌, ◌^◌, ◌<◌, ◌≤◌, false, ◌&&◌, List, [], ◌∷◌, ◌++◌, length, get_or, take, drop, replicate, eqb, bit_or, w64, refl, sym, ap, ◌∙◌, add-zero, zero-add, add-suc, suc-add, pow-suc, mod-eq_of_lt, mul-suc, arith}
use native.Mathlib.Nat.{pow-succ', div-div-eq-div-mul}
use borrow.Author.Tests.{ne_eqb}
use borrow.Rule.Slice.PartMut.{put_mid}
use lib.Bits.{or_add_and, and_le_l, and_le_r}
use lib.ListN.{drop_of_length-le}
use lib.Seq.{drop-cons, take_at, sets, sets-eq}
use mathlib.Core.List.{append-nil}
use Rattle.std.proofs.lemmas.List.{length-append, length-replicate, drop-replicate}
use Rattle.std.specs.Int.{byte_at, bytes_low_first, from_le_bytes, to_le_bytes}
use Rattle.memory.specs.Memory.{value, digits}
use Rattle.memory.proofs.Fields.{value_append, value_digits, length_digits}
use Rattle.memory.proofs.Bytes.{Bytes, bytes_nil, bytes_cons, digits_value, value_lt}
use Rattle.numerals.specs.Places.{bytes_from, field}

-- ---- lengths and bounds

pub length_from : (r : List ℕ) (at n : ℕ) → length (bytes_from r at n) ≡ n
unfolding bytes_from
length_from r at zero = refl
length_from r at (suc n) = ap suc (length_from r (suc at) n)

pub from_bytes : (r : List ℕ) (at n : ℕ) → Bytes r → Bytes (bytes_from r at n)
unfolding bytes_from
from_bytes r at zero h = bytes_nil
from_bytes r at (suc n) h = bytes_cons (get_or r at 0) (bytes_from r (suc at) n) (h.each at) (from_bytes r (suc at) n h)

module _ (r : List ℕ) (h : Bytes r) (at n : ℕ) where
  pub field_below : field r at n < 256 ^ n
  unfolding field
  field_below = rw length_from at (value_lt (bytes_from r at n) (from_bytes r at n h))

  -- bytes are the digits of the number that they spell
  pub piece : bytes_from r at n ≡ digits n (field r at n)
  unfolding field
  piece = sym (rw length_from at (digits_value (bytes_from r at n) (from_bytes r at n h)))

pub fit : (k v : ℕ) → v < 256 ^ k → value (digits k v) ≡ v
fit k v h = value_digits k v ∙ mod-eq_of_lt h

pub digits_zero : (n : ℕ) → digits n 0 ≡ replicate n 0
unfolding digits
digits_zero zero = refl
digits_zero (suc n) = rw (digits_zero n)

-- ---- lists that are put together

pub from_append : (r : List ℕ) (at j k : ℕ) → bytes_from r at (j + k) ≡ bytes_from r at j ++ bytes_from r (at + j) k
unfolding bytes_from
from_append r at zero k = rw (zero-add, add-zero)
from_append r at (suc j) k = rw (suc-add, add-suc, ← suc-add at) (ap (λ (l : List ℕ). get_or r at 0 ∷ l) (from_append r (suc at) j k))

pub from_cons : (x : ℕ) (r : List ℕ) (at n : ℕ) → bytes_from (x ∷ r) (suc at) n ≡ bytes_from r at n
unfolding bytes_from
from_cons x r at zero = refl
from_cons x r at (suc n) = ap (λ (l : List ℕ). get_or r at 0 ∷ l) (from_cons x r (suc at) n)

-- all of a list, the first of two, and what lies in the second
pub whole : (r : List ℕ) → bytes_from r 0 (length r) ≡ r
unfolding bytes_from
whole [] = refl
whole (x ∷ r) = ap (λ (l : List ℕ). x ∷ l) (from_cons x r 0 (length r) ∙ whole r)

pub first_of : (xs ys : List ℕ) → bytes_from (xs ++ ys) 0 (length xs) ≡ xs
unfolding bytes_from
first_of [] ys = refl
first_of (x ∷ xs) ys = ap (λ (l : List ℕ). x ∷ l) (from_cons x (xs ++ ys) 0 (length xs) ∙ first_of xs ys)

pub second_of : (xs ys : List ℕ) (at n : ℕ) → bytes_from (xs ++ ys) (length xs + at) n ≡ bytes_from ys at n
second_of [] ys at n = rw zero-add
second_of (x ∷ xs) ys at n = rw suc-add (from_cons x (xs ++ ys) (length xs + at) n ∙ second_of xs ys at n)

pub from_run : (s : List ℕ) (i n : ℕ) → i + n ≤ length s → bytes_from s i n ≡ take n (drop i s)
unfolding bytes_from
from_run s i zero h = refl
from_run s i (suc n) h =
    let l : i < length s = omega arith in
    rw (drop-cons s i 0 l) (ap (λ (r : List ℕ). get_or s i 0 ∷ r) (from_run s (suc i) n (omega arith)))

-- ---- numbers of a few bytes

pub one : (r : List ℕ) (at : ℕ) → field r at 1 ≡ get_or r at 0
unfolding field bytes_from value
one r at = omega arith

pub four : (r : List ℕ) (at : ℕ)
    → field r at 4 ≡ get_or r at 0 + 256 * get_or r (at + 1) 0 + 65536 * get_or r (at + 2) 0 + 16777216 * get_or r (at + 3) 0
unfolding field bytes_from value
four r at =
    let b : at + 1 ≡ suc at = omega arith in
    let c : at + 2 ≡ suc (suc at) = omega arith in
    let d : at + 3 ≡ suc (suc (suc at)) = omega arith in
    rw (b, c, d) (omega arith)

pub eight : (r : List ℕ) (at : ℕ)
    → field r at 8
    ≡ get_or r at 0 + 256 * get_or r (at + 1) 0 + 65536 * get_or r (at + 2) 0 + 16777216 * get_or r (at + 3) 0 + 4294967296 * get_or r (at + 4) 0
    + 1099511627776 * get_or r (at + 5) 0 + 281474976710656 * get_or r (at + 6) 0 + 72057594037927936 * get_or r (at + 7) 0
unfolding field bytes_from value
eight r at =
    let b : at + 1 ≡ suc at = omega arith in
    let c : at + 2 ≡ suc (suc at) = omega arith in
    let d : at + 3 ≡ suc (suc (suc at)) = omega arith in
    let e : at + 4 ≡ suc (suc (suc (suc at))) = omega arith in
    let f : at + 5 ≡ suc (suc (suc (suc (suc at)))) = omega arith in
    let g : at + 6 ≡ suc (suc (suc (suc (suc (suc at))))) = omega arith in
    let h : at + 7 ≡ suc (suc (suc (suc (suc (suc (suc at)))))) = omega arith in
    rw (b, c, d, e, f, g, h) (omega arith)

pub six : (r : List ℕ) (at : ℕ)
    → bytes_from r at 6 ≡ get_or r at 0 ∷ get_or r (at + 1) 0 ∷ get_or r (at + 2) 0 ∷ get_or r (at + 3) 0 ∷ get_or r (at + 4) 0 ∷ get_or r (at + 5) 0 ∷ []
unfolding bytes_from
six r at =
    let b : at + 1 ≡ suc at = omega arith in
    let c : at + 2 ≡ suc (suc at) = omega arith in
    let d : at + 3 ≡ suc (suc (suc at)) = omega arith in
    let e : at + 4 ≡ suc (suc (suc (suc at))) = omega arith in
    let f : at + 5 ≡ suc (suc (suc (suc (suc at)))) = omega arith in
    rw (b, c, d, e, f)

-- ---- zeros

none_of : (a b : ℕ) → bit_or a b ≡ 0 → (a ≡ 0) × (b ≡ 0)
none_of a b e = (omega (arith, or_add_and a b, and_le_l a b, and_le_r a b), omega (arith, or_add_and a b, and_le_l a b, and_le_r a b))

zero_zero : (n : ℕ) → eqb (suc n) 0 ≡ false
zero_zero n = ne_eqb (suc n) 0 (λ e. omega arith)

pub or_zero : (a b : ℕ) → eqb (bit_or a b) 0 ≡ (eqb a 0 && eqb b 0)
or_zero zero zero = refl
or_zero zero (suc b) = rw (zero_zero b)
or_zero (suc a) b = rw (zero_zero a) (ne_eqb (bit_or (suc a) b) 0 (λ e. omega (arith, (none_of (suc a) b e).0)))

sum_zero : (a p b : ℕ) → 0 < p → eqb (a + p * b) 0 ≡ (eqb a 0 && eqb b 0)
sum_zero (suc a) p b h = rw (zero_zero a) (ne_eqb (suc a + p * b) 0 (λ e. omega arith))
sum_zero zero p zero h = let e : 0 + p * 0 ≡ 0 = omega arith in rw e
sum_zero zero p (suc b) h = rw (zero_zero b) (ne_eqb (0 + p * suc b) 0 (λ e. omega (arith, mul-suc p b)))

some : (k : ℕ) → 0 < 256 ^ k
some zero = omega arith
some (suc k) = rw pow-suc (omega (arith, some k))

-- a run is zero if its parts are
pub zero_append : (r : List ℕ) (at j k : ℕ) → eqb (field r at (j + k)) 0 ≡ (eqb (field r at j) 0 && eqb (field r (at + j) k) 0)
unfolding field
zero_append r at j k =
    rw (from_append, value_append, length_from) (sum_zero (value (bytes_from r at j)) (256 ^ j) (value (bytes_from r (at + j) k)) (some j))

-- the loop over the words: its start and one turn
pub zero_none : (r : List ℕ) (at : ℕ) → eqb 0 0 ≡ eqb (field r at (0 * 8)) 0
unfolding field bytes_from value
zero_none r at = refl

pub zero_more : (x : ℕ) (r : List ℕ) (at i : ℕ) → eqb x 0 ≡ eqb (field r at (i * 8)) 0
    → eqb (bit_or x (field r (at + i * 8) 8)) 0 ≡ eqb (field r at ((i + 1) * 8)) 0
zero_more x r at i e =
    let m : (i + 1) * 8 ≡ i * 8 + 8 = omega arith in
    rw (m, zero_append, or_zero, e)

-- ---- the bytes of a word, as `from_le_bytes` and `to_le_bytes` have them

word_is : (bs : List ℕ) → length bs ≡ 8 → from_le_bytes w64 bs ≡ value bs
unfolding field
word_is bs e =
    let v : field bs 0 8 ≡ value bs = ap (λ (n : ℕ). value (bytes_from bs 0 n)) (sym e) ∙ ap value (whole bs) in
    omega (arith, eight bs 0, v)

-- bytes with zeros behind them
value_zeros : (k : ℕ) → value (replicate k 0) ≡ 0
value_zeros k = rw (← digits_zero k) (fit k 0 (some k))

pub padded : (bs : List ℕ) (n : ℕ) → n ≤ 8 → length bs ≡ n → from_le_bytes w64 (put_mid 0 n (replicate 8 0) bs) ≡ value bs
padded bs n h e =
    let zeros : drop {A = ℕ} n (replicate 8 0) ≡ replicate (8 - n) 0 = drop-replicate {X = ℕ} n 8 0 in
    let l : length (bs ++ replicate (8 - n) 0) ≡ 8 = rw (length-append, e, length-replicate {A = ℕ} (8 - n) 0) (omega arith) in
    let v : value (bs ++ replicate (8 - n) 0) ≡ value bs = rw (value_append, value_zeros (8 - n)) (omega arith) in
    rw zeros (word_is (bs ++ replicate (8 - n) 0) l ∙ v)

pub digits_split : (j k w : ℕ) → digits (j + k) w ≡ digits j w ++ digits k (w / 256 ^ j)
unfolding digits
digits_split zero k w = let e : w / 1 ≡ w = omega arith in rw (e, zero-add)
digits_split (suc j) k w = rw (suc-add, digits_split j k (w / 256), div-div-eq-div-mul, pow-succ')

byte_is : (i v : ℕ) → byte_at i v ≡ v / 256 ^ i % 256
byte_is zero v = omega arith
byte_is (suc i) v = refl

low_first : (i k v : ℕ) → bytes_low_first i k v ≡ digits k (v / 256 ^ i)
unfolding digits
low_first i zero v = refl
low_first i (suc k) v =
    let e : v / 256 ^ i / 256 ≡ v / 256 ^ suc i = rw (pow-suc, div-div-eq-div-mul) in
    rw (byte_is i v, low_first (suc i) k v, e)

pub low_bytes : (n v : ℕ) → n ≤ 8 → take n (to_le_bytes w64 v) ≡ digits n v
low_bytes n v h =
    let e : v / 1 ≡ v = omega arith in
    let parts : 8 ≡ n + (8 - n) = omega arith in
    let all : to_le_bytes w64 v ≡ digits n v ++ digits (8 - n) (v / 256 ^ n) =
    low_first 0 8 v ∙ rw e (ap (λ (k : ℕ). digits k v) parts) ∙ digits_split n (8 - n) v in
    ap (take n) all ∙ take_at (digits n v) (digits (8 - n) (v / 256 ^ n)) n (length_digits n v)

-- ---- runs of stores

-- stores over a whole list
pub sets_whole : (r bs : List ℕ) → length bs ≡ length r → sets r 0 bs ≡ bs
sets_whole r bs e =
    let z : 0 + length bs ≡ length bs = zero-add (length bs) in
    sets-eq bs r 0 (omega arith) ∙ rw (z, drop_of_length-le r {i = length bs} (omega arith)) (append-nil bs)
