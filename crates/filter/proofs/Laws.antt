-- What a filter's bits are once one of them is set, how large a filter is, and what passes. No contract cites this file. Assumes nothing.
use mathlib.Core.Path.{◌≡◌, refl, sym, ap, ap₂, ◌∙◌}
use mathlib.Core.Bool.{Bool, true, false, not, ◌&&◌, ◌||◌, true≢false, and-eq-true_iff}
use mathlib.Core.List.{List, [], ◌∷◌, ◌++◌}
use Prim.Native.Nat.{ℕ, zero, suc, ◌+◌, ◌/◌, ◌%◌, ◌≤◌, ◌<◌, ◌^◌, max}
use native.Mathlib.Nat.{not-suc-le-zero, le_of_suc-le-suc, mod-lt, pow-suc, mul-div_cancel, mul-mod_left, zero-div, div-one, zero-lt-suc}
use native.Mathlib.Omega.{arith}
use lib.Arith.{digits_mod}
use lib.Bits.{bit_or, or_lt, or_step, or_shr}
use lib.ListN.{length, get_or, take, replicate, length-replicate}
use lib.Pow.{pow-lt, shr-shr}
use lib.Seq.{take-suc, take-take, take_all, get_or-take}
use borrow.Author.Tests.{eqb-true, eq-eqb, lt-ltb}
use lib.Dec.{eqb, ltb, eqb-zero-suc, eqb-suc-zero, eqb-suc-suc}
use Rattle.scb.specs.Words.{bits_at, bit}
use Rattle.device.specs.Limits.{filter_bits}
use Rattle.device.specs.declared.Settings.{Settings}
use Rattle.filter.specs.Match.{agree, with_bit, all_ones, is_own, is_group, is_filtered, matches}

-- a filter stays one
pub with_bit_wide : (filter k : ℕ) → filter < 2 ^ filter_bits → k < filter_bits → with_bit filter k < 2 ^ filter_bits
with_bit_wide filter k f h = or_lt filter_bits filter (2 ^ k) f (pow-lt h)

-- ---- bits

-- one digit of two
either : (a b : ℕ) → a < 2 → b < 2 → eqb (max a b) 1 ≡ (eqb a 1 || eqb b 1)
either zero zero p q = refl
either zero (suc zero) p q = refl
either zero (suc (suc b)) p q = absurd (not-suc-le-zero (le_of_suc-le-suc (le_of_suc-le-suc q)))
either (suc zero) zero p q = refl
either (suc zero) (suc zero) p q = refl
either (suc zero) (suc (suc b)) p q = absurd (not-suc-le-zero (le_of_suc-le-suc (le_of_suc-le-suc q)))
either (suc (suc a)) b p q = absurd (not-suc-le-zero (le_of_suc-le-suc (le_of_suc-le-suc p)))

max_below : (a b : ℕ) → a < 2 → b < 2 → max a b < 2
max_below a b p q = omega arith

or_digit : (x y : ℕ) → eqb (bit_or x y % 2) 1 ≡ (eqb (x % 2) 1 || eqb (y % 2) 1)
or_digit x y =
    let e : bit_or x y % 2 ≡ max (x % 2) (y % 2) = ap (λ (n : ℕ). n % 2) (or_step x y) ∙ digits_mod (bit_or (x / 2) (y / 2)) (max_below (x % 2) (y % 2) (mod-lt x (omega arith)) (mod-lt y (omega arith))) in
    rw e (either (x % 2) (y % 2) (mod-lt x (omega arith)) (mod-lt y (omega arith)))

-- a bit but the lowest is one of the half
half_bit : (n i : ℕ) → bit n (suc i) ≡ bit (n / 2) i
unfolding bits_at
half_bit n i = let e : n / 2 / 2 ^ i ≡ n / 2 ^ (1 + i) = shr-shr n 1 i in let z : 1 + i ≡ suc i = omega arith in rw (← z, ← e)

-- the power of a number has its bit alone
power_bit : (k i : ℕ) → bit (2 ^ k) i ≡ eqb i k
unfolding bits_at
power_bit zero zero = refl
power_bit zero (suc i) = half_bit 1 i ∙ rw (zero-div (2 ^ i), eqb-suc-zero i)
power_bit (suc k) zero = rw (div-one (2 ^ suc k), pow-suc 2 k, mul-mod_left (2 ^ k) 2, eqb-zero-suc k)
power_bit (suc k) (suc i) = half_bit (2 ^ suc k) i ∙ rw (pow-suc 2 k, mul-div_cancel (2 ^ k) (zero-lt-suc 1), eqb-suc-suc i k) (power_bit k i)

-- a bit is set if it was, or if it is the one
pub with_bit_lem : (filter k i : ℕ) → bit (with_bit filter k) i ≡ (bit filter i || eqb i k)
unfolding bits_at
with_bit_lem filter k i = rw (or_shr filter (2 ^ k) i, or_digit (filter / 2 ^ i) (2 ^ k / 2 ^ i)) (ap (λ (b : Bool). bit filter i || b) (power_bit k i))

-- no bit of an empty filter is set
pub none_set : (i : ℕ) → bit 0 i ≡ false
unfolding bits_at
none_set i = rw (zero-div (2 ^ i))

-- ---- what is compared

-- so many bytes agree exactly if they are the same
agree_same : (a f : List ℕ) (k : ℕ) → k ≤ length a → k ≤ length f → agree a 0 f k ≡ true → take k f ≡ take k a
unfolding agree
agree_same a f zero p q e = refl
agree_same a f (suc k) p q e =
    let x = (and-eq-true_iff (agree a 0 f k) (eqb (get_or a (0 + k) 0) (get_or f k 0))).0 e in
    let z : 0 + k ≡ k = omega arith in
    let same : get_or a k 0 ≡ get_or f k 0 = rw z at (eqb-true (get_or a (0 + k) 0) (get_or f k 0) x.1) in
    let before = agree_same a f k (omega arith) (omega arith) x.0 in
    take-suc f k 0 (omega arith) ∙ ap₂ (λ (l : List ℕ) (b : ℕ). l ++ (b ∷ [])) before (sym same) ∙ sym (take-suc a k 0 (omega arith))

same_agree : (a f : List ℕ) (k : ℕ) → k ≤ length a → k ≤ length f → take k f ≡ take k a → agree a 0 f k ≡ true
unfolding agree
same_agree a f zero p q e = refl
same_agree a f (suc k) p q e =
    let z : 0 + k ≡ k = omega arith in
    let same : get_or a k 0 ≡ get_or f k 0 = sym (get_or-take (suc k) a k 0 (omega arith)) ∙ ap (λ (l : List ℕ). get_or l k 0) (sym e) ∙ get_or-take (suc k) f k 0 (omega arith) in
    let before : take k f ≡ take k a = sym (take-take k (suc k) f (omega arith)) ∙ ap (take k) e ∙ take-take k (suc k) a (omega arith) in
    rw (same_agree a f k (omega arith) (omega arith) before, z, eq-eqb (get_or a k 0) (get_or f k 0) same)

-- the own address: its first l bytes; all FFh: so many bytes FFh; each both ways
pub own_means : (l : ℕ) (own f : List ℕ) → l ≤ length own → l ≤ length f → is_own l own f ≡ true → take l f ≡ take l own
own_means l own f p q e = agree_same own f l p q e

pub own_if : (l : ℕ) (own f : List ℕ) → l ≤ length own → l ≤ length f → take l f ≡ take l own → is_own l own f ≡ true
own_if l own f p q e = same_agree own f l p q e

pub ones_means : (l : ℕ) (f : List ℕ) → l ≤ length f → all_ones l f ≡ true → take l f ≡ replicate l 255
ones_means l f q e =
    let n = length-replicate {A = ℕ} l 255 in
    agree_same (replicate l 255) f l (omega (arith, n)) q e ∙ take_all l (replicate l 255) (omega (arith, n))

pub ones_if : (l : ℕ) (f : List ℕ) → l ≤ length f → take l f ≡ replicate l 255 → all_ones l f ≡ true
ones_if l f q e =
    let n = length-replicate {A = ℕ} l 255 in
    same_agree (replicate l 255) f l (omega (arith, n)) q (e ∙ sym (take_all l (replicate l 255) (omega (arith, n))))

-- 02, Wish 4: the header is compared with location 1 as with location 0
abbrev pub located : Settings → Bool → Settings
located s location =
    record {
      savebad = s.savebad;
      promiscuous = s.promiscuous;
      nobroadcast = s.nobroadcast;
      minimum = s.minimum;
      form = record { length = s.form.length; location = location };
    }

pub alike_by_location : (s : Settings) (location : Bool) (own : List ℕ) (filter : ℕ) (f : List ℕ) → matches (located s location) own filter f ≡ matches s own filter f
unfolding matches
alike_by_location s location own filter f = refl

-- ---- what passes

or_false : (a : Bool) → (a || false) ≡ a
or_false true = refl
or_false false = refl

pub or_right : (a b : Bool) → b ≡ true → (a || b) ≡ true
or_right true b e = refl
or_right false b e = e

-- an address that is not all FFh has a byte
some : (l : ℕ) (f : List ℕ) → all_ones l f ≡ false → ltb 0 l ≡ true
unfolding agree
some zero f e = absurd (true≢false e)
some (suc l) f e = lt-ltb 0 (suc l) (zero-lt-suc l)

-- l: the address length in force
module _ (s : Settings) (own : List ℕ) (filter : ℕ) (f : List ℕ) where
  abbrev l : ℕ
  l = s.form.length

  pub by_promiscuous : s.promiscuous ≡ true → matches s own filter f ≡ true
  unfolding matches
  by_promiscuous p = rw p

  -- 02, Wish 4: at length 0 only promiscuous mode receives
  pub by_no_address : l ≡ 0 → matches s own filter f ≡ s.promiscuous
  unfolding matches
  by_no_address z = rw z (or_false s.promiscuous)

  pub by_broadcast : s.promiscuous ≡ false → 0 < l → all_ones l f ≡ true → matches s own filter f ≡ not s.nobroadcast
  unfolding matches
  by_broadcast p z o = rw (p, lt-ltb 0 l z, o)

  pub by_own_address : all_ones l f ≡ false → is_own l own f ≡ true → matches s own filter f ≡ true
  unfolding matches
  by_own_address o w = or_right s.promiscuous _ (rw (some l f o, o, w))

  pub by_a_set_bit : all_ones l f ≡ false → is_group f ≡ true → is_filtered l filter f ≡ true → matches s own filter f ≡ true
  unfolding matches
  by_a_set_bit o g b =
      or_right s.promiscuous _ (rw (some l f o, o) (or_right (is_own l own f) (is_group f && is_filtered l filter f) (rw (g, b))))

  pub by_the_filter : s.promiscuous ≡ false → all_ones l f ≡ false → is_own l own f ≡ false
      → matches s own filter f ≡ (is_group f && is_filtered l filter f)
  unfolding matches
  by_the_filter p o w = rw (p, some l f o, o, w)
