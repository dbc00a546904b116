-- The low bit of a byte; bytes that agree; an address whose bytes are all the same; a setup's own address. Assumes nothing.
use mathlib.Core.Path.{◌≡◌, refl, sym}
use mathlib.Core.Bool.{Bool, true, false, ◌&&◌}
use mathlib.Core.List.{List}
use Prim.Native.Nat.{ℕ, zero, suc, ◌+◌, ◌-◌, ◌≤◌, ◌<◌}
use native.Mathlib.Nat.{zero-add, suc-add, div-one, not-suc-le-zero, le_of_suc-le-suc}
use native.Mathlib.Numerals.{add-one}
use native.Mathlib.Omega.{arith}
use borrow.Author.Tests.{eq-eqb, ne_eqb}
use lib.ListN.{get_or, replicate}
use Rattle.scb.specs.Words.{bits_at, bit}
use Rattle.device.specs.Limits.{longest_address}
use Rattle.filter.specs.Match.{agree}
use Rattle.phases.specs.Fields.{odd}
use Rattle.actions.specs.Setup.{Setup}
use Rattle.packed.specs.SetUp.{own_at, SetIs}
use Rattle.packed.proofs.SetUps.{own_byte}

-- ---- bits of a byte

pub low_bit : (w : ℕ) → odd w ≡ bit w 0
unfolding bits_at
low_bit w = rw (div-one w)

-- ---- bytes that agree, one by one

and_false : (a : Bool) → (a && false) ≡ false
and_false true = refl
and_false false = refl

module _ (a : List ℕ) (i : ℕ) (f : List ℕ) where
  pub agree_none : agree a i f 0 ≡ true
  unfolding agree
  agree_none = refl

  pub agree_more : (k : ℕ) → agree a i f k ≡ true → get_or f k 0 ≡ get_or a (i + k) 0 → agree a i f (k + 1) ≡ true
  unfolding agree
  agree_more k e same = rw (add-one, e, eq-eqb _ _ (sym same))

  -- a byte that differs tells, however many follow
  differs_longer : (n k : ℕ) → agree a i f k ≡ false → agree a i f (n + k) ≡ false
  unfolding agree
  differs_longer zero k e = rw (zero-add k) e
  differs_longer (suc n) k e = rw (suc-add n k, differs_longer n k e)

  differs_here : (k : ℕ) → (get_or f k 0 ≡ get_or a (i + k) 0 → ⊥) → agree a i f (suc k) ≡ false
  unfolding agree
  differs_here k other =
      rw (ne_eqb (get_or a (i + k) 0) (get_or f k 0) (λ (e : get_or a (i + k) 0 ≡ get_or f k 0). other (sym e))) (and_false (agree a i f k))

  pub differs : (k l : ℕ) → k < l → (get_or f k 0 ≡ get_or a (i + k) 0 → ⊥) → agree a i f l ≡ false
  differs k l h other =
      let e : l ≡ l - suc k + suc k = omega arith in
      rw e (differs_longer (l - suc k) (suc k) (differs_here k other))

-- ---- an address of one byte, so many times

pub each_of : (l v k : ℕ) → k < l → get_or (replicate l v) k 0 ≡ v
each_of zero v k h = absurd (not-suc-le-zero h)
each_of (suc l) v zero h = refl
each_of (suc l) v (suc k) h = each_of l v k (le_of_suc-le-suc h)

-- ---- a setup's bytes

module _ (s : Setup) (b : List ℕ) (h : SetIs s b) where
  pub own_is : (f : List ℕ) (l : ℕ) → l ≤ longest_address → agree b own_at f l ≡ agree s.own 0 f l
  unfolding agree
  own_is f zero g = refl
  own_is f (suc l) g =
      let e : own_at + l ≡ suc (suc l) = omega arith in
      rw (own_is f l (omega arith), e, own_byte s b h l g, zero-add l)
