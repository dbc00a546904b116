-- The filter of an MC-Setup has 64 bits, and which of them are set. Assumes nothing.
use mathlib.Core.Path.{◌≡◌, refl, sym, ◌∙◌}
use mathlib.Core.Bool.{Bool, true, false, ◌||◌, false≢true}
use mathlib.Core.List.{List}
use mathlib.Core.Logic.{⊎_elim}
use Prim.Native.Nat.{ℕ, zero, suc, ◌<◌, ◌^◌}
use native.Mathlib.Nat.{eq-or-lt_of_le, le_of_suc-le-suc, not-suc-le-zero}
use native.Mathlib.Omega.{arith}
use borrow.Author.Tests.{eqb-true, eq-eqb}
use lib.Dec.{eqb}
use Rattle.scb.specs.Words.{bit}
use Rattle.hash.specs.Hash.{hash}
use Rattle.hash.proofs.Faster.{hash_below}
use Rattle.device.specs.Limits.{filter_bits}
use Rattle.filter.proofs.Laws.{with_bit_wide, with_bit_lem, none_set, or_right}
use Rattle.actions.specs.Actions.{group_at, filtering}
use Rattle.actions.specs.Filtered.{Falls}

or_left : (a b : Bool) → a ≡ true → (a || b) ≡ true
or_left a b e = rw e

module _ (l : ℕ) (m : List ℕ) (a : ℕ) where
  pub filtering_wide : (n : ℕ) → filtering l m a n < 2 ^ filter_bits
  unfolding filtering
  filtering_wide zero = omega arith
  filtering_wide (suc n) =
      with_bit_wide (filtering l m a n) (hash (group_at l m a n)) (filtering_wide n) (hash_below (group_at l m a n))

  -- what the last of them adds
  falls_by : (n k : ℕ) (was is : Bool) → bit (filtering l m a n) k ≡ was → eqb k (hash (group_at l m a n)) ≡ is
      → (bit (filtering l m a n) k ≡ true → Falls l m a n k) → (was || is) ≡ true → Falls l m a (suc n) k
  falls_by n k true is p q ih e = let f = ih p in record { which = f.which; among = omega (arith, f.among); on_it = f.on_it }
  falls_by n k false true p q ih e = record { which = n; among = omega arith; on_it = sym (eqb-true _ _ q) }
  falls_by n k false false p q ih e = absurd (false≢true e)

  -- a bit is set only if one of the addresses falls on it, and then it is
  pub set_falls : (n k : ℕ) → bit (filtering l m a n) k ≡ true → Falls l m a n k
  unfolding filtering
  set_falls zero k e = absurd (false≢true (sym (none_set k) ∙ e))
  set_falls (suc n) k e =
      let h = hash (group_at l m a n) in
      falls_by n k (bit (filtering l m a n) k) (eqb k h) refl refl (set_falls n k) (sym (with_bit_lem (filtering l m a n) h k) ∙ e)

  pub falls_set : (n k : ℕ) → Falls l m a n k → bit (filtering l m a n) k ≡ true
  unfolding filtering
  falls_set zero k f = absurd (not-suc-le-zero f.among)
  falls_set (suc n) k f =
      let g = filtering l m a n in
      let h = hash (group_at l m a n) in
      with_bit_lem g h k
      ∙ ⊎_elim
      (λ (e : f.which ≡ n). or_right (bit g k) (eqb k h) (eq-eqb k h (rw e at (sym f.on_it))))
      (λ (l : f.which < n). or_left (bit g k) (eqb k h) (falls_set n k (record { which = f.which; among = l; on_it = f.on_it })))
      (eq-or-lt_of_le (le_of_suc-le-suc f.among))
