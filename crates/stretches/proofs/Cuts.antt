-- At most one line ends up to the first newline: `one_line`. Assumes nothing.
use Rattle.std.proofs.Common.{◌≡◌, ◌+◌, ◌≤◌, ◌++◌, eqb, cond, true, false, Bool, List, [], ◌∷◌, ℕ, zero, suc, length, arith}
use Rattle.std.specs.List.{AllWithin}
use Rattle.printing.specs.Run.{newlines}

bit_most : (x : Bool) → cond x 1 0 + 0 ≤ 1
bit_most true = omega arith
bit_most false = omega arith

-- where the characters before place i of the input are no newlines, at most one line ends in a front that goes no further than behind i
pub one_line : (x t : List ℕ) (i : ℕ) → AllWithin (λ c. eqb c 10 ≡ false) (x ++ t) 0 i → length x ≤ i + 1 → newlines x ≤ 1
unfolding newlines
one_line [] t i h l = omega arith
one_line (c ∷ []) t zero h l = bit_most (eqb c 10)
one_line (c ∷ d ∷ x) t zero h l = absurd (omega (arith, l))
one_line (c ∷ x) t (suc i) h l =
    let e : eqb c 10 ≡ false = h 0 0 (omega arith) (omega arith) in
    let n : newlines x ≤ 1 = one_line x t i (λ k d low high. h (suc k) d (omega arith) (omega arith)) (omega (arith, l)) in
    rw e (omega (arith, n))
