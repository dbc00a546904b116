-- Where the program cuts its input: up to a line's end, character by character. No contract cites this file. Assumes nothing.
use mathlib.Core.Path.{◌≡◌, refl, sym, ap, subst, ◌∙◌}
use mathlib.Core.Bool.{Bool, true, false, cond}
use mathlib.Core.List.{List, [], ◌∷◌}
use Prim.Native.Nat.{ℕ, zero, suc, ◌+◌, ◌-◌, ◌≤◌}
use native.Mathlib.Omega.{arith}
use borrow.Author.Tests.{ne_eqb}
use lib.Dec.{eqb}
use lib.ListN.{get_or, take, drop}
use lib.Seq.{get_or-drop}
use Rattle.printing.specs.Run.{newlines}

-- the first k characters end no line, and the next one does not either
none_more : (xs : List ℕ) (k : ℕ) → (get_or xs k 0 ≡ 10 → ⊥) → newlines (take k xs) ≡ 0 → newlines (take (suc k) xs) ≡ 0
unfolding newlines
none_more [] k ne h = refl
none_more (x ∷ xs) zero ne h = rw (ne_eqb x 10 ne)
none_more (x ∷ xs) (suc k) ne h =
    let i : newlines (take (suc k) xs) ≡ 0 = none_more xs k ne (omega arith) in
    omega arith

bit_most : (x : Bool) → cond x 1 0 + 0 ≤ 1
bit_most true = omega arith
bit_most false = omega arith

-- or it ends one
one_more_lem : (xs : List ℕ) (k : ℕ) → newlines (take k xs) ≡ 0 → newlines (take (suc k) xs) ≤ 1
unfolding newlines
one_more_lem [] k h = omega arith
one_more_lem (x ∷ xs) zero h = bit_most (eqb x 10)
one_more_lem (x ∷ xs) (suc k) h =
    let i : newlines (take (suc k) xs) ≤ 1 = one_more_lem xs k (omega arith) in
    omega arith

-- the same of a stretch from a place on
pub no_line_ends : (input : List ℕ) (from : ℕ) → newlines (take (from - from) (drop from input)) ≡ 0
unfolding newlines
no_line_ends input from = let e : from - from ≡ 0 = omega arith in rw e

pub none_ends : (input : List ℕ) (from i : ℕ) → from ≤ i → (get_or input i 0 ≡ 10 → ⊥) → newlines (take (i - from) (drop from input)) ≡ 0
    → newlines (take (i + 1 - from) (drop from input)) ≡ 0
none_ends input from i l ne h =
    let e : suc (i - from) ≡ i + 1 - from = omega arith in
    let f : from + (i - from) ≡ i = omega arith in
    let g : get_or (drop from input) (i - from) 0 ≡ get_or input i 0 = get_or-drop from input (i - from) 0 ∙ ap (λ (k : ℕ). get_or input k 0) f in
    subst (λ (k : ℕ). newlines (take k (drop from input)) ≡ 0) e (none_more (drop from input) (i - from) (λ p. ne (sym g ∙ p)) h)

pub one_ends : (input : List ℕ) (from i : ℕ) → from ≤ i → newlines (take (i - from) (drop from input)) ≡ 0
    → newlines (take (i + 1 - from) (drop from input)) ≤ 1
one_ends input from i l h =
    let e : suc (i - from) ≡ i + 1 - from = omega arith in
    subst (λ (k : ℕ). newlines (take k (drop from input)) ≤ 1) e (one_more_lem (drop from input) (i - from) h)
