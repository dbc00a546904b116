-- What `decimal` prints is the number, with no zero in front. No contract cites this file. Assumes nothing.
use mathlib.Core.Path.{◌≡◌, refl, sym, ◌∙◌}
use mathlib.Core.List.{List, [], ◌∷◌, ◌++◌}
use mathlib.Core.Logic.{⊎_elim}
use Prim.Native.Nat.{ℕ, zero, suc, ◌+◌, ◌-◌, ◌*◌, ◌/◌, ◌%◌, ◌≤◌, ◌<◌}
use native.Mathlib.Omega.{arith}
use borrow.Author.Tests.{lt-ltb, le-ltb}
use lib.ListN.{length, get_or, length-append, get_or-append}
use Rattle.memory.proofs.Laws.{below_or_not}
use Rattle.texts.specs.Texts.{decimal_by, decimal}

-- the number that decimal digits spell, behind those of n
unfoldable pub spell : ℕ → List ℕ → ℕ
spell n [] = n
spell n (d ∷ ds) = spell (n * 10 + (d - 48)) ds

spell_append : (n : ℕ) (xs ys : List ℕ) → spell n (xs ++ ys) ≡ spell (spell n xs) ys
unfolding spell
spell_append n [] ys = refl
spell_append n (x ∷ xs) ys = spell_append (n * 10 + (x - 48)) xs ys

last : (m n : ℕ) → m ≡ n / 10 → spell m ((48 + n % 10) ∷ []) ≡ n
unfolding spell
last m n e = omega arith

spelt_by : (k n : ℕ) → n < k → spell 0 (decimal_by k n) ≡ n
unfolding decimal_by
spelt_by zero n h = absurd (omega arith)
spelt_by (suc k) n h =
    ⊎_elim
    (λ (q : n < 10). let e : 0 ≡ n / 10 = omega arith in rw (lt-ltb n 10 q) (last 0 n e))
    (λ (q : 10 ≤ n). rw (le-ltb n 10 q, spell_append) (last _ n (spelt_by k (n / 10) (omega arith))))
    (below_or_not n 10)

pub decimal_spells : (n : ℕ) → spell 0 (decimal n) ≡ n
unfolding decimal
decimal_spells n = spelt_by (suc n) n (omega arith)

some_by : (k n : ℕ) → n < k → 0 < length (decimal_by k n)
unfolding decimal_by
some_by zero n h = absurd (omega arith)
some_by (suc k) n h = rw length-append (omega arith)

front_by : (k n : ℕ) → n < k → get_or (decimal_by k n) 0 0 ≡ 48 → n ≡ 0
unfolding decimal_by
front_by zero n h e = absurd (omega arith)
front_by (suc k) n h e =
    ⊎_elim
    (λ (q : n < 10). let f : 48 + n % 10 ≡ 48 = rw (lt-ltb n 10 q) at e in omega arith)
    (λ (q : 10 ≤ n).
    let f : get_or (decimal_by k (n / 10) ++ ((48 + n % 10) ∷ [])) 0 0 ≡ 48 = rw (le-ltb n 10 q) at e in
    let s : 0 < length (decimal_by k (n / 10)) = some_by k (n / 10) (omega arith) in
    let z : n / 10 ≡ 0 = front_by k (n / 10) (omega arith) (sym (get_or-append (decimal_by k (n / 10)) ((48 + n % 10) ∷ []) 0 0 s) ∙ f) in
    absurd (omega arith))
    (below_or_not n 10)

-- only 0 begins with the digit 0
pub no_zero_in_front : (n : ℕ) → get_or (decimal n) 0 0 ≡ 48 → n ≡ 0
unfolding decimal
no_zero_in_front n e = front_by (suc n) n (omega arith) e
