-- Runs of bytes that are put one behind the other. Assumes nothing.
use mathlib.Core.Path.{◌≡◌, sym, ◌∙◌}
use mathlib.Core.List.{List, ◌++◌}
use Prim.Native.Nat.{ℕ, ◌+◌}
use native.Mathlib.Omega.{arith}
use lib.ListN.{length, length-append}
use lib.Seq.{sets}
use Rattle.memory.proofs.Laws.{sets-append}

-- a header is put in three parts
pub in_parts : (d xs ys zs : List ℕ) (j k : ℕ) → length xs ≡ j → j + length ys ≡ k
    → sets (sets (sets d 0 xs) j ys) k zs ≡ sets d 0 (xs ++ ys ++ zs)
in_parts d xs ys zs j k p q =
    let e : 0 + length (xs ++ ys) ≡ k = omega (arith, length-append xs ys) in
    let f : 0 + length xs ≡ j = omega arith in
    sym (sets-append d 0 (xs ++ ys) zs ∙ rw (e, sets-append d 0 xs ys, f))
