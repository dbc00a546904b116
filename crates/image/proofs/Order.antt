-- What the code asks of a verdict before it asks for the form. Assumes nothing.
use mathlib.Core.Path.{◌≡◌}
use mathlib.Core.Bool.{true}
use Prim.Native.Nat.{ℕ, ◌/◌, ◌%◌, ◌<◌}
use native.Mathlib.Omega.{arith}
use borrow.Author.Tests.{lt-ltb}
use Rattle.phases.specs.Forms.{form_shaped, kind_shaped}

-- a verdict's number is that of the verdict and the form after reset
pub verdict_alone : (k : ℕ) → k < 3 → true ≡ kind_shaped k
unfolding kind_shaped form_shaped
verdict_alone k h =
    let a : k % 4 ≡ k = omega arith in
    let b : k / 4 ≡ 0 = omega arith in
    rw (a, b, lt-ltb k 3 h)
