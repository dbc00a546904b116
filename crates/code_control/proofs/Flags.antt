-- A number's offset, and where a unit begins. Assumes nothing.
use mathlib.Core.Path.{◌≡◌, ap}
use mathlib.Core.Bool.{Bool, true, false, cond}
use mathlib.Core.List.{List}
use Prim.Native.Nat.{ℕ, ◌%◌, ◌<◌}
use native.Mathlib.Omega.{arith}
use Rattle.memory.specs.Address.{place, offset_at}
use Rattle.memory.specs.declared.Offset.{Offset}
use Rattle.memory.specs.declared.RealAddress.{RealAddress}
use Rattle.device.specs.declared.Units.{Units}
use Rattle.phases.specs.Phases.{number_of, plain, WordWide}
use Rattle.phases.specs.declared.Word.{Word}
use Rattle.control.specs.Obey.{of_scb}
use Rattle.code_control.specs.Obeys.{first_of}

pub at_is : (w : Word) → WordWide w → number_of w % 65536 ≡ w.at
unfolding number_of
at_is w h = omega (arith, h.at)

pub plain_wide : (o : ℕ) → o < 65536 → WordWide (plain o)
plain_wide o h = record { at = h; kind = omega arith; size = omega arith; next = omega arith }

-- ---- addresses by their numbers, and where a unit begins

pub offset_of_lem : (o : Offset) (n : ℕ) → n ≡ o.0 → record { 0 = n } ≡ o
offset_of_lem o n e = ap (λ (k : ℕ). record { 0 = k }) e

pub real_of_lem : (a b : RealAddress) → a.0 ≡ b.0 → a ≡ b
real_of_lem a b e = ap (λ (n : ℕ). record { 0 = n }) e

module _ (u : Units) (base : RealAddress) (scb : Offset) (m : List ℕ) (b : base.0 ≡ u.base.0) (s : scb.0 ≡ u.scb.0) where
  -- a field of the SCB, or the offset in the unit's word
  pub from : (start : Bool) (field n : ℕ) (o : Offset) → n % 65536 ≡ o.0
      → first_of base scb start field n m ≡ (cond start (offset_at m (of_scb u field)) o).0
  unfolding place
  from true field n o e = rw (b, s)
  from false field n o e = e
