-- A control code is obeyed over a unit's numbers: 01, "The SCB". What it comes to is what the room control says of the unit. Assumes nothing.
use Rattle.std.specs.Prelude.{◌≡◌, Bool, cond, List, [], ◌∷◌, ℕ, Option, Some, None}
use Rattle.memory.specs.Memory.{Write, word_at, word_to, apply}
use Rattle.memory.specs.Address.{place}
use Rattle.memory.specs.declared.Offset.{Offset}
use Rattle.memory.specs.declared.RealAddress.{RealAddress}
use Rattle.device.specs.declared.Cu.{Cu}
use Rattle.device.specs.declared.Ru.{Ru}
use Rattle.phases.specs.Fields.{offset_in}
use Rattle.packed.specs.Packed.{CuUnitIs, RuUnitIs}
use Rattle.packed.specs.declared.cu.Unit as cu
use Rattle.packed.specs.declared.ru.Unit as ru
use Rattle.control.specs.Obey.{Obeyed}

-- the offset that a unit's word has
abbrev pub of_word : ℕ → Offset
of_word n = record { 0 = offset_in n }

-- an abort writes the status of what is begun, if anything is; it stands first in its block
abbrev pub aborted : RealAddress → (begun : Option Offset) → (status : ℕ) → List Write
aborted base None status = []
aborted base (Some block) status = word_to (place base block 0) status ∷ []

-- START at a field of the SCB, RESUME at the offset that the unit's word has
abbrev pub first_of : RealAddress → Offset → (start : Bool) → (field word : ℕ) → List ℕ → ℕ
first_of base scb start field n m = cond start (word_at m (place base scb field)) (offset_in n)

-- the command unit obeyed; the receive unit obeyed
pub record CuObeys (said : Obeyed Cu) (before : List ℕ) (r : cu.Unit) (m : List ℕ) : Type 0 where
  pub unit : CuUnitIs said.unit r
  pub memory : m ≡ apply said.writes before

pub record RuObeys (said : Obeyed Ru) (before : List ℕ) (r : ru.Unit) (m : List ℕ) : Type 0 where
  pub unit : RuUnitIs said.unit r
  pub memory : m ≡ apply said.writes before
