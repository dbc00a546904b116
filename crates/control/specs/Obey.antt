-- A control code is obeyed: 01, "The SCB". A unit does what its code says, and leaves Active or Ready or does not. Assumes nothing.
use Rattle.std.specs.Prelude.{Bool, not, ◌&&◌, List, ℕ}
use Rattle.memory.specs.Memory.{Write}
use Rattle.memory.specs.Address.{place, offset_at}
use Rattle.memory.specs.declared.Offset.{Offset}
use Rattle.scb.specs.Control.{Code, code_of}
use Rattle.scb.specs.Words.{cbl_at, rfa_at, cuc, ruc}
use Rattle.device.specs.State.{cu_state, ru_state, is_active, is_ready}
use Rattle.device.specs.declared.Cu.{Cu}
use Rattle.device.specs.declared.Ru.{Ru}
use Rattle.device.specs.declared.Units.{Units}
use Rattle.control.specs.Control.{cu_by, cu_writes, ru_by, ru_writes}

-- a field of the SCB
abbrev pub of_scb : Units → ℕ → ℕ
of_scb u field = place u.base u.scb field

-- a unit obeyed a code: the unit, its writes, whether it left Active or Ready
pub record Obeyed (U : Type 0) : Type 0 where
  pub unit : U
  pub writes : List Write
  pub left : Bool

-- obey CUC: START at CBL offset
abbrev pub cu_obeys : Code → Units → (cbl : Offset) → Obeyed Cu
cu_obeys code u cbl =
    let unit = cu_by code cbl u.cu in
    record {
      unit = unit;
      writes = cu_writes code u.base u.cu;
      left = is_active (cu_state u.cu) && not (is_active (cu_state unit));
    }

unfoldable pub obey_cuc : Units → (command : ℕ) → List ℕ → Obeyed Cu
obey_cuc u command m = cu_obeys (code_of (cuc command)) u (offset_at m (of_scb u cbl_at))

-- obey RUC: START at RFA offset
abbrev pub ru_obeys : Code → Units → (rfa : Offset) → Obeyed Ru
ru_obeys code u rfa =
    let unit = ru_by code rfa u.ru in
    record {
      unit = unit;
      writes = ru_writes code u.base u.ru;
      left = is_ready (ru_state u.ru) && not (is_ready (ru_state unit));
    }

unfoldable pub obey_ruc : Units → (command : ℕ) → List ℕ → Obeyed Ru
obey_ruc u command m = ru_obeys (code_of (ruc command)) u (offset_at m (of_scb u rfa_at))
