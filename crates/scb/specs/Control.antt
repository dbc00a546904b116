-- The control codes, and the tables: 01, "The SCB". A table has the state that a code leads a unit to, from each state; every other pair does
-- nothing (ours). What a code does to a unit stands in the room control, over the unit's phases, and these tables follow from it (`control`,
-- proofs/Table): where SUSPEND leads, a unit is at the end of a begun command or a held frame, else at once. Assumes nothing.
use Rattle.std.specs.Prelude.{cond, ℕ, eqb}
use Rattle.scb.specs.declared.CuState.{CuState}
use Rattle.scb.specs.declared.CuState.TheVariants as cu
use Rattle.scb.specs.declared.RuState.{RuState}
use Rattle.scb.specs.declared.RuState.TheVariants as ru

-- ---- the codes: 1 START, 2 RESUME, 3 SUSPEND, 4 ABORT

pub data Code : Type 0 where
  start : Code
  resume : Code
  suspend : Code
  abort : Code
  other : Code

unfoldable pub code_of : ℕ → Code
code_of n = cond (eqb n 1) start (cond (eqb n 2) resume (cond (eqb n 3) suspend (cond (eqb n 4) abort other)))

-- ---- the command unit

-- a row: where a unit goes from Idle, from Suspended, from Active
abbrev pub cu_row : (idle suspended active : CuState) → CuState → CuState
cu_row i s a cu.Idle = i
cu_row i s a cu.Suspended = s
cu_row i s a cu.Active = a

abbrev pub cu_next : Code → CuState → CuState
cu_next start s = cu_row cu.Active cu.Active cu.Active s
cu_next resume s = cu_row cu.Idle cu.Active cu.Active s
-- Active: at the end of a begun command, else at once: control/Control
cu_next suspend s = cu_row cu.Idle cu.Suspended cu.Suspended s
cu_next abort s = cu_row cu.Idle cu.Idle cu.Idle s
cu_next other s = cu_row cu.Idle cu.Suspended cu.Active s

-- ---- the receive unit

-- a row: where a unit goes from Idle, from Suspended, from No Resources, from Ready
abbrev pub ru_row : (idle suspended nores ready : RuState) → RuState → RuState
ru_row i s n r ru.Idle = i
ru_row i s n r ru.Suspended = s
ru_row i s n r ru.NoResources = n
ru_row i s n r ru.Ready = r

abbrev pub ru_next : Code → RuState → RuState
ru_next start s = ru_row ru.Ready ru.Ready ru.Ready ru.Ready s
ru_next resume s = ru_row ru.Idle ru.Ready ru.NoResources ru.Ready s
-- Ready: at the end of a held frame, else at once: control/Control
ru_next suspend s = ru_row ru.Idle ru.Suspended ru.NoResources ru.Suspended s
ru_next abort s = ru_row ru.Idle ru.Idle ru.Idle ru.Idle s
ru_next other s = ru_row ru.Idle ru.Suspended ru.NoResources ru.Ready s
