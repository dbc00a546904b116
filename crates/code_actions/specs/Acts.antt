-- The shapes of the contracts of the code: the definitions of the actions, on a setup's bytes. Assumes nothing.
use Rattle.std.specs.Prelude.{◌≡◌, List, ℕ}
use Rattle.memory.specs.Memory.{apply}
use Rattle.memory.specs.declared.Offset.{Offset}
use Rattle.memory.specs.declared.RealAddress.{RealAddress}
use Rattle.device.specs.declared.Action.{Action}
use Rattle.actions.specs.Setup.{Setup}
use Rattle.actions.specs.Actions.{Acted, act}
use Rattle.packed.specs.SetUp.{SetIs}
use Rattle.code_actions.specs.declared.Done.{Done}

-- a status and a length
abbrev pub plain : ℕ → ℕ → Done
plain status length = record { status = status; length = length }

-- the status and the length of an action
pub record Tells (said : Acted) (r : Done) : Type 0 where
  pub status : r.status ≡ said.status
  pub length : r.length ≡ said.length

-- and the setup's bytes after it, where it writes nothing to memory
pub record Sets (said : Acted) (r : Done) (set : List ℕ) : Type 0 where
  pub told : Tells said r
  pub setup : SetIs said.setup set

-- and memory after it, where it sets nothing up
pub record Writes (said : Acted) (before : List ℕ) (r : Done) (m : List ℕ) : Type 0 where
  pub told : Tells said r
  pub memory : m ≡ apply said.writes before

-- an action was done: its status and length, its writes in memory, the setup's bytes
pub record Acts (said : Acted) (before : List ℕ) (r : Done) (m set : List ℕ) : Type 0 where
  pub told : Tells said r
  pub memory : m ≡ apply said.writes before
  pub setup : SetIs said.setup set

-- whatever setup the bytes are of: m and set are memory and setup before, the primed ones after
abbrev pub ActsOn : Action → RealAddress → (block : Offset) → (m set : List ℕ) → Done → (m' set' : List ℕ) → Type 0
ActsOn a base block m set r m' set' = (s : Setup) → SetIs s set → Acts (act a base s block m) m r m' set'
