-- The receive unit's states by their columns in its control table. Assumes nothing.
use Rattle.std.specs.Prelude.{ℕ}
use Rattle.scb.specs.declared.RuState.{RuState}
use Rattle.scb.specs.declared.RuState.TheVariants as ru

-- the columns leave out the number that is no state's
abbrev pub ru_column : RuState → ℕ
ru_column ru.Idle = 0
ru_column ru.Suspended = 1
ru_column ru.NoResources = 2
ru_column ru.Ready = 3
