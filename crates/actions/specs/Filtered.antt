-- What is said of an MC-Setup's filter. No contract cites this file. Assumes nothing.
use Rattle.std.specs.Prelude.{◌≡◌, Bool, true, false, List, ℕ, ◌<◌}
use Rattle.hash.specs.Hash.{hash}
use Rattle.device.specs.declared.Action.{Action}
use Rattle.device.specs.declared.Action.TheVariants as action
use Rattle.actions.specs.Actions.{group_at}

-- of the n addresses of l bytes from a on, one falls on bit k
pub record Falls (l : ℕ) (m : List ℕ) (a n k : ℕ) : Type 0 where
  pub which : ℕ
  pub among : which < n
  pub on_it : hash (group_at l m a which) ≡ k

-- the one action that makes a new filter
abbrev pub is_mc_setup : Action → Bool
is_mc_setup action.Nop = false
is_mc_setup action.IaSetup = false
is_mc_setup action.Configure = false
is_mc_setup action.McSetup = true
is_mc_setup action.Tdr = false
is_mc_setup action.Dump = false
is_mc_setup action.Diagnose = false
