-- `code_actions::act` meets its contract: TDR alone writes to memory. Assumes nothing.
use Rattle.device.specs.Numbers.{action_of}
use Rattle.actions.specs.Actions.{act}
use Rattle.code_actions.proofs.act.Goals as goal

pub returns-in-5 : goal.returns-in-5
unfolding act action_of
returns-in-5 c s h = let e = c.tdr.ensures s in rw c.in-5.is (record { told = e.told; memory = e.memory; setup = h })
