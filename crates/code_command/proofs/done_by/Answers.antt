-- `code_command::done_by` meets its contract: an action for each phase whose end is next. Assumes nothing.
use Rattle.std.proofs.Common.{refl}
use Rattle.actions.specs.Actions.{sent}
use Rattle.phases.specs.Phases.{cu_of, word_of}
use Rattle.packed.proofs.Laws.{cu_of_lem}
use Rattle.code_command.proofs.done_by.Goals as goal

pub returns-in-3 : goal.returns-in-3
unfolding cu_of word_of
returns-in-3 c u s h hs =
    rw (← cu_of_lem u c.args.unit.tag c.args.unit.word h, c.in-3.is) (rw (c.kind_of.ensures, c.at_of.ensures) at (c.act.ensures s hs))

pub returns-in-5 : goal.returns-in-5
unfolding sent cu_of word_of
returns-in-5 c u s h hs =
    rw (← cu_of_lem u c.args.unit.tag c.args.unit.word h, c.in-5.is)
    (record { told = rw c.size_of.ensures at (c.send.ensures s); memory = refl; setup = hs })
