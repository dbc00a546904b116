-- `code_control::ru_ready` meets its contract: a law for each arm. Assumes nothing.
use Rattle.std.proofs.Common.{arith}
use Rattle.code_control.proofs.RuCodes.{ready_from}
use Rattle.code_control.proofs.ru_ready.Goals as goal

pub returns-then-unit-lt-READY : goal.returns-then-unit-lt-READY
returns-then-unit-lt-READY c x h =
    ready_from c.args.first c.plain.result x c.plain.ensures (omega (arith, h.tag_is, c.if-unit-lt-READY.true))
