-- `code_control::cu_active` meets its contract: a law for each arm. Assumes nothing.
use Rattle.std.proofs.Common.{arith}
use Rattle.code_control.proofs.CuCodes.{active_from}
use Rattle.code_control.proofs.cu_active.Goals as goal

pub returns-then-unit-lt-WAITING : goal.returns-then-unit-lt-WAITING
returns-then-unit-lt-WAITING c x h =
    active_from c.args.first c.plain.result x c.plain.ensures (omega (arith, h.tag_is, c.if-unit-lt-WAITING.true))
