-- `wording::fill` meets its contract: the part of the places that there are is filled, and there may be none. Assumes nothing.
use Rattle.std.proofs.Common.{arith, rules}
use Rattle.wording.proofs.Laws.{part_filled, none_filled}
use Rattle.wording.proofs.fill.Goals as goal

pub returns-then-i-end : goal.returns-then-i-end
returns-then-i-end c =
    part_filled c.args.bytes.now c.args.i c.args.n c.min-end.result c.args.b _ (omega arith) c.if-i-end.true (search rules)

pub returns-else-i-end : goal.returns-else-i-end
returns-else-i-end c =
    none_filled c.args.bytes.now c.args.i c.args.n c.min-end.result c.args.b (omega arith) c.if-i-end.false
