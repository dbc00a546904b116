-- `numerals::is_zero` meets its contract: no words are zero, and what one turn of the loop adds. Assumes nothing.
use Rattle.numerals.proofs.Laws.{zero_none, zero_more}
use Rattle.numerals.proofs.is_zero.Goals as goal

pub loop-i-init : goal.loop-i-init
loop-i-init c = zero_none c.args.r.now c.args.at

pub loop-i-preserved : goal.loop-i-preserved
loop-i-preserved c = cc (zero_more c.loop-i.joined c.args.r.now c.args.at c.loop-i.i c.loop-i.invariant)
