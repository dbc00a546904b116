-- `copies::put_few` meets its contract: what there is no room for would go nowhere. Assumes nothing.
use Rattle.memory.proofs.Laws.{run_all}
use Rattle.copies.proofs.put_few.Goals as goal

pub returns : goal.returns
returns c = cc (run_all c.args.dst.now c.args.at c.args.src.now)
