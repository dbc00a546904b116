-- `running::run` meets its contract. Assumes nothing.
use Rattle.std.proofs.Common.{arith}
use Rattle.session.proofs.Laws.{ran_none, ran_more, ran_all}
use Rattle.running.proofs.run.Goals as goal

pub loop-c-init : goal.loop-c-init
loop-c-init c = ran_none c.args.input.now c.args.held.now

pub loop-c-preserved : goal.loop-c-preserved
loop-c-preserved c =
    ran_more c.args.input.now c.loop-c.c-index c.args.held.now c.loop-c.held c.feed.new.held c.loop-c-test.true c.loop-c.invariant c.feed.ensures

pub returns : goal.returns
returns c = ran_all c.args.input.now c.loop-c.c-index c.args.held.now c.loop-c.held (omega arith) c.loop-c.invariant
