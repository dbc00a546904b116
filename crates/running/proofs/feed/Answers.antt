-- `running::feed` meets its contract. Assumes nothing.
use Rattle.session.proofs.Laws.{fed_stopped, fed_end, fed_on}
use Rattle.running.proofs.feed.Goals as goal

pub returns-then-held : goal.returns-then-held
returns-then-held c = fed_stopped c.args.held.now c.args.c c.if-held.true

pub returns-then-c-eq10 : goal.returns-then-c-eq10
returns-then-c-eq10 c =
    fed_end c.args.held.now c.args.c c.end-held.result c.end-held.new.bytes c.judge.new.held c.if-held.false c.if-c-eq10.true
    c.end-held.ensures c.judge.ensures

pub returns : goal.returns
returns c =
    fed_on c.args.held.now c.args.c c.read-held.result c.read-held.new.bytes c.if-held.false c.if-c-eq10.false c.read-held.ensures
