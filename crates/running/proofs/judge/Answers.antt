-- `running::judge` meets its contract. Assumes nothing.
use Rattle.session.proofs.Laws.{judged_right, judged_wrong}
use Rattle.running.proofs.judge.Goals as goal

pub returns-in-Some : goal.returns-in-Some
returns-in-Some c = judged_wrong c.args.held.now c.stop.new.self c.in-Some.fault c.in-Some.is c.stop.ensures

pub returns : goal.returns
returns c =
    judged_right c.args.held.now c.obey.new.scene c.start-held.result c.in_default.is c.start-held.ensures c.obey.ensures
