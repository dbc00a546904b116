-- `calling::obey` meets its contract. Assumes nothing.
use Rattle.scene.proofs.Laws.{obeys, obeys_none}
use Rattle.calling.proofs.obey.Goals as goal

pub returns-in_default : goal.returns-in_default
returns-in_default c = obeys_none c.args.line.verb c.args.line c.args.own.now c.args.scene.now c.in_default.is

pub returns-in-Some-asked : goal.returns-in-Some-asked
returns-in-Some-asked c =
    obeys c.args.line.verb c.in-Some.verb c.args.line c.args.own.now _ c.args.scene.now c.calls.new.scene c.in-Some.is c.in-Some-asked.ensures
    (rw c.times.ensures at c.calls.ensures)

pub returns-in-None : goal.returns-in-None
returns-in-None c =
    obeys c.args.line.verb c.in-Some.verb c.args.line c.args.own.now _ c.args.scene.now c.host.new.self c.in-Some.is c.in-None.ensures c.host.ensures
