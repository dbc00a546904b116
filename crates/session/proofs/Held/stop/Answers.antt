-- `session::Held::stop` meets its contract. Assumes nothing.
use Rattle.session.proofs.Laws.{fault_told}
use Rattle.session.proofs.Held.stop.Goals as goal

pub returns : goal.returns
returns c = fault_told c.args.fault c.args.self.now c.put_fault.new.page c.halt.new.self c.put_fault.ensures c.halt.ensures
