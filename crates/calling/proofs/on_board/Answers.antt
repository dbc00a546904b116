-- `calling::on_board` meets its contract. Assumes nothing.
use Rattle.std.proofs.Common.{refl}
use Rattle.board.proofs.Laws.{leaves_call}
use Rattle.calling.proofs.on_board.Goals as goal

pub returns : goal.returns
returns c = ((refl, refl, refl), leaves_call _ _ _ _ _ _ _ _ _ _ _ c.min-n.ensures c.lent.ensures)
