-- `calling::call` meets its contract. Assumes nothing.
use Rattle.scene.proofs.Laws.{call_told}
use Rattle.calling.proofs.call.Goals as goal

pub returns : goal.returns
returns c =
    call_told _ c.args.scene.now c.on_board-answer.new.board c.on_board-answer.result c.on_board-answer.new.areas c.put_answer.new.self
    c.on_board-answer.ensures c.put_answer.ensures
