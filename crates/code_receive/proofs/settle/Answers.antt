-- `code_receive::settle` meets its contract. Assumes nothing.
use Rattle.std.proofs.Common.{◌≡◌, not, ◌||◌}
use Rattle.memory.proofs.Laws.{apply_append}
use Rattle.device.specs.Answers.{is_stored}
use Rattle.device.specs.State.{is_good}
use Rattle.receive.specs.End.{fate_of, settles}
use Rattle.code_arrival.specs.Arrives.{frame_in}
use Rattle.code_receive.proofs.Laws.{stored_is}
use Rattle.code_receive.proofs.settle.Goals as goal

pub returns : goal.returns
unfolding settles
returns c =
    let l = c.args.lacking in
    let f = frame_in c.args.n in
    let e : (not l || c.save_bad.result) ≡ is_stored (fate_of l f) = rw c.save_bad.ensures (stored_is l f.savebad (is_good f)) in
    (e, λ unit. rw (apply_append, ← e, ← c.describe.ensures c.args.scb unit, ← c.lost.ensures) c.count.ensures)
