-- `code_receive::end` meets its contract. Assumes nothing.
use Rattle.std.proofs.Common.{◌≡◌, ◌||◌}
use Rattle.receive.specs.End.{fate_of, settles}
use Rattle.phases.specs.Phases.{word_of}
use Rattle.code_arrival.specs.Arrives.{frame_in}
use Rattle.code_receive.specs.Receives.{next_of, storing_in, part_by}
use Rattle.code_receive.proofs.Laws.{after_writes}
use Rattle.code_receive.proofs.end.Goals as goal

pub returns : goal.returns
returns c unit =
    let a = c.args in
    let n = a.n in
    let f = fate_of a.lacking (frame_in n) in
    let ws = settles a.lacking (part_by a.base a.scb unit a.holding.now) (storing_in n) a.memory.now in
    let x : (a.lacking || (c.el.result || c.full.result)) ≡ (a.lacking || ((storing_in n).el || (word_of n).sixth)) =
    rw (c.el.ensures, c.full.ensures) in
    rw (← x)
    (after_writes (a.lacking || (c.el.result || c.full.result)) a.base a.scb unit a.holding.now (storing_in n) (next_of n) f ws
    a.memory.now _ _ _ (c.settle-stored.ensures.1 unit) (c.goes_on.ensures f c.settle-stored.ensures.0))
