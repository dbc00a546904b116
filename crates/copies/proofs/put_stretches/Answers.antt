-- `copies::put_stretches` meets its contract: what one turn of the loop adds, and what its end leaves. Assumes nothing.
use Rattle.std.proofs.Common.{◌+◌, drop, rules}
use Rattle.memory.proofs.Laws.{within}
use Rattle.copies.proofs.Laws.{in_end}
use Rattle.copies.proofs.Turns.{in_turn}
use Rattle.copies.proofs.put_stretches.Goals as goal

pub loop-done-preserved : goal.loop-done-preserved
loop-done-preserved c =
    let l = c.loop-done in
    let behind =
    within (l.to + c.room-run.result) _ c.slot-to.result c.slot-to.ensures (search (rules, l.invariant.0)) in (
      behind,
      search rules,
      cc (in_turn l.m c.args.src.now c.args.at l.to c.args.k l.done c.room-run.result
          l.invariant.0 c.requires.1 c.room-run.ensures),
    )

pub returns : goal.returns
returns c =
    let l = c.loop-done in
    in_end l.m _ (drop (c.args.at + l.done) c.args.src.now) l.to c.args.k l.done c.loop-done-test.false l.invariant.2
