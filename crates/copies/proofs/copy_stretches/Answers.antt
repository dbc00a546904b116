-- `copies::copy_stretches` meets its contract: what one turn of the loop adds, and what its end leaves. Assumes nothing.
use Rattle.std.proofs.Common.{◌+◌, rules}
use Rattle.memory.proofs.Laws.{within}
use Rattle.copies.proofs.Laws.{out_turn, out_end}
use Rattle.copies.proofs.copy_stretches.Goals as goal

pub loop-done-preserved : goal.loop-done-preserved
loop-done-preserved c =
    let l = c.loop-done in
    let behind =
    within (l.from + c.room-run.result) _ c.slot-from.result c.slot-from.ensures (search (rules, l.invariant.0)) in (
      behind,
      search rules,
      cc (out_turn c.args.m.now l.dst c.args.at l.from c.args.k l.done c.room-run.result
          l.invariant.0 c.room-run.ensures),
    )

pub returns : goal.returns
returns c =
    let l = c.loop-done in
    out_end c.args.m.now l.dst _ (c.args.at + l.done) l.from c.args.k l.done c.loop-done-test.false l.invariant.2
