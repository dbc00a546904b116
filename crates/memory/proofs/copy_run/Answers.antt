-- `memory::copy_run` meets its contract: what one turn of the loop adds. Assumes nothing.
use Rattle.std.proofs.Common.{◌+◌, ◌<◌, length, rules, arith}
use Rattle.memory.proofs.Laws.{run_step}
use Rattle.memory.proofs.copy_run.Goals as goal

pub loop-i-preserved : goal.loop-i-preserved
loop-i-preserved c =
    let h : c.args.from + c.loop-i.i < length c.args.src.now = omega arith in
    (search rules, rw (← run_step c.args.dst.now c.args.to c.args.src.now c.args.from c.loop-i.i h) cc)
