-- `calling::calls` meets its contract. Assumes nothing.
use Rattle.std.proofs.Common.{◌≡◌, arith}
use Rattle.scene.proofs.Laws.{no_calls, more_calls}
use Rattle.calling.proofs.calls.Goals as goal

pub loop-i-init : goal.loop-i-init
loop-i-init c = no_calls _ c.args.scene.now

pub loop-i-preserved : goal.loop-i-preserved
loop-i-preserved c =
    more_calls c.loop-i.i _ c.args.scene.now c.loop-i.scene c.call.new.scene c.loop-i.invariant c.call.ensures

pub returns : goal.returns
returns c = let all : c.loop-i.i ≡ c.args.times = omega arith in rw all at c.loop-i.invariant
