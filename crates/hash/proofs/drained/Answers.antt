-- `hash::drained` meets its contract: each entry of the table computes. Assumes nothing.
use Rattle.std.proofs.Common.{get_or, eqb}
use lib.Dec.{eqb→eq}
use Rattle.scb.proofs.Below.{below}
use Rattle.hash.specs.Numbers.{drip, drained}
use Rattle.hash.specs.declared.TheConstants.{DRAINED}
use Rattle.hash.proofs.drained.Goals as goal

pub returns : goal.returns
unfolding drip drained
returns c =
    eqb→eq (get_or DRAINED c.args.x 0) (drained 4 c.args.x)
    (below (λ k. eqb (get_or DRAINED k 0) (drained 4 k)) 16 tt c.args.x c.requires)
