-- `hash::take` meets its contract: two halves are a byte, and a byte more is what `behind_more` says. Assumes nothing.
use Rattle.hash.specs.Numbers.{taken}
use Rattle.hash.proofs.Faster.{behind_more}
use Rattle.hash.proofs.take.Goals as goal

pub returns : goal.returns
unfolding taken
returns c = (cc, λ bs e. cc (behind_more bs c.args.byte))
