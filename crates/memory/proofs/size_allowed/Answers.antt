-- `memory::size_allowed` meets its contract: it asks the definition's three questions, the bounds first. Assumes nothing.
use Rattle.std.proofs.Common.{◌<◌, ◌∙◌, le-leb, arith}
use borrow.Author.Tests.{lt-leb}
use Rattle.memory.specs.Size.{size_allowed}
use Rattle.memory.proofs.size_allowed.Goals as goal
use Rattle.memory.proofs.size_allowed.Goals.{then-n-ge-LEAST, else-n-ge-LEAST}

pub returns-then-n-le-MOST : goal.returns-then-n-le-MOST
unfolding size_allowed
returns-then-n-le-MOST c =
    rw (le-leb 8192 c.args.n c.if-n-le-MOST.true.0, le-leb c.args.n 16777216 c.if-n-le-MOST.true.1)

pub returns-else-n-le-MOST : goal.returns-else-n-le-MOST
unfolding size_allowed
returns-else-n-le-MOST c =
    elim c.if-n-ge-LEAST.branch [
      | then-n-ge-LEAST w ↦
          let above : 16777216 < c.args.n = omega (arith, w.if-n-ge-LEAST.true, c.if-n-le-MOST.either) in
          rw (le-leb 8192 c.args.n w.if-n-ge-LEAST.true, lt-leb c.args.n 16777216 above) (w.t-3-is ∙ lt-leb c.args.n 16777216 above)
      | else-n-ge-LEAST w ↦
          rw (lt-leb 8192 c.args.n w.if-n-ge-LEAST.false) (w.t-3-is ∙ lt-leb 8192 c.args.n w.if-n-ge-LEAST.false)
    ]
