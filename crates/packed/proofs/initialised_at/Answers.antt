-- `packed::initialised_at` meets its contract. Assumes nothing.
use Rattle.std.proofs.Common.{rules}
use Rattle.packed.proofs.States.{initialises}
use Rattle.packed.proofs.initialised_at.Goals as goal

pub returns : goal.returns
returns c u e b h g =
    rw (c.status_of.ensures, c.marks.ensures, g) (initialises u c.args.k h c.args.base c.args.scb e b (search rules))
