-- `packed::ru::filled_up` meets its contract. Assumes nothing.
use native.Mathlib.Omega.{arith}
use Rattle.packed.proofs.Words.{from_flag, storing_full}
use Rattle.packed.proofs.ru.filled_up.Goals as goal

pub returns : goal.returns
returns c = (
  rw c.flagged.ensures (omega arith),
  λ s next h. rw (c.flagged.ensures, c.from.ensures, from_flag c.args.el) (storing_full c.args.n s next c.args.el h),
)
