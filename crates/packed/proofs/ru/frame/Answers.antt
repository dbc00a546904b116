-- `packed::ru::frame` meets its contract. Assumes nothing.
use Rattle.std.proofs.Common.{arith}
use Rattle.phases.proofs.Units.{one_below}
use Rattle.packed.proofs.Words.{from_flag, frame_number_lem}
use Rattle.packed.proofs.ru.frame.Goals as goal

pub returns : goal.returns
returns c = (
  omega (arith, c.from.ensures, c.from-2.ensures, from_flag c.args.short, from_flag c.args.save_bad, one_below c.args.short, one_below c.args.save_bad, c.requires.0, c.requires.1, c.requires.2),
  λ f e. rw (e, c.from.ensures, c.from-2.ensures, from_flag c.args.short, from_flag c.args.save_bad)
      (frame_number_lem c.args.short c.args.save_bad c.args.verdict c.args.length f c.requires.0),
)
