-- `code_chip::conclude` meets its contract: an event was raised, or none was. Assumes nothing.
use Rattle.std.proofs.Common.{refl}
use Rattle.code_chip.proofs.Laws.{concludes_raised, concludes_quiet}
use Rattle.code_chip.proofs.conclude.Goals as goal

pub returns-then-raised-ne0 : goal.returns-then-raised-ne0
returns-then-raised-ne0 c u by h e =
    concludes_raised u by c.args.k c.args.length c.args.raised _ _ e c.if-raised-ne0.true (c.write_status.ensures u h)

pub returns : goal.returns
returns c u by h e = concludes_quiet u by c.args.k c.args.length c.args.raised _ _ e c.if-raised-ne0.false refl
