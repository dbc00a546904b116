-- `code_command::to_first` meets its contract. Assumes nothing.
use Rattle.std.proofs.Common.{refl}
use Rattle.code_command.specs.Inner.{walk}
use Rattle.packed.proofs.Words.{sending_is_lem, ending_is_lem}
use Rattle.code_command.proofs.to_first.Goals as goal

pub returns-then-none : goal.returns-then-none
returns-then-none c v h =
    rw (c.if-none.true, c.quiet.ensures) (record { unit = ending_is_lem _ v c.args.filled (c.ending.ensures v h); raised = refl; length = refl })

pub returns : goal.returns
returns c v h =
    rw (c.if-none.false, c.quiet-2.ensures)
    (record { unit = sending_is_lem _ v (walk c.args.first 0 c.args.filled) (c.sending.ensures v h); raised = refl; length = refl })
