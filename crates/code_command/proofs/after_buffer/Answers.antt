-- `code_command::after_buffer` meets its contract. The tests in their order. Assumes nothing.
use Rattle.std.proofs.Common.{◌≡◌, ◌+◌, refl, true, false, arith}
use lib.Dec.{leb}
use borrow.Author.Tests.{le-leb, lt-leb}
use Rattle.code_command.specs.Inner.{walk}
use Rattle.packed.proofs.Words.{sending_is_lem, ending_is_lem, failing_is}
use Rattle.code_command.proofs.after_buffer.Goals as goal

pub returns-then-eof : goal.returns-then-eof
returns-then-eof c v h =
    rw (c.if-eof.true, c.quiet.ensures) (record { unit = ending_is_lem _ v c.args.filled (c.ending.ensures v h); raised = refl; length = refl })

pub returns-then-is_none : goal.returns-then-is_none
returns-then-is_none c v h =
    rw (c.if-eof.false, ← c.is_none.ensures, c.if-is_none.true, c.quiet-then-is_none.ensures)
    (record { unit = failing_is _ v h; raised = refl; length = refl })

pub returns-then-used-ge-LAST : goal.returns-then-used-ge-LAST
returns-then-used-ge-LAST c v h =
    let e : leb 64 (c.args.used + 1) ≡ true = le-leb 64 (c.args.used + 1) (omega (arith, c.if-used-ge-LAST.true)) in
    rw (c.if-eof.false, ← c.is_none.ensures, c.if-is_none.false, e, c.quiet-then-used-ge-LAST.ensures)
    (record { unit = failing_is _ v h; raised = refl; length = refl })

pub returns : goal.returns
returns c v h =
    let u = c.args.used in
    let e : leb 64 (u + 1) ≡ false = lt-leb 64 (u + 1) (omega (arith, c.if-used-ge-LAST.false)) in
    rw (c.if-eof.false, ← c.is_none.ensures, c.if-is_none.false, e, c.quiet-2.ensures)
    (record { unit = sending_is_lem _ v (walk c.args.next (u + 1) c.args.filled) (c.sending.ensures v h); raised = refl; length = refl })
