-- `code_command::to_begun` meets its contract. Assumes nothing.
use Rattle.std.proofs.Common.{◌%◌, ◌^◌, refl, arith}
use borrow.Author.Tests.{ne_eqb}
use Rattle.command.specs.Begin.{begun_by}
use Rattle.packed.proofs.Words.{acting_is_lem}
use Rattle.code_command.proofs.Laws.{cmd_is, no_transmit}
use Rattle.code_command.proofs.to_begun.Goals as goal

pub returns-then-number-eq-TRANSMIT : goal.returns-then-number-eq-TRANSMIT
unfolding begun_by
returns-then-number-eq-TRANSMIT c u s h =
    let w = c.args.word in
    rw (cmd_is w, c.if-number-eq-TRANSMIT.true) (c.begin_transmit.ensures (begun_by c.args.block w) u s c.begun_by-b.ensures.1 refl h)

pub returns : goal.returns
unfolding begun_by
returns c u s h =
    let w = c.args.word in
    let v = begun_by c.args.block w in
    rw (cmd_is w, ne_eqb (w % 2 ^ 3) 4 c.if-number-eq-TRANSMIT.false, cmd_is w, c.quiet.ensures)
    (record {
      quiet =
          record {
            unit = acting_is_lem _ v (w % 2 ^ 3) (omega arith) (no_transmit _ c.if-number-eq-TRANSMIT.false) (c.acting.ensures v c.begun_by-b.ensures.1);
            raised = refl;
            length = refl;
          };
      outgoing = refl;
    })
