-- `code_chip::run` meets its contract. Assumes nothing.
use Rattle.std.proofs.Common.{rules}
use Rattle.code_chip.proofs.Loop.{going_start, going_on, going_stops, going_none}
use Rattle.code_chip.proofs.run.Goals as goal

pub loop-taken-init : goal.loop-taken-init
loop-taken-init c d e = going_start d c.args.report c.args.budget c.args.k _ _ _ _ e

pub returns-then-t : goal.returns-then-t
returns-then-t c d e =
    let g = c.loop-taken.invariant d e in
    going_stops _ c.args.report c.args.budget c.loop-taken.taken _ _ _ _ _ g _ _ _ _ c.loop-taken-test.true (c.turn-t.ensures g.here g.numbers) c.if-t.true

pub loop-taken-preserved : goal.loop-taken-preserved
loop-taken-preserved c d e =
    let g = c.loop-taken.invariant d e in
    going_on _ c.args.report c.args.budget c.loop-taken.taken _ _ _ _ _ g _ _ _ _ c.loop-taken-test.true (c.turn-t.ensures g.here g.numbers) c.if-t.false

pub returns : goal.returns
returns c d e = going_none _ c.args.report c.args.budget c.loop-taken.taken _ _ _ _ _ (c.loop-taken.invariant d e) (search rules) c.loop-taken-test.false
