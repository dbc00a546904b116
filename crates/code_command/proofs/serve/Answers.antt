-- `code_command::serve` meets its contract: a function for each phase, and one for every end. Assumes nothing.
use Rattle.std.proofs.Common.{refl, arith}
use Rattle.scb.specs.Words.{joined, event_bits}
use Rattle.phases.specs.Phases.{cu_of, word_of, begun_of}
use Rattle.command.specs.Buffer.{buffer}
use Rattle.code_command.specs.Serves.{part_by}
use Rattle.code_command.specs.Inner.{acted_by}
use Rattle.code_command.proofs.Laws.{rests, phased, ends_rest, ended}
use Rattle.code_command.proofs.serve.Goals as goal

pub returns-in-0 : goal.returns-in-0
returns-in-0 c u s h hs = rw c.quiet.ensures (rests c.args.base u s c.args.outgoing.now _ c.args.memory.now c.args.report _ _ h hs (omega arith))

pub returns-in-2 : goal.returns-in-2
unfolding cu_of word_of
returns-in-2 c u s h hs =
    let p = part_by c.args.base u s c.args.outgoing.now in
    rw (phased p c.args.unit.tag c.args.unit.word c.args.memory.now c.args.report h, c.in-2.is) (rw c.at_of.ensures at (c.begin.ensures u s hs))

pub returns-in-4 : goal.returns-in-4
unfolding joined event_bits cu_of word_of buffer
returns-in-4 c u s h hs =
    let p = part_by c.args.base u s c.args.outgoing.now in
    let g = c.buffer.ensures u s in
    rw (phased p c.args.unit.tag c.args.unit.word c.args.memory.now c.args.report h, c.in-4.is)
    (record { unit = g.quiet.unit; raised = g.quiet.raised; length = g.quiet.length; memory = refl; outgoing = g.outgoing; setup = hs })

pub returns-in_default : goal.returns-in_default
returns-in_default c u s h hs =
    let p = part_by c.args.base u s c.args.outgoing.now in
    let m = c.args.memory.now in
    let n = c.args.unit.word in
    let v = begun_of (word_of n) in
    let a = acted_by u c.args.base s m c.args.report in
    rw (ends_rest p c.args.unit.tag n h (λ e. omega arith) (λ e. omega arith) (λ e. omega arith) (λ e. omega arith) m c.args.report)
    (ended p a v m c.done_by-done.result _ _ _ _ (c.done_by-done.ensures u s h hs) c.end.ensures)
