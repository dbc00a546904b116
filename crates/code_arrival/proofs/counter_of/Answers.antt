-- `code_arrival::counter_of` meets its contract. Assumes nothing.
use Rattle.std.proofs.Common.{arith}
use borrow.Author.Tests.{ne_eqb}
use Rattle.device.specs.Numbers.{verdict_of}
use Rattle.phases.specs.Phases.{word_of}
use Rattle.code_arrival.proofs.counter_of.Goals as goal

pub returns-in-0 : goal.returns-in-0
unfolding word_of verdict_of
returns-in-0 c = rw (← c.short.ensures, c.if-short.false, ← c.verdict.ensures, c.in-0.is)

pub returns-in-1 : goal.returns-in-1
unfolding word_of verdict_of
returns-in-1 c = rw (← c.short.ensures, c.if-short.false, ← c.verdict.ensures, c.in-1.is)

pub returns-in_default : goal.returns-in_default
unfolding word_of verdict_of
returns-in_default c =
    rw (← c.short.ensures, c.if-short.false, ← c.verdict.ensures)
    (simp (ne_eqb c.verdict.result 0 (λ e. omega arith), ne_eqb c.verdict.result 1 (λ e. omega arith)))
