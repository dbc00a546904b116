-- `memory::word_at` meets its contract: the two bytes lie side by side, or across the end. Assumes nothing.
use Rattle.std.proofs.Common.{◌∙◌}
use borrow.Author.Tests.{true-eqb, false-eqb}
use Rattle.memory.proofs.Runs.{word_none, word_in, word_across}
use Rattle.memory.proofs.word_at.Goals as goal

pub returns-then-is_empty : goal.returns-then-is_empty
returns-then-is_empty c = word_none c.args.m.now c.args.a.0 (true-eqb _ _ c.if-is_empty.ensures)

pub returns-then-i-last : goal.returns-then-i-last
returns-then-i-last c = c.from_le_bytes.ensures ∙ word_in c.args.m.now c.args.a.0 c.slot-i.result c.slot-i.ensures c.if-i-last.true

pub returns : goal.returns
returns c =
    c.from_le_bytes-2.ensures ∙ word_across c.args.m.now c.args.a.0 c.slot-i.result c.slot-i.ensures (false-eqb _ _ c.if-is_empty.ensures) c.if-i-last.false
