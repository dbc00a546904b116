-- `code_chip::commands` meets its contract. Assumes nothing.
use Rattle.std.proofs.Common.{◌∙◌}
use Rattle.code_chip.proofs.Laws.{commands_idle, commands_alone, commands_next}
use Rattle.code_chip.proofs.commands.Goals as goal

pub returns-then-cu_tag-lt-WAITING : goal.returns-then-cu_tag-lt-WAITING
returns-then-cu_tag-lt-WAITING c u h = commands_idle u c.args.k h (rw c.cu_tag.ensures at c.if-cu_tag-lt-WAITING.true)

pub returns-then-ru_tag-lt-HELD : goal.returns-then-ru_tag-lt-HELD
returns-then-ru_tag-lt-HELD c u h =
    commands_alone u c.args.k h (rw c.cu_tag.ensures at c.if-cu_tag-lt-WAITING.false) (rw c.ru_tag.ensures at c.if-ru_tag-lt-HELD.true)

pub returns : goal.returns
returns c u h =
    c.ru_last.ensures ∙ commands_next u c.args.k h (rw c.cu_tag.ensures at c.if-cu_tag-lt-WAITING.false)
    (rw c.ru_tag.ensures at c.if-ru_tag-lt-HELD.false)
