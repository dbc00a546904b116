-- `code_chip::turn` meets its contract: each unit, or neither. Assumes nothing.
use Rattle.std.proofs.Common.{refl, sym, ◌∙◌}
use borrow.Author.Tests.{le-leb, lt-leb}
use Rattle.chip.specs.World.{world_of}
use Rattle.code_chip.proofs.Laws.{holds_is, turn_command, turn_receive, turn_neither}
use Rattle.code_chip.proofs.turn.Goals as goal

pub returns-then-commands : goal.returns-then-commands
returns-then-commands c d e =
    turn_command (world_of d _ _ _) c.args.report _ _ _ _ (sym (c.commands.ensures d.units e.units) ∙ c.if-commands.true) (c.command_turn.ensures d _ e)

pub returns-then-ru_tag-ge-HELD : goal.returns-then-ru_tag-ge-HELD
returns-then-ru_tag-ge-HELD c d e =
    turn_receive (world_of d _ _ _) c.args.report _ _ _ _ (sym (c.commands.ensures d.units e.units) ∙ c.if-commands.false)
    (sym (holds_is d.units c.args.k e.units) ∙ le-leb _ _ (rw c.ru_tag.ensures at c.if-ru_tag-ge-HELD.true)) (c.receive_turn.ensures d _ _ e)

pub returns : goal.returns
returns c d e =
    turn_neither (world_of d _ _ _) c.args.report _ _ _ _ (sym (c.commands.ensures d.units e.units) ∙ c.if-commands.false)
    (sym (holds_is d.units c.args.k e.units) ∙ lt-leb _ _ (rw c.ru_tag.ensures at c.if-ru_tag-ge-HELD.false)) e refl refl refl refl
