-- `code_attention::attend` meets its contract: the first attention, or a later one. Assumes nothing.
use Rattle.std.proofs.Common.{sym, ◌∙◌}
use Rattle.packed.proofs.Laws.{initialised_is}
use Rattle.code_attention.proofs.Parts.{attention_later, attends_first}
use Rattle.code_attention.proofs.attend.Goals as goal

pub returns-then-initialised : goal.returns-then-initialised
returns-then-initialised c d h s =
    rw (attention_later d c.args.memory.now (sym (initialised_is d.units c.args.k h) ∙ sym c.initialised.ensures ∙ c.if-initialised.true))
    (c.attend_initialised.ensures d h s)

pub returns : goal.returns
returns c d h s =
    attends_first d c.args.memory.now _ _ c.initialise.result
    (sym (initialised_is d.units c.args.k h) ∙ sym c.initialised.ensures ∙ c.if-initialised.false) (c.initialise.ensures d h) s
