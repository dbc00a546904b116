-- `code_attention::attend_initialised` meets its contract: a reset, or a command obeyed. Assumes nothing.
use Rattle.std.proofs.Common.{ℕ, ap, sym, ◌∙◌}
use Rattle.scb.specs.Words.{resets}
use Rattle.code_attention.proofs.States.{setup_fresh}
use Rattle.code_attention.proofs.Parts.{attends_reset, attends_obeyed}
use Rattle.code_attention.proofs.attend_initialised.Goals as goal

pub returns-then-resets : goal.returns-then-resets
returns-then-resets c d h s =
    attends_reset d c.args.memory.now _ _ c.fresh.result
    (ap (λ (w : ℕ). resets w) (sym (c.command_of-command.ensures d.units h)) ∙ sym c.resets.ensures ∙ c.if-resets.true)
    c.fresh.ensures (c.clear_command.ensures d.units h)
    (setup_fresh _ c.renew.ensures)

pub returns : goal.returns
returns c d h s =
    rw c.events.ensures
    (attends_obeyed d c.args.memory.now c.command_of-command.result _ _ c.obey-after.result (c.command_of-command.ensures d.units h)
    (sym c.resets.ensures ∙ c.if-resets.false) (c.obey-after.ensures d h) s)
