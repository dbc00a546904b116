-- `code_chip::command_turn` meets its contract. Assumes nothing.
use Rattle.std.proofs.Common.{◌∙◌}
use Rattle.actions.specs.Setup.{setup_of}
use Rattle.packed.proofs.Laws.{cu_is_lem, base_is}
use Rattle.code_chip.proofs.Laws.{same_real, commanded_is, command_tells}
use Rattle.code_chip.proofs.command_turn.Goals as goal

pub returns : goal.returns
returns c d h e =
    let k = c.args.k in
    let b = same_real _ d.units.base (c.base.ensures ∙ base_is d.units k e.units) in
    let s = c.serve-c.ensures d.units.cu (setup_of d) (rw c.cu_unit.ensures (cu_is_lem d.units k e.units)) e.setup in
    let t = rw b at s in
    let u = commanded_is d _ h _ c.args.report _ (c.after_cu-after.ensures d.units _ _ e.units t.unit t.raised) in
    command_tells d _ h _ c.args.report _ _ _ _ _ _ _ t u (c.conclude.ensures _ _ u t.raised)
