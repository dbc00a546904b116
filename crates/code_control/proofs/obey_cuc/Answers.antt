-- `code_control::obey_cuc` meets its contract: a law for each state that the table leads to. Assumes nothing.
use Rattle.std.proofs.Common.{◌∙◌, sym, arith}
use Rattle.device.specs.State.{cu_state}
use Rattle.code_control.proofs.CuCodes.{cuc_idle, cuc_suspended, cuc_active}
use Rattle.code_control.proofs.obey_cuc.Goals as goal

pub returns-in-0 : goal.returns-in-0
returns-in-0 c u b s h =
    cuc_idle u c.args.base c.args.command c.args.unit.tag c.args.unit.word c.args.memory.now b h _ c.at_of.result c.at_of.ensures
    (sym c.in-0.is ∙ c.cu_goes.ensures (cu_state u.cu) (c.cu_number.ensures.1 u.cu h.tag_is)) (rw c.then_some-begun.ensures at c.abort.ensures)

pub returns-in-1 : goal.returns-in-1
returns-in-1 c u b s h =
    cuc_suspended u c.args.base c.args.command c.args.unit.tag c.args.unit.word c.args.memory.now b h c.cu_suspended.result
    (sym c.in-1.is ∙ c.cu_goes.ensures (cu_state u.cu) (c.cu_number.ensures.1 u.cu h.tag_is)) (c.cu_suspended.ensures u.cu h)

pub returns-in_default : goal.returns-in_default
returns-in_default c u b s h =
    let e = c.cu_goes.ensures (cu_state u.cu) (c.cu_number.ensures.1 u.cu h.tag_is) in
    cuc_active u c.args.base c.args.command c.args.unit.tag c.args.unit.word c.args.memory.now b h c.cu_active.result c.args.scb
    c.first_of-first.result s (λ z. omega (arith, e, z)) (λ z. omega (arith, e, z))
    (rw c.cu_control-start.ensures at c.first_of-first.ensures) (c.cu_active.ensures u.cu h)
