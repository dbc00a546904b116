-- `code_control::obey_ruc` meets its contract: a law for each state that the table leads to. Assumes nothing.
use Rattle.std.proofs.Common.{◌∙◌, sym, arith}
use Rattle.device.specs.State.{ru_state}
use Rattle.code_control.proofs.RuCodes.{ruc_idle, ruc_suspended, ruc_none, ruc_ready}
use Rattle.code_control.proofs.obey_ruc.Goals as goal

pub returns-in-0 : goal.returns-in-0
returns-in-0 c u b s h =
    ruc_idle u c.args.base c.args.command c.args.unit.tag c.args.unit.word c.args.unit.rest c.args.memory.now b h _ c.at_of.result c.at_of.ensures
    (sym c.in-0.is ∙ c.ru_goes.ensures (ru_state u.ru) (c.ru_column.ensures.1 u.ru h.tag_is)) (rw c.then_some-begun.ensures at c.abort.ensures)

pub returns-in-1 : goal.returns-in-1
returns-in-1 c u b s h =
    ruc_suspended u c.args.base c.args.command c.args.unit.tag c.args.unit.word c.args.unit.rest c.args.memory.now b h c.ru_suspended.result
    (sym c.in-1.is ∙ c.ru_goes.ensures (ru_state u.ru) (c.ru_column.ensures.1 u.ru h.tag_is)) (c.ru_suspended.ensures u.ru h)

pub returns-in-2 : goal.returns-in-2
returns-in-2 c u b s h =
    ruc_none u c.args.base c.args.command c.args.unit.tag c.args.unit.word c.args.unit.rest c.args.memory.now b h
    (sym c.in-2.is ∙ c.ru_goes.ensures (ru_state u.ru) (c.ru_column.ensures.1 u.ru h.tag_is))

pub returns-in_default : goal.returns-in_default
returns-in_default c u b s h =
    let e = c.ru_goes.ensures (ru_state u.ru) (c.ru_column.ensures.1 u.ru h.tag_is) in
    ruc_ready u c.args.base c.args.command c.args.unit.tag c.args.unit.word c.args.unit.rest c.args.memory.now b h c.ru_ready.result c.args.scb
    c.first_of-first.result s (λ z. omega (arith, e, z)) (λ z. omega (arith, e, z)) (λ z. omega (arith, e, z))
    (rw c.ru_control-start.ensures at c.first_of-first.ensures) (c.ru_ready.ensures u.ru h)
