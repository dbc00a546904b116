-- `code_control::ru_suspended` meets its contract: a law for each arm. Assumes nothing.
use Rattle.std.proofs.Common.{◌∙◌, sym, arith}
use Rattle.phases.specs.Phases.{ru_word}
use Rattle.code_control.proofs.RuCodes.{suspend_ready_lem, suspend_held_lem}
use Rattle.code_control.proofs.ru_suspended.Goals as goal

pub returns-then-unit-eq-READY : goal.returns-then-unit-eq-READY
returns-then-unit-eq-READY c x h =
    suspend_ready_lem x c.args.unit.tag c.args.unit.word c.args.unit.rest (sym h.tag_is ∙ c.if-unit-eq-READY.true) h

pub returns : goal.returns
returns c x h =
    suspend_held_lem x c.args.unit.tag c.args.unit.word c.pause.result c.args.unit.rest
    (omega (arith, h.tag_is, c.if-unit-lt-READY.false, c.if-unit-eq-READY.false)) h
    (c.pause.ensures (ru_word x) (record { number_is = h.word_is; wide = h.wide }))
