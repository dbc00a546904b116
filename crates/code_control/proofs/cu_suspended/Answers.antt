-- `code_control::cu_suspended` meets its contract: a law for each arm. Assumes nothing.
use Rattle.std.proofs.Common.{◌∙◌, sym, arith}
use Rattle.phases.specs.Phases.{cu_word}
use Rattle.code_control.proofs.CuCodes.{suspend_waiting, suspend_begun}
use Rattle.code_control.proofs.cu_suspended.Goals as goal

pub returns-then-unit-eq-WAITING : goal.returns-then-unit-eq-WAITING
returns-then-unit-eq-WAITING c x h =
    suspend_waiting x c.args.unit.tag c.args.unit.word (sym h.tag_is ∙ c.if-unit-eq-WAITING.true) h

pub returns : goal.returns
returns c x h =
    suspend_begun x c.args.unit.tag c.args.unit.word c.pause.result (omega (arith, h.tag_is, c.if-unit-lt-WAITING.false, c.if-unit-eq-WAITING.false)) h
    (c.pause.ensures (cu_word x) (record { number_is = h.word_is; wide = h.wide }))
