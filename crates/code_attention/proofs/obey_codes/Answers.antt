-- `code_attention::obey_codes` meets its contract: both codes, one behind the other, and what the units left. Assumes nothing.
use Rattle.std.proofs.Common.{◌∙◌, sym}
use Rattle.scb.specs.Words.{acknowledged}
use Rattle.device.specs.Change.{with_events}
use Rattle.packed.specs.Packed.{CuUnitIs, RuUnitIs}
use Rattle.packed.proofs.Laws.{base_is, scb_is, cu_is_lem, ru_is_lem}
use Rattle.attention.specs.Attention.{leaving}
use Rattle.code_attention.specs.Attends.{left_active, left_ready}
use Rattle.code_attention.proofs.Codes.{leaving_bits, codes_are}
use Rattle.code_attention.proofs.obey_codes.Goals as goal

pub returns : goal.returns
returns c u h =
    let k = c.args.k in
    let b = c.base-base.ensures ∙ base_is u k h in
    let s = c.scb-scb.ensures ∙ scb_is u k h in
    let hc : CuUnitIs u.cu c.cu_unit-cu.result = rw c.cu_unit-cu.ensures (cu_is_lem u k h) in
    let hv : RuUnitIs u.ru c.ru_unit-ru.result = rw c.ru_unit-ru.ensures (ru_is_lem u k h) in
    codes_are u c.args.command c.args.memory.now _ _ c.obey_cuc-c.result c.obey_ruc-r.result c.after_codes.result
    (c.obey_cuc-c.ensures u b s hc) (c.obey_ruc-r.ensures u b s hv)
    (λ a v ha hr. c.after_codes.ensures (with_events u (acknowledged u.events c.args.command)) a v
    (leaving (left_active u.cu a) (left_ready u.ru v)) (c.acknowledge.ensures u h) ha hr
    (rw (c.left_active.ensures.1 u.cu a hc.tag_is ha.tag_is, c.left_ready.ensures.1 u.ru v hv.tag_is hr.tag_is)
    (sym (leaving_bits (left_active u.cu a) (left_ready u.ru v)))))
