-- `code_chip::receive_turn` meets its contract. Assumes nothing.
use Rattle.std.proofs.Common.{◌∙◌}
use Rattle.packed.proofs.Laws.{ru_is_lem, base_is, scb_is}
use Rattle.code_chip.proofs.Laws.{same_real, same_offset, receive_tells}
use Rattle.code_chip.proofs.receive_turn.Goals as goal

pub returns : goal.returns
returns c d out set e =
    let k = c.args.k in
    let b = same_real _ d.units.base (c.base.ensures ∙ base_is d.units k e.units) in
    let o = same_offset _ d.units.scb (c.scb.ensures ∙ scb_is d.units k e.units) in
    let s = c.serve-s.ensures d.units.ru (rw c.ru_unit.ensures (ru_is_lem d.units k e.units)) in
    let t = rw (b, o) at s in
    let u = c.after_ru-after.ensures d.units _ _ e.units t.unit t.raised in
    receive_tells d _ _ out set _ _ _ _ _ t u e.setup (c.conclude.ensures _ _ u t.raised)
