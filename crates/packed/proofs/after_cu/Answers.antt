-- `packed::after_cu` meets its contract. Assumes nothing.
use Rattle.std.proofs.Common.{◌≡◌, ◌+◌, ◌*◌, ◌%◌, ◌∙◌, false, arith}
use Rattle.scb.specs.Words.{event_bits, raise}
use Rattle.packed.specs.Packed.{marks_in, marks_by, ru_tag_in}
use Rattle.packed.proofs.Laws.{events_below, events_is, low_mark, ru_is_lem, together}
use Rattle.packed.proofs.after_cu.Goals as goal

pub returns : goal.returns
returns c u v by h hv e =
    let k = c.args.k in
    let m : c.args.raised % 16 ≡ event_bits by = rw e (omega (arith, events_below by)) in
    let x = c.raise.ensures.1 u.events by (c.events.ensures ∙ events_is u k h) m in
    let f : marks_in k % 2 + 16 * event_bits (raise u.events by) ≡ marks_by u.initialised false (raise u.events by) =
    omega (arith, low_mark u k h) in
    rw (c.status_of.ensures, c.ru_tag.ensures, c.marks.ensures, x)
    (together u k h v u.ru u.initialised false (raise u.events by) (marks_in k % 2 + 16 * event_bits (raise u.events by))
    c.args.unit.tag c.args.unit.word (ru_tag_in k) k.ru k.rest f hv (ru_is_lem u k h))
