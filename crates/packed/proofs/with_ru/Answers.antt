-- `packed::with_ru` meets its contract. Assumes nothing.
use Rattle.packed.specs.Packed.{marks_in, cu_tag_in}
use Rattle.packed.proofs.Laws.{marks_is, cu_is_lem, together}
use Rattle.packed.proofs.with_ru.Goals as goal

pub returns : goal.returns
returns c u v h hv =
    let k = c.args.k in
    rw (c.status_of.ensures, c.cu_tag.ensures, c.marks.ensures)
    (together u k h u.cu v u.initialised u.rulast u.events (marks_in k) (cu_tag_in k) k.cu c.args.unit.tag c.args.unit.word c.args.unit.rest
    (marks_is u k h) (cu_is_lem u k h) hv)
