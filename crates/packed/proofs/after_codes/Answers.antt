-- `packed::after_codes` meets its contract: a state put together from its parts. Assumes nothing.
use Rattle.std.proofs.Common.{◌≡◌, ◌+◌, ◌*◌, ◌%◌, ◌∙◌, arith}
use Rattle.scb.specs.Words.{event_bits, raise}
use Rattle.packed.specs.Packed.{marks_in, marks_by}
use Rattle.packed.proofs.Laws.{events_is, together}
use Rattle.packed.proofs.States.{low_marks}
use Rattle.packed.proofs.after_codes.Goals as goal

pub returns : goal.returns
returns c u a v by h hc hv e =
    let k = c.args.k in
    let x = c.raise.ensures.1 u.events by (c.events.ensures ∙ events_is u k h) e in
    let f : marks_in k % 4 + 16 * event_bits (raise u.events by) ≡ marks_by u.initialised u.rulast (raise u.events by) =
    omega (arith, low_marks u k h) in
    rw (c.status_of.ensures, c.marks.ensures, x)
    (together u k h a v u.initialised u.rulast (raise u.events by) (marks_in k % 4 + 16 * event_bits (raise u.events by))
    c.args.command.tag c.args.command.word c.args.receive.tag c.args.receive.word c.args.receive.rest f hc hv)
