-- `code_receive::goes_on` meets its contract. Assumes nothing.
use Rattle.std.proofs.Common.{◌≡◌, true, false, ◌||◌, refl}
use Rattle.phases.specs.Phases.{word_of}
use Rattle.packed.proofs.Words.{from_flag, suspended, ready, no_resources}
use Rattle.code_receive.proofs.Laws.{offset_is, raised_suspended, raised_ready, raised_none}
use Rattle.code_receive.proofs.goes_on.Goals as goal

pub returns-then-exhausted : goal.returns-then-exhausted
returns-then-exhausted c f e =
    rw (c.if-exhausted.true, c.served.ensures) (record { unit = no_resources; raised = rw (c.from-fr.ensures, from_flag c.args.stored, e) (raised_none f); memory = refl })

pub returns-then-suspend-pausing : goal.returns-then-suspend-pausing
unfolding word_of
returns-then-suspend-pausing c f e =
    let o = c.offset_at-link.result in
    let p = rw (offset_is _ _ c.at_of.ensures) at c.place.ensures in
    let t : ((word_of c.args.n).fourth || (word_of c.args.n).first) ≡ true = rw (← c.suspend.ensures, ← c.pausing.ensures) c.if-suspend-pausing.true in
    rw (c.if-exhausted.false, t, c.served-then-suspend-pausing.ensures)
    (record {
      unit = rw (← p, ← c.offset_at-link.ensures) (suspended _ o c.plain.ensures);
      raised = rw (c.from-fr.ensures, from_flag c.args.stored, e) (raised_suspended f o);
      memory = rw (← p, ← c.offset_at-link.ensures, ← c.place-2.ensures, ← c.next_of-free.ensures) c.put_word.ensures;
    })

pub returns : goal.returns
unfolding word_of
returns c f e =
    let o = c.offset_at-link.result in
    let p = rw (offset_is _ _ c.at_of.ensures) at c.place.ensures in
    let t : ((word_of c.args.n).fourth || (word_of c.args.n).first) ≡ false = rw (← c.suspend.ensures, ← c.pausing.ensures) c.if-suspend-pausing.false in
    rw (c.if-exhausted.false, t, c.served-2.ensures)
    (record {
      unit = rw (← p, ← c.offset_at-link.ensures) (ready _ o c.plain-2.ensures);
      raised = rw (c.from-fr.ensures, from_flag c.args.stored, e) (raised_ready f o);
      memory = rw (← p, ← c.offset_at-link.ensures, ← c.place-2.ensures, ← c.next_of-free.ensures) c.put_word.ensures;
    })
