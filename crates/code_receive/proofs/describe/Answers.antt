-- `code_receive::describe` meets its contract. Assumes nothing.
use Rattle.phases.specs.Phases.{word_of}
use Rattle.code_receive.proofs.describe.Goals as goal

pub returns-then-stored : goal.returns-then-stored
unfolding word_of
returns-then-stored c scb unit =
    rw (c.if-stored.true, ← c.is_bare.ensures, ← c.at_of-fd.ensures, ← c.place.ensures, ← c.unbuffered.ensures.0) cc

pub returns : goal.returns
unfolding word_of
returns c scb unit = rw (c.if-stored.false, ← c.at_of-fd.ensures, ← c.place-2.ensures) c.put_word-2.ensures
