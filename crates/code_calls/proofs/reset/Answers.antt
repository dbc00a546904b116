-- `code_calls::reset` meets its promise. Assumes nothing.
use Rattle.std.proofs.Common.{refl}
use borrow.Author.Tests.{eq-eqb, ne_eqb}
use Rattle.image.specs.Image.{stored}
use Rattle.chip.specs.World.{reset_of}
use Rattle.calls.specs.Calls.{reset_call}
use Rattle.code_calls.proofs.reset.Goals as goal

pub returns-then-kept-eq-SIZE : goal.returns-then-kept-eq-SIZE
unfolding stored reset_call reset_of
returns-then-kept-eq-SIZE c =
    rw (eq-eqb _ _ c.if-kept-eq-SIZE.true)
    (record { answer = c.answer_of.ensures; kept = rw (eq-eqb _ _ c.if-kept-eq-SIZE.true) at c.renew.ensures })

pub returns : goal.returns
unfolding stored reset_call reset_of
returns c = rw (ne_eqb _ _ c.if-kept-eq-SIZE.false) (record { answer = c.refuse.ensures; kept = refl })
