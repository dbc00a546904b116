-- `texts::Page::put_further` meets its contract: nothing, or a blank and the number. Assumes nothing.
use borrow.Author.Tests.{eq-eqb, ne_eqb}
use Rattle.texts.specs.Texts.{further_text}
use Rattle.texts.proofs.Laws.{prints_none, prints_cat}
use Rattle.texts.proofs.Page.put_further.Goals as goal

pub returns-then-n-ne0 : goal.returns-then-n-ne0
unfolding further_text
returns-then-n-ne0 c = rw (ne_eqb _ _ c.if-n-ne0.true) (prints_cat c.put_byte.ensures c.put_decimal.ensures)

pub returns-else-n-ne0 : goal.returns-else-n-ne0
unfolding further_text
returns-else-n-ne0 c = rw (eq-eqb _ _ c.if-n-ne0.false) prints_none
