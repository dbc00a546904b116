-- `texts::Page::put_interrupt` meets its contract, with either text. Assumes nothing.
use Rattle.texts.specs.Texts.{interrupt_text}
use Rattle.texts.proofs.Page.put_interrupt.Goals as goal
use Rattle.texts.proofs.Page.put_interrupt.Goals.{then-high, else-high}

pub returns : goal.returns
unfolding interrupt_text
returns c =
    elim c.if-high.branch [
      | then-high w ↦ rw w.if-high.true (rw w.put_text-is at c.put_text.ensures)
      | else-high w ↦ rw w.if-high.false (rw w.put_text-is at c.put_text.ensures)
    ]
