-- `texts::Page::put_decimal` meets its contract: one digit, or the last one behind the others. Assumes nothing.
use Rattle.texts.proofs.Laws.{prints_cat, prints_is, decimal_one, decimal_more}
use Rattle.texts.proofs.Page.+put_decimal.Goals as goal
use Rattle.texts.proofs.Page.+put_decimal.Goals.{then-n-ge10, else-n-ge10}

pub returns : goal.returns
returns t c =
    elim c.if-n-ge10.branch [
      | then-n-ge10 w ↦ prints_is (decimal_more c.args.n w.if-n-ge10.true) (prints_cat (rw w.self-is w.put_decimal.ensures) c.put_byte.ensures)
      | else-n-ge10 w ↦ prints_is (decimal_one c.args.n w.if-n-ge10.false) (rw w.self-is at c.put_byte.ensures)
    ]
