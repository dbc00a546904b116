-- `faults::put_fault` meets its contract: its seven parts. Assumes nothing.
use Rattle.faults.specs.Faults.{fault_text}
use Rattle.texts.proofs.Laws.{prints_cat}
use Rattle.faults.proofs.put_fault.Goals as goal

pub returns : goal.returns
unfolding fault_text
returns c =
    rw (← c.expected.ensures)
    (prints_cat
    (prints_cat
    (prints_cat
    (prints_cat
    (prints_cat (prints_cat c.put_text.ensures c.put_decimal.ensures) c.put_text-2.ensures)
    c.put_decimal-2.ensures)
    c.put_text-3.ensures)
    c.put_text-4.ensures)
    c.put_byte.ensures)
