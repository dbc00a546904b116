-- `texts::Page::put_answer` meets its contract: its eight parts. Assumes nothing.
use Rattle.std.proofs.Common.{◌≡◌, ℕ, ◌/◌, ◌%◌, ◌^◌, arith}
use Rattle.scb.specs.Words.{bits_at}
use Rattle.texts.specs.Texts.{answer_text}
use Rattle.texts.proofs.Laws.{prints_cat}
use Rattle.texts.proofs.Page.put_answer.Goals as goal

low_word : (n : ℕ) → n / 2 ^ 0 % 2 ^ 16 ≡ n % 65536
low_word n = omega arith

pub returns : goal.returns
unfolding answer_text bits_at
returns c =
    rw (low_word c.args.answer, ← c.reason_word.ensures)
    (prints_cat
    (prints_cat
    (prints_cat
    (prints_cat
    (prints_cat (prints_cat (prints_cat c.put_decimal.ensures c.put_byte.ensures) c.put_decimal-2.ensures) c.put_byte-2.ensures)
    c.put_decimal-3.ensures)
    c.put_further.ensures)
    c.put_text.ensures)
    c.put_byte-3.ensures)
