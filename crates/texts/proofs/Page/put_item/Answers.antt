-- `texts::Page::put_item` meets its contract: a blank and two digits, or four. Assumes nothing.
use Rattle.std.proofs.Common.{◌≡◌, ◌+◌, ◌*◌, arith}
use Rattle.texts.specs.Texts.{byte_text, word_text}
use Rattle.texts.proofs.Laws.{prints_cat}
use Rattle.texts.proofs.Page.put_item.Goals as goal

pub returns-in-Byte : goal.returns-in-Byte
unfolding byte_text
returns-in-Byte c = rw (c.in-Byte.is, ← c.byte_behind.ensures) (prints_cat c.put_byte.ensures c.put_hex2.ensures)

pub returns-in-Word : goal.returns-in-Word
unfolding word_text
returns-in-Word c =
    let e : c.from_le_bytes.result ≡ c.byte_behind-low.result + 256 * c.byte_behind-high.result = omega arith in
    rw (c.in-Word.is, ← c.byte_behind-low.ensures, ← c.byte_behind-high.ensures, ← e) (prints_cat c.put_byte.ensures c.put_hex4.ensures)
