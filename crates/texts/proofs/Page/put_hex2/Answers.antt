-- `texts::Page::put_hex2` meets its contract: one digit behind the other. Assumes nothing.
use Rattle.texts.proofs.Laws.{prints_cat, prints_is, hex_two}
use Rattle.texts.proofs.Page.put_hex2.Goals as goal

pub returns : goal.returns
returns c =
    prints_is (hex_two c.args.b _ _ c.hex_digit.ensures c.hex_digit-2.ensures) (prints_cat c.put_byte.ensures c.put_byte-2.ensures)
