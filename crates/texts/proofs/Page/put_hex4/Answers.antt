-- `texts::Page::put_hex4` meets its contract: two digits behind two. Assumes nothing.
use Rattle.texts.proofs.Laws.{prints_cat, prints_is, hex_four}
use Rattle.texts.proofs.Page.put_hex4.Goals as goal

pub returns : goal.returns
returns c =
    prints_is (rw c.to_be_bytes.ensures (hex_four c.args.w)) (prints_cat c.put_hex2.ensures c.put_hex2-2.ensures)
