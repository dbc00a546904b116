-- `texts::Page::put_place` meets its contract: only the last four digits show. Assumes nothing.
use Rattle.texts.proofs.Laws.{prints_cat, hex_place}
use Rattle.texts.proofs.Page.put_place.Goals as goal

pub returns : goal.returns
returns c = rw (← hex_place c.args.place) (prints_cat c.put_hex4.ensures c.put_byte.ensures)
