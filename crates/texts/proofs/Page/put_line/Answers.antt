-- `texts::Page::put_line` meets its contract: the place, the items one behind the other, and the line's end. Assumes nothing.
use Rattle.std.proofs.Common.{◌≡◌, arith}
use Rattle.texts.specs.Texts.{each}
use Rattle.texts.specs.Items.{item_text}
use Rattle.texts.proofs.Laws.{prints_none, prints_cat, prints_is, prints_more, line_is}
use Rattle.texts.proofs.Page.put_line.Goals as goal

pub loop-i-init : goal.loop-i-init
unfolding each
loop-i-init c = prints_none

pub loop-i-preserved : goal.loop-i-preserved
loop-i-preserved c =
    prints_more (item_text c.args.item c.args.area.now c.args.place) c.loop-i.i c.loop-i.invariant c.put_item.ensures

pub returns : goal.returns
returns c =
    let all : c.loop-i.i ≡ c.args.n = omega arith in
    prints_is (line_is c.args.item c.args.area.now c.args.place c.args.n)
    (prints_cat (prints_cat c.put_place.ensures (rw all at c.loop-i.invariant)) c.put_byte.ensures)
