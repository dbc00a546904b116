-- `texts::Page::put_stretch` meets its contract: the lines one behind the other. Assumes nothing.
use Rattle.std.proofs.Common.{◌≡◌, rules, ap, arith, ◌+◌, ◌*◌, ◌/◌, ◌%◌, min}
use Rattle.texts.specs.Texts.{each}
use Rattle.texts.specs.Items.{line, per_line}
use Rattle.texts.proofs.Laws.{prints_none, prints_is, prints_more, row, stretch_is}
use Rattle.texts.proofs.Page.put_stretch.Goals as goal

pub loop-k-init : goal.loop-k-init
unfolding each
loop-k-init c = prints_none

pub loop-k-preserved : goal.loop-k-preserved
loop-k-preserved c =
    prints_more (row c.args.item c.args.area.now c.args.place c.args.count) c.loop-k.k c.loop-k.invariant
    (prints_is (ap (line c.args.item c.args.area.now (c.args.place + 16 * c.loop-k.k)) (rw c.per_line-most.ensures at c.min-here.ensures))
    c.put_line.ensures)

pub returns : goal.returns
returns c =
    let all : c.loop-k.k ≡ c.div_ceil-k-end.result = omega arith in
    let lines : c.loop-k.k ≡ c.args.count / per_line c.args.item + min 1 (c.args.count % per_line c.args.item) =
    rw (all, ← c.per_line-most.ensures) c.div_ceil-k-end.ensures in
    let whole = prints_is (stretch_is c.args.item c.args.area.now c.args.place c.args.count c.loop-k.k lines) c.loop-k.invariant in
    search rules
