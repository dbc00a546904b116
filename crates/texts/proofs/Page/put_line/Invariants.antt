-- The invariant of `texts::Page::put_line`: the first i items are put behind the place. Assumes nothing.
use Rattle.texts.specs.Page.{Prints}
use Rattle.texts.specs.Texts.{each}
use Rattle.texts.specs.Items.{item_text}
use Rattle.texts.proofs.Page.put_line.Given as goal

abbrev pub invariant-loop-i : goal.invariant-loop-i
invariant-loop-i l = Prints (each (item_text l.item l.area l.place) l.i) l.initial.self l.self
