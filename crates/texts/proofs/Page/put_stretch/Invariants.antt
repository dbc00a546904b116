-- The invariant of `texts::Page::put_stretch`: the first k lines are put. Assumes nothing.
use Rattle.texts.specs.Page.{Prints}
use Rattle.texts.specs.Texts.{each}
use Rattle.texts.proofs.Laws.{row}
use Rattle.texts.proofs.Page.put_stretch.Given as goal

abbrev pub invariant-loop-k : goal.invariant-loop-k
invariant-loop-k l = Prints (each (row l.item l.area l.place l.count) l.k) l.initial.page l.page
