-- `code_receive::serve` meets its contract. Assumes nothing.
use Rattle.std.proofs.Common.{◌≡◌, ◌<◌, ◌≤◌, refl, sym, arith}
use mathlib.Core.Logic.{⊎_elim}
use Rattle.memory.proofs.Laws.{below_or_not}
use Rattle.receive.specs.Begin.{begin}
use Rattle.receive.specs.Buffer.{buffer}
use Rattle.receive.specs.End.{close, lack}
use Rattle.receive.specs.Service.{service}
use Rattle.phases.specs.Phases.{ru_tag, ru_of, word_of}
use Rattle.packed.proofs.Laws.{ru_of_lem, ru_tag_below}
use Rattle.packed.proofs.Words.{held_back, filling_back}
use Rattle.code_receive.proofs.Laws.{none_raised, unserved}
use Rattle.code_receive.proofs.serve.Goals as goal

pub returns-then-unit-lt-HELD : goal.returns-then-unit-lt-HELD
returns-then-unit-lt-HELD c u h =
    let l : ru_tag u < 4 = omega (arith, h.tag_is, c.if-unit-lt-HELD.true) in
    rw (unserved c.args.base c.args.scb u c.args.holding.now c.args.memory.now l) (record { unit = h; raised = none_raised; memory = refl })

pub returns-in-4 : goal.returns-in-4
unfolding service begin ru_of word_of
returns-in-4 c u h =
    let g = rw c.in-4.is at h in
    let v = sym (ru_of_lem u 4 _ _ g) in
    rw v (c.begin.ensures (held_back 4 _ _ _ _ _ (rw v at g)))

pub returns-in-5 : goal.returns-in-5
unfolding service buffer ru_of word_of
returns-in-5 c u h =
    let g = rw c.in-5.is at h in
    let v = sym (ru_of_lem u 5 _ _ g) in
    rw v (c.buffer.ensures (filling_back 5 _ _ _ _ (rw v at g)))

pub returns-in_default : goal.returns-in_default
unfolding service close lack ru_of word_of
returns-in_default c u h =
    let a = c.args in
    ⊎_elim
    (λ (l : a.unit.tag < 7).
    let e : a.unit.tag ≡ 6 = omega arith in
    let v = sym (ru_of_lem u 6 a.unit.word a.unit.rest (rw e at h)) in
    rw v (rw e at (c.end.ensures (ru_of 6 (word_of a.unit.word) a.unit.rest))))
    (λ (l : 7 ≤ a.unit.tag).
    let e : a.unit.tag ≡ 7 = omega (arith, h.tag_is, ru_tag_below u) in
    let v = sym (ru_of_lem u 7 a.unit.word a.unit.rest (rw e at h)) in
    rw v (rw e at (c.end.ensures (ru_of 7 (word_of a.unit.word) a.unit.rest))))
    (below_or_not a.unit.tag 7)
