-- `code_receive::begin` meets its contract. Assumes nothing.
use Rattle.std.proofs.Common.{◌∙◌, ap}
use Rattle.memory.specs.declared.Offset.{Offset}
use Rattle.receive.specs.Begin.{begin}
use Rattle.code_receive.proofs.Laws.{offset_is, none_raised}
use Rattle.code_receive.proofs.begin.Goals as goal

pub returns : goal.returns
unfolding begin
returns c h =
    let o = offset_is _ _ c.at_of-fd.ensures in
    let p = rw o at c.place.ensures in
    let q = rw o at c.place-2.ensures in
    let z = rw o at c.place-3.ensures in
    record {
      unit = rw (← p, ← c.word_at-control.ensures, ← q, ← ap (λ (x : Offset). x.0) c.offset_at-first.ensures) (c.to_first.ensures.unit h);
      raised = c.to_first.ensures.raised ∙ none_raised;
      memory = rw (← z) c.put_word.ensures;
    }
