-- `code_receive::buffer` meets its contract. Assumes nothing.
use Rattle.std.proofs.Common.{◌≡◌, ◌%◌, ◌-◌, ◌^◌, ◌∙◌, ap, arith}
use Rattle.std.specs.Prelude.{min}
use Rattle.memory.specs.declared.Offset.{Offset}
use Rattle.memory.specs.declared.RealAddress.{RealAddress}
use Rattle.receive.specs.Buffer.{buffer, descriptor_at}
use Rattle.phases.specs.Fields.{size_in, filled_in}
use Rattle.phases.specs.Phases.{word_of}
use Rattle.code_receive.proofs.Laws.{offset_is, el_is, size_is, none_raised}
use Rattle.code_receive.proofs.buffer.Goals as goal

pub returns : goal.returns
unfolding buffer descriptor_at word_of
returns c h =
    let o = offset_is _ _ c.next_of-o.ensures in
    let p = rw o at c.place.ensures in
    let q = rw o at c.place-2.ensures in
    let t = rw o at c.place-3.ensures in
    let z = rw o at c.place-4.ensures in
    let word = c.word_at-word.result in
    let g = c.filled-filled.ensures in
    let k : c.count_into-count.result ≡ min (word % 2 ^ 14) (size_in c.args.n - filled_in c.args.rest) = rw (c.size_of.ensures, g) at c.count_into-count.ensures in
    let cut : c.count_into-count.result % 2 ^ 14 ≡ c.count_into-count.result = omega (arith, k) in
    let f = rw (cut, c.size_of-2.ensures) at c.filled_word-mark.ensures in
    let el = el_is word (omega (arith, c.word_at-word.type_inv)) in
    record {
      unit = rw (← p, ← c.word_at-word.ensures, ← el, ← size_is word, ← k, ← q, ← ap (λ (x : Offset). x.0) c.offset_at-next.ensures, ← g, ← c.used.ensures) (c.after_buffer.ensures.unit h);
      raised = c.after_buffer.ensures.raised ∙ none_raised;
      memory = rw (← p, ← c.word_at-word.ensures, ← size_is word, ← k, ← t, ← ap (λ (x : RealAddress). x.0) c.real_at-to.ensures, ← g, ← c.copy_in.ensures, ← f, ← z) c.put_word.ensures;
    }
