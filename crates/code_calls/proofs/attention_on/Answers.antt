-- `code_calls::attention_on` meets its contract. Assumes nothing.
use Rattle.std.proofs.Common.{ℕ, Fits, w8, get_or, rules, Bool, refl, sym, ap, ◌∙◌, arith}
use Rattle.memory.proofs.Bytes.{Bytes}
use Rattle.image.specs.Image.{device_at}
use Rattle.chip.specs.Attention.{attention_of}
use Rattle.device.specs.Answers.{answered}
use Rattle.calls.specs.Calls.{answer_number}
use Rattle.chip.proofs.Answers.{attention_plain}
use Rattle.code_calls.proofs.Laws.{lent_device, put_back}
use Rattle.code_calls.proofs.attention_on.Goals as goal

pub returns : goal.returns
unfolding attention_of
returns c h out u f =
    let r = c.args.kept.now in
    let fits : (i : ℕ) → Fits w8 (get_or r i 0) = search rules in
    let b : Bytes r = record { each = λ i. omega (arith, fits i) } in
    let lent = rw c.unwrap-setup.ensures at c.last_chunk_mut.ensures.cases in
    let e = lent_device r c.args.k u c.requires b f _ lent.1.same in
    let a = c.attend-a.ensures (device_at r u) e.units e.setup in
    record {
      answer =
          c.answer_of.ensures ∙ ap (λ (x : Bool). answer_number (answered 0 x)) a.edge
          ∙ ap answer_number (sym (attention_plain (device_at r u) c.args.memory.now));
      memory = a.memory;
      holding = refl;
      outgoing = refl;
      kept = c.store.ensures ∙ put_back r c.args.k u c.requires b f _ _ _ (record { units = a.packed; setup = a.setup });
    }
