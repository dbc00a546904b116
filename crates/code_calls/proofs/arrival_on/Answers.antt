-- `code_calls::arrival_on` meets its contract. Assumes nothing.
use Rattle.std.proofs.Common.{ℕ, Fits, w8, get_or, rules, refl, sym, ap, ◌∙◌, arith}
use Rattle.memory.proofs.Bytes.{Bytes}
use Rattle.image.specs.Image.{device_at}
use Rattle.chip.specs.Arrival.{arrival_of}
use Rattle.calls.specs.Calls.{answer_number}
use Rattle.code_calls.proofs.Laws.{lent_device, put_numbers}
use Rattle.code_calls.proofs.arrival_on.Goals as goal

pub returns : goal.returns
unfolding arrival_of
returns c out u f =
    let r = c.args.kept.now in
    let fits : (i : ℕ) → Fits w8 (get_or r i 0) = search rules in
    let b : Bytes r = record { each = λ i. omega (arith, fits i) } in
    let lent = rw c.unwrap-setup.ensures at c.last_chunk.ensures.cases in
    let e = lent_device r c.args.k u c.requires b f _ lent.1.same in
    let a = c.arrival-a.ensures (device_at r u) out e in
    record {
      answer = c.answer_of.ensures ∙ ap answer_number (sym a.answer);
      memory = a.memory;
      holding = a.holding;
      outgoing = refl;
      kept = c.store.ensures ∙ put_numbers r c.args.k u c.requires b f _ _ _ lent.1.same a.device;
    }
