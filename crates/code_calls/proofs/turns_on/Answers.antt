-- `code_calls::turns_on` meets its contract. Assumes nothing.
use Rattle.std.proofs.Common.{ℕ, Fits, w8, get_or, rules, ◌∙◌, arith}
use Rattle.memory.proofs.Bytes.{Bytes}
use Rattle.image.specs.Image.{device_at}
use Rattle.chip.specs.World.{world_of}
use Rattle.code_calls.proofs.Laws.{lent_device, put_back, run_answer, run_holding}
use Rattle.code_calls.proofs.turns_on.Goals as goal

pub returns : goal.returns
returns c u f =
    let r = c.args.kept.now in
    let w = world_of (device_at r u) c.args.memory.now c.args.holding.now c.args.outgoing.now in
    let fits : (i : ℕ) → Fits w8 (get_or r i 0) = search rules in
    let b : Bytes r = record { each = λ i. omega (arith, fits i) } in
    let lent = rw c.unwrap-setup.ensures at c.last_chunk_mut.ensures.cases in
    let e = lent_device r c.args.k u c.requires.0 b f _ lent.1.same in
    let t = c.run-t.ensures (device_at r u) e in
    record {
      answer = c.answer_told.ensures ∙ run_answer c.args.budget w c.args.report c.args.unit _ _ t.told t.taken;
      memory = t.memory;
      holding = run_holding c.args.budget w c.args.report;
      outgoing = t.outgoing;
      kept = c.store.ensures ∙ put_back r c.args.k u c.requires.0 b f _ _ _ t.device;
    }
