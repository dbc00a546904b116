-- `code_filter::is_broadcast` meets its contract: four bytes at once, or each byte. Assumes nothing.
use Rattle.std.proofs.Common.{◌≡◌, length, sym, ◌∙◌, rules, tests, arith}
use Rattle.std.proofs.lemmas.Iterator.{cases_from_all, YieldsList-from_slice}
use Rattle.memory.proofs.Bytes.{Bytes}
use Rattle.code_filter.proofs.AtOnce.{first_other, last_ones, ones_told}
use Rattle.code_filter.proofs.is_broadcast.Goals as goal

pub returns-then-read-eq-ONES_AT_ONCE : goal.returns-then-read-eq-ONES_AT_ONCE
returns-then-read-eq-ONES_AT_ONCE c =
    let f = c.args.destination.now in
    let y : Bytes f = record { each = λ i. omega (arith, c.type_inv.destination i) } in
    rw c.read-then-read-eq-ONES_AT_ONCE.ensures
    (last_ones f y (length f) c.if-l-ge-AT_ONCE.true (omega arith) (sym c.read.ensures ∙ c.if-read-eq-ONES_AT_ONCE.true))

pub returns-then-l-ge-AT_ONCE : goal.returns-then-l-ge-AT_ONCE
returns-then-l-ge-AT_ONCE c =
    let f = c.args.destination.now in
    let y : Bytes f = record { each = λ i. omega (arith, c.type_inv.destination i) } in
    first_other f y (length f) c.if-l-ge-AT_ONCE.true (omega arith) (λ e. c.if-read-eq-ONES_AT_ONCE.false (c.read.ensures ∙ e))

pub returns : goal.returns
returns c =
    let f = c.args.destination.now in
    ones_told f c.all.result
    (cases_from_all _ _ _ (λ x. x ≡ 255) (λ x. x ≡ 255 → ⊥) c.all.ensures.ran (YieldsList-from_slice f cc)
    (λ x q k. search (rules, tests)) (λ x q k. search (rules, tests)))
