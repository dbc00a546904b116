-- `code_filter::is_own` meets its contract: four bytes at once, or one by one, where the first i agree. Assumes nothing.
use Rattle.std.proofs.Common.{rules, length, sym, ◌∙◌, arith}
use Rattle.memory.proofs.Bytes.{Bytes}
use Rattle.packed.specs.SetUp.{own_at}
use Rattle.code_filter.proofs.Laws.{agree_none, agree_more, differs}
use Rattle.code_filter.proofs.AtOnce.{first_differs, last_decides}
use Rattle.code_filter.proofs.is_own.Goals as goal

pub returns-then-read : goal.returns-then-read
returns-then-read c =
    let b = c.args.setup.now in
    let f = c.args.destination.now in
    let x : Bytes b = record { each = λ i. search rules } in
    let y : Bytes f = record { each = λ i. search rules } in
    rw (c.read-then-read.ensures, c.read-then-read-2.ensures)
    (last_decides b own_at f x y (length f) c.if-l-ge-AT_ONCE.true (omega arith)
    (sym c.read.ensures ∙ c.if-read.true ∙ c.read-then-l-ge-AT_ONCE.ensures))

pub returns-then-l-ge-AT_ONCE : goal.returns-then-l-ge-AT_ONCE
returns-then-l-ge-AT_ONCE c =
    let b = c.args.setup.now in
    let f = c.args.destination.now in
    let x : Bytes b = record { each = λ i. search rules } in
    let y : Bytes f = record { each = λ i. search rules } in
    first_differs b own_at f x y (length f) c.if-l-ge-AT_ONCE.true (omega arith)
    (λ e. c.if-read.false (c.read.ensures ∙ e ∙ sym c.read-then-l-ge-AT_ONCE.ensures))

pub loop-i-init : goal.loop-i-init
loop-i-init c = agree_none _ _ _

pub returns-then-destination-i : goal.returns-then-destination-i
returns-then-destination-i c = sym (differs _ own_at _ _ _ c.loop-i-test.true c.if-destination-i.true)

pub loop-i-preserved : goal.loop-i-preserved
loop-i-preserved c = agree_more _ own_at _ c.loop-i.i c.loop-i.invariant c.if-destination-i.false
