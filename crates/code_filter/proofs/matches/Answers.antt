-- `code_filter::matches` meets its contract, clause by clause. Assumes nothing.
use Rattle.std.proofs.Common.{sym, ◌∙◌, arith}
use borrow.Author.Tests.{eqb-true, eqb-false}
use Rattle.filter.proofs.Laws.{by_promiscuous, by_no_address, by_broadcast, by_own_address, by_the_filter}
use Rattle.code_filter.proofs.Laws.{own_is}
use Rattle.code_filter.proofs.Destination.{of_front}
use Rattle.code_filter.proofs.matches.Goals as goal

pub returns-then-promiscuous : goal.returns-then-promiscuous
returns-then-promiscuous c s f h g e =
    of_front s.settings s.own s.filter _ f _ g e
    (sym (by_promiscuous s.settings s.own s.filter _ (sym (c.promiscuous.ensures s h) ∙ c.if-promiscuous.true)))

pub returns-then-is_empty : goal.returns-then-is_empty
returns-then-is_empty c s f h g e =
    of_front s.settings s.own s.filter _ f _ g e
    (sym (by_no_address s.settings s.own s.filter _ (sym g ∙ eqb-true _ _ (sym c.is_empty.ensures ∙ c.if-is_empty.true)) ∙ sym (c.promiscuous.ensures s h) ∙ c.if-promiscuous.false))

pub returns-then-is_broadcast : goal.returns-then-is_broadcast
returns-then-is_broadcast c s f h g e =
    let p = sym (c.promiscuous.ensures s h) ∙ c.if-promiscuous.false in
    let o = rw g at (sym c.is_broadcast.ensures ∙ c.if-is_broadcast.true) in
    of_front s.settings s.own s.filter _ f _ g e
    (rw (c.no_broadcast.ensures s h) (sym (by_broadcast s.settings s.own s.filter _ p (rw (← g) (omega (arith, eqb-false _ _ (sym c.is_empty.ensures ∙ c.if-is_empty.false)))) o)))

pub returns-then-is_own : goal.returns-then-is_own
returns-then-is_own c s f h g e =
    let o = rw g at (sym c.is_broadcast.ensures ∙ c.if-is_broadcast.false) in
    let w = rw g at (sym (own_is s _ h _ _ (omega arith)) ∙ sym c.is_own.ensures ∙ c.if-is_own.true) in
    of_front s.settings s.own s.filter _ f _ g e
    (sym (by_own_address s.settings s.own s.filter _ o w))

pub returns-then-is_group : goal.returns-then-is_group
returns-then-is_group c s f h g e =
    let p = sym (c.promiscuous.ensures s h) ∙ c.if-promiscuous.false in
    let o = rw g at (sym c.is_broadcast.ensures ∙ c.if-is_broadcast.false) in
    let w = rw g at (sym (own_is s _ h _ _ (omega arith)) ∙ sym c.is_own.ensures ∙ c.if-is_own.false) in
    of_front s.settings s.own s.filter _ f _ g e
    (rw (by_the_filter s.settings s.own s.filter c.args.destination.now p o w, ← c.is_group.ensures, c.if-is_group.true, ← g) (c.is_filtered.ensures s h))

pub returns : goal.returns
returns c s f h g e =
    let p = sym (c.promiscuous.ensures s h) ∙ c.if-promiscuous.false in
    let o = rw g at (sym c.is_broadcast.ensures ∙ c.if-is_broadcast.false) in
    let w = rw g at (sym (own_is s _ h _ _ (omega arith)) ∙ sym c.is_own.ensures ∙ c.if-is_own.false) in
    of_front s.settings s.own s.filter _ f _ g e
    (rw (by_the_filter s.settings s.own s.filter c.args.destination.now p o w, ← c.is_group.ensures, c.if-is_group.false))
