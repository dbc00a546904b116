-- `Stretches::next` meets its contract: at most one line ends in a stretch. Assumes nothing.
use Rattle.std.proofs.Common.{◌≡◌, rules, of_calls, arith, eqb, false, subst}
use Rattle.std.proofs.lemmas.Grind.{common_steps}
use Rattle.std.proofs.lemmas.Fn.{always_returns_same}
use Rattle.std.specs.List.{AllWithin}
use Rattle.stretches.proofs.Cuts.{one_line}
use Rattle.stretches.proofs.StretchesIterator.next.Goals as goal

pub returns-clause-steps : goal.returns-clause-steps
returns-clause-steps c =
    let h = c.in_ok-stretch.ensures.steps in
    let k = h.1.2 (λ x. eqb x 10) (always_returns_same _ _ _ (λ a r f q. search (rules, of_calls))) in
    let others = subst (λ ys. AllWithin (λ x. eqb x 10 ≡ false) ys 0 h.1.0) h.0 k.1.0 in
    (let e = h.0 in grind (arith, common_steps), search rules, one_line c.in_ok-stretch.stretch.now _ h.1.0 others (omega (arith, h.1.1)))
