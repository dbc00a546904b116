-- `packed::ru::held` meets its contract. Assumes nothing.
use Rattle.packed.proofs.Words.{held_word}
use borrow.Author.Rules.{rules}
use Rattle.packed.proofs.ru.held.Statement.{statement}
use Rattle.packed.proofs.ru.held.Tie as tie

pub held_spec : {M : Type 1} → statement M
held_spec =
    tie.close
    (tie.spec
    (λ c. search rules)
    (λ c o g e l w. held_word c.args.f c.args.n o g e l w))
