-- `packed::cu::begun_of` meets its contract. Assumes nothing.
use native.Mathlib.Omega.{arith}
use Rattle.packed.proofs.Words.{begun_in_lem}
use Rattle.packed.proofs.cu.begun_of.Statement.{statement}
use Rattle.packed.proofs.cu.begun_of.Tie as tie

pub begun_of_spec : {M : Type 1} → statement M
begun_of_spec =
    tie.close
    (tie.spec
    (λ c. (omega arith, begun_in_lem c.args.n)))
