-- `copies::at_once` meets its contract. Assumes nothing.
use Rattle.std.proofs.Common.{arith}
use Rattle.memory.proofs.Bytes.{Bytes}
use Rattle.copies.proofs.Overlaid.{as_number}
use Rattle.copies.proofs.at_once.Goals as goal

pub returns : goal.returns
returns g c =
    let b : Bytes c.args.src.now = record { each = λ i. omega (arith, c.type_inv.src i) } in
    cc (as_number c.args.src.now c.args.from g.row.N b c.requires.2)
