-- `copies::ends` meets its contract: the first and the last bytes are all of them. Assumes nothing.
use Rattle.copies.proofs.Overlaid.{two_runs}
use Rattle.copies.proofs.ends.Goals as goal

pub returns : goal.returns
returns g c =
    cc
    (two_runs c.args.dst.now c.args.src.now c.args.to c.args.from c.args.k g.row.N
    c.requires.number.2 c.requires.number.3 c.requires.lie.1)
