-- `numerals::read` meets its contract: the bytes that are read stand before zeros. Assumes nothing.
use Rattle.std.proofs.Common.{◌≡◌, ◌+◌, ◌-◌, length, take, drop, length-drop, length-take-le, ◌∙◌, arith}
use Rattle.numerals.specs.Places.{field}
use Rattle.numerals.proofs.Laws.{from_run, padded}
use Rattle.numerals.proofs.read.Goals as goal

pub returns : goal.returns
unfolding field
returns g c =
    let n : c.args.at + g.row.N - c.args.at ≡ g.row.N = omega arith in
    let part : length (take g.row.N (drop c.args.at c.args.r.now)) ≡ g.row.N =
    length-take-le g.row.N (drop c.args.at c.args.r.now) (simp length-drop (omega (arith, c.requires.lies))) in
    c.from_le_bytes.ensures
    ∙ rw (c.copy_from_slice.ensures.after, n, from_run c.args.r.now c.args.at g.row.N c.requires.lies)
    (padded (take g.row.N (drop c.args.at c.args.r.now)) g.row.N c.requires.number part)
