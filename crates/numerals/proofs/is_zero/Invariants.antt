-- `numerals::is_zero` meets its contract. The invariant: what is joined is zero exactly if the first i words are. Assumes nothing.
use Rattle.std.proofs.Common.{◌≡◌, ◌*◌, eqb}
use Rattle.numerals.specs.Places.{field}
use Rattle.numerals.proofs.is_zero.Given as goal

abbrev pub invariant-loop-i : goal.invariant-loop-i
invariant-loop-i l = eqb l.joined 0 ≡ eqb (field l.r l.at (l.i * 8)) 0
