-- The loop of `code_filter::is_own`: the first i bytes agree. Assumes nothing.
use Rattle.std.proofs.Common.{◌≡◌, true}
use Rattle.filter.specs.Match.{agree}
use Rattle.packed.specs.SetUp.{own_at}
use Rattle.code_filter.proofs.is_own.Given as goal

abbrev pub invariant-loop-i : goal.invariant-loop-i
invariant-loop-i l = agree l.setup own_at l.destination l.i ≡ true
