-- `code_receive::error_bits` meets its contract. Assumes nothing.
use Rattle.std.proofs.Common.{arith}
use Rattle.phases.specs.Phases.{word_of}
use Rattle.code_receive.proofs.Laws.{set_if, set_at_most}
use Rattle.code_receive.proofs.error_bits.Goals as goal

pub returns : goal.returns
unfolding word_of
returns c = (
  rw (← c.verdict.ensures, ← c.short.ensures, ← c.verdict_bit.ensures.0, c.from.ensures, c.from-2.ensures, set_if 512 c.args.lacking, set_if 128 c.short.result),
  omega (arith, c.verdict_bit.ensures.1, c.from.ensures, c.from-2.ensures, set_at_most c.args.lacking, set_at_most c.short.result),
)
