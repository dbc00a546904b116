-- `code_attention::acknowledge` meets its contract: what is cleared, and what is left, are together what stood. Assumes nothing.
use Rattle.std.proofs.Common.{arith}
use Rattle.scb.specs.Words.{acknowledged}
use Rattle.code_attention.proofs.Cleared.{cleared}
use Rattle.code_attention.proofs.acknowledge.Goals as goal

pub returns : goal.returns
returns c u h =
    c.without_events.ensures u (acknowledged u.events c.args.command) h
    (cleared u.events c.args.command (omega (arith, c.ranges.command.fits)))
