-- `code_filter::is_filtered` meets its contract. Assumes nothing.
use Rattle.std.proofs.Common.{◌/◌, ◌^◌, length, arith}
use lib.Seq.{take_all}
use lib.Bits.{and_mask}
use Rattle.scb.specs.Words.{bits_at}
use Rattle.code_filter.proofs.is_filtered.Goals as goal

pub returns : goal.returns
unfolding bits_at
returns c s h = rw (and_mask (c.filter.result / 2 ^ c.hash_of.result) 1, c.filter.ensures s h, c.hash_of.ensures.1, take_all (length c.args.destination.now) c.args.destination.now (omega arith))
