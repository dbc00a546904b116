-- `numerals::put` meets its contract. Assumes nothing.
use Rattle.std.proofs.Common.{◌≡◌, ◌+◌, ◌-◌, ◌∙◌, arith}
use Rattle.memory.specs.Memory.{digits}
use Rattle.memory.proofs.Laws.{part_put}
use Rattle.memory.proofs.Fields.{length_digits}
use Rattle.numerals.proofs.Laws.{low_bytes}
use Rattle.numerals.proofs.put.Goals as goal

pub returns : goal.returns
returns g c =
    let n : c.args.at + g.row.N - c.args.at ≡ g.row.N = omega arith in
    let bytes : c.copy_from_slice.new.self ≡ digits g.row.N c.args.v =
    c.copy_from_slice.ensures.after ∙ rw c.to_le_bytes.ensures (low_bytes g.row.N c.args.v c.requires.number) in
    rw (bytes, n) (part_put c.args.r.now c.args.at g.row.N (digits g.row.N c.args.v) (length_digits g.row.N c.args.v) c.requires.lies)
