-- `memory::real_at` meets its contract: a word, then the low byte of the next word. Assumes nothing.
use Rattle.std.proofs.Common.{◌≡◌, ◌+◌, ◌*◌, ◌%◌, arith}
use Rattle.memory.specs.Memory.{real_at}
use Rattle.memory.proofs.Fields.{field_more}
use Rattle.memory.proofs.real_at.Goals as goal

pub returns : goal.returns
returns c =
    let low = c.word_at-low.result in
    let high = c.byte_behind-high.result in
    let e : low + high * 65536 % 4294967296 ≡ real_at c.args.m.now c.args.a.0 =
    omega (arith, field_more c.args.m.now c.args.a.0 2, c.word_at-low.ensures, c.byte_behind-high.ensures, c.byte_behind-high.type_inv) in
    cc
