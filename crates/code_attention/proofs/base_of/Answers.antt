-- `code_attention::base_of` meets its contract: three bytes stay below 2 to the 24th. Assumes nothing.
use Rattle.std.proofs.Common.{arith}
use Rattle.memory.proofs.Bytes.{field_bound}
use Rattle.code_attention.proofs.base_of.Goals as goal

pub returns : goal.returns
returns c = (
  rw c.beyond.ensures at c.real_at.ensures,
  rw c.real_at.ensures (field_bound c.args.memory.now c.beyond.result.0 3 (record { each = λ i. omega (arith, c.type_inv.memory i) })),
)
