-- `code_attention::renew` meets its contract. Assumes nothing.
use Rattle.memory.specs.Memory.{digits}
use Rattle.phases.specs.Forms.{form_number}
use Rattle.packed.specs.SetUp.{setup_bytes}
use Rattle.code_attention.proofs.renew.Goals as goal

pub returns : goal.returns
unfolding setup_bytes digits form_number
returns c = rw (c.fill.ensures.after (λ y e. e))
