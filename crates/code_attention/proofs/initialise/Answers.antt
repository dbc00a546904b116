-- `code_attention::initialise` meets its contract. Assumes nothing.
use Rattle.attention.specs.Attention.{initial_events, initialise}
use Rattle.code_attention.proofs.States.{initial_bits}
use Rattle.code_attention.proofs.initialise.Goals as goal

pub returns : goal.returns
unfolding initialise
returns c d h = record {
  packed =
      rw (c.base_of-base.ensures.0, c.offset_at-scb.ensures, c.beyond.ensures, c.iscp_of-iscp.ensures)
      at (c.initialised_at.ensures d.units initial_events c.base_of-base.ensures.1 h initial_bits);
  memory =
      rw (c.base_of-base.ensures.0, c.offset_at-scb.ensures, c.beyond.ensures, c.iscp_of-iscp.ensures) at c.initial_writes.ensures;
}
