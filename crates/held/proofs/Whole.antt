-- Demand 3, second half, over states, as the customer says it. Assumes nothing.
use Rattle.std.proofs.Common.{lit≤}
use Rattle.held.specs.Held.{Within}
use Rattle.held.proofs.Held.{within}

-- demand 3: a held frame is stored or counted within 132 turns
pub held_frame : Within 132
held_frame = within _ (lit≤ tt)
