-- `packed::setup::filter` meets its contract. Assumes nothing.
use Rattle.std.proofs.Common.{◌∙◌}
use Rattle.packed.proofs.SetUps.{filter_is}
use Rattle.packed.proofs.setup.filter.Goals as goal

pub returns : goal.returns
returns c = λ s h. c.read.ensures ∙ filter_is s _ h
