-- `hash::select` meets its contract: it computes `selected_in`. Assumes nothing.
use Rattle.std.proofs.Common.{refl, ◌∙◌, ap}
use Rattle.hash.specs.Numbers.{selected_in}
use Rattle.hash.proofs.Faster.{selected_below, selected_behind}
use Rattle.hash.proofs.select.Goals as goal

pub returns : goal.returns
unfolding selected_in
returns c =
    rw (c.flag.ensures.0, c.flag-2.ensures.0, c.flag-3.ensures.0, c.flag-4.ensures.0, c.flag-5.ensures.0, c.flag-6.ensures.0)
    (refl, selected_below c.args.register, λ bs e. ap selected_in e ∙ selected_behind bs)
