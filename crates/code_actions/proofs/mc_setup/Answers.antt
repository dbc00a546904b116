-- `code_actions::mc_setup` meets its contract. Assumes nothing.
use Rattle.std.proofs.Common.{◌≡◌, ◌∙◌, refl}
use Rattle.memory.specs.Address.{place}
use Rattle.actions.specs.Actions.{groups, filtering}
use Rattle.actions.specs.Block.{destination_at}
use Rattle.actions.proofs.Laws.{filtering_wide}
use Rattle.phases.proofs.Units.{form_back}
use Rattle.packed.proofs.SetUps.{filter-set}
use Rattle.code_actions.proofs.mc_setup.Goals as goal

pub returns : goal.returns
returns c s h =
    let m = c.args.memory.now in
    let a = place c.args.base c.args.block destination_at in
    let l = s.settings.form.length in
    let n = groups l c.args.base c.args.block m in
    let e : c.length-l.result ≡ l = c.length-l.ensures.0 ∙ rw (c.form.ensures.1 s h, form_back s.settings.form h.form_wide) in
    rw (c.plainly.ensures, c.put.ensures, c.filter_of-filter.ensures, c.count_of.ensures, c.place-first.ensures, e)
    (record {
      told = record { status = refl; length = refl };
      setup = filter-set s c.args.setup.now h (filtering l m a n) (filtering_wide l m a n);
    })
