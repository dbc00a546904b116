-- `code_actions::settings_by` meets its contract. Assumes nothing.
use Rattle.std.proofs.Common.{◌<◌, ◌^◌, rules}
use borrow.Author.Tests.{le-ltb}
use Rattle.actions.specs.Actions.{byte_of}
use Rattle.code_actions.proofs.Laws.{settings_kept}
use Rattle.code_actions.proofs.settings_by.Goals as goal

pub returns : goal.returns
returns c s f e =
    let b = byte_of c.args.base c.args.block c.args.memory.now in
    let g : b 2 < 2 ^ 8 = rw (← c.byte_of-save.ensures) (search rules) in
    rw (c.settings-2.ensures, c.byte_of-save.ensures, c.modes.ensures.0)
    (settings_kept c.args.count b s c.args.form g f (le-ltb _ _ c.if-count-gt-MODE.false) c.args.kept e)
