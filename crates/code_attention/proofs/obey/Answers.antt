-- `code_attention::obey` meets its contract: the codes' writes, then status and command. Assumes nothing.
use Rattle.std.proofs.Common.{◌∙◌}
use Rattle.code_attention.specs.Attends.{codes}
use Rattle.code_attention.proofs.Parts.{obeys_all}
use Rattle.code_attention.proofs.obey.Goals as goal

pub returns : goal.returns
returns c d h =
    let m = c.args.memory.now in
    let o = c.obeyed-after.ensures d.units h in
    let u = (codes d.units c.args.command m).units in
    obeys_all d m c.args.command _ _ c.obeyed-after.result o (c.clear_command.ensures u o.packed ∙ rw (c.write_status.ensures u o.packed))
