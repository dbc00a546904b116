-- `code_actions::ia_setup` meets its contract. Assumes nothing.
use Rattle.std.proofs.Common.{refl}
use Rattle.memory.specs.Memory.{bytes_at}
use Rattle.memory.specs.Address.{place}
use Rattle.memory.proofs.Laws.{length-bytes_at}
use Rattle.packed.proofs.SetUps.{own_set}
use Rattle.code_actions.proofs.ia_setup.Goals as goal

pub returns : goal.returns
returns c s h =
    let m = c.args.memory.now in
    let a = place c.args.base c.args.block 6 in
    rw (c.plainly.ensures, c.copy_out.ensures, c.place.ensures)
    (record { told = record { status = refl; length = refl }; setup = own_set s c.args.setup.now h (bytes_at m a 6) (length-bytes_at m a 6) })
