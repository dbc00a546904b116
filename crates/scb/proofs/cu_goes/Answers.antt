-- `scb::cu_goes` meets its contract: the entry of the table at the code and the state. Assumes nothing.
use Rattle.std.proofs.Common.{arith}
use Rattle.scb.specs.Words.{cuc}
use Rattle.scb.proofs.Fields.{bits_below}
use Rattle.scb.proofs.Tables.{cu_table_lem}
use Rattle.scb.proofs.cu_goes.Goals as goal

pub goes-requires : goal.goes-requires
goes-requires c = (omega (arith, c.cu_control.ensures, bits_below c.args.command 8 3), c.requires)

pub returns : goal.returns
returns c x e = rw (c.goes.ensures, e, c.cu_control.ensures) (cu_table_lem (cuc c.args.command) x (bits_below c.args.command 8 3))
