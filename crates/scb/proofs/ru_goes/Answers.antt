-- `scb::ru_goes` meets its contract: the entry of the table at the code and the state. Assumes nothing.
use Rattle.std.proofs.Common.{arith}
use Rattle.scb.specs.Words.{ruc}
use Rattle.scb.proofs.Fields.{bits_below}
use Rattle.scb.proofs.Tables.{ru_table_lem}
use Rattle.scb.proofs.ru_goes.Goals as goal

pub goes-requires : goal.goes-requires
goes-requires c = (omega (arith, c.ru_control.ensures, bits_below c.args.command 4 3), c.requires)

pub returns : goal.returns
returns c x e = rw (c.goes.ensures, e, c.ru_control.ensures) (ru_table_lem (ruc c.args.command) x (bits_below c.args.command 4 3))
