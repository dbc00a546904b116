-- `copies::copy_out` meets its contract: bytes that do not pass the end of memory are one run, others go by stretches, and an empty memory
-- reads 0. Assumes nothing.
use Rattle.std.proofs.Common.{◌≡◌, length}
use borrow.Author.Tests.{true-eqb, false-eqb}
use Rattle.memory.proofs.Laws.{within}
use Rattle.copies.proofs.Laws.{out_whole, out_run, out_none}
use Rattle.copies.proofs.copy_out.Goals as goal

pub returns-then-is_empty : goal.returns-then-is_empty
returns-then-is_empty g c =
    let none : length c.args.m.now ≡ 0 = true-eqb _ _ c.if-is_empty.ensures in
    cc (out_none c.args.m.now c.args.dst.now c.args.a.0 c.args.at c.args.n c.room-k.result none c.room-k.ensures)

pub returns-then-k-m : goal.returns-then-k-m
returns-then-k-m g c =
    let h = within c.args.a.0 _ c.slot-i.result c.slot-i.ensures (false-eqb _ _ c.if-is_empty.ensures) in
    cc (
      out_run c.args.m.now c.args.dst.now c.slot-i.result c.args.at c.room-k.result h c.if-k-m.true,
      out_whole c.args.m.now c.args.dst.now c.args.a.0 c.slot-i.result c.args.at c.args.n c.room-k.result
          c.slot-i.ensures c.room-k.ensures,
    )

pub returns : goal.returns
returns g c =
    cc
    (out_whole c.args.m.now c.args.dst.now c.args.a.0 c.slot-i.result c.args.at c.args.n c.room-k.result
    c.slot-i.ensures c.room-k.ensures)
