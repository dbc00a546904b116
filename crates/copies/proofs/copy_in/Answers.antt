-- `copies::copy_in` meets its contract: bytes that do not pass the end of memory are one run, others go by stretches, and an empty memory
-- takes none. Assumes nothing.
use Rattle.std.proofs.Common.{take, drop}
use borrow.Author.Tests.{true-eqb, false-eqb}
use Rattle.memory.proofs.Laws.{within}
use Rattle.copies.proofs.Laws.{in_whole, in_run, none_puts}
use Rattle.copies.proofs.copy_in.Goals as goal

pub returns-then-is_empty : goal.returns-then-is_empty
returns-then-is_empty g c = none_puts c.args.m.now c.args.a.0 (take c.args.n (drop c.args.at c.args.src.now)) (true-eqb _ _ c.if-is_empty.ensures)

pub returns-then-k-m : goal.returns-then-k-m
returns-then-k-m g c =
    let h = within c.args.a.0 _ c.slot-i.result c.slot-i.ensures (false-eqb _ _ c.if-is_empty.ensures) in
    cc (
      in_run c.args.m.now c.args.src.now c.slot-i.result c.args.at c.room-k.result h c.if-k-m.true,
      in_whole c.args.m.now c.args.src.now c.args.a.0 c.slot-i.result c.args.at c.args.n c.room-k.result
          c.slot-i.ensures c.room-k.ensures,
    )

pub returns : goal.returns
returns g c =
    cc
    (in_whole c.args.m.now c.args.src.now c.args.a.0 c.slot-i.result c.args.at c.args.n c.room-k.result
    c.slot-i.ensures c.room-k.ensures)
