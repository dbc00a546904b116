-- `memory::put_word` meets its contract: the two stores are those of the two digits. Assumes nothing.
use borrow.Author.Tests.{true-eqb, false-eqb}
use Rattle.memory.proofs.Runs.{put_none, put_in, put_across}
use Rattle.memory.proofs.put_word.Goals as goal

pub returns-then-is_empty : goal.returns-then-is_empty
returns-then-is_empty c = put_none c.args.m.now c.args.a.0 c.args.w (true-eqb _ _ c.if-is_empty.ensures)

pub returns-then-i-last : goal.returns-then-i-last
returns-then-i-last c =
    rw c.to_le_bytes.ensures (put_in c.args.m.now c.args.a.0 c.slot-i.result c.args.w c.slot-i.ensures c.if-i-last.true)

pub returns : goal.returns
returns c =
    rw c.to_le_bytes.ensures
    (put_across c.args.m.now c.args.a.0 c.slot-i.result c.args.w c.slot-i.ensures (false-eqb _ _ c.if-is_empty.ensures) c.if-i-last.false)
