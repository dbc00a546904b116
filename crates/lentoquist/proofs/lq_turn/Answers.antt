-- `lentoquist::lq_turn` meets its promise: a run of one turn, uncounted, is a turn. Assumes nothing.
use Rattle.std.proofs.Common.{sym, rules}
use Rattle.calls.specs.Calls.{areas_of}
use Rattle.code_calls.proofs.Asks.{asks_turn, as_said}
use Rattle.lentoquist.proofs.lq_turn.Goals as goal

pub returns : goal.returns
returns c =
    let s = c.args in
    let a = areas_of s.memory.now s.holding.now s.outgoing.now s.kept.now in
    as_said (sym (asks_turn a s.report (search rules))) c.call.ensures
