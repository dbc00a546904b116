-- `lentoquist::lq_run` meets its promise. Assumes nothing.
use Rattle.std.proofs.Common.{sym, rules}
use Rattle.calls.specs.Calls.{areas_of}
use Rattle.code_calls.proofs.Asks.{asks_run, as_said}
use Rattle.lentoquist.proofs.lq_run.Goals as goal

pub returns : goal.returns
returns c =
    let s = c.args in
    let a = areas_of s.memory.now s.holding.now s.outgoing.now s.kept.now in
    as_said (sym (asks_run a s.report s.budget (search rules))) c.call.ensures
