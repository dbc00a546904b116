-- The invariant of `running::run`: the first characters are fed. Assumes nothing.
use Rattle.std.proofs.Common.{take}
use Rattle.session.specs.Run.{ran}
use Rattle.session.specs.Held.{Runs}
use Rattle.running.proofs.run.Given as goal

abbrev pub invariant-loop-c : goal.invariant-loop-c
invariant-loop-c l = Runs (λ t. ran t (take l.c-index l.input)) l.initial.held l.held
