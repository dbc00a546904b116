-- `memory::copy_run` meets its contract. The invariant: the first i bytes are in `dst`. Assumes nothing.
use Rattle.std.proofs.Common.{◌-◌, ◌≡◌, length, take, drop}
use Rattle.std.proofs.lemmas.List.Edits.{sets}
use Rattle.memory.proofs.copy_run.Given as goal

abbrev pub invariant-loop-i : goal.invariant-loop-i
invariant-loop-i l = (length l.dst ≡ length l.initial.dst) × (l.dst ≡ sets l.initial.dst l.to (take l.i (drop l.from l.src)))
