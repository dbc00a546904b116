-- `copies::copy_stretches` meets its contract. The invariant: what is left to copy, from here on, makes of `dst` what all of it makes of the first.
-- Assumes nothing.
use Rattle.std.proofs.Common.{◌≡◌, ◌+◌, ◌-◌, ◌<◌, length}
use Rattle.std.proofs.lemmas.List.Edits.{sets}
use Rattle.memory.specs.Memory.{bytes_at}
use Rattle.copies.proofs.copy_stretches.Given as goal

abbrev pub invariant-loop-done : goal.invariant-loop-done
invariant-loop-done l =
    (l.from < length l.m) × (length l.dst ≡ length l.initial.dst)
    × (sets l.dst (l.at + l.done) (bytes_at l.m l.from (l.k - l.done)) ≡ sets l.initial.dst l.at (bytes_at l.m l.i l.k))

abbrev pub decreases-loop-done : goal.decreases-loop-done
decreases-loop-done l = l.k - l.done
