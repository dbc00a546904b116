-- `copies::put_stretches` meets its contract. The invariant: what is left to copy, from here on, makes of memory what all of it makes of the first.
-- Assumes nothing.
use Rattle.std.proofs.Common.{◌≡◌, ◌+◌, ◌-◌, ◌<◌, length, take, drop}
use Rattle.memory.specs.Memory.{put_bytes}
use Rattle.copies.proofs.put_stretches.Given as goal

abbrev pub invariant-loop-done : goal.invariant-loop-done
invariant-loop-done l =
    (l.to < length l.m) × (length l.m ≡ length l.initial.m)
    × (put_bytes l.m l.to (take (l.k - l.done) (drop (l.at + l.done) l.src)) ≡ put_bytes l.initial.m l.i (take l.k (drop l.at l.src)))

abbrev pub decreases-loop-done : goal.decreases-loop-done
decreases-loop-done l = l.k - l.done
