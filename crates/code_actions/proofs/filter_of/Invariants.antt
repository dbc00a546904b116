-- The outer invariant: the first i bytes are whole addresses, and the filter is theirs; the inner one: the register is that behind the bytes
-- of the next so far. Assumes nothing.
use Rattle.std.proofs.Common.{◌≡◌, ◌+◌, ◌-◌, ◌≤◌}
use Rattle.memory.specs.Memory.{bytes_at}
use Rattle.hash.specs.Numbers.{behind}
use Rattle.code_actions.proofs.Laws.{Whole}
use Rattle.code_actions.proofs.filter_of.Given as goal

abbrev pub invariant-loop : goal.invariant-loop
invariant-loop l =
    (l.i ≡ l.initial.i + l.counter) × (l.i ≤ l.count) × (l.counter ≤ l.l) × Whole l.l l.memory l.first.0 l.initial.i l.filter
    × (l.register ≡ behind (bytes_at l.memory (l.first.0 + l.initial.i) l.counter))

abbrev pub invariant-addresses : goal.invariant-addresses
invariant-addresses l = (l.i ≤ l.count) × Whole l.l l.memory l.first.0 l.i l.filter

abbrev pub decreases-addresses : goal.decreases-addresses
decreases-addresses l = l.count - l.i
