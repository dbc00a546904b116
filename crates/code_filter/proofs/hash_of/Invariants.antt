-- The loop of `code_filter::hash_of`: the register is that behind the bytes so far. Assumes nothing.
use Rattle.std.proofs.Common.{◌≡◌, take}
use Rattle.hash.specs.Numbers.{behind}
use Rattle.code_filter.proofs.hash_of.Given as goal

abbrev pub invariant-loop-byte : goal.invariant-loop-byte
invariant-loop-byte l = l.register ≡ behind (take l.byte-index l.destination)
