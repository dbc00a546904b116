-- Offsets and real addresses. 01, "Two kinds of number in one column": the two kinds are distinct types and neither is accepted for the other.
-- Assumes nothing.
use Rattle.std.specs.Prelude.{ℕ, ◌+◌, ◌%◌, Bool, List, ◌==◌}
use Rattle.memory.specs.Memory.{word_at, real_at}
use Rattle.memory.specs.declared.Offset.{Offset}
use Rattle.memory.specs.declared.RealAddress.{RealAddress}

-- an offset has 16 bits; its address is the SCB base plus the offset. The base has 24 bits; a field lies so many bytes behind the address
unfoldable pub place : RealAddress → Offset → ℕ → ℕ
place base o field = base.0 % 16777216 + o.0 + field

-- a field of what lies at a real address
unfoldable pub beyond : RealAddress → ℕ → ℕ
beyond a field = a.0 % 16777216 + field

-- the offset and the real address that stand at an address
abbrev pub offset_at : List ℕ → ℕ → Offset
offset_at m a = record { 0 = word_at m a }

abbrev pub address_at : List ℕ → ℕ → RealAddress
address_at m a = record { 0 = real_at m a }

-- a real address as the record keeps it
abbrev pub real_of : ℕ → RealAddress
real_of n = record { 0 = n }

-- where document 01 says FFFFh, an offset may stand for none
abbrev pub none : Offset
none = record { 0 = 0xFFFF }

abbrev pub is_none : Offset → Bool
is_none o = o.0 == 0xFFFF

-- address 0; the SCP. 01, "First attention after reset": SCP is at FFFFF6h
abbrev pub origin : RealAddress
origin = record { 0 = 0 }

abbrev pub scp : RealAddress
scp = record { 0 = 0xFFFFF6 }
