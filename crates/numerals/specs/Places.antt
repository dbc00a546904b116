-- What stands at a place of a list of bytes. Assumes nothing.
use Rattle.std.specs.Prelude.{List, [], ◌∷◌, ℕ, zero, suc, get_or}
use Rattle.memory.specs.Memory.{value}

-- the n bytes from at on; 0 where the list has none
unfoldable pub bytes_from : List ℕ → ℕ → ℕ → List ℕ
bytes_from r at zero = []
bytes_from r at (suc n) = get_or r at 0 ∷ bytes_from r (suc at) n

-- the number that they spell, low byte first
unfoldable pub field : List ℕ → ℕ → ℕ → ℕ
field r at n = value (bytes_from r at n)
