-- Addresses, and two memories that hold the same bytes there. Assumes nothing.
use Rattle.std.specs.Prelude.{◌≡◌, List, [], ◌∷◌, ◌++◌, ℕ, zero, suc, length}
use Rattle.memory.specs.Memory.{byte_at, Write}

-- a is in the list
pub data In (a : ℕ) : List ℕ → Type 0 where
  here : {l : List ℕ} → In a (a ∷ l)
  there : {b : ℕ} {l : List ℕ} → In a l → In a (b ∷ l)

-- the n addresses from a on
unfoldable pub range : ℕ → ℕ → List ℕ
range a zero = []
range a (suc n) = a ∷ range (suc a) n

-- where writes go
abbrev pub targets : List Write → List ℕ
targets [] = []
targets (w ∷ ws) = range w.to (length w.bytes) ++ targets ws

-- two memories of one size that hold the same bytes at the listed addresses
pub record Same (L : List ℕ) (m q : List ℕ) : Type 0 where
  pub size : length m ≡ length q
  pub bytes : (a : ℕ) → In a L → byte_at m a ≡ byte_at q a
