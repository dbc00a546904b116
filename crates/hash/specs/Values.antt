-- Addresses with the bits on which they fall: those that the statements on values speak of. Assumes nothing.
use Rattle.std.specs.Prelude.{Bool, true, ◌&&◌, List, [], ◌∷◌, ℕ, zero, suc, ◌^◌, eqb}
use Rattle.std.specs.Int.Bits.{bit_or}
use Rattle.hash.specs.Hash.{hash}

-- an address and the bit on which it falls
pub record Value : Type 0 where
  pub address : List ℕ
  pub bit : ℕ

abbrev pub value : List ℕ → ℕ → Value
value a n = record { address = a; bit = n }

-- the paper has a program and no sample addresses; these are the values that it gives
abbrev pub values : List Value
values =
    value (255 ∷ 255 ∷ 255 ∷ 255 ∷ 255 ∷ 255 ∷ []) 59
    ∷ value (0x01 ∷ 0x00 ∷ 0x5E ∷ 0x00 ∷ 0x00 ∷ 0x01 ∷ []) 52
    ∷ value (0xAB ∷ 0x00 ∷ 0x00 ∷ 0x02 ∷ 0x00 ∷ 0x00 ∷ []) 59
    ∷ value (0x01 ∷ 0x80 ∷ 0xC2 ∷ 0x00 ∷ 0x00 ∷ 0x00 ∷ []) 40
    ∷ value (0x01 ∷ 0x00 ∷ 0x00 ∷ 0x00 ∷ 0x00 ∷ 0x00 ∷ []) 5
    ∷ value (0xCF ∷ 0x00 ∷ 0x00 ∷ 0x00 ∷ 0x00 ∷ 0x00 ∷ []) 43
    ∷ []

-- each falls on its bit
abbrev pub all_are : List Value → Bool
all_are [] = true
all_are (v ∷ vs) = eqb (hash v.address) v.bit && all_are vs

-- the filter's bits on which the addresses 01-00-00-00-00-00 to that ending in k - 1 fall
abbrev pub bits_of : ℕ → ℕ
bits_of zero = 0
bits_of (suc k) = bit_or (2 ^ hash (0x01 ∷ 0x00 ∷ 0x00 ∷ 0x00 ∷ 0x00 ∷ k ∷ [])) (bits_of k)
