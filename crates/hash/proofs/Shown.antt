-- Values of the function HASH, computed. Assumes nothing.
use mathlib.Core.Bool.{◌&&◌}
use mathlib.Core.List.{[], ◌∷◌}
use Prim.Native.Nat.{◌-◌, ◌^◌}
use lib.Dec.{T, eqb}
use Rattle.scb.specs.Words.{bits_at}
use Rattle.hash.specs.Hash.{ones, shifted, step, bits_in, register, selected, hash}
use Rattle.hash.specs.Numbers.{drip, drained, four_taken, taken, taken_all, selected_in, fast}
use Rattle.hash.specs.Values.{values, all_are, bits_of}

-- six addresses on their bits
pub values_are : T (all_are values)
unfolding bits_at ones shifted step bits_in register selected hash
values_are = tt

-- 64 addresses, the last 01-00-00-00-00-3F, fall on all 64 bits
pub all_bits : T (eqb (bits_of 64) (2 ^ 64 - 1))
unfolding bits_at ones shifted step bits_in register selected hash
all_bits = tt

-- the faster form and the paper's program, on one byte and on two
pub short_values : T (eqb (fast (0x01 ∷ [])) 50 && eqb (hash (0x01 ∷ [])) 50
    && eqb (fast (0xAB ∷ 0xCD ∷ [])) 19 && eqb (hash (0xAB ∷ 0xCD ∷ [])) 19)
unfolding bits_at ones shifted step bits_in register selected hash drip drained four_taken taken taken_all selected_in fast
short_values = tt
