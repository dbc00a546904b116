-- The register as a number, and the function HASH over it, four bits at a time. Assumes nothing.
use Rattle.std.specs.Prelude.{Bool, List, [], ◌∷◌, ℕ, zero, suc, ◌+◌, ◌-◌, ◌*◌, ◌/◌, ◌%◌, ◌^◌}
use Rattle.std.specs.Int.Bits.{bit_xor}
use Rattle.scb.specs.Words.{one}
use Rattle.hash.specs.Hash.{ones, register}

-- flags as a number, the last one lowest, behind those that came before
unfoldable pub number_from : ℕ → List Bool → ℕ
number_from n [] = n
number_from n (b ∷ bs) = number_from (2 * n + one b) bs

-- a register as a number: A[31] is its lowest bit
unfoldable pub number : List Bool → ℕ
number a = number_from 0 a

-- the register behind bytes of an address
unfoldable pub behind : List ℕ → ℕ
behind bs = number (register ones bs)

-- ---- the faster form

-- the polynomial in this order of bits: a bit 1 for each flag that takes the feedback FB, A[0], A[1], A[2], A[4] and so on
abbrev pub taps : ℕ
taps = 0xEDB88320

-- the number behind one bit 0
unfoldable pub drip : ℕ → ℕ
drip n = bit_xor (n / 2) (n % 2 * taps)

-- the number behind so many bits 0
unfoldable pub drained : ℕ → ℕ → ℕ
drained zero n = n
drained (suc k) n = drained k (drip n)

-- behind the four low bits of a number
unfoldable pub four_taken : ℕ → ℕ → ℕ
four_taken n bits = bit_xor (n / 16) (drained 4 (bit_xor n bits % 16))

-- behind a byte, its low half first
unfoldable pub taken : ℕ → ℕ → ℕ
taken n byte = four_taken (four_taken n byte) (byte / 16)

-- behind bytes, the first one first
unfoldable pub taken_all : ℕ → List ℕ → ℕ
taken_all n [] = n
taken_all n (b ∷ bs) = taken_all (taken n b) bs

-- the bit A[k] of a register as a number
abbrev pub flag_in : ℕ → ℕ → ℕ
flag_in n k = n / 2 ^ (31 - k) % 2

-- A[5], A[6], A[7], A[2], A[3], A[4], the first the lowest
unfoldable pub selected_in : ℕ → ℕ
selected_in n = flag_in n 5 + 2 * flag_in n 6 + 4 * flag_in n 7 + 8 * flag_in n 2 + 16 * flag_in n 3 + 32 * flag_in n 4

-- the hash of an address, from a register of ones
unfoldable pub fast : List ℕ → ℕ
fast address = selected_in (taken_all 0xFFFFFFFF address)
