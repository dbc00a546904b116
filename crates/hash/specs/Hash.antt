-- The function HASH of document 000, section 5.5, as the program of its table 5-5 has it, with the 32-bit CRC: on which of 64 bits an address
-- falls. The program's lines are quoted. Assumes nothing.
use Rattle.std.specs.Prelude.{Bool, true, false, not, List, [], ◌∷◌, ℕ, zero, suc, ◌+◌, ◌*◌, get_or, replicate}
use Rattle.scb.specs.Words.{bit, one}

infixl 40 ◌<>◌
-- "exclusive or"
abbrev pub ◌<>◌ : Bool → Bool → Bool
a <> false = a
a <> true = not a

-- the register A, an "ARRAY [0..31] OF BOOLEAN (* the CRC generator *)", A[0] first; its A[k]
abbrev pub flag : List Bool → ℕ → Bool
flag a k = get_or a k false

-- "FOR i:=0 TO 31 DO A[i] := true (* initialize to all ones *)"
unfoldable pub ones : List Bool
ones = replicate 32 true

-- "shift the CRC register", with the feedback FB: "A[31] := A[30]" down to "A[0] := FB", here from A[0] on. Each assignment
-- reads what stood before, since they go downward
unfoldable pub shifted : List Bool → Bool → List Bool
shifted a fb =
    fb ∷ (flag a 0 <> fb) ∷ (flag a 1 <> fb) ∷ flag a 2 ∷ (flag a 3 <> fb) ∷ (flag a 4 <> fb) ∷ flag a 5 ∷ (flag a 6 <> fb)
    ∷ (flag a 7 <> fb) ∷ flag a 8 ∷ (flag a 9 <> fb) ∷ (flag a 10 <> fb) ∷ (flag a 11 <> fb) ∷ flag a 12 ∷ flag a 13 ∷ flag a 14
    ∷ (flag a 15 <> fb) ∷ flag a 16 ∷ flag a 17 ∷ flag a 18 ∷ flag a 19 ∷ flag a 20 ∷ (flag a 21 <> fb) ∷ (flag a 22 <> fb)
    ∷ flag a 23 ∷ flag a 24 ∷ (flag a 25 <> fb) ∷ flag a 26 ∷ flag a 27 ∷ flag a 28 ∷ flag a 29 ∷ flag a 30
    ∷ []

-- "FB := A[31] <> X[i] (* compute feedback *)"
unfoldable pub step : List Bool → Bool → List Bool
step a x = shifted a (flag a 31 <> x)

-- "FOR i:=0 TO AL*8-1": X has the address's bits as they are sent, the low bit of a byte first: the register behind the first
-- k bits of a byte
unfoldable pub bits_in : List Bool → ℕ → ℕ → List Bool
bits_in a b zero = a
bits_in a b (suc k) = step (bits_in a b k) (bit b k)

-- behind all eight bits of each byte, the first byte first
unfoldable pub register : List Bool → List ℕ → List Bool
register a [] = a
register a (b ∷ bs) = register (bits_in a b 8) bs

-- "select the 6 bits out of the CRC register": "IF A[5] THEN Y := 1 ELSE Y := 0; IF A[6] THEN Y := Y + 2" and so on
unfoldable pub selected : List Bool → ℕ
selected a = one (flag a 5) + 2 * one (flag a 6) + 4 * one (flag a 7) + 8 * one (flag a 2) + 16 * one (flag a 3) + 32 * one (flag a 4)

-- the hash of an address, whatever its length
unfoldable pub hash : List ℕ → ℕ
hash address = selected (register ones address)
