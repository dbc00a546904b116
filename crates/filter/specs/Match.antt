-- Match: 01, "Arrival and storing", as 02, Wishes 1 and 4, mend it: the 64-bit filter stands where the listed addresses did, and an address has the
-- length in force, l. A frame begins with its destination, with location 1 too. Assumes nothing.
use Rattle.std.specs.Prelude.{Bool, true, false, not, ◌&&◌, ◌||◌, List, ℕ, zero, suc, ◌+◌, ◌^◌, eqb, ltb, get_or, take, replicate}
use Rattle.std.specs.Int.Bits.{bit_or}
use Rattle.scb.specs.Words.{bit}
use Rattle.hash.specs.Hash.{hash}
use Rattle.device.specs.declared.Settings.{Settings}

-- the first k bytes of the frame f are the k bytes from index i on of a
unfoldable pub agree : List ℕ → ℕ → List ℕ → ℕ → Bool
agree a i f zero = true
agree a i f (suc k) = agree a i f k && eqb (get_or a (i + k) 0) (get_or f k 0)

-- the destination is all FFh; it is the own address, of which "the first bytes, up to the length, count"
abbrev pub all_ones : ℕ → List ℕ → Bool
all_ones l f = agree (replicate l 255) 0 f l

abbrev pub is_own : ℕ → List ℕ → List ℕ → Bool
is_own l own f = agree own 0 f l

-- a filter with its bit k set
abbrev pub with_bit : ℕ → ℕ → ℕ
with_bit filter k = bit_or filter (2 ^ k)

-- the bit of the destination's hash is set in the filter
abbrev pub is_filtered : ℕ → ℕ → List ℕ → Bool
is_filtered l filter f = bit filter (hash (take l f))

-- the low bit of the first byte is set
abbrev pub is_group : List ℕ → Bool
is_group f = bit (get_or f 0 0) 0

-- all FFh: with broadcast enabled. Not all FFh: own address or, with the low bit of the first byte set, a set bit (02, Wish 1: "a multicast
-- frame passes when its bit is set, listed or not")
abbrev pub addressed : (ones enabled own group filtered : Bool) → Bool
addressed true enabled own group filtered = enabled
addressed false enabled own group filtered = own || (group && filtered)

-- 02, Wish 4: at length 0 "only promiscuous mode receives": an empty address is nobody's
abbrev pub addressed_by : Settings → List ℕ → ℕ → List ℕ → Bool
addressed_by s own filter f =
    let l = s.form.length in
    ltb 0 l && addressed (all_ones l f) (not s.nobroadcast) (is_own l own f) (is_group f) (is_filtered l filter f)

-- promiscuous; or so addressed
unfoldable pub matches : Settings → List ℕ → ℕ → List ℕ → Bool
matches s own filter f = s.promiscuous || addressed_by s own filter f
