-- Match, clause by clause: 01, "Arrival and storing". Each is a computed case that another reading fails. Assumes nothing.
use mathlib.Core.Bool.{Bool, true, false, ◌&&◌, not}
use mathlib.Core.List.{List, [], ◌∷◌}
use Prim.Native.Nat.{ℕ, ◌-◌, ◌^◌}
use lib.Dec.{T, eqb}
use lib.ListN.{replicate}
use Rattle.scb.specs.Words.{bits_at}
use Rattle.hash.specs.Hash as hash
use Rattle.hash.specs.Hash.{shifted, step, bits_in, register, selected}
use Rattle.device.specs.declared.Settings.{Settings}
use Rattle.filter.specs.Match.{agree, with_bit, matches}

-- by an address length
abbrev settings_at : (length : ℕ) → (promiscuous nobroadcast : Bool) → Settings
settings_at length promiscuous nobroadcast =
    record {
      savebad = false;
      promiscuous = promiscuous;
      nobroadcast = nobroadcast;
      minimum = 64;
      form = record { length = length; location = false };
    }

abbrev settings : (promiscuous nobroadcast : Bool) → Settings
settings promiscuous nobroadcast = settings_at 6 promiscuous nobroadcast

-- own address 02-01-01-01-01-01; the filter has bits 5 and 52, which 01-00-00-00-00-00 and 01-00-5E-00-00-01 fall on, and 59, that of all FFh
abbrev own : List ℕ
own = 2 ∷ replicate 5 1

abbrev filter : ℕ
filter = with_bit (with_bit (with_bit 0 5) 52) 59

abbrev ones : List ℕ
ones = replicate 6 255

-- 01-00-00-00-00-xx
abbrev group : ℕ → List ℕ
group last = 1 ∷ 0 ∷ 0 ∷ 0 ∷ 0 ∷ last ∷ []

-- promiscuous: any destination, all FFh with broadcast disabled too
pub promiscuous_takes_all : T (matches (settings true true) own filter (replicate 6 8) && matches (settings true true) own filter ones)
unfolding bits_at hash.ones shifted step bits_in register selected hash.hash agree matches
promiscuous_takes_all = tt

-- all FFh with broadcast enabled; with broadcast disabled it is not taken as the own address, which is six FFh after reset, nor by its bit
pub broadcast_by_its_bit : T (matches (settings false false) own 0 ones && not (matches (settings false true) ones filter ones))
unfolding bits_at hash.ones shifted step bits_in register selected hash.hash agree matches
broadcast_by_its_bit = tt

-- own address: all six bytes of it
pub own_is_six_bytes : T (matches (settings false true) own 0 own
    && not (matches (settings false true) own 0 (2 ∷ 1 ∷ 1 ∷ 1 ∷ 1 ∷ 9 ∷ [])))
unfolding bits_at hash.ones shifted step bits_in register selected hash.hash agree matches
own_is_six_bytes = tt

-- with the low bit of the first byte set, a set bit: 01-00-00-00-00-7F shares bit 5, AB-00-00-02-00-00 bit 59; 01-00-00-00-00-01 has another
pub by_its_bit : T (matches (settings false true) own filter (group 0) && matches (settings false true) own filter (group 0x7F)
    && matches (settings false true) own filter (0xAB ∷ 0 ∷ 0 ∷ 2 ∷ 0 ∷ 0 ∷ []) && not (matches (settings false true) own filter (group 1)))
unfolding bits_at hash.ones shifted step bits_in register selected hash.hash agree matches
by_its_bit = tt

-- neither the filter's bit alone, here every one, nor the low bit alone
pub not_without_the_low_bit : T (not (matches (settings false true) own (2 ^ 64 - 1) (replicate 6 4)) && not (matches (settings false true) own 0 (group 0)))
unfolding bits_at hash.ones shifted step bits_in register selected hash.hash agree matches
not_without_the_low_bit = tt

-- ---- 02, Wish 4: addresses of other lengths

-- "of the own address the first bytes, up to the length, count": two of its six, and those of the frame behind them are no address
pub own_by_its_first : T (matches (settings_at 2 false true) own 0 (2 ∷ 1 ∷ 9 ∷ 9 ∷ 9 ∷ 9 ∷ []) && not (matches (settings_at 2 false true) own 0 (2 ∷ 9 ∷ 1 ∷ 1 ∷ 1 ∷ 1 ∷ []))
    && matches (settings_at 1 false true) own 0 (2 ∷ 9 ∷ 9 ∷ 9 ∷ []))
unfolding bits_at hash.ones shifted step bits_in register selected hash.hash agree matches
own_by_its_first = tt

-- all FFh is so many bytes FFh; with broadcast disabled two bytes FFh are no own address, though that is six FFh
pub broadcast_of_its_length : T (matches (settings_at 2 false false) own 0 (255 ∷ 255 ∷ 0 ∷ 0 ∷ 0 ∷ 0 ∷ []) && not (matches (settings_at 2 false true) ones 0 (255 ∷ 255 ∷ 0 ∷ 0 ∷ 0 ∷ 0 ∷ []))
    && not (matches (settings_at 3 false false) own 0 (255 ∷ 255 ∷ 0 ∷ 0 ∷ 0 ∷ 0 ∷ [])))
unfolding bits_at hash.ones shifted step bits_in register selected hash.hash agree matches
broadcast_of_its_length = tt

-- the fold takes so many bytes: by 01-00 the frame's next bytes are none of it, and by the six of 01-00-00-00-00-00 it would be bit 5
pub folded_to_its_length : T (matches (settings_at 2 false true) own (2 ^ hash.hash (1 ∷ 0 ∷ [])) (1 ∷ 0 ∷ 7 ∷ 7 ∷ 7 ∷ 7 ∷ []) && not (matches (settings_at 2 false true) own (2 ^ 5) (group 0)))
unfolding bits_at hash.ones shifted step bits_in register selected hash.hash agree matches
folded_to_its_length = tt

-- at length 0 only promiscuous mode receives: the empty address is neither the own, nor all FFh, nor in a full filter
pub nobodys_at_none : T (not (matches (settings_at 0 false false) own (2 ^ 64 - 1) ones) && not (matches (settings_at 0 false false) own (2 ^ 64 - 1) own)
    && not (matches (settings_at 0 false false) own (2 ^ 64 - 1) (group 0)) && matches (settings_at 0 true true) own 0 (group 0))
unfolding bits_at hash.ones shifted step bits_in register selected hash.hash agree matches
nobodys_at_none = tt

-- a bit that is set is set once, and the others stay
pub set_once : T (eqb (with_bit (with_bit 0 5) 5) 0x20 && eqb (with_bit 0x28 3) 0x28 && eqb (with_bit 0x20 3) 0x28)
set_once = tt
