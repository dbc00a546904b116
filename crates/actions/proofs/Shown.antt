-- The actions, sentence by sentence: 01, "Turns". Each is a computed case that another reading fails. Assumes nothing.
use mathlib.Core.Bool.{Bool, true, false, cond, ◌&&◌, not}
use mathlib.Core.List.{List, [], ◌∷◌, ◌++◌}
use Prim.Native.Nat.{ℕ, ◌+◌, ◌^◌}
use lib.Dec.{T, eqb}
use lib.ListN.{replicate, get_or}
use Rattle.memory.specs.Address.{place}
use Rattle.memory.specs.Memory.{byte_at, put_byte, bytes_at, put_bytes, value, digits, field_at, word_at, Write, word_to, apply}
use Rattle.scb.specs.Words.{bits_at}
use Rattle.hash.specs.Hash.{ones, shifted, step, bits_in, register, selected, hash}
use Rattle.device.specs.State.{fresh_settings}
use Rattle.device.specs.declared.Action.{Action}
use Rattle.device.specs.declared.Action.TheVariants as action
use Rattle.filter.specs.Match.{with_bit}
use Rattle.actions.specs.Actions.{Acted, clamped, settings_by, groups, filtering, act, reported, is_sent, sent, not_sent}
use Rattle.actions.specs.Setup.{Setup}

-- settings as after reset, own address six FFh, bits 0 and 3 of the filter set; the SCB base is 10h, the block at offset 40h, address 50h
abbrev setup : Setup
setup = record { settings = fresh_settings; own = replicate 6 255; filter = 9 }

abbrev given : List Write → List ℕ
given ws = apply ws (replicate 256 0)

-- by a setup
abbrev acted_by : Setup → Action → List Write → Acted
acted_by s a ws = act a (record { 0 = 0x10 }) s (record { 0 = 0x40 }) (given ws)

abbrev acted : Action → List Write → Acted
acted a ws = acted_by setup a ws

-- ---- 0 NOP, 7 Diagnose: A000h; 6 Dump: 8000h

pub statuses : T (eqb (acted action.Nop []).status 0xA000 && eqb (acted action.Diagnose []).status 0xA000
    && eqb (acted action.Dump []).status 0x8000)
unfolding byte_at put_byte put_bytes act
statuses = tt

-- ---- 1 IA-Setup: six bytes at +6

pub own_from6 : T (eqb (get_or (acted action.IaSetup (word_to 0x56 0x0201 ∷ word_to 0x5A 0x0605 ∷ [])).setup.own 0 0) 1
    && eqb (get_or (acted action.IaSetup (word_to 0x56 0x0201 ∷ word_to 0x5A 0x0605 ∷ [])).setup.own 5 0) 6)
unfolding byte_at put_byte bytes_at put_bytes digits place act
own_from6 = tt

-- ---- 2 Configure

-- byte count, low 4 bits of +6, below 4 taken as 4, above 12 as 12
pub byte_count : T (eqb (clamped 0xF3) 4 && eqb (clamped 0x15) 5 && eqb (clamped 0x0D) 12)
unfolding bits_at
byte_count = tt

-- a Configure of so many bytes: byte 2 is 80h, byte 3 as said, byte 8 is 02h, byte 10 is 99
abbrev configured : (count third : ℕ) → Acted
configured count third =
    acted action.Configure (word_to 0x56 count ∷ word_to 0x58 0x0080 ∷ word_to 0x59 third ∷ word_to 0x5E 0x0002 ∷ word_to 0x60 99 ∷ [])

-- byte 2: bit 7 save bad frames; byte 8: bit 0 promiscuous, 1 broadcast disabled; byte 10: minimum length
pub each_in_its_byte : T ((configured 11 6).setup.settings.savebad && (configured 11 6).setup.settings.nobroadcast
    && not (configured 11 6).setup.settings.promiscuous && eqb (configured 11 6).setup.settings.minimum 99
    && (acted action.Configure (word_to 0x56 9 ∷ word_to 0x59 6 ∷ word_to 0x5E 0x0001 ∷ [])).setup.settings.promiscuous)
unfolding byte_at put_byte bytes_at put_bytes digits place bits_at settings_by act
each_in_its_byte = tt

-- the others kept: eight bytes do not reach byte 8, nine do; ten do not reach byte 10
pub others_kept : T (not (configured 8 6).setup.settings.nobroadcast && (configured 9 6).setup.settings.nobroadcast
    && eqb (configured 10 6).setup.settings.minimum 64)
unfolding byte_at put_byte bytes_at put_bytes digits place bits_at settings_by act
others_kept = tt

-- length 7 or loopback: status 8000h, nothing changed
abbrev unchanged : ℕ → Bool
unchanged third =
    let a = configured 11 third in
    eqb a.status 0x8000 && not a.setup.settings.savebad && eqb a.setup.settings.form.length 6 && not a.setup.settings.form.location

pub not_accepted : T (unchanged 7 && unchanged 0x0F && unchanged 0x46 && unchanged 0x86 && unchanged 0x42 && eqb (configured 11 6).status 0xA000)
unfolding byte_at put_byte bytes_at put_bytes digits place bits_at settings_by act
not_accepted = tt

-- 02, Wish 4: bits 2-0 are the address length, 0 to 6, bit 3 is the location; four bytes, the fewest, have both
abbrev formed : (count third length : ℕ) → (location : Bool) → Bool
formed count third length location =
    let a = configured count third in
    eqb a.status 0xA000 && eqb a.setup.settings.form.length length && (cond location a.setup.settings.form.location (not a.setup.settings.form.location))

pub length_and_location : T (formed 11 0 0 false && formed 11 2 2 false && formed 11 0x0A 2 true && formed 11 0x0E 6 true && formed 11 0x36 6 false && formed 4 0x08 0 true)
unfolding byte_at put_byte bytes_at put_bytes digits place bits_at settings_by act
length_and_location = tt

-- ---- 3 MC-Setup

-- an MC-Setup with that word and those bytes from +8 on; the filter that it leaves
abbrev grouped : (word : ℕ) → List ℕ → Acted
grouped word bytes = acted action.McSetup (word_to 0x56 word ∷ record { to = 0x58; bytes = bytes } ∷ [])

abbrev filter_by : (word : ℕ) → List ℕ → ℕ
filter_by word bytes = (grouped word bytes).setup.filter

-- 01-00-00-00-00-00, which falls on bit 5; 01-00-5E-00-00-01, on bit 52; and CF-00-00-00-00-00, on bit 43
abbrev three : List ℕ
three = 1 ∷ 0 ∷ 0 ∷ 0 ∷ 0 ∷ 0 ∷ 1 ∷ 0 ∷ 0x5E ∷ 0 ∷ 0 ∷ 1 ∷ 0xCF ∷ 0 ∷ 0 ∷ 0 ∷ 0 ∷ 0 ∷ []

-- low 14 bits count bytes, addresses from +8, a remainder ignored; nothing of the old filter stays, and what is set is set once
pub of_each_its_bit : T (eqb (filter_by 18 three) (2 ^ 5 + 2 ^ 43 + 2 ^ 52) && eqb (filter_by 0xC011 three) (2 ^ 5 + 2 ^ 52)
    && eqb (filter_by 12 (three ++ three)) (2 ^ 5 + 2 ^ 52) && eqb (filter_by 12 (replicate 12 255)) (2 ^ 59))
unfolding byte_at put_byte bytes_at put_bytes value digits field_at place bits_at ones shifted step bits_in register selected hash filtering act
of_each_its_bit = tt

-- whatever the low bit of the address is: 00-00-00-00-00-00 sets its bit too
pub clear_low_bit_too : T (eqb (filter_by 6 (replicate 6 0)) (2 ^ hash (replicate 6 0)))
unfolding byte_at put_byte bytes_at put_bytes value digits field_at place bits_at ones shifted step bits_in register selected hash filtering act
clear_low_bit_too = tt

-- how many addresses there are with that word at +6: 14 bits of it, up to 2,730
abbrev addresses : (word : ℕ) → ℕ
addresses word = groups 6 (record { 0 = 0x10 }) (record { 0 = 0x40 }) (given (word_to 0x56 word ∷ []))

pub count_of_14_bits : T (eqb (addresses 0xFFFF) 2730 && eqb (addresses 0x2000) 1365 && eqb (addresses 0x4006) 1 && eqb (addresses 0x8005) 0 && eqb (addresses 180) 30)
unfolding byte_at put_byte bytes_at put_bytes value digits field_at place bits_at
count_of_14_bits = tt

-- 02, Wish 4: its addresses have the length in force: of five bytes two of two, 01-00 and 5E-01, the remainder ignored; at length 0 there is none, and the
-- filter is emptied; at length 1 a byte is one
abbrev short : (length : ℕ) → Setup
short length =
    record {
      settings = record { savebad = false; promiscuous = false; nobroadcast = false; minimum = 64; form = record { length = length; location = false } };
      own = replicate 6 255;
      filter = 9;
    }

abbrev filter_at : (length word : ℕ) → List ℕ → ℕ
filter_at length word bytes = (acted_by (short length) action.McSetup (word_to 0x56 word ∷ record { to = 0x58; bytes = bytes } ∷ [])).setup.filter

pub of_its_length : T (eqb (filter_at 2 5 (1 ∷ 0 ∷ 0x5E ∷ 1 ∷ 0xCF ∷ 0 ∷ [])) (with_bit (2 ^ hash (1 ∷ 0 ∷ [])) (hash (0x5E ∷ 1 ∷ [])))
    && eqb (filter_at 2 6 (1 ∷ 0 ∷ 1 ∷ 0 ∷ 1 ∷ 0 ∷ [])) (2 ^ hash (1 ∷ 0 ∷ [])) && eqb (filter_at 0 6 (1 ∷ 0 ∷ 1 ∷ 0 ∷ 1 ∷ 0 ∷ [])) 0
    && not (eqb (filter_at 1 1 (1 ∷ [])) 0))
unfolding byte_at put_byte bytes_at put_bytes value digits field_at place bits_at ones shifted step bits_in register selected hash filtering act
of_its_length = tt

-- IA-Setup reads six bytes whatever the length
pub own_of_six : T (eqb (get_or (acted_by (short 2) action.IaSetup (word_to 0x56 0x0201 ∷ word_to 0x5A 0x0605 ∷ [])).setup.own 5 0) 6)
unfolding byte_at put_byte bytes_at put_bytes digits place act
own_of_six = tt

-- any count works, also of more addresses than memory has bytes; a count below 6 empties the filter
pub any_count : T (eqb (grouped 102 three).status 0xA000 && eqb (grouped 0x3FFF three).status 0xA000
    && eqb (filter_by 0 three) 0 && eqb (filter_by 5 three) 0 && eqb (grouped 0 three).status 0xA000)
unfolding byte_at put_byte bytes_at put_bytes value digits field_at place bits_at ones shifted step bits_in register selected hash filtering act
any_count = tt

-- ---- 4 Transmit

-- bits 10, 9, 7, 6, 5, 3-0 of the report are set with C; OK, and the frame sent, exactly if 10, 9, 5 are clear
abbrev sending : ℕ → Acted
sending report = sent setup 60 report

pub reported_bits : T (eqb (sending 0x0000).status 0xA000 && eqb (sending 0xF9DF).status 0xA0CF && eqb (sending 0xF9DF).length 60
    && eqb (sending 0x0020).status 0x8020 && eqb (sending 0x0200).status 0x8200 && eqb (sending 0x0400).status 0x8400
    && eqb (sending 0x0020).length 0)
unfolding bits_at reported is_sent sent
reported_bits = tt

-- 8100h, nothing sent
pub chain_failed : T (eqb (not_sent setup).status 0x8100 && eqb (not_sent setup).length 0)
chain_failed = tt

-- ---- 5 TDR: word +6 becomes 8000h, status A000h

pub tdr_word : T (eqb (word_at (apply (acted action.Tdr []).writes (given [])) 0x56) 0x8000 && eqb (acted action.Tdr []).status 0xA000)
unfolding byte_at put_byte bytes_at put_bytes value digits field_at place act
tdr_word = tt
