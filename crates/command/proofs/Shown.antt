-- One service of the command unit, sentence by sentence: 01, "Turns". Each is a computed case that another reading fails. Assumes nothing.
use mathlib.Core.Bool.{Bool, true, false, ◌&&◌, not}
use mathlib.Core.List.{List, [], ◌∷◌}
use Prim.Native.Nat.{ℕ}
use lib.Dec.{T, eqb}
use lib.ListN.{replicate, get_or}
use Rattle.memory.specs.Address.{place}
use Rattle.memory.specs.Memory.{byte_at, put_byte, bytes_at, put_bytes, value, digits, field_at, word_at, Write, word_to, apply}
use Rattle.scb.specs.Words.{bits_at}
use Rattle.hash.specs.Hash.{ones, shifted, step, bits_in, register, selected, hash}
use Rattle.device.specs.Numbers.{action_of, action_number}
use Rattle.device.specs.State.{fresh_form}
use Rattle.device.specs.declared.Action.TheVariants as action
use Rattle.device.specs.declared.Begun.{Begun}
use Rattle.device.specs.declared.Cu.{Cu}
use Rattle.device.specs.declared.Cu.TheVariants as cu
use Rattle.device.specs.declared.Form.{Form}
use Rattle.actions.specs.Actions.{filtering, act, reported, is_sent, sent}
use Rattle.command.specs.Begin.{begin, begun_by, header_of}
use Rattle.command.specs.Buffer.{descriptor_at, buffer}
use Rattle.command.specs.End.{next_after, end}
use Rattle.command.specs.Part.{Part, Service}
use Rattle.command.specs.Service.{service}

-- a unit with the SCB base at 10h and own address six 66h, by a form; the block is at offset 40h, address 50h
abbrev part_by : Form → Cu → Part
part_by form unit =
    record {
      base = record { 0 = 0x10 };
      unit = unit;
      setup = record {
        settings = record { savebad = false; promiscuous = false; nobroadcast = false; minimum = 64; form = form };
        own = replicate 6 0x66;
        filter = 0;
      };
      outgoing = replicate 2048 0x55;
    }

abbrev part : Cu → Part
part unit = part_by fresh_form unit

abbrev given : List Write → List ℕ
given ws = apply ws (replicate 256 0)

abbrev served : Cu → List Write → Service
served unit ws = service (part unit) (given ws) 0

-- the phase of a unit, by number
abbrev phase : Cu → ℕ
phase cu.Idle = 0
phase (cu.Suspended o) = 1
phase (cu.Waiting o) = 2
phase (cu.Acting b a) = 3
phase (cu.Sending b w) = 4
phase (cu.Ending b n) = 5
phase (cu.Failing b) = 6

-- ---- begin

-- a block with that command word is begun
abbrev begun : (word : ℕ) → Service
begun word = served (cu.Waiting (record { 0 = 0x40 })) (word_to 0x52 word ∷ word_to 0x56 0xFFFF ∷ [])

-- write status 4000h, at begin already
pub busy_at_begin : T (eqb (word_at (apply (begun 0).writes (given [])) 0x50) 0x4000)
unfolding byte_at put_byte bytes_at put_bytes value digits field_at place bits_at action_of begun_by begin service
busy_at_begin = tt

-- 2-0 CMD, whatever stands above it; Transmit: +6 FFFFh is no buffer, and the end is next
abbrev command : Cu → ℕ
command cu.Idle = 8
command (cu.Suspended o) = 8
command (cu.Waiting o) = 8
command (cu.Acting b a) = action_number a
command (cu.Sending b w) = 4
command (cu.Ending b n) = 4
command (cu.Failing b) = 4

pub cmd_of_three_bits : T (eqb (command (begun 0x0008).part.unit) 0 && eqb (command (begun 0x000D).part.unit) 5
    && eqb (phase (begun 0x000C).part.unit) 5)
unfolding byte_at put_byte bytes_at put_bytes value digits field_at place bits_at action_of begun_by header_of begin service
cmd_of_three_bits = tt

-- 15 EL, 14 S, 13 I
abbrev flags : (word : ℕ) → Begun
flags word = begun_by (record { 0 = 0x40 }) word

pub flags_in_their_bits : T ((flags 0x8000).el && not (flags 0x6000).el && (flags 0x4000).suspend && not (flags 0xA000).suspend
    && (flags 0x2000).interrupt && not (flags 0xC000).interrupt)
unfolding bits_at begun_by
flags_in_their_bits = tt

-- Frame: destination, own address, type; the header goes to the outgoing area at begin
abbrev header : List ℕ
header =
    (served (cu.Waiting (record { 0 = 0x40 }))
    (word_to 0x52 4 ∷ word_to 0x56 0xFFFF ∷ word_to 0x58 0x2211 ∷ word_to 0x5C 0x4433 ∷ word_to 0x5E 0x0008 ∷ [])).part.outgoing

pub header_in_order : T (eqb (get_or header 0 0) 0x11 && eqb (get_or header 5 0) 0x44 && eqb (get_or header 6 0) 0x66 && eqb (get_or header 12 0) 0x08)
unfolding byte_at put_byte bytes_at put_bytes value digits field_at place bits_at action_of begun_by header_of begin service
header_in_order = tt

-- 02, Wish 4: with two bytes an address, the type stands at +10, and of the own address the first two are sent; with location 1 nothing is placed, and
-- the frame has no byte yet
abbrev begun_as : (length : ℕ) → (location : Bool) → Service
begun_as length location =
    service (part_by (record { length = length; location = location }) (cu.Waiting (record { 0 = 0x40 })))
    (given (word_to 0x52 4 ∷ word_to 0x56 0xFFFF ∷ word_to 0x58 0x2211 ∷ word_to 0x5A 0x4433 ∷ word_to 0x5E 0x0008 ∷ [])) 0

-- the bytes in the outgoing area of a Transmit whose end is next
abbrev placed : Cu → ℕ
placed cu.Idle = 9
placed (cu.Suspended o) = 9
placed (cu.Waiting o) = 9
placed (cu.Acting b a) = 9
placed (cu.Sending b w) = 9
placed (cu.Ending b n) = n
placed (cu.Failing b) = 9

pub packed_by_length : T (eqb (field_at 8 (begun_as 2 false).part.outgoing 0) 0x5555443366662211 && eqb (placed (begun_as 2 false).part.unit) 6
    && eqb (field_at 4 (begun_as 0 false).part.outgoing 0) 0x55552211 && eqb (placed (begun_as 0 false).part.unit) 2)
unfolding byte_at put_byte bytes_at put_bytes value digits field_at place bits_at action_of begun_by header_of begin service
packed_by_length = tt

pub nothing_placed : T (eqb (field_at 8 (begun_as 2 true).part.outgoing 0) 0x5555555555555555 && eqb (placed (begun_as 2 true).part.unit) 0)
unfolding byte_at put_byte bytes_at put_bytes value digits field_at place bits_at action_of begun_by header_of begin service
nothing_placed = tt

-- ---- buffer

-- a Transmit with so many descriptors used and bytes in the outgoing area, at a descriptor with those words at +0 and +2, and 2211h in memory
abbrev sending : (used filled first next : ℕ) → Service
sending used filled first next =
    served (cu.Sending (flags 0) (record { next = record { 0 = 0x90 }; used = used; filled = filled }))
    (word_to 0xA0 first ∷ word_to 0xA2 next ∷ word_to 0xA4 0xC0 ∷ word_to 0xC0 0x2211 ∷ word_to 0xD0 0x2211 ∷ [])

-- with no EOF in 64 descriptors the end turn is next, with nothing sent; the 63rd has a next, and EOF in the 64th is in time
pub sixty_four : T (eqb (phase (sending 62 14 2 0x98).part.unit) 4 && eqb (phase (sending 63 14 2 0x98).part.unit) 6
    && eqb (phase (sending 63 14 0x8002 0x98).part.unit) 5)
unfolding byte_at put_byte bytes_at put_bytes value digits field_at place bits_at begun_by descriptor_at buffer service
sixty_four = tt

-- a next offset FFFFh before EOF is no end of the data; with EOF it is not looked at
pub ones_before_eof : T (eqb (phase (sending 0 14 2 0xFFFF).part.unit) 6 && eqb (phase (sending 0 14 0x8002 0xFFFF).part.unit) 5)
unfolding byte_at put_byte bytes_at put_bytes value digits field_at place bits_at begun_by descriptor_at buffer service
ones_before_eof = tt

-- 2,034 data bytes pass, 2,035 don't
pub longest_frame : T (eqb (phase (sending 0 2046 0x8002 0).part.unit) 5 && eqb (phase (sending 0 2046 0x8003 0).part.unit) 6)
unfolding byte_at put_byte bytes_at put_bytes value digits field_at place bits_at begun_by descriptor_at buffer service
longest_frame = tt

-- a buffer that would pass 2,048 bytes: none of it copied
pub none_of_it_copied : T (eqb (get_or (sending 0 2046 0x8003 0).part.outgoing 2046 0) 0x55)
unfolding byte_at put_byte bytes_at put_bytes value digits field_at place bits_at begun_by descriptor_at buffer service
none_of_it_copied = tt

-- 13-0 count: bit 14 is none of it
pub count_of_14_bits : T (eqb (get_or (sending 0 14 0xC002 0).part.outgoing 14 0) 0x11)
unfolding byte_at put_byte bytes_at put_bytes value digits field_at place bits_at begun_by descriptor_at buffer service
count_of_14_bits = tt

-- ---- end

-- a NOP that was begun with those flags, and perhaps a waiting SUSPEND, is ended
abbrev ended : (word : ℕ) → (pausing : Bool) → Service
ended word pausing =
    let b = flags word in
    let whole : Begun = record { block = b.block; el = b.el; suspend = b.suspend; interrupt = b.interrupt; pausing = pausing } in
    served (cu.Acting whole action.Nop) []

-- 02, Wish 1: an MC-Setup's addresses are read at the end turn, before the status is written. In 32 bytes eleven of them, from 18h on, run twice
-- over the end of memory and over the block at 10h, whose status is 4000h then
abbrev ring : List ℕ
ring =
    0x20 ∷ 0x21 ∷ 0x22 ∷ 0x23 ∷ 0x24 ∷ 0x25 ∷ 0x26 ∷ 0x27 ∷ 0x28 ∷ 0x29 ∷ 0x2A ∷ 0x2B ∷ 0x2C ∷ 0x2D ∷ 0x2E ∷ 0x2F
    ∷ 0 ∷ 0 ∷ 0x03 ∷ 0x80 ∷ 0 ∷ 0 ∷ 66 ∷ 0 ∷ 1 ∷ 2 ∷ 3 ∷ 4 ∷ 5 ∷ 6 ∷ 7 ∷ 8 ∷ []

abbrev beginning : Service
beginning =
    let p = part (cu.Waiting (record { 0 = 0x10 })) in
    service (record { base = record { 0 = 0 }; unit = p.unit; setup = p.setup; outgoing = p.outgoing }) ring 0

-- 00-40-03-80-00-00 falls on bit 13 and 2E-2F-00-40-03-80 on bit 3; with 0000h in that word they would be 61 and 27, with A000h 37 and 47
pub over_its_own_block : T (eqb (service beginning.part (apply beginning.writes ring) 0).part.setup.filter 0x8A40080120002208)
unfolding byte_at put_byte bytes_at put_bytes value digits field_at place bits_at action_of begun_by header_of begin ones shifted step bits_in register selected hash filtering act next_after end service
over_its_own_block = tt

-- EL makes CU Idle, else S or a waiting SUSPEND makes it Suspended. EL wins over S
pub el_over_s : T (eqb (phase (ended 0xC000 false).part.unit) 0 && eqb (phase (ended 0x4000 false).part.unit) 1
    && eqb (phase (ended 0 true).part.unit) 1 && eqb (phase (ended 0 false).part.unit) 2)
unfolding byte_at put_byte bytes_at put_bytes value digits field_at place bits_at begun_by act next_after end service
el_over_s = tt

-- I raises CX, and nothing else does; leaving Active raises CNA, to Suspended too
pub raised : T ((ended 0x2000 false).raised.cx && not (ended 0x8000 false).raised.cx && not (ended 0x4000 true).raised.cx
    && not (ended 0x2000 false).raised.cna && (ended 0x4000 false).raised.cna && (ended 0x8000 false).raised.cna)
unfolding byte_at put_byte bytes_at put_bytes value digits field_at place bits_at begun_by act next_after end service
raised = tt

-- the length sent is that of header and data: 14, and 2 more behind a buffer of two bytes
abbrev whole : Cu → ℕ
whole cu.Idle = 0
whole (cu.Suspended o) = 0
whole (cu.Waiting o) = 0
whole (cu.Acting b a) = 0
whole (cu.Sending b w) = 0
whole (cu.Ending b n) = (served (cu.Ending b n) []).length
whole (cu.Failing b) = 0

pub sent_whole : T (eqb (whole (begun 0x0004).part.unit) 14 && eqb (whole (sending 0 14 0x8002 0).part.unit) 16)
unfolding byte_at put_byte bytes_at put_bytes value digits field_at place bits_at action_of begun_by header_of begin descriptor_at buffer reported is_sent sent next_after end service
sent_whole = tt

-- 02, Wish 4: with location 1 a Transmit without buffers is a frame of no bytes: it is done as reported, and its length is 0
pub no_bytes : T (eqb (whole (begun_as 2 true).part.unit) 0
    && eqb (word_at (apply (service (begun_as 2 true).part (given []) 0).writes (given [])) 0x50) 0xA000
    && eqb (word_at (apply (service (begun_as 2 true).part (given []) 0x0020).writes (given [])) 0x50) 0x8020)
unfolding byte_at put_byte bytes_at put_bytes value digits field_at place bits_at action_of begun_by header_of begin descriptor_at buffer reported is_sent sent next_after end service
no_bytes = tt

-- with no end of the data found: 8100h, nothing sent
pub nothing_sent : T (eqb (word_at (apply (served (cu.Failing (flags 0)) []).writes (given [])) 0x50) 0x8100
    && eqb (served (cu.Failing (flags 0)) []).length 0)
unfolding byte_at put_byte bytes_at put_bytes value digits field_at place bits_at begun_by reported is_sent sent next_after end service
nothing_sent = tt
