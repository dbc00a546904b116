-- Arrival, and one service of the receive unit, sentence by sentence: 01, "Arrival and storing". Each is a computed case that another reading
-- fails. Assumes nothing.
use mathlib.Core.Bool.{Bool, true, false, ◌&&◌, not}
use mathlib.Core.List.{List, [], ◌∷◌}
use Prim.Native.Nat.{ℕ, ◌+◌, ◌*◌}
use lib.Dec.{T, eqb}
use lib.ListN.{replicate, get_or}
use Rattle.memory.specs.Address.{place}
use Rattle.memory.specs.Memory.{byte_at, put_byte, bytes_at, put_bytes, value, digits, field_at, word_at, Write, word_to, apply}
use Rattle.scb.specs.Words.{bits_at, one}
use Rattle.device.specs.Answers.{counter_of, counts, is_held, reason_of}
use Rattle.device.specs.Change.{with_ru, with_settings}
use Rattle.device.specs.Numbers.{verdict_of, reason_or_0}
use Rattle.device.specs.State.{fresh_form, fresh_units}
use Rattle.device.specs.declared.Fate.{Fate}
use Rattle.device.specs.declared.Form.{Form}
use Rattle.device.specs.declared.Frame.{Frame}
use Rattle.device.specs.declared.Ru.{Ru}
use Rattle.device.specs.declared.Ru.TheVariants as ru
use Rattle.device.specs.declared.Settings.{Settings}
use Rattle.device.specs.declared.Storing.{Storing}
use Rattle.device.specs.declared.Verdict.{Verdict}
use Rattle.device.specs.declared.Verdict.TheVariants as verdict
use Rattle.device.proofs.Shown.{place_or_0}
use Rattle.receive.specs.Arrival.{Arrival, length_of, judged, fate_of, arrival}
use Rattle.receive.specs.Begin.{begin, begun_by}
use Rattle.receive.specs.Buffer.{descriptor_at, buffer}
use Rattle.receive.specs.End.{frame_status, settles, close, lack}
use Rattle.receive.specs.Part.{Part, Service}
use Rattle.receive.specs.Service.{service}

-- ---- arrival

abbrev settings : (savebad : Bool) → Settings
settings savebad = record { savebad = savebad; promiscuous = false; nobroadcast = false; minimum = 64; form = fresh_form }

abbrev formed : (length : ℕ) → (location : Bool) → Form
formed length location = record { length = length; location = location }

-- what becomes of a frame of so many bytes that matches
abbrev arrives : (savebad : Bool) → Ru → (bytes verdict : ℕ) → Fate
arrives savebad unit bytes v = fate_of (settings savebad) true unit (replicate bytes 0) v

-- the place of the counter that it adds to, 0 if it adds to none
abbrev counted : Fate → ℕ
counted f = place_or_0 (counter_of f)

-- the same of a service that settles one frame; no place has the number 1
abbrev counted_once : List Fate → ℕ
counted_once [] = 1
counted_once (f ∷ []) = counted f
counted_once (f ∷ g ∷ gs) = 1

abbrev ready : Ru
ready = ru.Ready (record { 0 = 0x50 })

-- shorter than the header, dropped; the header alone is a frame. The minimum length is 0 here, so that neither is short
abbrev held_of : Form → (bytes : ℕ) → Bool
held_of form bytes =
    let any_length : Settings = record { savebad = false; promiscuous = false; nobroadcast = false; minimum = 0; form = form } in
    is_held (fate_of any_length true ready (replicate bytes 0) 0)

pub fourteen_bytes : T (held_of fresh_form 14 && not (held_of fresh_form 13))
unfolding length_of judged fate_of verdict_of
fourteen_bytes = tt

-- 02, Wish 4: two bytes an address make a header of six, and none of two, with location 1 too
pub header_bytes : T (held_of (formed 2 false) 6 && not (held_of (formed 2 false) 5) && held_of (formed 2 true) 6 && not (held_of (formed 2 true) 5)
    && held_of (formed 0 true) 2 && not (held_of (formed 0 true) 1))
unfolding length_of judged fate_of verdict_of
header_bytes = tt

-- RU Suspended, dropped
pub suspended_counts_nothing : T (eqb (counted (arrives false (ru.Suspended (record { 0 = 0x50 })) 60 0)) 0)
unfolding length_of judged fate_of verdict_of
suspended_counts_nothing = tt

-- a frame already held: OVRNERRS, before the verdict is asked
pub overrun_first : T (eqb (counted (arrives true (ru.Held (record { 0 = 0x50 }) (judged (settings true) [] 0) false) 60 1)) 14)
unfolding length_of judged fate_of verdict_of
overrun_first = tt

-- 59 bytes short, 60 not: bytes plus 4 below the minimum. Short: bad, no counter whatever the verdict
pub short_by_five : T (not (is_held (arrives false ready 59 0)) && is_held (arrives false ready 60 0)
    && eqb (counted (arrives false ready 59 1)) 0 && eqb (counted (arrives false ready 59 2)) 0)
unfolding length_of judged fate_of verdict_of
short_by_five = tt

-- misaligned verdict: bad, ALNERRS; CRC verdict: bad, CRCERRS; with save-bad set held, and counted all the same
pub bad_counted : T (eqb (counted (arrives false ready 60 1)) 8 && eqb (counted (arrives false ready 60 2)) 10
    && not (is_held (arrives false ready 60 1)) && is_held (arrives true ready 60 1) && eqb (counted (arrives true ready 60 1)) 8)
unfolding length_of judged fate_of verdict_of
bad_counted = tt

-- a good one is held in Ready, else RSCERRS; a bad one in No Resources has its own counter alone, saved or not
pub lacking_counted : T (eqb (counted (arrives false ru.NoResources 60 0)) 12 && eqb (counted (arrives true ru.NoResources 60 1)) 8)
unfolding length_of judged fate_of verdict_of
lacking_counted = tt

-- 02, Wish 3: the reasons, as the order reaches them: too few before no match, no match before Idle and Suspended, these before bad; a frame already held
-- is no reason, bad or not, nor is RSCERRS; a bad frame in No Resources is not saved, whatever save-bad says
abbrev why : (savebad matched : Bool) → Ru → (bytes verdict : ℕ) → ℕ
why savebad matched unit bytes v = reason_or_0 (reason_of (fate_of (settings savebad) matched unit (replicate bytes 0) v))

-- a frame is held that has run out of buffers, and whose end is next
abbrev out_of_them : Ru
out_of_them = ru.Lacking (record { fd = record { 0 = 0x50 }; el = false; suspend = false; pausing = false; frame = judged (settings true) [] 0 })

pub reasons_in_order : T (eqb (why false false ru.Idle 13 1) 1 && eqb (why false false ru.Idle 60 1) 2 && eqb (why false true ru.Idle 60 1) 3
    && eqb (why false false (ru.Suspended (record { 0 = 0x50 })) 60 1) 2 && eqb (why false true (ru.Suspended (record { 0 = 0x50 })) 60 1) 4
    && eqb (why false true (ru.Held (record { 0 = 0x50 }) (judged (settings true) [] 0) false) 60 1) 0 && eqb (why false true out_of_them 60 1) 0
    && eqb (why false true ru.NoResources 60 0) 0
    && eqb (why true true ru.NoResources 60 1) 5 && eqb (why false true ready 59 0) 5 && eqb (why false true ready 60 2) 5
    && eqb (why true true ready 60 2) 0 && eqb (why false true ready 60 0) 0)
unfolding length_of judged fate_of verdict_of
reasons_in_order = tt

-- only a held frame enters the holding area
abbrev arrived : (matched : Bool) → Arrival
arrived matched = arrival (with_ru (with_settings fresh_units (settings false)) ready) matched (replicate 60 7) 0 (replicate 64 0) (replicate 64 5)

pub held_alone : T (eqb (get_or (arrived true).area 59 0) 7 && eqb (get_or (arrived true).area 60 0) 5 && eqb (get_or (arrived false).area 0 0) 5)
unfolding length_of judged fate_of verdict_of counts arrival
held_alone = tt

-- ---- storing. The SCB base is 10h, the SCB at offset 30h, address 40h; the frame descriptor at offset 50h, address 60h

abbrev part : Ru → Part
part unit = record { base = record { 0 = 0x10 }; scb = record { 0 = 0x30 }; unit = unit; holding = replicate 32 0x77 }

abbrev given : List Write → List ℕ
given ws = apply ws (replicate 256 0)

abbrev framed : (length : ℕ) → Verdict → (short savebad : Bool) → Frame
framed length v short savebad = record { length = length; verdict = v; short = short; savebad = savebad; form = fresh_form }

abbrev good : (length : ℕ) → Frame
good length = framed length verdict.Good false false

abbrev storing : (el suspend pausing : Bool) → Frame → Storing
storing el suspend pausing f = record { fd = record { 0 = 0x50 }; el = el; suspend = suspend; pausing = pausing; frame = f }

-- what a service of a unit comes to, and memory after it
abbrev served : Ru → List Write → Service
served unit ws = service (part unit) (given ws)

abbrev left : Ru → List Write → List ℕ
left unit ws = apply (served unit ws).writes (given ws)

-- the phase of a unit, by number
abbrev phase : Ru → ℕ
phase ru.Idle = 0
phase (ru.Suspended o) = 1
phase ru.NoResources = 2
phase (ru.Ready o) = 3
phase (ru.Held o f p) = 4
phase (ru.Filling s w) = 5
phase (ru.Closing s o e) = 6
phase (ru.Lacking s) = 7

-- ---- begin

-- read +2 and +6, write 4000h; +2: 15 EL, 14 S; data at FFFFh: out of buffers
abbrev begun : List Write → Service
begun ws = served (ru.Held (record { 0 = 0x50 }) (good 16) false) ws

-- EL and S as the unit keeps them, 2 and 1
abbrev flags : Ru → ℕ
flags ru.Idle = 0
flags (ru.Suspended o) = 0
flags ru.NoResources = 0
flags (ru.Ready o) = 0
flags (ru.Held o f p) = 0
flags (ru.Filling s w) = one s.el * 2 + one s.suspend
flags (ru.Closing s o e) = one s.el * 2 + one s.suspend
flags (ru.Lacking s) = one s.el * 2 + one s.suspend

pub beginning : T (eqb (word_at (left (ru.Held (record { 0 = 0x50 }) (good 16) false) []) 0x60) 0x4000
    && eqb (phase (begun (word_to 0x66 0x90 ∷ [])).unit) 5 && eqb (phase (begun (word_to 0x66 0xFFFF ∷ [])).unit) 7
    && eqb (flags (begun (word_to 0x62 0x8000 ∷ [])).unit) 2 && eqb (flags (begun (word_to 0x62 0x4000 ∷ [])).unit) 1)
unfolding byte_at put_byte bytes_at put_bytes value digits field_at place bits_at begun_by begin service
beginning = tt

-- ---- buffer

-- a frame of 16 bytes at its only data, 2 bytes; so many buffers used; a descriptor at address A0h with that word at +8
abbrev filling : (used word next : ℕ) → Service
filling used word next =
    served (ru.Filling (storing false false false (good 16)) (record { next = record { 0 = 0x90 }; used = used; filled = 14 }))
    (word_to 0xA2 next ∷ word_to 0xA4 0xC0 ∷ word_to 0xA8 word ∷ [])

-- the unit knows whether the last buffer used had EL
abbrev full : Ru → Bool
full ru.Idle = false
full (ru.Suspended o) = false
full ru.NoResources = false
full (ru.Ready o) = false
full (ru.Held o f p) = false
full (ru.Filling s w) = false
full (ru.Closing s o e) = e
full (ru.Lacking s) = false

-- data left after EL, after 64, or at FFFFh: out of buffers
pub out_of_buffers : T (eqb (phase (filling 62 1 0x98).unit) 5 && eqb (phase (filling 63 1 0x98).unit) 7
    && eqb (phase (filling 63 2 0x98).unit) 6
    && eqb (phase (filling 0 0x8001 0x98).unit) 7 && eqb (phase (filling 0 1 0xFFFF).unit) 7)
unfolding byte_at put_byte bytes_at put_bytes value digits field_at place bits_at descriptor_at buffer service
out_of_buffers = tt

-- EL on the last buffer used
pub last_had_el : T (full (filling 0 0x8002 0x98).unit && not (full (filling 0 2 0x98).unit))
unfolding byte_at put_byte bytes_at put_bytes value digits field_at place bits_at descriptor_at buffer service
last_had_el = tt

-- then writes F, count, and EOF if the data ends there; size 0 too. 13-0 size: bit 14 is none of it
abbrev marked : (word : ℕ) → ℕ
marked word = word_at (apply (filling 0 word 0x98).writes (given [])) 0xA0

pub filled_words : T (eqb (marked 1) 0x4001 && eqb (marked 2) 0xC002 && eqb (marked 0x4000) 0x4000)
unfolding byte_at put_byte bytes_at put_bytes value digits field_at place bits_at descriptor_at buffer service
filled_words = tt

-- ---- end

-- a frame that is all stored, or out of buffers
abbrev closing : Storing → (full : Bool) → Ru
closing s full = ru.Closing s (record { 0 = 0x90 }) full

abbrev lacking : (savebad : Bool) → Verdict → Ru
lacking savebad v = ru.Lacking (storing false false false (framed 16 v false savebad))

-- the status that it leaves; the descriptor is busy, and its link is 80h
abbrev status : Ru → ℕ
status unit = word_at (left unit (word_to 0x60 0x4000 ∷ word_to 0x64 0x80 ∷ [])) 0x60

-- all bits that apply are set, 10 excluding 11; OK only with no error bit
pub status_bits : T (eqb (status (closing (storing false false false (good 16)) false)) 0xA000
    && eqb (status (closing (storing false false false (framed 16 verdict.Misaligned true true)) false)) 0x8480
    && eqb (status (closing (storing false false false (framed 16 verdict.Crc false true)) false)) 0x8800)
unfolding byte_at put_byte bytes_at put_bytes value digits field_at place bits_at counts frame_status settles close service
status_bits = tt

-- out of buffers: kept with bit 9 if save-bad was set at arrival; else status 0000h, no FR
pub kept_or_not : T (eqb (status (lacking true verdict.Good)) 0x8200 && eqb (status (lacking false verdict.Good)) 0
    && (served (lacking true verdict.Good) []).raised.fr && not (served (lacking false verdict.Good) []).raised.fr)
unfolding byte_at put_byte bytes_at put_bytes value digits field_at place bits_at counts frame_status settles lack service
kept_or_not = tt

-- either way RSCERRS follows if otherwise good, and No Resources
pub lacking_adds_one : T (eqb (counted_once (served (lacking true verdict.Good) []).fates) 12
    && eqb (counted_once (served (lacking false verdict.Good) []).fates) 12
    && eqb (counted_once (served (lacking true verdict.Crc) []).fates) 0 && eqb (phase (served (lacking false verdict.Good) []).unit) 2
    && eqb (phase (served (lacking true verdict.Good) []).unit) 2 && (served (lacking true verdict.Good) []).raised.rnr)
unfolding byte_at put_byte bytes_at put_bytes value digits field_at place bits_at counts frame_status settles lack service
lacking_adds_one = tt

-- descriptor EL, or EL on the last buffer used, gives No Resources, which wins over Suspended; else S or a waiting SUSPEND suspends
abbrev goes : (el suspend pausing full : Bool) → ℕ
goes el suspend pausing full = phase (served (closing (storing el suspend pausing (good 16)) full) []).unit

pub lacking_over_suspended : T (eqb (goes true true false false) 2 && eqb (goes false true true true) 2
    && eqb (goes false true false false) 1 && eqb (goes false false true false) 1 && eqb (goes false false false false) 3)
unfolding byte_at put_byte bytes_at put_bytes value digits field_at place bits_at counts frame_status settles close service
lacking_over_suspended = tt

-- +6 of the next frame descriptor (link read now) gets the next free offset
abbrev after : Ru → List Write → List ℕ
after unit ws = left unit (word_to 0x64 0x80 ∷ ws)

pub next_free : T (eqb (word_at (after (closing (storing false false false (good 16)) false) []) 0x96) 0x90)
unfolding byte_at put_byte bytes_at put_bytes value digits field_at place bits_at counts frame_status settles close service
next_free = tt

-- no data: FFFFh at +6, and the next descriptor gets the +6 read at begin
abbrev bare : Ru
bare = (begin (part ru.Idle) (record { 0 = 0x50 }) (good 14) false (given (word_to 0x66 0xA8 ∷ []))).unit

pub no_data : T (eqb (word_at (after bare (word_to 0x66 0xA8 ∷ [])) 0x66) 0xFFFF && eqb (word_at (after bare (word_to 0x66 0xA8 ∷ [])) 0x96) 0xA8)
unfolding byte_at put_byte bytes_at put_bytes value digits field_at place bits_at counts frame_status settles close service begun_by begin
no_data = tt

-- ---- 02, Wish 4: "A held frame is stored by the length and location it arrived under"

-- a good frame of that many bytes, held under that form
abbrev held_under : Form → (length : ℕ) → Frame
held_under form length = record { length = length; verdict = verdict.Good; short = false; savebad = false; form = form }

-- its end: the descriptor has no more of the frame than its header, packed; with location 1 nothing from +8 on is written, and 77h goes to no byte of it
abbrev descriptor : Form → List ℕ
descriptor form = after (closing (storing false false false (held_under form 16)) false) []

pub header_packed : T (eqb (field_at 8 (descriptor (formed 2 false)) 0x68) 0x0000777777777777 && eqb (field_at 8 (descriptor (formed 0 false)) 0x68) 0x0000000000007777
    && eqb (field_at 8 (descriptor (formed 2 true)) 0x68) 0)
unfolding byte_at put_byte bytes_at put_bytes value digits field_at place bits_at counts frame_status settles close service
header_packed = tt

-- how far it is when its data begins: behind the header, with location 1 at its first byte; a header alone has no data with location 0, and with location 1 has
abbrev data_from : Ru → ℕ
data_from ru.Idle = 99
data_from (ru.Suspended o) = 99
data_from ru.NoResources = 99
data_from (ru.Ready o) = 99
data_from (ru.Held o f p) = 99
data_from (ru.Filling s w) = w.filled
data_from (ru.Closing s o e) = 88
data_from (ru.Lacking s) = 99

abbrev begun_under : Form → (length : ℕ) → ℕ
begun_under form length = data_from (served (ru.Held (record { 0 = 0x50 }) (held_under form length) false) (word_to 0x66 0x90 ∷ [])).unit

pub data_begins : T (eqb (begun_under (formed 2 false) 7) 6 && eqb (begun_under (formed 2 false) 6) 88 && eqb (begun_under (formed 2 true) 6) 0
    && eqb (begun_under (formed 0 true) 2) 0)
unfolding byte_at put_byte bytes_at put_bytes value digits field_at place bits_at begun_by begin service
data_begins = tt
