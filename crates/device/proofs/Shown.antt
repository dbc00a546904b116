-- The paper's numbers, and the fresh state: computed cases that another reading fails. Assumes nothing.
use mathlib.Core.Bool.{true, false, ◌&&◌, not}
use Prim.Native.Nat.{ℕ}
use lib.Dec.{T, eqb}
use lib.ListN.{length, replicate}
use Rattle.memory.specs.Memory.{byte_at, put_byte, bytes_at, put_bytes, value, digits, field_at, apply}
use Rattle.memory.specs.Address.{place}
use Rattle.std.specs.Prelude.{Option, Some, None}
use Rattle.device.specs.Answers.{counter_of, reason_of, counts}
use Rattle.device.specs.Header.{header, unbuffered}
use Rattle.device.specs.Limits.{longest_address, type_length, holding_size, outgoing_size, record_size, longest, most_buffers, filter_bits, fcs}
use Rattle.device.specs.Numbers.{verdict_number, verdict_of, refusal_or_0, reason_or_0, counter_place}
use Rattle.device.specs.State.{good_by, ru_works, cu_works, fresh_form, fresh}
use Rattle.device.specs.declared.Counter.{Counter}
use Rattle.device.specs.declared.Counter.TheVariants as counter
use Rattle.device.specs.declared.Cu.TheVariants as cu
use Rattle.device.specs.declared.Fate.{Fate}
use Rattle.device.specs.declared.Fate.TheVariants as fate
use Rattle.device.specs.declared.Refusal.TheVariants as refusal
use Rattle.device.specs.declared.Ru.TheVariants as ru
use Rattle.device.specs.declared.Verdict.TheVariants as verdict

-- 01, "What the desk is buying": any other value is misaligned
pub others_misaligned : T (eqb (verdict_number (verdict_of 3)) 2 && eqb (verdict_number (verdict_of 0xFFFFFFFF)) 2)
unfolding verdict_of
others_misaligned = tt

-- 01, "Calls, lent areas, refusals": 1 N, 3 an arriving frame, 4 the record's content; 0 if not refused. 02, Wish 3: 21 device record, 22 holding area,
-- 23 outgoing area
pub refusals_numbered : T (eqb (refusal_or_0 None) 0 && eqb (refusal_or_0 (Some refusal.Memory)) 1 && eqb (refusal_or_0 (Some refusal.Record)) 21
    && eqb (refusal_or_0 (Some refusal.Holding)) 22 && eqb (refusal_or_0 (Some refusal.Outgoing)) 23 && eqb (refusal_or_0 (Some refusal.Overlong)) 3 && eqb (refusal_or_0 (Some refusal.Foreign)) 4)
refusals_numbered = tt

-- 02, Wish 3: the reasons of the fates of an arriving frame, in the order of the rules. Lost by OVRNERRS or RSCERRS, or held: none
abbrev why : Fate → ℕ
why f = reason_or_0 (reason_of f)

pub reasons_of_fates : T (eqb (why fate.TooFew) 1 && eqb (why fate.NoMatch) 2 && eqb (why fate.UnitIdle) 3 && eqb (why fate.UnitSuspended) 4
    && eqb (why fate.Overrun) 0 && eqb (why (fate.Bad (Some counter.Crc))) 5 && eqb (why (fate.Bad None)) 5
    && eqb (why (fate.Held (Some counter.Alignment))) 0 && eqb (why fate.NoResources) 0)
reasons_of_fates = tt

-- 01, "The SCB": +8 CRCERRS, +10 ALNERRS, +12 RSCERRS, +14 OVRNERRS. Each is increased alone: what the four come to, with an SCB at 0 and
-- every byte of it alike before
abbrev counted : Option Counter → (byte : ℕ) → ℕ
counted c byte = let m = replicate {A = ℕ} 16 byte in field_at 8 (apply (counts c (record { 0 = 0 }) (record { 0 = 0 }) m) m) 8

pub counters_in_place : T (eqb (counted (Some counter.Crc) 7) 0x0707070707070708 && eqb (counted (Some counter.Alignment) 7) 0x0707070707080707
    && eqb (counted (Some counter.Resources) 7) 0x0707070807070707 && eqb (counted (Some counter.Overruns) 7) 0x0708070707070707
    && eqb (counted None 7) 0x0707070707070707 && eqb (counted (Some counter.Crc) 255) 0xFFFFFFFFFFFF0000)
unfolding byte_at put_byte bytes_at put_bytes value digits field_at place counts
counters_in_place = tt

-- the place of a counter, 0 of none
abbrev pub place_or_0 : Option Counter → ℕ
place_or_0 None = 0
place_or_0 (Some c) = counter_place c

-- 01, "Arrival and storing": a frame already held: OVRNERRS; a good one that is not held: RSCERRS; kept out of buffers: RSCERRS too
abbrev place_of : Fate → ℕ
place_of f = place_or_0 (counter_of f)

pub counters_of_fates : T (eqb (place_of fate.Overrun) 14 && eqb (place_of fate.NoResources) 12 && eqb (place_of fate.StoredCounted) 12
    && eqb (place_of fate.Aborted) 0)
counters_of_fates = tt

-- short: bad
pub short_is_bad : T (not (good_by true verdict.Good) && good_by false verdict.Good)
short_is_bad = tt

-- 01, "Turns": after reset the address is six FFh, the minimum length 64, the address length 6, those bits 0; the filter empty, RU first
pub after_reset : T (eqb (length fresh.own) 6 && eqb (value fresh.own) 0xFFFFFFFFFFFF && eqb fresh.units.settings.minimum 64
    && not fresh.units.settings.savebad && not fresh.units.settings.promiscuous && not fresh.units.settings.nobroadcast
    && eqb fresh.units.settings.form.length 6 && not fresh.units.settings.form.location
    && eqb fresh.filter 0 && not fresh.units.rulast && not fresh.units.initialised)
unfolding value
after_reset = tt

-- the sizes and limits
pub limits : T (eqb longest_address 6 && eqb type_length 2 && eqb holding_size 2048 && eqb outgoing_size 2048 && eqb record_size 256 && eqb longest 2048
    && eqb most_buffers 64 && eqb filter_bits 64 && eqb fcs 4)
limits = tt

-- 02, Wish 4: twice the length plus two bytes; with location 1 all of it is in the buffers
pub headers : T (eqb (header 6) 14 && eqb (header 2) 6 && eqb (header 0) 2 && eqb (unbuffered fresh_form) 14
    && eqb (unbuffered (record { length = 2; location = false })) 6 && eqb (unbuffered (record { length = 2; location = true })) 0)
headers = tt

-- 01, "Turns": RU has work while a frame is held, CU while Active
pub works_while : T (ru_works (ru.Held (record { 0 = 0 }) (record { length = 16; verdict = verdict.Good; short = false; savebad = false; form = fresh_form }) false)
    && not (ru_works (ru.Ready (record { 0 = 0 }))) && cu_works (cu.Waiting (record { 0 = 0 })) && not (cu_works (cu.Suspended (record { 0 = 0 }))))
works_while = tt
