-- Calls that tell a wrong chip from a right one: 8,192 bytes of memory, all zero, and what the definitions make of it. Assumes nothing.
use mathlib.Core.Path.{◌≡◌, refl}
use mathlib.Core.Bool.{true, false}
use mathlib.Core.List.{List}
use Prim.Native.Nat.{ℕ, zero, suc, ◌<◌}
use native.Mathlib.Omega.{arith}
use lib.ListN.{length, get_or, replicate, length-replicate}
use Rattle.memory.specs.Address.{place}
use Rattle.memory.specs.Memory.{word_at}
use Rattle.memory.specs.Size.{Allowed}
use Rattle.memory.specs.declared.Offset.{Offset}
use Rattle.memory.proofs.Bytes.{Bytes, bytes_nil}
use Rattle.scb.specs.Words.{bit, no_events}
use Rattle.device.specs.Limits.{holding_size, outgoing_size}
use Rattle.device.specs.State.{fresh, fresh_form, fresh_settings}
use Rattle.device.specs.declared.Action.TheVariants as action
use Rattle.device.specs.declared.Begun.{Begun}
use Rattle.device.specs.declared.Cu.{Cu}
use Rattle.device.specs.declared.Cu.TheVariants as cu
use Rattle.device.specs.declared.Device.{Device}
use Rattle.device.specs.declared.Ru.TheVariants as ru
use Rattle.device.specs.declared.Units.{Units}
use Rattle.numerals.specs.Places.{bytes_from}
use Rattle.phases.specs.Phases.{number_of, cu_word, ru_word, ru_rest, WordWide}
use Rattle.image.specs.Ranges.{units_fit, cu_fits, ru_fits, initialised_or_fresh, in_range, Wide}
use Rattle.packed.specs.Packed.{packed_of}
use Rattle.packed.specs.SetUp.{setup_bytes}
use Rattle.image.specs.Image.{front, unit_bytes, image_of}
use Rattle.image.proofs.Exact.{fresh_wide, image_bytes}
use Rattle.chip.specs.World.{Ran, world_of}
use Rattle.chip.specs.Call.{Call, attention, turn, ran}
use Rattle.calls.specs.Calls.{answer_number}
use Rattle.traces.specs.Bytes.{sent_length}
use Rattle.closure.specs.Refusals.{FrameRight}
use Rattle.lists.proofs.Tests.{keptb}
use Rattle.kinds.specs.Chips.{Given, Handed}
use Rattle.kinds.specs.Demands.{Acceptable, lent_of}
use Rattle.kinds.specs.Kinds.{setup_in}

-- ---- the areas

abbrev pub zeros : List ℕ
zeros = replicate 8192 0

abbrev pub held_area : List ℕ
held_area = replicate holding_size 0

abbrev pub sent_area : List ℕ
sent_area = replicate outgoing_size 0

zero_each : (n i : ℕ) → get_or (replicate n 0) i 0 < 256
zero_each zero i = omega arith
zero_each (suc n) zero = omega arith
zero_each (suc n) (suc i) = zero_each n i

pub zero_bytes : (n : ℕ) → Bytes (replicate n 0)
zero_bytes n = record { each = zero_each n }

pub smallest : Allowed 8192
smallest = record { least = omega arith; most = omega arith; exponent = 13; power = refl }

pub zeros_allowed : Allowed (length zeros)
zeros_allowed = rw (length-replicate {A = ℕ} 8192 0) smallest

-- ---- a state in range on them is a call that is not refused

pub acceptable_on : (c : Call) (d : Device) → FrameRight c → Wide d → in_range d ≡ true → Acceptable c d zeros held_area sent_area
acceptable_on c d f w e =
    record {
      size = zeros_allowed;
      holding = length-replicate {A = ℕ} holding_size 0;
      outgoing = length-replicate {A = ℕ} outgoing_size 0;
      frame = f;
      wide = w;
      range = e;
    }

-- an attention and a turn bring no frame
pub attending : Given attention
attending = record { frame = bytes_nil; numbers = tt }

pub turning : Given (turn 0)
turning = record { frame = bytes_nil; numbers = omega arith }

pub handed_on : (c : Call) (d : Device) → Given c → Wide d → Handed c (lent_of d zeros held_area sent_area)
handed_on c d g w =
    record {
      given = g;
      areas = record { memory = zero_bytes 8192; holding = zero_bytes holding_size; outgoing = zero_bytes outgoing_size; kept = image_bytes d w };
    }

-- ---- the fresh chip: the first attention reports an edge and writes A000h, a turn does neither

abbrev pub firstly : Ran
firstly = ran attention (world_of fresh zeros held_area sent_area)

abbrev pub idly : Ran
idly = ran (turn 0) (world_of fresh zeros held_area sent_area)

pub first_answer : answer_number firstly.outcome.answer ≡ 4294967296
unfolding keptb answer_number
first_answer = refl

pub idle_answer : answer_number idly.outcome.answer ≡ 0
unfolding keptb answer_number
idle_answer = refl

pub first_status : word_at firstly.memory 0 ≡ 0xA000
unfolding keptb
first_status = refl

pub zero_status : word_at zeros 0 ≡ 0
unfolding keptb
zero_status = refl

-- ---- a begun command at 40h that ends the list, its end turn next; the SCB at 30h, memory all zero

abbrev pub block : Offset
block = record { 0 = 0x40 }

abbrev pub begun : Begun
begun = record { block = block; el = true; suspend = false; interrupt = false; pausing = false }

abbrev pub units_with : Cu → Units
units_with c =
    record {
      initialised = true;
      base = record { 0 = 0 };
      scb = record { 0 = 0x30 };
      events = no_events;
      rulast = false;
      settings = fresh_settings;
      cu = c;
      ru = ru.Idle;
    }

abbrev pub with_unit : Cu → Device
with_unit c = record { units = units_with c; own = replicate 6 255; filter = 0 }

abbrev pub turned : Cu → Ran
turned c = ran (turn 0) (world_of (with_unit c) zeros held_area sent_area)

pub wide_with : (c : Cu) → WordWide (cu_word c) → Wide (with_unit c)
unfolding ru_word
wide_with c k =
    record {
      scb = omega arith;
      minimum = omega arith;
      cu = k;
      ru = record { at = omega arith; kind = omega arith; size = omega arith; next = omega arith };
      own = refl;
      own_bytes_lem = fresh_wide.own_bytes_lem;
      filter = fresh_wide.filter;
    }

pub range_with : (c : Cu) → cu_fits fresh_form c ≡ true → in_range (with_unit c) ≡ true
unfolding in_range units_fit ru_fits initialised_or_fresh
range_with c e = rw e

-- IA-Setup takes six zero bytes for the own address, which was six FFh
abbrev pub setting_up : Cu
setting_up = cu.Acting begun action.IaSetup

pub setting_wide : Wide (with_unit setting_up)
unfolding cu_word
setting_wide = wide_with setting_up (record { at = omega arith; kind = omega arith; size = omega arith; next = omega arith })

pub setting_range : in_range (with_unit setting_up) ≡ true
unfolding cu_fits
setting_range = range_with setting_up refl

pub setting_done : bit (word_at (turned setting_up).memory (place (record { 0 = 0 }) block 0)) 15 ≡ true
unfolding keptb
setting_done = refl

pub was_set : get_or (setup_in (image_of (with_unit setting_up))) 2 0 ≡ 255
unfolding keptb image_of unit_bytes front setup_bytes packed_of number_of cu_word ru_word ru_rest bytes_from
was_set = refl

pub is_set : get_or (setup_in (image_of (turned setting_up).outcome.device)) 2 0 ≡ 0
unfolding keptb image_of unit_bytes front setup_bytes packed_of number_of cu_word ru_word ru_rest bytes_from
is_set = refl

-- TDR's word becomes 8000h
abbrev pub measuring : Cu
measuring = cu.Acting begun action.Tdr

pub measuring_wide : Wide (with_unit measuring)
unfolding cu_word
measuring_wide = wide_with measuring (record { at = omega arith; kind = omega arith; size = omega arith; next = omega arith })

pub measuring_range : in_range (with_unit measuring) ≡ true
unfolding cu_fits
measuring_range = range_with measuring refl

pub measuring_done : bit (word_at (turned measuring).memory (place (record { 0 = 0 }) block 0)) 15 ≡ true
unfolding keptb
measuring_done = refl

pub measured : word_at (turned measuring).memory (place (record { 0 = 0 }) block 6) ≡ 0x8000
unfolding keptb
measured = refl

-- a Transmit without data sends its 14 bytes
abbrev pub sending : Cu
sending = cu.Ending begun 14

pub sending_wide : Wide (with_unit sending)
unfolding cu_word
sending_wide = wide_with sending (record { at = omega arith; kind = omega arith; size = omega arith; next = omega arith })

pub sending_range : in_range (with_unit sending) ≡ true
unfolding cu_fits
sending_range = range_with sending refl

pub sending_done : bit (word_at (turned sending).memory (place (record { 0 = 0 }) block 0)) 15 ≡ true
unfolding keptb
sending_done = refl

pub sent_length_lem : sent_length (answer_number (turned sending).outcome.answer) ≡ 14
unfolding keptb answer_number
sent_length_lem = refl

-- before the turn all words are zero
pub not_done : bit (word_at zeros (place (record { 0 = 0 }) block 0)) 15 ≡ false
unfolding keptb
not_done = refl

pub not_measured : word_at zeros (place (record { 0 = 0 }) block 6) ≡ 0
unfolding keptb
not_measured = refl
