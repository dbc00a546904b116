-- The two records that the document on the record shows, computed: the fresh one, and one at work. Assumes nothing.
use mathlib.Core.Path.{◌≡◌, refl}
use mathlib.Core.Bool.{true, false}
use mathlib.Core.List.{[], ◌∷◌, ◌++◌}
use Prim.Native.Nat.{◌^◌}
use lib.ListN.{replicate}
use Rattle.memory.specs.Memory.{digits}
use Rattle.scb.specs.Words.{joined, event_bits}
use Rattle.device.specs.State.{fresh}
use Rattle.device.specs.declared.Cu.TheVariants as cu
use Rattle.device.specs.declared.Device.{Device}
use Rattle.device.specs.declared.Ru.TheVariants as ru
use Rattle.device.specs.declared.Units.{Units}
use Rattle.device.specs.declared.Verdict.TheVariants as verdict
use Rattle.phases.specs.Forms.{form_number}
use Rattle.phases.specs.Phases.{number_of, cu_word, ru_word, ru_rest}
use Rattle.packed.specs.Packed.{packed_of}
use Rattle.packed.specs.SetUp.{setup_bytes}
use Rattle.image.specs.Ranges.{units_fit, cu_fits, frame_fits, ru_fits, initialised_or_fresh, in_range}
use Rattle.image.specs.Image.{front, unit_bytes, image_of}

-- ---- the fresh record

pub fresh_record : image_of fresh ≡ 0x42 ∷ 0x47 ∷ 0x54 ∷ 0x01 ∷ replicate 237 0 ++ (0x40 ∷ replicate 6 0xFF ++ replicate 8 0)
unfolding image_of unit_bytes front setup_bytes packed_of digits event_bits joined form_number number_of cu_word ru_word ru_rest
fresh_record = refl

-- ---- a record at work: a Transmit at its descriptors, with addresses of two bytes and location 1; and a bad frame that is being saved, which arrived under
-- three bytes and location 0

abbrev pub units : Units
units =
    record {
      initialised = true;
      base = record { 0 = 0x012345 };
      scb = record { 0 = 0x0100 };
      events = record { cx = false; fr = true; cna = false; rnr = false };
      rulast = true;
      settings = record { savebad = true; promiscuous = false; nobroadcast = false; minimum = 64; form = record { length = 2; location = true } };
      cu =
          cu.Sending (record { block = record { 0 = 0x0200 }; el = true; suspend = false; interrupt = true; pausing = false })
          (record { next = record { 0 = 0x0340 }; used = 2; filled = 110 });
      ru =
          ru.Filling
          (record {
            fd = record { 0 = 0x0400 };
            el = false;
            suspend = true;
            pausing = true;
            frame = record { length = 60; verdict = verdict.Crc; short = false; savebad = true; form = record { length = 3; location = false } };
          })
          (record { next = record { 0 = 0x0520 }; used = 1; filled = 34 });
    }

abbrev pub working : Device
working =
    record {
      units = units;
      own = 0x02 ∷ 0x07 ∷ 0x01 ∷ 0x00 ∷ 0x00 ∷ 0x2A ∷ [];
      filter = 2 ^ 52;
    }

pub working_record : image_of working
    ≡ 0x42 ∷ 0x47 ∷ 0x54 ∷ 0x01 ∷ 0x00 ∷ 0x40 ∷ 0x34 ∷ 0x05 ∷ 0x00 ∷ 0x01 ∷ 0x45 ∷ 0x23 ∷ 0x01 ∷ 0x00 ∷ 0x00 ∷ 0x00
    ∷ 0x00 ∷ 0x02 ∷ 0x05 ∷ 0x02 ∷ 0x6E ∷ 0x00 ∷ 0x40 ∷ 0x03 ∷ 0x00 ∷ 0x04 ∷ 0x0D ∷ 0x0D ∷ 0x3C ∷ 0x00 ∷ 0x20 ∷ 0x05
    ∷ 0x22 ∷ 0x00 ∷ 0x01 ∷ 0x00 ∷ 0x00 ∷ 0x00 ∷ 0x00 ∷ 0x00
    ∷ replicate 200 0
    ++ (0x61 ∷ 0x40 ∷ 0x02 ∷ 0x07 ∷ 0x01 ∷ 0x00 ∷ 0x00 ∷ 0x2A ∷ 0x00 ∷ 0x00 ∷ 0x00 ∷ 0x00 ∷ 0x00 ∷ 0x00 ∷ 0x10 ∷ 0x00 ∷ [])
unfolding image_of unit_bytes front setup_bytes packed_of digits event_bits joined form_number number_of cu_word ru_word ru_rest
working_record = refl

pub working_range : in_range working ≡ true
unfolding in_range units_fit cu_fits frame_fits ru_fits initialised_or_fresh
working_range = refl
