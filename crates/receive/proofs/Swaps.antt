-- 01, "Readings that swap the columns", as far as they concern arrival and one service of the receive unit: each is a computed case that the
-- swap fails. Assumes nothing.
use mathlib.Core.Bool.{Bool, true, false, ◌&&◌, not}
use mathlib.Core.List.{List, [], ◌∷◌}
use Prim.Native.Nat.{ℕ}
use lib.Dec.{T, eqb}
use lib.ListN.{replicate}
use Rattle.std.specs.Prelude.{is_some}
use Rattle.memory.specs.Address.{place}
use Rattle.memory.specs.Memory.{byte_at, put_byte, bytes_at, put_bytes, value, digits, field_at, word_at, word_to, apply}
use Rattle.scb.specs.Words.{bits_at}
use Rattle.device.specs.Answers.{counter_of}
use Rattle.device.specs.Header.{unbuffered}
use Rattle.device.specs.Numbers.{verdict_of}
use Rattle.device.specs.State.{fresh_form, fresh_settings}
use Rattle.device.specs.declared.Frame.{Frame}
use Rattle.device.specs.declared.Ru.TheVariants as ru
use Rattle.device.specs.declared.Storing.{Storing}
use Rattle.device.specs.declared.Verdict.TheVariants as verdict
use Rattle.receive.specs.Arrival.{length_of, judged, fate_of}
use Rattle.receive.specs.Buffer.{descriptor_at, buffer}
use Rattle.receive.specs.Part.{Part}
use Rattle.receive.specs.Service.{service}

-- a frame of 16 bytes, all 77h, on its way into buffers
abbrev frame : Frame
frame = record { length = 16; verdict = verdict.Good; short = false; savebad = false; form = fresh_form }

abbrev storing : Storing
storing = record { fd = record { 0 = 0x50 }; el = false; suspend = false; pausing = false; frame = frame }

abbrev part : Part
part =
    record {
      base = record { 0 = 0x10 };
      scb = record { 0 = 0x30 };
      unit = ru.Filling storing (record { next = record { 0 = 0x90 }; used = 0; filled = unbuffered fresh_form });
      holding = replicate 32 0x77;
    }

-- Adding the base to a buffer's real address: the descriptor at offset 90h points to C0h, and nothing goes to D0h
abbrev filled : List ℕ
filled =
    let m = apply (word_to 0xA4 0xC0 ∷ word_to 0xA8 20 ∷ []) (replicate 256 0) in apply (service part m).writes m

pub base_not_added : T (eqb (word_at filled 0xC0) 0x7777 && eqb (word_at filled 0xD0) 0 && eqb (word_at filled 0xA0) 0xC002)
unfolding byte_at put_byte bytes_at put_bytes value digits field_at place bits_at descriptor_at buffer service
base_not_added = tt

-- Counting frames lost while Idle: whatever the verdict, no counter
abbrev uncounted : ℕ → Bool
uncounted v = not (is_some (counter_of (fate_of fresh_settings true ru.Idle (replicate 60 0) v)))

pub idle_counts_nothing : T (uncounted 0 && uncounted 1 && uncounted 2)
unfolding length_of judged fate_of verdict_of
idle_counts_nothing = tt
