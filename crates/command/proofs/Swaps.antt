-- 01, "Readings that swap the columns", as far as they concern one service of the command unit: each is a computed case that the swap fails.
-- Assumes nothing.
use mathlib.Core.Bool.{Bool, false}
use mathlib.Core.List.{[], ◌∷◌}
use Prim.Native.Nat.{ℕ}
use lib.Dec.{T, eqb}
use lib.ListN.{replicate}
use Rattle.memory.specs.Address.{place}
use Rattle.memory.specs.Memory.{byte_at, put_byte, bytes_at, put_bytes, value, digits, field_at, word_at, word_to, apply}
use Rattle.scb.specs.Words.{bits_at}
use Rattle.device.specs.Header.{unbuffered}
use Rattle.device.specs.State.{fresh_form, fresh_settings}
use Rattle.device.specs.declared.Action.TheVariants as action
use Rattle.device.specs.declared.Begun.{Begun}
use Rattle.device.specs.declared.Cu.{Cu}
use Rattle.device.specs.declared.Cu.TheVariants as cu
use Rattle.actions.specs.Actions.{act}
use Rattle.command.specs.Buffer.{descriptor_at, buffer}
use Rattle.command.specs.End.{next_after, end}
use Rattle.command.specs.Part.{Part}
use Rattle.command.specs.Service.{service}

-- a unit with the SCB base at 10h, and a block at offset 40h, address 50h
abbrev part : Cu → Part
part unit =
    record {
      base = record { 0 = 0x10 };
      unit = unit;
      setup = record { settings = fresh_settings; own = replicate 6 255; filter = 0 };
      outgoing = replicate 32 0;
    }

abbrev block : Begun
block = record { block = record { 0 = 0x40 }; el = false; suspend = false; interrupt = false; pausing = false }

-- Adding the base to a buffer's real address: the descriptor at offset 90h points to C0h, where 2211h stands; at D0h stands 4433h
pub base_not_added : T (eqb (word_at (service (part (cu.Sending block (record { next = record { 0 = 0x90 }; used = 0; filled = unbuffered fresh_form })))
    (apply (word_to 0xA0 0x8002 ∷ word_to 0xA4 0xC0 ∷ word_to 0xC0 0x2211 ∷ word_to 0xD0 0x4433 ∷ []) (replicate 256 0)) 0).part.outgoing (unbuffered fresh_form)) 0x2211)
unfolding byte_at put_byte bytes_at put_bytes value digits field_at place bits_at descriptor_at buffer service
base_not_added = tt

-- where a unit will go on
abbrev goes_to : Cu → ℕ → Bool
goes_to cu.Idle o = false
goes_to (cu.Suspended next) o = false
goes_to (cu.Waiting next) o = eqb next.0 o
goes_to (cu.Acting b a) o = false
goes_to (cu.Sending b w) o = false
goes_to (cu.Ending b n) o = false
goes_to (cu.Failing b) o = false

-- a NOP that was begun, with a link in its block, is ended
abbrev ended : ℕ → Cu
ended link = (service (part (cu.Acting block action.Nop)) (apply (word_to 0x54 link ∷ []) (replicate 256 0)) 0).part.unit

-- Taking a link at begin: what a begun command carries has no link, and the one that stands in the block at the end is taken
pub link_at_end : T (goes_to (ended 0x58) 0x58)
unfolding byte_at put_byte bytes_at put_bytes value digits field_at place bits_at act next_after end service
link_at_end = tt

-- Treating FFFFh in a command link as an end: only EL ends
pub ones_are_a_link : T (goes_to (ended 0xFFFF) 0xFFFF)
unfolding byte_at put_byte bytes_at put_bytes value digits field_at place bits_at act next_after end service
ones_are_a_link = tt
