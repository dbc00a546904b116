-- 01, "Readings that swap the columns", as far as they concern an attention: a computed case that the swap fails. Assumes nothing.
use mathlib.Core.Bool.{◌&&◌}
use mathlib.Core.List.{List, [], ◌∷◌}
use Prim.Native.Nat.{ℕ}
use lib.Dec.{T, eqb}
use lib.ListN.{replicate}
use Rattle.memory.specs.Address.{place}
use Rattle.memory.specs.Memory.{byte_at, put_byte, bytes_at, put_bytes, value, digits, field_at, word_at, word_to, apply}
use Rattle.scb.specs.Control.{code_of}
use Rattle.scb.specs.Words.{bits_at, joined, acknowledged, event_bits, status_word, no_events}
use Rattle.device.specs.Change.{initialised_at, with_units}
use Rattle.device.specs.State.{fresh, fresh_units}
use Rattle.device.specs.declared.Device.{Device}
use Rattle.control.specs.Obey.{obey_cuc, obey_ruc}
use Rattle.attention.specs.Status.{status_to}
use Rattle.attention.specs.Attention.{attend_by, attend, attention}

-- an SCB at 30h with base 0, both units Idle
abbrev ready : Device
ready = with_units fresh (initialised_at fresh_units (record { 0 = 0 }) (record { 0 = 0x30 }) no_events)

-- START for both units, and 5 in each of the four counters
abbrev given : List ℕ
given =
    apply
    (word_to 0x32 0x0110 ∷ word_to 0x34 0x40 ∷ word_to 0x36 0x60 ∷ word_to 0x38 5 ∷ word_to 0x3A 5 ∷ word_to 0x3C 5 ∷ word_to 0x3E 5 ∷ [])
    (replicate 256 0)

abbrev left : List ℕ
left = apply (attention ready given).writes given

-- Clearing a counter at START: all four are as they were, both units go on
pub start_clears_nothing : T (eqb (word_at left 0x30) 0x0240 && eqb (word_at left 0x38) 5 && eqb (word_at left 0x3A) 5 && eqb (word_at left 0x3C) 5 && eqb (word_at left 0x3E) 5)
unfolding byte_at put_byte bytes_at put_bytes value digits field_at place code_of bits_at joined acknowledged event_bits status_word obey_cuc obey_ruc status_to attend_by attend attention
start_clears_nothing = tt
