-- A turn, sentence by sentence: 01, "The SCB" and "Turns". Each is a computed case that another reading fails. Assumes nothing.
use mathlib.Core.Bool.{Bool, true, false, ◌&&◌, not}
use mathlib.Core.List.{List, [], ◌∷◌}
use Prim.Native.Nat.{ℕ}
use lib.Dec.{T, eqb}
use lib.ListN.{replicate}
use Rattle.memory.specs.Address.{place}
use Rattle.memory.specs.Memory.{byte_at, put_byte, bytes_at, put_bytes, value, digits, field_at, word_at, word_to, apply}
use Rattle.scb.specs.Words.{bits_at, joined, any_of, event_bits, status_word}
use Rattle.device.specs.Change.{initialised_at, served_ru, with_units, with_cu, with_ru}
use Rattle.device.specs.Numbers.{action_of}
use Rattle.device.specs.State.{fresh, fresh_form, fresh_units}
use Rattle.device.specs.declared.Action.TheVariants as action
use Rattle.device.specs.declared.Cu.{Cu}
use Rattle.device.specs.declared.Cu.TheVariants as cu
use Rattle.device.specs.declared.Ru.{Ru}
use Rattle.device.specs.declared.Ru.TheVariants as ru
use Rattle.device.specs.declared.Verdict.TheVariants as verdict
use Rattle.command.specs.Begin as command_begin
use Rattle.actions.specs.Actions.{act}
use Rattle.command.specs.End.{next_after, end}
use Rattle.command.specs.Service as command_service
use Rattle.receive.specs.Begin as receive_begin
use Rattle.receive.specs.Service as receive_service
use Rattle.attention.specs.Status.{status_to}
use Rattle.chip.specs.World.{World}
use Rattle.chip.specs.Turn.{concluded, command_turn, receive_turn, turn_of}

-- base 0 and the SCB at 30h, CX set; 1234h stands in the SCB's status, a NOP with I in the block at 40h
abbrev world : Cu → Ru → (rulast : Bool) → World
world c r rulast =
    let units = initialised_at fresh_units (record { 0 = 0 }) (record { 0 = 0x30 }) (record { cx = true; fr = false; cna = false; rnr = false }) in
    record {
      device = with_units fresh (served_ru (with_ru (with_cu units c) r) rulast);
      memory = apply (word_to 0x30 0x1234 ∷ word_to 0x42 0x2000 ∷ []) (replicate 128 0);
      holding = replicate 16 0;
      outgoing = replicate 16 0;
    }

-- a NOP with I that was begun, with its block there
abbrev acting : (block : ℕ) → Cu
acting block = cu.Acting (record { block = record { 0 = block }; el = false; suspend = false; interrupt = true; pausing = false }) action.Nop

abbrev waiting : Cu
waiting = cu.Waiting (record { 0 = 0x40 })

abbrev held : Ru
held = ru.Held (record { 0 = 0x60 }) (record { length = 16; verdict = verdict.Good; short = false; savebad = false; form = fresh_form }) false

-- an edge is reported when an event is raised, again included: CX was set before
pub edge_again : T ((turn_of (world (acting 0x40) ru.Idle false) 0).outcome.answer.edge
    && not (turn_of (world waiting ru.Idle false) 0).outcome.answer.edge)
unfolding byte_at put_byte bytes_at put_bytes value digits field_at place bits_at joined any_of event_bits status_word action_of act next_after end command_begin.begun_by command_begin.begin command_service.service status_to concluded command_turn turn_of
edge_again = tt

-- status is written as the last write: a block that lies over the SCB does not hide it
pub status_last : T (eqb (word_at (turn_of (world (acting 0x30) ru.Idle false) 0).memory 0x30) 0x8200)
unfolding byte_at put_byte bytes_at put_bytes value digits field_at place bits_at joined any_of event_bits status_word act next_after end command_service.service status_to concluded command_turn turn_of
status_last = tt

-- at every turn that raises an event or changes a unit's state: a begin turn does neither
pub status_not_always : T (eqb (word_at (turn_of (world waiting ru.Idle false) 0).memory 0x30) 0x1234
    && eqb (word_at (turn_of (world waiting ru.Idle false) 0).memory 0x40) 0x4000)
unfolding byte_at put_byte bytes_at put_bytes value digits field_at place bits_at joined any_of event_bits status_word action_of command_begin.begun_by command_begin.begin command_service.service status_to concluded command_turn turn_of
status_not_always = tt

-- if both have work, the unit not served at the last working turn is served
abbrev served : (rulast : Bool) → List ℕ
served rulast = (turn_of (world waiting held rulast) 0).memory

pub by_turns : T (eqb (word_at (served true) 0x40) 0x4000 && eqb (word_at (served true) 0x60) 0
    && eqb (word_at (served false) 0x40) 0 && eqb (word_at (served false) 0x60) 0x4000)
unfolding byte_at put_byte bytes_at put_bytes value digits field_at place bits_at joined any_of event_bits status_word action_of command_begin.begun_by command_begin.begin command_service.service receive_begin.begun_by receive_begin.begin receive_service.service status_to concluded command_turn receive_turn turn_of
by_turns = tt
