-- The SCB's words, field by field: 01, "The SCB". Each is a computed case that another reading fails. Assumes nothing.
use mathlib.Core.Bool.{Bool, true, false, ◌&&◌, not}
use Prim.Native.Nat.{ℕ}
use lib.Dec.{T, eqb}
use Rattle.scb.specs.declared.CuState.TheVariants as cu
use Rattle.scb.specs.declared.Events.{Events}
use Rattle.scb.specs.declared.RuState.TheVariants as ru
use Rattle.scb.specs.Words.{bits_at, joined, acknowledged, event_bits, status_word, cuc, resets, ruc}

abbrev events : (cx fr cna rnr : Bool) → Events
events cx fr cna rnr = record { cx = cx; fr = fr; cna = cna; rnr = rnr }

-- 15 CX, 14 FR, 13 CNA, 12 RNR; 10-8 CUS (0 Idle, 1 Suspended, 2 Active); 6-4 RUS (0 Idle, 1 Suspended, 2 No Resources, 4 Ready)
pub status_words : T (eqb (status_word (events true false true false) cu.Idle ru.Idle) 0xA000
    && eqb (status_word (events false true false true) cu.Suspended ru.NoResources) 0x5120
    && eqb (status_word (events false false false false) cu.Active ru.Ready) 0x0240
    && eqb (status_word (events true true true true) cu.Idle ru.Suspended) 0xF010)
unfolding joined event_bits status_word
status_words = tt

-- 15-12 acknowledge the same events
abbrev left : (command : ℕ) → ℕ
left command = event_bits (acknowledged (events true true true true) command)

pub acknowledged_by_their_bits : T (eqb (left 0x8FFF) 0b0111 && eqb (left 0x4FFF) 0b1011 && eqb (left 0x2FFF) 0b1101 && eqb (left 0x1FFF) 0b1110)
unfolding bits_at joined event_bits acknowledged
acknowledged_by_their_bits = tt

-- 10-8 CUC; 7 RESET; 6-4 RUC
pub command_word : T (eqb (cuc 0x0C4F) 4 && eqb (ruc 0x0C4F) 4 && not (resets 0x0C4F)
    && eqb (cuc 0xF8FF) 0 && eqb (ruc 0xFF8F) 0 && resets 0x0080)
unfolding bits_at
command_word = tt
