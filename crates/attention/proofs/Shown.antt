-- An attention, step by step: 01, "First attention after reset" and "The SCB". Each is a computed case that another reading fails.
-- Assumes nothing.
use mathlib.Core.Bool.{Bool, true, false, ◌&&◌, not}
use mathlib.Core.List.{List, [], ◌∷◌}
use Prim.Native.Nat.{ℕ}
use lib.Dec.{T, eqb}
use lib.ListN.{replicate, get_or}
use Rattle.memory.specs.Address.{place, beyond}
use Rattle.memory.specs.Memory.{byte_at, put_byte, bytes_at, put_bytes, value, digits, field_at, word_at, Write, word_to, apply}
use Rattle.scb.specs.Control.{code_of}
use Rattle.scb.specs.Words.{bits_at, joined, acknowledged, any_of, event_bits, status_word}
use Rattle.scb.specs.declared.Events.{Events}
use Rattle.device.specs.Change.{initialised_at, with_units, with_addressing, with_cu}
use Rattle.device.specs.State.{fresh, fresh_units, cu_state, is_active, ru_state, is_ready}
use Rattle.device.specs.declared.Action.TheVariants as action
use Rattle.device.specs.declared.Cu.{Cu}
use Rattle.device.specs.declared.Cu.TheVariants as cu
use Rattle.device.specs.declared.Device.{Device}
use Rattle.device.specs.declared.Ru.{Ru}
use Rattle.device.specs.declared.Ru.TheVariants as ru
use Rattle.device.specs.declared.Units.{Units}
use Rattle.control.specs.Obey.{obey_cuc, obey_ruc}
use Rattle.attention.specs.Status.{status_to}
use Rattle.attention.specs.Attention.{Attended, iscp_of, initialise, attend_by, attend, attention}

abbrev given : List Write → List ℕ
given ws = apply ws (replicate 256 0)

-- ---- the first attention after reset

-- in 256 bytes FFFFFCh is FCh: ISCP at 20h, its BUSY byte and the byte behind it FFh; SCB offset 30h, base 10h, so the SCB is at 40h
abbrev first : List Write
first = word_to 0xFC 0x20 ∷ word_to 0x20 0xFFFF ∷ word_to 0x22 0x30 ∷ word_to 0x24 0x10 ∷ word_to 0x42 0x0110 ∷ []

abbrev initialised : List ℕ
initialised = apply (attention fresh (given first)).writes (given first)

-- BUSY byte +0, SCB offset +2, SCB base (real) +4: clears BUSY, writes SCB status A000h and command 0000h. It doesn't obey the command word,
-- which has both STARTs: both units are Idle
abbrev both_idle : Units → Bool
both_idle u = not (is_active (cu_state u.cu)) && not (is_ready (ru_state u.ru))

pub first_attention : T (eqb (word_at initialised 0x20) 0xFF00 && eqb (word_at initialised 0x40) 0xA000 && eqb (word_at initialised 0x42) 0
    && both_idle (attention fresh (given first)).outcome.device.units)
unfolding byte_at put_byte bytes_at put_bytes value digits field_at place beyond iscp_of initialise attention
first_attention = tt

-- ---- every other attention

abbrev events : (cx fr cna rnr : Bool) → Events
events cx fr cna rnr = record { cx = cx; fr = fr; cna = cna; rnr = rnr }

-- base 0 and the SCB at 30h, with those events set and that command unit; own address six 66h
abbrev device : Events → Cu → Device
device e c =
    let units = with_cu (initialised_at fresh_units (record { 0 = 0 }) (record { 0 = 0x30 }) e) c in
    with_addressing (with_units fresh units) (replicate 6 0x66) 9

-- a command that is begun, with its block where the RFA offset stands
abbrev acting : Cu
acting = cu.Acting (record { block = record { 0 = 0x36 }; el = false; suspend = false; interrupt = false; pausing = false }) action.Nop

abbrev attended : Events → Cu → (command : ℕ) → Attended
attended e c command = attention (device e c) (given (word_to 0x32 command ∷ word_to 0x30 0x1234 ∷ []))

abbrev left : Events → Cu → (command : ℕ) → List ℕ
left e c command = apply (attended e c command).writes (given (word_to 0x32 command ∷ word_to 0x30 0x1234 ∷ []))

-- if RESET, write command 0 and become as after reset, nothing else: no status, no edge, no code obeyed; the own address is six FFh again, the filter empty
pub resets_alone : T (eqb (word_at (left (events true false false false) acting 0x8480) 0x32) 0
    && eqb (word_at (left (events true false false false) acting 0x8480) 0x30) 0x1234
    && eqb (word_at (left (events true false false false) acting 0x8480) 0x36) 0
    && not (attended (events true false false false) acting 0x8480).outcome.answer.edge
    && eqb (get_or (attended (events true false false false) acting 0x8480).outcome.device.own 0 0) 255
    && eqb (attended (events true false false false) acting 0x8480).outcome.device.filter 0)
unfolding byte_at put_byte bytes_at put_bytes value digits field_at place bits_at attend_by attend attention
resets_alone = tt

-- clear acknowledged events; obey CUC: a CNA that the ABORT raises stays, though CNA was acknowledged
pub acknowledged_before : T (eqb (word_at (left (events false false true true) acting 0x2400) 0x30) 0x3000)
unfolding byte_at put_byte bytes_at put_bytes value digits field_at place code_of bits_at joined acknowledged event_bits status_word obey_cuc obey_ruc status_to attend_by attend attention
acknowledged_before = tt

-- an edge is reported when an attention leaves any event set, raised before or now; with all acknowledged none is
abbrev edge : Cu → (command : ℕ) → Bool
edge c command = (attended (events true false false false) c command).outcome.answer.edge

pub edge_while_set : T (edge cu.Idle 0 && not (edge cu.Idle 0x8000) && edge acting 0x8400)
unfolding byte_at put_byte bytes_at put_bytes value digits field_at place code_of bits_at joined acknowledged any_of event_bits status_word obey_cuc obey_ruc status_to attend_by attend attention
edge_while_set = tt

-- obey CUC; obey RUC: a START finds as RFA offset what the abort before it wrote there
abbrev ready_at : Ru → ℕ
ready_at ru.Idle = 0
ready_at ru.NoResources = 0
ready_at (ru.Suspended fd) = 0
ready_at (ru.Ready fd) = fd.0
ready_at (ru.Held fd f p) = 0
ready_at (ru.Filling s w) = 0
ready_at (ru.Closing s free full) = 0
ready_at (ru.Lacking s) = 0

pub cuc_before_ruc : T (eqb (ready_at (attended (events false false false false) acting 0x0410).outcome.device.units.ru) 0x9000)
unfolding byte_at put_byte bytes_at put_bytes value digits field_at place code_of bits_at acknowledged obey_cuc obey_ruc attend_by attend attention
cuc_before_ruc = tt
