-- The premises can be met at an unruly start: the command unit is Suspended, and the attention that starts the list acknowledges every event and aborts
-- a frame whose storing is begun. The list is a Transmit whose data lies over its own status word, so that it sends its own 4000h, and a NOP with S;
-- frames arrive all the while. Assumes nothing.
use mathlib.Core.Path.{◌≡◌, refl}
use mathlib.Core.Bool.{true, false}
use mathlib.Core.List.{List, [], ◌∷◌, ◌++◌}
use Prim.Native.Nat.{ℕ}
use lib.Dec.{lit≤}
use lib.ListN.{length, replicate}
use Rattle.memory.specs.Memory.{word_at}
use Rattle.scb.specs.Words.{cbl_at}
use Rattle.device.specs.Change.{with_units, initialised_at}
use Rattle.device.specs.Limits.{holding_size, outgoing_size}
use Rattle.device.specs.State.{cu_state, is_active, is_holding, fresh}
use Rattle.device.specs.declared.Cu.TheVariants as cu
use Rattle.device.specs.declared.Ru.TheVariants as ru
use Rattle.actions.specs.Setup.{setup_of}
use Rattle.control.specs.Obey.{of_scb}
use Rattle.chip.specs.Cases.{Word, ◌is◌, put}
use Rattle.chip.specs.Call.{attention, arrive, turn}
use Rattle.chip.specs.World.{World, world_of}
use Rattle.traces.specs.Event.{Event, call, host, step, DuringList}
use Rattle.progress.specs.Trace.{run}
use Rattle.progress.specs.Machine.{Undisturbed, log}
use Rattle.progress.proofs.Trace.{may_append}
use Rattle.lists.specs.Uses.{Listed, first_of}
use Rattle.lists.specs.Unit.{machine, began, ended}
use Rattle.lists.specs.Done.{Starts, due, Premises, enough, Done, bytes_of}
use Rattle.lists.proofs.Whole.{attention_list_done}
use Rattle.lists.proofs.Tests.{keptb, kept_ok, clash_ok, calls_ok, kept_append, idle_kept}
use Rattle.worked.proofs.Witness.{frame}

-- ---- the board

-- a NOP with S at 18h; a Transmit with I at 20h, whose descriptor at 30h has the two bytes at 20h; a NOP with S at 38h
abbrev blocks : List Word
blocks =
    0x1A is 0x4000
    ∷ 0x22 is 0x2004 ∷ 0x24 is 0x38 ∷ 0x26 is 0x30 ∷ 0x30 is 0x8002 ∷ 0x32 is 0xFFFF ∷ 0x34 is 0x20
    ∷ 0x3A is 0x4000
    ∷ []

-- a frame descriptor at 40h, linked to itself; a buffer descriptor at 58h, linked to itself, with 20 bytes at 70h
abbrev descriptors : List Word
descriptors = 0x44 is 0x40 ∷ 0x46 is 0x58 ∷ 0x5A is 0x58 ∷ 0x5C is 0x70 ∷ 0x60 is 20 ∷ []

-- initialised, with the SCB at 8 and base 0
abbrev settled : World
settled =
    world_of
    (with_units fresh (initialised_at fresh.units (record { 0 = 0 }) (record { 0 = 0x08 }) (record { cx = true; fr = false; cna = true; rnr = false })))
    (put descriptors (put blocks (replicate 8192 0))) (replicate holding_size 0) (replicate outgoing_size 0)

-- the host writes the SCB's command, and its CBL and RFA offset
abbrev told : (command cbl : ℕ) → World → World
told command cbl w = step (host (put (0x0A is command ∷ 0x0C is cbl ∷ 0x0E is 0x40 ∷ []) w.memory) w.holding w.outgoing) w

-- both units are started; a frame arrives and is in its buffers when the first NOP suspends the command unit
abbrev storing : World
storing =
    run step (call (arrive (frame 1) 0) ∷ replicate 4 (call (turn 0))) (step (call attention) (told 0xF110 0x18 settled))

-- all acknowledged, CUC START, RUC ABORT
abbrev pub before : World
before = told 0xF140 0x20 storing

-- the unit is Suspended by the NOP's S, before the block that its link says; a frame is held, and its descriptor has 4000h
pub was_suspended : before.device.units.cu ≡ cu.Suspended (record { 0 = 0 })
unfolding keptb
was_suspended = refl

pub was_storing : (is_holding before.device.units.ru ≡ true) × (word_at before.memory 0x40 ≡ 0x4000) × (word_at before.memory 0x08 ≡ 0x2140)
unfolding keptb
was_storing = (refl, refl, refl)

-- the starting attention: the frame is dropped, its descriptor has 0000h, and of the events RNR alone is set
abbrev pub begun : World
begun = step (call attention) before

pub aborted : (begun.device.units.ru ≡ ru.Idle) × (word_at begun.memory 0x40 ≡ 0x0000) × (word_at begun.memory 0x08 ≡ 0x1200)
unfolding keptb
aborted = (refl, refl, refl)

pub starts : Starts before
unfolding keptb
starts = record { initialised = refl; unreset = refl; start = refl; idle = refl }

abbrev pub two : List ℕ
two = 0x20 ∷ 0x38 ∷ []

-- its bytes: of the Transmit 16 of the block, the descriptor's seven, the data's two, which are the block's first two; of the NOP six
its_bytes : bytes_of begun two
    ≡ 0x20 ∷ 0x21 ∷ 0x22 ∷ 0x23 ∷ 0x24 ∷ 0x25 ∷ 0x26 ∷ 0x27 ∷ 0x28 ∷ 0x29 ∷ 0x2A ∷ 0x2B ∷ 0x2C ∷ 0x2D ∷ 0x2E ∷ 0x2F
    ∷ 0x30 ∷ 0x31 ∷ 0x32 ∷ 0x33 ∷ 0x34 ∷ 0x35 ∷ 0x36 ∷ 0x20 ∷ 0x21
    ∷ 0x38 ∷ 0x39 ∷ 0x3A ∷ 0x3B ∷ 0x3C ∷ 0x3D
    ∷ []
unfolding keptb
its_bytes = refl

-- ---- the trace: a frame arrives before each turn, as long as the unit has work, and is dropped, the receive unit being Idle; then turns without work up to
-- 264

abbrev pub each : List Event
each = call (arrive (frame 2) 0) ∷ call (turn 0) ∷ []

abbrev pub busy : List Event
busy = each ++ each ++ each ++ each ++ each

abbrev pub trace : List Event
trace = busy ++ replicate 259 (call (turn 0))

kept_busy : Undisturbed machine (bytes_of begun two) busy begun
unfolding keptb
kept_busy = kept_ok (bytes_of begun two) busy begun tt

idle_after : (is_active (cu_state (run step busy begun).device.units.cu) ≡ false)
    × (is_holding (run step busy begun).device.units.ru ≡ false)
unfolding keptb
idle_after = (refl, refl)

pub premises : Premises DuringList enough two trace begun
unfolding keptb
premises =
    record {
      size = lit≤ tt;
      apart = clash_ok (length begun.memory) begun.device.units.base (setup_of begun.device) begun.memory two tt;
      events = may_append DuringList step busy (replicate 259 (call (turn 0))) begun (calls_ok busy begun tt) (calls_ok (replicate 259 (call (turn 0))) (run step busy begun) tt);
      intact =
          kept_append (bytes_of begun two) busy (replicate 259 (call (turn 0))) begun kept_busy
          (idle_kept 259 0 (bytes_of begun two) (run step busy begun) idle_after.0 idle_after.1);
      turns = lit≤ tt;
    }

-- destination, own address, type, and the two bytes of its own status word
abbrev pub sent_frame : List ℕ
sent_frame = 0 ∷ 0 ∷ 0 ∷ 0 ∷ 0 ∷ 0 ∷ 255 ∷ 255 ∷ 255 ∷ 255 ∷ 255 ∷ 255 ∷ 0 ∷ 0 ∷ 0x00 ∷ 0x40 ∷ []

-- what was noted: the Transmit sent its own 4000h, and its I raises CX; the NOP's S suspends the list, which raises CNA
noted : log machine busy begun
    ≡ began 0x20 ∷ ended 0x20 0xA000 (sent_frame ∷ []) (due false 0x2004)
    ∷ began 0x38 ∷ ended 0x38 0xA000 [] (due true 0x4000)
    ∷ []
unfolding keptb
noted = refl

-- the unit is Suspended again, and the SCB says so: CX, CNA, RNR
left : ((run step busy begun).device.units.cu ≡ cu.Suspended (record { 0 = 0 })) × (word_at (run step busy begun).memory 0x08 ≡ 0xB100)
unfolding keptb
left = (refl, refl)

-- so both commands are done
its_first : first_of two ≡ word_at before.memory (of_scb before.device.units cbl_at)
unfolding keptb
its_first = refl

is_listed : Listed begun.device.units.base begun.memory two
unfolding keptb
is_listed = (refl, refl, refl)

pub suspended_done : Done two trace begun
unfolding keptb
suspended_done = attention_list_done two trace before starts its_first is_listed premises

-- ---- all of it in one

pub record Unruly : Type 0 where
  -- Suspended, with a frame held and begun
  pub suspended : before.device.units.cu ≡ cu.Suspended (record { 0 = 0 })
  pub storing : (is_holding before.device.units.ru ≡ true) × (word_at before.memory 0x40 ≡ 0x4000) × (word_at before.memory 0x08 ≡ 0x2140)
  -- the attention starts the list; it acknowledges all, and aborts the frame: 0000h in its descriptor, RNR alone in the SCB
  pub starts : Starts before
  pub aborted : (begun.device.units.ru ≡ ru.Idle) × (word_at begun.memory 0x40 ≡ 0x0000) × (word_at begun.memory 0x08 ≡ 0x1200)
  -- what is asked of the list and of the trace
  pub first : first_of two ≡ word_at before.memory (of_scb before.device.units cbl_at)
  pub listed : Listed begun.device.units.base begun.memory two
  pub premises : Premises DuringList enough two trace begun
  -- the Transmit sends the 4000h of its own status word, the last NOP suspends the list
  pub noted : log machine busy begun ≡ began 0x20 ∷ ended 0x20 0xA000 (sent_frame ∷ []) (due false 0x2004) ∷ began 0x38 ∷ ended 0x38 0xA000 [] (due true 0x4000) ∷ []
  pub left : ((run step busy begun).device.units.cu ≡ cu.Suspended (record { 0 = 0 })) × (word_at (run step busy begun).memory 0x08 ≡ 0xB100)
  pub done : Done two trace begun

pub unruly : Unruly
unruly =
    record {
      suspended = was_suspended;
      storing = was_storing;
      starts = starts;
      aborted = aborted;
      first = its_first;
      listed = is_listed;
      premises = premises;
      noted = noted;
      left = left;
      done = suspended_done;
    }
