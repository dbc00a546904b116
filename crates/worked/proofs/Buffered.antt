-- The premises can be met where the list changes what its own later commands use: a Configure of address length 2 and location 1, an MC-Setup whose
-- addresses have two bytes, and a Transmit with EL whose frame comes from its buffers, header and all; while it runs, the host writes where the
-- Transmit's block would have destination and type with location 0. Assumes nothing.
use mathlib.Core.Path.{◌≡◌, refl}
use mathlib.Core.Bool.{true, false}
use mathlib.Core.List.{List, [], ◌∷◌, ◌++◌}
use Prim.Native.Nat.{ℕ, ◌+◌, ◌^◌}
use lib.Dec.{lit≤}
use lib.ListN.{length, replicate}
use Rattle.memory.specs.Memory.{word_at}
use Rattle.scb.specs.Words.{no_events}
use Rattle.device.specs.Change.{with_units, initialised_at}
use Rattle.device.specs.Limits.{holding_size, outgoing_size}
use Rattle.device.specs.State.{cu_state, is_active, is_holding, fresh}
use Rattle.actions.specs.Setup.{setup_of}
use Rattle.chip.specs.Cases.{Word, ◌is◌, put}
use Rattle.chip.specs.Call.{attention, turn}
use Rattle.chip.specs.World.{World, world_of}
use Rattle.traces.specs.Event.{Event, call, host, step, DuringList}
use Rattle.traces.specs.Told.{frames_along}
use Rattle.progress.specs.Trace.{run, AllMay}
use Rattle.progress.specs.Machine.{Undisturbed, log}
use Rattle.progress.proofs.Trace.{may_append}
use Rattle.lists.specs.Unit.{machine, began, ended}
use Rattle.lists.specs.Done.{Starts, Started, enough, Premises, Done, bytes_of}
use Rattle.lists.proofs.Laws.{list_laws}
use Rattle.lists.proofs.Start.{begins, started}
use Rattle.lists.proofs.Order.{list_done}
use Rattle.lists.proofs.Tests.{cna_alone, keptb, kept_ok, clash_ok, calls_ok, kept_append, idle_kept}

-- ---- the board

-- a Configure at 18h, byte 3 is 0Ah; an MC-Setup at 24h, 03-02 and 05-02; a Transmit with EL at 34h, with a descriptor at 44h and eight bytes at 50h
abbrev blocks : List Word
blocks =
    0x1A is 0x0002 ∷ 0x1C is 0x24 ∷ 0x1E is 0x0004 ∷ 0x20 is 0x0A00
    ∷ 0x26 is 0x0003 ∷ 0x28 is 0x34 ∷ 0x2A is 4 ∷ 0x2C is 0x0203 ∷ 0x2E is 0x0205
    ∷ 0x36 is 0x8004 ∷ 0x3A is 0x44
    ∷ 0x44 is 0x8008 ∷ 0x46 is 0xFFFF ∷ 0x48 is 0x50 ∷ 0x50 is 0x0102 ∷ 0x52 is 0x0304 ∷ 0x54 is 0x0008 ∷ 0x56 is 0x2211
    ∷ []

-- initialised, with the SCB at 8 and base 0; it says all acknowledged, CUC START, CBL offset 18h
abbrev before : World
before =
    world_of
    (with_units fresh (initialised_at fresh.units (record { 0 = 0 }) (record { 0 = 0x08 }) (record { cx = true; fr = false; cna = true; rnr = false })))
    (put (0x0A is 0xF100 ∷ 0x0C is 0x18 ∷ blocks) (replicate 8192 0)) (replicate holding_size 0) (replicate outgoing_size 0)

-- the starting attention
abbrev pub begun : World
begun = step (call attention) before

starts : Starts before
unfolding keptb
starts = record { initialised = refl; unreset = refl; start = refl; idle = refl }

abbrev pub three : List ℕ
three = 0x18 ∷ 0x24 ∷ 0x34 ∷ []

pub is_started : Started three begun
unfolding keptb
is_started = started three before begun (begins three before starts refl) (refl, refl, (refl, refl, refl))

-- its bytes, though length 6 and location 0 are in force when it starts: of the Configure six and four; of the MC-Setup six, the count's two, four of
-- addresses; of the Transmit the block's first eight and none from +8 on, the descriptor's seven, the frame's eight
pub its_bytes : bytes_of begun three
    ≡ 0x18 ∷ 0x19 ∷ 0x1A ∷ 0x1B ∷ 0x1C ∷ 0x1D ∷ 0x1E ∷ 0x1F ∷ 0x20 ∷ 0x21
    ∷ 0x24 ∷ 0x25 ∷ 0x26 ∷ 0x27 ∷ 0x28 ∷ 0x29 ∷ 0x2A ∷ 0x2B ∷ 0x2C ∷ 0x2D ∷ 0x2E ∷ 0x2F
    ∷ 0x34 ∷ 0x35 ∷ 0x36 ∷ 0x37 ∷ 0x38 ∷ 0x39 ∷ 0x3A ∷ 0x3B
    ∷ 0x44 ∷ 0x45 ∷ 0x46 ∷ 0x47 ∷ 0x48 ∷ 0x49 ∷ 0x4A
    ∷ 0x50 ∷ 0x51 ∷ 0x52 ∷ 0x53 ∷ 0x54 ∷ 0x55 ∷ 0x56 ∷ 0x57
    ∷ []
unfolding keptb
its_bytes = refl

-- ---- the trace

-- the Configure and the MC-Setup are done; the host writes at +8 and +10 of the Transmit's block; the Transmit is done, with report 0003h
abbrev early : List Event
early = replicate 4 (call (turn 0))

abbrev middle : World
middle = run step early begun

abbrev writes : Event
writes = host (put (0x3C is 0x7777 ∷ 0x3E is 0x7777 ∷ []) middle.memory) middle.holding middle.outgoing

abbrev late : List Event
late = replicate 3 (call (turn 3))

abbrev pub busy : List Event
busy = early ++ (writes ∷ late)

-- and turns without work up to 396
abbrev pub trace : List Event
trace = busy ++ replicate 389 (call (turn 0))

kept_busy : Undisturbed machine (bytes_of begun three) busy begun
unfolding keptb
kept_busy = kept_ok (bytes_of begun three) busy begun tt

idle_after : (is_active (cu_state (run step busy begun).device.units.cu) ≡ false)
    × (is_holding (run step busy begun).device.units.ru ≡ false)
unfolding keptb
idle_after = (refl, refl)

mays : AllMay DuringList step trace begun
mays =
    may_append DuringList step busy (replicate 389 (call (turn 0))) begun
    (may_append DuringList step early (writes ∷ late) begun (calls_ok early begun tt) ((refl, refl), calls_ok late (step writes middle) tt))
    (calls_ok (replicate 389 (call (turn 0))) (run step busy begun) tt)

pub premises : Premises DuringList enough three trace begun
unfolding keptb
premises =
    record {
      size = lit≤ tt;
      apart = clash_ok (length begun.memory) begun.device.units.base (setup_of begun.device) begun.memory three tt;
      events = mays;
      intact =
          kept_append (bytes_of begun three) busy (replicate 389 (call (turn 0))) begun kept_busy
          (idle_kept 389 0 (bytes_of begun three) (run step busy begun) idle_after.0 idle_after.1);
      turns = lit≤ tt;
    }

-- ---- what comes of it

-- the buffers' bytes: of the own address, six FFh, there is none
abbrev pub sent_frame : List ℕ
sent_frame = 2 ∷ 1 ∷ 4 ∷ 3 ∷ 8 ∷ 0 ∷ 0x11 ∷ 0x22 ∷ []

-- what was noted: all three are complete, the frame was sent with the report in its status, and the Transmit ends the list
pub noted : log machine busy begun
    ≡ began 0x18 ∷ ended 0x18 0xA000 [] no_events
    ∷ began 0x24 ∷ ended 0x24 0xA000 [] no_events
    ∷ began 0x34 ∷ ended 0x34 0xA003 (sent_frame ∷ []) cna_alone
    ∷ []
unfolding keptb
noted = refl

-- the answers tell that frame and no other
pub frame_told_lem : frames_along busy begun ≡ sent_frame ∷ []
unfolding keptb
frame_told_lem = refl

-- length, location and filter are as the list says, on the bits of 03-02 and 05-02; what the host wrote stands
pub left : ((run step busy begun).device.units.settings.form ≡ record { length = 2; location = true })
    × ((run step busy begun).device.filter ≡ 2 ^ 62 + 2 ^ 45) × (word_at (run step busy begun).memory 0x3C ≡ 0x7777)
unfolding keptb
left = (refl, refl, refl)

-- so all three commands are done
pub buffered_done : Done three trace begun
buffered_done = list_done DuringList list_laws three trace begun is_started premises
