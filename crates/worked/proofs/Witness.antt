-- The premises can be met, from the starting attention on: a list of three commands, a Transmit, a TDR and a NOP with EL, is run while two frames
-- arrive and are stored and the host writes. Assumes nothing.
use mathlib.Core.Path.{◌≡◌, refl}
use mathlib.Core.Bool.{false}
use mathlib.Core.List.{List, [], ◌∷◌, ◌++◌}
use Prim.Native.Nat.{ℕ}
use lib.Dec.{lit≤}
use lib.ListN.{length, replicate}
use Rattle.memory.specs.Memory.{word_at}
use Rattle.scb.specs.Words.{no_events}
use Rattle.device.specs.State.{cu_state, is_active, is_holding}
use Rattle.actions.specs.Setup.{setup_of}
use Rattle.chip.specs.Cases.{Word, ◌is◌, put, start_on}
use Rattle.chip.specs.Call.{attention, arrive, turn}
use Rattle.chip.specs.World.{World}
use Rattle.traces.specs.Event.{Event, call, host, step, DuringList}
use Rattle.progress.specs.Trace.{run, AllMay}
use Rattle.progress.specs.Machine.{Undisturbed, log}
use Rattle.progress.proofs.Trace.{may_append}
use Rattle.lists.specs.Unit.{machine, began, ended}
use Rattle.lists.specs.Done.{Starts, Started, enough, Premises, Done, bytes_of}
use Rattle.lists.proofs.Laws.{list_laws}
use Rattle.lists.proofs.Start.{begins, started}
use Rattle.lists.proofs.Order.{list_done}
use Rattle.lists.proofs.Tests.{cx_alone, cna_alone, keptb, kept_ok, clash_ok, calls_ok, kept_append, idle_kept}

-- ---- the board: ISCP at 0, SCB at 8, base 0

abbrev board : List Word
board = 8188 is 0 ∷ 0 is 1 ∷ 2 is 0x08 ∷ []

-- a Transmit at 18h with a descriptor at 28h and two bytes of data at 30h; a TDR with I at 32h; a NOP with EL at 3Ah
abbrev blocks : List Word
blocks =
    0x1A is 0x0004 ∷ 0x1C is 0x32 ∷ 0x1E is 0x28 ∷ 0x20 is 0x0002 ∷ 0x24 is 0x0100 ∷ 0x26 is 0x0008
    ∷ 0x28 is 0x8002 ∷ 0x2A is 0xFFFF ∷ 0x2C is 0x30 ∷ 0x30 is 0x2211
    ∷ 0x34 is 0x2005 ∷ 0x36 is 0x3A
    ∷ 0x3C is 0x8000
    ∷ []

-- frame descriptors at 40h and 58h, the first linked to the second; a buffer descriptor at 70h, linked to itself, with 46 bytes at 80h
abbrev descriptors : List Word
descriptors = 0x44 is 0x58 ∷ 0x46 is 0x70 ∷ 0x5A is 0x8000 ∷ 0x72 is 0x70 ∷ 0x74 is 0x80 ∷ 0x78 is 46 ∷ []

-- the first attention; then the host writes the SCB: all acknowledged, START for both units, CBL and RFA offset
abbrev pub cold : World
cold = start_on (put descriptors (put blocks (put board (replicate 8192 0))))

abbrev told : World → World
told w = step (host (put (0x0A is 0xF110 ∷ 0x0C is 0x18 ∷ 0x0E is 0x40 ∷ []) w.memory) w.holding w.outgoing) w

abbrev pub before : World
before = told (step (call attention) cold)

-- the starting attention
abbrev pub begun : World
begun = step (call attention) before

pub starts : Starts before
unfolding keptb
starts = record { initialised = refl; unreset = refl; start = refl; idle = refl }

abbrev pub three : List ℕ
three = 0x18 ∷ 0x32 ∷ 0x3A ∷ []

pub is_started : Started three begun
unfolding keptb
is_started = started three before begun (begins three before starts refl) (refl, refl, (refl, refl, refl))

-- its bytes: of the Transmit 16 of the block, the descriptor's seven, the data's two; of the TDR eight; of the NOP six
its_bytes : bytes_of begun three
    ≡ 0x18 ∷ 0x19 ∷ 0x1A ∷ 0x1B ∷ 0x1C ∷ 0x1D ∷ 0x1E ∷ 0x1F ∷ 0x20 ∷ 0x21 ∷ 0x22 ∷ 0x23 ∷ 0x24 ∷ 0x25 ∷ 0x26 ∷ 0x27
    ∷ 0x28 ∷ 0x29 ∷ 0x2A ∷ 0x2B ∷ 0x2C ∷ 0x2D ∷ 0x2E ∷ 0x30 ∷ 0x31
    ∷ 0x32 ∷ 0x33 ∷ 0x34 ∷ 0x35 ∷ 0x36 ∷ 0x37 ∷ 0x38 ∷ 0x39
    ∷ 0x3A ∷ 0x3B ∷ 0x3C ∷ 0x3D ∷ 0x3E ∷ 0x3F
    ∷ []
unfolding keptb
its_bytes = refl

-- ---- the trace

-- a frame to everyone, 60 bytes
abbrev pub frame : ℕ → List ℕ
frame b = replicate 6 255 ++ replicate 54 b

-- the first frame is stored while the Transmit is done, with report 0003h
abbrev pub early : List Event
early = call (arrive (frame 1) 0) ∷ replicate 6 (call (turn 3))

-- the host writes outside of the list, and fills the holding area with something else
abbrev pub writes : World → Event
writes w = host (put (0xB0 is 0x5555 ∷ []) w.memory) (replicate 2048 9) w.outgoing

-- then the second frame is stored while the other two are done
abbrev pub late : List Event
late = call (arrive (frame 2) 0) ∷ replicate 7 (call (turn 0))

abbrev pub middle : World
middle = run step early begun

abbrev pub busy : List Event
busy = early ++ (writes middle ∷ late)

-- and turns without work up to 396
abbrev pub trace : List Event
trace = busy ++ replicate 383 (call (turn 0))

kept_busy : Undisturbed machine (bytes_of begun three) busy begun
unfolding keptb
kept_busy = kept_ok (bytes_of begun three) busy begun tt

idle_after : (is_active (cu_state (run step busy begun).device.units.cu) ≡ false)
    × (is_holding (run step busy begun).device.units.ru ≡ false)
unfolding keptb
idle_after = (refl, refl)

mays : AllMay DuringList step trace begun
mays =
    may_append DuringList step busy (replicate 383 (call (turn 0))) begun
    (may_append DuringList step early (writes middle ∷ late) begun (calls_ok early begun tt) ((refl, refl), calls_ok late (step (writes middle) middle) tt))
    (calls_ok (replicate 383 (call (turn 0))) (run step busy begun) tt)

pub premises : Premises DuringList enough three trace begun
unfolding keptb
premises =
    record {
      size = lit≤ tt;
      apart = clash_ok (length begun.memory) begun.device.units.base (setup_of begun.device) begun.memory three tt;
      events = mays;
      intact =
          kept_append (bytes_of begun three) busy (replicate 383 (call (turn 0))) begun kept_busy
          (idle_kept 383 0 (bytes_of begun three) (run step busy begun) idle_after.0 idle_after.1);
      turns = lit≤ tt;
    }

-- what was noted: the frame that was sent, the report in its status; CX by the TDR, CNA by the NOP
noted : log machine busy begun
    ≡ began 0x18 ∷ ended 0x18 0xA003 ((2 ∷ 0 ∷ 0 ∷ 0 ∷ 0 ∷ 1 ∷ 255 ∷ 255 ∷ 255 ∷ 255 ∷ 255 ∷ 255 ∷ 8 ∷ 0 ∷ 0x11 ∷ 0x22 ∷ []) ∷ []) no_events
    ∷ began 0x32 ∷ ended 0x32 0xA000 [] cx_alone
    ∷ began 0x3A ∷ ended 0x3A 0xA000 [] cna_alone
    ∷ []
unfolding keptb
noted = refl

-- both frames were stored, TDR's word was written, what the host wrote stands, and the SCB's status has all four events
abbrev words : List ℕ → List ℕ → List ℕ
words [] m = []
words (a ∷ rest) m = word_at m a ∷ words rest m

stored : words (0x40 ∷ 0x58 ∷ 0x38 ∷ 0xB0 ∷ 0x08 ∷ []) (run step busy begun).memory ≡ 0xA000 ∷ 0xA000 ∷ 0x8000 ∷ 0x5555 ∷ 0xF020 ∷ []
unfolding keptb
stored = refl

-- so the three commands are done
pub witness_done : Done three trace begun
witness_done = list_done DuringList list_laws three trace begun is_started premises
