-- The board that the cases run on: 8,192 bytes, all structures below 256 but the SCP's pointer, and the steps that several cases share.
-- Assumes nothing.
use mathlib.Core.Bool.{true, false}
use mathlib.Core.List.{List, [], ◌∷◌, ◌++◌}
use Prim.Native.Nat.{ℕ, zero, suc, ◌+◌}
use lib.ListN.{replicate}
use Rattle.chip.specs.Cases.{Word, ◌is◌, Level, unsaid, high, low, Said, Step}
use Rattle.chip.specs.Call.{Call, attention, arrive, turn}

-- SCP's pointer, at N - 4; ISCP at 20h: BUSY, SCB offset 30h, the base
abbrev pub board_at : ℕ → List Word
board_at base = 8188 is 0x20 ∷ 0x20 is 1 ∷ 0x22 is 0x30 ∷ 0x24 is base ∷ []

abbrev pub board : List Word
board = board_at 0

-- a receive area: frame descriptors at 60h and 80h, the first linked to the second, the first buffer descriptor at A0h
abbrev pub descriptors : List Word
descriptors = 0x64 is 0x80 ∷ 0x66 is 0xA0 ∷ []

-- a receive buffer descriptor at a: next offset, real address, size
abbrev pub buffer_at : ℕ → ℕ → ℕ → ℕ → List Word
buffer_at a next real size = (a + 2) is next ∷ (a + 4) is real ∷ (a + 8) is size ∷ []

-- the line's verdicts
abbrev pub good : ℕ
good = 0

abbrev pub crc : ℕ
crc = 1

abbrev pub misaligned : ℕ
misaligned = 2

-- why a frame is dropped, if it is
abbrev pub not_dropped : ℕ
not_dropped = 0

abbrev pub too_few : ℕ
too_few = 1

abbrev pub no_match : ℕ
no_match = 2

abbrev pub unit_idle : ℕ
unit_idle = 3

abbrev pub unit_suspended : ℕ
unit_suspended = 4

abbrev pub bad : ℕ
bad = 5

-- ---- frames

-- n bytes that count up from k
abbrev pub counting : ℕ → ℕ → List ℕ
counting k zero = []
counting k (suc n) = k ∷ counting (suc k) n

-- to everyone, from 02-03-04-05-06-07, type 0008h, with n bytes of data that count up from 1
abbrev pub broadcast : ℕ → List ℕ
broadcast n = replicate 6 255 ++ (counting 2 6 ++ (8 ∷ 0 ∷ counting 1 n))

-- ---- steps

-- what a call that sends nothing answers: no edge, an edge
abbrev pub quiet : Said
quiet = record { number = 0; length = 0; edge = false; reason = not_dropped }

abbrev pub edge : Said
edge = record { number = 0; length = 0; edge = true; reason = not_dropped }

-- the host writes words; a call answers; words stand in memory; the interrupt has a level
abbrev pub step : List Word → Call → Said → List Word → Level → Step
step host call answer words level =
    record { host = host; held = []; sent = []; call = call; answer = answer; words = words; outgoing = []; level = level }

-- the end turn of a Transmit: the report; the length; words of memory and of the outgoing area
abbrev pub ends : ℕ → ℕ → List Word → List Word → Step
ends report length words outgoing =
    record {
      host = [];
      held = [];
      sent = [];
      call = turn report;
      answer = record { number = 0; length = length; edge = true; reason = not_dropped };
      words = words;
      outgoing = outgoing;
      level = high;
    }

-- a turn that neither raises an event nor sends
abbrev pub turned : List Word → Step
turned words = step [] (turn 0) quiet words unsaid

-- a frame that comes and is dropped for a reason: words of memory afterwards
abbrev pub dropped : (reason : ℕ) → List ℕ → ℕ → List Word → Step
dropped reason f verdict words = step [] (arrive f verdict) (record { number = 0; length = 0; edge = false; reason = reason }) words unsaid

-- one that comes and is held, or lost and counted
abbrev pub came : List ℕ → ℕ → List Word → Step
came f verdict words = dropped not_dropped f verdict words

-- the first attention
abbrev pub initialised : Step
initialised = step [] attention edge (0x30 is 0xA000 ∷ []) high

-- the receive unit is started at the frame descriptor 60h, and every event acknowledged
abbrev pub receiving : Step
receiving = step (0x32 is 0xF010 ∷ 0x36 is 0x60 ∷ []) attention quiet (0x30 is 0x0040 ∷ 0x32 is 0 ∷ []) low

-- the command unit is started at the block 40h, and every event acknowledged
abbrev pub commanding : Step
commanding = step (0x32 is 0xF100 ∷ 0x34 is 0x40 ∷ []) attention quiet (0x30 is 0x0200 ∷ 0x32 is 0 ∷ []) low

-- an attention with a command word, without an edge and with one
abbrev pub attended : ℕ → List Word → Step
attended command words = step (0x32 is command ∷ []) attention quiet words unsaid

abbrev pub raising : ℕ → List Word → Step
raising command words = step (0x32 is command ∷ []) attention edge words high

-- a turn that reports an edge
abbrev pub settling : List Word → Step
settling words = step [] (turn 0) edge words high

-- the command at 40h is run to its end, and ends the list
abbrev pub configured : List Step
configured = initialised ∷ commanding ∷ turned [] ∷ settling (0x40 is 0xA000 ∷ []) ∷ []

-- a Configure at 40h that sets save-bad
abbrev pub saving : List Word
saving = 0x42 is 0x8002 ∷ 0x46 is 0x0804 ∷ 0x48 is 0x0680 ∷ []

-- both units are started, at the block 40h and the frame descriptor 60h, and every event acknowledged
abbrev pub working : Step
working = step (0x32 is 0xF110 ∷ 0x34 is 0x40 ∷ 0x36 is 0x60 ∷ []) attention quiet (0x30 is 0x0240 ∷ 0x32 is 0 ∷ []) low

-- the four counters, in their order
abbrev pub counters : ℕ → ℕ → ℕ → ℕ → List Word
counters c a r o = 0x38 is c ∷ 0x3A is a ∷ 0x3C is r ∷ 0x3E is o ∷ []
