-- Further cases at the edges of document 01's rules and of document 02's Wish 4, each of which a chip that gets the rule wrong would fail, by
-- three statements over three lists: `kept_calls`, `kept_works`, `kept_headers`. Assumes nothing.
use mathlib.Core.Bool.{true}
use mathlib.Core.List.{List, [], ◌∷◌, ◌++◌}
use Prim.Native.Nat.{ℕ, ◌+◌, ◌*◌}
use lib.Dec.{T}
use lib.ListN.{replicate}
use Rattle.chip.specs.Cases.{Word, ◌is◌, high, low, Step, Case, passes, all_pass}
use Rattle.chip.specs.Call.{reset, attention, turn}
use Rattle.cases.proofs.Prepared.{all_prepared}
use Rattle.chip.proofs.Board.{board, descriptors, buffer_at, good, crc, misaligned, counting, broadcast, quiet, edge, step, ends, turned, came, not_dropped, too_few, no_match, unit_idle, unit_suspended, bad, dropped, initialised, receiving, commanding, attended, raising, settling, configured, saving, working, counters}

-- ---- reset

-- the call: no byte of memory changes, no edge, the interrupt is low; no turn has work, and the next attention is a first one
reset_call : Case
reset_call =
    record {
      given = board;
      steps =
          initialised
          ∷ step (0x32 is 0x0100 ∷ 0x34 is 0x40 ∷ []) attention edge (0x30 is 0xA200 ∷ []) high
          ∷ turned (0x40 is 0x4000 ∷ [])
          ∷ step (0x20 is 1 ∷ 0x32 is 0x1234 ∷ []) reset quiet (0x30 is 0xA200 ∷ 0x32 is 0x1234 ∷ 0x40 is 0x4000 ∷ 0x20 is 1 ∷ []) low
          ∷ turned (0x40 is 0x4000 ∷ [])
          ∷ step [] attention edge (0x30 is 0xA000 ∷ 0x32 is 0 ∷ 0x20 is 0 ∷ []) high
          ∷ [];
    }

-- a resetting attention reports no edge though events were set, and the interrupt is low
resetting_with_events : Case
resetting_with_events =
    record { given = board; steps = initialised ∷ step (0x32 is 0x0080 ∷ []) attention quiet (0x30 is 0xA000 ∷ 0x32 is 0 ∷ []) low ∷ [] }

-- it forgets what Configure set: 59 bytes are short again, and not saved
resetting_forgets : Case
resetting_forgets =
    record {
      given = 0x42 is 0x8002 ∷ 0x46 is 0x000C ∷ 0x48 is 0x0680 ∷ descriptors ++ board;
      steps =
          configured
          ++ (step (0x32 is 0x0080 ∷ []) attention quiet (0x30 is 0x2000 ∷ []) low
          ∷ initialised
          ∷ receiving
          ∷ dropped bad (broadcast 45) good []
          ∷ turned (0x60 is 0 ∷ [])
          ∷ []);
    }

-- and the order of service: the receive unit was served last, and is served first after it
resetting_serves_receive_first : Case
resetting_serves_receive_first =
    record {
      given = descriptors ++ board;
      steps =
          initialised
          ∷ receiving
          ∷ came (broadcast 46) good []
          ∷ turned (0x60 is 0x4000 ∷ [])
          ∷ step (0x32 is 0x0080 ∷ 0x60 is 0 ∷ []) attention quiet [] low
          ∷ initialised
          ∷ working
          ∷ came (broadcast 46) good []
          ∷ turned (0x60 is 0x4000 ∷ 0x40 is 0 ∷ [])
          ∷ turned (0x40 is 0x4000 ∷ [])
          ∷ [];
    }

-- ---- the order of service

-- the receive unit was served last, alone: the command unit, started then, is next
served_last_alone : Case
served_last_alone =
    record {
      given = descriptors ++ buffer_at 0xA0 0xAA 0xC0 46 ++ board;
      steps =
          initialised
          ∷ receiving
          ∷ came (broadcast 46) good []
          ∷ turned (0x60 is 0x4000 ∷ [])
          ∷ step (0x32 is 0x0100 ∷ 0x34 is 0x40 ∷ []) attention quiet (0x30 is 0x0240 ∷ []) low
          ∷ turned (0x40 is 0x4000 ∷ 0xA0 is 0 ∷ [])
          ∷ turned (0x40 is 0x4000 ∷ 0xA0 is 0xC02E ∷ [])
          ∷ [];
    }

-- a turn with no work is no working turn: after it the same unit is next
idle_turn : Case
idle_turn =
    record {
      given = descriptors ++ buffer_at 0xA0 0xAA 0xC0 46 ++ board;
      steps =
          initialised
          ∷ receiving
          ∷ came (broadcast 46) good []
          ∷ turned []
          ∷ turned []
          ∷ settling (0x60 is 0xA000 ∷ [])
          ∷ turned []
          ∷ step (0x32 is 0xF100 ∷ 0x34 is 0x40 ∷ []) attention quiet (0x30 is 0x0240 ∷ []) low
          ∷ came (broadcast 46) good []
          ∷ turned (0x40 is 0x4000 ∷ 0x80 is 0 ∷ [])
          ∷ turned (0x40 is 0x4000 ∷ 0x80 is 0x4000 ∷ [])
          ∷ [];
    }

-- ---- edges and events

-- an event that is raised again is an edge: two commands with I, and no acknowledgement
edge_again : Case
edge_again =
    record {
      given = 0x42 is 0x2000 ∷ 0x44 is 0x40 ∷ board;
      steps = initialised ∷ commanding ∷ turned [] ∷ settling (0x30 is 0x8200 ∷ []) ∷ turned [] ∷ settling (0x30 is 0x8200 ∷ []) ∷ [];
    }

-- a command that fails raises CX by I and goes on by its link
failed_goes_on : Case
failed_goes_on =
    record {
      given = 0x42 is 0x2006 ∷ 0x44 is 0x50 ∷ board;
      steps = initialised ∷ commanding ∷ turned [] ∷ settling (0x40 is 0x8000 ∷ 0x30 is 0x8200 ∷ []) ∷ turned (0x50 is 0x4000 ∷ []) ∷ [];
    }

-- bits 11 and 3-0 of the command word say nothing, and neither do codes 5 to 7
says_nothing : (command : ℕ) → Case
says_nothing command = record { given = board; steps = initialised ∷ working ∷ attended command (0x30 is 0x0240 ∷ 0x32 is 0 ∷ []) ∷ [] }

-- the abort's 9000h comes before the status and the closing 0000h: the block stands on either
abort_then_status : (block : ℕ) → Case
abort_then_status block =
    record {
      given = board;
      steps =
          initialised
          ∷ step (0x32 is 0xF100 ∷ 0x34 is block ∷ []) attention quiet [] low
          ∷ turned (block is 0x4000 ∷ [])
          ∷ raising 0x0400 (0x30 is 0x2000 ∷ 0x32 is 0 ∷ [])
          ∷ [];
    }

-- ---- START, RESUME, SUSPEND, ABORT

-- START does not withdraw a waiting SUSPEND, nor does a second SUSPEND add to it; RESUME goes to the link that the end turn read
start_while_waiting : Case
start_while_waiting =
    record {
      given = 0x44 is 0x50 ∷ board;
      steps =
          initialised
          ∷ commanding
          ∷ turned (0x40 is 0x4000 ∷ [])
          ∷ attended 0x0300 (0x30 is 0x0200 ∷ [])
          ∷ attended 0x0300 (0x30 is 0x0200 ∷ [])
          ∷ step (0x32 is 0x0100 ∷ 0x34 is 0x58 ∷ []) attention quiet (0x30 is 0x0200 ∷ []) low
          ∷ settling (0x40 is 0xA000 ∷ 0x30 is 0x2100 ∷ [])
          ∷ step (0x44 is 0x58 ∷ 0x32 is 0x2200 ∷ []) attention quiet (0x30 is 0x0200 ∷ []) low
          ∷ turned (0x50 is 0x4000 ∷ 0x58 is 0 ∷ [])
          ∷ [];
    }

-- START from Suspended goes to the CBL offset, and not to the next block
start_while_suspended : Case
start_while_suspended =
    record {
      given = 0x42 is 0x4000 ∷ 0x44 is 0x50 ∷ board;
      steps =
          initialised
          ∷ commanding
          ∷ turned []
          ∷ settling (0x30 is 0x2100 ∷ [])
          ∷ step (0x32 is 0x2100 ∷ 0x34 is 0x58 ∷ []) attention quiet (0x30 is 0x0200 ∷ []) low
          ∷ turned (0x58 is 0x4000 ∷ 0x50 is 0 ∷ [])
          ∷ [];
    }

-- S in a frame descriptor suspends and passes the free offset on; RESUME goes to the link that the end turn read
frame_suspends : Case
frame_suspends =
    record {
      given = 0x62 is 0x4000 ∷ descriptors ++ buffer_at 0xA0 0xAA 0xC0 46 ++ board;
      steps =
          initialised
          ∷ receiving
          ∷ came (broadcast 46) good []
          ∷ turned []
          ∷ turned []
          ∷ settling (0x60 is 0xA000 ∷ 0x86 is 0xAA ∷ 0x30 is 0x5010 ∷ [])
          ∷ step (0x64 is 0x90 ∷ 0x32 is 0xF020 ∷ []) attention quiet (0x30 is 0x0040 ∷ []) low
          ∷ came (broadcast 46) good []
          ∷ turned (0x80 is 0x4000 ∷ 0x90 is 0 ∷ [])
          ∷ [];
    }

-- the receive unit: START while Ready does nothing, RESUME while a SUSPEND waits neither; both do nothing to the frame
start_while_ready : Case
start_while_ready =
    record {
      given = descriptors ++ buffer_at 0xA0 0xAA 0xC0 46 ++ board;
      steps =
          initialised
          ∷ receiving
          ∷ step (0x32 is 0x0010 ∷ 0x36 is 0x80 ∷ []) attention quiet (0x30 is 0x0040 ∷ []) low
          ∷ came (broadcast 46) good []
          ∷ attended 0x0030 (0x30 is 0x0040 ∷ [])
          ∷ attended 0x0020 (0x30 is 0x0040 ∷ [])
          ∷ turned (0x60 is 0x4000 ∷ 0x80 is 0 ∷ [])
          ∷ turned []
          ∷ settling (0x60 is 0xA000 ∷ 0x30 is 0x5010 ∷ [])
          ∷ [];
    }

-- each unit has its own waiting SUSPEND: No Resources forgets the receive unit's, the command unit's still acts
waiting_apart : Case
waiting_apart =
    record {
      given = 0x44 is 0x50 ∷ 0x64 is 0x80 ∷ 0x66 is 0xFFFF ∷ board;
      steps =
          initialised
          ∷ working
          ∷ came (broadcast 46) good []
          ∷ turned (0x60 is 0x4000 ∷ [])
          ∷ turned (0x40 is 0x4000 ∷ [])
          ∷ attended 0x0330 (0x30 is 0x0240 ∷ [])
          ∷ settling (0x60 is 0 ∷ 0x30 is 0x1220 ∷ 0x3C is 1 ∷ [])
          ∷ settling (0x40 is 0xA000 ∷ 0x30 is 0x3120 ∷ [])
          ∷ [];
    }

-- ABORT of units that are neither Active nor Ready raises nothing
abort_idle : Case
abort_idle =
    record {
      given = board;
      steps =
          initialised
          ∷ attended 0xF440 (0x30 is 0 ∷ [])
          ∷ step (0x32 is 0x0110 ∷ 0x34 is 0x40 ∷ 0x36 is 0x60 ∷ []) attention quiet (0x30 is 0x0240 ∷ []) low
          ∷ raising 0x0330 (0x30 is 0x3110 ∷ [])
          ∷ attended 0xF440 (0x30 is 0 ∷ 0x40 is 0 ∷ 0x60 is 0 ∷ [])
          ∷ [];
    }

-- ABORT before a block is begun raises CNA and leaves the block; of a begun one it does no action and raises no CX, I or not
abort_not_begun : Case
abort_not_begun =
    record { given = 0x40 is 0x1234 ∷ board; steps = initialised ∷ commanding ∷ raising 0x0400 (0x30 is 0x2000 ∷ 0x40 is 0x1234 ∷ []) ∷ [] }

abort_does_nothing : Case
abort_does_nothing =
    record {
      given = 0x42 is 0x2005 ∷ board;
      steps = initialised ∷ commanding ∷ turned [] ∷ raising 0x0400 (0x40 is 0x9000 ∷ 0x46 is 0 ∷ 0x30 is 0x2000 ∷ []) ∷ [];
    }

-- ---- arrival

-- in order: 13 bytes and no match add nothing while a frame is held; then OVRNERRS alone, bad or short, and the held frame stays as it came
while_held : Case
while_held =
    record {
      given = descriptors ++ buffer_at 0xA0 0xAA 0xC0 46 ++ board;
      steps =
          initialised
          ∷ receiving
          ∷ came (broadcast 46) good (counters 0 0 0 0)
          ∷ dropped too_few (replicate 13 255) good (counters 0 0 0 0)
          ∷ dropped no_match (2 ∷ replicate 59 255) crc (counters 0 0 0 0)
          ∷ came (replicate 60 255) crc (counters 0 0 0 1)
          ∷ came (replicate 59 255) misaligned (counters 0 0 0 2)
          ∷ came (replicate 100 255) good (counters 0 0 0 3)
          ∷ turned []
          ∷ turned (0xA0 is 0xC02E ∷ 0xC0 is 0x0201 ∷ 0xEC is 0x2E2D ∷ [])
          ∷ step [] (turn 0) edge (0x60 is 0xA000 ∷ 0x6E is 0x0302 ∷ 0x70 is 0x0504 ∷ []) high
          ∷ [];
    }

-- in No Resources a bad frame counts by its verdict and is not held, save-bad or not; a short one counts nothing; a good one RSCERRS
in_no_resources : Case
in_no_resources =
    record {
      given = saving ++ (0x62 is 0x8000 ∷ descriptors) ++ buffer_at 0xA0 0xAA 0xC0 46 ++ board;
      steps =
          configured
          ++ (receiving
          ∷ came (broadcast 46) good []
          ∷ turned []
          ∷ turned []
          ∷ settling (0x30 is 0x5020 ∷ [])
          ∷ dropped bad (broadcast 46) crc (counters 1 0 0 0)
          ∷ dropped bad (broadcast 46) misaligned (counters 1 1 0 0)
          ∷ dropped bad (broadcast 45) good (counters 1 1 0 0)
          ∷ dropped bad (broadcast 45) crc (counters 1 1 0 0)
          ∷ came (broadcast 46) good (counters 1 1 1 0)
          ∷ turned (0x60 is 0xA000 ∷ 0x80 is 0 ∷ 0x30 is 0x5020 ∷ [])
          ∷ []);
    }

-- any other verdict is misaligned, not taken modulo anything
other_verdicts : Case
other_verdicts =
    record {
      given = board;
      steps = initialised ∷ receiving ∷ dropped bad (broadcast 46) 3 (counters 0 1 0 0) ∷ dropped bad (broadcast 46) 256 (counters 0 2 0 0) ∷ dropped bad (broadcast 46) 257 (counters 0 3 0 0) ∷ [];
    }

-- in Suspended nothing is counted; length and match are asked before
suspended_counts_nothing : Case
suspended_counts_nothing =
    record {
      given = board;
      steps =
          initialised
          ∷ receiving
          ∷ raising 0x0030 (0x30 is 0x1010 ∷ [])
          ∷ dropped too_few (replicate 13 2) crc (counters 0 0 0 0)
          ∷ dropped no_match (2 ∷ replicate 59 255) crc (counters 0 0 0 0)
          ∷ dropped unit_suspended (broadcast 46) good (counters 0 0 0 0)
          ∷ dropped unit_suspended (broadcast 46) crc (counters 0 0 0 0)
          ∷ dropped unit_suspended (broadcast 46) misaligned (counters 0 0 0 0)
          ∷ turned (0x60 is 0 ∷ [])
          ∷ [];
    }

-- judged once, by the settings at arrival: a Configure that comes before the end changes neither short nor saved
settings_at_arrival : (first second status scb : ℕ) → Case
settings_at_arrival first second status scb =
    record {
      given =
          0x42 is 0x8002 ∷ 0x46 is 0x0804 ∷ 0x48 is first ∷ 0x82 is 0x8002 ∷ 0x86 is 0x000C ∷ 0x88 is second ∷ 0x90 is 0x00FF
          ∷ 0x64 is 0x80 ∷ 0x66 is 0xA0 ∷ buffer_at 0xA0 0xAA 0xC0 0x8014 ++ board;
      steps =
          configured
          ++ (receiving
          ∷ came (broadcast 46) good []
          ∷ step (0x32 is 0x0100 ∷ 0x34 is 0x80 ∷ []) attention quiet (0x30 is 0x0240 ∷ []) low
          ∷ turned (0x60 is 0x4000 ∷ [])
          ∷ turned (0x80 is 0x4000 ∷ [])
          ∷ turned (0xA0 is 0x4014 ∷ [])
          ∷ settling (0x80 is 0xA000 ∷ 0x30 is 0x2040 ∷ [])
          ∷ settling (0x60 is status ∷ 0x30 is scb ∷ counters 0 0 1 0)
          ∷ []);
    }

-- an own address with the low bit set matches, though it is not listed
own_group : Case
own_group =
    record {
      given = 0x42 is 0x8001 ∷ 0x46 is 0x0201 ∷ descriptors ++ board;
      steps =
          configured
          ++ (receiving ∷ dropped no_match (1 ∷ 3 ∷ 0 ∷ 0 ∷ 0 ∷ 0 ∷ counting 1 54) good [] ∷ turned (0x60 is 0 ∷ []) ∷ came (1 ∷ 2 ∷ 0 ∷ 0 ∷ 0 ∷ 0 ∷ counting 1 54) good [] ∷ turned (0x60 is 0x4000 ∷ []) ∷ []);
    }

-- an MC-Setup of one address, in three words, and a Configure with that byte 8; both are done
abbrev listed_and_set : (first second third byte : ℕ) → List Word
listed_and_set first second third byte =
    0x42 is 0x0003 ∷ 0x44 is 0x80 ∷ 0x46 is 6 ∷ 0x48 is first ∷ 0x4A is second ∷ 0x4C is third
    ∷ 0x82 is 0x8002 ∷ 0x86 is 0x0009 ∷ 0x88 is 0x0600 ∷ 0x8E is byte ∷ descriptors ++ board

abbrev both_done : List Step
both_done = initialised ∷ commanding ∷ turned [] ∷ turned (0x40 is 0xA000 ∷ []) ∷ turned [] ∷ settling (0x80 is 0xA000 ∷ []) ∷ []

-- all FFh in the list does not help where broadcast is disabled; promiscuous does
listed_ones : (byte descriptor reason : ℕ) → Case
listed_ones byte descriptor reason =
    record {
      given = listed_and_set 0xFFFF 0xFFFF 0xFFFF byte;
      steps = both_done ++ (receiving ∷ dropped reason (broadcast 46) good [] ∷ turned (0x60 is descriptor ∷ []) ∷ []);
    }

-- all FFh passes by no bit, not even by its own, 59, which AB-00-00-02-00-00 shares: with broadcast disabled that group passes and all FFh does
-- not, whichever of them is listed
bit_of_ones : (first second third : ℕ) → Case
bit_of_ones first second third =
    record {
      given = listed_and_set first second third 2;
      steps =
          both_done
          ++ (receiving
          ∷ dropped no_match (broadcast 46) good []
          ∷ turned (0x60 is 0 ∷ [])
          ∷ came (0xAB ∷ 0 ∷ 0 ∷ 2 ∷ 0 ∷ 0 ∷ counting 1 54) good []
          ∷ turned (0x60 is 0x4000 ∷ [])
          ∷ []);
    }

-- ---- Configure and MC-Setup

-- byte 3: any length but 7, either location, no loopback; bits 4 and 5 are free
third_byte : (byte status : ℕ) → Case
third_byte byte status =
    record {
      given = 0x42 is 0x8002 ∷ 0x46 is 0x0004 ∷ 0x48 is (byte * 256) ∷ board;
      steps = initialised ∷ commanding ∷ turned [] ∷ settling (0x40 is status ∷ []) ∷ [];
    }

-- which bytes a count takes: with byte 10, 0, taken 59 bytes are held; with byte 8, 1, taken another's frame is
takes_minimum : (count descriptor reason : ℕ) → Case
takes_minimum count descriptor reason =
    record {
      given = 0x42 is 0x8002 ∷ 0x46 is count ∷ 0x48 is 0x0600 ∷ descriptors ++ board;
      steps = configured ++ (receiving ∷ dropped reason (broadcast 45) good [] ∷ turned (0x60 is descriptor ∷ []) ∷ []);
    }

takes_promiscuous : (count descriptor reason : ℕ) → Case
takes_promiscuous count descriptor reason =
    record {
      given = 0x42 is 0x8002 ∷ 0x46 is count ∷ 0x48 is 0x0600 ∷ 0x4E is 1 ∷ 0x50 is 0x40 ∷ descriptors ++ board;
      steps = configured ++ (receiving ∷ dropped reason (2 ∷ counting 2 59) good [] ∷ turned (0x60 is descriptor ∷ []) ∷ []);
    }

-- a Configure that is rejected changes nothing: save-bad, which it would clear, and the minimum, which it would make 0, stay
rejected_keeps : Case
rejected_keeps =
    record {
      given =
          0x42 is 0x0002 ∷ 0x44 is 0x80 ∷ 0x46 is 0x000A ∷ 0x48 is 0x0680
          ∷ 0x82 is 0x8002 ∷ 0x86 is 0x000C ∷ 0x88 is 0x4600 ∷ descriptors ++ buffer_at 0xA0 0xAA 0xC0 46 ++ board;
      steps =
          initialised
          ∷ commanding
          ∷ turned []
          ∷ turned (0x40 is 0xA000 ∷ [])
          ∷ turned []
          ∷ settling (0x80 is 0x8000 ∷ 0x30 is 0x2000 ∷ [])
          ∷ receiving
          ∷ came (broadcast 45) good []
          ∷ turned (0x60 is 0x4000 ∷ [])
          ∷ turned []
          ∷ settling (0x60 is 0x8080 ∷ [])
          ∷ [];
    }

-- a group is listed; a second MC-Setup, with any count, is done and leaves nothing of that filter. In its list stand addresses of zeros, if any
listed_then : (count : ℕ) → Case
listed_then count =
    record {
      given = 0x42 is 0x0003 ∷ 0x44 is 0x80 ∷ 0x46 is 6 ∷ 0x48 is 0x0203 ∷ 0x82 is 0x8003 ∷ 0x86 is count ∷ 0x64 is 0x80 ∷ board;
      steps =
          initialised
          ∷ commanding
          ∷ turned []
          ∷ turned (0x40 is 0xA000 ∷ [])
          ∷ turned []
          ∷ settling (0x80 is 0xA000 ∷ 0x30 is 0x2000 ∷ [])
          ∷ receiving
          ∷ dropped no_match (3 ∷ 2 ∷ 0 ∷ 0 ∷ 0 ∷ 0 ∷ counting 1 54) good []
          ∷ turned (0x60 is 0 ∷ [])
          ∷ [];
    }

-- thirty addresses: the last of them counts as the first does
thirtieth : Case
thirtieth =
    record {
      given = 0x42 is 0x8003 ∷ 0x46 is 180 ∷ 0xF6 is 0x0203 ∷ board;
      steps =
          configured
          ++ (receiving
          ∷ dropped no_match (3 ∷ 3 ∷ 0 ∷ 0 ∷ 0 ∷ 0 ∷ counting 1 54) good []
          ∷ turned (0x60 is 0 ∷ [])
          ∷ came (3 ∷ 2 ∷ 0 ∷ 0 ∷ 0 ∷ 0 ∷ counting 1 54) good []
          ∷ turned (0x60 is 0x4000 ∷ [])
          ∷ []);
    }

-- ---- Transmit

sending : List Word
sending =
    0x42 is 0x8004 ∷ 0x46 is 0xA0 ∷ 0x48 is 0x0201 ∷ 0x4E is 0x0900 ∷ 0xA0 is 0x4002 ∷ 0xA2 is 0xB0 ∷ 0xA4 is 0xC0 ∷ 0xB0 is 0x8002 ∷ 0xB2 is 0xFFFF ∷ 0xB4 is 0xD0 ∷ 0xC0 is 0x2211 ∷ 0xD0 is 0x4433 ∷ []

-- +6, destination and type are read at begin, a next offset in its descriptor's own turn; other turns' reports say nothing; bit 14 of +0 neither
read_at_begin : Case
unfolding sending
read_at_begin =
    record {
      given = sending ++ board;
      steps =
          initialised
          ∷ commanding
          ∷ step [] (turn 0xFFFF) quiet (0x40 is 0x4000 ∷ []) low
          ∷ step (0x46 is 0xFFFF ∷ 0x48 is 0x9999 ∷ 0x4E is 0x9999 ∷ []) (turn 0xFFFF) quiet [] low
          ∷ step (0xA2 is 0xA0 ∷ []) (turn 0xFFFF) quiet [] low
          ∷ ends 0 18 (0x40 is 0xA000 ∷ 0x30 is 0x2000 ∷ []) (0 is 0x0201 ∷ 6 is 0xFFFF ∷ 12 is 0x0900 ∷ 14 is 0x2211 ∷ 16 is 0x4433 ∷ 18 is 0 ∷ [])
          ∷ [];
    }

-- a NOP's status has nothing of the report
report_of_nop : Case
report_of_nop = record { given = 0x42 is 0x8000 ∷ board; steps = initialised ∷ commanding ∷ turned [] ∷ ends 0xFFFF 0 (0x40 is 0xA000 ∷ []) [] ∷ [] }

-- a buffer that would pass 2,048 bytes: 8100h whatever the report, none of it copied, EOF or not
too_long : Case
too_long =
    record {
      given = 0x42 is 0x8004 ∷ 0x46 is 0xA0 ∷ 0xA0 is 0x87F3 ∷ 0xA4 is 0xC0 ∷ 0xC0 is 0x2211 ∷ board;
      steps = initialised ∷ commanding ∷ turned [] ∷ turned [] ∷ ends 0xFFFF 0 (0x40 is 0x8100 ∷ 0x30 is 0x2000 ∷ []) (14 is 0 ∷ []) ∷ [];
    }

-- the source of a sent frame is the own address, here 02-03-04-05-06-07, as IA-Setup left it
source_sent : Case
source_sent =
    record {
      given =
          0x42 is 0x0001 ∷ 0x44 is 0x80 ∷ 0x46 is 0x0302 ∷ 0x48 is 0x0504 ∷ 0x4A is 0x0706
          ∷ 0x82 is 0x8004 ∷ 0x86 is 0xFFFF ∷ 0x88 is 0x1211 ∷ 0x8A is 0x1413 ∷ 0x8C is 0x1615 ∷ 0x8E is 0x0900 ∷ board;
      steps =
          initialised
          ∷ commanding
          ∷ turned []
          ∷ turned (0x40 is 0xA000 ∷ [])
          ∷ turned []
          ∷ ends 0 14 (0x80 is 0xA000 ∷ 0x30 is 0x2000 ∷ [])
          (0 is 0x1211 ∷ 2 is 0x1413 ∷ 4 is 0x1615 ∷ 6 is 0x0302 ∷ 8 is 0x0504 ∷ 10 is 0x0706 ∷ 12 is 0x0900 ∷ 14 is 0 ∷ [])
          ∷ [];
    }

-- the outgoing area as the host leaves it is what is sent: nothing is read again
altered_outgoing : Case
altered_outgoing =
    record {
      given = 0x42 is 0x8004 ∷ 0x46 is 0xFFFF ∷ 0x4E is 0x0900 ∷ board;
      steps =
          initialised
          ∷ commanding
          ∷ turned []
          ∷ record {
            host = [];
            held = [];
            sent = 12 is 0x7777 ∷ 40 is 0x5555 ∷ [];
            call = turn 0;
            answer = record { number = 0; length = 14; edge = true; reason = 0 };
            words = 0x40 is 0xA000 ∷ [];
            outgoing = 0 is 0 ∷ 12 is 0x7777 ∷ 40 is 0x5555 ∷ [];
            level = high;
          }
          ∷ [];
    }

-- ---- storing

-- the holding area as the host leaves it is what is stored, data at its buffer turn and the header at the end turn; nothing is judged again
touching : List Word → List Word → Step
touching held words =
    record { host = []; held = held; sent = []; call = turn 0; answer = quiet; words = words; outgoing = []; level = low }

altered_holding : Case
unfolding touching
altered_holding =
    record {
      given = descriptors ++ buffer_at 0xA0 0xAA 0xC0 46 ++ board;
      steps =
          initialised
          ∷ receiving
          ∷ came (broadcast 46) good []
          ∷ touching (14 is 0x1111 ∷ 0 is 0x2222 ∷ []) (0x60 is 0x4000 ∷ [])
          ∷ touching (16 is 0x3333 ∷ []) (0xA0 is 0xC02E ∷ 0xC0 is 0x1111 ∷ 0xC2 is 0x3333 ∷ 0xC4 is 0x0605 ∷ [])
          ∷ record {
            host = [];
            held = 6 is 0x4444 ∷ 14 is 0x9999 ∷ [];
            sent = [];
            call = turn 0;
            answer = edge;
            words = 0x60 is 0xA000 ∷ 0x68 is 0x2222 ∷ 0x6A is 0xFFFF ∷ 0x6E is 0x4444 ∷ 0x70 is 0x0504 ∷ 0xC0 is 0x1111 ∷ [];
            outgoing = [];
            level = high;
          }
          ∷ [];
    }

-- 64 buffers at most, here one of a byte that is linked to itself: 65 bytes run out, 64 are stored well and leave the unit Ready
endless_buffers : (n : ℕ) → List Word → Case
endless_buffers n words =
    record {
      given = descriptors ++ buffer_at 0xA0 0xA0 0xC0 1 ++ board;
      steps = initialised ∷ receiving ∷ came (broadcast n) good [] ∷ replicate 65 (turned (0x60 is 0x4000 ∷ [])) ++ (settling words ∷ []);
    }

-- EL, S and +6 of the frame descriptor are read at begin, a buffer descriptor's next offset in its own turn; bit 14 of a size says nothing
stored_as_read : Case
stored_as_read =
    record {
      given = descriptors ++ buffer_at 0xA0 0xAA 0xC0 0x4014 ++ buffer_at 0xAA 0xB4 0xD4 40 ++ board;
      steps =
          initialised
          ∷ receiving
          ∷ came (broadcast 46) good []
          ∷ turned (0x60 is 0x4000 ∷ [])
          ∷ step (0x62 is 0xC000 ∷ 0x66 is 0xFFFF ∷ []) (turn 0) quiet (0xA0 is 0x4014 ∷ []) low
          ∷ step (0xA2 is 0xFFFF ∷ 0xA8 is 0x8000 ∷ []) (turn 0) quiet (0xAA is 0xC01A ∷ []) low
          ∷ settling (0x60 is 0xA000 ∷ 0x86 is 0xB4 ∷ 0x30 is 0x4040 ∷ [])
          ∷ [];
    }

-- EL wins over S in a frame descriptor
no_resources_wins : Case
no_resources_wins =
    record {
      given = 0x62 is 0xC000 ∷ descriptors ++ buffer_at 0xA0 0xAA 0xC0 46 ++ board;
      steps =
          initialised ∷ receiving ∷ came (broadcast 46) good [] ∷ turned [] ∷ turned [] ∷ settling (0x60 is 0xA000 ∷ 0x86 is 0 ∷ 0x30 is 0x5020 ∷ []) ∷ [];
    }

-- FFFFh behind the buffer where the data ends is no lack: it is the next free offset
free_of_ones : Case
free_of_ones =
    record {
      given = descriptors ++ buffer_at 0xA0 0xFFFF 0xC0 46 ++ board;
      steps =
          initialised ∷ receiving ∷ came (broadcast 46) good [] ∷ turned [] ∷ turned [] ∷ settling (0x60 is 0xA000 ∷ 0x86 is 0xFFFF ∷ 0x30 is 0x4040 ∷ []) ∷ [];
    }

-- FFFFh in a frame descriptor's link is an offset like any other: in 8,192 bytes 1FFFh, and its +6 is at 5
frame_link_of_ones : Case
frame_link_of_ones =
    record {
      given = 0x64 is 0xFFFF ∷ 0x66 is 0xA0 ∷ buffer_at 0xA0 0xAA 0xC0 46 ++ board;
      steps =
          initialised
          ∷ receiving
          ∷ came (broadcast 46) good []
          ∷ turned []
          ∷ turned []
          ∷ settling (0x60 is 0xA000 ∷ 0x05 is 0xAA ∷ 0x30 is 0x4040 ∷ [])
          ∷ came (broadcast 46) good []
          ∷ turned (0x1FFF is 0x4000 ∷ [])
          ∷ [];
    }

-- the SCB status is written after the next frame descriptor's +6, which stands on it
free_then_status : Case
free_then_status =
    record {
      given = 0x64 is 0x2A ∷ 0x66 is 0xA0 ∷ buffer_at 0xA0 0xAA 0xC0 46 ++ board;
      steps = initialised ∷ receiving ∷ came (broadcast 46) good [] ∷ turned [] ∷ turned [] ∷ settling (0x60 is 0xA000 ∷ 0x30 is 0x4040 ∷ []) ∷ [];
    }

-- RSCERRS follows the header bytes, two of which stand on it
counter_after_header : Case
counter_after_header =
    record {
      given = saving ++ board;
      steps =
          configured
          ++ (step (0x32 is 0xF010 ∷ 0x36 is 0x2C ∷ 0x2E is 0 ∷ []) attention quiet [] low
          ∷ came (broadcast 46) good []
          ∷ step (0x32 is 0xFFFF ∷ []) (turn 0) quiet (0x2C is 0x4000 ∷ []) low
          ∷ settling (0x2C is 0x8200 ∷ 0x3C is 0x0505 ∷ 0x30 is 0x5020 ∷ [])
          ∷ []);
    }

-- RESUME does nothing to a unit that is Idle, nor to a receive unit without resources
resume_idle : Case
resume_idle =
    record {
      given = descriptors ++ board;
      steps =
          initialised
          ∷ step (0x32 is 0xF220 ∷ 0x34 is 0x40 ∷ 0x36 is 0x60 ∷ []) attention quiet (0x30 is 0 ∷ 0x32 is 0 ∷ []) low
          ∷ dropped unit_idle (broadcast 46) good (counters 0 0 0 0)
          ∷ turned (0x40 is 0 ∷ 0x60 is 0 ∷ 0x30 is 0 ∷ [])
          ∷ [];
    }

resume_no_resources : Case
resume_no_resources =
    record {
      given = (0x62 is 0x8000 ∷ descriptors) ++ buffer_at 0xA0 0xAA 0xC0 46 ++ board;
      steps =
          initialised
          ∷ receiving
          ∷ came (broadcast 46) good []
          ∷ turned []
          ∷ turned []
          ∷ settling (0x30 is 0x5020 ∷ [])
          ∷ attended 0xF020 (0x30 is 0x0020 ∷ [])
          ∷ came (broadcast 46) good (0x30 is 0x0020 ∷ counters 0 0 1 0)
          ∷ [];
    }

-- an attention that leaves a single event set reports an edge, whichever it is
one_left : (acknowledged left : ℕ) → Case
one_left acknowledged left = record { given = board; steps = initialised ∷ raising acknowledged (0x30 is left ∷ []) ∷ [] }

one_left_stored : (acknowledged left : ℕ) → Case
one_left_stored acknowledged left =
    record {
      given = (0x62 is 0x8000 ∷ descriptors) ++ buffer_at 0xA0 0xAA 0xC0 46 ++ board;
      steps =
          initialised
          ∷ receiving
          ∷ came (broadcast 46) good []
          ∷ turned []
          ∷ turned []
          ∷ settling (0x30 is 0x5020 ∷ [])
          ∷ raising acknowledged (0x30 is left ∷ [])
          ∷ [];
    }

-- a short frame that is saved and runs out of buffers has both bits, and no counter moves
short_saved_lacks : Case
short_saved_lacks =
    record {
      given = saving ++ (0x64 is 0x80 ∷ 0x66 is 0xA0 ∷ buffer_at 0xA0 0xAA 0xC0 0x8014) ++ board;
      steps =
          configured
          ++ (receiving
          ∷ came (broadcast 45) good []
          ∷ turned (0x60 is 0x4000 ∷ [])
          ∷ turned (0xA0 is 0x4014 ∷ [])
          ∷ settling (0x60 is 0x8280 ∷ 0x30 is 0x5020 ∷ counters 0 0 0 0)
          ∷ []);
    }

-- ---- 02, Wish 4: addresses of other lengths, and headers in buffers. Byte 3 of a Configure says both

-- IA-Setup of 02-03-04-05-06-07, a Configure, and a Transmit with an offset at +6: the steps behind its begin
sent_by : (third first : ℕ) → List Step → Case
sent_by third first steps =
    record {
      given =
          0x42 is 0x0001 ∷ 0x44 is 0x50 ∷ 0x46 is 0x0302 ∷ 0x48 is 0x0504 ∷ 0x4A is 0x0706
          ∷ 0x52 is 0x0002 ∷ 0x54 is 0x80 ∷ 0x56 is 0x0004 ∷ 0x58 is (third * 256)
          ∷ 0x82 is 0x8004 ∷ 0x86 is first ∷ 0x88 is 0x1211 ∷ 0x8A is 0x1413 ∷ 0x8C is 0x1615 ∷ 0x8E is 0x0900
          ∷ 0xA0 is 0x8002 ∷ 0xA2 is 0xFFFF ∷ 0xA4 is 0xC0 ∷ 0xC0 is 0x2221 ∷ board;
      steps = initialised ∷ commanding ∷ turned [] ∷ turned [] ∷ turned [] ∷ turned (0x50 is 0xA000 ∷ []) ∷ turned [] ∷ steps;
    }

-- "Block and descriptor fields are packed; of the own address the first bytes, up to the length, count": with two bytes an address the type is
-- at +10, with none at +8; with location 1 "the chip inserts no source address", and the buffers' bytes are the frame
packed_sent : (third length : ℕ) → (outgoing : List Word) → Case
unfolding sent_by
packed_sent third length outgoing = sent_by third 0xA0 (turned [] ∷ ends 0 length (0x80 is 0xA000 ∷ 0x30 is 0x2000 ∷ []) outgoing ∷ [])

-- with location 1 and no buffer a frame of no bytes ends as reported, and nothing is in the outgoing area
no_bytes_sent : (report status : ℕ) → Case
unfolding sent_by
no_bytes_sent report status = sent_by 0x0A 0xFFFF (ends report 0 (0x80 is status ∷ 0x30 is 0x2000 ∷ []) (0 is 0 ∷ 2 is 0 ∷ 4 is 0 ∷ []) ∷ [])

-- a frame of 60 bytes to two bytes FFh, each byte behind them its own index; in the descriptor stands 7777h from +8 on
packed_stored : (third : ℕ) → (words : List Word) → Case
packed_stored third words =
    record {
      given =
          0x42 is 0x8002 ∷ 0x46 is 0x0004 ∷ 0x48 is (third * 256)
          ∷ 0x68 is 0x7777 ∷ 0x6A is 0x7777 ∷ 0x6C is 0x7777 ∷ 0x6E is 0x7777 ∷ 0x74 is 0x7777 ∷ descriptors ++ buffer_at 0xA0 0xAA 0xC0 60 ++ board;
      steps = configured ++ (receiving ∷ came (255 ∷ 255 ∷ counting 2 58) good [] ∷ turned [] ∷ turned [] ∷ settling (0x60 is 0xA000 ∷ words) ∷ []);
    }

-- "A held frame is stored by the length and location it arrived under, whatever Configure has said since": a frame comes between a Configure's
-- begin and its end, and is begun after it. The one before it only makes the command unit the next
held_across : (first second : ℕ) → (words : List Word) → Case
held_across first second words =
    record {
      given =
          0x42 is 0x8002 ∷ 0x46 is 0x0004 ∷ 0x48 is (first * 256) ∷ 0x52 is 0x8002 ∷ 0x56 is 0x0004 ∷ 0x58 is (second * 256)
          ∷ descriptors ++ buffer_at 0xA0 0xAA 0xC0 60 ++ buffer_at 0xAA 0xB4 0x100 60 ++ board;
      steps =
          configured
          ++ (receiving
          ∷ came (broadcast 46) good []
          ∷ turned []
          ∷ turned []
          ∷ step (0x32 is 0x0100 ∷ 0x34 is 0x50 ∷ []) attention quiet (0x30 is 0x0240 ∷ []) low
          ∷ turned (0x50 is 0x4000 ∷ [])
          ∷ settling (0x60 is 0xA000 ∷ [])
          ∷ came (broadcast 46) good []
          ∷ settling (0x50 is 0xA000 ∷ 0x80 is 0 ∷ [])
          ∷ turned (0x80 is 0x4000 ∷ [])
          ∷ turned []
          ∷ settling (0x80 is 0xA000 ∷ words)
          ∷ []);
    }

-- "14-byte tests read 'shorter than the header'": one byte below it a frame is dropped, with location 1 too; the header alone is a frame, which
-- has no data with location 0, and with location 1 has
shortest : (third below : ℕ) → (last : Step) → Case
shortest third below last =
    record {
      given = 0x42 is 0x8002 ∷ 0x46 is 0x000C ∷ 0x48 is (third * 256) ∷ 0x4E is 1 ∷ descriptors ++ buffer_at 0xA0 0xAA 0xC0 60 ++ board;
      steps =
          configured
          ++ (receiving ∷ dropped too_few (replicate below 255) good [] ∷ came (replicate (below + 1) 255) good [] ∷ turned (0x60 is 0x4000 ∷ []) ∷ last ∷ []);
    }

-- the own address is compared by its first two bytes
own_by_two : Case
own_by_two =
    record {
      given =
          0x42 is 0x0001 ∷ 0x44 is 0x80 ∷ 0x46 is 0x0302 ∷ 0x48 is 0x0504 ∷ 0x4A is 0x0706 ∷ 0x82 is 0x8002 ∷ 0x86 is 0x0004 ∷ 0x88 is 0x0200 ∷ descriptors ++ board;
      steps =
          both_done
          ++ (receiving
          ∷ dropped no_match (2 ∷ 4 ∷ 4 ∷ 5 ∷ 6 ∷ 7 ∷ counting 1 54) good []
          ∷ turned (0x60 is 0 ∷ [])
          ∷ came (2 ∷ 3 ∷ 9 ∷ 9 ∷ 9 ∷ 9 ∷ counting 1 54) good []
          ∷ turned (0x60 is 0x4000 ∷ [])
          ∷ []);
    }

-- "MC-Setup's addresses have that length": of five bytes two addresses of two, 03-02 and 05-02, and 07-03 is none of them
listed_by_two : Case
listed_by_two =
    record {
      given =
          0x42 is 0x0002 ∷ 0x44 is 0x80 ∷ 0x46 is 0x0004 ∷ 0x48 is 0x0200 ∷ 0x82 is 0x8003 ∷ 0x86 is 5 ∷ 0x88 is 0x0203 ∷ 0x8A is 0x0205 ∷ 0x8C is 0x0307 ∷ descriptors ++ board;
      steps =
          both_done
          ++ (receiving
          ∷ dropped no_match (7 ∷ 3 ∷ 0 ∷ 0 ∷ 0 ∷ 0 ∷ counting 1 54) good []
          ∷ turned (0x60 is 0 ∷ [])
          ∷ came (5 ∷ 2 ∷ 9 ∷ 9 ∷ 9 ∷ 9 ∷ counting 1 54) good []
          ∷ turned (0x60 is 0x4000 ∷ [])
          ∷ []);
    }

-- a filter outlives the length it was made by: 01-22 falls on the bit of 03-02-00-00-00-00, and 03-02 does not
bits_outlive : Case
bits_outlive =
    record {
      given = 0x42 is 0x0003 ∷ 0x44 is 0x80 ∷ 0x46 is 6 ∷ 0x48 is 0x0203 ∷ 0x82 is 0x8002 ∷ 0x86 is 0x0004 ∷ 0x88 is 0x0200 ∷ descriptors ++ board;
      steps =
          both_done
          ++ (receiving
          ∷ dropped no_match (3 ∷ 2 ∷ 0 ∷ 0 ∷ 0 ∷ 0 ∷ counting 1 54) good []
          ∷ turned (0x60 is 0 ∷ [])
          ∷ came (1 ∷ 0x22 ∷ 0 ∷ 0 ∷ 0 ∷ 0 ∷ counting 1 54) good []
          ∷ turned (0x60 is 0x4000 ∷ [])
          ∷ []);
    }

-- at length 0 "only promiscuous mode receives": all FFh is neither everyone's nor the own address, which is six FFh; received, its header is two
-- bytes of type
nobodys : Case
nobodys =
    record {
      given =
          0x42 is 0x8002 ∷ 0x46 is 0x0004 ∷ 0x52 is 0x8002 ∷ 0x56 is 0x0009 ∷ 0x5E is 1
          ∷ 0x6A is 0x7777 ∷ descriptors ++ buffer_at 0xA0 0xAA 0xC0 60 ++ board;
      steps =
          configured
          ++ (receiving
          ∷ dropped no_match (broadcast 46) good []
          ∷ step (0x32 is 0x0100 ∷ 0x34 is 0x50 ∷ []) attention quiet (0x30 is 0x0240 ∷ []) low
          ∷ turned (0x60 is 0 ∷ [])
          ∷ settling (0x50 is 0xA000 ∷ [])
          ∷ came (broadcast 46) good []
          ∷ turned []
          ∷ turned (0xA0 is 0xC03A ∷ 0xC0 is 0xFFFF ∷ 0xC4 is 0x0302 ∷ [])
          ∷ settling (0x60 is 0xA000 ∷ 0x68 is 0xFFFF ∷ 0x6A is 0x7777 ∷ [])
          ∷ []);
    }

-- resets, attentions, the units and what arrives
pub calls : List Case
unfolding reset_call resetting_with_events resetting_forgets resetting_serves_receive_first served_last_alone idle_turn edge_again failed_goes_on says_nothing abort_then_status start_while_waiting start_while_suspended frame_suspends start_while_ready waiting_apart abort_idle abort_not_begun abort_does_nothing while_held in_no_resources other_verdicts suspended_counts_nothing settings_at_arrival resume_idle resume_no_resources one_left one_left_stored
calls =
    reset_call
    ∷ resetting_with_events
    ∷ resetting_forgets
    ∷ resetting_serves_receive_first
    ∷ served_last_alone
    ∷ idle_turn
    ∷ edge_again
    ∷ failed_goes_on
    ∷ says_nothing 0x0D5F
    ∷ says_nothing 0x0E6F
    ∷ says_nothing 0x0F7F
    ∷ abort_then_status 0x30
    ∷ abort_then_status 0x32
    ∷ start_while_waiting
    ∷ start_while_suspended
    ∷ frame_suspends
    ∷ start_while_ready
    ∷ waiting_apart
    ∷ abort_idle
    ∷ abort_not_begun
    ∷ abort_does_nothing
    ∷ while_held
    ∷ in_no_resources
    ∷ other_verdicts
    ∷ suspended_counts_nothing
    ∷ settings_at_arrival 0x0680 0x0600 0x8200 0x7020
    ∷ settings_at_arrival 0x0600 0x0680 0x0000 0x3020
    ∷ resume_idle
    ∷ resume_no_resources
    ∷ one_left 0x2000 0x8000
    ∷ one_left 0x8000 0x2000
    ∷ one_left_stored 0x1000 0x4020
    ∷ one_left_stored 0x4000 0x1020
    ∷ []

-- the filter, the commands, and how frames are stored
pub works : List Case
unfolding own_group listed_ones bit_of_ones third_byte takes_minimum takes_promiscuous rejected_keeps listed_then thirtieth read_at_begin source_sent altered_outgoing altered_holding report_of_nop too_long endless_buffers stored_as_read no_resources_wins free_of_ones frame_link_of_ones free_then_status counter_after_header short_saved_lacks
works =
    own_group
    ∷ listed_ones 2 0 no_match
    ∷ listed_ones 3 0x4000 not_dropped
    ∷ bit_of_ones 0xFFFF 0xFFFF 0xFFFF
    ∷ bit_of_ones 0x00AB 0x0200 0x0000
    ∷ third_byte 0x36 0xA000
    ∷ third_byte 0x02 0xA000
    ∷ third_byte 0x04 0xA000
    ∷ third_byte 0x07 0x8000
    ∷ third_byte 0x0E 0xA000
    ∷ third_byte 0x46 0x8000
    ∷ third_byte 0x86 0x8000
    ∷ takes_minimum 0x0A 0 bad
    ∷ takes_minimum 0x0B 0x4000 not_dropped
    ∷ takes_minimum 0xFF 0x4000 not_dropped
    ∷ takes_promiscuous 0xF8 0 no_match
    ∷ takes_promiscuous 0x09 0x4000 not_dropped
    ∷ takes_promiscuous 0x00 0 no_match
    ∷ rejected_keeps
    ∷ listed_then 102
    ∷ listed_then 6
    ∷ listed_then 5
    ∷ listed_then 0
    ∷ listed_then 0xC000
    ∷ thirtieth
    ∷ read_at_begin
    ∷ source_sent
    ∷ altered_outgoing
    ∷ altered_holding
    ∷ report_of_nop
    ∷ too_long
    ∷ endless_buffers 65 (0x60 is 0 ∷ 0x30 is 0x1020 ∷ 0x3C is 1 ∷ [])
    ∷ endless_buffers 64 (0x60 is 0xA000 ∷ 0xA0 is 0xC001 ∷ 0x86 is 0xA0 ∷ 0x30 is 0x4040 ∷ 0x3C is 0 ∷ [])
    ∷ stored_as_read
    ∷ no_resources_wins
    ∷ free_of_ones
    ∷ frame_link_of_ones
    ∷ free_then_status
    ∷ counter_after_header
    ∷ short_saved_lacks
    ∷ []

-- lengths 0, 2 and 6, both locations
pub headers : List Case
unfolding packed_sent no_bytes_sent packed_stored held_across shortest own_by_two listed_by_two bits_outlive nobodys
headers =
    packed_sent 0x02 8 (0 is 0x1211 ∷ 2 is 0x0302 ∷ 4 is 0x1413 ∷ 6 is 0x2221 ∷ 8 is 0 ∷ [])
    ∷ packed_sent 0x00 4 (0 is 0x1211 ∷ 2 is 0x2221 ∷ 4 is 0 ∷ [])
    ∷ packed_sent 0x0A 2 (0 is 0x2221 ∷ 2 is 0 ∷ [])
    ∷ no_bytes_sent 0 0xA000
    ∷ no_bytes_sent 0x0020 0x8020
    ∷ packed_stored 0x02 (0x68 is 0xFFFF ∷ 0x6A is 0x0302 ∷ 0x6C is 0x0504 ∷ 0x6E is 0x7777 ∷ 0xA0 is 0xC036 ∷ 0xC0 is 0x0706 ∷ [])
    ∷ packed_stored 0x0A (0x68 is 0x7777 ∷ 0x6A is 0x7777 ∷ 0x6C is 0x7777 ∷ 0xA0 is 0xC03C ∷ 0xC0 is 0xFFFF ∷ 0xC2 is 0x0302 ∷ 0xFA is 0x3B3A ∷ [])
    ∷ held_across 0x06 0x0A (0x88 is 0xFFFF ∷ 0x8E is 0x0302 ∷ 0x94 is 0x0008 ∷ 0xAA is 0xC02E ∷ 0x100 is 0x0201 ∷ [])
    ∷ held_across 0x0A 0x06 (0x88 is 0 ∷ 0x8E is 0 ∷ 0xAA is 0xC03C ∷ 0x100 is 0xFFFF ∷ 0x106 is 0x0302 ∷ [])
    ∷ held_across 0x02 0x06 (0x8C is 0xFFFF ∷ 0x8E is 0 ∷ 0xAA is 0xC036 ∷ 0x100 is 0x0302 ∷ [])
    ∷ shortest 0x02 5 (settling (0x60 is 0xA000 ∷ 0x66 is 0xFFFF ∷ []))
    ∷ shortest 0x0A 5 (turned (0xA0 is 0xC006 ∷ []))
    ∷ shortest 0x08 1 (turned (0xA0 is 0xC002 ∷ []))
    ∷ own_by_two
    ∷ listed_by_two
    ∷ bits_outlive
    ∷ nobodys
    ∷ []

-- three statements, since one over all of them would take much memory to check
pub kept_calls : T (all_pass calls)
unfolding passes calls
kept_calls = all_prepared calls tt

pub kept_works : T (all_pass works)
unfolding passes works
kept_works = all_prepared works tt

pub kept_headers : T (all_pass headers)
unfolding passes headers
kept_headers = all_prepared headers tt
