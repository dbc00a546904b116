-- Points of document 01 that could be read two ways, each with a case that tells the reading taken (docs/DECISIONS.md) from the other, by one
-- statement over the list: `taken`. Assumes nothing.
use mathlib.Core.List.{List, [], ◌∷◌, ◌++◌}
use Prim.Native.Nat.{ℕ}
use lib.Dec.{T}
use lib.ListN.{replicate}
use Rattle.chip.specs.Cases.{Word, ◌is◌, high, low, Case, passes, all_pass}
use Rattle.chip.specs.Call.{attention, arrive, turn}
use Rattle.cases.proofs.Prepared.{all_prepared}
use Rattle.chip.proofs.Board.{board, descriptors, buffer_at, good, crc, misaligned, counting, broadcast, quiet, edge, step, ends, turned, came, not_dropped, too_few, no_match, unit_idle, unit_suspended, dropped, initialised, receiving, commanding, attended, raising, settling, configured, saving}

-- ---- the first attention

-- all reads, then BUSY, status, command: with the SCB at 1Fh its status covers BUSY
order_at_first : Case
order_at_first =
    record {
      given = 8188 is 0x20 ∷ 0x20 is 1 ∷ 0x22 is 0x1F ∷ [];
      steps = step [] attention edge (0x1F is 0xA000 ∷ 0x21 is 0 ∷ []) high ∷ [];
    }

-- it obeys neither acknowledgement nor RESET, and BUSY is not tested
obeys_nothing : Case
obeys_nothing =
    record {
      given = 0x32 is 0x8190 ∷ board ++ (0x20 is 0xAB00 ∷ []);
      steps = step [] attention edge (0x30 is 0xA000 ∷ 0x32 is 0 ∷ 0x20 is 0xAB00 ∷ []) high ∷ turned (0x30 is 0xA000 ∷ []) ∷ [];
    }

-- before it a frame is dropped, no counter moves, and a turn finds no work. The unit is Idle, which is told after length and match
nothing_before : Case
nothing_before =
    record {
      given = board;
      steps =
          dropped too_few (replicate 13 2) good []
          ∷ dropped no_match (2 ∷ replicate 59 255) good []
          ∷ dropped unit_idle (broadcast 46) good (0x0C is 0 ∷ 0x3C is 0 ∷ [])
          ∷ turned (0x30 is 0 ∷ [])
          ∷ initialised
          ∷ [];
    }

-- ---- attention

-- edge: any event left set
edges : Case
edges =
    record {
      given = board;
      steps = initialised ∷ raising 0x0000 (0x30 is 0xA000 ∷ []) ∷ attended 0xF000 (0x30 is 0 ∷ []) ∷ attended 0x0000 (0x30 is 0 ∷ []) ∷ [];
    }

-- the status is kept in the record: what the host writes over it is not read
status_is_kept : Case
status_is_kept =
    record { given = board; steps = initialised ∷ step (0x30 is 0 ∷ 0x32 is 0 ∷ []) attention edge (0x30 is 0xA000 ∷ []) high ∷ [] }

-- CUC before RUC: 9000h, written over the RFA offset, is where the receive unit starts
command_unit_first : Case
command_unit_first =
    record {
      given = board;
      steps =
          initialised
          ∷ step (0x32 is 0xF100 ∷ 0x34 is 0x36 ∷ []) attention quiet (0x30 is 0x0200 ∷ []) low
          ∷ turned (0x36 is 0x4000 ∷ [])
          ∷ raising 0x0410 (0x36 is 0x9000 ∷ 0x30 is 0x2040 ∷ [])
          ∷ came (broadcast 46) good []
          ∷ turned (0x1000 is 0x4000 ∷ [])
          ∷ [];
    }

-- acknowledgement before the codes: an event acknowledged and raised at once is set
acknowledged_first : Case
acknowledged_first =
    record {
      given = board;
      steps = initialised ∷ commanding ∷ turned (0x40 is 0x4000 ∷ []) ∷ raising 0x2400 (0x40 is 0x9000 ∷ 0x30 is 0x2000 ∷ []) ∷ [];
    }

-- a resetting attention writes command 0 and nothing else, reports no edge, and the next attention is a first one
resetting : Case
resetting =
    record {
      given = board;
      steps =
          initialised
          ∷ commanding
          ∷ turned (0x40 is 0x4000 ∷ [])
          ∷ step (0x32 is 0xF490 ∷ 0x20 is 1 ∷ []) attention quiet (0x30 is 0x0200 ∷ 0x32 is 0 ∷ 0x40 is 0x4000 ∷ []) low
          ∷ turned (0x40 is 0x4000 ∷ [])
          ∷ step [] attention edge (0x30 is 0xA000 ∷ 0x20 is 0 ∷ []) high
          ∷ [];
    }

-- ---- SUSPEND, RESUME, ABORT

-- a RESUME while a SUSPEND waits does nothing
resume_while_waiting : Case
resume_while_waiting =
    record {
      given = 0x44 is 0x50 ∷ board;
      steps =
          initialised
          ∷ commanding
          ∷ turned (0x40 is 0x4000 ∷ [])
          ∷ attended 0x0300 (0x30 is 0x0200 ∷ [])
          ∷ attended 0x0200 (0x30 is 0x0200 ∷ [])
          ∷ settling (0x40 is 0xA000 ∷ 0x30 is 0x2100 ∷ [])
          ∷ [];
    }

-- between commands SUSPEND acts at once, and RESUME begins the same block
suspend_at_once : Case
suspend_at_once =
    record {
      given = board;
      steps =
          initialised
          ∷ commanding
          ∷ raising 0x0300 (0x30 is 0x2100 ∷ 0x40 is 0 ∷ [])
          ∷ turned (0x40 is 0 ∷ [])
          ∷ raising 0x0200 (0x30 is 0x2200 ∷ [])
          ∷ turned (0x40 is 0x4000 ∷ [])
          ∷ [];
    }

-- START while Active does nothing: the new CBL offset is not taken
start_while_active : Case
start_while_active =
    record {
      given = 0x44 is 0x50 ∷ board;
      steps =
          initialised
          ∷ commanding
          ∷ step (0x32 is 0x0100 ∷ 0x34 is 0x58 ∷ []) attention quiet (0x30 is 0x0200 ∷ []) low
          ∷ turned (0x40 is 0x4000 ∷ 0x58 is 0 ∷ [])
          ∷ [];
    }

-- leaving Active by EL forgets a waiting SUSPEND: a new list is not suspended by it
suspend_forgotten : Case
suspend_forgotten =
    record {
      given = 0x42 is 0x8000 ∷ 0x54 is 0x58 ∷ board;
      steps =
          initialised
          ∷ commanding
          ∷ turned []
          ∷ attended 0x0300 (0x30 is 0x0200 ∷ [])
          ∷ settling (0x30 is 0x2000 ∷ [])
          ∷ step (0x32 is 0xF100 ∷ 0x34 is 0x50 ∷ []) attention quiet (0x30 is 0x0200 ∷ []) low
          ∷ turned []
          ∷ turned (0x50 is 0xA000 ∷ 0x30 is 0x0200 ∷ [])
          ∷ [];
    }

-- the receive unit: at once with no frame held
suspend_ready : Case
suspend_ready = record { given = board; steps = initialised ∷ receiving ∷ raising 0x0030 (0x30 is 0x1010 ∷ []) ∷ [] }

-- and at the end of a held one, begun or not; the next free offset is passed on all the same
suspend_held : Case
suspend_held =
    record {
      given = descriptors ++ buffer_at 0xA0 0xAA 0xC0 46 ++ board;
      steps =
          initialised
          ∷ receiving
          ∷ came (broadcast 46) good []
          ∷ attended 0x0030 (0x30 is 0x0040 ∷ [])
          ∷ turned []
          ∷ turned []
          ∷ settling (0x60 is 0xA000 ∷ 0x86 is 0xAA ∷ 0x30 is 0x5010 ∷ [])
          ∷ dropped unit_suspended (broadcast 46) good (0x38 is 0 ∷ 0x3A is 0 ∷ 0x3C is 0 ∷ 0x3E is 0 ∷ [])
          ∷ turned (0x80 is 0 ∷ [])
          ∷ [];
    }

-- RU abort: a begun frame's descriptor gets 0000h, no counter moves; a frame that is only held leaves no trace
abort_begun : Case
abort_begun =
    record {
      given = descriptors ++ buffer_at 0xA0 0xAA 0xC0 46 ++ board;
      steps =
          initialised
          ∷ receiving
          ∷ came (broadcast 46) good []
          ∷ turned (0x60 is 0x4000 ∷ [])
          ∷ turned (0xA0 is 0xC02E ∷ [])
          ∷ raising 0x0040 (0x60 is 0 ∷ 0xA0 is 0xC02E ∷ 0x30 is 0x1000 ∷ 0x3C is 0 ∷ [])
          ∷ turned (0x60 is 0 ∷ [])
          ∷ [];
    }

abort_held : Case
abort_held =
    record {
      given = 0x60 is 0x1234 ∷ descriptors ++ board;
      steps = initialised ∷ receiving ∷ came (broadcast 46) good [] ∷ raising 0x0040 (0x60 is 0x1234 ∷ 0x30 is 0x1000 ∷ 0x3C is 0 ∷ []) ∷ [];
    }

-- ---- the status in a turn

-- a command without I, EL, S writes no SCB status at its end
no_status : Case
no_status =
    record {
      given = board;
      steps = initialised ∷ commanding ∷ turned [] ∷ step (0x30 is 0x1234 ∷ []) (turn 0) quiet (0x40 is 0xA000 ∷ 0x30 is 0x1234 ∷ []) low ∷ [];
    }

-- EL without I raises CNA and not CX; EL wins over S
end_of_list : Case
end_of_list = record { given = 0x42 is 0xC000 ∷ board; steps = initialised ∷ commanding ∷ turned [] ∷ settling (0x30 is 0x2000 ∷ []) ∷ [] }

-- ---- commands

-- what is remembered at begin, and what is read at the end: the old command word, the new parameters
parameters_at_end : Case
parameters_at_end =
    record {
      given = 0x42 is 0x8001 ∷ board;
      steps =
          initialised
          ∷ commanding
          ∷ turned []
          ∷ step (0x42 is 0x0000 ∷ 0x46 is 0x0004 ∷ []) (turn 0) edge (0x40 is 0xA000 ∷ 0x30 is 0x2000 ∷ []) high
          ∷ receiving
          ∷ came (4 ∷ 0 ∷ 0 ∷ 0 ∷ 0 ∷ 0 ∷ counting 1 54) good []
          ∷ turned (0x60 is 0x4000 ∷ [])
          ∷ [];
    }

-- count 10 takes byte 8, here broadcast disabled; a length of 7 is rejected and changes nothing of it
configure_keeps : Case
configure_keeps =
    record {
      given =
          0x42 is 0x0002 ∷ 0x44 is 0x80 ∷ 0x46 is 0x000A ∷ 0x48 is 0x0680 ∷ 0x4E is 0x0002
          ∷ 0x82 is 0x8002 ∷ 0x86 is 0x000C ∷ 0x88 is 0x0700 ∷ 0x90 is 0x00FF ∷ 0x8E is 0x0001 ∷ descriptors ++ board;
      steps =
          initialised
          ∷ commanding
          ∷ turned []
          ∷ turned (0x40 is 0xA000 ∷ [])
          ∷ turned []
          ∷ settling (0x80 is 0x8000 ∷ 0x30 is 0x2000 ∷ [])
          ∷ receiving
          ∷ dropped no_match (broadcast 46) good []
          ∷ turned (0x60 is 0 ∷ [])
          ∷ [];
    }

-- an own address of all FFh does not help where broadcast is disabled
own_of_ones : Case
own_of_ones =
    record {
      given = 0x42 is 0x8002 ∷ 0x46 is 0x000C ∷ 0x48 is 0x0600 ∷ 0x4E is 0x0002 ∷ 0x50 is 0x0040 ∷ board;
      steps = configured ++ (receiving ∷ dropped no_match (broadcast 46) good [] ∷ turned (0x60 is 0 ∷ []) ∷ []);
    }

-- MC-Setup: a listed group is received; one whose bit is clear is not, nor an address with the low bit clear, though it is listed
listed : Case
listed =
    record {
      given = 0x42 is 0x8003 ∷ 0x46 is 17 ∷ 0x48 is 0x0203 ∷ 0x4E is 0x0204 ∷ descriptors ++ board;
      steps =
          configured
          ++ (receiving
          ∷ dropped no_match (4 ∷ 2 ∷ 0 ∷ 0 ∷ 0 ∷ 0 ∷ counting 1 54) good []
          ∷ dropped no_match (3 ∷ 3 ∷ 0 ∷ 0 ∷ 0 ∷ 0 ∷ counting 1 54) good []
          ∷ turned (0x60 is 0 ∷ [])
          ∷ came (3 ∷ 2 ∷ 0 ∷ 0 ∷ 0 ∷ 0 ∷ counting 1 54) good []
          ∷ turned (0x60 is 0x4000 ∷ [])
          ∷ []);
    }

-- the filter is no list: 01-0B-00-00-00-00 is not listed and passes by the bit of 03-02-00-00-00-00, which is
shared_bit : Case
shared_bit =
    record {
      given = 0x42 is 0x8003 ∷ 0x46 is 6 ∷ 0x48 is 0x0203 ∷ descriptors ++ board;
      steps =
          configured
          ++ (receiving
          ∷ dropped no_match (3 ∷ 3 ∷ 0 ∷ 0 ∷ 0 ∷ 0 ∷ counting 1 54) good []
          ∷ turned (0x60 is 0 ∷ [])
          ∷ came (1 ∷ 0x0B ∷ 0 ∷ 0 ∷ 0 ∷ 0 ∷ counting 1 54) good []
          ∷ turned (0x60 is 0x4000 ∷ [])
          ∷ []);
    }

-- every listed address sets its bit, 04-02-00-00-00-00 too, whose low bit is clear: 01-1A-00-00-00-00 shares it and passes
no_group_listed : Case
no_group_listed =
    record {
      given = 0x42 is 0x8003 ∷ 0x46 is 6 ∷ 0x48 is 0x0204 ∷ descriptors ++ board;
      steps =
          configured
          ++ (receiving
          ∷ dropped no_match (4 ∷ 2 ∷ 0 ∷ 0 ∷ 0 ∷ 0 ∷ counting 1 54) good []
          ∷ dropped no_match (3 ∷ 2 ∷ 0 ∷ 0 ∷ 0 ∷ 0 ∷ counting 1 54) good []
          ∷ turned (0x60 is 0 ∷ [])
          ∷ came (1 ∷ 0x1A ∷ 0 ∷ 0 ∷ 0 ∷ 0 ∷ counting 1 54) good []
          ∷ turned (0x60 is 0x4000 ∷ [])
          ∷ []);
    }

-- a second address counts only whole
remainder : (count descriptor reason : ℕ) → Case
remainder count descriptor reason =
    record {
      given = 0x42 is 0x8003 ∷ 0x46 is count ∷ 0x4E is 0x0203 ∷ descriptors ++ board;
      steps = configured ++ (receiving ∷ dropped reason (3 ∷ 2 ∷ 0 ∷ 0 ∷ 0 ∷ 0 ∷ counting 1 54) good [] ∷ turned (0x60 is descriptor ∷ []) ∷ []);
    }

-- the count and the addresses are read at the end turn
listed_at_end : Case
listed_at_end =
    record {
      given = 0x42 is 0x8003 ∷ 0x46 is 6 ∷ 0x48 is 0x0303 ∷ descriptors ++ board;
      steps =
          initialised
          ∷ commanding
          ∷ turned []
          ∷ step (0x46 is 12 ∷ 0x48 is 0 ∷ 0x4E is 0x0203 ∷ []) (turn 0) edge (0x40 is 0xA000 ∷ 0x30 is 0x2000 ∷ []) high
          ∷ receiving
          ∷ dropped no_match (3 ∷ 3 ∷ 0 ∷ 0 ∷ 0 ∷ 0 ∷ counting 1 54) good []
          ∷ turned (0x60 is 0 ∷ [])
          ∷ came (3 ∷ 2 ∷ 0 ∷ 0 ∷ 0 ∷ 0 ∷ counting 1 54) good []
          ∷ turned (0x60 is 0x4000 ∷ [])
          ∷ [];
    }

-- TDR, Dump and Diagnose, one behind the other
three_more : Case
three_more =
    record {
      given = 0x42 is 0x0005 ∷ 0x44 is 0x50 ∷ 0x52 is 0x0006 ∷ 0x54 is 0x58 ∷ 0x5A is 0x8007 ∷ board;
      steps =
          initialised
          ∷ commanding
          ∷ turned (0x46 is 0 ∷ [])
          ∷ turned (0x40 is 0xA000 ∷ 0x46 is 0x8000 ∷ [])
          ∷ turned []
          ∷ turned (0x50 is 0x8000 ∷ [])
          ∷ turned []
          ∷ settling (0x58 is 0xA000 ∷ 0x30 is 0x2000 ∷ [])
          ∷ [];
    }

-- a Transmit with no buffer: two turns, the header alone. Report FFFFh: 86EFh, nothing sent; 0100h: A000h, sent
bare_transmit : (report length status : ℕ) → Case
bare_transmit report length status =
    record {
      given = 0x42 is 0x8004 ∷ 0x46 is 0xFFFF ∷ board;
      steps = initialised ∷ commanding ∷ turned [] ∷ ends report length (0x40 is status ∷ 0x30 is 0x2000 ∷ []) [] ∷ [];
    }

-- FFFFh before EOF: 8100h whatever the report, though the data was copied
lost_end : Case
lost_end =
    record {
      given = 0x42 is 0x8004 ∷ 0x46 is 0xA0 ∷ 0xA0 is 2 ∷ 0xA2 is 0xFFFF ∷ 0xA4 is 0xC0 ∷ 0xC0 is 0x2211 ∷ board;
      steps = initialised ∷ commanding ∷ turned [] ∷ turned [] ∷ ends 0xFFFF 0 (0x40 is 0x8100 ∷ 0x30 is 0x2000 ∷ []) (14 is 0x2211 ∷ []) ∷ [];
    }

-- 64 descriptors without EOF, here one that is linked to itself: 8100h at the 66th turn
endless_chain : Case
endless_chain =
    record {
      given = 0x42 is 0x8004 ∷ 0x46 is 0xA0 ∷ 0xA2 is 0xA0 ∷ board;
      steps = initialised ∷ commanding ∷ replicate 65 (turned (0x40 is 0x4000 ∷ [])) ++ (ends 0 0 (0x40 is 0x8100 ∷ 0x30 is 0x2000 ∷ []) [] ∷ []);
    }

-- ---- storing

-- the descriptor is read whole before its buffer is filled, and its word is written after: the buffer lies over the descriptor
over_itself : Case
over_itself =
    record {
      given = descriptors ++ buffer_at 0xA0 0xC0 0xA0 20 ++ buffer_at 0xC0 0xCA 0xD0 40 ++ board;
      steps =
          initialised
          ∷ receiving
          ∷ came (broadcast 46) good []
          ∷ turned []
          ∷ turned (0xA0 is 0x4014 ∷ 0xA2 is 0x0403 ∷ 0xB2 is 0x1413 ∷ [])
          ∷ turned (0xC0 is 0xC01A ∷ [])
          ∷ [];
    }

-- size 0: 4000h, a turn of its own, and what stood in the word is gone
size_none : Case
size_none =
    record {
      given = 0xA0 is 0xFFFF ∷ descriptors ++ buffer_at 0xA0 0xAA 0xC0 0 ++ buffer_at 0xAA 0xB4 0xC0 46 ++ board;
      steps =
          initialised ∷ receiving ∷ came (broadcast 46) good [] ∷ turned [] ∷ turned (0xA0 is 0x4000 ∷ 0xC0 is 0 ∷ []) ∷ turned (0xAA is 0xC02E ∷ []) ∷ [];
    }

-- data that ends in a buffer with EL is stored well, and No Resources follows
last_buffer : Case
last_buffer =
    record {
      given = descriptors ++ buffer_at 0xA0 0xAA 0xC0 0x802E ++ board;
      steps =
          initialised
          ∷ receiving
          ∷ came (broadcast 46) good []
          ∷ turned []
          ∷ turned (0xA0 is 0xC02E ∷ [])
          ∷ settling (0x60 is 0xA000 ∷ 0x86 is 0 ∷ 0x30 is 0x5020 ∷ 0x3C is 0 ∷ [])
          ∷ [];
    }

-- out of buffers, not saved: 0000h, no FR, RSCERRS, No Resources; the buffers used have no EOF
lacking : Case
lacking =
    record {
      given = descriptors ++ buffer_at 0xA0 0xAA 0xC0 20 ++ buffer_at 0xAA 0xFFFF 0xD4 20 ++ board;
      steps =
          initialised
          ∷ receiving
          ∷ came (broadcast 46) good []
          ∷ turned []
          ∷ turned []
          ∷ turned (0xAA is 0x4014 ∷ 0x60 is 0x4000 ∷ [])
          ∷ settling (0x60 is 0 ∷ 0x68 is 0 ∷ 0xA0 is 0x4014 ∷ 0xAA is 0x4014 ∷ 0x30 is 0x1020 ∷ 0x3C is 1 ∷ [])
          ∷ [];
    }

-- out of buffers, saved: bit 9 and FR, and RSCERRS too; of a CRC-bad frame bit 11 as well, and CRCERRS at its arrival alone
lacking_saved : (verdict status crcerrs rscerrs : ℕ) → Case
lacking_saved verdict status crcerrs rscerrs =
    record {
      given = saving ++ descriptors ++ buffer_at 0xA0 0xAA 0xC0 0x8014 ++ board;
      steps =
          configured
          ++ (receiving
          ∷ came (broadcast 46) verdict (0x38 is crcerrs ∷ 0x3C is 0 ∷ [])
          ∷ turned []
          ∷ turned (0xA0 is 0x4014 ∷ [])
          ∷ settling (0x60 is status ∷ 0x68 is 0xFFFF ∷ 0x30 is 0x5020 ∷ 0x38 is crcerrs ∷ 0x3C is rscerrs ∷ [])
          ∷ []);
    }

-- short and misaligned, saved: both bits, no counter
short_saved : Case
short_saved =
    record {
      given = saving ++ descriptors ++ buffer_at 0xA0 0xAA 0xC0 46 ++ board;
      steps =
          configured
          ++ (receiving
          ∷ came (broadcast 45) misaligned (0x38 is 0 ∷ 0x3A is 0 ∷ [])
          ∷ turned []
          ∷ turned []
          ∷ settling (0x60 is 0x8480 ∷ 0x30 is 0x4040 ∷ 0x38 is 0 ∷ 0x3A is 0 ∷ 0x3C is 0 ∷ [])
          ∷ []);
    }

-- no data: two turns, FFFFh at +6, and the offset read at begin goes on. In a ring of one it stands there again at the end
no_data : (link : ℕ) → List Word → Case
no_data link words =
    record {
      given = 0x42 is 0x8002 ∷ 0x46 is 0x000C ∷ 0x48 is 0x0600 ∷ 0x64 is link ∷ 0x66 is 0xA0 ∷ board;
      steps = configured ++ (receiving ∷ came (broadcast 0) good [] ∷ turned [] ∷ settling (0x60 is 0xA000 ∷ 0x30 is 0x4040 ∷ words) ∷ []);
    }

-- RSCERRS follows the descriptor's writes: the frame descriptor stands on it
counter_last : Case
counter_last =
    record {
      given = 0x42 is 0xFFFF ∷ board;
      steps =
          initialised
          ∷ step (0x32 is 0xF010 ∷ 0x36 is 0x3C ∷ []) attention quiet [] low
          ∷ came (broadcast 46) good []
          ∷ turned (0x3C is 0x4000 ∷ [])
          ∷ settling (0x3C is 1 ∷ 0x30 is 0x1020 ∷ [])
          ∷ [];
    }

-- the SCB status is the last write: the frame descriptor stands on it
status_last : Case
status_last =
    record {
      given = 0x34 is 0x80 ∷ 0x36 is 0xFFFF ∷ board;
      steps =
          initialised
          ∷ step (0x32 is 0xF010 ∷ 0x36 is 0x30 ∷ []) attention quiet [] low
          ∷ step (0x36 is 0xFFFF ∷ []) (arrive (broadcast 46) good) quiet [] low
          ∷ turned (0x30 is 0x4000 ∷ [])
          ∷ settling (0x30 is 0x1020 ∷ 0x3C is 1 ∷ [])
          ∷ [];
    }

pub readings : List Case
unfolding order_at_first obeys_nothing nothing_before edges status_is_kept command_unit_first acknowledged_first resetting resume_while_waiting suspend_at_once start_while_active suspend_forgotten suspend_ready suspend_held abort_begun abort_held no_status end_of_list parameters_at_end configure_keeps own_of_ones listed shared_bit no_group_listed remainder listed_at_end three_more bare_transmit lost_end endless_chain over_itself size_none last_buffer lacking lacking_saved short_saved no_data counter_last status_last
readings =
    order_at_first
    ∷ obeys_nothing
    ∷ nothing_before
    ∷ edges
    ∷ status_is_kept
    ∷ command_unit_first
    ∷ acknowledged_first
    ∷ resetting
    ∷ resume_while_waiting
    ∷ suspend_at_once
    ∷ start_while_active
    ∷ suspend_forgotten
    ∷ suspend_ready
    ∷ suspend_held
    ∷ abort_begun
    ∷ abort_held
    ∷ no_status
    ∷ end_of_list
    ∷ parameters_at_end
    ∷ configure_keeps
    ∷ own_of_ones
    ∷ listed
    ∷ shared_bit
    ∷ no_group_listed
    ∷ remainder 11 0 no_match
    ∷ remainder 12 0x4000 not_dropped
    ∷ listed_at_end
    ∷ three_more
    ∷ bare_transmit 0xFFFF 0 0x86EF
    ∷ bare_transmit 0x0100 14 0xA000
    ∷ lost_end
    ∷ endless_chain
    ∷ over_itself
    ∷ size_none
    ∷ last_buffer
    ∷ lacking
    ∷ lacking_saved good 0x8200 0 1
    ∷ lacking_saved crc 0x8A00 1 0
    ∷ short_saved
    ∷ no_data 0x80 (0x66 is 0xFFFF ∷ 0x86 is 0xA0 ∷ [])
    ∷ no_data 0x60 (0x66 is 0xA0 ∷ [])
    ∷ counter_last
    ∷ status_last
    ∷ []

pub taken : T (all_pass readings)
unfolding passes readings
taken = all_prepared readings tt
