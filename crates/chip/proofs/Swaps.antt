-- Document 01, "Readings that swap the columns": for each of them a case that the swap would fail, by one statement over the list: `refuted`.
-- Assumes nothing.
use mathlib.Core.List.{List, [], ◌∷◌, ◌++◌}
use lib.Dec.{T}
use Rattle.chip.specs.Cases.{Word, ◌is◌, high, low, Step, Case, passes, all_pass}
use Rattle.chip.specs.Call.{attention, turn}
use Rattle.chip.proofs.Board.{board_at, board, descriptors, buffer_at, good, crc, misaligned, broadcast, quiet, edge, step, ends, turned, came, unit_idle, dropped, initialised, receiving, commanding}

-- ---- Adding the base to a buffer's real address. With a base of 10h the SCB is at 40h, and offset 90h is address A0h; the buffer is at C0h

based : Step
based = step [] attention edge (0x40 is 0xA000 ∷ []) high

-- received bytes go to C0h: with the base added they would begin at D0h
base_not_added_receiving : Case
unfolding based
base_not_added_receiving =
    record {
      given = 0x74 is 0x70 ∷ 0x76 is 0x90 ∷ buffer_at 0xA0 0x9A 0xC0 46 ++ board_at 0x10;
      steps =
          based
          ∷ step (0x42 is 0xF010 ∷ 0x46 is 0x60 ∷ []) attention quiet (0x40 is 0x0040 ∷ []) low
          ∷ came (broadcast 46) good []
          ∷ turned (0x70 is 0x4000 ∷ [])
          ∷ turned (0xA0 is 0xC02E ∷ 0xC0 is 0x0201 ∷ 0xD0 is 0x1211 ∷ 0xEC is 0x2E2D ∷ 0xEE is 0 ∷ [])
          ∷ step [] (turn 0) edge (0x70 is 0xA000 ∷ 0x40 is 0x4040 ∷ []) high
          ∷ [];
    }

-- bytes that are sent come from C0h: with the base added they would be those at D0h
base_not_added_sending : Case
unfolding based
base_not_added_sending =
    record {
      given =
          0x52 is 0x8004 ∷ 0x56 is 0x90 ∷ 0xA0 is 0x8004 ∷ 0xA4 is 0xC0 ∷ 0xC0 is 0x2211 ∷ 0xC2 is 0x4433 ∷ 0xD0 is 0x6655 ∷ 0xD2 is 0x8877 ∷ board_at 0x10;
      steps =
          based
          ∷ step (0x42 is 0xF100 ∷ 0x44 is 0x40 ∷ []) attention quiet (0x40 is 0x0200 ∷ []) low
          ∷ turned (0x50 is 0x4000 ∷ [])
          ∷ turned []
          ∷ ends 0 18 (0x50 is 0xA000 ∷ 0x40 is 0x2000 ∷ []) (14 is 0x2211 ∷ 16 is 0x4433 ∷ [])
          ∷ [];
    }

-- ---- Counting frames lost while Idle

five : List Word
five = 0x38 is 5 ∷ 0x3A is 5 ∷ 0x3C is 5 ∷ 0x3E is 5 ∷ []

idle_counts_nothing : Case
unfolding five
idle_counts_nothing =
    record {
      given = five ++ board;
      steps = initialised ∷ dropped unit_idle (broadcast 46) good five ∷ dropped unit_idle (broadcast 46) crc five ∷ dropped unit_idle (broadcast 46) misaligned five ∷ [];
    }

-- ---- Taking a link at begin

-- the host changes a command's link after its begin: the new one is next
link_at_end_of_command : Case
link_at_end_of_command =
    record {
      given = 0x44 is 0x50 ∷ 0x52 is 0x8000 ∷ 0x5A is 0x8000 ∷ board;
      steps =
          initialised
          ∷ commanding
          ∷ turned (0x40 is 0x4000 ∷ [])
          ∷ step (0x44 is 0x58 ∷ []) (turn 0) quiet (0x40 is 0xA000 ∷ []) low
          ∷ turned (0x58 is 0x4000 ∷ 0x50 is 0 ∷ [])
          ∷ [];
    }

-- and so for a frame descriptor: the next free offset goes to the new one
link_at_end_of_frame : Case
link_at_end_of_frame =
    record {
      given = descriptors ++ buffer_at 0xA0 0xAA 0xC0 46 ++ board;
      steps =
          initialised
          ∷ receiving
          ∷ came (broadcast 46) good []
          ∷ turned (0x60 is 0x4000 ∷ [])
          ∷ turned (0xA0 is 0xC02E ∷ [])
          ∷ step (0x64 is 0x90 ∷ []) (turn 0) edge (0x60 is 0xA000 ∷ 0x86 is 0 ∷ 0x96 is 0xAA ∷ []) high
          ∷ [];
    }

-- ---- Clearing a counter at START

start_clears_nothing : Case
unfolding five
start_clears_nothing =
    record {
      given = five ++ board;
      steps = initialised ∷ step (0x32 is 0xF110 ∷ 0x34 is 0x40 ∷ 0x36 is 0x60 ∷ []) attention quiet (0x30 is 0x0240 ∷ five) low ∷ [];
    }

-- ---- Treating FFFFh in a command link as an end: only EL ends. In 8,192 bytes offset FFFFh is address 1FFFh, and the block runs over the end

link_of_ones : Case
link_of_ones =
    record {
      given = 0x42 is 0x2000 ∷ 0x44 is 0xFFFF ∷ 0x01 is 0xA000 ∷ board;
      steps =
          initialised
          ∷ commanding
          ∷ turned (0x40 is 0x4000 ∷ [])
          ∷ step [] (turn 0) edge (0x40 is 0xA000 ∷ 0x30 is 0x8200 ∷ []) high
          ∷ turned (0x1FFF is 0x4000 ∷ 0x00 is 0x0040 ∷ [])
          ∷ step [] (turn 0) edge (0x1FFF is 0xA000 ∷ 0x30 is 0xA000 ∷ []) high
          ∷ [];
    }

-- ---- Serving RU first always: a NOP that is linked to itself, and a frame of two buffers, by turns

units_alternate : Case
units_alternate =
    record {
      given = 0x44 is 0x40 ∷ descriptors ++ buffer_at 0xA0 0xAA 0xC0 40 ++ buffer_at 0xAA 0xB4 0xF0 40 ++ board;
      steps =
          initialised
          ∷ step (0x32 is 0xF110 ∷ 0x34 is 0x40 ∷ 0x36 is 0x60 ∷ []) attention quiet (0x30 is 0x0240 ∷ []) low
          ∷ came (broadcast 46) good []
          ∷ turned (0x60 is 0x4000 ∷ 0x40 is 0 ∷ [])
          ∷ turned (0x60 is 0x4000 ∷ 0x40 is 0x4000 ∷ 0xA0 is 0 ∷ [])
          ∷ turned (0xA0 is 0x4028 ∷ 0x40 is 0x4000 ∷ [])
          ∷ turned (0xA0 is 0x4028 ∷ 0x40 is 0xA000 ∷ 0xAA is 0 ∷ [])
          ∷ turned (0xAA is 0xC006 ∷ 0x40 is 0xA000 ∷ [])
          ∷ turned (0x60 is 0x4000 ∷ 0x40 is 0x4000 ∷ [])
          ∷ step [] (turn 0) edge (0x60 is 0xA000 ∷ 0x40 is 0x4000 ∷ 0x30 is 0x4240 ∷ []) high
          ∷ step [] (turn 0) quiet (0x40 is 0xA000 ∷ []) high
          ∷ [];
    }

pub swaps : List Case
unfolding base_not_added_receiving base_not_added_sending idle_counts_nothing link_at_end_of_command link_at_end_of_frame start_clears_nothing link_of_ones units_alternate
swaps =
    base_not_added_receiving
    ∷ base_not_added_sending
    ∷ idle_counts_nothing
    ∷ link_at_end_of_command
    ∷ link_at_end_of_frame
    ∷ start_clears_nothing
    ∷ link_of_ones
    ∷ units_alternate
    ∷ []

pub refuted : T (all_pass swaps)
unfolding passes swaps
refuted = tt
