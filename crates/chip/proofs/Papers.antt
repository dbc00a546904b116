-- P1 to P8 of document 01, "Cases at the edges", by one statement over the list of them: `shown`. Assumes nothing.
use mathlib.Core.List.{List, [], ◌∷◌, ◌++◌}
use Prim.Native.Nat.{ℕ}
use lib.Dec.{T}
use Rattle.chip.specs.Cases.{Word, ◌is◌, high, low, Case, passes, all_pass}
use Rattle.chip.specs.Call.{attention, turn}
use Rattle.chip.proofs.Board.{board, descriptors, buffer_at, good, crc, misaligned, broadcast, quiet, edge, step, ends, turned, came, bad, dropped, initialised, receiving, commanding}

-- (P1) after initialisation A000h: BUSY is cleared, the command too
p1 : Case
p1 =
    record {
      given = 0x32 is 0xFFFF ∷ board;
      steps = step [] attention edge (0x30 is 0xA000 ∷ 0x32 is 0 ∷ 0x20 is 0 ∷ []) high ∷ [];
    }

-- (P2) then A100h, one NOP with A000h as command: 0200h, after two turns A000h in SCB and block
p2 : Case
p2 =
    record {
      given = 0x42 is 0xA000 ∷ board;
      steps =
          initialised
          ∷ step (0x32 is 0xA100 ∷ 0x34 is 0x40 ∷ []) attention quiet (0x30 is 0x0200 ∷ 0x32 is 0 ∷ 0x40 is 0 ∷ []) low
          ∷ turned (0x40 is 0x4000 ∷ 0x30 is 0x0200 ∷ [])
          ∷ step [] (turn 0) edge (0x40 is 0xA000 ∷ 0x30 is 0xA000 ∷ []) high
          ∷ [];
    }

-- (P3) 46 data bytes into sizes 20, 20, 20: 4014h, 4014h, C006h, five turns. The descriptor is 4000h after the fourth, complete after the fifth
p3 : Case
p3 =
    record {
      given = descriptors ++ buffer_at 0xA0 0xAA 0xC0 20 ++ buffer_at 0xAA 0xB4 0xD4 20 ++ buffer_at 0xB4 0x1234 0xE8 20 ++ board;
      steps =
          initialised
          ∷ receiving
          ∷ came (broadcast 46) good (0x30 is 0x0040 ∷ 0x60 is 0 ∷ [])
          ∷ turned (0x60 is 0x4000 ∷ 0xA0 is 0 ∷ [])
          ∷ turned (0x60 is 0x4000 ∷ 0xA0 is 0x4014 ∷ 0xAA is 0 ∷ 0xC0 is 0x0201 ∷ 0xD2 is 0x1413 ∷ 0xD4 is 0 ∷ [])
          ∷ turned (0x60 is 0x4000 ∷ 0xAA is 0x4014 ∷ 0xB4 is 0 ∷ 0xD4 is 0x1615 ∷ [])
          ∷ turned (0x60 is 0x4000 ∷ 0xB4 is 0xC006 ∷ 0xE8 is 0x2A29 ∷ 0xEC is 0x2E2D ∷ 0xEE is 0 ∷ 0x30 is 0x0040 ∷ [])
          ∷ step [] (turn 0) edge
          (0x60 is 0xA000 ∷ 0x66 is 0xA0 ∷ 0x68 is 0xFFFF ∷ 0x6E is 0x0302 ∷ 0x74 is 0x0008 ∷ 0x86 is 0x1234 ∷ 0x30 is 0x4040 ∷ [])
          high
          ∷ [];
    }

-- (P4) into 46: C02Eh, no second buffer
p4 : Case
p4 =
    record {
      given = descriptors ++ buffer_at 0xA0 0xAA 0xC0 46 ++ (0xAA is 0x1234 ∷ buffer_at 0xAA 0xB4 0xF0 46) ++ board;
      steps =
          initialised
          ∷ receiving
          ∷ came (broadcast 46) good []
          ∷ turned (0x60 is 0x4000 ∷ [])
          ∷ turned (0x60 is 0x4000 ∷ 0xA0 is 0xC02E ∷ 0xEC is 0x2E2D ∷ 0xAA is 0x1234 ∷ [])
          ∷ step [] (turn 0) edge
          (0x60 is 0xA000 ∷ 0x86 is 0xAA ∷ 0xAA is 0x1234 ∷ 0xAC is 0xB4 ∷ 0xAE is 0xF0 ∷ 0xB2 is 46 ∷ 0xF0 is 0 ∷ 0x30 is 0x4040 ∷ [])
          high
          ∷ [];
    }

-- (P5) 59 bytes short, 60 not: with save-bad set by Configure 8080h and A000h, neither with a counter
p5saved : Case
p5saved =
    record {
      given = 0x42 is 0x8002 ∷ 0x46 is 0x0804 ∷ 0x48 is 0x0680 ∷ descriptors ++ buffer_at 0xA0 0xAA 0xC0 46 ++ buffer_at 0xAA 0xB4 0xF0 46 ++ board;
      steps =
          initialised
          ∷ commanding
          ∷ turned (0x40 is 0x4000 ∷ [])
          ∷ step [] (turn 0) edge (0x40 is 0xA000 ∷ 0x30 is 0x2000 ∷ []) high
          ∷ receiving
          ∷ came (broadcast 45) good (0x38 is 0 ∷ 0x3A is 0 ∷ 0x3C is 0 ∷ 0x3E is 0 ∷ [])
          ∷ turned (0x60 is 0x4000 ∷ [])
          ∷ turned (0xA0 is 0xC02D ∷ [])
          ∷ step [] (turn 0) edge (0x60 is 0x8080 ∷ 0x86 is 0xAA ∷ 0x30 is 0x4040 ∷ 0x38 is 0 ∷ 0x3A is 0 ∷ 0x3C is 0 ∷ 0x3E is 0 ∷ []) high
          ∷ came (broadcast 46) good []
          ∷ turned (0x80 is 0x4000 ∷ [])
          ∷ turned (0xAA is 0xC02E ∷ [])
          ∷ step [] (turn 0) edge (0x80 is 0xA000 ∷ 0x30 is 0x4040 ∷ []) high
          ∷ [];
    }

-- (P5) and not set: 59 bytes leave the descriptor alone, and no turn finds work; 60 are stored
p5dropped : Case
p5dropped =
    record {
      given = descriptors ++ buffer_at 0xA0 0xAA 0xC0 46 ++ board;
      steps =
          initialised
          ∷ receiving
          ∷ dropped bad (broadcast 45) good (0x60 is 0 ∷ 0x38 is 0 ∷ 0x3A is 0 ∷ 0x3C is 0 ∷ 0x3E is 0 ∷ [])
          ∷ turned (0x60 is 0 ∷ 0xA0 is 0 ∷ 0x30 is 0x0040 ∷ [])
          ∷ came (broadcast 46) good []
          ∷ turned (0x60 is 0x4000 ∷ [])
          ∷ turned (0xA0 is 0xC02E ∷ [])
          ∷ step [] (turn 0) edge (0x60 is 0xA000 ∷ 0x30 is 0x4040 ∷ []) high
          ∷ [];
    }

-- (P6) counter FFFFh to 0000h: CRCERRS, ALNERRS, OVRNERRS, RSCERRS, each alone
p6 : Case
p6 =
    record {
      given =
          0x38 is 0xFFFF ∷ 0x3A is 0xFFFF ∷ 0x3C is 0xFFFF ∷ 0x3E is 0xFFFF ∷ 0x62 is 0x8000 ∷ descriptors ++ buffer_at 0xA0 0xAA 0xC0 46 ++ board;
      steps =
          initialised
          ∷ receiving
          ∷ dropped bad (broadcast 46) crc (0x38 is 0 ∷ 0x3A is 0xFFFF ∷ 0x3C is 0xFFFF ∷ 0x3E is 0xFFFF ∷ [])
          ∷ dropped bad (broadcast 46) misaligned (0x38 is 0 ∷ 0x3A is 0 ∷ 0x3C is 0xFFFF ∷ 0x3E is 0xFFFF ∷ [])
          ∷ came (broadcast 46) good (0x38 is 0 ∷ 0x3A is 0 ∷ 0x3C is 0xFFFF ∷ 0x3E is 0xFFFF ∷ [])
          ∷ came (broadcast 46) good (0x38 is 0 ∷ 0x3A is 0 ∷ 0x3C is 0xFFFF ∷ 0x3E is 0 ∷ [])
          ∷ turned []
          ∷ turned []
          ∷ step [] (turn 0) edge (0x30 is 0x5020 ∷ []) high
          ∷ came (broadcast 46) good (0x38 is 0 ∷ 0x3A is 0 ∷ 0x3C is 0 ∷ 0x3E is 0 ∷ [])
          ∷ [];
    }

-- a Transmit with EL of four data bytes, 11h 22h 33h 44h, at C0h
sending : List Word
sending =
    0x42 is 0x8004 ∷ 0x46 is 0xA0 ∷ 0x48 is 0x0201 ∷ 0x4E is 0x0900 ∷ 0xA0 is 0x8004 ∷ 0xA2 is 0xFFFF ∷ 0xA4 is 0xC0 ∷ 0xC0 is 0x2211 ∷ 0xC2 is 0x4433 ∷ []

-- (P7) report 0003h: A003h, and the frame's length; 0020h: 8020h, nothing sent
p7 : (report length status : ℕ) → Case
unfolding sending
p7 report length status =
    record {
      given = sending ++ board;
      steps =
          initialised
          ∷ commanding
          ∷ turned (0x40 is 0x4000 ∷ [])
          ∷ turned (0x40 is 0x4000 ∷ 0xA0 is 0x8004 ∷ [])
          ∷ ends report length (0x40 is status ∷ 0x30 is 0x2000 ∷ []) (0 is 0x0201 ∷ 6 is 0xFFFF ∷ 12 is 0x0900 ∷ 14 is 0x2211 ∷ 16 is 0x4433 ∷ 18 is 0 ∷ [])
          ∷ [];
    }

-- (P8) descriptor with EL, all acknowledged before: SCB 5020h
p8 : Case
p8 =
    record {
      given = 0x62 is 0x8000 ∷ descriptors ++ buffer_at 0xA0 0xAA 0xC0 46 ++ board;
      steps =
          initialised
          ∷ receiving
          ∷ came (broadcast 46) good []
          ∷ turned (0x60 is 0x4000 ∷ [])
          ∷ turned (0xA0 is 0xC02E ∷ [])
          ∷ step [] (turn 0) edge (0x60 is 0xA000 ∷ 0x86 is 0 ∷ 0x30 is 0x5020 ∷ 0x3C is 0 ∷ []) high
          ∷ [];
    }

pub papers : List Case
unfolding p1 p2 p3 p4 p5saved p5dropped p6 p7 p8
papers =
    p1
    ∷ p2
    ∷ p3
    ∷ p4
    ∷ p5saved
    ∷ p5dropped
    ∷ p6
    ∷ p7 0x0003 18 0xA003
    ∷ p7 0x0020 0 0x8020
    ∷ p8
    ∷ []

pub shown : T (all_pass papers)
unfolding passes papers
shown = tt
