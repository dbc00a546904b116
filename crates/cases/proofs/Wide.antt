-- What 8,192 bytes cannot show: offsets of 16 bits and real addresses of 24 in larger memories. Assumes nothing.
use mathlib.Core.Bool.{◌&&◌}
use mathlib.Core.List.{[], ◌∷◌}
use lib.Dec.{T, eqb}
use lib.ListN.{replicate}
use Rattle.memory.specs.Address.{place, origin}
use Rattle.memory.specs.Memory.{byte_at, bytes_at, value, field_at, real_at}
use Rattle.chip.specs.Cases.{◌is◌, high, low, put, start_on, walk, passes}
use Rattle.chip.specs.Call.{attention, turn}
use Rattle.chip.proofs.Board.{board, good, broadcast, quiet, edge, step, turned, came, initialised}

-- a field of offset FFFEh is not folded at 65,536; a real address has three bytes, and the fourth says nothing; a base has 24 bits
pub wide : T (eqb (place origin (record { 0 = 0xFFFE }) 2) 0x10000
    && eqb (place (record { 0 = 0xFFFFFF }) (record { 0 = 0xFFFF }) 14) 0x101000C
    && eqb (real_at (1 ∷ 2 ∷ 3 ∷ 4 ∷ []) 0) 0x030201
    && eqb (real_at (1 ∷ 2 ∷ 3 ∷ 4 ∷ []) 3) 0x020104)
unfolding place byte_at bytes_at value field_at
wide = tt

-- CUC before RUC, in 32,768 bytes: the frame descriptor stands on the CBL offset. START reads 4000h there before the receive unit's abort
-- writes 0000h, so the block at 4000h is begun and not the one at 0
pub codes_in_order : T (walk
    (initialised
    ∷ step (0x32 is 0xF010 ∷ 0x36 is 0x34 ∷ []) attention quiet (0x30 is 0x0040 ∷ []) low
    ∷ came (broadcast 46) good []
    ∷ turned (0x34 is 0x4000 ∷ [])
    ∷ step (0x32 is 0x0140 ∷ []) attention edge (0x34 is 0 ∷ 0x30 is 0x1200 ∷ []) high
    ∷ turned (0x4000 is 0x4000 ∷ 0 is 0 ∷ [])
    ∷ [])
    (start_on (put (32764 is 0x20 ∷ board) (replicate 32768 0))))
unfolding passes
codes_in_order = tt

-- the command word of the block at offset FFFEh is read at 10000h, EL, and not at 0. The least memory that shows it has 65,540 bytes; no call
-- takes that size, but the definitions do, and there the SCP's pointer is at 64,512
pub no_wrap : T (walk
    (initialised
    ∷ step (0x32 is 0xF100 ∷ 0x34 is 0xFFFE ∷ []) attention quiet (0x30 is 0x0200 ∷ []) low
    ∷ turned (0xFFFE is 0x4000 ∷ 0 is 0 ∷ [])
    ∷ step [] (turn 0) edge (0xFFFE is 0xA000 ∷ 0x30 is 0x2000 ∷ []) high
    ∷ [])
    (start_on (put (64512 is 0x20 ∷ 0x10000 is 0x8000 ∷ board) (replicate 65540 0))))
unfolding passes
no_wrap = tt

-- the link is read before the SCB status is written, in 65,536 bytes: the block at 2Ch has the status word for its link, and 0200h is next,
-- not 8200h
pub link_before_status : T (walk
    (initialised
    ∷ step (0x32 is 0xF100 ∷ 0x34 is 0x2C ∷ []) attention quiet [] low
    ∷ turned (0x2C is 0x4000 ∷ [])
    ∷ step [] (turn 0) edge (0x2C is 0xA000 ∷ 0x30 is 0x8200 ∷ []) high
    ∷ turned (0x200 is 0x4000 ∷ 0x8200 is 0 ∷ [])
    ∷ [])
    (start_on (put (65532 is 0x20 ∷ 0x2E is 0x2000 ∷ board) (replicate 65536 0))))
unfolding passes
link_before_status = tt
