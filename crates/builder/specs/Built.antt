-- What the builder makes of a memory, and what it refuses: docs/builder.md, "Memory" and "Refusals". Assumes nothing.
use Rattle.std.specs.Prelude.{Bool, true, false, not, cond, ◌&&◌, ◌||◌, List, [], ◌∷◌, ℕ, zero, suc, ◌+◌, ◌-◌, eqb, leb, ltb, length}
use Rattle.memory.specs.Memory.{apply, bytes_to}
use Rattle.memory.specs.Size.{size_allowed}
use Rattle.order.specs.Order.{Command, Order}
use Rattle.order.specs.Limits.{order_within}
use Rattle.builder.specs.Pieces.{Kind, is_iscp, is_scb, is_block, is_descriptor, is_frame_descriptor, is_buffer_descriptor, is_data, is_buffer}
use Rattle.builder.specs.Pieces.{Placed, placed, image, iscp_at, scp_size, scp}

-- ---- the memory: the pieces from 0 on, SCP in the last ten bytes, every other byte as it was

-- where SCP lies in n bytes
abbrev pub scp_at : ℕ → ℕ
scp_at n = n - scp_size

unfoldable pub built : List ℕ → Order → List ℕ
built m o = apply (bytes_to iscp_at (image o) ∷ bytes_to (scp_at (length m)) scp ∷ []) m

-- the bytes written, SCP's too
abbrev pub written : Order → ℕ
written o = length (image o) + scp_size

-- ---- what does not fit

-- blocks and descriptors are reached by offsets
abbrev pub by_offset : Kind → Bool
by_offset is_iscp = false
by_offset is_scb = false
by_offset is_block = true
by_offset is_descriptor = true
by_offset is_frame_descriptor = true
by_offset is_buffer_descriptor = true
by_offset is_data = false
by_offset is_buffer = false

-- the highest offset that leads to one
abbrev pub highest : ℕ
highest = 0xFFFE

-- a block or descriptor whose own offset is above FFFEh
abbrev pub is_high : Placed → Bool
is_high p = by_offset p.piece.kind && ltb highest p.at

-- a piece with a byte at or past SCP
abbrev pub is_far : ℕ → Placed → Bool
is_far n p = ltb 0 (length p.piece.bytes) && ltb (scp_at n) (p.at + length p.piece.bytes)

-- how many pieces stand before the first of which it is so; all of them, if there is none
abbrev pub before : (Placed → Bool) → List Placed → ℕ
before is [] = 0
before is (p ∷ ps) = cond (is p) 0 (suc (before is ps))

abbrev pub is_there : {A : Type 0} → ℕ → List A → Bool
is_there n [] = false
is_there zero (x ∷ xs) = true
is_there (suc n) (x ∷ xs) = is_there n xs

-- one of them is so
abbrev pub any : (Placed → Bool) → List Placed → Bool
any is [] = false
any is (p ∷ ps) = is p || any is ps

-- ---- the refusals of an order, by number: 1 N, 32 a limit, 33 no command, 34 no frame descriptor, 35 an offset above FFFEh, 36 does not fit

abbrev pub is_empty : List Command → Bool
is_empty [] = true
is_empty (c ∷ cs) = false

unfoldable pub refusal : ℕ → Order → ℕ
refusal n o =
    cond (not (size_allowed n)) 1
    (cond (not (order_within o)) 32
    (cond (is_empty o.commands) 33
    (cond (eqb o.frames 0) 34
    (cond (any is_high (placed o)) 35
    (cond (any (is_far n) (placed o)) 36
    0)))))
