-- What is shown of a built memory: docs/builder.md, "What is shown". No contract cites this file. Assumes nothing.
use Rattle.std.specs.Prelude.{◌≡◌, Bool, true, false, List, [], ◌∷◌, ℕ, ◌+◌, ◌≤◌, ◌<◌, length}
use Rattle.memory.specs.Memory.{bytes_at}
use Rattle.memory.specs.Size.{size_allowed}
use Rattle.order.specs.Order.{Order, Command}
use Rattle.order.specs.Limits.{order_within}
use Rattle.builder.specs.Pieces.{Placed, placed, image, iscp_at, scb_at, blocks_at, descriptors_at, frames_at, buffer_descriptors_at, data_at, block_length}
use Rattle.builder.specs.Pieces.{iscp, scb, scp, blocks, chains, frame_descriptors, handed, buffer_descriptors, all_data, buffers_at}
use Rattle.builder.specs.Built.{by_offset, highest, scp_at}

-- ---- which orders are built

-- every block and descriptor has an offset up to FFFEh
abbrev pub AllLow : List Placed → Type 0
AllLow [] = Unit {0}
AllLow (p ∷ ps) = (by_offset p.piece.kind ≡ true → p.at ≤ highest) × AllLow ps

-- in n bytes
pub record Accepted (n : ℕ) (o : Order) : Type 0 where
  pub size : size_allowed n ≡ true
  pub limits : order_within o ≡ true
  pub command : 0 < length o.commands
  pub frame : 0 < o.frames
  pub offsets : AllLow (placed o)
  pub fits : length (image o) ≤ scp_at n

-- ---- where the pieces stand

-- bytes stand in m at a place
abbrev pub Stands : List ℕ → ℕ → List ℕ → Type 0
Stands m at bytes = bytes_at m at (length bytes) ≡ bytes

-- each piece at its place
abbrev pub AllStand : List ℕ → List Placed → Type 0
AllStand m [] = Unit {0}
AllStand m (p ∷ ps) = Stands m p.at p.piece.bytes × AllStand m ps

-- some, back to back from a place on
abbrev pub StandFrom : List ℕ → ℕ → List (List ℕ) → Type 0
StandFrom m at [] = Unit {0}
StandFrom m at (p ∷ ps) = Stands m at p × StandFrom m (at + length p) ps

-- the command list and the receive area of an order, but for the buffers' bytes
pub record Lists (m : List ℕ) (o : Order) : Type 0 where
  pub blocks : StandFrom m blocks_at (blocks blocks_at (descriptors_at o) o.commands)
  pub descriptors : StandFrom m (descriptors_at o) (chains (descriptors_at o) (data_at o) o.commands)
  pub frames : StandFrom m (frames_at o) (frame_descriptors (frames_at o) (handed o.buffers (buffer_descriptors_at o)) o.frames)
  pub buffer_descriptors :
      StandFrom m (buffer_descriptors_at o) (buffer_descriptors (buffer_descriptors_at o) (buffers_at o) o.size o.buffers)
  pub pieces : StandFrom m (data_at o) (all_data o.commands)

-- and what an attention reads
pub record Heads (m : List ℕ) (o : Order) : Type 0 where
  pub iscp : Stands m iscp_at iscp
  pub scb : Stands m scb_at (scb o)
  pub scp : Stands m (scp_at (length m)) scp

-- ---- the list: where the blocks lie, in their order

abbrev pub block_places_from : ℕ → List Command → List ℕ
block_places_from at [] = []
block_places_from at (c ∷ cs) = at ∷ block_places_from (at + block_length c) cs

abbrev pub block_places : Order → List ℕ
block_places o = block_places_from blocks_at o.commands
