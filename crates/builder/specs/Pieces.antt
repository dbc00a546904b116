-- The pieces of an order and the places where they lie: docs/builder.md, "The placing rule". Assumes nothing.
use Rattle.std.specs.Prelude.{Bool, true, false, cond, List, [], ◌∷◌, ◌++◌, map, ℕ, zero, suc, ◌+◌, ◌*◌, length, replicate}
use Rattle.memory.specs.Memory.{digits}
use Rattle.memory.specs.Address.{none}
use Rattle.device.specs.Numbers.{transmit, action_number}
use Rattle.device.specs.declared.Action.TheVariants as action
use Rattle.actions.specs.Block.{argument_at}
use Rattle.order.specs.Order.{What, Command, Order}
use Rattle.order.specs.Order as order
use Rattle.order.specs.Limits.{total}

-- ---- how many bytes each has

abbrev pub iscp_size : ℕ
iscp_size = 8

abbrev pub scb_size : ℕ
scb_size = 16

abbrev pub descriptor_size : ℕ
descriptor_size = 8

abbrev pub frame_descriptor_size : ℕ
frame_descriptor_size = 22

abbrev pub buffer_descriptor_size : ℕ
buffer_descriptor_size = 10

abbrev pub scp_size : ℕ
scp_size = 10

-- behind the six bytes that every block has: an IA-Setup's address; a Configure's count and what it counts; an MC-Setup's count and addresses; a
-- Transmit's offset and header; TDR's word
unfoldable pub argument_length : What → ℕ
argument_length order.nop = 0
argument_length (order.ia_setup bytes) = length bytes
argument_length (order.configure bytes) = 1 + length bytes
argument_length (order.mc_setup bytes) = 2 + length bytes
argument_length (order.transmit header pieces) = 2 + length header
argument_length order.tdr = 2
argument_length order.diagnose = 0

abbrev pub block_length : Command → ℕ
block_length c = argument_at + argument_length c.what

abbrev pub blocks_length : List Command → ℕ
blocks_length [] = 0
blocks_length (c ∷ cs) = block_length c + blocks_length cs

-- the pieces of data of a command, and of all, in their order
abbrev pub data_of : What → List (List ℕ)
data_of order.nop = []
data_of (order.ia_setup bytes) = []
data_of (order.configure bytes) = []
data_of (order.mc_setup bytes) = []
data_of (order.transmit header pieces) = pieces
data_of order.tdr = []
data_of order.diagnose = []

abbrev pub all_data : List Command → List (List ℕ)
all_data [] = []
all_data (c ∷ cs) = data_of c.what ++ all_data cs

-- ---- where each part begins: behind the one before it, ISCP at 0

abbrev pub iscp_at : ℕ
iscp_at = 0

abbrev pub scb_at : ℕ
scb_at = iscp_at + iscp_size

abbrev pub blocks_at : ℕ
blocks_at = scb_at + scb_size

unfoldable pub descriptors_at : Order → ℕ
descriptors_at o = blocks_at + blocks_length o.commands

unfoldable pub frames_at : Order → ℕ
frames_at o = descriptors_at o + descriptor_size * length (all_data o.commands)

unfoldable pub buffer_descriptors_at : Order → ℕ
buffer_descriptors_at o = frames_at o + frame_descriptor_size * o.frames

unfoldable pub data_at : Order → ℕ
data_at o = buffer_descriptors_at o + buffer_descriptor_size * o.buffers

unfoldable pub buffers_at : Order → ℕ
buffers_at o = data_at o + total (all_data o.commands)

-- ---- links: the next one's offset; FFFFh behind the last

abbrev pub link_by : (last : Bool) → ℕ → ℕ
link_by true next = none.0
link_by false next = next

-- the top bit of a word: EL, and EOF of a transmit descriptor
abbrev pub mark : (last : Bool) → ℕ
mark last = cond last 0x8000 0

abbrev pub is_last : {A : Type 0} → (behind : List A) → Bool
is_last [] = true
is_last (x ∷ xs) = false

abbrev pub is_last_of : (behind : ℕ) → Bool
is_last_of zero = true
is_last_of (suc n) = false

-- ---- command blocks: +0 status, +2 command, +4 link, +6 what the command uses

-- CMD
abbrev pub number_of : What → ℕ
number_of order.nop = action_number action.Nop
number_of (order.ia_setup bytes) = action_number action.IaSetup
number_of (order.configure bytes) = action_number action.Configure
number_of (order.mc_setup bytes) = action_number action.McSetup
number_of (order.transmit header pieces) = transmit
number_of order.tdr = action_number action.Tdr
number_of order.diagnose = action_number action.Diagnose

-- EL on the last, I where it is ordered
unfoldable pub command_word : (last : Bool) → Command → ℕ
command_word last c = mark last + cond c.interrupt 0x2000 0 + number_of c.what

-- a Transmit's first descriptor, FFFFh if it has no piece
abbrev pub first_descriptor : ℕ → List (List ℕ) → ℕ
first_descriptor first [] = none.0
first_descriptor first (p ∷ ps) = first

abbrev pub arguments : (first : ℕ) → What → List ℕ
arguments first order.nop = []
arguments first (order.ia_setup bytes) = bytes
arguments first (order.configure bytes) = (1 + length bytes) ∷ bytes
arguments first (order.mc_setup bytes) = digits 2 (length bytes) ++ bytes
arguments first (order.transmit header pieces) = digits 2 (first_descriptor first pieces) ++ header
arguments first order.tdr = digits 2 0
arguments first order.diagnose = []

-- at: where the block lies; first: where the next descriptor lies
unfoldable pub block : (at first : ℕ) → (last : Bool) → Command → List ℕ
block at first last c =
    digits 2 0 ++ digits 2 (command_word last c) ++ digits 2 (link_by last (at + block_length c)) ++ arguments first c.what

abbrev pub blocks : (at first : ℕ) → List Command → List (List ℕ)
blocks at first [] = []
blocks at first (c ∷ cs) =
    block at first (is_last cs) c ∷ blocks (at + block_length c) (first + descriptor_size * length (data_of c.what)) cs

-- ---- transmit descriptors: +0 EOF and count, +2 next, +4 the real address of the piece

unfoldable pub descriptor : (at from : ℕ) → (last : Bool) → List ℕ → List ℕ
descriptor at from last piece =
    digits 2 (mark last + length piece) ++ digits 2 (link_by last (at + descriptor_size)) ++ digits 4 from

-- of one Transmit
abbrev pub chain : (at from : ℕ) → List (List ℕ) → List (List ℕ)
chain at from [] = []
chain at from (p ∷ ps) = descriptor at from (is_last ps) p ∷ chain (at + descriptor_size) (from + length p) ps

-- of all
abbrev pub chains : (at from : ℕ) → List Command → List (List ℕ)
chains at from [] = []
chains at from (c ∷ cs) =
    chain at from (data_of c.what)
    ++ chains (at + descriptor_size * length (data_of c.what)) (from + total (data_of c.what)) cs

-- ---- frame descriptors: +0 status, +2 EL, +4 link, +6 first buffer descriptor, and 14 bytes for the header. All buffers are handed to the first

unfoldable pub frame_descriptor : (at first : ℕ) → (last : Bool) → List ℕ
frame_descriptor at first last =
    digits 2 0 ++ digits 2 (mark last) ++ digits 2 (link_by last (at + frame_descriptor_size)) ++ digits 2 first ++ replicate 14 0

abbrev pub frame_descriptors : (at first : ℕ) → ℕ → List (List ℕ)
frame_descriptors at first zero = []
frame_descriptors at first (suc n) =
    frame_descriptor at first (is_last_of n) ∷ frame_descriptors (at + frame_descriptor_size) none.0 n

-- what the first is handed
abbrev pub handed : (buffers first : ℕ) → ℕ
handed buffers first = link_by (is_last_of buffers) first

-- ---- receive buffer descriptors: +0 count, +2 next, +4 the buffer's real address, +8 EL and size

unfoldable pub buffer_descriptor : (at buffer size : ℕ) → (last : Bool) → List ℕ
buffer_descriptor at buffer size last =
    digits 2 0 ++ digits 2 (link_by last (at + buffer_descriptor_size)) ++ digits 4 buffer ++ digits 2 (mark last + size)

abbrev pub buffer_descriptors : (at buffer size : ℕ) → ℕ → List (List ℕ)
buffer_descriptors at buffer size zero = []
buffer_descriptors at buffer size (suc n) =
    buffer_descriptor at buffer size (is_last_of n) ∷ buffer_descriptors (at + buffer_descriptor_size) (buffer + size) size n

-- ---- ISCP: +0 BUSY, +2 SCB offset, +4 SCB base, which is 0. SCB: +0 status, +2 command, +4 CBL offset, +6 RFA offset, +8 counters. SCP: its pointer
-- to ISCP, which is 0

abbrev pub iscp : List ℕ
iscp = digits 2 1 ++ digits 2 scb_at ++ digits 4 0

unfoldable pub scb : Order → List ℕ
scb o = digits 2 0 ++ digits 2 0 ++ digits 2 blocks_at ++ digits 2 (frames_at o) ++ replicate 8 0

abbrev pub scp : List ℕ
scp = replicate scp_size 0

-- ---- the pieces, in placing order, SCP aside

pub data Kind : Type 0 where
  is_iscp : Kind
  is_scb : Kind
  is_block : Kind
  is_descriptor : Kind
  is_frame_descriptor : Kind
  is_buffer_descriptor : Kind
  is_data : Kind
  is_buffer : Kind

pub record Piece : Type 0 where
  pub kind : Kind
  pub bytes : List ℕ

abbrev pub pieces_of : Kind → List (List ℕ) → List Piece
pieces_of kind [] = []
pieces_of kind (p ∷ ps) = record { kind = kind; bytes = p } ∷ pieces_of kind ps

unfoldable pub pieces : Order → List Piece
pieces o =
    pieces_of is_iscp (iscp ∷ [])
    ++ pieces_of is_scb (scb o ∷ [])
    ++ pieces_of is_block (blocks blocks_at (descriptors_at o) o.commands)
    ++ pieces_of is_descriptor (chains (descriptors_at o) (data_at o) o.commands)
    ++ pieces_of is_frame_descriptor (frame_descriptors (frames_at o) (handed o.buffers (buffer_descriptors_at o)) o.frames)
    ++ pieces_of is_buffer_descriptor (buffer_descriptors (buffer_descriptors_at o) (buffers_at o) o.size o.buffers)
    ++ pieces_of is_data (all_data o.commands)
    ++ pieces_of is_buffer (replicate o.buffers (replicate o.size 0))

-- ---- placed back to back

pub record Placed : Type 0 where
  pub at : ℕ
  pub piece : Piece

abbrev pub placed_from : ℕ → List Piece → List Placed
placed_from at [] = []
placed_from at (p ∷ ps) = record { at = at; piece = p } ∷ placed_from (at + length p.bytes) ps

unfoldable pub placed : Order → List Placed
placed o = placed_from iscp_at (pieces o)

-- their bytes, one piece behind the other
abbrev pub joined_bytes : List Piece → List ℕ
joined_bytes [] = []
joined_bytes (p ∷ ps) = p.bytes ++ joined_bytes ps

unfoldable pub image : Order → List ℕ
image o = joined_bytes (pieces o)
