-- Orders and the memory that is built from them, computed: docs/builder.md, "An example". Assumes nothing.
use mathlib.Core.Path.{◌≡◌, refl}
use mathlib.Core.Bool.{Bool, true, false, ◌&&◌}
use mathlib.Core.List.{List, [], ◌∷◌, ◌++◌}
use Prim.Native.Nat.{ℕ}
use lib.Dec.{T, eqb}
use lib.ListN.{length, replicate}
use Rattle.memory.specs.Memory as memory
use Rattle.memory.specs.Size as size
use Rattle.order.specs.Limits as limits
use Rattle.builder.specs.Pieces as pieces
use Rattle.builder.specs.Reading as reading
use Rattle.scb.specs.Words as words
use Rattle.device.specs.Numbers as numbers
use Rattle.order.specs.Order.{Command, Order, What, nop, ia_setup, configure, mc_setup, transmit, tdr, diagnose}
use Rattle.builder.specs.Pieces.{image, frames_at, data_at, buffers_at}
use Rattle.builder.specs.Built.{built, refusal}
use Rattle.builder.specs.Reading.{order_in, is_built, same_bytes}

abbrev plain : What → Command
plain w = record { interrupt = false; what = w }

abbrev telling : What → Command
telling w = record { interrupt = true; what = w }

-- two frame descriptors, two buffers of 5; two-byte addresses, two groups, a frame in two pieces, and the rest
example : Order
example =
    record {
      frames = 2;
      buffers = 2;
      size = 5;
      commands =
          telling nop
          ∷ plain (ia_setup (2 ∷ 3 ∷ 4 ∷ 5 ∷ 6 ∷ 7 ∷ []))
          ∷ plain (configure (8 ∷ 0 ∷ 2 ∷ []))
          ∷ plain (mc_setup (1 ∷ 9 ∷ 3 ∷ 9 ∷ []))
          ∷ telling (transmit (255 ∷ 255 ∷ 8 ∷ 0 ∷ []) ((0x51 ∷ 0x52 ∷ 0x53 ∷ []) ∷ (0x54 ∷ []) ∷ []))
          ∷ plain tdr
          ∷ plain diagnose
          ∷ [];
    }

-- the bytes, piece by piece
bytes : List ℕ
bytes =
    1 ∷ 0 ∷ 8 ∷ 0 ∷ 0 ∷ 0 ∷ 0 ∷ 0
    ∷ 0 ∷ 0 ∷ 0 ∷ 0 ∷ 24 ∷ 0 ∷ 106 ∷ 0 ∷ 0 ∷ 0 ∷ 0 ∷ 0 ∷ 0 ∷ 0 ∷ 0 ∷ 0
    ∷ 0 ∷ 0 ∷ 0 ∷ 0x20 ∷ 30 ∷ 0
    ∷ 0 ∷ 0 ∷ 1 ∷ 0 ∷ 42 ∷ 0 ∷ 2 ∷ 3 ∷ 4 ∷ 5 ∷ 6 ∷ 7
    ∷ 0 ∷ 0 ∷ 2 ∷ 0 ∷ 52 ∷ 0 ∷ 4 ∷ 8 ∷ 0 ∷ 2
    ∷ 0 ∷ 0 ∷ 3 ∷ 0 ∷ 64 ∷ 0 ∷ 4 ∷ 0 ∷ 1 ∷ 9 ∷ 3 ∷ 9
    ∷ 0 ∷ 0 ∷ 4 ∷ 0x20 ∷ 76 ∷ 0 ∷ 90 ∷ 0 ∷ 255 ∷ 255 ∷ 8 ∷ 0
    ∷ 0 ∷ 0 ∷ 5 ∷ 0 ∷ 84 ∷ 0 ∷ 0 ∷ 0
    ∷ 0 ∷ 0 ∷ 7 ∷ 0x80 ∷ 0xFF ∷ 0xFF
    ∷ 3 ∷ 0 ∷ 98 ∷ 0 ∷ 170 ∷ 0 ∷ 0 ∷ 0
    ∷ 1 ∷ 0x80 ∷ 0xFF ∷ 0xFF ∷ 173 ∷ 0 ∷ 0 ∷ 0
    ∷ 0 ∷ 0 ∷ 0 ∷ 0 ∷ 128 ∷ 0 ∷ 150 ∷ 0 ∷ 0 ∷ 0 ∷ 0 ∷ 0 ∷ 0 ∷ 0 ∷ 0 ∷ 0 ∷ 0 ∷ 0 ∷ 0 ∷ 0 ∷ 0 ∷ 0
    ∷ 0 ∷ 0 ∷ 0 ∷ 0x80 ∷ 0xFF ∷ 0xFF ∷ 0xFF ∷ 0xFF ∷ 0 ∷ 0 ∷ 0 ∷ 0 ∷ 0 ∷ 0 ∷ 0 ∷ 0 ∷ 0 ∷ 0 ∷ 0 ∷ 0 ∷ 0 ∷ 0
    ∷ 0 ∷ 0 ∷ 160 ∷ 0 ∷ 174 ∷ 0 ∷ 0 ∷ 0 ∷ 5 ∷ 0
    ∷ 0 ∷ 0 ∷ 0xFF ∷ 0xFF ∷ 179 ∷ 0 ∷ 0 ∷ 0 ∷ 5 ∷ 0x80
    ∷ 0x51 ∷ 0x52 ∷ 0x53
    ∷ 0x54
    ∷ 0 ∷ 0 ∷ 0 ∷ 0 ∷ 0
    ∷ 0 ∷ 0 ∷ 0 ∷ 0 ∷ 0
    ∷ []

computed : image example ≡ bytes
unfolding image pieces.pieces memory.digits pieces.scb frames_at pieces.descriptors_at example pieces.argument_length pieces.block pieces.command_word pieces.descriptor data_at pieces.buffer_descriptors_at pieces.frame_descriptor pieces.buffer_descriptor buffers_at bytes
computed = refl

-- it is built in 8,192 bytes, and read back
round : order_in (built (replicate 8192 7) example) ≡ example
unfolding image pieces.pieces memory.digits pieces.scb frames_at pieces.descriptors_at example pieces.argument_length pieces.block pieces.command_word pieces.descriptor data_at pieces.buffer_descriptors_at pieces.frame_descriptor pieces.buffer_descriptor buffers_at built memory.put_bytes memory.put_byte order_in memory.field_at memory.value memory.bytes_at memory.byte_at words.bits_at numbers.action_of
round = refl
