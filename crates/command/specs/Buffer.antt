-- A buffer of a Transmit: 01, "Turns". Assumes nothing.
use Rattle.std.specs.Prelude.{Bool, true, false, List, [], ℕ, ◌+◌, leb}
use Rattle.std.proofs.lemmas.List.Edits.{sets}
use Rattle.memory.specs.Memory.{word_at, bytes_at}
use Rattle.memory.specs.Address.{place, offset_at, address_at, is_none}
use Rattle.memory.specs.declared.Offset.{Offset}
use Rattle.memory.specs.declared.RealAddress.{RealAddress}
use Rattle.scb.specs.Words.{bits_at, bit}
use Rattle.device.specs.Limits.{longest, most_buffers}
use Rattle.device.specs.declared.Begun.{Begun}
use Rattle.device.specs.declared.Cu.{Cu}
use Rattle.device.specs.declared.Cu.TheVariants as cu
use Rattle.device.specs.declared.Walk.{Walk}
use Rattle.command.specs.declared.Descriptor.{Descriptor}
use Rattle.command.specs.Part.{Part, Service, with_unit, with_outgoing, quietly}

-- Descriptor: +0 15 EOF, 13-0 count; +2 next offset; +4 real address
unfoldable pub descriptor_at : RealAddress → Offset → List ℕ → Descriptor
descriptor_at base o m =
    let word = word_at m (place base o 0) in
    record {
      eof = bit word 15;
      count = bits_at word 0 14;
      next = offset_at m (place base o 2);
      buffer = address_at m (place base o 4);
    }

-- the walk with this descriptor behind it
abbrev pub walked : Descriptor → ℕ → ℕ → Walk
walked d used filled = record { next = d.next; used = used + 1; filled = filled }

abbrev pub past : Descriptor → Walk → Walk
past d w = walked d w.used (w.filled + d.count)

-- the 64th descriptor
abbrev pub is_last : ℕ → Bool
is_last used = leb most_buffers (used + 1)

-- a buffer that would pass 2,048 bytes, a next offset FFFFh before EOF, no EOF in 64 descriptors: the end turn is next, and nothing is sent
abbrev pub after_buffer : (fits eof none last : Bool) → Begun → Walk → Cu
after_buffer false eof none last b w = cu.Failing b
after_buffer true true none last b w = cu.Ending b w.filled
after_buffer true false true last b w = cu.Failing b
after_buffer true false false true b w = cu.Failing b
after_buffer true false false false b w = cu.Sending b w

-- would not pass 2,048 bytes
abbrev pub fits : Descriptor → Walk → Bool
fits d w = leb (w.filled + d.count) longest

-- data goes behind the header, none of it where it would not fit; the buffer's address is real: the base is not added
abbrev pub gathered : (fits : Bool) → List ℕ → Descriptor → Walk → List ℕ → List ℕ
gathered true outgoing d w m = sets outgoing w.filled (bytes_at m d.buffer.0 d.count)
gathered false outgoing d w m = outgoing

-- the unit and the outgoing area after the descriptor d
abbrev pub taken : Part → Begun → Walk → Descriptor → List ℕ → Part
taken p b w d m =
    with_outgoing
    (with_unit p (after_buffer (fits d w) d.eof (is_none d.next) (is_last w.used) b (past d w)))
    (gathered (fits d w) p.outgoing d w m)

-- one buffer turn for each descriptor; memory is only read
unfoldable pub buffer : Part → Begun → Walk → List ℕ → Service
buffer p b w m = quietly (taken p b w (descriptor_at p.base w.next m) m) []
