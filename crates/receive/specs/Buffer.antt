-- A buffer of a held frame: 01, "Arrival and storing": each buffer turn reads one descriptor whole, fills its buffer (size 0 too), then writes
-- F, count, and EOF if the data ends there. Assumes nothing.
use Rattle.std.specs.Prelude.{Bool, true, false, cond, List, [], ◌∷◌, ℕ, ◌+◌, ◌-◌, min, leb, take, drop}
use Rattle.memory.specs.Memory.{word_at, Write, bytes_to, word_to}
use Rattle.memory.specs.Address.{place, offset_at, address_at, is_none}
use Rattle.memory.specs.declared.Offset.{Offset}
use Rattle.memory.specs.declared.RealAddress.{RealAddress}
use Rattle.scb.specs.Words.{bits_at, bit}
use Rattle.device.specs.Limits.{held_from, most_buffers}
use Rattle.device.specs.declared.Ru.{Ru}
use Rattle.device.specs.declared.Ru.TheVariants as ru
use Rattle.device.specs.declared.Storing.{Storing}
use Rattle.device.specs.declared.Walk.{Walk}
use Rattle.receive.specs.declared.Descriptor.{Descriptor}
use Rattle.receive.specs.Part.{Part, Service, quietly}

-- Receive buffer descriptor: +0 15 EOF, 14 F, 13-0 count; +2 next; +4 real address; +8 15 EL, 13-0 size
unfoldable pub descriptor_at : RealAddress → Offset → List ℕ → Descriptor
descriptor_at base o m =
    let word = word_at m (place base o 8) in
    record {
      next = offset_at m (place base o 2);
      buffer = address_at m (place base o 4);
      el = bit word 15;
      size = bits_at word 0 14;
    }

-- how many bytes go into this buffer; the walk with it behind
abbrev pub count : Storing → Walk → Descriptor → ℕ
count s w d = min d.size (s.frame.length - w.filled)

abbrev pub past : Storing → Walk → Descriptor → Walk
past s w d = record { next = d.next; used = w.used + 1; filled = w.filled + count s w d }

-- the data ends there
abbrev pub is_done : Storing → Walk → Bool
is_done s w = leb s.frame.length w.filled

-- the data ends: all is stored. Data left after EL, at FFFFh or after 64: out of buffers
abbrev pub after_buffer : (done el none last : Bool) → Storing → Walk → Ru
after_buffer true el none last s w = ru.Closing s w.next el
after_buffer false true none last s w = ru.Lacking s
after_buffer false false true last s w = ru.Lacking s
after_buffer false false false true s w = ru.Lacking s
after_buffer false false false false s w = ru.Filling s w

-- F, count, and EOF if the data ends there
abbrev pub filled_word : (done : Bool) → ℕ → ℕ
filled_word done n = cond done 0xC000 0x4000 + n

-- the buffer, at its real address (the base is not added), then the descriptor's +0
abbrev pub fills : Part → Storing → Walk → Descriptor → List Write
fills p s w d =
    bytes_to d.buffer.0 (take (count s w d) (drop (held_from + w.filled) p.holding))
    ∷ word_to (place p.base w.next 0) (filled_word (is_done s (past s w d)) (count s w d))
    ∷ []

abbrev pub filled : Part → Storing → Walk → Descriptor → Service
filled p s w d =
    quietly
    (after_buffer (is_done s (past s w d)) d.el (is_none d.next) (leb most_buffers (w.used + 1)) s (past s w d))
    (fills p s w d)

unfoldable pub buffer : Part → Storing → Walk → List ℕ → Service
buffer p s w m = filled p s w (descriptor_at p.base w.next m)
