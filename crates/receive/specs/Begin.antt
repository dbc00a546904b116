-- Begin of a held frame: 01, "Arrival and storing": read +2 and +6, write 4000h. Assumes nothing.
use Rattle.std.specs.Prelude.{Bool, true, false, List, [], ◌∷◌, ℕ, leb}
use Rattle.memory.specs.Memory.{word_at, word_to}
use Rattle.memory.specs.Address.{place, offset_at, is_none}
use Rattle.memory.specs.declared.Offset.{Offset}
use Rattle.scb.specs.Words.{bit}
use Rattle.device.specs.Header.{unbuffered}
use Rattle.device.specs.declared.Frame.{Frame}
use Rattle.device.specs.declared.Ru.{Ru}
use Rattle.device.specs.declared.Ru.TheVariants as ru
use Rattle.device.specs.declared.Storing.{Storing}
use Rattle.receive.specs.Part.{Part, Service, quietly, fd_status_at, control_at, first_at}

-- +2 15 EL, 14 S
unfoldable pub begun_by : Offset → Frame → Bool → ℕ → Storing
begun_by fd f pausing word =
    record { fd = fd; el = bit word 15; suspend = bit word 14; pausing = pausing; frame = f }

-- a frame with no data for the buffers: none behind its header; with location 1 there is always some
abbrev pub is_bare : Frame → Bool
is_bare f = leb f.length (unbuffered f.form)

-- no data: the end is next, and the first offset stays the next free one. Data left at FFFFh: out of buffers
abbrev pub to_first : (bare none : Bool) → Storing → Offset → Ru
to_first true none s first = ru.Closing s first false
to_first false true s first = ru.Lacking s
to_first false false s first = ru.Filling s (record { next = first; used = 0; filled = unbuffered s.frame.form })

unfoldable pub begin : Part → Offset → Frame → Bool → List ℕ → Service
begin p fd f pausing m =
    let first = offset_at m (place p.base fd first_at) in
    quietly (to_first (is_bare f) (is_none first) (begun_by fd f pausing (word_at m (place p.base fd control_at))) first)
    (word_to (place p.base fd fd_status_at) 0x4000 ∷ [])
