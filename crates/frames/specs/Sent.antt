-- What a Transmit's turns make of the outgoing area, and what its end tells: 01, "Turns", as 02, Wish 4, mends it. Assumes nothing.
use Rattle.std.specs.Prelude.{◌≡◌, true, cond, List, [], ◌∷◌, ◌++◌, ℕ, ◌+◌, take, drop, Some}
use Rattle.memory.specs.Address.{place, offset_at, is_none}
use Rattle.memory.specs.Memory.{word_at, bytes_at, word_to}
use Rattle.memory.specs.declared.Offset.{Offset}
use Rattle.device.specs.Header.{source_in, type_in, header, unbuffered}
use Rattle.device.specs.Limits.{type_length}
use Rattle.device.specs.declared.Begun.{Begun}
use Rattle.device.specs.declared.Cu.{Cu}
use Rattle.device.specs.declared.Cu.TheVariants as cu
use Rattle.device.specs.declared.Walk.{Walk}
use Rattle.actions.specs.Actions.{done, failed, reported, is_sent}
use Rattle.actions.specs.Block.{block_status_at}
use Rattle.command.specs.Begin.{cmd, begun_by, to_first}
use Rattle.command.specs.Buffer.{descriptor_at, is_last, after_buffer, fits}
use Rattle.command.specs.Part.{part_of}
use Rattle.command.specs.Service.{service}
use Rattle.chip.specs.Call.{turn, ran}
use Rattle.chip.specs.Turn.{served_of}
use Rattle.chip.specs.World.{World}
use Rattle.chip.specs.declared.Unit.TheVariants as unit
use Rattle.frames.specs.Arrival.{settings_of, length_in}

-- ---- its begin

-- the command unit is served, and the block at o, which is next, is a Transmit's
pub record BeginsTransmit (w : World) (o : Offset) : Type 0 where
  pub served : served_of w.device.units ≡ Some unit.Command
  pub waiting : w.device.units.cu ≡ cu.Waiting o
  pub transmits : cmd (word_at w.memory (place w.device.units.base o 2)) ≡ 4

-- the descriptor at +6 is next, with none the end; so many bytes of the frame are in the area as go to no buffer: the header, with location 1 none
abbrev pub unit_begun : World → Offset → Cu
unit_begun w o =
    let first = offset_at w.memory (place w.device.units.base o 6) in
    let word = word_at w.memory (place w.device.units.base o 2) in
    to_first (is_none first) (unbuffered (settings_of w).form) (begun_by o word) first

-- with location 0: the block's destination, the own address's first bytes, the block's type, one behind the other; what is behind them stays
pub record HeaderPlaced (w : World) (o : Offset) (out : List ℕ) : Type 0 where
  pub destination : take (length_in w) out ≡ bytes_at w.memory (place w.device.units.base o 8) (length_in w)
  pub source : take (length_in w) (drop (source_in (length_in w)) out) ≡ take (length_in w) w.device.own
  pub type : take type_length (drop (type_in (length_in w)) out) ≡ bytes_at w.memory (place w.device.units.base o (8 + length_in w)) type_length
  pub behind : drop (header (length_in w)) out ≡ drop (header (length_in w)) w.outgoing

-- ---- its buffers

-- the command unit is served, and a Transmit is at the descriptor that k says, whose buffer fits
pub record TakesBuffer (w : World) (b : Begun) (k : Walk) : Type 0 where
  pub served : served_of w.device.units ≡ Some unit.Command
  pub sending : w.device.units.cu ≡ cu.Sending b k
  pub fits : fits (descriptor_at w.device.units.base k.next w.memory) k ≡ true

-- the bytes of its buffer, as many as its count says, from its real address
abbrev pub count_in : World → Walk → ℕ
count_in w k = (descriptor_at w.device.units.base k.next w.memory).count

abbrev pub data_in : World → Walk → List ℕ
data_in w k = bytes_at w.memory (descriptor_at w.device.units.base k.next w.memory).buffer.0 (count_in w k)

-- so many bytes more are in the area; the next descriptor is next, at EOF the end, and 8100h follows where FFFFh or the 64th comes before it
abbrev pub unit_after : World → Begun → Walk → Cu
unit_after w b k =
    let d = descriptor_at w.device.units.base k.next w.memory in
    after_buffer true d.eof (is_none d.next) (is_last k.used) b (record { next = d.next; used = k.used + 1; filled = k.filled + count_in w k })

-- what was there so far, and behind it the buffer's bytes; what is behind them stays
pub record BufferTaken (w : World) (k : Walk) (out : List ℕ) : Type 0 where
  pub so_far_lem : take (k.filled + count_in w k) out ≡ take k.filled w.outgoing ++ data_in w k
  pub behind : drop (k.filled + count_in w k) out ≡ drop (k.filled + count_in w k) w.outgoing

-- ---- its end

-- the command unit is served, and a Transmit of n bytes is before its end
pub record EndsTransmit (w : World) (b : Begun) (n : ℕ) : Type 0 where
  pub served : served_of w.device.units ≡ Some unit.Command
  pub ending : w.device.units.cu ≡ cu.Ending b n

-- as the line reports: its length is told if it was sent, of a frame of no bytes 0 too; its status is what the unit writes, to the block, and the turn adds
-- the SCB's status where it is due; the area stays
pub record TransmitEnded (w : World) (b : Begun) (n report : ℕ) : Type 0 where
  pub told : (ran (turn report) w).outcome.answer.length ≡ cond (is_sent report) n 0
  pub status : (service (part_of w.device w.outgoing) w.memory report).writes
      ≡ word_to (place w.device.units.base b.block block_status_at) (cond (is_sent report) done failed + reported report) ∷ []
  pub area : (ran (turn report) w).outgoing ≡ w.outgoing
