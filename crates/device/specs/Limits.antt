-- The sizes that documents 01 and 02 name, each once. Assumes nothing.
use Rattle.std.specs.Prelude.{ℕ}

-- 02, Wish 4: "lengths 0 to 6". The own address has as many bytes, whatever the length in force, and it is the length after reset
abbrev pub longest_address : ℕ
longest_address = 6

abbrev pub type_length : ℕ
type_length = 2

-- where in the holding area a held frame begins
abbrev pub held_from : ℕ
held_from = 0

-- 01, "Calls, lent areas, refusals": "holding area, 2,048 bytes; outgoing area, 2,048 bytes; device record, 256 bytes"
abbrev pub holding_size : ℕ
holding_size = 2048

abbrev pub outgoing_size : ℕ
outgoing_size = 2048

abbrev pub record_size : ℕ
record_size = 256

-- no frame exceeds 2,048 bytes
abbrev pub longest : ℕ
longest = 2048

-- 01, "Turns": at most 64 buffer turns
abbrev pub most_buffers : ℕ
most_buffers = 64

-- 02, Wish 1: a 64-bit filter
abbrev pub filter_bits : ℕ
filter_bits = 64

-- bytes sent with every frame that no call hands over: the FCS
abbrev pub fcs : ℕ
fcs = 4
