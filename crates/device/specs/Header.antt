-- The header rule: 02, Wish 4: "The header has twice the length plus two bytes; with location 1 the whole frame goes through buffers both ways". It says
-- where each part of a header lies in the frame, by the address length l. Assumes nothing.
use Rattle.std.specs.Prelude.{Bool, true, false, ℕ, ◌+◌}
use Rattle.device.specs.Limits.{type_length}
use Rattle.device.specs.declared.Form.{Form}

-- destination, l bytes from the frame's first on; source, l bytes; type, two bytes: each begins where the one before it ends
abbrev pub destination_in : ℕ
destination_in = 0

abbrev pub source_in : ℕ → ℕ
source_in l = l

abbrev pub type_in : ℕ → ℕ
type_in l = l + l

-- how many bytes a header has
abbrev pub header : ℕ → ℕ
header l = type_in l + type_length

-- how many of a frame's first bytes do not go through buffers: with location 0 the header, with location 1 none
abbrev pub unbuffered_by : (location : Bool) → ℕ → ℕ
unbuffered_by true l = 0
unbuffered_by false l = header l

abbrev pub unbuffered : Form → ℕ
unbuffered form = unbuffered_by form.location form.length
