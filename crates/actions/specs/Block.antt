-- Where a command block has its fields: 01, "Turns". Assumes nothing.
use Rattle.std.specs.Prelude.{ℕ, ◌+◌}

-- Command block: +0 status, +2 command, +4 link offset; the commands' own fields from +6 on

abbrev pub block_status_at : ℕ
block_status_at = 0

abbrev pub block_command_at : ℕ
block_command_at = 2

abbrev pub block_link_at : ℕ
block_link_at = 4

abbrev pub argument_at : ℕ
argument_at = 6

-- a Transmit's destination, and the type behind its l bytes (02, Wish 4: "fields are packed"); an MC-Setup's first address
abbrev pub destination_at : ℕ
destination_at = 8

abbrev pub type_at : ℕ → ℕ
type_at l = destination_at + l
