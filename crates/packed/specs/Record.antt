-- Where the record's parts stand: docs/record.md, "Layout". Before the status are the letters and the version; spare bytes lie between. Assumes nothing.
use Rattle.std.specs.Prelude.{ℕ}

-- the letters B, G, T, and behind them the version
abbrev pub letters_at : ℕ
letters_at = 0

-- the four numbers, eight bytes each
abbrev pub status_at : ℕ
status_at = 5

abbrev pub cu_at : ℕ
cu_at = 16

abbrev pub ru_at : ℕ
ru_at = 24

abbrev pub rest_at : ℕ
rest_at = 32

-- three spare bytes behind the status, and a run of them behind the numbers
abbrev pub gap_at : ℕ
gap_at = 13

abbrev pub gap_size : ℕ
gap_size = 3

abbrev pub spare_at : ℕ
spare_at = 40

abbrev pub spare_size : ℕ
spare_size = 200

-- what the commands set up, to the end
abbrev pub setup_at : ℕ
setup_at = 240
