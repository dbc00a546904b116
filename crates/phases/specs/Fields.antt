-- Where the fields of a unit's words stand, and each flag in its byte: docs/record.md, bytes 16 to 39. The weights stand here alone, but for those within
-- a form's number, Forms. Assumes nothing.
use Rattle.std.specs.Prelude.{Bool, ℕ, ◌+◌, ◌*◌, ◌-◌, ◌/◌, ◌%◌, ◌^◌, eqb}
use Rattle.scb.specs.Words.{one}

-- ---- flags in a byte

-- six flags as a number, the first in bit 0
abbrev pub flags_of : Bool → Bool → Bool → Bool → Bool → Bool → ℕ
flags_of a b c d e f = one a + 2 * one b + 2 ^ 2 * one c + 2 ^ 3 * one d + 2 ^ 4 * one e + 2 ^ 5 * one f

-- whether bit 0 of a number is set, and bit k
abbrev pub odd : ℕ → Bool
odd n = eqb (n % 2) 1

abbrev pub flag_at : ℕ → ℕ → Bool
flag_at k f = odd (f / 2 ^ k)

-- ---- a unit's word

-- two bytes of an offset, one of flags, one of kind, two of size, two of the next offset
abbrev pub word_by : (at flags kind size next : ℕ) → ℕ
word_by at flags kind size next = at + 2 ^ 16 * flags + 2 ^ 24 * kind + 2 ^ 32 * size + 2 ^ 48 * next

abbrev pub offset_in : ℕ → ℕ
offset_in n = n % 2 ^ 16

abbrev pub flags_in : ℕ → ℕ
flags_in n = n / 2 ^ 16 % 2 ^ 8

abbrev pub kind_in : ℕ → ℕ
kind_in n = n / 2 ^ 24 % 2 ^ 8

abbrev pub size_in : ℕ → ℕ
size_in n = n / 2 ^ 32 % 2 ^ 16

abbrev pub next_in : ℕ → ℕ
next_in n = n / 2 ^ 48

-- flag k of a word, where its number has it
abbrev pub flag_in : ℕ → ℕ → Bool
flag_in k n = odd (n / 2 ^ (16 + k))

-- the largest word with an offset alone, with all but the next offset, and of all
abbrev pub offset_most : ℕ
offset_most = 2 ^ 16 - 1

abbrev pub sized_most : ℕ
sized_most = 2 ^ 48 - 1

abbrev pub word_most : ℕ
word_most = 2 ^ 64 - 1

-- ---- the receive unit's second word

-- two bytes of what is stored, one of the buffers used
abbrev pub rest_by : (filled used : ℕ) → ℕ
rest_by filled used = filled + 2 ^ 16 * used

abbrev pub filled_in : ℕ → ℕ
filled_in rest = rest % 2 ^ 16

abbrev pub above_filled : ℕ → ℕ
above_filled rest = rest / 2 ^ 16

abbrev pub used_in : ℕ → ℕ
used_in rest = above_filled rest % 2 ^ 8

-- the largest
abbrev pub filled_most : ℕ
filled_most = 2 ^ 24 - 1
