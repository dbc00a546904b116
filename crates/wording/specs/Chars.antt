-- Characters of a list of calls, and how far things are counted. Assumes nothing.
use Rattle.std.specs.Prelude.{Bool, cond, ◌||◌, ℕ, ◌+◌, ◌-◌, min, eqb, ltb}

-- words stand apart by spaces or tabs
abbrev pub blank : ℕ → Bool
blank c = eqb c 32 || eqb c 9

-- `#` begins a comment
abbrev pub hash : ℕ
hash = 35

-- the value of a hex digit in either case, 0 to 9, A to F, a to f; 16 for every other character
unfoldable pub digit : ℕ → ℕ
digit c =
    cond (ltb c 48) 16
    (cond (ltb c 58) (c - 48)
    (cond (ltb c 65) 16
    (cond (ltb c 71) (c - 55)
    (cond (ltb c 97) 16
    (cond (ltb c 103) (c - 87)
    16)))))

-- the next column; columns are counted up to 2^31 - 1
abbrev pub further : ℕ → ℕ
further column = min (column + 1) 0x7FFFFFFF

-- so many bytes or words and n more; they are counted up to 65,537, one more than any area has
abbrev pub counted : ℕ → ℕ → ℕ
counted sofar n = min (sofar + n) 65537
