-- What a stretch of the input is. Assumes nothing.
use Rattle.std.specs.Prelude.{◌≡◌, ◌<◌, ◌≤◌, ◌++◌, List, [], ℕ, length, Option, None, Some, MatchOption}
use Rattle.std.specs.Borrow.{Bor}
use Rattle.stretches.specs.declared.Stretches.{Stretches}
use Rattle.printing.specs.Run.{newlines}

-- a stretch is the front of what is left; it has a character at least, and at most one line ends in it
abbrev pub CutsStretch : Stretches → Option (Bor (List ℕ)) → Stretches → Type 0
CutsStretch s r t =
    MatchOption r ((length s.0.now ≡ 0) × (t ≡ s))
    (λ x. (s.0.now ≡ x.now ++ t.0.now) × (0 < length x.now) × (newlines x.now ≤ 1))

-- the bytes of a piece; behind the last there are none
abbrev pub piece_bytes : Option (Bor (List ℕ)) → List ℕ
piece_bytes None = []
piece_bytes (Some p) = p.now
