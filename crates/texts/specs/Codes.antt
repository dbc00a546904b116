-- A text as the codes of its characters. Assumes nothing.
use Rattle.std.specs.Prelude.{List, [] as nothing, ◌∷◌ as ◌before◌, ℕ}
use Prim.Native.Char.{code}
use Prim.Native.String.{String, [], ◌∷◌}

abbrev pub codes : String → List ℕ
codes [] = nothing
codes (c ∷ s) = (code c) before (codes s)
