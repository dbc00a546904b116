-- The words that a line's first word and its area may be: docs/replay.md, "Lines". A word's letters are one number, five bits to a letter, so
-- that words are told apart by it. Assumes nothing.
use Rattle.std.specs.Prelude.{cond, ℕ, ◌+◌, ◌-◌, ◌*◌, eqb, ltb, Option, Some, None}
use Prim.Native.Char.{code}
use Prim.Native.String.{String, [], ◌∷◌}
use Rattle.wording.specs.declared.Verb.{Verb}
use Rattle.wording.specs.declared.Verb.TheVariants as verb
use Rattle.wording.specs.declared.Area.{Area}
use Rattle.wording.specs.declared.Area.TheVariants as area

-- a word that has other characters than small letters, or more than twelve
abbrev pub no_word : ℕ
no_word = 0x1000000000000000

-- a further letter, a to z
unfoldable pub more_letters : ℕ → ℕ → ℕ
more_letters letters c =
    cond (ltb c 97) no_word
    (cond (ltb 122 c) no_word
    (cond (ltb letters 0x80000000000000) (letters * 32 + (c - 96))
    no_word))

-- the number of a word so spelled
abbrev pub spelled_from : ℕ → String → ℕ
spelled_from n [] = n
spelled_from n (l ∷ ls) = spelled_from (n * 32 + (code l - 96)) ls

abbrev pub spelled : String → ℕ
spelled word = spelled_from 0 word

-- the verb that a first word names, if it names one
unfoldable pub verb_of : ℕ → Option Verb
verb_of letters =
    cond (eqb letters (spelled "size")) (Some verb.Size)
    (cond (eqb letters (spelled "reset")) (Some verb.Reset)
    (cond (eqb letters (spelled "attention")) (Some verb.Attention)
    (cond (eqb letters (spelled "arrival")) (Some verb.Arrival)
    (cond (eqb letters (spelled "turn")) (Some verb.Turn)
    (cond (eqb letters (spelled "run")) (Some verb.Run)
    (cond (eqb letters (spelled "bytes")) (Some verb.Bytes)
    (cond (eqb letters (spelled "words")) (Some verb.Words)
    (cond (eqb letters (spelled "show")) (Some verb.Show)
    (cond (eqb letters (spelled "look")) (Some verb.Look)
    (cond (eqb letters (spelled "interrupt")) (Some verb.Interrupt)
    (cond (eqb letters (spelled "record")) (Some verb.Record)
    (cond (eqb letters (spelled "say")) (Some verb.Say)
    None))))))))))))

-- the area that a word names, if it names one
unfoldable pub area_of : ℕ → Option Area
area_of letters =
    cond (eqb letters (spelled "memory")) (Some area.Memory)
    (cond (eqb letters (spelled "holding")) (Some area.Holding)
    (cond (eqb letters (spelled "outgoing")) (Some area.Outgoing)
    None))

-- the bytes of an area: memory 65,536, holding and outgoing 2,048 each
abbrev pub size_of : Area → ℕ
size_of area.Memory = 65536
size_of area.Holding = 2048
size_of area.Outgoing = 2048
