-- Lines as docs/replay.md has them, read from their first character to their end: what a good one brings, and what is told of a bad one, by
-- two computed statements over two lists. Assumes nothing.
use mathlib.Core.Bool.{Bool, true, false, ◌&&◌}
use mathlib.Core.List.{List, [], ◌∷◌}
use Prim.Native.Nat.{ℕ}
use Prim.Native.Char.{code}
use Prim.Native.String.{String, [] as none, ◌∷◌ as ◌then◌}
use lib.Dec.{T, eqb}
use lib.ListN.{take, replicate}
use lib.Text.{eqt}
use Rattle.std.specs.Prelude.{Option, Some, None}
use Rattle.wording.specs.Chars.{digit}
use Rattle.wording.specs.Names.{more_letters, verb_of, area_of}
use Rattle.wording.specs.Spelling.{more_digits, number_of, after_count, more_piece, store, more_word}
use Rattle.wording.specs.Lines.{judged_by}
use Rattle.wording.specs.Take.{with_number, take_verb, take_number, take_area, take_place, take_bytes, put_value, take_value, take_word}
use Rattle.wording.specs.declared.Fault.{Fault}
use Rattle.wording.specs.declared.Line.{Line}
use Rattle.wording.specs.declared.Wrong.{Wrong}
use Rattle.wording.specs.declared.Wrong.TheVariants as wrong
use Rattle.lines.specs.Reader.{Read, left, start, is_right, past, with_line, with_fault, with_taken, end_word, begin_word, more_text, first_of, between, further_of, past_word, in_word, in_text, read_in, read, last_word, judge, end}

-- a line, from its first character to its end, with eight bytes lent
abbrev pub onward : Read → String → Read
onward at none = end at.reader at.bytes
onward at (c then more) = onward (read at.reader (code c) at.bytes) more

abbrev pub whole : String → Read
whole text = onward (left start (replicate 8 0)) text

-- what was expected, in docs/replay.md's words
abbrev pub expected : Wrong → String
expected wrong.First = "a line's first word"
expected wrong.Number = "a number"
expected wrong.Size = "a number up to 65536"
expected wrong.Short = "a number up to 65535"
expected wrong.Area = "an area"
expected wrong.Place = "a place in the area"
expected wrong.Bytes = "bytes"
expected wrong.Room = "room in the area"
expected wrong.End = "the end of the line"

-- ---- bad lines

pub record Bad : Type 0 where
  pub text : String
  pub column : ℕ
  pub wants : String

abbrev pub bad : String → ℕ → String → Bad
bad text column wants = record { text = text; column = column; wants = wants }

abbrev pub tells : Bad → Option Fault → Bool
tells b None = false
tells b (Some f) = eqb f.column b.column && eqt (expected f.wrong) b.wants

abbrev pub all_told : List Bad → Bool
all_told [] = true
all_told (b ∷ bs) = tells b (whole b.text).reader.fault && all_told bs

abbrev pub bad_lines : List Bad
bad_lines =
    bad "fly" 1 "a line's first word"
    ∷ bad "  Reset" 3 "a line's first word"
    ∷ bad "size" 5 "a number"
    ∷ bad "size   # of what" 5 "a number"
    ∷ bad "size 12g" 6 "a number"
    ∷ bad "size FFF" 6 "a number"
    ∷ bad "size 4294967296" 6 "a number"
    ∷ bad "size 65537" 6 "a number up to 65536"
    ∷ bad "turn 65536" 6 "a number up to 65535"
    ∷ bad "turn 1 10000h" 8 "a number up to 65535"
    ∷ bad "turn 1 2 3" 10 "the end of the line"
    ∷ bad "run  # on" 4 "a number"
    ∷ bad "run 65536" 5 "a number up to 65535"
    ∷ bad "run 0 10000h" 7 "a number up to 65535"
    ∷ bad "run 1 2 3" 9 "the end of the line"
    ∷ bad "reset now" 7 "the end of the line"
    ∷ bad "bytes" 6 "an area"
    ∷ bad "show heap 0 1" 6 "an area"
    ∷ bad "bytes memory" 13 "a number"
    ∷ bad "show memory 65536 0" 13 "a place in the area"
    ∷ bad "look holding 2048 0" 14 "a place in the area"
    ∷ bad "show memory 0" 14 "a number"
    ∷ bad "show memory 0 65537" 13 "room in the area"
    ∷ bad "look outgoing 2046 2" 15 "room in the area"
    ∷ bad "bytes memory FFFFh 0102" 14 "room in the area"
    ∷ bad "bytes memory FFFFh 0102 zz" 25 "bytes"
    ∷ bad "words memory FFFFh 1" 14 "room in the area"
    ∷ bad "words memory 0 0 70000 x" 18 "a number up to 65535"
    ∷ bad "arrival 4294967296 zz" 9 "a number"
    ∷ bad "arrival 0 123" 11 "bytes"
    ∷ bad "arrival 0 3x5" 11 "bytes"
    ∷ bad "arrival 0 1Ax55" 11 "bytes"
    ∷ []

pub bad_lines_lem : T (all_told bad_lines)
unfolding digit more_letters verb_of area_of more_digits number_of after_count more_piece store more_word judged_by with_number take_verb take_number take_area take_place take_bytes put_value take_value take_word start is_right past with_line with_fault with_taken end_word begin_word more_text first_of between further_of past_word in_word in_text read_in read last_word judge end
bad_lines_lem = tt

-- ---- good lines

pub record Good : Type 0 where
  pub text : String
  pub taken : ℕ
  pub first : ℕ
  pub second : ℕ
  pub brings : List ℕ

abbrev pub good : String → ℕ → ℕ → ℕ → List ℕ → Good
good text taken first second brings = record { text = text; taken = taken; first = first; second = second; brings = brings }

abbrev pub same : List ℕ → List ℕ → Bool
same [] [] = true
same [] (y ∷ ys) = false
same (x ∷ xs) [] = false
same (x ∷ xs) (y ∷ ys) = eqb x y && same xs ys

abbrev pub fits : Good → Line → List ℕ → Bool
fits g l bytes = eqb l.taken g.taken && eqb l.first g.first && eqb l.second g.second && same (take l.filled bytes) g.brings

abbrev pub all_right : List Good → Bool
all_right [] = true
all_right (g ∷ gs) = is_right (whole g.text).reader && fits g (whole g.text).reader.line (whole g.text).bytes && all_right gs

abbrev pub good_lines : List Good
good_lines =
    good "" 0 0 0 []
    ∷ good "  # nothing" 0 0 0 []
    ∷ good "reset#" 0 0 0 []
    ∷ good "size 2000h" 1 8192 0 []
    ∷ good "turn" 0 0 0 []
    ∷ good " turn 3 ffffh " 2 3 65535 []
    ∷ good "run FFFFh" 1 65535 0 []
    ∷ good "run 0 65535" 2 0 65535 []
    ∷ good "arrival 4294967295" 1 4294967295 0 []
    ∷ good "arrival 1 FFfF 3x55 00" 4 1 0 (0xFF ∷ 0xFF ∷ 0x55 ∷ 0x55 ∷ 0x55 ∷ 0 ∷ [])
    ∷ good "bytes memory FFFFh 0x00 7F" 4 65535 0 (0x7F ∷ [])
    ∷ good "words memory 20h 1 3000h" 4 32 0 (1 ∷ 0 ∷ 0 ∷ 0x30 ∷ [])
    ∷ good "show holding 7FFh 1" 3 2047 1 []
    ∷ good "look memory 30h 2" 3 48 2 []
    ∷ good "say  a b # c" 0 0 0 (97 ∷ 32 ∷ 98 ∷ 32 ∷ [])
    ∷ []

pub good_lines_lem : T (all_right good_lines)
unfolding digit more_letters verb_of area_of more_digits number_of after_count more_piece store more_word judged_by with_number take_verb take_number take_area take_place take_bytes put_value take_value take_word start is_right past with_line with_fault with_taken end_word begin_word more_text first_of between further_of past_word in_word in_text read_in read last_word judge end
good_lines_lem = tt
