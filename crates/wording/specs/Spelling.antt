-- A word of a line, character by character: docs/replay.md, NUMBER and BYTES. Assumes nothing.
use Rattle.std.specs.Prelude.{Bool, true, false, cond, ◌&&◌, List, ℕ, ◌+◌, ◌*◌, ◌%◌, min, eqb, ltb, set, Option, Some, None}
use Rattle.wording.specs.Chars.{digit, counted}
use Rattle.wording.specs.Names.{more_letters}
use Rattle.wording.specs.declared.Digits.{Digits}
use Rattle.wording.specs.declared.Piece.{Piece}
use Rattle.wording.specs.declared.Piece.TheVariants as piece
use Rattle.wording.specs.declared.Word.{Word}

-- ---- a NUMBER: decimal, or hex digits with `h` behind them

-- it is at most 4,294,967,295; this one stands for all above
abbrev pub many : ℕ
many = 0x100000000

abbrev pub no_digits : Digits
no_digits = record { any = false; decimal = Some 0; hex = Some 0; closed = None }

-- a digit of a base behind those before it, as long as all are digits of it
abbrev pub more_of : ℕ → Option ℕ → ℕ → Option ℕ
more_of base None d = None
more_of base (Some n) d = cond (ltb d base) (Some (min (min n many * base + d) many)) None

-- the number that stands, where it may
abbrev pub only_if : Bool → Option ℕ → Option ℕ
only_if x n = cond x n None

-- a further character, read both ways; 104 is `h`
unfoldable pub more_digits : Digits → ℕ → Digits
more_digits n c =
    record {
      any = true;
      decimal = more_of 10 n.decimal (digit c);
      hex = more_of 16 n.hex (digit c);
      closed = only_if (n.any && eqb c 104) n.hex;
    }

-- a number that is not too large to be one
abbrev pub number : Option ℕ → Option ℕ
number None = None
number (Some n) = only_if (ltb n many) (Some n)

abbrev pub number_by : Option ℕ → Option ℕ → Option ℕ
number_by (Some n) decimal = number (Some n)
number_by None decimal = number decimal

-- the number that a whole word is, if it is one
unfoldable pub number_of : Digits → Option ℕ
number_of n = number_by n.closed (only_if n.any n.decimal)

-- ---- a piece of BYTES: an even number of hex digits, two to a byte, or COUNTxHH

-- the byte of two digits
abbrev pub joined : ℕ → ℕ → ℕ
joined high low = high % 16 * 16 + low % 16

-- digits that are a COUNT
abbrev pub times_of : Option ℕ → Option Piece
times_of None = None
times_of (Some n) = Some (piece.TimesHigh n)

-- `x`, 120, behind them
unfoldable pub after_count : Digits → ℕ → Option Piece
after_count n c = times_of (only_if (eqb c 120 && n.any) n.decimal)

-- a further character that is no digit; the digits before it
abbrev pub with_other : Piece → Digits → ℕ → Option Piece
with_other (piece.High stored) n c = after_count n c
with_other (piece.Low stored high) n c = after_count n c
with_other (piece.TimesHigh times) n c = None
with_other (piece.TimesLow times high) n c = None
with_other (piece.Times times byte) n c = None

-- a further digit
abbrev pub with_digit : Piece → ℕ → Option Piece
with_digit (piece.High stored) d = Some (piece.Low stored d)
with_digit (piece.Low stored high) d = Some (piece.High (counted stored 1))
with_digit (piece.TimesHigh times) d = Some (piece.TimesLow times d)
with_digit (piece.TimesLow times high) d = Some (piece.Times times (joined high d))
with_digit (piece.Times times byte) d = None

-- what is no piece stays none
unfoldable pub more_piece : Option Piece → Digits → ℕ → Option Piece
more_piece None n c = None
more_piece (Some p) n c = cond (ltb (digit c) 16) (with_digit p (digit c)) (with_other p n c)

-- the second digit of a byte stores it at its place
abbrev pub store_digit : Piece → ℕ → ℕ → List ℕ → List ℕ
store_digit (piece.High stored) at d bytes = bytes
store_digit (piece.Low stored high) at d bytes = set bytes (at + stored) (joined high d)
store_digit (piece.TimesHigh times) at d bytes = bytes
store_digit (piece.TimesLow times high) at d bytes = bytes
store_digit (piece.Times times byte) at d bytes = bytes

-- what a further character stores of a piece that begins at a place, if it is one
unfoldable pub store : Option Piece → ℕ → ℕ → List ℕ → List ℕ
store None at c bytes = bytes
store (Some p) at c bytes = cond (ltb (digit c) 16) (store_digit p at (digit c) bytes) bytes

-- ---- a word

abbrev pub word_at : ℕ → Word
word_at column = record { start = column; letters = 0; digits = no_digits; piece = Some (piece.High 0) }

unfoldable pub more_word : Word → ℕ → Word
more_word w c =
    record {
      start = w.start;
      letters = more_letters w.letters c;
      digits = more_digits w.digits c;
      piece = more_piece w.piece w.digits c;
    }
