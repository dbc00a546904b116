-- A word that has ended is taken into its line: docs/replay.md, "Lines" and "Bad input". Assumes nothing.
use Rattle.std.specs.Prelude.{◌≡◌, cond, List, ℕ, ◌+◌, ◌/◌, ◌%◌, eqb, ltb, set, replicate, Option, Some, None, Result, Ok, Err}
use Rattle.std.proofs.lemmas.List.Edits.{sets}
use Rattle.wording.specs.Chars.{counted}
use Rattle.wording.specs.Names.{verb_of, area_of, size_of}
use Rattle.wording.specs.Spelling.{number_of, many}
use Rattle.wording.specs.Lines.{fault_at}
use Rattle.wording.specs.declared.Area.{Area}
use Rattle.wording.specs.declared.Line.{Line}
use Rattle.wording.specs.declared.Fault.{Fault}
use Rattle.wording.specs.declared.Piece.{Piece}
use Rattle.wording.specs.declared.Piece.TheVariants as piece
use Rattle.wording.specs.declared.Verb.{Verb}
use Rattle.wording.specs.declared.Want.{Want}
use Rattle.wording.specs.declared.Want.TheVariants as want
use Rattle.wording.specs.declared.Word.{Word}
use Rattle.wording.specs.declared.Wrong.{Wrong}
use Rattle.wording.specs.declared.Wrong.TheVariants as wrong

-- ---- a line with one thing changed

abbrev pub with_verb : Line → Verb → Line
with_verb l v =
    record { verb = Some v; taken = l.taken; area = l.area; first = l.first; second = l.second; filled = l.filled; placed = l.placed }

abbrev pub with_count : Line → ℕ → Line
with_count l n = record { verb = l.verb; taken = n; area = l.area; first = l.first; second = l.second; filled = l.filled; placed = l.placed }

abbrev pub with_area : Line → Area → Line
with_area l a = record { verb = l.verb; taken = l.taken; area = a; first = l.first; second = l.second; filled = l.filled; placed = l.placed }

abbrev pub with_first : Line → ℕ → Line
with_first l n = record { verb = l.verb; taken = l.taken; area = l.area; first = n; second = l.second; filled = l.filled; placed = l.placed }

abbrev pub with_second : Line → ℕ → Line
with_second l n = record { verb = l.verb; taken = l.taken; area = l.area; first = l.first; second = n; filled = l.filled; placed = l.placed }

abbrev pub with_place : Line → ℕ → ℕ → Line
with_place l n column =
    record { verb = l.verb; taken = l.taken; area = l.area; first = n; second = l.second; filled = l.filled; placed = column }

abbrev pub with_filled : Line → ℕ → Line
with_filled l n = record { verb = l.verb; taken = l.taken; area = l.area; first = l.first; second = l.second; filled = n; placed = l.placed }

-- ---- what a word makes of its line

-- the line as it makes it, or what is wrong
abbrev pub Taken : Type 0
Taken = Result Line Fault

-- one word more
abbrev pub advanced : Line → Taken
advanced line = Ok (with_count line (counted line.taken 1))

-- one word more, which brings n bytes
abbrev pub brought : Line → ℕ → Taken
brought line n = advanced (with_filled line (counted line.filled n))

abbrev pub refused : Wrong → ℕ → Taken
refused w column = Err (fault_at w column)

-- the first word's number, or a later one's
unfoldable pub with_number : Line → ℕ → Line
with_number line n = cond (eqb line.taken 0) (with_first line n) (with_second line n)

-- ---- by what is wanted; each is refused at the column of its first character

unfoldable pub take_verb : Option Verb → Line → ℕ → Taken
take_verb (Some v) line start = Ok (with_verb line v)
take_verb None line start = refused wrong.First start

-- a number below a bound
unfoldable pub take_number : Option ℕ → Line → ℕ → ℕ → Wrong → Taken
take_number (Some n) line start bound beyond = cond (ltb n bound) (advanced (with_number line n)) (refused beyond start)
take_number None line start bound beyond = refused wrong.Number start

unfoldable pub take_area : Option Area → Line → ℕ → Taken
take_area (Some a) line start = advanced (with_area line a)
take_area None line start = refused wrong.Area start

-- a place below its area's size
unfoldable pub take_place : Option ℕ → Line → ℕ → ℕ → Taken
take_place (Some n) line start size = cond (ltb n size) (advanced (with_place line n start)) (refused wrong.Place start)
take_place None line start size = refused wrong.Number start

-- what is taken, and the bytes that the line has brought
pub record Took : Type 0 where
  pub taken : Taken
  pub bytes : List ℕ

abbrev pub took : Taken → List ℕ → Took
took t bytes = record { taken = t; bytes = bytes }

-- digits have stored their bytes already; COUNTxHH is the byte HH so often
unfoldable pub take_bytes : Option Piece → Line → ℕ → List ℕ → Took
take_bytes (Some (piece.High stored)) line start bytes = took (brought line stored) bytes
take_bytes (Some (piece.Low stored high)) line start bytes = took (refused wrong.Bytes start) bytes
take_bytes (Some (piece.TimesHigh times)) line start bytes = took (refused wrong.Bytes start) bytes
take_bytes (Some (piece.TimesLow times high)) line start bytes = took (refused wrong.Bytes start) bytes
take_bytes (Some (piece.Times times byte)) line start bytes = took (brought line times) (sets bytes line.filled (replicate times byte))
take_bytes None line start bytes = took (refused wrong.Bytes start) bytes

-- a word of 16 bits, low byte first
unfoldable pub put_value : ℕ → ℕ → List ℕ → List ℕ
put_value i n bytes = set (set bytes i (n % 256)) (i + 1) (n / 256 % 256)

unfoldable pub take_value : Option ℕ → Line → ℕ → List ℕ → Took
take_value (Some n) line start bytes =
    cond (ltb n 65536) (took (brought line 2) (put_value line.filled n bytes)) (took (refused wrong.Short start) bytes)
take_value None line start bytes = took (refused wrong.Number start) bytes

-- a word is taken by what is wanted
unfoldable pub take_word : Want → Line → Word → List ℕ → Took
take_word want.First line w bytes = took (take_verb (verb_of w.letters) line w.start) bytes
take_word want.Size line w bytes = took (take_number (number_of w.digits) line w.start 65537 wrong.Size) bytes
take_word want.Short line w bytes = took (take_number (number_of w.digits) line w.start 65536 wrong.Short) bytes
take_word want.Number line w bytes = took (take_number (number_of w.digits) line w.start many wrong.Number) bytes
take_word want.Area line w bytes = took (take_area (area_of w.letters) line w.start) bytes
take_word want.Place line w bytes = took (take_place (number_of w.digits) line w.start (size_of line.area)) bytes
take_word want.Bytes line w bytes = take_bytes w.piece line w.start bytes
take_word want.Value line w bytes = take_value (number_of w.digits) line w.start bytes
take_word want.Text line w bytes = took (refused wrong.End w.start) bytes
take_word want.End line w bytes = took (refused wrong.End w.start) bytes

-- what the code does
pub record Takes (said : Took) (r : Taken) (after : List ℕ) : Type 0 where
  pub taken : r ≡ said.taken
  pub bytes : after ≡ said.bytes
