-- The reader of lines: what a character, and a line's end, make of it and of the bytes. docs/replay.md, "Lines" and "Bad input". Assumes nothing.
use Rattle.std.specs.Prelude.{◌≡◌, Bool, cond, List, ℕ, eqb, set, is_none, Option, Some, None, Ok, Err}
use Rattle.wording.specs.Chars.{blank, hash, further, counted}
use Rattle.wording.specs.Spelling.{word_at, more_word, store}
use Rattle.wording.specs.Lines.{no_line, wanted, fault_at, judged}
use Rattle.wording.specs.Take.{Taken, Took, with_filled, take_word}
use Rattle.wording.specs.declared.Fault.{Fault}
use Rattle.wording.specs.declared.Line.{Line}
use Rattle.lines.specs.declared.Part.{Part}
use Rattle.lines.specs.declared.Part.TheVariants as part
use Rattle.lines.specs.declared.Reader.{Reader}
use Rattle.wording.specs.declared.Want.{Want}
use Rattle.wording.specs.declared.Want.TheVariants as want
use Rattle.wording.specs.declared.Word.{Word}
use Rattle.wording.specs.declared.Wrong.TheVariants as wrong

-- what is left: the reader and the bytes
pub record Read : Type 0 where
  pub reader : Reader
  pub bytes : List ℕ

abbrev pub left : Reader → List ℕ → Read
left r bytes = record { reader = r; bytes = bytes }

-- before a line's first character
unfoldable pub start : Reader
start = record { part = part.Between; column = 1; behind = 1; line = no_line; fault = None }

-- nothing is wrong so far
unfoldable pub is_right : Reader → Bool
is_right r = is_none r.fault

-- ---- a reader with one thing changed

-- behind a character
unfoldable pub past : Reader → Part → Reader
past r p = record { part = p; column = further r.column; behind = r.behind; line = r.line; fault = r.fault }

unfoldable pub with_line : Reader → Line → Reader
with_line r l = record { part = r.part; column = r.column; behind = r.behind; line = l; fault = r.fault }

unfoldable pub with_fault : Reader → Option Fault → Reader
with_fault r f = record { part = r.part; column = r.column; behind = r.behind; line = r.line; fault = f }

-- behind a word, with what it made of its line, or with what is wrong
unfoldable pub with_taken : Reader → Taken → Reader
with_taken r (Ok l) = record { part = r.part; column = r.column; behind = r.column; line = l; fault = None }
with_taken r (Err f) = record { part = r.part; column = r.column; behind = r.column; line = r.line; fault = Some f }

-- ---- a character

-- the word that was read is taken
abbrev pub took_by : Reader → Took → Read
took_by r t = left (with_taken r t.taken) t.bytes

unfoldable pub end_word : Reader → Word → List ℕ → Read
end_word r w bytes = took_by r (take_word (wanted r.line.verb r.line.taken) r.line w bytes)

-- a word begins
unfoldable pub begin_word : Reader → ℕ → Reader
begin_word r c = past r (part.Word (more_word (word_at r.column) c))

-- a character of a line's text
unfoldable pub more_text : Reader → ℕ → List ℕ → Read
more_text r c bytes =
    left (past (with_line r (with_filled r.line (counted r.line.filled 1))) part.Text) (set bytes r.line.filled c)

-- a character that begins something: a text, or a word, if one may stand
unfoldable pub first_of : Want → Reader → ℕ → List ℕ → Read
first_of want.First r c bytes = left (begin_word r c) bytes
first_of want.Size r c bytes = left (begin_word r c) bytes
first_of want.Short r c bytes = left (begin_word r c) bytes
first_of want.Number r c bytes = left (begin_word r c) bytes
first_of want.Area r c bytes = left (begin_word r c) bytes
first_of want.Place r c bytes = left (begin_word r c) bytes
first_of want.Bytes r c bytes = left (begin_word r c) bytes
first_of want.Value r c bytes = left (begin_word r c) bytes
first_of want.Text r c bytes = more_text r c bytes
first_of want.End r c bytes = left (with_fault r (Some (fault_at wrong.End r.column))) bytes

-- a character outside of words
unfoldable pub between : Reader → ℕ → List ℕ → Read
between r c bytes =
    cond (blank c) (left (past r part.Between) bytes)
    (cond (eqb c hash) (left (past r part.Comment) bytes)
    (first_of (wanted r.line.verb r.line.taken) r c bytes))

-- a further character of a word
unfoldable pub further_of : Reader → Word → ℕ → List ℕ → Read
further_of r w c bytes = left (past r (part.Word (more_word w c))) (store w.piece r.line.filled c bytes)

-- a character that ends a word
abbrev pub past_all : Part → Read → Read
past_all p e = left (past e.reader p) e.bytes

unfoldable pub past_word : Reader → Word → Part → List ℕ → Read
past_word r w p bytes = past_all p (end_word r w bytes)

-- a character behind a word's first
unfoldable pub in_word : Reader → Word → ℕ → List ℕ → Read
in_word r w c bytes =
    cond (blank c) (past_word r w part.Between bytes)
    (cond (eqb c hash) (past_word r w part.Comment bytes)
    (further_of r w c bytes))

-- a character of a text, which runs up to the line's end or a `#`
unfoldable pub in_text : Reader → ℕ → List ℕ → Read
in_text r c bytes = cond (eqb c hash) (left (past r part.Comment) bytes) (more_text r c bytes)

unfoldable pub read_in : Part → Reader → ℕ → List ℕ → Read
read_in part.Between r c bytes = between r c bytes
read_in (part.Word w) r c bytes = in_word r w c bytes
read_in part.Text r c bytes = in_text r c bytes
read_in part.Comment r c bytes = left (past r part.Comment) bytes

-- a character that ends no line; the first thing that is wrong is told, so nothing more is read once something is
unfoldable pub read : Reader → ℕ → List ℕ → Read
read r c bytes = cond (is_right r) (read_in r.part r c bytes) (left r bytes)

-- ---- a line's end

-- a word that the line ends with is taken
unfoldable pub last_word : Part → Reader → List ℕ → Read
last_word part.Between r bytes = left r bytes
last_word (part.Word w) r bytes = end_word r w bytes
last_word part.Text r bytes = left r bytes
last_word part.Comment r bytes = left r bytes

-- the line is judged, if its words are right
unfoldable pub judge : Reader → Reader
judge r = cond (is_right r) (with_fault r (judged r.line r.behind)) r

abbrev pub judge_all : Read → Read
judge_all e = left (judge e.reader) e.bytes

unfoldable pub end : Reader → List ℕ → Read
end r bytes = cond (is_right r) (judge_all (last_word r.part r bytes)) (left r bytes)

-- what the code does
pub record Reads (said : Read) (r : Reader) (after : List ℕ) : Type 0 where
  pub reader : r ≡ said.reader
  pub bytes : after ≡ said.bytes
