-- A run: one definition of what a character does, and its fold over the input. Assumes nothing.
use Rattle.std.specs.Prelude.{ℕ, ◌+◌, ◌%◌, ◌^◌, Bool, true, false, cond, List, [], ◌∷◌, take, ◌==◌}
use Rattle.std.specs.Option.{option_map_or}
use Rattle.std.proofs.lemmas.List.Edits.{sets}
use Rattle.board.specs.Board as board
use Rattle.wording.specs.declared.Fault.{Fault}
use Rattle.wording.specs.declared.Line.{Line}
use Rattle.lines.specs.declared.Reader.{Reader}
use Rattle.lines.specs.Reader as lines
use Rattle.faults.specs.Faults.{fault_text}
use Rattle.board.specs.declared.Board.{Board}
use Rattle.scene.specs.Scene.{Scene, Play, play_of, scene_of, behind, obeyed}

-- ---- the state

-- the board; where the next text goes; the number of the line that is being read; its reader; whether it has stopped
pub record Session : Type 0 where
  pub board : Board
  pub at : ℕ
  pub line : ℕ
  pub reader : Reader
  pub stopped : Bool

-- the session, the areas, the bytes of the line that is being read, and the slice that texts are put into
pub record State : Type 0 where
  pub session : Session
  pub memory : List ℕ
  pub holding : List ℕ
  pub outgoing : List ℕ
  pub bytes : List ℕ
  pub out : List ℕ

abbrev pub state_of : Session → List ℕ → List ℕ → List ℕ → List ℕ → List ℕ → State
state_of s m h og by out = record { session = s; memory = m; holding = h; outgoing = og; bytes = by; out = out }

-- line 1, nothing read, nothing printed
abbrev pub start : Session
start = record { board = board.start; at = 0; line = 1; reader = lines.start; stopped = false }

abbrev pub emptied : Session → Session
emptied s = record { board = s.board; at = 0; line = s.line; reader = s.reader; stopped = s.stopped }

abbrev pub with_reader : Session → Reader → Session
with_reader s r = record { board = s.board; at = s.at; line = s.line; reader = r; stopped = s.stopped }

-- ---- a wrong line

abbrev pub stopped_at : Session → Reader → ℕ → Session
stopped_at s r at = record { board = s.board; at = at; line = s.line; reader = r; stopped = true }

-- it stops where no line was wrong
abbrev pub halted : Session → Session
halted s = stopped_at s s.reader s.at

abbrev pub halted_in : State → State
halted_in st = state_of (halted st.session) st.memory st.holding st.outgoing st.bytes st.out

-- "One line says where and what was expected, and the program stops"
unfoldable pub stopped_by : Session → Reader → Fault → List ℕ → List ℕ → List ℕ → List ℕ → List ℕ → State
stopped_by s r f m h og by out =
    state_of (stopped_at s r (behind (fault_text s.line f) s.at out)) m h og by (sets out s.at (fault_text s.line f))

abbrev pub stopped_in : Fault → State → State
stopped_in f st = stopped_by st.session st.session.reader f st.memory st.holding st.outgoing st.bytes st.out

-- ---- a right line

-- the next line; its number is kept in 64 bits
abbrev pub next_line : Session → Play → Session
next_line s p =
    record { board = p.board; at = p.at; line = (s.line + 1) % 2 ^ 64; reader = lines.start; stopped = s.stopped }

abbrev pub behind_line : Session → List ℕ → Scene → State
behind_line s by c = state_of (next_line s c.play) c.memory c.holding c.outgoing by c.out

-- it is obeyed with the bytes that it brought
unfoldable pub line_obeyed : Session → Line → List ℕ → List ℕ → List ℕ → List ℕ → List ℕ → State
line_obeyed s l m h og by out = behind_line s by (obeyed l.verb l (take l.filled by) (scene_of (play_of s.board s.at) m h og out))

-- ---- characters

-- a line that has been read to its end: its fault, if it has one, or it is obeyed; "nothing of the bad line is done or printed"
unfoldable pub judged : Session → Reader → List ℕ → List ℕ → List ℕ → List ℕ → List ℕ → State
judged s r m h og by out = option_map_or (λ f. stopped_by s r f m h og by out) r.fault (line_obeyed s r.line m h og by out)

abbrev pub judged_in : State → State
judged_in st = judged st.session st.session.reader st.memory st.holding st.outgoing st.bytes st.out

abbrev pub ended_by : State → lines.Read → State
ended_by st e = judged st.session e.reader st.memory st.holding st.outgoing e.bytes st.out

unfoldable pub line_ended : State → State
line_ended st = ended_by st (lines.end st.session.reader st.bytes)

abbrev pub read_by : State → lines.Read → State
read_by st e = state_of (with_reader st.session e.reader) st.memory st.holding st.outgoing e.bytes st.out

-- a character: after bad input nothing more is done; 10 is a line's end
unfoldable pub fed : State → ℕ → State
fed st c =
    cond st.session.stopped st
    (cond (c == 10) (line_ended st)
    (read_by st (lines.read st.session.reader c st.bytes)))

-- a stretch of input
unfoldable pub ran : State → List ℕ → State
ran st [] = st
ran st (c ∷ cs) = ran (fed st c) cs
