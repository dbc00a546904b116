-- Which stream has what of that which a run prints: docs/replay.md, "Bad input". Assumes nothing.
use Rattle.std.specs.Prelude.{cond, List, [], ◌∷◌, ◌++◌, ℕ, eqb, take}
use Rattle.std.specs.Option.{option_map_or}
use Rattle.lines.specs.declared.Reader.{Reader}
use Rattle.lines.specs.Reader as lines
use Rattle.faults.specs.Faults.{fault_text}
use Rattle.scene.specs.Scene.{play_of, scene_of}
use Rattle.printing.specs.Line.{line_text}
use Rattle.printing.specs.Run.{emptied_in, written}
use Rattle.session.specs.Run.{Session, State, fed, ran}

-- standard output and the error stream
pub data Stream : Type 0 where
  output : Stream
  errors : Stream

-- ---- what is printed on a stream, where there is room for it

-- a line that is right prints its text on standard output, one that is wrong its fault on the error stream
unfoldable pub judged_on : Stream → Session → Reader → List ℕ → List ℕ → List ℕ → List ℕ → List ℕ
judged_on output s r m h og by =
    option_map_or (λ f. []) r.fault (line_text r.line.verb r.line (take r.line.filled by) (scene_of (play_of s.board 0) m h og []))
judged_on errors s r m h og by = option_map_or (fault_text s.line) r.fault []

abbrev pub end_on_by : Stream → State → lines.Read → List ℕ
end_on_by v st e = judged_on v st.session e.reader st.memory st.holding st.outgoing e.bytes

-- a character prints something only where it ends a line
unfoldable pub char_on : Stream → State → ℕ → List ℕ
char_on v st c = cond st.session.stopped [] (cond (eqb c 10) (end_on_by v st (lines.end st.session.reader st.bytes)) [])

-- a stretch of input prints what its characters do
unfoldable pub text_on : Stream → State → List ℕ → List ℕ
text_on v st [] = []
text_on v st (c ∷ cs) = char_on v st c ++ text_on v (fed st c) cs

-- ---- what the program writes to a stream, stretch by stretch

-- where the session has stopped, what was put since is a fault
abbrev pub stream_of : Session → Stream
stream_of s = cond s.stopped errors output

-- what a stream has of a text that goes to one of them
abbrev pub seen_on : Stream → Stream → List ℕ → List ℕ
seen_on output output t = t
seen_on output errors t = []
seen_on errors output t = []
seen_on errors errors t = t

abbrev pub written_on : Stream → State → List ℕ
written_on v st = seen_on v (stream_of st.session) (written st)

-- each stretch is run, and then what it printed is written out, to the one or the other
unfoldable pub in_stretches_on : Stream → State → List (List ℕ) → List ℕ
in_stretches_on v st [] = []
in_stretches_on v st (xs ∷ xss) = written_on v (ran (emptied_in st) xs) ++ in_stretches_on v (ran (emptied_in st) xs) xss
