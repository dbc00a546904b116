-- What a run prints in all, and how the program writes it out: docs/replay.md. Assumes nothing.
use Rattle.std.specs.Prelude.{cond, List, [], ◌∷◌, ◌++◌, ℕ, ◌+◌, ◌≤◌, eqb, length, take}
use Rattle.std.specs.Option.{option_map_or}
use Rattle.lines.specs.declared.Reader.{Reader}
use Rattle.lines.specs.Reader as lines
use Rattle.faults.specs.Faults.{fault_text}
use Rattle.scene.specs.Scene.{play_of, scene_of}
use Rattle.printing.specs.Line.{line_text}
use Rattle.session.specs.Run.{Session, State, state_of, emptied, fed, ran}

-- ---- what is printed, where there is room for it

-- a line that has been read to its end prints its text, or its fault
unfoldable pub judged_text : Session → Reader → List ℕ → List ℕ → List ℕ → List ℕ → List ℕ
judged_text s r m h og by =
    option_map_or (fault_text s.line) r.fault (line_text r.line.verb r.line (take r.line.filled by) (scene_of (play_of s.board 0) m h og []))

abbrev pub end_text_by : State → lines.Read → List ℕ
end_text_by st e = judged_text st.session e.reader st.memory st.holding st.outgoing e.bytes

-- a character prints something only where it ends a line
unfoldable pub char_text : State → ℕ → List ℕ
char_text st c = cond st.session.stopped [] (cond (eqb c 10) (end_text_by st (lines.end st.session.reader st.bytes)) [])

-- a stretch of input prints what its characters do
unfoldable pub text_of : State → List ℕ → List ℕ
text_of st [] = []
text_of st (c ∷ cs) = char_text st c ++ text_of (fed st c) cs

-- ---- what the program writes out, stretch by stretch

-- the next text goes to the beginning; what stands in the slice stays there
abbrev pub emptied_in : State → State
emptied_in st = state_of (emptied st.session) st.memory st.holding st.outgoing st.bytes st.out

-- what was put since is written out
abbrev pub written : State → List ℕ
written st = take st.session.at st.out

-- each stretch is run, and then what it printed is written out
unfoldable pub in_stretches : State → List (List ℕ) → List ℕ
in_stretches st [] = []
in_stretches st (xs ∷ xss) = written (ran (emptied_in st) xs) ++ in_stretches (ran (emptied_in st) xs) xss

-- the input of which these are the stretches
unfoldable pub joined : List (List ℕ) → List ℕ
joined [] = []
joined (xs ∷ xss) = xs ++ joined xss

-- the slice has room for what any one stretch prints
abbrev pub Room : State → List (List ℕ) → Type 0
Room st [] = Unit {0}
Room st (xs ∷ xss) = (length (text_of st xs) ≤ length st.out) × Room (ran (emptied_in st) xs) xss

-- a state apart from what was printed
abbrev pub quietly : State → State
quietly st = state_of (emptied st.session) st.memory st.holding st.outgoing st.bytes []

-- ---- lines

-- how many lines end in a stretch
unfoldable pub newlines : List ℕ → ℕ
newlines [] = 0
newlines (c ∷ cs) = cond (eqb c 10) 1 0 + newlines cs

-- at most one line ends in a stretch: so the program cuts its input
abbrev pub Cut : List (List ℕ) → Type 0
Cut [] = Unit {0}
Cut (xs ∷ xss) = (newlines xs ≤ 1) × Cut xss
