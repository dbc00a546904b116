-- What a line prints, where there is room for it: docs/replay.md, "Lines" and "Answers". Assumes nothing.
use Rattle.std.specs.Prelude.{List, [], ◌++◌, ℕ, zero, suc, ◌*◌, ◌%◌, Option, Some, None}
use Rattle.board.specs.Board.{Call, reset, attention, arrive, turn, run, on_board, is_high}
use Rattle.wording.specs.declared.Line.{Line}
use Rattle.wording.specs.declared.Verb.{Verb}
use Rattle.wording.specs.declared.Verb.TheVariants as verb
use Rattle.texts.specs.Texts.{answer_text, longest_answer, interrupt_text}
use Rattle.scene.specs.Scene.{Scene, play_of, scene_of, turns_of, turn_count, shown, looked, record_text, say_text, many}

-- a call prints its answer
unfoldable pub call_text : Call → Scene → List ℕ
call_text c s = answer_text (on_board c s.play.board s.memory s.holding s.outgoing).said.answer

-- turns print an answer each
unfoldable pub turns_text : ℕ → ℕ → Scene → List ℕ
turns_text zero report s = []
turns_text (suc n) report s = turns_text n report s ++ call_text (turn report) (turns_of n report s)

-- most is printed by `turn 65535`: as many answers, of which none is longer than the longest
abbrev pub longest_line : ℕ
longest_line = 65535 * longest_answer

-- the room that the program has for it
abbrev pub program_room : ℕ
program_room = 65536 * longest_answer

-- a line with no verb prints nothing; own: the bytes or the text that the line brought
unfoldable pub line_text : Option Verb → Line → List ℕ → Scene → List ℕ
line_text None l own s = []
line_text (Some verb.Size) l own s = []
line_text (Some verb.Reset) l own s = call_text reset s
line_text (Some verb.Attention) l own s = call_text attention s
line_text (Some verb.Arrival) l own s = call_text (arrive own (l.first % many)) s
line_text (Some verb.Turn) l own s = turns_text (turn_count l) (l.second % 65536) s
line_text (Some verb.Run) l own s = call_text (run (l.second % 65536) (turn_count l)) s
line_text (Some verb.Bytes) l own s = []
line_text (Some verb.Words) l own s = []
line_text (Some verb.Show) l own s = shown l.area s.memory s.holding s.outgoing (l.first % many) (l.second % many)
line_text (Some verb.Look) l own s = looked l.area s.memory s.holding s.outgoing (l.first % many) (l.second % many)
line_text (Some verb.Interrupt) l own s = interrupt_text (is_high s.play.board)
line_text (Some verb.Record) l own s = record_text s.play.board
line_text (Some verb.Say) l own s = say_text own

-- a scene apart from what was printed
abbrev pub quiet : Scene → Scene
quiet s = scene_of (play_of s.play.board 0) s.memory s.holding s.outgoing []
