-- What a line does and prints: docs/replay.md, "Lines" and "Answers". Assumes nothing.
use Rattle.std.specs.Prelude.{◌≡◌, cond, List, [], ◌∷◌, ◌++◌, ℕ, zero, suc, ◌+◌, ◌-◌, ◌%◌, min, eqb, length, Option, Some, None}
use Rattle.std.proofs.lemmas.List.Edits.{sets}
use Rattle.device.specs.Limits.{record_size}
use Rattle.board.specs.declared.Board.{Board}
use Rattle.board.specs.declared.Areas.{Areas as Lent}
use Rattle.board.specs.declared.Asked.{Asked}
use Rattle.board.specs.declared.Asked.TheVariants as asked
use Rattle.board.specs.Front as front
use Rattle.board.specs.Board.{Call, reset, attention, arrive, turn, run, call_of, Left, on_board, resized, is_high}
use Rattle.wording.specs.declared.Area.{Area}
use Rattle.wording.specs.declared.Area.TheVariants as area
use Rattle.wording.specs.declared.Line.{Line}
use Rattle.wording.specs.declared.Verb.{Verb}
use Rattle.wording.specs.declared.Verb.TheVariants as verb
use Rattle.texts.specs.Texts.{answer_text, interrupt_text, show_text, look_text}
use Rattle.texts.specs.declared.Item.{Item}
use Rattle.texts.specs.declared.Item.TheVariants as item
use Rattle.scene.specs.declared.Scene.{Scene as Held}

-- ---- the scene

-- the board, and where the next text goes
pub record Play : Type 0 where
  pub board : Board
  pub at : ℕ

abbrev pub play_of : Board → ℕ → Play
play_of b at = record { board = b; at = at }

-- the board and where the next text goes; memory, both areas, and the slice that texts are put into
pub record Scene : Type 0 where
  pub play : Play
  pub memory : List ℕ
  pub holding : List ℕ
  pub outgoing : List ℕ
  pub out : List ℕ

abbrev pub scene_of : Play → List ℕ → List ℕ → List ℕ → List ℕ → Scene
scene_of p m h og out = record { play = p; memory = m; holding = h; outgoing = og; out = out }

-- ---- the scene as the code holds it

abbrev pub scene_in : Held → Scene
scene_in c =
    scene_of (play_of c.board c.page.at) c.areas.memory.now c.areas.holding.now c.areas.outgoing.now c.page.out.now

-- each slice is the borrow that it was
abbrev pub Stays : Held → Held → Type 0
Stays c d = front.Stays c.areas d.areas × (d.page.out.ghost_name ≡ c.page.out.ghost_name)

-- what the code does
abbrev pub Plays : (Scene → Scene) → Held → Held → Type 0
Plays says c d = Stays c d × (scene_in d ≡ says (scene_in c))

-- ---- printing

-- where the next text goes, behind a text that is put there; what would pass the end goes nowhere
abbrev pub behind : List ℕ → ℕ → List ℕ → ℕ
behind text at out = at + min (length text) (length out - at)

-- a text is printed
abbrev pub printed : List ℕ → Scene → Scene
printed text s =
    scene_of (play_of s.play.board (behind text s.play.at s.out)) s.memory s.holding s.outgoing
    (sets s.out s.play.at text)

-- ---- calls

-- what a call leaves is taken over, and its answer printed
abbrev pub tell_by : ℕ → List ℕ → Left → Scene
tell_by at out l = printed (answer_text l.said.answer) (scene_of (play_of l.said.board at) l.memory l.holding l.outgoing out)

unfoldable pub called : Call → Scene → Scene
called c s = tell_by s.play.at s.out (on_board c s.play.board s.memory s.holding s.outgoing)

-- "so many turns, each with this report": an answer each
unfoldable pub turns_of : ℕ → ℕ → Scene → Scene
turns_of zero report s = s
turns_of (suc n) report s = called (turn report) (turns_of n report s)

-- "`turn`: a turn with the line report 0"; a count is below 65,536, and a run says its budget
abbrev pub turn_count : Line → ℕ
turn_count l = cond (eqb l.taken 0) 1 (l.first % 65536)

-- ---- host writes

-- the three areas
pub record Areas : Type 0 where
  pub memory : List ℕ
  pub holding : List ℕ
  pub outgoing : List ℕ

abbrev pub areas_of : List ℕ → List ℕ → List ℕ → Areas
areas_of m h og = record { memory = m; holding = h; outgoing = og }

-- the bytes go to the area from its place on
unfoldable pub areas_by : Area → List ℕ → List ℕ → List ℕ → ℕ → List ℕ → Areas
areas_by area.Memory m h og place own = areas_of (sets m place own) h og
areas_by area.Holding m h og place own = areas_of m (sets h place own) og
areas_by area.Outgoing m h og place own = areas_of m h (sets og place own)

-- the areas that the code holds, and what it writes to them
abbrev pub areas_in : Lent → Areas
areas_in p = areas_of p.memory.now p.holding.now p.outgoing.now

abbrev pub Writes : Area → ℕ → List ℕ → Lent → Lent → Type 0
Writes a place own p q =
    front.Stays p q × (areas_in q ≡ areas_by a p.memory.now p.holding.now p.outgoing.now place own)

abbrev pub with_areas : Scene → Areas → Scene
with_areas s a = scene_of s.play a.memory a.holding a.outgoing s.out

abbrev pub wrote : Line → List ℕ → Scene → Scene
wrote l own s = with_areas s (areas_by l.area s.memory s.holding s.outgoing l.first own)

-- ---- what is shown

unfoldable pub shown : Area → List ℕ → List ℕ → List ℕ → ℕ → ℕ → List ℕ
shown area.Memory m h og place count = show_text m place count
shown area.Holding m h og place count = show_text h place count
shown area.Outgoing m h og place count = show_text og place count

unfoldable pub looked : Area → List ℕ → List ℕ → List ℕ → ℕ → ℕ → List ℕ
looked area.Memory m h og place count = look_text m place count
looked area.Holding m h og place count = look_text h place count
looked area.Outgoing m h og place count = look_text og place count

-- the record's 256 bytes
unfoldable pub record_text : Board → List ℕ
record_text b = show_text b.kept.bytes 0 record_size

-- the text and the line's end
unfoldable pub say_text : List ℕ → List ℕ
say_text own = own ++ (10 ∷ [])

-- ---- a line

-- a NUMBER is below this
abbrev pub many : ℕ
many = 4294967296

-- a line with no verb does nothing; own: the bytes or the text that the line brought
unfoldable pub obeyed : Option Verb → Line → List ℕ → Scene → Scene
obeyed None l own s = s
obeyed (Some verb.Size) l own s = scene_of (play_of (resized s.play.board l.first) s.play.at) s.memory s.holding s.outgoing s.out
obeyed (Some verb.Reset) l own s = called reset s
obeyed (Some verb.Attention) l own s = called attention s
obeyed (Some verb.Arrival) l own s = called (arrive own (l.first % many)) s
obeyed (Some verb.Turn) l own s = turns_of (turn_count l) (l.second % 65536) s
obeyed (Some verb.Run) l own s = called (run (l.second % 65536) (turn_count l)) s
obeyed (Some verb.Bytes) l own s = wrote l own s
obeyed (Some verb.Words) l own s = wrote l own s
obeyed (Some verb.Show) l own s = printed (shown l.area s.memory s.holding s.outgoing (l.first % many) (l.second % many)) s
obeyed (Some verb.Look) l own s = printed (looked l.area s.memory s.holding s.outgoing (l.first % many) (l.second % many)) s
obeyed (Some verb.Interrupt) l own s = printed (interrupt_text (is_high s.play.board)) s
obeyed (Some verb.Record) l own s = printed (record_text s.play.board) s
obeyed (Some verb.Say) l own s = printed (say_text own) s

-- ---- how the code parts the verbs: calls, and what is the host's alone

-- how often a line makes its call
abbrev pub times_by : Verb → Line → ℕ
times_by verb.Turn l = turn_count l
times_by _ l = 1

-- the call that it makes
abbrev pub asked_by : Verb → Line → Option Asked
asked_by verb.Reset l = Some asked.Reset
asked_by verb.Attention l = Some asked.Attention
asked_by verb.Arrival l = Some (asked.Arrival (l.first % many))
asked_by verb.Turn l = Some (asked.Turn (l.second % 65536))
asked_by verb.Run l = Some (asked.Run (l.second % 65536) (turn_count l))
asked_by _ l = None

-- a call so often, an answer each
unfoldable pub calls_of : ℕ → Call → Scene → Scene
calls_of zero c s = s
calls_of (suc n) c s = called c (calls_of n c s)

-- a stretch of the area that a line names, of bytes or of words
abbrev pub named : Area → Areas → List ℕ
named area.Memory a = a.memory
named area.Holding a = a.holding
named area.Outgoing a = a.outgoing

abbrev pub stretch_by : Item → Area → List ℕ → List ℕ → List ℕ → ℕ → ℕ → List ℕ
stretch_by item.Byte = shown
stretch_by item.Word = looked

abbrev pub showed : Item → Line → Scene → Scene
showed u l s = printed (stretch_by u l.area s.memory s.holding s.outgoing (l.first % many) (l.second % many)) s

-- a line that makes no call
unfoldable pub hosted : Verb → Line → List ℕ → Scene → Scene
hosted verb.Size l own s = scene_of (play_of (resized s.play.board l.first) s.play.at) s.memory s.holding s.outgoing s.out
hosted verb.Bytes l own s = wrote l own s
hosted verb.Words l own s = wrote l own s
hosted verb.Show l own s = showed item.Byte l s
hosted verb.Look l own s = showed item.Word l s
hosted verb.Interrupt l own s = printed (interrupt_text (is_high s.play.board)) s
hosted verb.Record l own s = printed (record_text s.play.board) s
hosted verb.Say l own s = printed (say_text own) s
hosted verb.Reset l own s = s
hosted verb.Attention l own s = s
hosted verb.Arrival l own s = s
hosted verb.Turn l own s = s
hosted verb.Run l own s = s

abbrev pub done_by : Option Asked → Verb → Line → List ℕ → Scene → Scene
done_by (Some a) v l own s = calls_of (times_by v l) (call_of a own) s
done_by None v l own s = hosted v l own s
