-- A line prints its text and nothing else, wherever that goes; and what it does otherwise does not depend on what was printed.
-- No contract cites this file. Assumes nothing.
use mathlib.Core.Path.{◌≡◌, refl, sym, ap, ◌∙◌}
use mathlib.Core.List.{List, ◌++◌}
use Prim.Native.Nat.{ℕ, zero, suc, ◌%◌}
use Rattle.std.specs.Prelude.{Option, Some, None}
use Rattle.board.specs.Board.{Call, reset, attention, turn}
use Rattle.wording.specs.declared.Line.{Line}
use Rattle.wording.specs.declared.Verb.{Verb}
use Rattle.wording.specs.declared.Verb.TheVariants as verb
use Rattle.texts.specs.Texts.{Puts}
use Rattle.texts.proofs.Laws.{puts_none, puts_cat}
use Rattle.scene.specs.Scene.{Scene, called, turns_of, turn_count, obeyed}
use Rattle.printing.specs.Line.{call_text, turns_text, line_text, quiet}

-- ---- what is printed

pub called_puts : (c : Call) (s : Scene) → Puts (call_text c s) s.play.at s.out (called c s).play.at (called c s).out
unfolding called call_text
called_puts c s = record { next = refl; bytes = refl }

pub turns_puts : (n report : ℕ) (s : Scene) → Puts (turns_text n report s) s.play.at s.out (turns_of n report s).play.at (turns_of n report s).out
unfolding turns_of turns_text
turns_puts zero report s = puts_none _ _
turns_puts (suc n) report s = puts_cat (turns_puts n report s) (called_puts (turn report) (turns_of n report s))

-- a line prints its text
pub obeyed_puts : (v : Option Verb) (l : Line) (own : List ℕ) (s : Scene)
    → Puts (line_text v l own s) s.play.at s.out (obeyed v l own s).play.at (obeyed v l own s).out
unfolding obeyed line_text
obeyed_puts None l own s = puts_none _ _
obeyed_puts (Some verb.Size) l own s = puts_none _ _
obeyed_puts (Some verb.Reset) l own s = called_puts reset s
obeyed_puts (Some verb.Attention) l own s = called_puts attention s
obeyed_puts (Some verb.Arrival) l own s = called_puts _ s
obeyed_puts (Some verb.Turn) l own s = turns_puts (turn_count l) (l.second % 65536) s
obeyed_puts (Some verb.Run) l own s = called_puts _ s
obeyed_puts (Some verb.Bytes) l own s = puts_none _ _
obeyed_puts (Some verb.Words) l own s = puts_none _ _
obeyed_puts (Some verb.Show) l own s = record { next = refl; bytes = refl }
obeyed_puts (Some verb.Look) l own s = record { next = refl; bytes = refl }
obeyed_puts (Some verb.Interrupt) l own s = record { next = refl; bytes = refl }
obeyed_puts (Some verb.Record) l own s = record { next = refl; bytes = refl }
obeyed_puts (Some verb.Say) l own s = record { next = refl; bytes = refl }

-- ---- what was printed before does not matter

quiet_called : (c : Call) (s : Scene) → quiet (called c (quiet s)) ≡ quiet (called c s)
unfolding called
quiet_called c s = refl

quiet_turns : (n report : ℕ) (s : Scene) → quiet (turns_of n report (quiet s)) ≡ quiet (turns_of n report s)
unfolding turns_of
quiet_turns zero report s = refl
quiet_turns (suc n) report s =
    sym (quiet_called (turn report) (turns_of n report (quiet s)))
    ∙ ap (λ (x : Scene). quiet (called (turn report) x)) (quiet_turns n report s)
    ∙ quiet_called (turn report) (turns_of n report s)

-- to what a line does otherwise
pub quiet_obeyed : (v : Option Verb) (l : Line) (own : List ℕ) (s : Scene) → quiet (obeyed v l own (quiet s)) ≡ quiet (obeyed v l own s)
unfolding obeyed
quiet_obeyed None l own s = refl
quiet_obeyed (Some verb.Size) l own s = refl
quiet_obeyed (Some verb.Reset) l own s = quiet_called reset s
quiet_obeyed (Some verb.Attention) l own s = quiet_called attention s
quiet_obeyed (Some verb.Arrival) l own s = quiet_called _ s
quiet_obeyed (Some verb.Turn) l own s = quiet_turns (turn_count l) (l.second % 65536) s
quiet_obeyed (Some verb.Run) l own s = quiet_called _ s
quiet_obeyed (Some verb.Bytes) l own s = refl
quiet_obeyed (Some verb.Words) l own s = refl
quiet_obeyed (Some verb.Show) l own s = refl
quiet_obeyed (Some verb.Look) l own s = refl
quiet_obeyed (Some verb.Interrupt) l own s = refl
quiet_obeyed (Some verb.Record) l own s = refl
quiet_obeyed (Some verb.Say) l own s = refl

call_quiet : (c : Call) (s : Scene) → call_text c (quiet s) ≡ call_text c s
unfolding call_text
call_quiet c s = refl

turns_quiet : (n report : ℕ) (s : Scene) → turns_text n report (quiet s) ≡ turns_text n report s
unfolding turns_text
turns_quiet zero report s = refl
turns_quiet (suc n) report s =
    ap (λ (xs : List ℕ). xs ++ call_text (turn report) (turns_of n report (quiet s))) (turns_quiet n report s)
    ∙ ap (λ (xs : List ℕ). turns_text n report s ++ xs)
    (sym (call_quiet (turn report) (turns_of n report (quiet s))) ∙ ap (call_text (turn report)) (quiet_turns n report s)
    ∙ call_quiet (turn report) (turns_of n report s))

-- to what it prints
pub text_quiet : (v : Option Verb) (l : Line) (own : List ℕ) (s : Scene) → line_text v l own (quiet s) ≡ line_text v l own s
unfolding line_text
text_quiet None l own s = refl
text_quiet (Some verb.Size) l own s = refl
text_quiet (Some verb.Reset) l own s = call_quiet reset s
text_quiet (Some verb.Attention) l own s = call_quiet attention s
text_quiet (Some verb.Arrival) l own s = call_quiet _ s
text_quiet (Some verb.Turn) l own s = turns_quiet (turn_count l) (l.second % 65536) s
text_quiet (Some verb.Run) l own s = call_quiet _ s
text_quiet (Some verb.Bytes) l own s = refl
text_quiet (Some verb.Words) l own s = refl
text_quiet (Some verb.Show) l own s = refl
text_quiet (Some verb.Look) l own s = refl
text_quiet (Some verb.Interrupt) l own s = refl
text_quiet (Some verb.Record) l own s = refl
text_quiet (Some verb.Say) l own s = refl
