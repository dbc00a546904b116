-- The forms of lines, and what is wrong with one: docs/replay.md, "Lines" and "Bad input". Assumes nothing.
use Rattle.std.specs.Prelude.{Bool, true, cond, ℕ, ◌+◌, ◌*◌, min, eqb, ltb, leb, Option, Some, None}
use Rattle.wording.specs.Names.{size_of}
use Rattle.wording.specs.Spelling.{many}
use Rattle.wording.specs.declared.Area.TheVariants as area
use Rattle.wording.specs.declared.Fault.{Fault}
use Rattle.wording.specs.declared.Line.{Line}
use Rattle.wording.specs.declared.Verb.{Verb}
use Rattle.wording.specs.declared.Verb.TheVariants as verb
use Rattle.wording.specs.declared.Want.{Want}
use Rattle.wording.specs.declared.Want.TheVariants as want
use Rattle.wording.specs.declared.Wrong.{Wrong}
use Rattle.wording.specs.declared.Wrong.TheVariants as wrong

abbrev pub no_line : Line
no_line = record { verb = None; taken = 0; area = area.Memory; first = 0; second = 0; filled = 0; placed = 0 }

-- ---- what a line's words must be

-- by how many words stand behind the verb so far
abbrev pub want_by : ℕ → (first second third then : Want) → Want
want_by taken first second third then = cond (eqb taken 0) first (cond (eqb taken 1) second (cond (eqb taken 2) third then))

-- what the next word must be: the table of lines
abbrev pub wanted : Option Verb → ℕ → Want
wanted None taken = want.First
wanted (Some verb.Size) taken = want_by taken want.Size want.End want.End want.End
wanted (Some verb.Reset) taken = want.End
wanted (Some verb.Attention) taken = want.End
wanted (Some verb.Arrival) taken = want_by taken want.Number want.Bytes want.Bytes want.Bytes
wanted (Some verb.Turn) taken = want_by taken want.Short want.Short want.End want.End
wanted (Some verb.Run) taken = want_by taken want.Short want.Short want.End want.End
wanted (Some verb.Bytes) taken = want_by taken want.Area want.Place want.Bytes want.Bytes
wanted (Some verb.Words) taken = want_by taken want.Area want.Place want.Value want.Value
wanted (Some verb.Show) taken = want_by taken want.Area want.Place want.Number want.End
wanted (Some verb.Look) taken = want_by taken want.Area want.Place want.Number want.End
wanted (Some verb.Interrupt) taken = want.End
wanted (Some verb.Record) taken = want.End
wanted (Some verb.Say) taken = want.Text

-- how many words must stand behind the verb
abbrev pub least : Verb → ℕ
least verb.Size = 1
least verb.Reset = 0
least verb.Attention = 0
least verb.Arrival = 1
least verb.Turn = 0
least verb.Run = 1
least verb.Bytes = 2
least verb.Words = 2
least verb.Show = 3
least verb.Look = 3
least verb.Interrupt = 0
least verb.Record = 0
least verb.Say = 0

-- ---- what is wrong

abbrev pub fault_at : Wrong → ℕ → Fault
fault_at w column = record { wrong = w; column = column }

-- a word is missing: an area, or else a number
abbrev pub missing : Want → Wrong
missing want.First = wrong.Number
missing want.Size = wrong.Number
missing want.Short = wrong.Number
missing want.Number = wrong.Number
missing want.Area = wrong.Area
missing want.Place = wrong.Number
missing want.Bytes = wrong.Number
missing want.Value = wrong.Number
missing want.Text = wrong.Number
missing want.End = wrong.Number

-- PLACE and what follows may not pass the area's end
abbrev pub has_room : ℕ → ℕ → ℕ → Bool
has_room end place n = leb (place + n) end

-- what is written or shown lies in its area
abbrev pub fits : Verb → Line → ℕ → Bool
fits verb.Size line end = true
fits verb.Reset line end = true
fits verb.Attention line end = true
fits verb.Arrival line end = true
fits verb.Turn line end = true
fits verb.Run line end = true
fits verb.Bytes line end = has_room end line.first line.filled
fits verb.Words line end = has_room end line.first line.filled
fits verb.Show line end = has_room end line.first line.second
fits verb.Look line end = has_room end line.first (min line.second many * 2)
fits verb.Interrupt line end = true
fits verb.Record line end = true
fits verb.Say line end = true

-- a line that has ended: a missing word is told behind its last one, room at the place, and it is judged last; one with no verb is right
unfoldable pub judged_by : Option Verb → Line → ℕ → Option Fault
judged_by None line behind = None
judged_by (Some v) line behind =
    cond (ltb line.taken (least v)) (Some (fault_at (missing (wanted (Some v) line.taken)) behind))
    (cond (fits v line (size_of line.area)) None (Some (fault_at wrong.Room line.placed)))

abbrev pub judged : Line → ℕ → Option Fault
judged line behind = judged_by line.verb line behind
