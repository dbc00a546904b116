-- A frame's form as a number of four bits, and a verdict with it as one of six: docs/record.md, bytes 240 and 27. Assumes nothing.
use Rattle.std.specs.Prelude.{Bool, ◌&&◌, ℕ, ◌+◌, ◌*◌, ◌-◌, ◌/◌, ◌%◌, ◌≤◌, ◌^◌, leb, ltb}
use Rattle.scb.specs.Words.{one}
use Rattle.device.specs.Limits.{longest_address}
use Rattle.device.specs.Numbers.{verdict_number}
use Rattle.device.specs.declared.Form.{Form}
use Rattle.device.specs.declared.Verdict.{Verdict}
use Rattle.phases.specs.Fields.{flag_at}

-- ---- a form

-- how many bytes its addresses are short of six, in three bits, and above them the location: so zeros are what holds after reset
unfoldable pub form_number : Form → ℕ
form_number f = (longest_address - f.length) + 2 ^ 3 * one f.location

abbrev pub lacks_in : ℕ → ℕ
lacks_in n = n % 2 ^ 3

unfoldable pub form_of : ℕ → Form
form_of n = record { length = longest_address - lacks_in n; location = flag_at 3 n }

-- a number is a form's: it has four bits, and no length is seven short of six
abbrev pub form_end : ℕ
form_end = 2 ^ 4

unfoldable pub form_shaped : ℕ → Bool
form_shaped n = ltb n form_end && leb (lacks_in n) longest_address

-- what the types of the code do not say of a form
abbrev pub FormWide : Form → Type 0
FormWide f = f.length ≤ longest_address

-- ---- a verdict and a form

abbrev pub kind_by : (verdict form : ℕ) → ℕ
kind_by verdict form = verdict + 2 ^ 2 * form

abbrev pub kind_of : Verdict → Form → ℕ
kind_of v f = kind_by (verdict_number v) (form_number f)

abbrev pub verdict_in : ℕ → ℕ
verdict_in kind = kind % 2 ^ 2

abbrev pub form_in : ℕ → ℕ
form_in kind = kind / 2 ^ 2

-- a number is that of a verdict and a form
unfoldable pub kind_shaped : ℕ → Bool
kind_shaped kind = ltb (verdict_in kind) 3 && form_shaped (form_in kind)
