-- What is ordered: docs/builder.md, "The order". It is a value that memory can give back. Assumes nothing.
use Rattle.std.specs.Prelude.{Bool, List, [], ◌∷◌, ℕ, get_or}
use Rattle.device.specs.declared.Form.{Form}
use Rattle.actions.specs.Actions.{form_in}

-- a command: NOP; IA-Setup with its address; Configure with the bytes behind its count; MC-Setup with its addresses, one behind the other; Transmit
-- with what its block has of the header (destination, then type; with location 1 neither) and the pieces of its data, one a descriptor; TDR; Diagnose
pub data What : Type 0 where
  nop : What
  ia_setup : List ℕ → What
  configure : List ℕ → What
  mc_setup : List ℕ → What
  transmit : List ℕ → List (List ℕ) → What
  tdr : What
  diagnose : What

-- with or without I
pub record Command : Type 0 where
  pub interrupt : Bool
  pub what : What

-- so many frame descriptors; so many buffers of a size, which is 0 if there are none; the commands
pub record Order : Type 0 where
  pub frames : ℕ
  pub buffers : ℕ
  pub size : ℕ
  pub commands : List Command

-- ---- the address length and location in force: 6 and 0 after reset, and what a Configure sets from its end on

-- of the bytes behind a Configure's count, the third is its byte 3
abbrev pub form_byte : List ℕ → ℕ
form_byte bytes = get_or bytes 2 0

abbrev pub form_after : Form → What → Form
form_after form nop = form
form_after form (ia_setup bytes) = form
form_after form (configure bytes) = form_in (form_byte bytes)
form_after form (mc_setup bytes) = form
form_after form (transmit header pieces) = form
form_after form tdr = form
form_after form diagnose = form
