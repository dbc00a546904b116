-- An attention over the numbers of a device's units: 01, "The SCB". What it comes to is what the room attention says of the device. Assumes nothing.
use Rattle.std.specs.Prelude.{◌≡◌, Bool, not, ◌&&◌, List, ◌++◌, ℕ}
use Rattle.memory.specs.Memory.{Write, word_to, apply}
use Rattle.scb.specs.Words.{scb_command_at, acknowledged}
use Rattle.device.specs.Change.{with_events}
use Rattle.device.specs.State.{cu_state, ru_state, is_active, is_ready}
use Rattle.device.specs.declared.Cu.{Cu}
use Rattle.device.specs.declared.Ru.{Ru}
use Rattle.device.specs.declared.Units.{Units}
use Rattle.actions.specs.Setup.{setup_of}
use Rattle.packed.specs.Packed.{PackedIs, both_with}
use Rattle.packed.specs.SetUp.{SetIs}
use Rattle.packed.specs.declared.Packed.{Packed}
use Rattle.control.specs.Obey.{of_scb, obey_cuc, obey_ruc}
use Rattle.attention.specs.Attention as attentions
use Rattle.attention.specs.Attention.{leaving}
use Rattle.code_attention.specs.declared.Attended.{Attended}

-- a unit left Active; a unit left Ready
abbrev pub left_active : (before after : Cu) → Bool
left_active b a = is_active (cu_state b) && not (is_active (cu_state a))

abbrev pub left_ready : (before after : Ru) → Bool
left_ready b a = is_ready (ru_state b) && not (is_ready (ru_state a))

-- write command 0
abbrev pub command_to : Units → Write
command_to u = word_to (of_scb u scb_command_at) 0x0000

-- ---- clear acknowledged events; obey CUC; obey RUC, on memory as CUC left it: the units, and the codes' writes

pub record Codes : Type 0 where
  pub units : Units
  pub writes : List Write

unfoldable pub codes : Units → ℕ → List ℕ → Codes
codes u command m =
    let cleared = with_events u (acknowledged u.events command) in
    let c = obey_cuc u command m in
    let r = obey_ruc u command (apply c.writes m) in
    record { units = both_with cleared c.unit r.unit (leaving c.left r.left); writes = c.writes ++ r.writes }

-- ---- what the code does

-- numbers and a memory are those of units after the codes
pub record Obeys (said : Codes) (before : List ℕ) (r : Packed) (m : List ℕ) : Type 0 where
  pub packed : PackedIs said.units r
  pub memory : m ≡ apply said.writes before

-- numbers and a memory are those of a device after an attention
pub record Leaves (said : attentions.Attended) (before : List ℕ) (r : Packed) (m : List ℕ) : Type 0 where
  pub packed : PackedIs said.outcome.device.units r
  pub memory : m ≡ apply said.writes before

-- and its edge and setup are those of the attention too
pub record Attends (said : attentions.Attended) (before : List ℕ) (r : Attended) (m set : List ℕ) : Type 0 where
  pub packed : PackedIs said.outcome.device.units r.packed
  pub edge : r.edge ≡ said.outcome.answer.edge
  pub memory : m ≡ apply said.writes before
  pub setup : SetIs (setup_of said.outcome.device) set
