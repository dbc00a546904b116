-- The contract of a service over numbers: what comes out is what the definition says of the unit and the setup, in numbers again. Assumes nothing.
use Rattle.std.specs.Prelude.{◌≡◌, List, ℕ}
use Rattle.memory.specs.Memory.{apply}
use Rattle.memory.specs.declared.RealAddress.{RealAddress}
use Rattle.scb.specs.Words.{event_bits}
use Rattle.device.specs.declared.Cu.{Cu}
use Rattle.actions.specs.Setup.{Setup}
use Rattle.command.specs.Part.{Part, Service}
use Rattle.command.specs.Service.{service}
use Rattle.packed.specs.Packed.{CuUnitIs}
use Rattle.packed.specs.SetUp.{SetIs}
use Rattle.packed.specs.declared.cu.Unit.{Unit}
use Rattle.code_command.specs.declared.Commanded.{Commanded}

-- the part of the world that a unit, a setup and an outgoing area are
abbrev pub part_by : RealAddress → Cu → Setup → List ℕ → Part
part_by base unit s outgoing = record { base = base; unit = unit; setup = s; outgoing = outgoing }

-- the code of a service does what is said: memory before it, its answer, the lent bytes after it
pub record Serves (said : Service) (before : List ℕ) (r : Commanded) (m out set : List ℕ) : Type 0 where
  pub unit : CuUnitIs said.part.unit r.unit
  pub raised : r.raised ≡ event_bits said.raised
  pub length : r.length ≡ said.length
  pub memory : m ≡ apply said.writes before
  pub outgoing : out ≡ said.part.outgoing
  pub setup : SetIs said.part.setup set

-- whatever unit and setup the numbers and bytes are of: m, out and set are memory, outgoing area and setup before, the primed ones after
abbrev pub Served : RealAddress → Unit → (report : ℕ) → (m out set : List ℕ) → Commanded → (m' out' set' : List ℕ) → Type 0
Served base unit report m out set r m' out' set' =
    (c : Cu) (s : Setup) → CuUnitIs c unit → SetIs s set → Serves (service (part_by base c s out) m report) m r m' out' set'
