-- What the command unit works with besides memory, and what a service of it comes to: 01, "Turns". Assumes nothing.
use Rattle.std.specs.Prelude.{List, ℕ}
use Rattle.memory.specs.Memory.{Write}
use Rattle.memory.specs.declared.RealAddress.{RealAddress}
use Rattle.scb.specs.Words.{no_events}
use Rattle.scb.specs.declared.Events.{Events}
use Rattle.device.specs.Change.{with_cu, with_units}
use Rattle.device.specs.declared.Cu.{Cu}
use Rattle.device.specs.declared.Device.{Device}
use Rattle.actions.specs.Setup.{Setup, setup_of, with_setup}

-- ---- the unit's part of the world

pub record Part : Type 0 where
  pub base : RealAddress
  pub unit : Cu
  pub setup : Setup
  pub outgoing : List ℕ

abbrev pub with_unit : Part → Cu → Part
with_unit p unit = record { base = p.base; unit = unit; setup = p.setup; outgoing = p.outgoing }

abbrev pub with_outgoing : Part → List ℕ → Part
with_outgoing p outgoing = record { base = p.base; unit = p.unit; setup = p.setup; outgoing = outgoing }

-- the part of a device and the outgoing area, and the device with a part put back
abbrev pub part_of : Device → List ℕ → Part
part_of d outgoing = record { base = d.units.base; unit = d.units.cu; setup = setup_of d; outgoing = outgoing }

abbrev pub with_part : Device → Part → Device
with_part d p = with_setup (with_units d (with_cu d.units p.unit)) p.setup

-- ---- what a service comes to: the part afterwards, the writes in their order, the events raised, the length sent

pub record Service : Type 0 where
  pub part : Part
  pub writes : List Write
  pub raised : Events
  pub length : ℕ

-- a service that raises nothing and sends nothing
abbrev pub quietly : Part → List Write → Service
quietly p writes = record { part = p; writes = writes; raised = no_events; length = 0 }
