-- What the commands set up, and a device with it: 01, "Turns". Assumes nothing.
use Rattle.std.specs.Prelude.{List, ℕ}
use Rattle.device.specs.Change.{with_settings, with_units, with_addressing}
use Rattle.device.specs.declared.Device.{Device}
use Rattle.device.specs.declared.Settings.{Settings}

-- settings, own address, filter
pub record Setup : Type 0 where
  pub settings : Settings
  pub own : List ℕ
  pub filter : ℕ

-- the setup of a device, and the device with a setup put back
abbrev pub setup_of : Device → Setup
setup_of d = record { settings = d.units.settings; own = d.own; filter = d.filter }

abbrev pub with_setup : Device → Setup → Device
with_setup d s = with_addressing (with_units d (with_settings d.units s.settings)) s.own s.filter
