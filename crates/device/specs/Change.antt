-- Values with some of their fields changed, and the others as they were. antt has no update of a record, so each change that the rules make
-- stands here once, and nothing else lists the fields but the fresh state. Assumes nothing.
use Rattle.std.specs.Prelude.{Bool, true, List, ℕ}
use Rattle.memory.specs.declared.Offset.{Offset}
use Rattle.memory.specs.declared.RealAddress.{RealAddress}
use Rattle.scb.specs.declared.Events.{Events}
use Rattle.device.specs.declared.Begun.{Begun}
use Rattle.device.specs.declared.Cu.{Cu}
use Rattle.device.specs.declared.Cu.TheVariants as cu
use Rattle.device.specs.declared.Device.{Device}
use Rattle.device.specs.declared.Ru.{Ru}
use Rattle.device.specs.declared.Ru.TheVariants as ru
use Rattle.device.specs.declared.Settings.{Settings}
use Rattle.device.specs.declared.Storing.{Storing}
use Rattle.device.specs.declared.Units.{Units}

-- ---- a SUSPEND waits

-- a begun command at whose end the unit is to suspend
abbrev pub pausing_begun : Begun → Begun
pausing_begun b =
    record {
      block = b.block;
      el = b.el;
      suspend = b.suspend;
      interrupt = b.interrupt;
      pausing = true;
    }

-- a begun frame at whose end the unit is to suspend
abbrev pub pausing_storing : Storing → Storing
pausing_storing s =
    record {
      fd = s.fd;
      el = s.el;
      suspend = s.suspend;
      pausing = true;
      frame = s.frame;
    }

-- ---- the units

-- the command unit as said
abbrev pub with_cu : Units → Cu → Units
with_cu u next =
    record {
      initialised = u.initialised;
      base = u.base;
      scb = u.scb;
      events = u.events;
      rulast = u.rulast;
      settings = u.settings;
      cu = next;
      ru = u.ru;
    }

-- the receive unit as said
abbrev pub with_ru : Units → Ru → Units
with_ru u next =
    record {
      initialised = u.initialised;
      base = u.base;
      scb = u.scb;
      events = u.events;
      rulast = u.rulast;
      settings = u.settings;
      cu = u.cu;
      ru = next;
    }

-- the events as said
abbrev pub with_events : Units → Events → Units
with_events u events =
    record {
      initialised = u.initialised;
      base = u.base;
      scb = u.scb;
      events = events;
      rulast = u.rulast;
      settings = u.settings;
      cu = u.cu;
      ru = u.ru;
    }

-- what Configure set
abbrev pub with_settings : Units → Settings → Units
with_settings u settings =
    record {
      initialised = u.initialised;
      base = u.base;
      scb = u.scb;
      events = u.events;
      rulast = u.rulast;
      settings = settings;
      cu = u.cu;
      ru = u.ru;
    }

-- whether the receive unit was the one served
abbrev pub served_ru : Units → Bool → Units
served_ru u rulast =
    record {
      initialised = u.initialised;
      base = u.base;
      scb = u.scb;
      events = u.events;
      rulast = rulast;
      settings = u.settings;
      cu = u.cu;
      ru = u.ru;
    }

-- initialised, with the SCB at an offset from a base, both units Idle
abbrev pub initialised_at : Units → RealAddress → Offset → Events → Units
initialised_at u base scb events =
    record {
      initialised = true;
      base = base;
      scb = scb;
      events = events;
      rulast = u.rulast;
      settings = u.settings;
      cu = cu.Idle;
      ru = ru.Idle;
    }

-- ---- the device

-- the units as said
abbrev pub with_units : Device → Units → Device
with_units d units =
    record {
      units = units;
      own = d.own;
      filter = d.filter;
    }

-- another own address and another filter
abbrev pub with_addressing : Device → List ℕ → ℕ → Device
with_addressing d own filter =
    record {
      units = d.units;
      own = own;
      filter = filter;
    }
