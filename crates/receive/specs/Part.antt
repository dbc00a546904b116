-- What the receive unit works with besides memory, what a service of it comes to, and its descriptors: 01, "Arrival and storing".
-- Assumes nothing.
use Rattle.std.specs.Prelude.{List, [], ℕ}
use Rattle.memory.specs.Memory.{Write}
use Rattle.memory.specs.declared.Offset.{Offset}
use Rattle.memory.specs.declared.RealAddress.{RealAddress}
use Rattle.scb.specs.Words.{no_events}
use Rattle.scb.specs.declared.Events.{Events}
use Rattle.device.specs.declared.Fate.{Fate}
use Rattle.device.specs.declared.Ru.{Ru}
use Rattle.device.specs.declared.Units.{Units}

-- ---- frame descriptor: +0 status, +2 15 EL, 14 S, +4 link, +6 first buffer descriptor or FFFFh, +8 the header as it is: 02, Wish 4, "fields are packed"

abbrev pub fd_status_at : ℕ
fd_status_at = 0

abbrev pub control_at : ℕ
control_at = 2

abbrev pub fd_link_at : ℕ
fd_link_at = 4

abbrev pub first_at : ℕ
first_at = 6

abbrev pub header_at : ℕ
header_at = 8

-- ---- the unit's part of the world: where the SCB is, for its counters; the unit; the holding area, which it only reads

pub record Part : Type 0 where
  pub base : RealAddress
  pub scb : Offset
  pub unit : Ru
  pub holding : List ℕ

-- the part of the units and the holding area
abbrev pub part_of : Units → List ℕ → Part
part_of u holding = record { base = u.base; scb = u.scb; unit = u.ru; holding = holding }

-- ---- what a service comes to: the unit afterwards, the writes in their order, the events raised, the fates of held frames

pub record Service : Type 0 where
  pub unit : Ru
  pub writes : List Write
  pub raised : Events
  pub fates : List Fate

-- a service that raises nothing and settles nothing
abbrev pub quietly : Ru → List Write → Service
quietly unit writes = record { unit = unit; writes = writes; raised = no_events; fates = [] }
