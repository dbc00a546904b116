-- The areas that a call is lent, and the world that they show: 01, "Calls, lent areas, refusals". Assumes nothing.
use Rattle.std.specs.Prelude.{◌≡◌, true, List, [], ℕ, ◌≤◌, length}
use Rattle.memory.specs.Size.{Allowed}
use Rattle.memory.proofs.Bytes.{Bytes}
use Rattle.device.specs.Limits.{longest, holding_size, outgoing_size}
use Rattle.device.specs.State.{fresh_units}
use Rattle.device.specs.declared.Device.{Device}
use Rattle.device.specs.declared.Units.{Units}
use Rattle.image.specs.Image.{image_of, decode_of, device_at}
use Rattle.image.specs.Found.{Found}
use Rattle.image.specs.Found as is
use Rattle.image.specs.Ranges.{in_range, Wide}
use Rattle.chip.specs.World.{World, world_of}
use Rattle.chip.specs.Call.{Call, reset, attention, arrive, turn}
use Rattle.calls.specs.Calls.{Areas, areas_of}

-- ---- the frame that arrives with a call; the other calls have none

abbrev pub arriving : Call → List ℕ
arriving reset = []
arriving attention = []
arriving (arrive f v) = f
arriving (turn report) = []

-- it is made of bytes, however many; nothing is asked of a verdict or of a line report
abbrev pub FrameBytes : Call → Type 0
FrameBytes c = Bytes (arriving c)

-- it is not overlong
abbrev pub NotOverlong : List ℕ → Type 0
NotOverlong f = length f ≤ longest

-- ---- areas

-- every element of what is lent is a byte
pub record AreBytes (a : Areas) : Type 0 where
  pub memory : Bytes a.memory
  pub holding : Bytes a.holding
  pub outgoing : Bytes a.outgoing
  pub kept : Bytes a.kept

-- memory, holding area and outgoing area as a host leaves them: of bytes, and of the right lengths
pub record Hosted (m h out : List ℕ) : Type 0 where
  pub size : Allowed (length m)
  pub holding : length h ≡ holding_size
  pub outgoing : length out ≡ outgoing_size
  pub memory_bytes : Bytes m
  pub holding_bytes : Bytes h
  pub outgoing_bytes : Bytes out

-- ---- the record

-- a record holds a state: it is the image of one within docs/' ranges
pub record Holds (r : List ℕ) (d : Device) : Type 0 where
  pub wide : Wide d
  pub range : in_range d ≡ true
  pub image : r ≡ image_of d

-- the state that a record says; one that is no image says nothing, as after reset
abbrev pub units_by : Found → Units
units_by (is.Units u) = u
units_by is.Foreign = fresh_units

abbrev pub units_in : List ℕ → Units
units_in r = units_by (decode_of r)

abbrev pub device_in : List ℕ → Device
device_in r = device_at r (units_in r)

-- ---- the world in the areas

-- with the record taken for the state d
abbrev pub world_in : Device → Areas → World
world_in d a = world_of d a.memory a.holding a.outgoing

-- with the state that the record says
abbrev pub world_said : Areas → World
world_said a = world_in (device_in a.kept) a

-- areas show a world: its memory, its holding and its outgoing area, and the record of its state
pub record Shows (a : Areas) (w : World) : Type 0 where
  pub memory : a.memory ≡ w.memory
  pub holding : a.holding ≡ w.holding
  pub outgoing : a.outgoing ≡ w.outgoing
  pub kept : Holds a.kept w.device

-- the areas that do, where the state is in range
abbrev pub shown : World → Areas
shown w = areas_of w.memory w.holding w.outgoing (image_of w.device)
