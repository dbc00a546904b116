-- An arrival in numbers: receive's Arrival says what is done, and here stands that the numbers, the memory and the holding area afterwards
-- are those, and that the reason is that of the fate. Assumes nothing.
use Rattle.std.specs.Prelude.{◌≡◌, true, List, ℕ, ◌≤◌, length}
use Rattle.memory.specs.Memory.{apply}
use Rattle.device.specs.Answers.{reason_of}
use Rattle.device.specs.Change.{with_ru}
use Rattle.device.specs.Header.{header}
use Rattle.device.specs.declared.Frame.{Frame}
use Rattle.device.specs.declared.Units.{Units}
use Rattle.actions.specs.Setup.{Setup}
use Rattle.phases.specs.Phases.{word_of, frame_of}
use Rattle.receive.specs.Arrival.{Arrival, arrival}
use Rattle.packed.specs.Packed.{PackedIs}
use Rattle.packed.specs.SetUp.{SetIs}
use Rattle.packed.specs.declared.Packed.{Packed}
use Rattle.code_arrival.specs.declared.Arrived.{Arrived}

-- the frame that a unit's word tells
abbrev pub frame_in : ℕ → Frame
frame_in n = frame_of (word_of n)

-- ---- that the code does what is said

-- an arrival: the units u with the receive unit that it leaves
pub record Arrives (said : Arrival) (u : Units) (before : List ℕ) (r : Arrived) (m h : List ℕ) : Type 0 where
  pub units : PackedIs (with_ru u said.unit) r.packed
  pub reason : r.reason ≡ reason_of said.fate
  pub memory : m ≡ apply said.writes before
  pub holding : h ≡ said.area

-- whatever units and setup the numbers and bytes are of, if the frame has its header: m and h are memory and holding area before, the primed ones after
abbrev pub ArrivesAt : Packed → (set frame : List ℕ) → (verdict : ℕ) → (m h : List ℕ) → Arrived → (m' h' : List ℕ) → Type 0
ArrivesAt k set frame verdict m h r m' h' =
    (u : Units) (s : Setup) → PackedIs u k → SetIs s set → s.settings ≡ u.settings → header s.settings.form.length ≤ length frame
    → Arrives (arrival u true frame verdict m h) u m r m' h'
