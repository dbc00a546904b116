-- What a call answers and what it makes of a frame. Assumes nothing.
use Rattle.std.specs.Prelude.{Bool, true, false, List, [], ◌∷◌, ℕ, Option, Some, None}
use Rattle.memory.specs.Memory.{Write, count_to}
use Rattle.memory.specs.Address.{place}
use Rattle.memory.specs.declared.Offset.{Offset}
use Rattle.memory.specs.declared.RealAddress.{RealAddress}
use Rattle.device.specs.Numbers.{counter_place}
use Rattle.device.specs.declared.Answer.{Answer}
use Rattle.device.specs.declared.Counter.{Counter}
use Rattle.device.specs.declared.Counter.TheVariants as counter
use Rattle.device.specs.declared.Device.{Device}
use Rattle.device.specs.declared.Fate.{Fate}
use Rattle.device.specs.declared.Fate.TheVariants as fate
use Rattle.device.specs.declared.Reason.{Reason}
use Rattle.device.specs.declared.Reason.TheVariants as reason

-- 01, "Calls, lent areas, refusals": an answer is the number (0 if not refused), the length sent (0 if none) and the edge
abbrev pub answered : ℕ → Bool → Answer
answered length edge = record { refusal = None; length = length; edge = edge; reason = None }

-- 02, Wish 3: "An arrival that is dropped also says why". It sends nothing and raises nothing
abbrev pub arrived : Option Reason → Answer
arrived why = record { refusal = None; length = 0; edge = false; reason = why }

-- what a call comes to, besides the lent bytes: its fates are those of the frames that it makes something of, an arriving one or held ones, these
-- the oldest first
pub record Outcome : Type 0 where
  pub device : Device
  pub answer : Answer
  pub fates : List Fate

abbrev pub outcome_of : Device → Answer → List Fate → Outcome
outcome_of d a fs = record { device = d; answer = a; fates = fs }

-- ---- what follows from a fate

-- the counter that it adds one to, if it does
abbrev pub counter_of : Fate → Option Counter
counter_of fate.TooFew = None
counter_of fate.NoMatch = None
counter_of fate.UnitIdle = None
counter_of fate.UnitSuspended = None
counter_of fate.Overrun = Some counter.Overruns
counter_of (fate.Bad c) = c
counter_of (fate.Held c) = c
counter_of fate.NoResources = Some counter.Resources
counter_of fate.Stored = None
counter_of fate.StoredCounted = Some counter.Resources
counter_of fate.Counted = Some counter.Resources
counter_of fate.Aborted = None
counter_of fate.Reset = None

-- whether the frame is held from now on; whether it is stored
abbrev pub is_held : Fate → Bool
is_held fate.TooFew = false
is_held fate.NoMatch = false
is_held fate.UnitIdle = false
is_held fate.UnitSuspended = false
is_held fate.Overrun = false
is_held (fate.Bad c) = false
is_held (fate.Held c) = true
is_held fate.NoResources = false
is_held fate.Stored = false
is_held fate.StoredCounted = false
is_held fate.Counted = false
is_held fate.Aborted = false
is_held fate.Reset = false

abbrev pub is_stored : Fate → Bool
is_stored fate.TooFew = false
is_stored fate.NoMatch = false
is_stored fate.UnitIdle = false
is_stored fate.UnitSuspended = false
is_stored fate.Overrun = false
is_stored (fate.Bad c) = false
is_stored (fate.Held c) = false
is_stored fate.NoResources = false
is_stored fate.Stored = true
is_stored fate.StoredCounted = true
is_stored fate.Counted = false
is_stored fate.Aborted = false
is_stored fate.Reset = false

-- 02, Wish 3: why it was dropped. A frame that is lost by OVRNERRS or RSCERRS is counted, not dropped; a bad one that is not held is dropped,
-- counted or not
abbrev pub reason_of : Fate → Option Reason
reason_of fate.TooFew = Some reason.TooFew
reason_of fate.NoMatch = Some reason.NoMatch
reason_of fate.UnitIdle = Some reason.UnitIdle
reason_of fate.UnitSuspended = Some reason.UnitSuspended
reason_of fate.Overrun = None
reason_of (fate.Bad c) = Some reason.Bad
reason_of (fate.Held c) = None
reason_of fate.NoResources = None
reason_of fate.Stored = None
reason_of fate.StoredCounted = None
reason_of fate.Counted = None
reason_of fate.Aborted = None
reason_of fate.Reset = None

-- the write that a counter gets, on memory as it stands then: 01, "counters are read from the SCB, increased modulo 65,536, written back"
unfoldable pub counts : Option Counter → RealAddress → Offset → List ℕ → List Write
counts None base scb m = []
counts (Some c) base scb m = count_to m (place base scb (counter_place c)) ∷ []
