-- A turn, a run and an arrival in numbers: the crate chip says what is done, and here stands that the numbers, the answer and every lent byte
-- afterwards are those. Assumes nothing.
use Rattle.std.specs.Prelude.{◌≡◌, Bool, false, List, ℕ, ◌+◌, ◌*◌}
use Rattle.memory.specs.Memory.{apply}
use Rattle.scb.specs.Words.{any_of, one}
use Rattle.scb.specs.declared.Events.{Events}
use Rattle.device.specs.Answers.{answered, arrived}
use Rattle.device.specs.declared.Answer.{Answer}
use Rattle.device.specs.declared.Units.{Units}
use Rattle.actions.specs.Setup.{setup_of}
use Rattle.device.specs.declared.Device.{Device}
use Rattle.chip.specs.World.{Ran, world_of}
use Rattle.chip.specs.Arrival.{arrival_of}
use Rattle.chip.specs.Turn.{served_of, is_command, status_by, command_turn, receive_turn, turn_of}
use Rattle.chip.specs.Run.{Run, tells, stops_at, run_of}
use Rattle.packed.specs.Packed.{PackedIs}
use Rattle.packed.specs.SetUp.{SetIs}
use Rattle.packed.specs.declared.Packed.{Packed}
use Rattle.code_arrival.specs.declared.Arrived.{Arrived}
use Rattle.code_chip.specs.declared.Turned.{Turned}
use Rattle.code_chip.specs.declared.Turns.{Turns}

-- numbers and bytes that are a device's
pub record DeviceIs (d : Device) (k : Packed) (set : List ℕ) : Type 0 where
  pub units : PackedIs d.units k
  pub setup : SetIs (setup_of d) set

-- what an answer that is not refused tells, as one number: the length sent, and the edge above its 16 bits
abbrev pub told_by : ℕ → Bool → ℕ
told_by length edge = length + 65536 * one edge

abbrev pub told_of : Answer → ℕ
told_of a = told_by a.length a.edge

-- the command unit is the one that a turn serves
unfoldable pub commands : Units → Bool
commands u = is_command (served_of u)

-- the end of a working turn, after which the units are u: the status is written if an event was raised, which is whenever it is due
pub record Concludes (u : Units) (by : Events) (k : Packed) (length : ℕ) (before : List ℕ) (r : Turned) (m : List ℕ) : Type 0 where
  pub packed : r.packed ≡ k
  pub told : r.told ≡ told_by length (any_of by)
  pub stops : r.stops ≡ tells (answered length (any_of by))
  pub memory : m ≡ apply (status_by (any_of by) u) before

-- a turn; `stopped` says whether it ends a run. One that does not has nothing to tell
pub record Does (said : Ran) (stopped : Bool) (r : Turned) (m out set : List ℕ) : Type 0 where
  pub device : DeviceIs said.outcome.device r.packed set
  pub told : r.told ≡ told_of said.outcome.answer
  pub stops : r.stops ≡ stopped
  pub nothing : r.stops ≡ false → r.told ≡ 0
  pub memory : m ≡ said.memory
  pub outgoing : out ≡ said.outgoing

-- a working turn: it ends a run if it has something to tell
abbrev pub Tells : Ran → Turned → List ℕ → List ℕ → List ℕ → Type 0
Tells said r m out set = Does said (tells said.outcome.answer) r m out set

-- a turn of each unit, and a turn, on numbers and lent bytes, whatever device they are of
abbrev pub CommandTurns : Packed → (report : ℕ) → (m out set : List ℕ) → Turned → (m1 out1 set1 : List ℕ) → Type 0
CommandTurns k report m out set r m1 out1 set1 =
    (d : Device) (h : List ℕ) → DeviceIs d k set → Tells (command_turn (world_of d m h out) report) r m1 out1 set1

abbrev pub ReceiveTurns : Packed → (m h : List ℕ) → Turned → (m1 : List ℕ) → Type 0
ReceiveTurns k m h r m1 = (d : Device) (out set : List ℕ) → DeviceIs d k set → Tells (receive_turn (world_of d m h out)) r m1 out set

abbrev pub TurnTakes : Packed → (report : ℕ) → (m h out set : List ℕ) → Turned → (m1 out1 set1 : List ℕ) → Type 0
TurnTakes k report m h out set r m1 out1 set1 =
    (d : Device) → DeviceIs d k set → Does (turn_of (world_of d m h out) report) (stops_at (world_of d m h out) report) r m1 out1 set1

-- turns in a row
pub record Runs (said : Run) (r : Turns) (m out set : List ℕ) : Type 0 where
  pub device : DeviceIs said.world.device r.packed set
  pub told : r.told ≡ told_of said.answer
  pub taken : r.taken ≡ said.taken
  pub memory : m ≡ said.world.memory
  pub outgoing : out ≡ said.world.outgoing

abbrev pub RunTakes : Packed → (report budget : ℕ) → (m h out set : List ℕ) → Turns → (m1 out1 set1 : List ℕ) → Type 0
RunTakes k report budget m h out set r m1 out1 set1 =
    (d : Device) → DeviceIs d k set → Runs (run_of budget (world_of d m h out) report) r m1 out1 set1

-- an arrival
pub record Arrives (said : Ran) (r : Arrived) (set m h : List ℕ) : Type 0 where
  pub device : DeviceIs said.outcome.device r.packed set
  pub answer : said.outcome.answer ≡ arrived r.reason
  pub memory : m ≡ said.memory
  pub holding : h ≡ said.holding

abbrev pub ArrivalTakes : Packed → (f : List ℕ) → (verdict : ℕ) → (m h set : List ℕ) → Arrived → (m1 h1 : List ℕ) → Type 0
ArrivalTakes k f verdict m h set r m1 h1 =
    (d : Device) (out : List ℕ) → DeviceIs d k set → Arrives (arrival_of (world_of d m h out) f verdict) r set m1 h1
