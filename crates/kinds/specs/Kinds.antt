-- The wrong kinds of chip: 01, "The inspector's list". Each is a property of an arbitrary chip, as wide as its sentence allows. Assumes nothing.
use Rattle.std.specs.Prelude.{◌≡◌, true, false, List, ◌∷◌, ◌++◌, map, ◌⊎◌, ℕ, ◌/◌, ◌^◌, ◌<◌, take}
use Rattle.memory.specs.Address.{place}
use Rattle.memory.specs.Memory.{word_at}
use Rattle.memory.specs.declared.Offset.{Offset}
use Rattle.scb.specs.Words.{bit}
use Rattle.device.specs.Numbers.{counter_place}
use Rattle.device.specs.declared.Action.TheVariants as action
use Rattle.device.specs.declared.Begun.{Begun}
use Rattle.device.specs.declared.Counter.{Counter}
use Rattle.device.specs.declared.Cu.{Cu}
use Rattle.device.specs.declared.Cu.TheVariants as cu
use Rattle.device.specs.declared.Device.{Device}
use Rattle.device.specs.declared.Frame.{Frame}
use Rattle.device.specs.declared.Units.{Units}
use Rattle.numerals.specs.Places.{bytes_from}
use Rattle.packed.specs.Record.{setup_at}
use Rattle.packed.specs.SetUp.{setup_size}
use Rattle.actions.specs.Block.{block_status_at, argument_at}
use Rattle.control.specs.Obey.{of_scb}
use Rattle.image.specs.Image.{image_of}
use Rattle.chip.specs.World.{World, Ran, world_of}
use Rattle.chip.specs.Call.{Call, attention, turn, ran}
use Rattle.calls.specs.Calls.{Areas, Called, answer_number}
use Rattle.traces.specs.Areas.{shown}
use Rattle.traces.specs.Bytes.{number, sent_length}
use Rattle.progress.specs.Trace.{run}
use Rattle.traces.specs.Event.{call, step, answers_of}
use Rattle.lists.specs.Done.{enough}
use Rattle.kinds.specs.Chips.{Chip, Handed, Act, does, events_in, chip_run, chip_answers}
use Rattle.kinds.specs.Closed.{Right}
use Rattle.kinds.specs.Demands.{Demand1, Acceptable, lent_of, Demand2}
use Rattle.kinds.specs.Lists.{All, Starting, turns_of, AllReports, started}
use Rattle.kinds.specs.Third.{AllAcceptable, ListRun, HeldRun, Demand3}

-- at every call that is not to be refused, something is so of what is lent and what is left; a chip of which it is so at every call is of the
-- kind too
abbrev pub AtAccepted : (chip : Chip) → (Areas → Called → Type 0) → Type 0
AtAccepted chip p =
    (s : chip.Inner) (c : Call) (d : Device) (m h out : List ℕ) → Acceptable c d m h out → Handed c (lent_of d m h out)
    → p (lent_of d m h out) (chip.calls s c (lent_of d m h out))

-- ---- a chip that refuses everything: it answers a number above 0
pub record RefusesAll (chip : Chip) : Type 0 where
  pub each : AtAccepted chip (λ a r. 0 < number r.answer)

-- ---- one with a constant answer, whichever
pub record OneAnswer (chip : Chip) : Type 0 where
  pub answer : ℕ
  pub each : AtAccepted chip (λ a r. r.answer ≡ answer)

-- ---- one that leaves memory untouched
pub record MemoryAsLent (chip : Chip) : Type 0 where
  pub each : AtAccepted chip (λ a r. r.areas.memory ≡ a.memory)

-- ---- one that marks commands complete without acting

-- the block of a begun command
abbrev pub InWork : Cu → Offset → Type 0
InWork cu.Idle o = ⊥
InWork (cu.Suspended next) o = ⊥
InWork (cu.Waiting next) o = ⊥
InWork (cu.Acting b a) o = b.block ≡ o
InWork (cu.Sending b w) o = b.block ≡ o
InWork (cu.Ending b n) o = b.block ≡ o
InWork (cu.Failing b) o = b.block ≡ o

-- any block, whatever the unit is at
abbrev pub AnyBlock : Cu → Offset → Type 0
AnyBlock unit o = Unit {0}

-- a call sets C in a block, of those that are said
pub record SetsC (Of : Cu → Offset → Type 0) (d : Device) (m : List ℕ) (r : Called) (o : Offset) : Type 0 where
  pub block : Of d.units.cu o
  pub before : bit (word_at m (place d.units.base o block_status_at)) 15 ≡ false
  pub after : bit (word_at r.areas.memory (place d.units.base o block_status_at)) 15 ≡ true

-- a turn, in that of the begun command
abbrev pub Completes : Device → List ℕ → Called → Offset → Type 0
Completes d m r o = SetsC InWork d m r o

-- at every such turn, something is so
abbrev pub AtCompletion : (chip : Chip) → (Device → List ℕ → Offset → Called → Type 0) → Type 0
AtCompletion chip p =
    (s : chip.Inner) (report : ℕ) (d : Device) (m h out : List ℕ) (o : Offset) → Acceptable (turn report) d m h out
    → Handed (turn report) (lent_of d m h out)
    → Completes d m (chip.calls s (turn report) (lent_of d m h out)) o → p d m o (chip.calls s (turn report) (lent_of d m h out))

-- every setting, in the record: what Configure sets, the own address, the filter
abbrev pub setup_in : List ℕ → List ℕ
setup_in r = bytes_from r setup_at setup_size

pub record SetsNothing (chip : Chip) : Type 0 where
  pub each : AtCompletion chip (λ d m o r. setup_in r.areas.kept ≡ setup_in (image_of d))

-- TDR's word
pub record MeasuresNothing (chip : Chip) : Type 0 where
  pub each : AtCompletion chip (λ d m o r. (b : Begun) → d.units.cu ≡ cu.Acting b action.Tdr
      → word_at r.areas.memory (place d.units.base o argument_at) ≡ word_at m (place d.units.base o argument_at))

-- the sent length
pub record SendsNothing (chip : Chip) : Type 0 where
  pub each : AtCompletion chip (λ d m o r. sent_length r.answer ≡ 0)

-- all three
pub record MarksOnly (chip : Chip) : Type 0 where
  pub settings : SetsNothing chip
  pub tdr : MeasuresNothing chip
  pub sending : SendsNothing chip

-- one marking is enough, at any call and of any block: what the action is to leave is not there, be it the settings, TDR's word, the sent length or the
-- frame's bytes in the outgoing area; or C is not due, as at a begin turn, at a turn of the receive unit, at an attention. What was left as it was, where
-- the definitions change it, is of this sort
pub data Undone (d : Device) (o : Offset) (said : Ran) (r : Called) : Type 0 where
  settings_undone : (setup_in r.areas.kept ≡ setup_in (image_of said.outcome.device) → ⊥) → Undone d o said r
  word_undone : (word_at r.areas.memory (place d.units.base o argument_at) ≡ word_at said.memory (place d.units.base o argument_at) → ⊥)
      → Undone d o said r
  length_undone : (sent_length r.answer ≡ sent_length (answer_number said.outcome.answer) → ⊥) → Undone d o said r
  frame_undone : (take (sent_length (answer_number said.outcome.answer)) r.areas.outgoing
      ≡ take (sent_length (answer_number said.outcome.answer)) said.outgoing → ⊥) → Undone d o said r
  not_due : bit (word_at said.memory (place d.units.base o block_status_at)) 15 ≡ false → Undone d o said r

pub record MarksSome (chip : Chip) : Type 0 where
  pub inner : chip.Inner
  pub call : Call
  pub device : Device
  pub memory : List ℕ
  pub holding : List ℕ
  pub outgoing : List ℕ
  pub block : Offset
  pub acceptable : Acceptable call device memory holding outgoing
  pub lent : Handed call (lent_of device memory holding outgoing)
  pub marks : SetsC AnyBlock device memory (chip.calls inner call (lent_of device memory holding outgoing)) block
  pub undone : Undone device block (ran call (world_of device memory holding outgoing))
      (chip.calls inner call (lent_of device memory holding outgoing))

-- ---- one that serves the first command only: whatever the turns after the start, no block after the first gets C. It may begin the second
pub record FirstOnly (chip : Chip) : Type 0 where
  pub each : (s : chip.Inner) (d : Device) (m h out : List ℕ) (b : Offset) (bs : List Offset) (reports : List ℕ)
      → Acceptable attention d m h out → Handed attention (lent_of d m h out) → Starting d m b bs → AllReports reports
      → All (λ o. bit (word_at (started chip s (turns_of reports) (lent_of d m h out)).memory (place d.units.base o block_status_at)) 15 ≡ true
      → bit (word_at m (place d.units.base o block_status_at)) 15 ≡ true) bs

-- ---- one that invents a counter or edge: at some call that is not to be refused

-- the SCB before the call or after it
abbrev pub ScbOf : Device → Ran → Units → Type 0
ScbOf d said u = (u ≡ d.units) ⊎ (u ≡ said.outcome.device.units)

-- the edge, and whatever stands above it in an answer: of an arrival its reason
abbrev pub from_edge : ℕ → ℕ
from_edge answer = answer / 2 ^ 32

-- a counter's word, or the edge, or what stands above it, is not what the definitions leave
pub data Invented (d : Device) (said : Ran) (r : Called) : Type 0 where
  another_counter : (u : Units) → ScbOf d said u → (k : Counter)
      → (word_at r.areas.memory (of_scb u (counter_place k)) ≡ word_at said.memory (of_scb u (counter_place k)) → ⊥) → Invented d said r
  another_edge : (from_edge r.answer ≡ from_edge (answer_number said.outcome.answer) → ⊥) → Invented d said r

pub record Invents (chip : Chip) : Type 0 where
  pub inner : chip.Inner
  pub call : Call
  pub device : Device
  pub memory : List ℕ
  pub holding : List ℕ
  pub outgoing : List ℕ
  pub acceptable : Acceptable call device memory holding outgoing
  pub lent : Handed call (lent_of device memory holding outgoing)
  pub invented : Invented device (ran call (world_of device memory holding outgoing)) (chip.calls inner call (lent_of device memory holding outgoing))

-- the same in the run of a list, as demand 3 has it, amid turns, arriving frames, host writes and refused calls: after some of them a counter, or
-- along them an edge, or what stands above it, is not what the definitions leave
pub data InventedAlong (d : Device) (after : Areas) (answers : List ℕ) (w : World) (said : List ℕ) : Type 0 where
  another_count : (k : Counter)
      → (word_at after.memory (of_scb d.units (counter_place k)) ≡ word_at w.memory (of_scb d.units (counter_place k)) → ⊥)
      → InventedAlong d after answers w said
  another_edges : (map from_edge answers ≡ map from_edge said → ⊥) → InventedAlong d after answers w said

pub record InventsAlong (chip : Chip) : Type 0 where
  pub inner : chip.Inner
  pub blocks : List ℕ
  pub acts : List Act
  pub more : List Act
  pub world : World
  pub comes : ListRun enough blocks (acts ++ more) world
  pub invented : InventedAlong world.device (started chip inner acts (shown world))
      (chip_answers chip inner (does (call attention) ∷ acts) (shown world))
      (run step (call attention ∷ events_in acts) world) (answers_of (call attention ∷ events_in acts) world)

-- the same while a frame is held, as demand 3 has it, amid the same
pub record InventsWhileHeld (chip : Chip) : Type 0 where
  pub inner : chip.Inner
  pub frame : Frame
  pub acts : List Act
  pub more : List Act
  pub world : World
  pub comes : HeldRun 132 frame (acts ++ more) world
  pub invented : InventedAlong world.device (chip_run chip inner acts (shown world)) (chip_answers chip inner acts (shown world))
      (run step (events_in acts) world) (answers_of (events_in acts) world)

-- the same along any trace of calls and host writes, from any state in range, whatever it does at calls that are to be refused: after it a counter of
-- the SCB, where that was or where it is, or along it an edge, or what stands above it, is not what the definitions leave
pub record InventsInTrace (chip : Chip) : Type 0 where
  pub inner : chip.Inner
  pub world : World
  pub acts : List Act
  pub right : Right world
  pub all_acceptable : AllAcceptable (events_in acts)
  pub scb : Device
  pub before_or_after : (scb ≡ world.device) ⊎ (scb ≡ (run step (events_in acts) world).device)
  pub invented : InventedAlong scb (chip_run chip inner acts (shown world)) (chip_answers chip inner acts (shown world))
      (run step (events_in acts) world) (answers_of (events_in acts) world)

-- ---- the list: a chip of any of these kinds; of one that marks commands complete, a third is enough, and so is one marking

pub data Wrong (chip : Chip) : Type 0 where
  refuses : RefusesAll chip → Wrong chip
  constant : OneAnswer chip → Wrong chip
  untouching : MemoryAsLent chip → Wrong chip
  marking : MarksOnly chip → Wrong chip
  setting_nothing : SetsNothing chip → Wrong chip
  measuring_nothing : MeasuresNothing chip → Wrong chip
  sending_nothing : SendsNothing chip → Wrong chip
  marking_some : MarksSome chip → Wrong chip
  first_only : FirstOnly chip → Wrong chip
  inventing : Invents chip → Wrong chip
  inventing_along : InventsAlong chip → Wrong chip
  inventing_while_held : InventsWhileHeld chip → Wrong chip
  inventing_in_trace : InventsInTrace chip → Wrong chip

-- the demand that document 01 names with each
abbrev pub LacksNamed : (chip : Chip) → Wrong chip → Type 0
LacksNamed chip (refuses k) = Demand1 chip → ⊥
LacksNamed chip (constant k) = Demand2 chip → ⊥
LacksNamed chip (untouching k) = Demand2 chip → ⊥
LacksNamed chip (marking k) = Demand2 chip → ⊥
LacksNamed chip (setting_nothing k) = Demand2 chip → ⊥
LacksNamed chip (measuring_nothing k) = Demand2 chip → ⊥
LacksNamed chip (sending_nothing k) = Demand2 chip → ⊥
LacksNamed chip (marking_some k) = Demand2 chip → ⊥
LacksNamed chip (first_only k) = (Demand2 chip → ⊥) × (Demand3 chip → ⊥)
LacksNamed chip (inventing k) = Demand2 chip → ⊥
LacksNamed chip (inventing_along k) = (Demand2 chip → ⊥) × (Demand3 chip → ⊥)
LacksNamed chip (inventing_while_held k) = (Demand2 chip → ⊥) × (Demand3 chip → ⊥)
LacksNamed chip (inventing_in_trace k) = Demand2 chip → ⊥
