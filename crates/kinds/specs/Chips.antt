-- An arbitrary chip, and what the promises of the exported calls permit it: 01, "The inspector's list". Assumes nothing.
use Rattle.std.specs.Prelude.{◌≡◌, List, [], ◌∷◌, ℕ, ◌^◌, ◌<◌}
use Rattle.chip.specs.Call.{Call, reset, attention, arrive, turn}
use Rattle.calls.specs.Calls.{Areas, areas_of, Called, Calls, Renews, attention_call, arrival_call, turn_call, reset_call}
use Rattle.traces.specs.Bytes.{called}
use Rattle.traces.specs.Areas.{FrameBytes, AreBytes}
use Rattle.traces.specs.Event.{Event, call, host}

-- anything with the four calls on bytes. Inner: all that its calls may depend on besides what is lent, be it kept from call to call or chance
pub record Chip : Type 1 where
  pub Inner : Type 0
  pub first : Inner
  pub calls : Inner → Call → Areas → Called
  pub next : Inner → Call → Areas → Inner

-- the chip of the definitions: nothing but what is lent
abbrev pub ours : Chip
ours = record { Inner = Unit {0}; first = tt; calls = λ s c a. called c a; next = λ s c a. tt }

-- ---- what C can hand over: every element of an area and of a frame is a byte, a verdict has 32 bits, a line report 16

abbrev pub Numbers : Call → Type 0
Numbers reset = Unit {0}
Numbers attention = Unit {0}
Numbers (arrive f v) = v < 2 ^ 32
Numbers (turn report) = report < 2 ^ 16

pub record Given (c : Call) : Type 0 where
  pub frame : FrameBytes c
  pub numbers : Numbers c

pub record Handed (c : Call) (a : Areas) : Type 0 where
  pub given : Given c
  pub areas : AreBytes a

-- ---- the promises: the clauses of lq_reset, lq_attention, lq_arrival and lq_turn, of what a call leaves

-- reset is lent the record alone, so that the other areas stay
pub record Renewing (a : Areas) (r : Called) : Type 0 where
  pub promise : Renews (reset_call a.kept) r.answer r.areas.kept
  pub memory : r.areas.memory ≡ a.memory
  pub holding : r.areas.holding ≡ a.holding
  pub outgoing : r.areas.outgoing ≡ a.outgoing

abbrev pub Says : Called → Called → Type 0
Says said r = Calls said r.answer r.areas.memory r.areas.holding r.areas.outgoing r.areas.kept

abbrev pub Permits : Call → Areas → Called → Type 0
Permits reset a r = Renewing a r
Permits attention a r = Says (attention_call a) r
Permits (arrive f v) a r = Says (arrival_call a f v) r
Permits (turn report) a r = Says (turn_call a report) r

-- whatever its inner state, each call leaves what its promise permits
pub record Meets (chip : Chip) : Type 0 where
  pub each : (s : chip.Inner) (c : Call) (a : Areas) → Handed c a → Permits c a (chip.calls s c a)

-- ---- a run: each call is lent the areas that were left before it; between calls the host may leave memory, holding area and outgoing area
-- otherwise, and keeps the record. Among these come calls that are to be refused, lent anything: what stood before such a call stands after it

pub data Act : Type 0 where
  does : Event → Act
  asks : Call → Areas → Act

-- what happens to the state: a refused call does nothing to it
abbrev pub events_in : List Act → List Event
events_in [] = []
events_in (does e ∷ acts) = e ∷ events_in acts
events_in (asks c a ∷ acts) = events_in acts

abbrev pub chip_run : (chip : Chip) → chip.Inner → List Act → Areas → Areas
chip_run chip s [] a = a
chip_run chip s (does (call c) ∷ acts) a = chip_run chip (chip.next s c a) acts (chip.calls s c a).areas
chip_run chip s (does (host m h out) ∷ acts) a = chip_run chip s acts (areas_of m h out a.kept)
chip_run chip s (asks c b ∷ acts) a = chip_run chip (chip.next s c b) acts a

-- the answers along it, of the calls that are not to be refused
abbrev pub chip_answers : (chip : Chip) → chip.Inner → List Act → Areas → List ℕ
chip_answers chip s [] a = []
chip_answers chip s (does (call c) ∷ acts) a =
    (chip.calls s c a).answer ∷ chip_answers chip (chip.next s c a) acts (chip.calls s c a).areas
chip_answers chip s (does (host m h out) ∷ acts) a = chip_answers chip s acts (areas_of m h out a.kept)
chip_answers chip s (asks c b ∷ acts) a = chip_answers chip (chip.next s c b) acts a
