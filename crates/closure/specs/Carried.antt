-- From states to the areas that are lent: what is shown of a call on a state holds of the call on the bytes. Assumes nothing.
use Rattle.std.specs.Prelude.{◌≡◌, ℕ, ◌≤◌, length}
use Rattle.scb.specs.Words.{one}
use Rattle.device.specs.Numbers.{reason_or_0}
use Rattle.device.specs.declared.Answer.{Answer}
use Rattle.device.specs.declared.Device.{Device}
use Rattle.image.specs.Image.{decode_of, device_at}
use Rattle.image.specs.Found as is
use Rattle.chip.specs.Call.{Call, ran}
use Rattle.calls.specs.Calls.{Areas, answer_number, on_bytes}
use Rattle.traces.specs.Bytes.{called, number, sent_length, edge, reason}
use Rattle.traces.specs.Areas.{Holds, world_in}
use Rattle.closure.specs.Refusals.{TakesAll}

-- each area is as long as it was
pub record AsLong (a b : Areas) : Type 0 where
  pub memory : length b.memory ≡ length a.memory
  pub holding : length b.holding ≡ length a.holding
  pub outgoing : length b.outgoing ≡ length a.outgoing
  pub kept : length b.kept ≡ length a.kept

-- a call on areas does what it does on the state d: answer, areas and record; and the record that it leaves is accepted again, as the state
-- that the call leaves
pub record Carried (c : Call) (d : Device) (a : Areas) : Type 0 where
  pub same : called c a ≡ on_bytes (ran c (world_in d a))
  pub holds : Holds (called c a).areas.kept (ran c (world_in d a)).outcome.device
  pub decoded : decode_of (called c a).areas.kept ≡ is.Units (ran c (world_in d a)).outcome.device.units
  pub back : device_at (called c a).areas.kept (ran c (world_in d a)).outcome.device.units ≡ (ran c (world_in d a)).outcome.device

-- some state does; but for reset, which ignores the record's content, it is the one that the record lent holds
pub record Again (c : Call) (a : Areas) : Type 0 where
  pub device : Device
  pub held : TakesAll c (Holds a.kept device)
  pub carried : Carried c device a

-- the answer of a call that is not refused, taken apart: number 0, and the length, no more than 2,048, the edge and the reason that the call on a state
-- answers
pub record Parts (answer : ℕ) (said : Answer) : Type 0 where
  pub number : number answer ≡ 0
  pub length : sent_length answer ≡ said.length
  pub most : sent_length answer ≤ 2048
  pub edge : edge answer ≡ one said.edge
  pub reason : reason answer ≡ reason_or_0 said.reason
  -- and nothing else
  pub whole : answer ≡ answer_number said
