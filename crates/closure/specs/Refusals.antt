-- Demand 1, the table of refusals: 01, "Calls, lent areas, refusals", as 02, Wish 3, mends it. Assumes nothing.
use Rattle.std.specs.Prelude.{◌≡◌, List, [], ◌∷◌, ◌⊎◌, ℕ, length, Option, Some, None}
use Rattle.memory.specs.Size.{Allowed}
use Rattle.device.specs.Limits.{holding_size, outgoing_size, record_size}
use Rattle.device.specs.Numbers.{refusal_number, refusal_or_0}
use Rattle.device.specs.declared.Device.{Device}
use Rattle.device.specs.declared.Refusal.{Refusal}
use Rattle.device.specs.declared.Refusal.TheVariants as refusal
use Rattle.chip.specs.Call.{Call, reset, attention, arrive, turn}
use Rattle.calls.specs.Refusals.{rows, reset_rows}
use Rattle.calls.specs.Calls.{Areas, Called}
use Rattle.traces.specs.Bytes.{called, number, sent_length, edge, reason}
use Rattle.traces.specs.Areas.{arriving, NotOverlong, AreBytes, Holds}

-- ---- what each row of the table asks

-- an arriving frame is not overlong
abbrev pub FrameRight : Call → Type 0
FrameRight c = NotOverlong (arriving c)

-- 1: N is allowed, a power of two from 8,192 to 16,777,216. 21, 22, 23: the device record has 256 bytes, the holding area 2,048, the outgoing area
-- 2,048. 3: no arriving frame exceeds 2,048 bytes. 4: the record is the image of a state within docs/' ranges
abbrev pub Right : Call → Areas → Refusal → Type 0
Right c a refusal.Memory = Allowed (length a.memory)
Right c a refusal.Record = length a.kept ≡ record_size
Right c a refusal.Holding = length a.holding ≡ holding_size
Right c a refusal.Outgoing = length a.outgoing ≡ outgoing_size
Right c a refusal.Overlong = FrameRight c
Right c a refusal.Foreign = (d : Device) × Holds a.kept d

-- ---- which rows a call has: reset takes the record alone and ignores its content, every other call takes all four

abbrev pub rows_of : Call → List Refusal
rows_of reset = reset_rows
rows_of attention = rows
rows_of (arrive f v) = rows
rows_of (turn report) = rows

abbrev pub TakesAll : Call → Type 0 → Type 0
TakesAll reset P = Unit {0}
TakesAll attention P = P
TakesAll (arrive f v) P = P
TakesAll (turn report) P = P

-- ---- the first of the order that applies is given: the number of the first row that is not right, 0 if each is

abbrev pub FirstWrong : (Refusal → Type 0) → List Refusal → ℕ → Type 0
FirstWrong Right [] n = n ≡ 0
FirstWrong Right (r ∷ rs) n = ((Right r → ⊥) × (n ≡ refusal_number r)) ⊎ (Right r × FirstWrong Right rs n)

-- when a number is given for a call on what is lent
abbrev pub When : ℕ → Call → Areas → Type 0
When n c a = FirstWrong (Right c a) (rows_of c) n

-- the table written out, for a call that takes all four: what each of the seven numbers means
abbrev pub Means : Option Refusal → Call → Areas → Type 0
Means (Some refusal.Memory) c a = Right c a refusal.Memory → ⊥
Means (Some refusal.Record) c a = Right c a refusal.Memory × (Right c a refusal.Record → ⊥)
Means (Some refusal.Holding) c a = Right c a refusal.Memory × (Right c a refusal.Record × (Right c a refusal.Holding → ⊥))
Means (Some refusal.Outgoing) c a = Right c a refusal.Memory × (Right c a refusal.Record × (Right c a refusal.Holding × (Right c a refusal.Outgoing → ⊥)))
Means (Some refusal.Overlong) c a =
    Right c a refusal.Memory × (Right c a refusal.Record × (Right c a refusal.Holding × (Right c a refusal.Outgoing × (Right c a refusal.Overlong → ⊥))))
Means (Some refusal.Foreign) c a =
    Right c a refusal.Memory
    × (Right c a refusal.Record × (Right c a refusal.Holding × (Right c a refusal.Outgoing × (Right c a refusal.Overlong × (Right c a refusal.Foreign → ⊥)))))
Means None c a =
    Right c a refusal.Memory
    × (Right c a refusal.Record × (Right c a refusal.Holding × (Right c a refusal.Outgoing × (Right c a refusal.Overlong × Right c a refusal.Foreign))))

-- a row is not right; of none nothing is said
abbrev pub Wrong : Option Refusal → Call → Areas → Type 0
Wrong None c a = Unit {0}
Wrong (Some r) c a = Right c a r → ⊥

-- a call, and what is lent with it, at which a row is the first that is not right, or none is
pub record Seen (r : Option Refusal) : Type 0 where
  pub call : Call
  pub areas : Areas
  pub lent : AreBytes areas
  pub wrong : Wrong r call areas
  pub given : number (called call areas).answer ≡ refusal_or_0 r

-- ---- a refusal changes nothing lent; length 0, no interrupt edge, no reason

pub record Untouched (a : Areas) (r : Called) : Type 0 where
  pub areas : r.areas ≡ a
  pub length : sent_length r.answer ≡ 0
  pub edge : edge r.answer ≡ 0
  pub reason : reason r.answer ≡ 0
  -- nor anything else: the answer is the number
  pub whole : r.answer ≡ number r.answer
