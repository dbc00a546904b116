-- A service in numbers: receive's Service says what is done, and here stands that the numbers and the memory afterwards are those. Assumes
-- nothing.
use Rattle.std.specs.Prelude.{◌≡◌, Bool, false, ◌||◌, List, [], ℕ, ◌+◌, leb}
use Rattle.memory.specs.Address.{is_none}
use Rattle.memory.specs.Memory.{apply}
use Rattle.memory.specs.declared.Offset.{Offset}
use Rattle.memory.specs.declared.RealAddress.{RealAddress}
use Rattle.scb.specs.Words.{event_bits}
use Rattle.device.specs.Limits.{most_buffers}
use Rattle.device.specs.declared.Fate.{Fate}
use Rattle.device.specs.declared.Ru.{Ru}
use Rattle.device.specs.declared.Ru.TheVariants as ru
use Rattle.device.specs.declared.Storing.{Storing}
use Rattle.phases.specs.Fields.{offset_in, next_in}
use Rattle.phases.specs.Phases.{word_of, frame_word, storing_word, storing_of, filling_of}
use Rattle.receive.specs.Begin.{begun_by, begin}
use Rattle.receive.specs.Buffer.{after_buffer, buffer}
use Rattle.receive.specs.End.{descriptor_by, fate_of, settles, proceeds}
use Rattle.receive.specs.Part.{Part, Service}
use Rattle.packed.specs.Packed.{WordIs, RuUnitIs}
use Rattle.code_arrival.specs.Arrives.{frame_in}
use Rattle.code_receive.specs.declared.Received.{Received}

-- what a unit's word tells: its offsets, and the frame begun
abbrev pub offset_of : ℕ → Offset
offset_of n = record { 0 = offset_in n }

abbrev pub next_of : ℕ → Offset
next_of n = record { 0 = next_in n }

abbrev pub storing_in : ℕ → Storing
storing_in n = storing_of (word_of n)

-- ---- the unit's part of the world

abbrev pub part_by : RealAddress → Offset → Ru → List ℕ → Part
part_by base scb unit holding = record { base = base; scb = scb; unit = unit; holding = holding }

-- one of which neither the SCB nor the unit is asked
abbrev pub part_at : RealAddress → List ℕ → Part
part_at base holding = part_by base (record { 0 = 0 }) ru.Idle holding

-- ---- that the code does what is said

-- a service, in memory as it was before
pub record Serves (said : Service) (before : List ℕ) (r : Received) (m : List ℕ) : Type 0 where
  pub unit : RuUnitIs said.unit r.unit
  pub raised : r.raised ≡ event_bits said.raised
  pub memory : m ≡ apply said.writes before

-- a service by its unit's tag and words, and what it raises
abbrev pub served : (tag word rest raised : ℕ) → Received
served tag word rest raised = record { unit = record { tag = tag; word = word; rest = rest }; raised = raised }

-- one that raises nothing
abbrev pub quiet : (tag word rest : ℕ) → Received
quiet tag word rest = served tag word rest 0

-- ---- the shapes of the inner functions' contracts, by the unit's word: a number that is a held frame's, or one's that is being filled

abbrev pub HeldIn : ℕ → Type 0
HeldIn n = WordIs (frame_word (offset_of n) (frame_in n) (word_of n).first) n

abbrev pub FillingIn : ℕ → Type 0
FillingIn n = WordIs (storing_word (storing_in n) (next_in n) false) n

-- a unit comes of a word that is as is said, and nothing is raised
pub record Quietly (Given : Type 0) (next : Ru) (r : Received) : Type 0 where
  pub raised : r.raised ≡ 0
  pub unit : Given → RuUnitIs next r.unit

-- a frame that is begun, by the descriptor's word +2
abbrev pub begun_in : ℕ → (control : ℕ) → Storing
begun_in n control = begun_by (offset_of n) (frame_in n) (word_of n).first control

-- a begin; what follows a buffer; a buffer
abbrev pub begin_in : RealAddress → ℕ → List ℕ → Service
begin_in base n m = begin (part_at base []) (offset_of n) (frame_in n) (word_of n).first m

abbrev pub after_in : ℕ → Offset → (el : Bool) → (used filled : ℕ) → Ru
after_in n next el used filled =
    after_buffer (leb (frame_in n).length filled) el (is_none next) (leb most_buffers (used + 1)) (storing_in n)
    (record { next = next; used = used + 1; filled = filled })

abbrev pub buffer_in : RealAddress → (n rest : ℕ) → (holding m : List ℕ) → Service
buffer_in base n rest holding m = buffer (part_at base holding) (storing_in n) (filling_of (word_of n) rest) m

-- the descriptor is written; with it the counter; whatever the SCB's offset and the unit, of which nothing is asked
abbrev pub Describes : RealAddress → ℕ → (stored lacking : Bool) → (holding before after : List ℕ) → Type 0
Describes base n stored lacking h before after = (scb : Offset) (unit : Ru) → after ≡ apply (descriptor_by stored lacking (part_by base scb unit h) (storing_in n)) before

abbrev pub Settles : RealAddress → Offset → ℕ → (lacking : Bool) → (holding before after : List ℕ) → Type 0
Settles base scb n lacking h before after = (unit : Ru) → after ≡ apply (settles lacking (part_by base scb unit h) (storing_in n) before) before

-- where the unit goes after a frame; an end
abbrev pub proceeds_in : (exhausted : Bool) → RealAddress → ℕ → Fate → List ℕ → Service
proceeds_in exhausted base n f m = proceeds exhausted (part_at base []) (storing_in n) (next_of n) f [] m

abbrev pub end_in : (lacking : Bool) → Part → ℕ → List ℕ → Service
end_in lacking p n m =
    proceeds (lacking || ((storing_in n).el || (word_of n).sixth)) p (storing_in n) (next_of n) (fate_of lacking (frame_in n)) (settles lacking p (storing_in n) m) m
