-- The calls on numbers and byte areas: 01, "Calls, lent areas, refusals". Each exported call's promise cites one of these. Assumes nothing.
use Rattle.std.specs.Prelude.{◌≡◌, Bool, true, false, not, List, [], ℕ, eqb, length, Option, Some, None}
use Rattle.device.specs.declared.Answer.{Answer}
use Rattle.device.specs.declared.Refusal.{Refusal}
use Rattle.device.specs.declared.Refusal.TheVariants as refusal
use Rattle.image.specs.Image.{image_of, decode_of, device_at}
use Rattle.image.specs.Found.{Found}
use Rattle.image.specs.Found as is
use Rattle.chip.specs.World.{World, Ran, world_of, reset_of}
use Rattle.chip.specs.Attention.{attention_of}
use Rattle.chip.specs.Arrival.{arrival_of}
use Rattle.chip.specs.Turn.{turn_of}
use Rattle.chip.specs.Run.{Run, run_of}
use Rattle.chip.specs.Call.{Call, reset, attention, arrive, turn}
unfoldable pub use Rattle.calls.specs.Answer.{answer_number}
use Rattle.calls.specs.Answer.{with_turns, number}
use Rattle.calls.specs.Refusals.{Lengths, is_right, rows, reset_rows, first_wrong}

-- ---- what is lent, and what is left

-- shared memory, holding area, outgoing area, device record
pub record Areas : Type 0 where
  pub memory : List ℕ
  pub holding : List ℕ
  pub outgoing : List ℕ
  pub kept : List ℕ

abbrev pub areas_of : List ℕ → List ℕ → List ℕ → List ℕ → Areas
areas_of m h out r = record { memory = m; holding = h; outgoing = out; kept = r }

-- what a call leaves: its answer as one number, and the areas
pub record Called : Type 0 where
  pub answer : ℕ
  pub areas : Areas

-- a number and four areas are what is said: the shape of every exported promise
pub record Calls (said : Called) (a : ℕ) (m h out r : List ℕ) : Type 0 where
  pub answer : a ≡ said.answer
  pub memory : m ≡ said.areas.memory
  pub holding : h ≡ said.areas.holding
  pub outgoing : out ≡ said.areas.outgoing
  pub kept : r ≡ said.areas.kept

-- ---- refusals

-- the record is the image of a state within docs/' ranges
abbrev pub is_image : Found → Bool
is_image (is.Units u) = true
is_image is.Foreign = false

-- f: the arriving frame, empty for the other calls
abbrev pub lengths_of : Areas → List ℕ → Lengths
lengths_of a f =
    record {
      memory = length a.memory;
      holding = length a.holding;
      outgoing = length a.outgoing;
      kept = length a.kept;
      frame = length f;
    }

-- of a call that takes all four
unfoldable pub refusal_of : Areas → List ℕ → Option Refusal
refusal_of a f = first_wrong (is_right (lengths_of a f) (is_image (decode_of a.kept))) rows

-- length 0, no interrupt edge, no reason; a refusal changes nothing lent
abbrev pub refused_answer : Refusal → Answer
refused_answer r = record { refusal = Some r; length = 0; edge = false; reason = None }

abbrev pub refused : Refusal → Areas → Called
refused r a = record { answer = answer_number (refused_answer r); areas = a }

-- ---- a call that is not refused: the chip's definition, under decode and image

abbrev pub on_bytes : Ran → Called
on_bytes r =
    record {
      answer = answer_number r.outcome.answer;
      areas = areas_of r.memory r.holding r.outgoing (image_of r.outcome.device);
    }

-- what is done to the world that the record says
abbrev pub decoded_on : (World → Called) → Areas → Found → Called
decoded_on does a (is.Units u) = does (world_of (device_at a.kept u) a.memory a.holding a.outgoing)
decoded_on does a is.Foreign = refused refusal.Foreign a

abbrev pub unless_refused : Option Refusal → (World → Called) → Areas → Called
unless_refused None does a = decoded_on does a (decode_of a.kept)
unless_refused (Some r) does a = refused r a

abbrev pub called_on : (World → Ran) → Areas → Found → Called
called_on run a decoded = decoded_on (λ w. on_bytes (run w)) a decoded

abbrev pub called_by : Option Refusal → (World → Ran) → Areas → Called
called_by r run a = unless_refused r (λ w. on_bytes (run w)) a

-- ---- attention, arrival, turn

unfoldable pub attention_call : Areas → Called
attention_call a = called_by (refusal_of a []) attention_of a

unfoldable pub arrival_call : Areas → List ℕ → ℕ → Called
arrival_call a f v = called_by (refusal_of a f) (λ w. arrival_of w f v) a

unfoldable pub turn_call : Areas → ℕ → Called
turn_call a report = called_by (refusal_of a []) (λ w. turn_of w report) a

-- ---- a run of turns

-- the answer of the last turn, with the number of turns taken
abbrev pub run_on_bytes : Run → Called
run_on_bytes r =
    record {
      answer = with_turns (answer_number r.answer) r.taken;
      areas = areas_of r.world.memory r.world.holding r.world.outgoing (image_of r.world.device);
    }

-- it is refused as a turn is, with no turn taken, whatever the budget
unfoldable pub run_call : Areas → (report budget : ℕ) → Called
run_call a report budget = unless_refused (refusal_of a []) (λ w. run_on_bytes (run_of budget w report)) a

-- ---- reset

-- what a reset leaves: reset takes the record alone
pub record Renewed : Type 0 where
  pub answer : ℕ
  pub kept : List ℕ

pub record Renews (said : Renewed) (a : ℕ) (r : List ℕ) : Type 0 where
  pub answer : a ≡ said.answer
  pub kept : r ≡ said.kept

-- it ignores the record's content and writes a fresh one
abbrev pub renewed : Option Refusal → List ℕ → Renewed
renewed None r = record { answer = answer_number reset_of.answer; kept = image_of reset_of.device }
renewed (Some x) r = record { answer = answer_number (refused_answer x); kept = r }

-- no other area is lent, and nothing is asked of the content
unfoldable pub reset_call : List ℕ → Renewed
reset_call r =
    renewed (first_wrong (is_right (record { memory = 0; holding = 0; outgoing = 0; kept = length r; frame = 0 }) true) reset_rows) r

-- ---- the four calls as one

-- reset takes the record alone
abbrev pub renewed_in : Areas → Renewed → Called
renewed_in a r = record { answer = r.answer; areas = areas_of a.memory a.holding a.outgoing r.kept }

abbrev pub called : Call → Areas → Called
called reset a = renewed_in a (reset_call a.kept)
called attention a = attention_call a
called (arrive f v) a = arrival_call a f v
called (turn report) a = turn_call a report

-- 0 if not refused
abbrev pub is_refused : Called → Bool
is_refused r = not (eqb (number r.answer) 0)
