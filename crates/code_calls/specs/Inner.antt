-- The shapes of the contracts of the code's inner functions: what is asked, and a call on a record that is an image. Assumes nothing.
use Rattle.std.specs.Prelude.{◌≡◌, true, List, Option, ℕ, ◌+◌, ◌*◌, ◌%◌, ◌^◌}
use Rattle.device.specs.declared.Refusal.{Refusal}
use Rattle.device.specs.declared.Units.{Units}
use Rattle.packed.specs.Packed.{packed_of}
use Rattle.packed.specs.declared.Packed.{Packed}
use Rattle.image.specs.Found as is
use Rattle.image.specs.Image.{image_of, decode_of, device_at}
use Rattle.chip.specs.World.{World, world_of}
use Rattle.chip.specs.Attention.{attention_of}
use Rattle.chip.specs.Arrival.{arrival_of}
use Rattle.chip.specs.Run.{Run, run_of}
use Rattle.calls.specs.Refusals.{is_right, rows, first_wrong}
use Rattle.calls.specs.Calls.{Areas, Called, Calls, areas_of, answer_number, refusal_of, unless_refused, on_bytes}
use Rattle.code_calls.specs.declared.Asked.{Asked}
use Rattle.code_calls.specs.declared.Asked.TheVariants as asked

-- why a call is refused by the lengths alone, if it is: the record is not looked at
abbrev pub by_lengths : (memory holding outgoing kept frame : ℕ) → Option Refusal
by_lengths memory holding outgoing kept frame =
    first_wrong (is_right (record { memory = memory; holding = holding; outgoing = outgoing; kept = kept; frame = frame }) true) rows

-- ---- what is asked of a world

abbrev pub attends : World → Called
attends w = on_bytes (attention_of w)

abbrev pub arrives : (f : List ℕ) (v : ℕ) → World → Called
arrives f v w = on_bytes (arrival_of w f v)

-- turns in a row, each of which adds a unit to the answer: none for a turn, 2 ^ 48 for a run
abbrev pub kept_turns : (unit : ℕ) → Run → Called
kept_turns unit r =
    record {
      answer = answer_number r.answer + r.taken * unit;
      areas = areas_of r.world.memory r.world.holding r.world.outgoing (image_of r.world.device);
    }

abbrev pub turns : (report budget unit : ℕ) → World → Called
turns report budget unit w = kept_turns unit (run_of budget w report)

-- `line` is what the line side tells, a verdict or a report of 16 bits
abbrev pub asked_on : Asked → (f : List ℕ) (line budget unit : ℕ) → World → Called
asked_on asked.Attention f line budget unit w = attends w
asked_on asked.Arrival f line budget unit w = arrives f line w
asked_on asked.Turns f line budget unit w = turns (line % 2 ^ 16) budget unit w

-- every call but reset
unfoldable pub asked_call : Asked → Areas → (f : List ℕ) (line budget unit : ℕ) → Called
asked_call x a f line budget unit = unless_refused (refusal_of a f) (asked_on x f line budget unit) a

-- ---- a call on a record that is an image

-- a record is the image of a device with these units, whose numbers these are
pub record Finds (r : List ℕ) (k : Packed) (u : Units) : Type 0 where
  pub found : decode_of r ≡ is.Units u
  pub numbers : k ≡ packed_of u

-- what is done to the device of the numbers k
abbrev pub OnImage : (k : Packed) (does : World → Called) → Areas → (n : ℕ) (m h out r : List ℕ) → Type 0
OnImage k does a n m h out r =
    (u : Units) → Finds a.kept k u → Calls (does (world_of (device_at a.kept u) a.memory a.holding a.outgoing)) n m h out r
