-- An answer as one number: 01, "Calls, lent areas, refusals", "An answer is the number (0 if not refused), the length sent (0 if none) and the
-- edge"; 02, Wish 3, "An arrival that is dropped also says why". Assumes nothing.
use Rattle.std.specs.Prelude.{ℕ, ◌+◌, ◌*◌, ◌/◌, ◌^◌}
use Rattle.scb.specs.Words.{bits_at, one}
use Rattle.device.specs.Numbers.{refusal_or_0, reason_or_0}
use Rattle.device.specs.declared.Answer.{Answer}

-- ---- made

-- number in bits 0 to 15, length in bits 16 to 31, edge in bit 32, reason in bits 40 to 47
unfoldable pub answer_number : Answer → ℕ
answer_number a = refusal_or_0 a.refusal + a.length * 2 ^ 16 + one a.edge * 2 ^ 32 + reason_or_0 a.reason * 2 ^ 40

-- of a run, with the number of turns taken in bits 48 to 63
abbrev pub with_turns : (answer turns : ℕ) → ℕ
with_turns answer turns = answer + turns * 2 ^ 48

-- ---- taken apart

abbrev pub number : ℕ → ℕ
number answer = bits_at answer 0 16

abbrev pub sent_length : ℕ → ℕ
sent_length answer = bits_at answer 16 16

abbrev pub edge : ℕ → ℕ
edge answer = bits_at answer 32 1

-- why an arrival was dropped
abbrev pub reason : ℕ → ℕ
reason answer = bits_at answer 40 8

-- all above bit 47, not 16 bits alone: with a budget of 16 bits, as C's, they are bits 48 to 63, and the statements hold of any budget
abbrev pub turns_taken : ℕ → ℕ
turns_taken answer = answer / 2 ^ 48

-- a run's answer, as its last turn gave it
abbrev pub without_turns : ℕ → ℕ
without_turns answer = bits_at answer 0 48
