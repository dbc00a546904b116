-- Answers, lengths, refusals and reset: 01, "Calls, lent areas, refusals". Each is a computed case that another reading fails. Assumes nothing.
use mathlib.Core.Path.{◌≡◌, refl}
use mathlib.Core.Bool.{Bool, true, false, ◌&&◌}
use mathlib.Core.List.{[], ◌∷◌, map}
use Prim.Native.Nat.{ℕ}
use lib.Dec.{T, eqb}
use lib.ListN.{length, get_or, replicate}
use lib.Count.{ones}
use Rattle.std.specs.Prelude.{Some}
use Rattle.memory.specs.Size.{size_allowed}
use Rattle.scb.specs.Words.{bits_at}
use Rattle.device.specs.Answers.{answered, arrived}
use Rattle.device.specs.Numbers.{refusal_number, refusal_or_0}
use Rattle.device.specs.declared.Reason.TheVariants as reasons
use Rattle.device.specs.declared.Refusal.TheVariants as refusal
use Rattle.chip.specs.World.{reset_of}
use Rattle.calls.specs.Answer.{answer_number, with_turns, number, sent_length, edge, reason, turns_taken, without_turns}
use Rattle.calls.specs.Refusals.{is_right, rows, reset_rows, first_wrong}
use Rattle.calls.specs.Calls.{refused_answer, reset_call}

-- the number, the length sent from bit 16 on, the edge in bit 32, the reason from bit 40 on
pub answers_packed : T (eqb (answer_number (answered 60 true)) 0x1003C0000
    && eqb (answer_number (arrived (Some reasons.Bad))) 0x50000000000 && eqb (answer_number (refused_answer refusal.Foreign)) 4 && eqb (answer_number (refused_answer refusal.Memory)) 1
    && eqb (with_turns 0x1003C0000 3) 0x30001003C0000)
unfolding answer_number
answers_packed = tt

-- each part is its own bits and no other's: first of an answer, then of one in which every other bit is set
pub taken_apart : T (eqb (number 0x30501003C0004) 4 && eqb (sent_length 0x30501003C0004) 60 && eqb (edge 0x30501003C0004) 1
    && eqb (reason 0x30501003C0004) 5 && eqb (turns_taken 0x30501003C0004) 3 && eqb (without_turns 0x30501003C0004) 0x501003C0004
    && eqb (number 0xFFFFFFFFFFFF0000) 0 && eqb (sent_length 0xFFFFFFFF0000FFFF) 0 && eqb (edge 0xFFFFFFFEFFFFFFFF) 0
    && eqb (reason 0xFFFF00FFFFFFFFFF) 0 && eqb (turns_taken 0x0000FFFFFFFFFFFF) 0)
unfolding bits_at
taken_apart = tt

-- the number for these lengths: memory, holding area, outgoing area, record, frame; and for the record being an image
abbrev given : (memory holding outgoing kept frame : ℕ) → (image : Bool) → ℕ
given m h o k f image =
    refusal_or_0 (first_wrong (is_right (record { memory = m; holding = h; outgoing = o; kept = k; frame = f }) image) rows)

-- holding area, 2,048 bytes; outgoing area, 2,048 bytes; device record, 256 bytes: neither less nor more; a frame up to 2,048
pub lengths_exact : T (eqb (given 8192 2048 2048 256 2048 true) 0
    && eqb (given 8192 2047 2048 256 0 true) 22 && eqb (given 8192 2049 2048 256 0 true) 22 && eqb (given 8192 2048 2047 256 0 true) 23
    && eqb (given 8192 2048 2049 256 0 true) 23 && eqb (given 8192 2048 2048 255 0 true) 21 && eqb (given 8192 2048 2048 257 0 true) 21
    && eqb (given 8192 2048 2048 256 2049 true) 3 && eqb (given 8192 2048 2048 256 0 false) 4 && eqb (given 8193 2048 2048 256 0 true) 1)
unfolding size_allowed ones
lengths_exact = tt

-- the first of the order that applies is given: of all six 1; of the other five 21; and so on, each of those that are left
pub first_of_the_order : T (eqb (given 0 0 0 0 2049 false) 1 && eqb (given 8192 0 0 0 2049 false) 21 && eqb (given 8192 0 0 256 2049 false) 22
    && eqb (given 8192 2048 0 256 2049 false) 23 && eqb (given 8192 2048 2048 256 2049 false) 3 && eqb (given 8192 2048 2048 256 2048 false) 4)
unfolding size_allowed ones
first_of_the_order = tt

-- which is 1, 21, 22, 23, 3, 4; of reset 21 alone
pub rows_in_order : (map refusal_number rows ≡ 1 ∷ 21 ∷ 22 ∷ 23 ∷ 3 ∷ 4 ∷ []) × (map refusal_number reset_rows ≡ 21 ∷ [])
rows_in_order = (refl, refl)

-- reset takes the record alone: one of the wrong length is refusal 21, and stays; its content is ignored
pub reset_of_no_record : T (eqb (reset_call (7 ∷ [])).answer 21 && eqb (length (reset_call (7 ∷ [])).kept) 1 && eqb (get_or (reset_call (7 ∷ [])).kept 0 0) 7
    && eqb (reset_call (replicate 256 7)).answer 0)
unfolding answer_number reset_of reset_call
reset_of_no_record = tt
