-- What is printed of an answer are its parts, `answer_printed`: number, length, edge and reason as the chip's definition gives them, and how many
-- turns a run has taken. No contract cites this file. Assumes nothing.
use mathlib.Core.Path.{◌≡◌}
use mathlib.Core.List.{◌++◌}
use Prim.Native.Nat.{ℕ, ◌%◌, ◌^◌, ◌<◌}
use native.Mathlib.Omega.{arith}
use Rattle.scb.specs.Words.{one}
use Rattle.device.specs.Numbers.{refusal_or_0, reason_or_0}
use Rattle.device.specs.declared.Answer.{Answer}
use Rattle.calls.specs.Answer.{answer_number, with_turns, turns_taken}
use Rattle.calls.proofs.Answer.{told, told_number_of_run}
use Rattle.texts.specs.Codes.{codes}
use Rattle.texts.specs.Texts.{decimal, further_text, reason_text, answer_text}

pub answer_printed : (a : Answer) (taken : ℕ) → a.length < 65536 → taken < 65536
    → answer_text (with_turns (answer_number a) taken)
    ≡ decimal (refusal_or_0 a.refusal) ++ codes " " ++ decimal a.length ++ codes " " ++ decimal (one a.edge) ++ further_text taken
    ++ reason_text (reason_or_0 a.reason) ++ codes "\n"
unfolding answer_text
answer_printed a taken l t =
    let p = told a taken l in
    let k : turns_taken (with_turns (answer_number a) taken) % 2 ^ 16 ≡ taken = omega (arith, p.taken, t) in
    rw (told_number_of_run a taken, p.sent, p.edged, p.explained, k)
