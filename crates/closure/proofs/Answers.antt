-- What a call on a state answers: number 0, and from a state in range no more than 2,048 bytes sent. Assumes nothing.
use mathlib.Core.Path.{◌≡◌, refl, ap}
use mathlib.Core.Bool.{Bool, true, false}
use Prim.Native.Nat.{ℕ, ◌≤◌}
use native.Mathlib.Omega.{arith}
use Rattle.std.specs.Prelude.{None}
use Rattle.device.specs.State.{cu_works, ru_works}
use Rattle.device.specs.declared.Answer.{Answer}
use Rattle.chip.specs.World.{World, reset_of}
use Rattle.chip.specs.Attention.{attention_of}
use Rattle.chip.specs.Arrival.{arrival_of}
use Rattle.chip.specs.Turn.{served_by, concluded, command_turn, receive_turn, turn_by, turn_of}
use Rattle.chip.specs.Call.{Call, reset, attention, arrive, turn, ran}
use Rattle.chip.proofs.Answers.{attention_plain, turn_plain}
use Rattle.closure.specs.Sound.{Sound}
use Rattle.closure.proofs.Control.{cu_good, setup_good}
use Rattle.closure.proofs.Closed.{served_good}

command_most : (w : World) (report : ℕ) → Sound w → (command_turn w report).outcome.answer.length ≤ 2048
unfolding command_turn concluded
command_most w report s =
    let c = cu_good w.device s.range s.wide in
    (served_good w.device w.memory w.outgoing report c (setup_good w.device s.range s.wide) s.memory s.outgoing).length

turn_most : (c r l : Bool) (w : World) (report : ℕ) → Sound w → (turn_by (served_by c r l) w report).outcome.answer.length ≤ 2048
unfolding receive_turn concluded
turn_most false false l w report s = omega arith
turn_most true false l w report s = command_most w report s
turn_most false true l w report s = omega arith
turn_most true true true w report s = command_most w report s
turn_most true true false w report s = omega arith

-- number 0: refusals are not the chip's to give
pub number_accepted : (c : Call) (w : World) → (ran c w).outcome.answer.refusal ≡ None
unfolding reset_of attention_of arrival_of
number_accepted reset w = refl
number_accepted attention w = ap (λ (a : Answer). a.refusal) (attention_plain w.device w.memory)
number_accepted (arrive f v) w = refl
number_accepted (turn report) w = ap (λ (a : Answer). a.refusal) (turn_plain w report)

-- no frame sent exceeds 2,048 bytes
pub sent_most : (c : Call) (w : World) → Sound w → (ran c w).outcome.answer.length ≤ 2048
unfolding reset_of attention_of arrival_of turn_of
sent_most reset w s = omega arith
sent_most attention w s =
    let e = ap (λ (a : Answer). a.length) (attention_plain w.device w.memory) in omega (arith, e)
sent_most (arrive f v) w s = omega arith
sent_most (turn report) w s =
    turn_most (cu_works w.device.units.cu) (ru_works w.device.units.ru) w.device.units.rulast w report s
