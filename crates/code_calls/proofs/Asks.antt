-- What is asked, as the call that C makes: each is one of `asked_call`. Assumes nothing.
use mathlib.Core.Path.{◌≡◌, refl, ap, ◌∙◌}
use mathlib.Core.List.{List, []}
use Prim.Native.Nat.{ℕ, ◌+◌, ◌*◌, ◌^◌, ◌<◌}
use native.Mathlib.Omega.{arith}
use Rattle.std.specs.Prelude.{Option, Some, None}
use Rattle.device.specs.declared.Refusal.{Refusal}
use Rattle.image.specs.Image.{decode_of, device_at}
use Rattle.image.specs.Found.{Found}
use Rattle.image.specs.Found as is
use Rattle.chip.specs.World.{World, world_of}
use Rattle.chip.specs.Turn.{turn_of}
use Rattle.chip.specs.Run.{run_of}
use Rattle.chip.proofs.Run.{run_one}
use Rattle.calls.specs.Calls.{Areas, Called, Calls, refusal_of, on_bytes, decoded_on, unless_refused, run_on_bytes, attention_call, arrival_call, turn_call, run_call, answer_number}
use Rattle.code_calls.specs.declared.Asked.TheVariants as asked
use Rattle.code_calls.specs.Inner.{turns, asked_call}

-- a promise may be shown of what the call comes to
pub as_said : {x y : Called} {n : ℕ} {m h out r : List ℕ} → x ≡ y → Calls y n m h out r → Calls x n m h out r
as_said e k = rw e k

pub asks_attention : (a : Areas) → asked_call asked.Attention a [] 0 0 0 ≡ attention_call a
unfolding asked_call attention_call
asks_attention a = refl

pub asks_arrival : (a : Areas) (f : List ℕ) (v : ℕ) → asked_call asked.Arrival a f v 0 0 ≡ arrival_call a f v
unfolding asked_call arrival_call
asks_arrival a f v = refl

pub asks_run : (a : Areas) (report budget : ℕ) → report < 65536 → asked_call asked.Turns a [] report budget (2 ^ 48) ≡ run_call a report budget
unfolding asked_call run_call
asks_run a report budget h = ap (λ (x : ℕ). unless_refused (refusal_of a []) (λ w. run_on_bytes (run_of budget w x)) a) (omega arith)

one_kept : (w : World) (report : ℕ) → turns report 1 0 w ≡ on_bytes (turn_of w report)
one_kept w report =
    let z : answer_number (turn_of w report).outcome.answer + 1 * 0 ≡ answer_number (turn_of w report).outcome.answer = omega arith in
    rw (run_one w report, z)

one_on : (d : Found) (a : Areas) (report : ℕ) → decoded_on (turns report 1 0) a d ≡ decoded_on (λ w. on_bytes (turn_of w report)) a d
one_on (is.Units u) a report = one_kept (world_of (device_at a.kept u) a.memory a.holding a.outgoing) report
one_on is.Foreign a report = refl

one_by : (r : Option Refusal) (a : Areas) (report : ℕ) → unless_refused r (turns report 1 0) a ≡ unless_refused r (λ w. on_bytes (turn_of w report)) a
one_by None a report = one_on (decode_of a.kept) a report
one_by (Some r) a report = refl

-- a run of one turn, uncounted, is a turn
pub asks_turn : (a : Areas) (report : ℕ) → report < 65536 → asked_call asked.Turns a [] report 1 0 ≡ turn_call a report
unfolding asked_call turn_call
asks_turn a report h =
    ap (λ (x : ℕ). unless_refused (refusal_of a []) (turns x 1 0) a) (omega arith) ∙ one_by (refusal_of a []) a report
