-- A call on the image of a state in range comes to the definition on that state. Assumes nothing.
use mathlib.Core.Path.{◌≡◌, ap, ◌∙◌}
use mathlib.Core.Bool.{true}
use mathlib.Core.List.{List, []}
use Prim.Native.Nat.{ℕ, ◌≤◌}
use native.Mathlib.Omega.{arith}
use borrow.Author.Tests.{eq-eqb}
use lib.ListN.{length}
use Rattle.memory.specs.Size.{Allowed}
use Rattle.memory.proofs.Power.{size_allowed_lem}
use Rattle.device.specs.Limits.{holding_size, outgoing_size, record_size, longest}
use Rattle.device.specs.declared.Device.{Device}
use Rattle.image.specs.Image.{image_of}
use Rattle.image.specs.Ranges.{in_range, Wide}
use Rattle.image.proofs.Exact.{decode_image, device_back}
use Rattle.image.proofs.Steps.{length_image}
use Rattle.chip.specs.World.{World, Ran, world_of}
use Rattle.chip.specs.Attention.{attention_of}
use Rattle.chip.specs.Arrival.{arrival_of}
use Rattle.chip.specs.Turn.{turn_of}
use Rattle.chip.specs.Call.{Call, reset, attention, arrive, turn, ran}
use Rattle.calls.specs.Calls.{refusal_of, on_bytes, called_by, attention_call, arrival_call, turn_call, reset_call}
use Rattle.calls.proofs.Laws.{accepted}
use Rattle.traces.specs.Bytes.{called}
use Rattle.kinds.specs.Demands.{Acceptable, lent_of}

module _ (d : Device) (m h out : List ℕ) where
  any_run : (f : List ℕ) (run : World → Ran) → Allowed (length m) → length h ≡ holding_size → length out ≡ outgoing_size → length f ≤ longest
      → Wide d → in_range d ≡ true → called_by (refusal_of (lent_of d m h out) f) run (lent_of d m h out) ≡ on_bytes (run (world_of d m h out))
  any_run f run n p q l w e =
      accepted (lent_of d m h out) f
      (record { memory = size_allowed_lem (length m) n; holding = p; outgoing = q; kept = length_image d w.own; frame = l })
      (λ x. on_bytes (run x)) d.units (decode_image d w e)
      ∙ ap (λ (x : Device). on_bytes (run (world_of x m h out))) (device_back d w)

  pub accepted_call : (c : Call) → Acceptable c d m h out → called c (lent_of d m h out) ≡ on_bytes (ran c (world_of d m h out))
  unfolding attention_call arrival_call turn_call reset_call
  accepted_call reset s = rw (eq-eqb (length (image_of d)) record_size (length_image d s.wide.own))
  accepted_call attention s = any_run [] attention_of s.size s.holding s.outgoing (omega arith) s.wide s.range
  accepted_call (arrive f v) s = any_run f (λ w. arrival_of w f v) s.size s.holding s.outgoing s.frame s.wide s.range
  accepted_call (turn report) s = any_run [] (λ w. turn_of w report) s.size s.holding s.outgoing (omega arith) s.wide s.range
