-- What every call makes of the setup, and a turn that ends a Configure: 01, "Turns"; 02, Wish 4. Assumes nothing.
use mathlib.Core.Path.{◌≡◌, refl, ap, ◌∙◌}
use mathlib.Core.Bool.{Bool, true, false}
use mathlib.Core.List.{List, [], ◌∷◌}
use Prim.Native.Nat.{ℕ}
use lib.Dec.{eqb}
use Rattle.std.specs.Prelude.{Some, None, Option}
use Rattle.memory.specs.Address.{place}
use Rattle.memory.specs.Memory.{word_at, word_to}
use Rattle.memory.specs.declared.RealAddress.{RealAddress}
use Rattle.scb.specs.Words.{bits_at, bit, resets}
use Rattle.device.specs.Numbers.{transmit}
use Rattle.device.specs.declared.Action.{Action}
use Rattle.device.specs.declared.Action.TheVariants as action
use Rattle.device.specs.declared.Begun.{Begun}
use Rattle.device.specs.declared.Cu.{Cu}
use Rattle.device.specs.declared.Cu.TheVariants as cu
use Rattle.device.specs.declared.Device.{Device}
use Rattle.actions.specs.Actions.{acceptable, byte_of, act, done, failed, sent}
use Rattle.actions.specs.Block.{block_status_at, block_command_at}
use Rattle.actions.specs.Setup.{Setup, setup_of}
use Rattle.actions.proofs.Configured as configured
use Rattle.command.specs.Begin.{cmd, begun_by, to_begun, begin}
use Rattle.command.specs.Buffer.{buffer}
use Rattle.command.specs.End.{end}
use Rattle.command.specs.Part.{Part, with_unit, part_of}
use Rattle.command.specs.Service.{service}
use Rattle.attention.specs.Attention.{attend_by, attend, initialise, attention}
use Rattle.chip.specs.Arrival.{arrival_of}
use Rattle.chip.specs.Attention.{attention_of}
use Rattle.chip.specs.Call as calls
use Rattle.chip.specs.Call.{Call, ran}
use Rattle.chip.specs.Turn.{served_of, concluded, command_turn, receive_turn, turn_of}
use Rattle.chip.specs.World.{World, reset_of}
use Rattle.chip.specs.declared.Unit.{Unit}
use Rattle.chip.specs.declared.Unit.TheVariants as unit
use Rattle.calls.specs.Calls.{Areas}
use Rattle.traces.specs.Areas.{FrameBytes, AreBytes, Holds, world_in}
use Rattle.traces.specs.Bytes.{called, is_refused}
use Rattle.closure.proofs.Carried.{carry}
use Rattle.frames.specs.Held.{command_of}
use Rattle.frames.specs.Setups.{left_by, EndsAction, SetupAfter, kept, by_reset, by_resetting, by_action}

-- ---- a turn that ends an action

pub left_by_action : (w : World) (b : Begun) (a : Action) (report : ℕ) → EndsAction w b a
    → setup_of (left_by w report).device ≡ (act a w.device.units.base (setup_of w.device) b.block w.memory).setup
unfolding turn_of command_turn concluded service end
left_by_action w b a report e = rw (e.served, e.begun)

-- 02, Wish 4: a Configure. Its length and location are in force then, own address and filter are as they were; or nothing is changed
module _ (w : World) (b : Begun) (report : ℕ) (e : EndsAction w b action.Configure) where
  abbrev base : RealAddress
  base = w.device.units.base

  abbrev third : ℕ
  third = byte_of base b.block w.memory 3

  abbrev left : Setup
  left = setup_of (left_by w report).device

  pub configured_left : acceptable third ≡ true
      → (left.settings.form ≡ record { length = bits_at third 0 3; location = bit third 3 }) × (left.own ≡ w.device.own)
      × (left.filter ≡ w.device.filter)
  configured_left t =
      let x = configured.taken base (setup_of w.device) b.block w.memory t in
      let l = left_by_action w b action.Configure report e in
      (ap (λ (s : Setup). s.settings.form) l ∙ x.1, ap (λ (s : Setup). s.own) l ∙ x.2, ap (λ (s : Setup). s.filter) l ∙ x.3)

  pub unconfigured_left : acceptable third ≡ false → left ≡ setup_of w.device
  unconfigured_left t = left_by_action w b action.Configure report e ∙ (configured.not_taken base (setup_of w.device) b.block w.memory t).1

  -- A000h or 8000h goes to the block, and nothing else
  pub configured_status : acceptable third ≡ true
      → (service (part_of w.device w.outgoing) w.memory report).writes ≡ word_to (place base b.block block_status_at) done ∷ []
  unfolding service end act
  configured_status t = rw (e.begun, t)

  pub unconfigured_status : acceptable third ≡ false
      → (service (part_of w.device w.outgoing) w.memory report).writes ≡ word_to (place base b.block block_status_at) failed ∷ []
  unfolding service end act
  unconfigured_status t = rw (e.begun, t)

-- ---- every call

begun_keeps : (transmits : Bool) (p : Part) (b : Begun) (word : ℕ) (m : List ℕ) → (to_begun transmits p b word m).setup ≡ p.setup
begun_keeps true p b word m = refl
begun_keeps false p b word m = refl

module _ (w : World) (report : ℕ) (p : served_of w.device.units ≡ Some unit.Command) where
  command_after : (c : Cu) → w.device.units.cu ≡ c → SetupAfter w (calls.turn report)
  unfolding turn_of command_turn concluded service begin buffer end sent
  command_after cu.Idle q = kept (calls.turn report) (rw (p, q)) (rw (p, q))
  command_after (cu.Suspended o) q = kept (calls.turn report) (rw (p, q)) (rw (p, q))
  command_after (cu.Waiting o) q =
      let word = word_at w.memory (place w.device.units.base o block_command_at) in
      let part = with_unit (part_of w.device w.outgoing) (cu.Waiting o) in
      kept (calls.turn report) (rw (p, q)) (rw (p, q) (begun_keeps (eqb (cmd word) transmit) part (begun_by o word) word w.memory))
  command_after (cu.Acting b a) q =
      let e : EndsAction w b a = record { served = p; begun = q } in by_action report b a e (left_by_action w b a report e)
  command_after (cu.Sending b k) q = kept (calls.turn report) (rw (p, q)) (rw (p, q))
  command_after (cu.Ending b n) q = kept (calls.turn report) (rw (p, q)) (rw (p, q))
  command_after (cu.Failing b) q = kept (calls.turn report) (rw (p, q)) (rw (p, q))

turn_after : (w : World) (report : ℕ) (s : Option Unit) → served_of w.device.units ≡ s → SetupAfter w (calls.turn report)
unfolding turn_of receive_turn concluded
turn_after w report None p = kept (calls.turn report) (rw p) (rw p)
turn_after w report (Some unit.Command) p = command_after w report p w.device.units.cu refl
turn_after w report (Some unit.Receive) p = kept (calls.turn report) (rw p) (rw p)

attention_after : (w : World) (i r : Bool) → w.device.units.initialised ≡ i → resets (command_of w) ≡ r → SetupAfter w calls.attention
unfolding attention_of attention attend attend_by initialise
attention_after w false r p q = kept calls.attention (rw p) (rw p)
attention_after w true true p q = by_resetting (rw (p, q)) (rw (p, q))
attention_after w true false p q = kept calls.attention (rw (p, q)) (rw (p, q))

pub setup_after_lem : (c : Call) (w : World) → SetupAfter w c
unfolding reset_of arrival_of
setup_after_lem calls.reset w = by_reset refl
setup_after_lem calls.attention w = attention_after w w.device.units.initialised (resets (command_of w)) refl refl
setup_after_lem (calls.arrive f v) w = kept (calls.arrive f v) refl refl
setup_after_lem (calls.turn report) w = turn_after w report (served_of w.device.units) refl

-- ---- on bytes

-- the record that a call leaves holds the state with that setup
pub setup_on_bytes : (c : Call) (a : Areas) (d : Device) → FrameBytes c → AreBytes a → Holds a.kept d → is_refused (called c a) ≡ false
    → SetupAfter (world_in d a) c × Holds (called c a).areas.kept (ran c (world_in d a)).outcome.device
setup_on_bytes c a d f b h r = (setup_after_lem c (world_in d a), (carry c a d f b h r).holds)
