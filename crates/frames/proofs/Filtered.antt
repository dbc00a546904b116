-- "Addressed to us": what an MC-Setup makes of the filter, that no other call but a reset changes it, and which frames pass: 02, Wish 1. Assumes
-- nothing.
use mathlib.Core.Path.{◌≡◌, refl, sym, ap, ◌∙◌}
use mathlib.Core.Bool.{Bool, true, false, ◌&&◌, and-eq-true_iff, true≢false}
use mathlib.Core.List.{List, [], ◌∷◌}
use Prim.Native.Nat.{ℕ, ◌+◌, ◌<◌}
use lib.ListN.{take}
use Rattle.memory.specs.Address.{place}
use Rattle.memory.specs.Memory.{word_to}
use Rattle.scb.specs.Words.{bit}
use Rattle.hash.specs.Hash.{hash}
use Rattle.device.specs.declared.Action.{Action}
use Rattle.device.specs.declared.Action.TheVariants as action
use Rattle.device.specs.declared.Begun.{Begun}
use Rattle.device.specs.declared.Settings.{Settings}
use Rattle.device.specs.declared.Cu.{Cu}
use Rattle.device.specs.declared.Cu.TheVariants as cu
use Rattle.device.specs.declared.Device.{Device}
use Rattle.filter.specs.Match.{all_ones, is_own, is_group, is_filtered, matches}
use Rattle.filter.proofs.Laws as match
use Rattle.actions.specs.Actions.{count_of, act, done}
use Rattle.actions.specs.Block.{block_status_at}
use Rattle.actions.specs.Filtered.{is_mc_setup}
use Rattle.actions.specs.Setup.{Setup, setup_of}
use Rattle.actions.proofs.Filtered as filtered
use Rattle.command.specs.End.{end}
use Rattle.command.specs.Part.{part_of}
use Rattle.command.specs.Service.{service}
use Rattle.chip.specs.Call as calls
use Rattle.chip.specs.Call.{Call, ran}
use Rattle.chip.specs.Turn.{served_of, is_command}
use Rattle.chip.specs.World.{World}
use Rattle.numerals.specs.Places.{field}
use Rattle.packed.specs.Record.{setup_at}
use Rattle.packed.specs.SetUp.{filter_size, filter_at}
use Rattle.image.specs.Image.{device_from}
use Rattle.image.proofs.Steps.{device_full}
use Rattle.calls.specs.Calls.{Areas}
use Rattle.traces.specs.Bytes.{called, is_refused}
use Rattle.traces.specs.Areas.{FrameBytes, AreBytes, Holds, world_in}
use Rattle.closure.proofs.Carried.{holds_back, holds_length, carry}
use Rattle.frames.specs.Arrival.{length_in, settings_of, is_ours}
use Rattle.frames.specs.Filtered.{EndsMcSetup, FallsIn, SetUpBy, acts_mc_setup, renews_filter, FilterAfter, kept, by_reset, by_resetting, by_mc_setup}
use Rattle.frames.specs.Setups.{left_by, acts, sets_up, EndsAction, SetupAfter}
use Rattle.frames.specs.Setups as setups
use Rattle.frames.proofs.Setups.{left_by_action, setup_after_lem}

-- ---- a turn that ends an MC-Setup

module _ (w : World) (b : Begun) (report : ℕ) (e : EndsMcSetup w b) where
  abbrev left : World
  left = left_by w report

  -- the address length in force
  abbrev l : ℕ
  l = length_in w

  -- the setup that it leaves is the action's
  setup_left_lem : setup_of left.device ≡ (act action.McSetup w.device.units.base (setup_of w.device) b.block w.memory).setup
  setup_left_lem = left_by_action w b action.McSetup report e

  filter_left : left.device.filter ≡ (act action.McSetup w.device.units.base (setup_of w.device) b.block w.memory).setup.filter
  filter_left = ap (λ (s : Setup). s.filter) setup_left_lem

  pub set_up : SetUpBy w b left
  set_up =
      let base = w.device.units.base in
      let s = setup_of w.device in
      record {
        settings = ap (λ (t : Setup). t.settings) setup_left_lem ∙ filtered.settings_stay base s b.block w.memory;
        own = ap (λ (t : Setup). t.own) setup_left_lem ∙ filtered.own_stays base s b.block w.memory;
        set = λ k f. ap (λ (n : ℕ). bit n k) filter_left ∙ filtered.set base s b.block w.memory k f;
        only = λ k h. filtered.only base s b.block w.memory k (ap (λ (n : ℕ). bit n k) (sym filter_left) ∙ h);
      }

  -- a count of 0 empties the filter, and so does length 0
  pub emptied : count_of w.device.units.base b.block w.memory < l → left.device.filter ≡ 0
  emptied n = filter_left ∙ filtered.emptied w.device.units.base (setup_of w.device) b.block w.memory n

  pub emptied_at_none : l ≡ 0 → left.device.filter ≡ 0
  emptied_at_none z = filter_left ∙ filtered.emptied_at_none w.device.units.base (setup_of w.device) b.block w.memory z

  -- the settings being as they were, a frame is ours by them
  ours_left : (f : List ℕ) → is_ours left f ≡ matches (settings_of w) left.device.own left.device.filter f
  ours_left f = ap (λ (s : Settings). matches s left.device.own left.device.filter f) set_up.settings

  -- A000h goes to the block, and nothing else
  pub status_done : (service (part_of w.device w.outgoing) w.memory report).writes
      ≡ word_to (place w.device.units.base b.block block_status_at) done ∷ []
  unfolding service end act
  status_done = rw e.begun

  -- a frame to a group on whose bit an address falls is ours
  pub passes : (f : List ℕ) → all_ones l f ≡ false → is_group f ≡ true → FallsIn w b (hash (take l f)) → is_ours left f ≡ true
  passes f o g n =
      ours_left f ∙ match.by_a_set_bit (settings_of w) left.device.own left.device.filter f o g (set_up.set (hash (take l f)) n)

  -- and no other is that is not ours by another rule
  pub passed : (f : List ℕ) → (settings_of w).promiscuous ≡ false → all_ones l f ≡ false → is_own l left.device.own f ≡ false
      → is_ours left f ≡ true → (is_group f ≡ true) × FallsIn w b (hash (take l f))
  passed f p o n h =
      let x = ours_left f ∙ match.by_the_filter (settings_of w) left.device.own left.device.filter f p o n in
      let y = (and-eq-true_iff (is_group f) (is_filtered l left.device.filter f)).0 (sym x ∙ h) in
      (y.0, set_up.only (hash (take l f)) y.1)

-- ---- every call

-- a call that sets nothing up makes no filter either
none_acts : (c : Cu) (b : Bool) → (b && acts c) ≡ false → (b && acts_mc_setup c) ≡ false
none_acts cu.Idle b e = e
none_acts (cu.Suspended o) b e = e
none_acts (cu.Waiting o) b e = e
none_acts (cu.Acting x a) true e = absurd (true≢false e)
none_acts (cu.Acting x a) false e = refl
none_acts (cu.Sending x k) b e = e
none_acts (cu.Ending x n) b e = e
none_acts (cu.Failing x) b e = e

none_renewed : (c : Call) (w : World) → sets_up c w ≡ false → renews_filter c w ≡ false
none_renewed calls.reset w e = e
none_renewed calls.attention w e = e
none_renewed (calls.arrive f v) w e = e
none_renewed (calls.turn report) w e = none_acts w.device.units.cu (is_command (served_of w.device.units)) e

module _ (w : World) (report : ℕ) (b : Begun) where
  other_after : (a : Action) → is_mc_setup a ≡ false → EndsAction w b a → FilterAfter w (calls.turn report)
  other_after a n e =
      kept (calls.turn report) (rw (e.served, e.begun) n)
      (ap (λ (s : Setup). s.filter) (left_by_action w b a report e)
      ∙ filtered.filter_stays a w.device.units.base (setup_of w.device) b.block w.memory n)

  action_after : (a : Action) → EndsAction w b a → FilterAfter w (calls.turn report)
  action_after action.Nop e = other_after action.Nop refl e
  action_after action.IaSetup e = other_after action.IaSetup refl e
  action_after action.Configure e = other_after action.Configure refl e
  action_after action.McSetup e = by_mc_setup report b e (set_up w b report e)
  action_after action.Tdr e = other_after action.Tdr refl e
  action_after action.Dump e = other_after action.Dump refl e
  action_after action.Diagnose e = other_after action.Diagnose refl e

filter_by_lem : {c : Call} (w : World) → SetupAfter w c → FilterAfter w c
filter_by_lem w (setups.kept c n e) = kept c (none_renewed c w n) (ap (λ (s : Setup). s.filter) e)
filter_by_lem w (setups.by_reset e) = by_reset e
filter_by_lem w (setups.by_resetting n e) = by_resetting n e
filter_by_lem w (setups.by_action report b a e x) = action_after w report b a e

pub filter_after : (c : Call) (w : World) → FilterAfter w c
filter_after c w = filter_by_lem w (setup_after_lem c w)

-- ---- on bytes

-- the filter of the state that a record holds stands in its last eight bytes
pub filter_in_record : (r : List ℕ) (d : Device) → Holds r d → field r (setup_at + filter_at) filter_size ≡ d.filter
unfolding device_from
filter_in_record r d h = ap (λ (x : Device). x.filter) (device_full r d.units (holds_length r d h) ∙ holds_back r d h)

-- so the record that a call leaves has there what is said of the call
pub filter_on_bytes : (c : Call) (a : Areas) (d : Device) → FrameBytes c → AreBytes a → Holds a.kept d → is_refused (called c a) ≡ false
    → FilterAfter (world_in d a) c × (field (called c a).areas.kept (setup_at + filter_at) filter_size ≡ (ran c (world_in d a)).outcome.device.filter)
filter_on_bytes c a d f b h r = (filter_after c (world_in d a), filter_in_record _ _ (carry c a d f b h r).holds)
