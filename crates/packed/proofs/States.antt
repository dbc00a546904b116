-- A state put together from numbers: its events cleared, and an initialisation. Assumes nothing.
use mathlib.Core.Path.{◌≡◌, ap}
use mathlib.Core.Bool.{true}
use Prim.Native.Nat.{ℕ, ◌+◌, ◌*◌, ◌-◌, ◌/◌, ◌%◌, ◌<◌}
use native.Mathlib.Omega.{arith}
use lib.Bits.{bit_and}
use Rattle.memory.specs.declared.Offset.{Offset}
use Rattle.memory.specs.declared.RealAddress.{RealAddress}
use Rattle.scb.specs.Words.{one, event_bits}
use Rattle.scb.specs.declared.Events.{Events}
use Rattle.device.specs.Change.{with_events, initialised_at}
use Rattle.device.specs.declared.Units.{Units}
use Rattle.phases.specs.Phases.{number_of, cu_tag, cu_word, ru_tag, ru_word, ru_rest}
use Rattle.phases.proofs.Units.{one_below}
use Rattle.packed.specs.Packed.{marks_by, marks_in, status_by, packed_of, PackedIs}
use Rattle.packed.specs.declared.Packed.{Packed}
use Rattle.packed.proofs.Laws.{marks_is, events_is, events_below}
use Rattle.packed.proofs.Words.{plain_is}

-- the events stand lowest in a status
without : (x y z a b c d f : ℕ) → z + y ≡ x → 16 * x + a + b + c + d + f - 16 * z ≡ 16 * y + a + b + c + d + f
without x y z a b c d f e = omega arith

module _ (u : Units) (k : Packed) (h : PackedIs u k) where
  -- the marks below the events
  pub low_marks : marks_in k % 4 ≡ one u.initialised + 2 * one u.rulast
  low_marks = rw (marks_is u k h) (omega (arith, one_below u.initialised, one_below u.rulast))

  rulast_bit : marks_in k / 2 % 2 ≡ one u.rulast
  rulast_bit = omega (arith, low_marks, one_below u.initialised, one_below u.rulast)

  pub clears : (e : Events) (by : ℕ) → bit_and (event_bits u.events) by + event_bits e ≡ event_bits u.events
      → PackedIs (with_events u e) (record { status = k.status - 16 * bit_and (marks_in k / 16) by; cu = k.cu; ru = k.ru; rest = k.rest })
  unfolding packed_of
  clears e by g =
      let s : k.status ≡ status_by u.scb.0 (marks_by u.initialised u.rulast u.events) (cu_tag u.cu) (ru_tag u.ru) u.base.0 =
      ap (λ (x : Packed). x.status) h.same in
      let t : k.status - 16 * bit_and (event_bits u.events) by
      ≡ status_by u.scb.0 (marks_by u.initialised u.rulast e) (cu_tag u.cu) (ru_tag u.ru) u.base.0 =
      let q : marks_by u.initialised u.rulast u.events / 16 ≡ event_bits u.events = omega (arith, one_below u.initialised, one_below u.rulast) in
      let q' : marks_by u.initialised u.rulast e / 16 ≡ event_bits e = omega (arith, one_below u.initialised, one_below u.rulast) in
      let r : marks_by u.initialised u.rulast u.events % 4 ≡ one u.initialised + 2 * one u.rulast = omega (arith, one_below u.initialised, one_below u.rulast) in
      let r' : marks_by u.initialised u.rulast e % 4 ≡ one u.initialised + 2 * one u.rulast = omega (arith, one_below u.initialised, one_below u.rulast) in
      rw (s, q, q', r, r') (without (event_bits u.events) (event_bits e) (bit_and (event_bits u.events) by) _ _ _ _ _ g) in
      record {
        same =
            rw (events_is u k h, t, ap (λ (x : Packed). x.cu) h.same, ap (λ (x : Packed). x.ru) h.same, ap (λ (x : Packed). x.rest) h.same);
        wide =
            record {
              scb_wide = h.wide.scb_wide;
              base_wide = h.wide.base_wide;
              cu_wide = h.wide.cu_wide;
              ru_wide = h.wide.ru_wide;
              holding_wide = h.wide.holding_wide;
            };
      }

  pub initialises : (base : RealAddress) (scb : Offset) (e : Events) → base.0 < 16777216 → scb.0 < 65536
      → PackedIs (initialised_at u base scb e)
      (record { status = status_by (scb.0 % 65536) ((marks_in k / 2 % 2 * 2 + 1 + 16 * event_bits e) % 256) 0 0 (base.0 % 16777216); cu = 0; ru = 0; rest = 0 })
  unfolding packed_of number_of cu_word ru_word ru_rest
  initialises base scb e b s =
      let p : scb.0 % 65536 ≡ scb.0 = omega arith in
      let q : base.0 % 16777216 ≡ base.0 = omega arith in
      let f : (marks_in k / 2 % 2 * 2 + 1 + 16 * event_bits e) % 256 ≡ marks_by true u.rulast e =
      omega (arith, rulast_bit, one_below u.rulast, events_below e) in
      record {
        same = rw (p, q, f);
        wide =
            record {
              scb_wide = s;
              base_wide = b;
              cu_wide = (plain_is 0 (omega arith)).wide;
              ru_wide = (plain_is 0 (omega arith)).wide;
              holding_wide = tt;
            };
      }
