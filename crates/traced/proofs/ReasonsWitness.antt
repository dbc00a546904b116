-- Each reason is given: an arrival for each, on bytes. Assumes nothing.
use mathlib.Core.Path.{◌≡◌, refl}
use mathlib.Core.Bool.{true, false}
use mathlib.Core.List.{List, []}
use Prim.Native.Nat.{ℕ, ◌≤◌}
use lib.Dec.{lit≤}
use lib.ListN.{length, replicate}
use Rattle.std.specs.Prelude.{Option, Some, None}
use Rattle.memory.proofs.Bytes.{Bytes, bytes_nil}
use Rattle.scb.specs.Words.{bits_at}
use Rattle.device.specs.declared.Counter.TheVariants as counter
use Rattle.device.specs.declared.Device.{Device}
use Rattle.device.specs.declared.Reason.{Reason}
use Rattle.device.specs.declared.Reason.TheVariants as reason
use Rattle.device.specs.declared.Ru.{Ru}
use Rattle.device.specs.declared.Ru.TheVariants as ru
use Rattle.filter.specs.Match.{agree, matches}
use Rattle.phases.specs.Phases.{cu_word, ru_word, WordWide}
use Rattle.image.specs.Image.{image_of}
use Rattle.image.specs.Ranges.{in_range, units_fit, cu_fits, ru_fits, initialised_or_fresh}
use Rattle.image.proofs.Exact.{fresh_wide}
use Rattle.chip.specs.Call.{arrive}
use Rattle.traces.specs.Areas.{Holds, world_in}
use Rattle.closure.proofs.Command.{append_bytes, replicate_bytes}
use Rattle.frames.specs.Arrival.{is_ours, Ours, crc}
use Rattle.frames.specs.Reasons.{unset, held, Reached, Told}
use Rattle.traced.proofs.BytesWitness.{lent_of, lent_bytes, accepted}
use Rattle.frames.proofs.Reasons.{exactly_on_bytes}
use Rattle.traced.proofs.Witness.{device_with, bare}

-- ---- the states: initialised, and the receive unit as said

holds : (unit : Ru) → WordWide (ru_word unit) → in_range (device_with unit false) ≡ true → Holds (image_of (device_with unit false)) (device_with unit false)
unfolding cu_word
holds unit n r =
    record {
      wide =
          record {
            scb = lit≤ tt;
            minimum = lit≤ tt;
            cu = record { at = lit≤ tt; kind = lit≤ tt; size = lit≤ tt; next = lit≤ tt };
            ru = n;
            own = refl;
            own_bytes_lem = fresh_wide.own_bytes_lem;
            filter = fresh_wide.filter;
          };
      range = r;
      image = refl;
    }

abbrev before : Ru → Device
before unit = device_with unit false

idle_holds : Holds (image_of (before ru.Idle)) (before ru.Idle)
unfolding ru_word in_range units_fit cu_fits ru_fits initialised_or_fresh
idle_holds = holds ru.Idle (record { at = lit≤ tt; kind = lit≤ tt; size = lit≤ tt; next = lit≤ tt }) refl

abbrev suspended : Ru
suspended = ru.Suspended (record { 0 = 0 })

suspended_holds : Holds (image_of (before suspended)) (before suspended)
unfolding ru_word in_range units_fit cu_fits ru_fits initialised_or_fresh
suspended_holds = holds suspended (record { at = lit≤ tt; kind = lit≤ tt; size = lit≤ tt; next = lit≤ tt }) refl

abbrev ready : Ru
ready = ru.Ready (record { 0 = 0 })

ready_holds : Holds (image_of (before ready)) (before ready)
unfolding ru_word in_range units_fit cu_fits ru_fits initialised_or_fresh
ready_holds = holds ready (record { at = lit≤ tt; kind = lit≤ tt; size = lit≤ tt; next = lit≤ tt }) refl

-- ---- the frames: to everyone, and to nobody here

bare_bytes : Bytes bare
bare_bytes = append_bytes _ _ (replicate_bytes 6 255 (lit≤ tt)) (replicate_bytes 8 0 (lit≤ tt))

for_us : (unit : Ru) → Ours (world_in (before unit) (lent_of (before unit))) bare
unfolding matches agree
for_us unit = record { enough = lit≤ tt; matched = refl }

abbrev others : List ℕ
others = replicate 14 0

not_for_us : (unit : Ru) → is_ours (world_in (before unit) (lent_of (before unit))) others ≡ false
unfolding matches agree bits_at
not_for_us unit = refl

-- ---- one arrival each

told : (why : Option Reason) (unit : Ru) (f : List ℕ) (v : ℕ) → Holds (image_of (before unit)) (before unit) → Bytes f → length f ≤ 2048
    → Reached why (world_in (before unit) (lent_of (before unit))) f v → Told why
told why unit f v h b l r =
    let e = accepted (before unit) h (arrive f v) (record { bytes = b; right = l }) in
    record {
      areas = lent_of (before unit);
      frame = f;
      verdict = v;
      lent = lent_bytes (before unit) h;
      bytes = b;
      accepted = e;
      given = (exactly_on_bytes (lent_of (before unit)) (before unit) f v (lent_bytes (before unit) h) h e why).1 r;
    }

pub each_reason : (why : Option Reason) → Told why
each_reason (Some reason.TooFew) = told (Some reason.TooFew) ready [] 0 ready_holds bytes_nil (lit≤ tt) (lit≤ tt)
each_reason (Some reason.NoMatch) =
    told (Some reason.NoMatch) ready others 0 ready_holds (replicate_bytes 14 0 (lit≤ tt)) (lit≤ tt) (lit≤ tt, not_for_us ready)
each_reason (Some reason.UnitIdle) = told (Some reason.UnitIdle) ru.Idle bare 0 idle_holds bare_bytes (lit≤ tt) (for_us ru.Idle, refl)
each_reason (Some reason.UnitSuspended) =
    told (Some reason.UnitSuspended) suspended bare 0 suspended_holds bare_bytes (lit≤ tt) (for_us suspended, (record { 0 = 0 }, refl))
each_reason (Some reason.Bad) =
    told (Some reason.Bad) ready bare 1 ready_holds bare_bytes (lit≤ tt) (for_us ready, (unset (record { 0 = 0 }) refl refl, (Some counter.Crc, crc (lit≤ tt) refl)))
each_reason None =
    told None ready bare 0 ready_holds bare_bytes (lit≤ tt) (for_us ready, held (record { 0 = 0 }) refl (record { long = lit≤ tt; verdict = refl }))
