-- Good frames, which counter an arrival adds to, and why a frame is dropped. No contract cites this file. Assumes nothing.
use mathlib.Core.Path.{◌≡◌, ◌∙◌, refl, sym, ap}
use mathlib.Core.Bool.{Bool, true, false, not, cond, ◌&&◌, ◌||◌, false≢true}
use Prim.Native.Nat.{ℕ, ◌<◌, ◌≤◌}
use native.Mathlib.Omega.{arith}
use lib.Dec.{eqb, ltb}
use Rattle.std.specs.Prelude.{Option, Some, None}
use Rattle.memory.specs.declared.Offset.{Offset}
use Rattle.memory.specs.declared.RealAddress.{RealAddress}
use Rattle.device.specs.Answers.{counter_of, is_held, reason_of}
use Rattle.device.specs.Numbers.{verdict_of}
use Rattle.device.specs.State.{good_by, is_good}
use Rattle.device.specs.declared.Counter.{Counter}
use Rattle.device.specs.declared.Counter.TheVariants as counter
use Rattle.device.specs.declared.Frame.{Frame}
use Rattle.device.specs.declared.Reason.{Reason}
use Rattle.device.specs.declared.Reason.TheVariants as reason
use Rattle.device.specs.declared.Ru.{Ru}
use Rattle.device.specs.declared.Ru.TheVariants as ru
use Rattle.device.specs.declared.Verdict.{Verdict}
use Rattle.device.specs.declared.Verdict.TheVariants as verdict
use Rattle.receive.specs.Arrival.{counter_by, counter_for, in_ready, in_no_resources, fate_in}
use Rattle.phases.specs.Phases.{ru_tag}

-- ---- numbers and what they are of

pub offset_same : (a b : Offset) → a.0 ≡ b.0 → a ≡ b
offset_same a b e = ap {B = Offset} (λ (x : ℕ). record { 0 = x }) e

pub real_same : (a b : RealAddress) → a.0 ≡ b.0 → a ≡ b
real_same a b e = ap {B = RealAddress} (λ (x : ℕ). record { 0 = x }) e

-- ---- good frames, and counters

good_by_lem : (a b : Bool) → good_by false (cond a verdict.Good (cond b verdict.Crc verdict.Misaligned)) ≡ a
good_by_lem true b = refl
good_by_lem false true = refl
good_by_lem false false = refl

pub good_is : (short : Bool) (k : ℕ) → (not short && eqb k 0) ≡ good_by short (verdict_of k)
unfolding verdict_of
good_is true k = refl
good_is false k = sym (good_by_lem (eqb k 0) (eqb k 1))

-- the counter that an arrival adds to, by the unit's tag
ready_counter : (g s : Bool) (c : Option Counter) → counter_of (in_ready g s c) ≡ c
ready_counter true s c = refl
ready_counter false true c = refl
ready_counter false false c = refl

good_counter : (short : Bool) (v : Verdict) → good_by short v ≡ true → counter_by short v ≡ None
good_counter true v g = refl
good_counter false verdict.Good g = refl
good_counter false verdict.Crc g = absurd (false≢true g)
good_counter false verdict.Misaligned g = absurd (false≢true g)

module _ (f : Frame) where
  abbrev counted : Ru → Option Counter
  counted u = counter_of (fate_in u f)

  -- a frame is held already
  pub counted_held : (u : Ru) → 3 < ru_tag u → Some counter.Overruns ≡ counted u
  counted_held ru.Idle l = absurd (omega (arith, l))
  counted_held ru.NoResources l = absurd (omega (arith, l))
  counted_held (ru.Suspended o) l = absurd (omega (arith, l))
  counted_held (ru.Ready o) l = absurd (omega (arith, l))
  counted_held (ru.Held o h p) l = refl
  counted_held (ru.Filling s w) l = refl
  counted_held (ru.Closing s o full) l = refl
  counted_held (ru.Lacking s) l = refl

  -- none is, and this one is good
  pub counted_lost : (u : Ru) → is_good f ≡ true → ru_tag u ≡ 2 → Some counter.Resources ≡ counted u
  counted_lost ru.Idle g e = absurd (omega (arith, e))
  counted_lost ru.NoResources g e = rw g
  counted_lost (ru.Suspended o) g e = absurd (omega (arith, e))
  counted_lost (ru.Ready o) g e = absurd (omega (arith, e))
  counted_lost (ru.Held o h p) g e = absurd (omega (arith, e))
  counted_lost (ru.Filling s w) g e = absurd (omega (arith, e))
  counted_lost (ru.Closing s o full) g e = absurd (omega (arith, e))
  counted_lost (ru.Lacking s) g e = absurd (omega (arith, e))

  pub counted_good : (u : Ru) → ru_tag u ≤ 3 → is_good f ≡ true → (ru_tag u ≡ 2 → ⊥) → None ≡ counted u
  counted_good ru.Idle l g n = refl
  counted_good ru.NoResources l g n = absurd (n refl)
  counted_good (ru.Suspended o) l g n = refl
  counted_good (ru.Ready o) l g n = sym (ready_counter (is_good f) f.savebad (counter_for f) ∙ good_counter f.short f.verdict g)
  counted_good (ru.Held o h p) l g n = absurd (omega (arith, l))
  counted_good (ru.Filling s w) l g n = absurd (omega (arith, l))
  counted_good (ru.Closing s o full) l g n = absurd (omega (arith, l))
  counted_good (ru.Lacking s) l g n = absurd (omega (arith, l))

  -- or bad, and then it counts in Ready and No Resources
  pub counted_bad : (u : Ru) → ru_tag u ≤ 3 → is_good f ≡ false → 1 < ru_tag u → counter_for f ≡ counted u
  counted_bad ru.Idle l g m = absurd (omega (arith, m))
  counted_bad ru.NoResources l g m = rw g
  counted_bad (ru.Suspended o) l g m = absurd (omega (arith, m))
  counted_bad (ru.Ready o) l g m = sym (ready_counter (is_good f) f.savebad (counter_for f))
  counted_bad (ru.Held o h p) l g m = absurd (omega (arith, l))
  counted_bad (ru.Filling s w) l g m = absurd (omega (arith, l))
  counted_bad (ru.Closing s o full) l g m = absurd (omega (arith, l))
  counted_bad (ru.Lacking s) l g m = absurd (omega (arith, l))

  pub counted_none : (u : Ru) → ru_tag u ≤ 1 → None ≡ counted u
  counted_none ru.Idle l = refl
  counted_none ru.NoResources l = absurd (omega (arith, l))
  counted_none (ru.Suspended o) l = refl
  counted_none (ru.Ready o) l = absurd (omega (arith, l))
  counted_none (ru.Held o h p) l = absurd (omega (arith, l))
  counted_none (ru.Filling s w) l = absurd (omega (arith, l))
  counted_none (ru.Closing s o full) l = absurd (omega (arith, l))
  counted_none (ru.Lacking s) l = absurd (omega (arith, l))

none_held : (g : Bool) (c : Option Counter) → is_held (in_no_resources g c) ≡ false
none_held true c = refl
none_held false c = refl

ready_held : (g s : Bool) (c : Option Counter) → is_held (in_ready g s c) ≡ (g || s)
ready_held true s c = refl
ready_held false true c = refl
ready_held false false c = refl

pub held_is_lem : (u : Ru) (f : Frame) → is_held (fate_in u f) ≡ (eqb (ru_tag u) 3 && (is_good f || f.savebad))
held_is_lem ru.Idle f = refl
held_is_lem ru.NoResources f = none_held (is_good f) (counter_for f)
held_is_lem (ru.Suspended o) f = refl
held_is_lem (ru.Ready o) f = ready_held (is_good f) f.savebad (counter_for f)
held_is_lem (ru.Held o h p) f = refl
held_is_lem (ru.Filling s w) f = refl
held_is_lem (ru.Closing s o full) f = refl
held_is_lem (ru.Lacking s) f = refl

-- why a frame is dropped: not if it is held, or if a frame is held already; past Suspended good or bad, and else by the unit
abbrev pub why_by : (held already judged good idle : Bool) → Option Reason
why_by true already judged good idle = None
why_by false true judged good idle = None
why_by false false true true idle = None
why_by false false true false idle = Some reason.Bad
why_by false false false good true = Some reason.UnitIdle
why_by false false false good false = Some reason.UnitSuspended

unready_why : (g : Bool) (c : Option Counter) → reason_of (in_no_resources g c) ≡ why_by (is_held (in_no_resources g c)) false true g false
unready_why true c = refl
unready_why false c = refl

ready_why : (g s : Bool) (c : Option Counter) → reason_of (in_ready g s c) ≡ why_by (is_held (in_ready g s c)) false true g false
ready_why true s c = refl
ready_why false true c = refl
ready_why false false c = refl

pub reason_is : (u : Ru) (f : Frame)
    → reason_of (fate_in u f) ≡ why_by (is_held (fate_in u f)) (ltb 3 (ru_tag u)) (ltb 1 (ru_tag u)) (is_good f) (eqb (ru_tag u) 0)
reason_is ru.Idle f = refl
reason_is ru.NoResources f = unready_why (is_good f) (counter_for f)
reason_is (ru.Suspended o) f = refl
reason_is (ru.Ready o) f = ready_why (is_good f) f.savebad (counter_for f)
reason_is (ru.Held o h p) f = refl
reason_is (ru.Filling s w) f = refl
reason_is (ru.Closing s o full) f = refl
reason_is (ru.Lacking s) f = refl
