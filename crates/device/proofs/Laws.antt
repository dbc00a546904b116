-- The paper's numbers lead back to the cases that have them; what is known of a held frame. Assumes nothing.
use mathlib.Core.Path.{◌≡◌, refl, sym, ap, ◌∙◌}
use mathlib.Core.Bool.{true, false, cond}
use mathlib.Core.List.{List, [], ◌∷◌, nil≢cons, cons≢nil}
use Prim.Native.Nat.{ℕ}
use lib.Dec.{eqb}
use Rattle.std.specs.Prelude.{Option, Some, None}
use Rattle.device.specs.Numbers.{action_number, action_of, verdict_number, verdict_of, refusal_or_0, reason_or_0}
use Rattle.device.specs.State.{ru_state, is_ready, is_holding, held_in}
use Rattle.device.specs.Change.{with_settings}
use Rattle.device.specs.declared.Action.{Action}
use Rattle.device.specs.declared.Action.TheVariants as action
use Rattle.device.specs.declared.Frame.{Frame}
use Rattle.device.specs.declared.Reason.{Reason}
use Rattle.device.specs.declared.Reason.TheVariants as reason
use Rattle.device.specs.declared.Refusal.{Refusal}
use Rattle.device.specs.declared.Refusal.TheVariants as refusal
use Rattle.device.specs.declared.Ru.{Ru}
use Rattle.device.specs.declared.Ru.TheVariants as ru
use Rattle.device.specs.declared.Settings.{Settings}
use Rattle.device.specs.declared.Units.{Units}
use Rattle.device.specs.declared.Verdict.{Verdict}
use Rattle.device.specs.declared.Verdict.TheVariants as verdict

pub action_back : (a : Action) → action_of (action_number a) ≡ a
unfolding action_of
action_back action.Nop = refl
action_back action.IaSetup = refl
action_back action.Configure = refl
action_back action.McSetup = refl
action_back action.Tdr = refl
action_back action.Dump = refl
action_back action.Diagnose = refl

pub verdict_back : (v : Verdict) → verdict_of (verdict_number v) ≡ v
unfolding verdict_of
verdict_back verdict.Good = refl
verdict_back verdict.Crc = refl
verdict_back verdict.Misaligned = refl

-- 02, Wish 3: a number names one refusal, and one reason
refusal_at : ℕ → Option Refusal
refusal_at n =
    cond (eqb n 0) None
    (cond (eqb n 1) (Some refusal.Memory)
    (cond (eqb n 21) (Some refusal.Record)
    (cond (eqb n 22) (Some refusal.Holding)
    (cond (eqb n 23) (Some refusal.Outgoing)
    (cond (eqb n 3) (Some refusal.Overlong) (Some refusal.Foreign))))))

refusal_back : (r : Option Refusal) → refusal_at (refusal_or_0 r) ≡ r
unfolding refusal_at
refusal_back None = refl
refusal_back (Some refusal.Memory) = refl
refusal_back (Some refusal.Record) = refl
refusal_back (Some refusal.Holding) = refl
refusal_back (Some refusal.Outgoing) = refl
refusal_back (Some refusal.Overlong) = refl
refusal_back (Some refusal.Foreign) = refl

pub one_refusal : (x y : Option Refusal) → refusal_or_0 x ≡ refusal_or_0 y → x ≡ y
one_refusal x y e = sym (refusal_back x) ∙ ap refusal_at e ∙ refusal_back y

reason_at : ℕ → Option Reason
reason_at n =
    cond (eqb n 0) None
    (cond (eqb n 1) (Some reason.TooFew)
    (cond (eqb n 2) (Some reason.NoMatch)
    (cond (eqb n 3) (Some reason.UnitIdle)
    (cond (eqb n 4) (Some reason.UnitSuspended) (Some reason.Bad)))))

reason_back : (r : Option Reason) → reason_at (reason_or_0 r) ≡ r
unfolding reason_at
reason_back None = refl
reason_back (Some reason.TooFew) = refl
reason_back (Some reason.NoMatch) = refl
reason_back (Some reason.UnitIdle) = refl
reason_back (Some reason.UnitSuspended) = refl
reason_back (Some reason.Bad) = refl

pub one_reason : (x y : Option Reason) → reason_or_0 x ≡ reason_or_0 y → x ≡ y
one_reason x y e = sym (reason_back x) ∙ ap reason_at e ∙ reason_back y

-- 01, refusal 4: no held frame outside Ready
pub held_ready : (u : Ru) → is_holding u ≡ true → is_ready (ru_state u) ≡ true
held_ready ru.Idle h = h
held_ready ru.NoResources h = h
held_ready (ru.Suspended o) h = h
held_ready (ru.Ready o) h = refl
held_ready (ru.Held o f p) h = refl
held_ready (ru.Filling s w) h = refl
held_ready (ru.Closing s o e) h = refl
held_ready (ru.Lacking s) h = refl

-- a frame is held exactly where there are held frames
pub some_held : (u : Ru) (f : Frame) (fs : List Frame) → held_in u ≡ f ∷ fs → is_holding u ≡ true
some_held ru.Idle f fs h = absurd (nil≢cons h)
some_held ru.NoResources f fs h = absurd (nil≢cons h)
some_held (ru.Suspended o) f fs h = absurd (nil≢cons h)
some_held (ru.Ready o) f fs h = absurd (nil≢cons h)
some_held (ru.Held o g p) f fs h = refl
some_held (ru.Filling s w) f fs h = refl
some_held (ru.Closing s o e) f fs h = refl
some_held (ru.Lacking s) f fs h = refl

pub none_held : (u : Ru) → held_in u ≡ [] → is_holding u ≡ false
none_held ru.Idle h = refl
none_held ru.NoResources h = refl
none_held (ru.Suspended o) h = refl
none_held (ru.Ready o) h = refl
none_held (ru.Held o f p) h = absurd (cons≢nil h)
none_held (ru.Filling s w) h = absurd (cons≢nil h)
none_held (ru.Closing s o e) h = absurd (cons≢nil h)
none_held (ru.Lacking s) h = absurd (cons≢nil h)

-- 01, "Arrival and storing": a later Configure changes nothing of a held frame
pub held_through_configure : (u : Units) (s : Settings) → (with_settings u s).ru ≡ u.ru
held_through_configure u s = refl
