-- Why an arriving frame is dropped: 02, Wish 3, "Each reason is given exactly when document 01's order reaches it". Assumes nothing.
use Rattle.std.specs.Prelude.{◌≡◌, true, false, List, ℕ, ◌≤◌, ◌<◌, length, Option, Some, None}
use Rattle.memory.specs.declared.Offset.{Offset}
use Rattle.memory.proofs.Bytes.{Bytes}
use Rattle.device.specs.Numbers.{reason_or_0}
use Rattle.device.specs.State.{is_holding}
use Rattle.device.specs.declared.Counter.{Counter}
use Rattle.device.specs.declared.Reason.{Reason}
use Rattle.device.specs.declared.Reason.TheVariants as reason
use Rattle.device.specs.declared.Ru.TheVariants as ru
use Rattle.chip.specs.Arrival.{arrival_of}
use Rattle.chip.specs.Call.{Call, reset, attention, arrive, turn}
use Rattle.chip.specs.World.{World}
use Rattle.calls.specs.Calls.{Areas}
use Rattle.traces.specs.Areas.{AreBytes}
use Rattle.traces.specs.Bytes.{called, is_refused}
use Rattle.traces.specs.Bytes.{reason as reason_in}
use Rattle.frames.specs.Arrival.{settings_of, header_in, unit_of, is_ours, Ours, Good, Bad}

-- the reason that the answer gives
abbrev pub why_of : World → List ℕ → ℕ → Option Reason
why_of w f v = (arrival_of w f v).outcome.answer.reason

-- ---- when a reason is reached: 01, "Arrival and storing", in its order

-- "A bad frame is held only in Ready with save-bad set"
pub data NotSaved (w : World) : Type 0 where
  unset : (fd : Offset) → unit_of w ≡ ru.Ready fd → (settings_of w).savebad ≡ false → NotSaved w
  unready : unit_of w ≡ ru.NoResources → NotSaved w

-- a frame for us that is not dropped: OVRNERRS counts it, or it is good and held, or good and RSCERRS counts it, or bad and saved
pub data NotDropped (w : World) (f : List ℕ) (v : ℕ) : Type 0 where
  overrun : is_holding (unit_of w) ≡ true → NotDropped w f v
  held : (fd : Offset) → unit_of w ≡ ru.Ready fd → Good w f v → NotDropped w f v
  lost : unit_of w ≡ ru.NoResources → Good w f v → NotDropped w f v
  saved : (fd : Offset) (c : Option Counter) → unit_of w ≡ ru.Ready fd → (settings_of w).savebad ≡ true → Bad w f v c → NotDropped w f v

-- "shorter than the header" (02, Wish 4), "dropped. No match, dropped. RU Idle or Suspended, dropped"; no frame held, and bad: whichever counter it adds to
abbrev pub Reached : Option Reason → World → List ℕ → ℕ → Type 0
Reached (Some reason.TooFew) w f v = length f < header_in w
Reached (Some reason.NoMatch) w f v = (header_in w ≤ length f) × (is_ours w f ≡ false)
Reached (Some reason.UnitIdle) w f v = Ours w f × (unit_of w ≡ ru.Idle)
Reached (Some reason.UnitSuspended) w f v = Ours w f × ((fd : Offset) × (unit_of w ≡ ru.Suspended fd))
Reached (Some reason.Bad) w f v = Ours w f × (NotSaved w × ((c : Option Counter) × Bad w f v c))
Reached None w f v = Ours w f × NotDropped w f v

-- ---- on bytes

-- every call but an arrival
abbrev pub IsOther : Call → Type 0
IsOther reset = Unit {0}
IsOther attention = Unit {0}
IsOther (arrive f v) = ⊥
IsOther (turn report) = Unit {0}

-- an arrival that is not refused, and whose answer has the reason
pub record Told (why : Option Reason) : Type 0 where
  pub areas : Areas
  pub frame : List ℕ
  pub verdict : ℕ
  pub lent : AreBytes areas
  pub bytes : Bytes frame
  pub accepted : is_refused (called (arrive frame verdict) areas) ≡ false
  pub given : reason_in (called (arrive frame verdict) areas).answer ≡ reason_or_0 why
