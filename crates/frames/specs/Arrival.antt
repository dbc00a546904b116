-- What an arrival that is not refused can come to, and for which frames: 01, "Arrival and storing". Assumes nothing.
use Rattle.std.specs.Prelude.{◌≡◌, Bool, true, false, List, [], ◌∷◌, ℕ, ◌+◌, ◌%◌, ◌≤◌, ◌<◌, length, take, drop, Option, Some, None}
use Rattle.memory.specs.Memory.{word_at, bytes_at}
use Rattle.memory.specs.Size.{size_allowed}
use Rattle.memory.specs.declared.Offset.{Offset}
use Rattle.memory.proofs.Fields.{Apart}
use Rattle.device.specs.Answers.{arrived}
use Rattle.device.specs.Change.{with_ru, with_units}
use Rattle.device.specs.Header.{header}
use Rattle.device.specs.Limits.{holding_size, fcs}
use Rattle.device.specs.Numbers.{verdict_of}
use Rattle.device.specs.State.{is_holding}
use Rattle.device.specs.declared.Counter.{Counter}
use Rattle.device.specs.declared.Counter.TheVariants as counter
use Rattle.device.specs.declared.Fate.{Fate}
use Rattle.device.specs.declared.Fate.TheVariants as fate
use Rattle.device.specs.declared.Frame.{Frame}
use Rattle.device.specs.declared.Reason.{Reason}
use Rattle.device.specs.declared.Reason.TheVariants as reason
use Rattle.device.specs.declared.Ru.{Ru}
use Rattle.device.specs.declared.Ru.TheVariants as ru
use Rattle.device.specs.declared.Settings.{Settings}
use Rattle.device.specs.declared.Verdict.{Verdict}
use Rattle.device.specs.declared.Verdict.TheVariants as verdict
use Rattle.filter.specs.Match.{matches}
use Rattle.control.specs.Obey.{of_scb}
use Rattle.chip.specs.World.{World, Ran}
use Rattle.traces.specs.Areas.{NotOverlong}

-- ---- which frame arrives

-- 01, "Calls, lent areas, refusals": what the lengths are where none of 1, 21, 22, 23 and 3 is given
pub record RightLengths (w : World) (f : List ℕ) : Type 0 where
  pub size : size_allowed (length w.memory) ≡ true
  pub area : length w.holding ≡ holding_size
  pub frame : NotOverlong f

abbrev pub settings_of : World → Settings
settings_of w = w.device.units.settings

-- the address length in force, and the header by it
abbrev pub length_in : World → ℕ
length_in w = (settings_of w).form.length

abbrev pub header_in : World → ℕ
header_in w = header (length_in w)

abbrev pub unit_of : World → Ru
unit_of w = w.device.units.ru

-- 02, Wish 1: 'demand 2's "addressed to us" now means passed by this filter': it matches
abbrev pub is_ours : World → List ℕ → Bool
is_ours w f = matches (settings_of w) w.device.own w.device.filter f

-- addressed to us, not shorter than the header
pub record Ours (w : World) (f : List ℕ) : Type 0 where
  pub enough : header_in w ≤ length f
  pub matched : is_ours w f ≡ true

-- short: bytes plus 4 below the minimum, by the settings at arrival
abbrev pub Short : World → List ℕ → Type 0
Short w f = length f + fcs < (settings_of w).minimum

-- good: neither short nor with a bad verdict
pub record Good (w : World) (f : List ℕ) (v : ℕ) : Type 0 where
  pub long : (settings_of w).minimum ≤ length f + fcs
  pub verdict : v ≡ 0

-- bad, and the counter that it adds to. Short: no counter whatever the verdict. 1 is the CRC verdict, any other but 0 misaligned
pub data Bad (w : World) (f : List ℕ) (v : ℕ) : Option Counter → Type 0 where
  short : Short w f → Bad w f v None
  crc : (settings_of w).minimum ≤ length f + fcs → v ≡ 1 → Bad w f v (Some counter.Crc)
  misaligned : (settings_of w).minimum ≤ length f + fcs → 2 ≤ v → Bad w f v (Some counter.Alignment)

-- ---- what it comes to

-- memory is as it was but for the word at a, one more (modulo 65,536)
pub record OneMore (a : ℕ) (before after : List ℕ) : Type 0 where
  pub size : length after ≡ length before
  pub word : word_at after a ≡ (word_at before a + 1) % 65536
  pub others : (b k : ℕ) → Apart (length before) a 2 b k → bytes_at after b k ≡ bytes_at before b k

-- a field of the SCB
abbrev pub in_scb : World → ℕ → ℕ
in_scb w field = of_scb w.device.units field

-- +8 CRCERRS, +10 ALNERRS, +12 RSCERRS, +14 OVRNERRS; where there is none, memory is as it was
abbrev pub Counts : Option Counter → World → List ℕ → Type 0
Counts None w after = after ≡ w.memory
Counts (Some counter.Crc) w after = OneMore (in_scb w 8) w.memory after
Counts (Some counter.Alignment) w after = OneMore (in_scb w 10) w.memory after
Counts (Some counter.Resources) w after = OneMore (in_scb w 12) w.memory after
Counts (Some counter.Overruns) w after = OneMore (in_scb w 14) w.memory after

-- the frame is not held: the record and both areas are as they were, the answer is the reason said and no more, and memory changes by the counter said
pub record NotHeld (w : World) (x : Fate) (why : Option Reason) (c : Option Counter) (r : Ran) : Type 0 where
  pub fates : r.outcome.fates ≡ x ∷ []
  pub device : r.outcome.device ≡ w.device
  pub answer : r.outcome.answer ≡ arrived why
  pub holding : r.holding ≡ w.holding
  pub outgoing : r.outgoing ≡ w.outgoing
  pub memory : Counts c w r.memory

-- it is held, before the descriptor that was next: its bytes enter the holding area, bytes that it doesn't reach stay; of the record only
-- the receive unit changes, which keeps how the frame was judged; no reason is given, and memory changes by the counter said
pub record IsHeld (w : World) (f : List ℕ) (fd : Offset) (judged : Frame) (c : Option Counter) (r : Ran) : Type 0 where
  pub fates : r.outcome.fates ≡ fate.Held c ∷ []
  pub device : r.outcome.device ≡ with_units w.device (with_ru w.device.units (ru.Held fd judged false))
  pub answer : r.outcome.answer ≡ arrived None
  pub entered : take (length f) r.holding ≡ f
  pub stayed : drop (length f) r.holding ≡ drop (length f) w.holding
  pub outgoing : r.outgoing ≡ w.outgoing
  pub memory : Counts c w r.memory

-- a bad frame without a counter is short
abbrev pub short_by : Option Counter → Bool
short_by None = true
short_by (Some c) = false

-- how a frame is judged: once, by the settings at arrival
abbrev pub judged_as : World → List ℕ → Verdict → Bool → Frame
judged_as w f v is_short =
    record { length = length f; verdict = v; short = is_short; savebad = (settings_of w).savebad; form = (settings_of w).form }

-- ---- every class of frames, in the order of the rules, and what it comes to

pub data ArrivalFate (w : World) (f : List ℕ) (v : ℕ) (r : Ran) : Type 0 where
  -- shorter than the header, dropped. No match, dropped. RU Idle or Suspended, dropped
  few : length f < header_in w → NotHeld w fate.TooFew (Some reason.TooFew) None r → ArrivalFate w f v r
  unmatched : header_in w ≤ length f → is_ours w f ≡ false → NotHeld w fate.NoMatch (Some reason.NoMatch) None r → ArrivalFate w f v r
  idle : Ours w f → unit_of w ≡ ru.Idle → NotHeld w fate.UnitIdle (Some reason.UnitIdle) None r → ArrivalFate w f v r
  suspended : (fd : Offset) → Ours w f → unit_of w ≡ ru.Suspended fd → NotHeld w fate.UnitSuspended (Some reason.UnitSuspended) None r → ArrivalFate w f v r
  -- a frame already held: OVRNERRS, which is no reason
  overrun : Ours w f → is_holding (unit_of w) ≡ true → NotHeld w fate.Overrun None (Some counter.Overruns) r → ArrivalFate w f v r
  -- a good one is held in Ready, else RSCERRS, which is none either
  good_ready : (fd : Offset) → Ours w f → Good w f v → unit_of w ≡ ru.Ready fd
      → IsHeld w f fd (judged_as w f verdict.Good false) None r
      → ArrivalFate w f v r
  good_unready : Ours w f → Good w f v → unit_of w ≡ ru.NoResources → NotHeld w fate.NoResources None (Some counter.Resources) r → ArrivalFate w f v r
  -- a bad one is held only in Ready with save-bad set; else it is dropped, counted or not
  bad_saved : (fd : Offset) (c : Option Counter) → Ours w f → Bad w f v c → unit_of w ≡ ru.Ready fd → (settings_of w).savebad ≡ true
      → IsHeld w f fd (judged_as w f (verdict_of v) (short_by c)) c r
      → ArrivalFate w f v r
  bad_unsaved : (fd : Offset) (c : Option Counter) → Ours w f → Bad w f v c → unit_of w ≡ ru.Ready fd → (settings_of w).savebad ≡ false
      → NotHeld w (fate.Bad c) (Some reason.Bad) c r
      → ArrivalFate w f v r
  bad_unready : (c : Option Counter) → Ours w f → Bad w f v c → unit_of w ≡ ru.NoResources → NotHeld w (fate.Bad c) (Some reason.Bad) c r → ArrivalFate w f v r
