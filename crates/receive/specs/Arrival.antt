-- What becomes of an arriving frame: 01, "Arrival and storing", in its order. Memory, holding area and unit follow from the fate.
-- Assumes nothing.
use Rattle.std.specs.Prelude.{Bool, true, false, List, ℕ, ◌+◌, min, ltb, length, Option, Some, None}
use Rattle.std.proofs.lemmas.List.Edits.{sets}
use Rattle.memory.specs.Memory.{Write}
use Rattle.device.specs.Answers.{counter_of, counts, is_held}
use Rattle.device.specs.Header.{header}
use Rattle.device.specs.Limits.{held_from, longest, fcs}
use Rattle.device.specs.Numbers.{verdict_of}
use Rattle.device.specs.State.{is_good}
use Rattle.device.specs.declared.Counter.{Counter}
use Rattle.device.specs.declared.Counter.TheVariants as counter
use Rattle.device.specs.declared.Fate.{Fate}
use Rattle.device.specs.declared.Fate.TheVariants as fate
use Rattle.device.specs.declared.Frame.{Frame}
use Rattle.device.specs.declared.Ru.{Ru}
use Rattle.device.specs.declared.Ru.TheVariants as ru
use Rattle.device.specs.declared.Settings.{Settings}
use Rattle.device.specs.declared.Units.{Units}
use Rattle.device.specs.declared.Verdict.{Verdict}
use Rattle.device.specs.declared.Verdict.TheVariants as verdict

-- a frame's length; one that exceeds 2,048 bytes is refused before anything here is asked
unfoldable pub length_of : List ℕ → ℕ
length_of f = min (length f) longest

-- short, bad and good are judged once, by the settings at arrival. Short: bytes plus 4 below the minimum. 02, Wish 4: "A held frame is stored by the
-- length and location it arrived under"
unfoldable pub judged : Settings → List ℕ → ℕ → Frame
judged s f v =
    record {
      length = length_of f;
      verdict = verdict_of v;
      short = ltb (length_of f + fcs) s.minimum;
      savebad = s.savebad;
      form = s.form;
    }

-- Short: no counter whatever the verdict. Misaligned verdict: ALNERRS. CRC verdict: CRCERRS
abbrev pub counter_by : (short : Bool) → Verdict → Option Counter
counter_by true v = None
counter_by false verdict.Good = None
counter_by false verdict.Crc = Some counter.Crc
counter_by false verdict.Misaligned = Some counter.Alignment

abbrev pub counter_for : Frame → Option Counter
counter_for f = counter_by f.short f.verdict

-- in Ready: a good frame is held, a bad one with save-bad set
abbrev pub in_ready : (good saved : Bool) → Option Counter → Fate
in_ready true saved c = fate.Held c
in_ready false true c = fate.Held c
in_ready false false c = fate.Bad c

-- in No Resources: a good frame adds to RSCERRS, a bad one is not held
abbrev pub in_no_resources : (good : Bool) → Option Counter → Fate
in_no_resources true c = fate.NoResources
in_no_resources false c = fate.Bad c

-- RU Idle or Suspended, dropped. A frame already held: OVRNERRS. Else as it was judged
abbrev pub fate_in : Ru → Frame → Fate
fate_in ru.Idle f = fate.UnitIdle
fate_in (ru.Suspended fd) f = fate.UnitSuspended
fate_in (ru.Held fd h p) f = fate.Overrun
fate_in (ru.Filling s w) f = fate.Overrun
fate_in (ru.Closing s free full) f = fate.Overrun
fate_in (ru.Lacking s) f = fate.Overrun
fate_in ru.NoResources f = in_no_resources (is_good f) (counter_for f)
fate_in (ru.Ready fd) f = in_ready (is_good f) f.savebad (counter_for f)

-- under 14 bytes, which reads "shorter than the header" since 02, Wish 4: dropped. No match, dropped
abbrev pub fate_by : (few matched : Bool) → Ru → Frame → Fate
fate_by true matched unit f = fate.TooFew
fate_by false false unit f = fate.NoMatch
fate_by false true unit f = fate_in unit f

unfoldable pub fate_of : Settings → (matched : Bool) → Ru → List ℕ → ℕ → Fate
fate_of s matched unit f v = fate_by (ltb (length f) (header s.form.length)) matched unit (judged s f v)

-- the unit with the frame held, before the descriptor that was next
abbrev pub holding : Ru → Frame → Ru
holding ru.Idle f = ru.Idle
holding ru.NoResources f = ru.NoResources
holding (ru.Suspended fd) f = ru.Suspended fd
holding (ru.Ready fd) f = ru.Held fd f false
holding (ru.Held fd h p) f = ru.Held fd h p
holding (ru.Filling s w) f = ru.Filling s w
holding (ru.Closing s free full) f = ru.Closing s free full
holding (ru.Lacking s) f = ru.Lacking s

abbrev pub unit_by : (held : Bool) → Ru → Frame → Ru
unit_by true unit f = holding unit f
unit_by false unit f = unit

-- only a held frame enters the holding area; bytes that it doesn't reach stay
abbrev pub area_by : (held : Bool) → List ℕ → List ℕ → List ℕ
area_by true area f = sets area held_from f
area_by false area f = area

-- ---- an arrival, in one record: the unit afterwards, the counter's write, the holding area, the fate

pub record Arrival : Type 0 where
  pub unit : Ru
  pub writes : List Write
  pub area : List ℕ
  pub fate : Fate

-- u: the units; f: the frame; v: the line side's verdict; m: memory; area: the holding area
abbrev pub arrival_by : Fate → Units → List ℕ → ℕ → List ℕ → List ℕ → Arrival
arrival_by fate u f v m area =
    record {
      unit = unit_by (is_held fate) u.ru (judged u.settings f v);
      writes = counts (counter_of fate) u.base u.scb m;
      area = area_by (is_held fate) area f;
      fate = fate;
    }

unfoldable pub arrival : Units → (matched : Bool) → List ℕ → ℕ → List ℕ → List ℕ → Arrival
arrival u matched f v m area = arrival_by (fate_of u.settings matched u.ru f v) u f v m area
