-- Demand 2 of frames at an arrival: a theorem for each class of frames, in the order of 01, "Arrival and storing". Each settles the record, memory,
-- both areas and the answer. Assumes nothing.
use mathlib.Core.Path.{◌≡◌, refl, sym, ap, ap₂, ◌∙◌, subst}
use mathlib.Core.Bool.{Bool, true, false, false≢true}
use mathlib.Core.List.{List, [], ◌∷◌}
use Prim.Native.Nat.{ℕ, zero, suc, ◌+◌, ◌%◌, ◌≤◌, ◌<◌}
use native.Mathlib.Nat.{min-eq_left, zero-add}
use native.Mathlib.Omega.{arith}
use borrow.Author.Tests.{lt-ltb, le-ltb, ltb-true, ltb-false, eqb-true, eqb-false, ne_eqb}
use lib.Dec.{eqb, ltb}
use lib.ListN.{length, take, drop}
use lib.Seq.{sets, sets-eq, take-append_seam, drop-append_seam}
use Rattle.std.specs.Prelude.{Option, Some, None}
use Rattle.memory.specs.Memory.{word_at, digits, count_to, apply}
use Rattle.memory.specs.declared.Offset.{Offset}
use Rattle.memory.proofs.Fields.{word_same, bytes_other, length_digits}
use Rattle.memory.proofs.Laws.{length-put_bytes}
use Rattle.memory.proofs.Power.{allowed}
use Rattle.device.specs.Answers.{counter_of, reason_of, counts, is_held}
use Rattle.device.specs.Limits.{fcs, held_from}
use Rattle.device.specs.Numbers.{verdict_of}
use Rattle.device.specs.State.{is_holding, good_by}
use Rattle.device.specs.Change.{with_ru, with_units}
use Rattle.device.specs.declared.Counter.{Counter}
use Rattle.device.specs.declared.Counter.TheVariants as counter
use Rattle.device.specs.declared.Fate.{Fate}
use Rattle.device.specs.declared.Fate.TheVariants as fate
use Rattle.device.specs.declared.Frame.{Frame}
use Rattle.device.specs.declared.Reason.TheVariants as reason
use Rattle.device.specs.declared.Ru.{Ru}
use Rattle.device.specs.declared.Ru.TheVariants as ru
use Rattle.device.specs.declared.Verdict.TheVariants as verdict
use Rattle.receive.specs.Arrival as receive
use Rattle.chip.specs.Arrival as chip
use Rattle.chip.specs.World.{World, Ran}
use Rattle.frames.specs.Arrival.{RightLengths, in_scb, short_by, settings_of, header_in, unit_of, is_ours, Ours, Good, Bad, short, crc, misaligned, OneMore, Counts, NotHeld, IsHeld, judged_as, ArrivalFate}
use Rattle.frames.specs.Arrival as classes

-- ---- one more

pub one_more_lem : (m : List ℕ) (a : ℕ) → 2 ≤ length m → OneMore a m (apply (count_to m a ∷ []) m)
one_more_lem m a h =
    record {
      size = length-put_bytes m a (digits 2 ((word_at m a + 1) % 65536));
      word = word_same m a ((word_at m a + 1) % 65536) h ∙ omega arith;
      others = λ b k p. bytes_other m a (digits 2 ((word_at m a + 1) % 65536)) b k (rw length_digits p);
    }

counted : (c : Option Counter) (w : World) → 2 ≤ length w.memory
    → Counts c w (apply (counts c w.device.units.base w.device.units.scb w.memory) w.memory)
unfolding counts
counted None w h = refl
counted (Some counter.Crc) w h = one_more_lem w.memory (in_scb w 8) h
counted (Some counter.Alignment) w h = one_more_lem w.memory (in_scb w 10) h
counted (Some counter.Resources) w h = one_more_lem w.memory (in_scb w 12) h
counted (Some counter.Overruns) w h = one_more_lem w.memory (in_scb w 14) h

pub enough : {w : World} {f : List ℕ} → RightLengths w f → 2 ≤ length w.memory
enough {w} l =
    let least = (allowed (length w.memory) l.size).least in omega arith

-- ---- all follows from the fate

said : World → List ℕ → ℕ → Fate → Ran
said w f v x = chip.arrived_by w (receive.arrival_by x w.device.units f v w.memory w.holding)

fated : World → List ℕ → ℕ → Fate
fated w f v = receive.fate_of (settings_of w) (is_ours w f) (unit_of w) f v

by_fate : (w : World) (f : List ℕ) (v : ℕ) → said w f v (fated w f v) ≡ chip.arrival_of w f v
unfolding said fated chip.arrival_of chip.arrival receive.arrival
by_fate w f v = refl

not_held_said : (x : Fate) (w : World) (f : List ℕ) (v : ℕ) → is_held x ≡ false → RightLengths w f → NotHeld w x (reason_of x) (counter_of x) (said w f v x)
unfolding said
not_held_said x w f v h l =
    record {
      fates = refl;
      device = rw h;
      answer = refl;
      holding = rw h;
      outgoing = refl;
      memory = counted (counter_of x) w (enough l);
    }

not_held : (x : Fate) (w : World) (f : List ℕ) (v : ℕ) → is_held x ≡ false → RightLengths w f → fated w f v ≡ x
    → NotHeld w x (reason_of x) (counter_of x) (chip.arrival_of w f v)
not_held x w f v h l e = subst (λ (r : Ran). NotHeld w x (reason_of x) (counter_of x) r) (ap (said w f v) (sym e) ∙ by_fate w f v) (not_held_said x w f v h l)

-- a frame that is set down at the front of the holding area
entered : (h f : List ℕ) → length f ≤ length h → take (length f) (sets h held_from f) ≡ f
entered h f l = rw (sets-eq f h 0 (rw zero-add l), zero-add) (take-append_seam f (drop (length f) h))

stayed : (h f : List ℕ) → length f ≤ length h → drop (length f) (sets h held_from f) ≡ drop (length f) h
stayed h f l = rw (sets-eq f h 0 (rw zero-add l), zero-add) (drop-append_seam f (drop (length f) h))

fits : {w : World} {f : List ℕ} → RightLengths w f → length f ≤ length w.holding
fits {w} {f} l =
    let area = l.area in
    let frame = l.frame in
    omega arith

is_held_said : (c : Option Counter) (w : World) (f : List ℕ) (v : ℕ) (fd : Offset) (j : Frame) → RightLengths w f → unit_of w ≡ ru.Ready fd
    → receive.judged (settings_of w) f v ≡ j
    → IsHeld w f fd j c (said w f v (fate.Held c))
unfolding said
is_held_said c w f v fd j l u e =
    record {
      fates = refl;
      device = ap (λ (n : Ru). with_units w.device (with_ru w.device.units n)) (ap₂ receive.holding u e);
      answer = refl;
      entered = entered w.holding f (fits l);
      stayed = stayed w.holding f (fits l);
      outgoing = refl;
      memory = counted c w (enough l);
    }

is_held_lem : (c : Option Counter) (w : World) (f : List ℕ) (v : ℕ) (fd : Offset) (j : Frame) → RightLengths w f → unit_of w ≡ ru.Ready fd
    → receive.judged (settings_of w) f v ≡ j
    → fated w f v ≡ fate.Held c → IsHeld w f fd j c (chip.arrival_of w f v)
is_held_lem c w f v fd j l u e x =
    subst (λ (r : Ran). IsHeld w f fd j c r) (ap (said w f v) (sym x) ∙ by_fate w f v) (is_held_said c w f v fd j l u e)

-- ---- how a frame is judged

judged_as_lem : (w : World) (f : List ℕ) (v : ℕ) (b : Bool) → RightLengths w f → ltb (length f + fcs) (settings_of w).minimum ≡ b
    → receive.judged (settings_of w) f v ≡ judged_as w f (verdict_of v) b
unfolding receive.judged receive.length_of
judged_as_lem w f v b l e = rw (min-eq_left l.frame, e)

good_judged : (w : World) (f : List ℕ) (v : ℕ) → RightLengths w f → Good w f v → receive.judged (settings_of w) f v ≡ judged_as w f verdict.Good false
unfolding verdict_of
good_judged w f v l g =
    judged_as_lem w f v false l (le-ltb _ _ g.long) ∙ ap (λ (n : ℕ). judged_as w f (verdict_of n) false) g.verdict

bad_judged : (w : World) (f : List ℕ) (v : ℕ) (c : Option Counter) → RightLengths w f → Bad w f v c
    → receive.judged (settings_of w) f v ≡ judged_as w f (verdict_of v) (short_by c)
bad_judged w f v c l (short s) = judged_as_lem w f v true l (lt-ltb _ _ s)
bad_judged w f v c l (crc n e) = judged_as_lem w f v false l (le-ltb _ _ n)
bad_judged w f v c l (misaligned n e) = judged_as_lem w f v false l (le-ltb _ _ n)

misaligned_verdict : (v : ℕ) → 2 ≤ v → verdict_of v ≡ verdict.Misaligned
unfolding verdict_of
misaligned_verdict v h = rw (ne_eqb v 0 (λ e. omega arith), ne_eqb v 1 (λ e. omega arith))

crc_verdict : (v : ℕ) → v ≡ 1 → verdict_of v ≡ verdict.Crc
unfolding verdict_of
crc_verdict v h = rw h

bad_good : (w : World) (f : List ℕ) (v : ℕ) (c : Option Counter) → Bad w f v c → good_by (short_by c) (verdict_of v) ≡ false
bad_good w f v c (short s) = refl
bad_good w f v c (crc n e) = rw (crc_verdict v e)
bad_good w f v c (misaligned n e) = rw (misaligned_verdict v e)

bad_counter : (w : World) (f : List ℕ) (v : ℕ) (c : Option Counter) → Bad w f v c → receive.counter_by (short_by c) (verdict_of v) ≡ c
bad_counter w f v c (short s) = refl
bad_counter w f v c (crc n e) = rw (crc_verdict v e)
bad_counter w f v c (misaligned n e) = rw (misaligned_verdict v e)

-- a frame of ours has the fate that the unit and the judgement give it
in_unit : (w : World) (f : List ℕ) (v : ℕ) (u : Ru) (j : Frame) → Ours w f → unit_of w ≡ u → receive.judged (settings_of w) f v ≡ j
    → fated w f v ≡ receive.fate_in u j
unfolding fated receive.fate_of
in_unit w f v u j o e g = rw (le-ltb (length f) (header_in w) o.enough, o.matched) (ap₂ receive.fate_in e g)

-- ---- the classes

-- shorter than the header, dropped
pub few : (w : World) (f : List ℕ) (v : ℕ) → RightLengths w f → length f < header_in w → NotHeld w fate.TooFew (Some reason.TooFew) None (chip.arrival_of w f v)
unfolding fated receive.fate_of
few w f v l h = not_held fate.TooFew w f v refl l (rw (lt-ltb (length f) (header_in w) h))

-- no match, dropped
pub unmatched : (w : World) (f : List ℕ) (v : ℕ) → RightLengths w f → header_in w ≤ length f → is_ours w f ≡ false
    → NotHeld w fate.NoMatch (Some reason.NoMatch) None (chip.arrival_of w f v)
unfolding fated receive.fate_of
unmatched w f v l h n = not_held fate.NoMatch w f v refl l (rw (le-ltb (length f) (header_in w) h, n))

-- RU Idle or Suspended, dropped
pub idle : (w : World) (f : List ℕ) (v : ℕ) → RightLengths w f → Ours w f → unit_of w ≡ ru.Idle
    → NotHeld w fate.UnitIdle (Some reason.UnitIdle) None (chip.arrival_of w f v)
idle w f v l o u = not_held fate.UnitIdle w f v refl l (in_unit w f v ru.Idle _ o u refl)

pub suspended : (w : World) (f : List ℕ) (v : ℕ) (fd : Offset) → RightLengths w f → Ours w f → unit_of w ≡ ru.Suspended fd
    → NotHeld w fate.UnitSuspended (Some reason.UnitSuspended) None (chip.arrival_of w f v)
suspended w f v fd l o u = not_held fate.UnitSuspended w f v refl l (in_unit w f v (ru.Suspended fd) _ o u refl)

-- a frame already held: OVRNERRS, whatever the frame
overrun_fate : (u : Ru) (j : Frame) → is_holding u ≡ true → receive.fate_in u j ≡ fate.Overrun
overrun_fate ru.Idle j h = absurd (false≢true h)
overrun_fate ru.NoResources j h = absurd (false≢true h)
overrun_fate (ru.Suspended fd) j h = absurd (false≢true h)
overrun_fate (ru.Ready fd) j h = absurd (false≢true h)
overrun_fate (ru.Held fd f p) j h = refl
overrun_fate (ru.Filling s w) j h = refl
overrun_fate (ru.Closing s o e) j h = refl
overrun_fate (ru.Lacking s) j h = refl

pub overrun : (w : World) (f : List ℕ) (v : ℕ) → RightLengths w f → Ours w f → is_holding (unit_of w) ≡ true
    → NotHeld w fate.Overrun None (Some counter.Overruns) (chip.arrival_of w f v)
overrun w f v l o h =
    not_held fate.Overrun w f v refl l (in_unit w f v (unit_of w) (receive.judged (settings_of w) f v) o refl refl ∙ overrun_fate (unit_of w) _ h)

-- a good one is held in Ready
pub good_ready : (w : World) (f : List ℕ) (v : ℕ) (fd : Offset) → RightLengths w f → Ours w f → Good w f v → unit_of w ≡ ru.Ready fd
    → IsHeld w f fd (judged_as w f verdict.Good false) None (chip.arrival_of w f v)
good_ready w f v fd l o g u =
    let j = good_judged w f v l g in is_held_lem None w f v fd _ l u j (in_unit w f v (ru.Ready fd) _ o u j)

-- else RSCERRS
pub good_unready : (w : World) (f : List ℕ) (v : ℕ) → RightLengths w f → Ours w f → Good w f v → unit_of w ≡ ru.NoResources
    → NotHeld w fate.NoResources None (Some counter.Resources) (chip.arrival_of w f v)
good_unready w f v l o g u =
    not_held fate.NoResources w f v refl l (in_unit w f v ru.NoResources _ o u (good_judged w f v l g))

-- a bad one is held only in Ready with save-bad set; its counter moves in either case
pub bad_saved : (w : World) (f : List ℕ) (v : ℕ) (fd : Offset) (c : Option Counter) → RightLengths w f → Ours w f → Bad w f v c → unit_of w ≡ ru.Ready fd
    → (settings_of w).savebad ≡ true
    → IsHeld w f fd (judged_as w f (verdict_of v) (short_by c)) c (chip.arrival_of w f v)
bad_saved w f v fd c l o b u s =
    let j = bad_judged w f v c l b in
    is_held_lem c w f v fd _ l u j (in_unit w f v (ru.Ready fd) _ o u j ∙ rw (bad_good w f v c b, s, bad_counter w f v c b))

pub bad_unsaved : (w : World) (f : List ℕ) (v : ℕ) (fd : Offset) (c : Option Counter) → RightLengths w f → Ours w f → Bad w f v c → unit_of w ≡ ru.Ready fd
    → (settings_of w).savebad ≡ false
    → NotHeld w (fate.Bad c) (Some reason.Bad) c (chip.arrival_of w f v)
bad_unsaved w f v fd c l o b u s =
    not_held (fate.Bad c) w f v refl l
    (in_unit w f v (ru.Ready fd) _ o u (bad_judged w f v c l b) ∙ rw (bad_good w f v c b, s, bad_counter w f v c b))

pub bad_unready : (w : World) (f : List ℕ) (v : ℕ) (c : Option Counter) → RightLengths w f → Ours w f → Bad w f v c → unit_of w ≡ ru.NoResources
    → NotHeld w (fate.Bad c) (Some reason.Bad) c (chip.arrival_of w f v)
bad_unready w f v c l o b u =
    not_held (fate.Bad c) w f v refl l
    (in_unit w f v ru.NoResources _ o u (bad_judged w f v c l b) ∙ rw (bad_good w f v c b, bad_counter w f v c b))

-- ---- there is no other class

at_least_two : (v : ℕ) → (v ≡ 0 → ⊥) → (v ≡ 1 → ⊥) → 2 ≤ v
at_least_two zero a b = absurd (a refl)
at_least_two (suc zero) a b = absurd (b refl)
at_least_two (suc (suc v)) a b = omega arith

data Judgement (w : World) (f : List ℕ) (v : ℕ) : Type 0 where
  is_good_lem : Good w f v → Judgement w f v
  is_bad : (c : Option Counter) → Bad w f v c → Judgement w f v

verdicts : (zero? one? : Bool) (w : World) (f : List ℕ) (v : ℕ) → (settings_of w).minimum ≤ length f + fcs → eqb v 0 ≡ zero? → eqb v 1 ≡ one?
    → Judgement w f v
verdicts true one? w f v l a b = is_good_lem (record { long = l; verdict = eqb-true v 0 a })
verdicts false true w f v l a b = is_bad (Some counter.Crc) (crc l (eqb-true v 1 b))
verdicts false false w f v l a b =
    is_bad (Some counter.Alignment) (misaligned l (at_least_two v (eqb-false v 0 a) (eqb-false v 1 b)))

judgement : (is_short : Bool) (w : World) (f : List ℕ) (v : ℕ) → ltb (length f + fcs) (settings_of w).minimum ≡ is_short → Judgement w f v
judgement true w f v h = is_bad None (short (ltb-true (length f + fcs) (settings_of w).minimum h))
judgement false w f v h = verdicts (eqb v 0) (eqb v 1) w f v (ltb-false (length f + fcs) (settings_of w).minimum h) refl refl

ready_class : (saved : Bool) (w : World) (f : List ℕ) (v : ℕ) (fd : Offset) → RightLengths w f → Ours w f → unit_of w ≡ ru.Ready fd
    → (settings_of w).savebad ≡ saved → Judgement w f v
    → ArrivalFate w f v (chip.arrival_of w f v)
ready_class saved w f v fd l o u s (is_good_lem g) = classes.good_ready fd o g u (good_ready w f v fd l o g u)
ready_class true w f v fd l o u s (is_bad c b) = classes.bad_saved fd c o b u s (bad_saved w f v fd c l o b u s)
ready_class false w f v fd l o u s (is_bad c b) = classes.bad_unsaved fd c o b u s (bad_unsaved w f v fd c l o b u s)

unready_class : (w : World) (f : List ℕ) (v : ℕ) → RightLengths w f → Ours w f → unit_of w ≡ ru.NoResources → Judgement w f v
    → ArrivalFate w f v (chip.arrival_of w f v)
unready_class w f v l o u (is_good_lem g) = classes.good_unready o g u (good_unready w f v l o g u)
unready_class w f v l o u (is_bad c b) = classes.bad_unready c o b u (bad_unready w f v c l o b u)

our_class : (u : Ru) (w : World) (f : List ℕ) (v : ℕ) → RightLengths w f → Ours w f → unit_of w ≡ u → ArrivalFate w f v (chip.arrival_of w f v)
our_class ru.Idle w f v l o u = classes.idle o u (idle w f v l o u)
our_class ru.NoResources w f v l o u = unready_class w f v l o u (judgement (ltb (length f + fcs) (settings_of w).minimum) w f v refl)
our_class (ru.Suspended fd) w f v l o u = classes.suspended fd o u (suspended w f v fd l o u)
our_class (ru.Ready fd) w f v l o u =
    ready_class (settings_of w).savebad w f v fd l o u refl (judgement (ltb (length f + fcs) (settings_of w).minimum) w f v refl)
our_class (ru.Held fd h p) w f v l o u = classes.overrun o (ap is_holding u) (overrun w f v l o (ap is_holding u))
our_class (ru.Filling s k) w f v l o u = classes.overrun o (ap is_holding u) (overrun w f v l o (ap is_holding u))
our_class (ru.Closing s free full) w f v l o u = classes.overrun o (ap is_holding u) (overrun w f v l o (ap is_holding u))
our_class (ru.Lacking s) w f v l o u = classes.overrun o (ap is_holding u) (overrun w f v l o (ap is_holding u))

class_by : (is_few matched : Bool) (w : World) (f : List ℕ) (v : ℕ) → RightLengths w f → ltb (length f) (header_in w) ≡ is_few → is_ours w f ≡ matched
    → ArrivalFate w f v (chip.arrival_of w f v)
class_by true matched w f v l a b =
    let n = ltb-true (length f) (header_in w) a in classes.few n (few w f v l n)
class_by false false w f v l a b =
    let n = ltb-false (length f) (header_in w) a in classes.unmatched n b (unmatched w f v l n b)
class_by false true w f v l a b =
    our_class (unit_of w) w f v l (record { enough = ltb-false (length f) (header_in w) a; matched = b }) refl

-- whatever arrives, where the call is not refused
pub arrival_fate : (w : World) (f : List ℕ) (v : ℕ) → RightLengths w f → ArrivalFate w f v (chip.arrival_of w f v)
arrival_fate w f v l = class_by (ltb (length f) (header_in w)) (is_ours w f) w f v l refl refl
