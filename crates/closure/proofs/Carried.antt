-- Closure on the areas that are lent: a call that is not refused does what it does on the state that the record holds, and leaves a record that is
-- accepted again; bytes stay bytes and lengths stay. Assumes nothing.
use mathlib.Core.Path.{◌≡◌, refl, sym, ap, subst, ◌∙◌}
use mathlib.Core.Bool.{Bool, true, false}
use mathlib.Core.List.{List, ◌∷◌, nil≢cons}
use Prim.Native.Nat.{ℕ, ◌≤◌}
use native.Mathlib.Omega.{arith}
use borrow.Author.Tests.{eqb-true, eq-eqb, not-false}
use lib.Dec.{eqb}
use lib.ListN.{length}
use Rattle.memory.proofs.Bytes.{Bytes}
use Rattle.memory.proofs.Power.{size_allowed_lem}
use Rattle.scb.specs.declared.RuState.TheVariants as rus
use Rattle.device.specs.Limits.{record_size}
use Rattle.device.specs.Numbers.{refusal_number, refusal_or_0}
use Rattle.device.specs.State.{ru_state, held_in, fresh}
use Rattle.device.specs.declared.Device.{Device}
use Rattle.device.specs.declared.Frame.{Frame}
use Rattle.device.specs.declared.Refusal.{Refusal}
use Rattle.device.specs.declared.Refusal.TheVariants as refusal
use Rattle.device.specs.declared.Ru.{Ru}
use Rattle.device.specs.declared.Ru.TheVariants as ru
use Rattle.image.specs.Image.{image_of, decode_of, device_at}
use Rattle.image.specs.Found as is
use Rattle.image.proofs.Steps.{length_image}
use Rattle.image.proofs.Exact.{decode_image, device_back, image_bytes}
use Rattle.chip.specs.World.{World, Ran, afterwards}
use Rattle.chip.specs.Attention.{attention_of}
use Rattle.chip.specs.Arrival.{arrival_of}
use Rattle.chip.specs.Turn.{turn_of}
use Rattle.chip.specs.Call.{Call, reset, attention, arrive, turn, ran}
use Rattle.calls.specs.Calls.{Areas, Called, answer_number, refusal_of, on_bytes, unless_refused, attention_call, arrival_call, turn_call, reset_call}
use Rattle.calls.proofs.Answer.{told_number, told_alone}
use Rattle.calls.proofs.Laws.{accepted}
use Rattle.traces.specs.Bytes.{called, number, is_refused}
use Rattle.traces.specs.Areas.{arriving, FrameBytes, AreBytes, Holds, world_in, Shows}
use Rattle.closure.specs.Sound.{Sound}
use Rattle.closure.specs.Refusals.{TakesAll, Right, rows_of}
use Rattle.closure.specs.Carried.{AsLong, Carried, Again, Parts}
use Rattle.closure.proofs.Closed.{closed, reset_closed}
use Rattle.closure.proofs.Lengths.{lengths_kept}
use Rattle.closure.proofs.Answers.{number_accepted, sent_most}
use Rattle.closure.proofs.Refusals.{table, wrong_row, AllRight, Unrefused, none_given, untouched}

-- ---- a record that holds a state

-- is decoded to that state
pub holds_decoded : (r : List ℕ) (d : Device) → Holds r d → decode_of r ≡ is.Units d.units
holds_decoded r d h = rw h.image (decode_image d h.wide h.range)

pub holds_back : (r : List ℕ) (d : Device) → Holds r d → device_at r d.units ≡ d
holds_back r d h = rw h.image (device_back d h.wide)

-- has 256 bytes
pub holds_length : (r : List ℕ) (d : Device) → Holds r d → length r ≡ 256
holds_length r d h = rw h.image (length_image d h.wide.own)

pub holds_bytes : (r : List ℕ) (d : Device) → Holds r d → Bytes r
holds_bytes r d h = rw h.image (image_bytes d h.wide)

-- and has no held frame outside Ready
ready_by : (u : Ru) (f : Frame) (fs : List Frame) → held_in u ≡ f ∷ fs → ru_state u ≡ rus.Ready
ready_by ru.Idle f fs h = absurd (nil≢cons h)
ready_by ru.NoResources f fs h = absurd (nil≢cons h)
ready_by (ru.Suspended o) f fs h = absurd (nil≢cons h)
ready_by (ru.Ready o) f fs h = refl
ready_by (ru.Held o g p) f fs h = refl
ready_by (ru.Filling s w) f fs h = refl
ready_by (ru.Closing s o e) f fs h = refl
ready_by (ru.Lacking s) f fs h = refl

pub holds_ready : (r : List ℕ) (d : Device) (f : Frame) (fs : List Frame) → Holds r d → held_in d.units.ru ≡ f ∷ fs
    → ru_state d.units.ru ≡ rus.Ready
holds_ready r d f fs k h = ready_by d.units.ru f fs h

lent_sound : (a : Areas) (d : Device) → AreBytes a → Holds a.kept d → Sound (world_in d a)
lent_sound a d l h = record { range = h.range; wide = h.wide; memory = l.memory; holding = l.holding; outgoing = l.outgoing }

-- ---- a call that is not refused

zero_number : (c : Call) (a : Areas) → is_refused (called c a) ≡ false → number (called c a).answer ≡ 0
zero_number c a e = eqb-true _ _ (not-false (eqb (number (called c a).answer) 0) e)

pub not_refused : (c : Call) (a : Areas) → Bytes a.kept → is_refused (called c a) ≡ false → Unrefused c a
not_refused c a k e = none_given c a ((table c a k 0).0 (zero_number c a e))

-- of the calls that take all four
pub same_by : (c : Call) (a : Areas) (does : World → Called) (d : Device) → Holds a.kept d → AllRight c a
    → unless_refused (refusal_of a (arriving c)) does a ≡ does (world_in d a)
same_by c a does d h r =
    accepted a (arriving c)
    (record {
      memory = size_allowed_lem (length a.memory) r.size;
      holding = r.holding;
      outgoing = r.outgoing;
      kept = r.kept;
      frame = r.frame;
    })
    does d.units (holds_decoded a.kept d h)
    ∙ ap (λ (x : Device). does (world_in x a)) (holds_back a.kept d h)

-- reset, whatever the record holds
reset_same : (d : Device) (a : Areas) → length a.kept ≡ record_size → called reset a ≡ on_bytes (ran reset (world_in d a))
unfolding reset_call
reset_same d a l = rw (eq-eqb (length a.kept) record_size l)

called_same : (c : Call) (a : Areas) (d : Device) → Holds a.kept d → Unrefused c a → called c a ≡ on_bytes (ran c (world_in d a))
unfolding attention_call arrival_call turn_call
called_same reset a d h x = reset_same d a x
called_same attention a d h x = same_by attention a (λ w. on_bytes (attention_of w)) d h x
called_same (arrive f v) a d h x = same_by (arrive f v) a (λ w. on_bytes (arrival_of w f v)) d h x
called_same (turn report) a d h x = same_by (turn report) a (λ w. on_bytes (turn_of w report)) d h x

carried_by : (c : Call) (d : Device) (a : Areas) → Sound (afterwards (ran c (world_in d a))) → called c a ≡ on_bytes (ran c (world_in d a))
    → Carried c d a
carried_by c d a g e =
    let r = ran c (world_in d a) in
    let k : (called c a).areas.kept ≡ image_of r.outcome.device = ap (λ (x : Called). x.areas.kept) e in
    let h : Holds (called c a).areas.kept r.outcome.device = record { wide = g.wide; range = g.range; image = k } in
    record {
      same = e;
      holds = h;
      decoded = holds_decoded (called c a).areas.kept r.outcome.device h;
      back = holds_back (called c a).areas.kept r.outcome.device h;
    }

-- where the record holds the state d the call does what it does on d, and the record left holds the state left
pub carry : (c : Call) (a : Areas) (d : Device) → FrameBytes c → AreBytes a → Holds a.kept d → is_refused (called c a) ≡ false → Carried c d a
carry c a d f l h e =
    carried_by c d a (closed c (world_in d a) f (lent_sound a d l h)) (called_same c a d h (not_refused c a l.kept e))

-- reset ignores the record's content: it does what it does on any state
pub carry_reset : (a : Areas) (d : Device) → AreBytes a → is_refused (called reset a) ≡ false → Carried reset d a
carry_reset a d l e =
    carried_by reset d a (reset_closed (world_in d a) l.memory l.holding l.outgoing)
    (reset_same d a (not_refused reset a l.kept e))

-- ---- every call that is not refused leaves a record that is accepted again

pub accepted_again : (c : Call) (a : Areas) → FrameBytes c → AreBytes a → is_refused (called c a) ≡ false → Again c a
accepted_again reset a f l e = record { device = fresh; held = tt; carried = carry_reset a fresh l e }
accepted_again attention a f l e =
    let h = (not_refused attention a l.kept e).image in
    record { device = h.0; held = h.1; carried = carry attention a h.0 f l h.1 e }
accepted_again (arrive x v) a f l e =
    let h = (not_refused (arrive x v) a l.kept e).image in
    record { device = h.0; held = h.1; carried = carry (arrive x v) a h.0 f l h.1 e }
accepted_again (turn report) a f l e =
    let h = (not_refused (turn report) a l.kept e).image in
    record { device = h.0; held = h.1; carried = carry (turn report) a h.0 f l h.1 e }

-- so the next call with that record is not refused with 4, whichever it is and whatever else is lent
foreign_alone : (c : Call) (a : Areas) (d : Device) → Holds a.kept d → (r : Refusal) → 4 ≡ refusal_number r → Right c a r
foreign_alone c a d h refusal.Memory e = absurd (omega (arith, e))
foreign_alone c a d h refusal.Record e = absurd (omega (arith, e))
foreign_alone c a d h refusal.Holding e = absurd (omega (arith, e))
foreign_alone c a d h refusal.Outgoing e = absurd (omega (arith, e))
foreign_alone c a d h refusal.Overlong e = absurd (omega (arith, e))
foreign_alone c a d h refusal.Foreign e = (d, h)

pub never_foreign : (c : Call) (a : Areas) → FrameBytes c → AreBytes a → is_refused (called c a) ≡ false
    → (next : Call) (b : Areas) → b.kept ≡ (called c a).areas.kept → number (called next b).answer ≡ 4 → ⊥
never_foreign c a f l e next b k n =
    let g = accepted_again c a f l e in
    let d = (ran c (world_in g.device a)).outcome.device in
    let h : Holds b.kept d = rw k g.carried.holds in
    let w = wrong_row (Right next b) (rows_of next) 4 (omega arith) ((table next b (holds_bytes b.kept d h) 4).0 n) in
    w.2 (foreign_alone next b d h w.0 w.1)

-- ---- all elements of the four areas stay bytes, and the areas keep their lengths, refused or not

again_sound : (c : Call) (a : Areas) → FrameBytes c → AreBytes a → (d : Device) → TakesAll c (Holds a.kept d) → Sound (afterwards (ran c (world_in d a)))
again_sound reset a f l d h = reset_closed (world_in d a) l.memory l.holding l.outgoing
again_sound attention a f l d h = closed attention (world_in d a) f (lent_sound a d l h)
again_sound (arrive x v) a f l d h = closed (arrive x v) (world_in d a) f (lent_sound a d l h)
again_sound (turn report) a f l d h = closed (turn report) (world_in d a) f (lent_sound a d l h)

kept_lent : (r : Ran) → Sound (afterwards r) → AreBytes (on_bytes r).areas
kept_lent r s =
    record { memory = s.memory; holding = s.holding; outgoing = s.outgoing; kept = image_bytes r.outcome.device s.wide }

lent_by : (x : Bool) (c : Call) (a : Areas) → is_refused (called c a) ≡ x → FrameBytes c → AreBytes a → AreBytes (called c a).areas
lent_by true c a e f l = rw (untouched c a e).areas l
lent_by false c a e f l =
    let g = accepted_again c a f l e in
    rw g.carried.same (kept_lent (ran c (world_in g.device a)) (again_sound c a f l g.device g.held))

pub lent_kept : (c : Call) (a : Areas) → FrameBytes c → AreBytes a → AreBytes (called c a).areas
lent_kept c a f l = lent_by (is_refused (called c a)) c a refl f l

length_kept : (c : Call) (a : Areas) → Bytes a.kept → is_refused (called c a) ≡ false → length a.kept ≡ 256
length_kept reset a k e = not_refused reset a k e
length_kept attention a k e = (not_refused attention a k e).kept
length_kept (arrive f v) a k e = (not_refused (arrive f v) a k e).kept
length_kept (turn report) a k e = (not_refused (turn report) a k e).kept

long_by : (x : Bool) (c : Call) (a : Areas) → is_refused (called c a) ≡ x → FrameBytes c → AreBytes a → AsLong a (called c a).areas
long_by true c a e f l = rw (untouched c a e).areas (record { memory = refl; holding = refl; outgoing = refl; kept = refl })
long_by false c a e f l =
    let g = accepted_again c a f l e in
    let s = lengths_kept c (world_in g.device a) in
    let k = holds_length (called c a).areas.kept _ g.carried.holds ∙ sym (length_kept c a l.kept e) in
    let m : (called c a).areas ≡ (on_bytes (ran c (world_in g.device a))).areas = ap (λ (x : Called). x.areas) g.carried.same in
    record {
      memory = ap (λ (x : Areas). length x.memory) m ∙ s.memory;
      holding = ap (λ (x : Areas). length x.holding) m ∙ s.holding;
      outgoing = ap (λ (x : Areas). length x.outgoing) m ∙ s.outgoing;
      kept = k;
    }

pub areas_as_long : (c : Call) (a : Areas) → FrameBytes c → AreBytes a → AsLong a (called c a).areas
areas_as_long c a f l = long_by (is_refused (called c a)) c a refl f l

-- ---- the answer of a call that is not refused, taken apart: number 0, the length, the edge and the reason of the call on the state

pub answer_parts : (c : Call) (a : Areas) (d : Device) → AreBytes a → Holds a.kept d → is_refused (called c a) ≡ false
    → Parts (called c a).answer (ran c (world_in d a)).outcome.answer
answer_parts c a d l h e =
    let x = (ran c (world_in d a)).outcome.answer in
    let m : x.length ≤ 2048 = sent_most c (world_in d a) (lent_sound a d l h) in
    let s : (called c a).answer ≡ answer_number x = ap (λ (r : Called). r.answer) (called_same c a d h (not_refused c a l.kept e)) in
    let t = told_alone x (omega arith) in
    rw s
    (record {
      number = told_number x ∙ ap refusal_or_0 (number_accepted c (world_in d a));
      length = t.sent;
      most = omega (arith, t.sent, m);
      edge = t.edged;
      reason = t.explained;
      whole = refl;
    })

-- ---- areas that show a world: a call that is not refused leaves those that show the world after it, with the same answer

pub shows_world : (a : Areas) (w : World) → Shows a w → world_in w.device a ≡ w
shows_world a w s = rw (s.memory, s.holding, s.outgoing)

pub carry_shown : (c : Call) (a : Areas) (w : World) → FrameBytes c → AreBytes a → Shows a w → is_refused (called c a) ≡ false
    → (Shows (called c a).areas (afterwards (ran c w))) × ((called c a).answer ≡ answer_number (ran c w).outcome.answer)
carry_shown c a w f l s e =
    let x = carry c a w.device f l s.kept e in
    subst
    (λ (v : World). Shows (called c a).areas (afterwards (ran c v)) × ((called c a).answer ≡ answer_number (ran c v).outcome.answer))
    (shows_world a w s) (
      record {
        memory = ap (λ (r : Called). r.areas.memory) x.same;
        holding = ap (λ (r : Called). r.areas.holding) x.same;
        outgoing = ap (λ (r : Called). r.areas.outgoing) x.same;
        kept = x.holds;
      },
      ap (λ (r : Called). r.answer) x.same,
    )
