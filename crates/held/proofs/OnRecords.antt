-- Demand 3, second half, over the calls on byte areas: what holds of states holds of the records that the calls leave. That a call leaves a
-- state in range is a premise of each statement here, `Closed`. Assumes nothing.
use mathlib.Core.Path.{◌≡◌, refl, sym, ap, ◌∙◌}
use mathlib.Core.Bool.{Bool, true, false, not, ◌&&◌, true≢false, false≢true}
use mathlib.Core.List.{List, [], ◌∷◌, ◌++◌}
use Prim.Native.Nat.{ℕ, ◌≤◌, ◌<◌}
use native.Mathlib.Omega.{arith}
use borrow.Author.Tests.{eqb-true}
use lib.Dec.{eqb, lit≤}
use lib.ListN.{length}
use Rattle.std.specs.Prelude.{Option, Some, None}
use Rattle.memory.proofs.Bytes.{Bytes}
use Rattle.device.specs.Limits.{record_size}
use Rattle.device.specs.State.{is_holding, held_in}
use Rattle.device.specs.declared.Device.{Device}
use Rattle.device.specs.declared.Fate.{Fate}
use Rattle.device.specs.declared.Frame.{Frame}
use Rattle.device.specs.declared.Refusal.{Refusal}
use Rattle.device.specs.declared.Refusal.TheVariants as refusal
use Rattle.device.specs.declared.Units.{Units}
use Rattle.phases.proofs.Units.{both}
use Rattle.image.specs.Image.{decode_of, device_from, device_at}
use Rattle.image.specs.Ranges.{in_range, Wide}
use Rattle.image.specs.Found.{Found}
use Rattle.image.specs.Found as is
use Rattle.image.proofs.Exact.{Image, exact, decode_image}
use Rattle.chip.specs.World.{World, Ran}
use Rattle.chip.specs.Arrival.{arrival_of}
use Rattle.chip.specs.Call.{Call, reset, attention, arrive, turn, ran}
use Rattle.chip.specs.Turn.{turn_of}
use Rattle.calls.specs.Calls.{Areas, Called, is_image, refusal_of, on_bytes, called_on, called_by, arrival_call, turn_call}
use Rattle.calls.proofs.Laws.{says_refused}
use Rattle.progress.specs.Trace.{run, turns}
use Rattle.progress.specs.Holder.{Holder, Went, ended, goes, Stays, Ends}
use Rattle.progress.specs.Holder as ending
use Rattle.traces.specs.Bytes.{called, is_refused}
use Rattle.traces.specs.Event.{call, step, is_turn, WhileHeld}
use Rattle.traces.specs.Areas.{FrameBytes, AreBytes, units_by, units_in, world_said}
use Rattle.traces.specs.Driven.{Lending, lending, refused_at, left_by, left, is_taken, Lends, Fair, AllFair}
use Rattle.frames.proofs.Held.{held_saved}
use Rattle.held.specs.Held.{frames_in, is_to_hold}
use Rattle.held.specs.Held as held
use Rattle.held.specs.OnRecords.{frames_kept, fates_by, fates_at, HeldAlong, MeanwhileBy, AllMeanwhileOn, Settled, Within}
use Rattle.progress.proofs.Trace.{may_before}
use Rattle.progress.proofs.Holder.{ends_within}
use Rattle.held.proofs.Service.{left_of, left_positive, left_most}
use Rattle.held.proofs.Turn.{is_receiving, holding}
use Rattle.held.proofs.Ending.{ending, meanwhile}
use Rattle.held.proofs.Held as states
use Rattle.held.proofs.Held.{Note, notes, a_note, no_note, holder}

-- ---- what an accepted call does

-- the record is the image of the state that it says, and the call leaves what the definition leaves
pub record Taken (run : World → Ran) (a : Areas) (c : Called) : Type 0 where
  pub decoded : decode_of a.kept ≡ is.Units (units_in a.kept)
  pub leaves : c ≡ on_bytes (run (world_said a))

taken_on : (d : Found) (run : World → Ran) (a : Areas) → decode_of a.kept ≡ d → is_refused (called_on run a d) ≡ false
    → Taken run a (called_on run a (decode_of a.kept))
taken_on (is.Units u) run a e n = record { decoded = rw e; leaves = rw e }
taken_on is.Foreign run a e n = absurd (true≢false (sym (says_refused refusal.Foreign a) ∙ n))

taken_by : (r : Option Refusal) (run : World → Ran) (a : Areas) → is_refused (called_by r run a) ≡ false → Taken run a (called_by r run a)
taken_by None run a n = taken_on (decode_of a.kept) run a refl n
taken_by (Some r) run a n = absurd (true≢false (sym (says_refused r a) ∙ n))

not_refused : (b : Bool) → not b ≡ true → b ≡ false
not_refused true e = absurd (false≢true e)
not_refused false e = refl

taken : (c : Call) (a : Areas) → is_refused (called c a) ≡ false → WhileHeld (call c) (world_said a) → Taken (ran c) a (called c a)
unfolding arrival_call turn_call
taken reset a n y = absurd (false≢true y)
taken attention a n y = absurd (false≢true y)
taken (arrive f v) a n y = taken_by (refusal_of a f) (λ w. arrival_of w f v) a n
taken (turn report) a n y = taken_by (refusal_of a []) (λ w. turn_of w report) a n

-- ---- a record that says units has 256 bytes

long_by : (b : Bool) (r : List ℕ) (u : Units) → eqb (length r) record_size ≡ b → decode_of r ≡ is.Units u → eqb (length r) record_size ≡ true
unfolding decode_of
long_by true r u b e = b
long_by false r u b e = absurd (false≢true (ap is_image (rw b at e)))

long : (r : List ℕ) (u : Units) → decode_of r ≡ is.Units u → length r ≡ 256
long r u e = eqb-true (length r) 256 (long_by (eqb (length r) record_size) r u refl e)

-- the world of the areas has the units of the record
pub units_in_lem : (a : Areas) → (world_said a).device.units ≡ units_in a.kept
unfolding device_at device_from
units_in_lem a = refl

image : (a : Areas) → AreBytes a → decode_of a.kept ≡ is.Units (units_in a.kept) → Image a.kept (units_in a.kept)
image a b e = exact a.kept (long a.kept _ e) b.kept (units_in a.kept) e

-- a state in range holds no frame but a good one or one to be saved
pub to_hold : (d : Device) (f : Frame) → in_range d ≡ true → held_in d.units.ru ≡ f ∷ [] → is_to_hold f ≡ true
to_hold = held_saved

-- ---- the premise: a call leaves a state in range, from a state in range and on areas of bytes

abbrev pub Closed : Type 0
Closed =
    (c : Call) (w : World) → FrameBytes c → in_range w.device ≡ true → Wide w.device
    → Bytes w.memory → Bytes w.holding → Bytes w.outgoing
    → (in_range (ran c w).outcome.device ≡ true) × Wide (ran c w).outcome.device

-- the units that the record says after an accepted call are those that the definition leaves
units_left : Closed → (l : Lending) (a : Areas) → refused_at l ≡ false → Lends WhileHeld l a
    → units_in (called l.made l.lent).areas.kept ≡ (step (call l.made) (world_said l.lent)).device.units
units_left k l a e h =
    let x = l.lent in
    let b = h.bytes in
    let t = taken l.made x e h.may in
    let i = image x b t.decoded in
    let c = k l.made (world_said x) h.frame i.range i.wide b.memory b.holding b.outgoing in
    let d : Device = (ran l.made (world_said x)).outcome.device in
    ap (λ (x : Called). units_in x.areas.kept) t.leaves ∙ ap units_by (decode_image d c.1 c.0)

units_after : Closed → (l : Lending) (a : Areas) → Fair WhileHeld l a → refused_at l ≡ false
    → units_in (left l a).kept ≡ (step (call l.made) (world_said l.lent)).device.units
units_after k l a h e = ap (λ (x : Bool). units_in (left_by x l a).kept) e ∙ units_left k l a e (h e)

-- ---- the record as a machine

abbrev pub keeper : Holder
keeper =
    record {
      S = Areas;
      E = Lending;
      step = left;
      is_turn = is_taken;
      held = λ a. is_holding (units_in a.kept).ru;
      served = λ a. is_receiving (units_in a.kept);
      last = λ a. (units_in a.kept).rulast;
      left = λ a. left_of (units_in a.kept).ru;
      O = Note;
      ends = λ l a. notes (fates_at l) (frames_kept a.kept);
      F = List Frame;
      frame = λ a. frames_kept a.kept;
      of = λ n. n.frames;
    }

-- a call on a record beside an event on a world
record Beside (l : Lending) (a : Areas) (w : World) : Type 0 where
  now : units_in a.kept ≡ w.device.units
  then : units_in (left l a).kept ≡ (step (call l.made) w).device.units
  fates : fates_at l ≡ held.fates_at (call l.made) w

beside : Closed → (l : Lending) (a : Areas) → Fair WhileHeld l a → refused_at l ≡ false → Beside l a (world_said l.lent)
beside k l a h e =
    record {
      now = ap units_in (sym (h e).kept) ∙ sym (units_in_lem l.lent);
      then = units_after k l a h e;
      fates = ap (λ (x : Bool). fates_by x l.made (world_said l.lent)) e;
    }

module _ {l : Lending} {a : Areas} {w : World} (b : Beside l a w) where
  -- what is noted, and any fact of the units, now and then
  noted : notes (fates_at l) (frames_kept a.kept) ≡ notes (held.fates_at (call l.made) w) (frames_in w)
  noted =
      ap (λ (φs : List Fate). notes φs (frames_kept a.kept)) b.fates
      ∙ ap (λ (u : Units). notes (held.fates_at (call l.made) w) (held_in u.ru)) b.now

  at_now : {X : Type 0} (f : Units → X) → f (units_in a.kept) ≡ f w.device.units
  at_now f = ap f b.now

  at_then : {X : Type 0} (f : Units → X) → f (units_in (left l a).kept) ≡ f (step (call l.made) w).device.units
  at_then f = ap f b.then

  went : Went holder (call l.made) w → Went keeper l a
  went (ended o e f) = ended o (noted ∙ e) (f ∙ sym (at_now (λ u. held_in u.ru)))
  went (goes z h f d t) =
      goes (noted ∙ z) (at_then (λ u. is_holding u.ru) ∙ h) (at_then (λ u. held_in u.ru) ∙ f ∙ sym (at_now (λ u. held_in u.ru)))
      (omega (arith, d, at_then (λ u. left_of u.ru), at_now (λ u. left_of u.ru))) (at_then (λ u. u.rulast) ∙ t)

  stays : Stays holder (call l.made) w → Stays keeper l a
  stays s =
      record {
        none = noted ∙ s.none;
        holds = at_then (λ u. is_holding u.ru) ∙ s.holds;
        same = at_then (λ u. held_in u.ru) ∙ s.same ∙ sym (at_now (λ u. held_in u.ru));
        count = at_then (λ u. left_of u.ru) ∙ s.count ∙ sym (at_now (λ u. left_of u.ru));
      }

-- ---- its laws

second_false : (a b : Bool) → a ≡ true → (a && b) ≡ false → b ≡ false
second_false true b e f = f
second_false false b e f = absurd (false≢true e)

-- a refused call does nothing
refused_stays : (l : Lending) (a : Areas) → refused_at l ≡ true → is_holding (units_in a.kept).ru ≡ true
    → Stays keeper l a × ((units_in (left l a).kept).rulast ≡ (units_in a.kept).rulast)
refused_stays l a e h =
    let same : (left l a).kept ≡ a.kept = ap (λ (x : Bool). (left_by x l a).kept) e in (
      record {
        none = ap (λ (x : Bool). notes (fates_by x l.made (world_said l.lent)) (frames_kept a.kept)) e;
        holds = ap (λ (q : List ℕ). is_holding (units_in q).ru) same ∙ h;
        same = ap frames_kept same;
        count = ap (λ (q : List ℕ). left_of (units_in q).ru) same;
      },
      ap (λ (q : List ℕ). (units_in q).rulast) same,
    )

module _ (k : Closed) where
  serve : (l : Lending) (a : Areas) → Fair WhileHeld l a → is_holding (units_in a.kept).ru ≡ true → is_taken l ≡ true
      → is_receiving (units_in a.kept) ≡ true → Went keeper l a
  serve l a y h t v =
      let s = both (not (refused_at l)) (is_turn (call l.made)) t in
      let e = not_refused (refused_at l) s.0 in
      let b = beside k l a y e in
      went b ((states.laws).serve (call l.made) (world_said l.lent) (y e).may (sym (at_now b (λ u. is_holding u.ru)) ∙ h) s.1
      (sym (at_now b is_receiving) ∙ v))

  pass : (l : Lending) (a : Areas) → Fair WhileHeld l a → is_holding (units_in a.kept).ru ≡ true → is_taken l ≡ true
      → is_receiving (units_in a.kept) ≡ false
      → Stays keeper l a × ((units_in a.kept).rulast ≡ true) × ((units_in (left l a).kept).rulast ≡ false)
  pass l a y h t v =
      let s = both (not (refused_at l)) (is_turn (call l.made)) t in
      let e = not_refused (refused_at l) s.0 in
      let b = beside k l a y e in
      let p = (states.laws).pass (call l.made) (world_said l.lent) (y e).may (sym (at_now b (λ u. is_holding u.ru)) ∙ h) s.1
      (sym (at_now b is_receiving) ∙ v) in
      (stays b p.0, at_now b (λ u. u.rulast) ∙ p.1, at_then b (λ u. u.rulast) ∙ p.2)

  between_by : (x : Bool) (l : Lending) (a : Areas) → refused_at l ≡ x → Fair WhileHeld l a → is_holding (units_in a.kept).ru ≡ true
      → is_taken l ≡ false → Stays keeper l a × ((units_in (left l a).kept).rulast ≡ (units_in a.kept).rulast)
  between_by true l a x y h t = refused_stays l a x h
  between_by false l a x y h t =
      let b = beside k l a y x in
      let p = (states.laws).between (call l.made) (world_said l.lent) (y x).may (sym (at_now b (λ u. is_holding u.ru)) ∙ h)
      (second_false (not (refused_at l)) (is_turn (call l.made)) (ap not x) t) in
      (stays b p.0, at_then b (λ u. u.rulast) ∙ p.1 ∙ sym (at_now b (λ u. u.rulast)))

  laws : ending.Laws keeper (Fair WhileHeld)
  laws =
      record {
        positive = λ a. left_positive (units_in a.kept).ru;
        serve = serve;
        pass = pass;
        between = λ l a. between_by (refused_at l) l a refl;
      }

-- ---- the statement

fair_at : (before : List Lending) (l : Lending) (after : List Lending) (a : Areas) → AllFair WhileHeld (before ++ (l ∷ after)) a
    → Fair WhileHeld l (run left before a)
fair_at [] l after a y = y.0
fair_at (b ∷ bs) l after a y = fair_at bs l after (left b a) y.1

all_along : (f : Frame) (ls : List Lending) (a : Areas) → ending.HeldAlong keeper (f ∷ []) ls a → HeldAlong f ls a
all_along f [] a h = h.1
all_along f (l ∷ ls) a h =
    (h.0.1, no_note (fates_at l) (frames_kept a.kept) h.1, all_along f ls (left l a) h.2)

pub kept_last : (f : Frame) (ls : List Lending) (a : Areas) → HeldAlong f ls a → frames_kept (run left ls a).kept ≡ f ∷ []
kept_last f [] a h = h
kept_last f (l ∷ ls) a h = kept_last f ls (left l a) h.2

-- what is said of each call until then
meanwhile_by : (x : Bool) (f : Frame) (l : Lending) (a : Areas) → refused_at l ≡ x → Fair WhileHeld l a → frames_kept a.kept ≡ f ∷ [] → fates_at l ≡ []
    → MeanwhileBy x f l
meanwhile_by true f l a e y h g = tt
meanwhile_by false f l a e y h g =
    let z = y e in
    let t = taken l.made l.lent e z.may in
    let now : frames_in (world_said l.lent) ≡ f ∷ [] = ap (λ (u : Units). held_in u.ru) (units_in_lem l.lent) ∙ ap frames_kept z.kept ∙ h in
    let none = sym (ap (λ (q : Bool). fates_by q l.made (world_said l.lent)) e) ∙ g in
    (t.leaves, meanwhile l.made (world_said l.lent) f z.may now none)

all_meanwhile : (f : Frame) (ls : List Lending) (a : Areas) → AllFair WhileHeld ls a → HeldAlong f ls a → AllMeanwhileOn f ls
all_meanwhile f [] a y h = tt
all_meanwhile f (l ∷ ls) a y h =
    (meanwhile_by (refused_at l) f l a refl y.0 h.0 h.1, all_meanwhile f ls (left l a) y.1 h.2)

settle : Closed → (n : ℕ) (f : Frame) (ls : List Lending) (a : Areas) (before : List Lending) (c : Call) (x : Areas) (after : List Lending)
    → AllFair WhileHeld ls a → ls ≡ before ++ (lending c x ∷ after) → turns is_taken before < n → HeldAlong f before a
    → refused_at (lending c x) ≡ false → is_turn (call c) ≡ true → (φ : Fate) → fates_at (lending c x) ≡ φ ∷ [] → Settled n f ls a
settle k n f ls a before reset x after y s l h e i φ g = absurd (false≢true i)
settle k n f ls a before attention x after y s l h e i φ g = absurd (false≢true i)
settle k n f ls a before (arrive b v) x after y s l h e i φ g = absurd (false≢true i)
settle k n f ls a before (turn report) x after y s l h e i φ g =
    let t = lending (turn report) x in
    let z : Lends WhileHeld t (run left before a) = fair_at before t after a (rw s at y) e in
    let u = taken (turn report) x e refl in
    let m = image x z.bytes u.decoded in
    let now : frames_in (world_said x) ≡ f ∷ [] =
    ap (λ (u : Units). held_in u.ru) (units_in_lem x) ∙ ap frames_kept z.kept ∙ kept_last f before a h in
    let given : (turn_of (world_said x) report).outcome.fates ≡ φ ∷ [] = sym (ap (λ (q : Bool). fates_by q (turn report) (world_said x)) e) ∙ g in
    let saves : is_to_hold f ≡ true = to_hold (world_said x).device f m.range now in
    let end = states.end_turn (world_said x) report f φ now saves given in
    record {
      before = before;
      report = report;
      areas = x;
      after = after;
      split = s;
      soon = l;
      holds = h;
      meanwhile = all_meanwhile f before a (may_before (Fair WhileHeld) left before (t ∷ after) a (rw s at y)) h;
      accepted = e;
      kept = z.kept;
      leaves = u.leaves;
      fate = φ;
      given = given;
      settled = end.0;
      ending = ending (world_said x) report f φ now saves given;
      free = ap (λ (u : Units). held_in u.ru) (units_left k t (run left before a) e z) ∙ end.1;
    }

settled : Closed → (n : ℕ) (f : Frame) (ls : List Lending) (a : Areas) → AllFair WhileHeld ls a → Ends keeper n (f ∷ []) ls a → Settled n f ls a
settled k n f ls a y s =
    let l = s.event in
    let b = both (not (refused_at l)) (is_turn (call l.made)) s.turned in
    settle k n f ls a s.before l.made l.lent s.after y s.split s.soon (all_along f s.before a s.holds)
    (not_refused (refused_at l) b.0) b.1 s.note.fate
    (a_note (fates_at l) (frames_kept (run left s.before a).kept) s.note s.noted)

-- twice the services that a held frame can take are enough
pub within : Closed → (n : ℕ) → 132 ≤ n → Within n
within k n m a f ls e y l =
    settled k n f ls a y
    (rw e at (ends_within keeper (Fair WhileHeld) (laws k) n ls a y (holding (units_in a.kept).ru f e)
    (omega (arith, m, left_most (units_in a.kept).ru)) l))

-- demand 3, on the calls: a held frame is stored or counted within 132 turns that are not refused
pub held_frame : Closed → Within 132
held_frame k = within k _ (lit≤ tt)
