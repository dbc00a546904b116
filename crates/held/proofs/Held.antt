-- Demand 3, second half, over states: a held frame is stored or counted within 132 turns. Assumes nothing.
use mathlib.Core.Path.{◌≡◌, refl, sym, ap, ◌∙◌}
use mathlib.Core.Bool.{Bool, true, false, true≢false, false≢true}
use mathlib.Core.List.{List, [], ◌∷◌, ◌++◌, map, nil≢cons, cons≢nil, head-eq_of_cons-eq, tail-eq_of_cons-eq}
use Prim.Native.Nat.{ℕ, ◌≤◌, ◌<◌}
use native.Mathlib.Omega.{arith}
use Rattle.device.specs.State.{is_holding, held_in}
use Rattle.device.specs.declared.Fate.{Fate}
use Rattle.device.specs.declared.Frame.{Frame}
use Rattle.chip.specs.World.{World, afterwards}
use Rattle.chip.specs.Call.{reset, attention, arrive, turn}
use Rattle.chip.specs.Turn.{turn_of}
use Rattle.progress.specs.Trace.{run, AllMay, turns}
use Rattle.progress.specs.Holder.{Holder, Went, ended, goes, Stays, Ends}
use Rattle.progress.specs.Holder as ending
use Rattle.traces.specs.Event.{Event, call, host, step, is_turn, WhileHeld}
use Rattle.held.specs.Held.{frames_in, is_to_hold, is_settled, fates_at, HeldAlong, Settled, Within}
use Rattle.progress.proofs.Trace.{may_before}
use Rattle.progress.proofs.Holder.{ends_within}
use Rattle.held.proofs.Service as service
use Rattle.held.proofs.Service.{left_of, left_positive, left_most, Serving}
use Rattle.held.proofs.Turn.{receives, receive_last, is_receiving, holding, turn_received, turn_commanded, passing, arrival_unit, arrival_last}
use Rattle.held.proofs.Ending.{ending, all_meanwhile}

-- ---- what is noted of held frames: each fate, with the frames that were held then

pub record Note : Type 0 where
  pub fate : Fate
  pub frames : List Frame

abbrev pub notes : List Fate → List Frame → List Note
notes φs xs = map (λ (φ : Fate). record { fate = φ; frames = xs }) φs

abbrev pub holder : Holder
holder =
    record {
      S = World;
      E = Event;
      step = step;
      is_turn = is_turn;
      held = λ w. is_holding w.device.units.ru;
      served = λ w. is_receiving w.device.units;
      last = λ w. w.device.units.rulast;
      left = λ w. left_of w.device.units.ru;
      O = Note;
      ends = λ e w. notes (fates_at e w) (frames_in w);
      F = List Frame;
      frame = frames_in;
      of = λ n. n.frames;
    }

-- ---- its laws

-- a turn that goes to the receive unit
pub serving : (w : World) (report : ℕ) → is_holding w.device.units.ru ≡ true → is_receiving w.device.units ≡ true
    → Serving (frames_in w) (left_of w.device.units.ru) (turn_of w report).outcome.device.units.ru (turn_of w report).outcome.fates
serving w report h v = rw (turn_received w report v) (receives w h)

serve_last : (w : World) (report : ℕ) → is_receiving w.device.units ≡ true → (turn_of w report).outcome.device.units.rulast ≡ true
serve_last w report v = rw (turn_received w report v) (receive_last w)

went : (w : World) (report : ℕ) → is_receiving w.device.units ≡ true
    → Serving (frames_in w) (left_of w.device.units.ru) (turn_of w report).outcome.device.units.ru (turn_of w report).outcome.fates
    → Went holder (call (turn report)) w
went w report v (service.goes z h f l) = goes (rw z) h f l (serve_last w report v)
went w report v (service.ended φ z s n) = ended (record { fate = φ; frames = frames_in w }) (rw z) refl

serve : (e : Event) (w : World) → WhileHeld e w → is_holding w.device.units.ru ≡ true → is_turn e ≡ true
    → is_receiving w.device.units ≡ true → Went holder e w
serve (call reset) w y h t v = absurd (false≢true t)
serve (call attention) w y h t v = absurd (false≢true t)
serve (call (arrive f x)) w y h t v = absurd (false≢true t)
serve (call (turn report)) w y h t v = went w report v (serving w report h v)
serve (host m g out) w y h t v = absurd (false≢true t)

-- the receive unit as it was
abbrev Kept : Event → World → Type 0
Kept e w = (step e w).device.units.ru ≡ w.device.units.ru

stays : (e : Event) (w : World) → is_holding w.device.units.ru ≡ true → fates_at e w ≡ [] → Kept e w → Stays holder e w
stays e w h z k = record { none = rw z; holds = rw k h; same = ap held_in k; count = ap left_of k }

pass : (e : Event) (w : World) → WhileHeld e w → is_holding w.device.units.ru ≡ true → is_turn e ≡ true → is_receiving w.device.units ≡ false
    → Stays holder e w × (w.device.units.rulast ≡ true) × ((step e w).device.units.rulast ≡ false)
pass (call reset) w y h t v = absurd (false≢true t)
pass (call attention) w y h t v = absurd (false≢true t)
pass (call (arrive f x)) w y h t v = absurd (false≢true t)
pass (call (turn report)) w y h t v =
    let p = passing w report h v in
    (stays (call (turn report)) w h p.fates p.unit, (turn_commanded w report h v).1, p.last)
pass (host m g out) w y h t v = absurd (false≢true t)

between : (e : Event) (w : World) → WhileHeld e w → is_holding w.device.units.ru ≡ true → is_turn e ≡ false
    → Stays holder e w × ((step e w).device.units.rulast ≡ w.device.units.rulast)
between (call reset) w y h t = absurd (false≢true y)
between (call attention) w y h t = absurd (false≢true y)
between (call (arrive f x)) w y h t = (stays (call (arrive f x)) w h refl (arrival_unit w f x h), arrival_last w f x)
between (call (turn report)) w y h t = absurd (true≢false t)
between (host m g out) w y h t = (stays (host m g out) w h refl refl, refl)

pub laws : ending.Laws holder WhileHeld
laws = record { positive = λ w. left_positive w.device.units.ru; serve = serve; pass = pass; between = between }

-- ---- the statement

-- nothing is noted: nothing is made of the frame
pub no_note : (φs : List Fate) (xs : List Frame) → notes φs xs ≡ [] → φs ≡ []
no_note [] xs e = refl
no_note (φ ∷ φs) xs e = absurd (cons≢nil e)

-- one note: one fate
pub a_note : (φs : List Fate) (xs : List Frame) (n : Note) → notes φs xs ≡ n ∷ [] → φs ≡ n.fate ∷ []
a_note [] xs n e = absurd (nil≢cons e)
a_note (φ ∷ []) xs n e = ap (λ (k : Note). k.fate ∷ []) (head-eq_of_cons-eq e)
a_note (φ ∷ ψ ∷ φs) xs n e = absurd (cons≢nil (tail-eq_of_cons-eq e))

all_along : (f : Frame) (es : List Event) (w : World) → ending.HeldAlong holder (f ∷ []) es w → HeldAlong f es w
all_along f [] w h = h.1
all_along f (e ∷ es) w h = (h.0.1, no_note (fates_at e w) (frames_in w) h.1, all_along f es (step e w) h.2)

-- at its end
pub held_last : (f : Frame) (es : List Event) (w : World) → HeldAlong f es w → frames_in (run step es w) ≡ f ∷ []
held_last f [] w h = h
held_last f (e ∷ es) w h = held_last f es (step e w) h.2

-- a turn that makes something of a frame that is to be held stores or counts it, and holds it no longer
abbrev pub Ended : World → ℕ → Fate → Type 0
Ended w report φ = (is_settled φ ≡ true) × (frames_in (afterwards (turn_of w report)) ≡ [])

served_end : (w : World) (report : ℕ) (f : Frame) (φ : Fate) → frames_in w ≡ f ∷ [] → is_to_hold f ≡ true → (turn_of w report).outcome.fates ≡ φ ∷ []
    → Serving (frames_in w) (left_of w.device.units.ru) (turn_of w report).outcome.device.units.ru (turn_of w report).outcome.fates
    → Ended w report φ
served_end w report f φ e t g (service.goes z h x l) = absurd (nil≢cons (sym z ∙ g))
served_end w report f φ e t g (service.ended ψ z s n) = (ap is_settled (head-eq_of_cons-eq (sym g ∙ z)) ∙ s f e t, n)

end_by_lem : (v : Bool) (w : World) (report : ℕ) (f : Frame) (φ : Fate) → is_receiving w.device.units ≡ v → frames_in w ≡ f ∷ [] → is_to_hold f ≡ true
    → (turn_of w report).outcome.fates ≡ φ ∷ [] → Ended w report φ
end_by_lem true w report f φ v e t g = served_end w report f φ e t g (serving w report (holding w.device.units.ru f e) v)
end_by_lem false w report f φ v e t g = absurd (nil≢cons (sym (passing w report (holding w.device.units.ru f e) v).fates ∙ g))

pub end_turn : (w : World) (report : ℕ) (f : Frame) (φ : Fate) → frames_in w ≡ f ∷ [] → is_to_hold f ≡ true
    → (turn_of w report).outcome.fates ≡ φ ∷ [] → Ended w report φ
end_turn w report f φ e t g = end_by_lem (is_receiving w.device.units) w report f φ refl e t g

-- the event at its end is a turn
settle : (n : ℕ) (f : Frame) (es : List Event) (w : World) (before : List Event) (e : Event) (after : List Event)
    → AllMay WhileHeld step es w → is_to_hold f ≡ true → es ≡ before ++ (e ∷ after) → turns is_turn before < n → HeldAlong f before w → is_turn e ≡ true
    → (φ : Fate) → fates_at e (run step before w) ≡ φ ∷ [] → Settled n f es w
settle n f es w before (call reset) after y t s l h i φ g = absurd (false≢true i)
settle n f es w before (call attention) after y t s l h i φ g = absurd (false≢true i)
settle n f es w before (call (arrive b v)) after y t s l h i φ g = absurd (false≢true i)
settle n f es w before (call (turn report)) after y t s l h i φ g =
    let r = end_turn (run step before w) report f φ (held_last f before w h) t g in
    record {
      before = before;
      report = report;
      after = after;
      split = s;
      soon = l;
      holds = h;
      meanwhile = all_meanwhile f before w (may_before WhileHeld step before (call (turn report) ∷ after) w (rw s at y)) h;
      fate = φ;
      given = g;
      settled = r.0;
      ending = ending (run step before w) report f φ (held_last f before w h) t g;
      free = r.1;
    }
settle n f es w before (host m b out) after y t s l h i φ g = absurd (false≢true i)

settled : (n : ℕ) (f : Frame) (es : List Event) (w : World) → AllMay WhileHeld step es w → is_to_hold f ≡ true → Ends holder n (f ∷ []) es w → Settled n f es w
settled n f es w y t r =
    let at = run step r.before w in
    settle n f es w r.before r.event r.after y t r.split r.soon
    (all_along f r.before w r.holds) r.turned r.note.fate (a_note (fates_at r.event at) (frames_in at) r.note r.noted)

-- twice the services that a held frame can take are enough
pub within : (n : ℕ) → 132 ≤ n → Within n
within n m w f es e t c l =
    settled n f es w c t
    (rw e at (ends_within holder WhileHeld laws n es w c (holding w.device.units.ru f e)
    (omega (arith, m, left_most w.device.units.ru)) l))
