-- What holds of every state that calls can lead to, as far as held frames ask for it: a unit that is not Idle is an initialised chip's, and a bad
-- frame is held only to be saved. Assumes nothing.
use mathlib.Core.Path.{◌≡◌, refl, sym, ap, ap₂, ◌∙◌, subst}
use mathlib.Core.Bool.{Bool, true, false, not, ◌&&◌, ◌||◌, false≢true}
use mathlib.Core.List.{List, [], ◌∷◌, ◌++◌, map, append-nil}
use mathlib.Core.Logic.{◌⊎◌, inl, inr}
use Prim.Native.Nat.{ℕ, suc}
use lib.Dec.{eqb, ltb}
use lib.ListN.{length}
use Rattle.std.specs.Prelude.{Option}
use Rattle.memory.specs.declared.Offset.{Offset}
use Rattle.scb.specs.Control.{Code, code_of, start, resume, suspend, abort, other}
use Rattle.scb.specs.Words.{resets, ruc, cu_number, ru_number, event_bits}
use Rattle.device.specs.Answers.{is_held}
use Rattle.device.specs.State.{cu_state, ru_state, held_in, is_good, fresh, cu_works, ru_works}
use Rattle.device.proofs.Laws.{none_held}
use Rattle.device.specs.declared.Counter.{Counter}
use Rattle.device.specs.declared.Device.{Device}
use Rattle.device.specs.declared.Fate.{Fate}
use Rattle.device.specs.declared.Fate.TheVariants as fate
use Rattle.device.specs.declared.Frame.{Frame}
use Rattle.device.specs.declared.Ru.{Ru}
use Rattle.device.specs.declared.Ru.TheVariants as ru
use Rattle.device.specs.declared.Units.{Units}
use Rattle.image.specs.Ranges.{in_range, initialised_or_fresh, units_fresh, units_idle, settings_fresh, addressing_fresh, units_fit}
use Rattle.phases.proofs.Units.{both as parts}
use Rattle.receive.specs.Arrival as arrivals
use Rattle.control.specs.Control.{ru_by, lost_by}
use Rattle.control.specs.Obey.{obey_ruc}
use Rattle.attention.specs.Attention as attentions
use Rattle.chip.specs.Arrival as chip
use Rattle.chip.specs.Attention.{attention_of}
use Rattle.chip.specs.Call.{Call, reset, attention, arrive, turn, ran}
use Rattle.chip.specs.Turn.{served_by, turn_by, turn_of, command_turn, receive_turn, concluded}
use Rattle.chip.specs.World.{World, Ran, reset_of}
use Rattle.filter.specs.Match.{matches}
use Rattle.frames.specs.Arrival.{unit_of, settings_of, header_in}
use Rattle.frames.specs.Held.{of_held, chosen, held_fates, FatesOfHeld, command_of, loses, unit_after, Lost, by_resetting, by_abort, GoodFate, BadFate}
use Rattle.frames.specs.Held as held
use Rattle.frames.proofs.End.{none_after, none_left}
use Rattle.frames.proofs.Held.{none≢one, or_left, or_right, held_saved, held_fate, good_of, bad_of, goes_on, attended, obeyed, obeyed_ruc, to_attend, served_as}

-- the unit is Idle
abbrev pub idle : Ru → Bool
idle ru.Idle = true
idle ru.NoResources = false
idle (ru.Suspended fd) = false
idle (ru.Ready fd) = false
idle (ru.Held fd f p) = false
idle (ru.Filling s w) = false
idle (ru.Closing s free full) = false
idle (ru.Lacking s) = false

-- each of these frames is good, or to be saved
abbrev pub AllSaved : List Frame → Type 0
AllSaved [] = Unit {0}
AllSaved (f ∷ fs) = ((is_good f || f.savebad) ≡ true) × AllSaved fs

pub record Sound (d : Device) : Type 0 where
  pub started : (d.units.initialised || idle d.units.ru) ≡ true
  pub saved : AllSaved (held_in d.units.ru)

saved_append : (fs gs : List Frame) → AllSaved fs → AllSaved gs → AllSaved (fs ++ gs)
saved_append [] gs h k = k
saved_append (f ∷ fs) gs h k = (h.0, saved_append fs gs h.1 k)

saved_behind : (fs gs : List Frame) → AllSaved (fs ++ gs) → AllSaved gs
saved_behind [] gs h = h
saved_behind (f ∷ fs) gs h = saved_behind fs gs h.1

-- ---- every state in range is such

number_idle : (u : Ru) → eqb (ru_number (ru_state u)) 0 ≡ true → idle u ≡ true
number_idle ru.Idle h = refl
number_idle ru.NoResources h = absurd (false≢true h)
number_idle (ru.Suspended fd) h = absurd (false≢true h)
number_idle (ru.Ready fd) h = absurd (false≢true h)
number_idle (ru.Held fd f p) h = absurd (false≢true h)
number_idle (ru.Filling s w) h = absurd (false≢true h)
number_idle (ru.Closing s free full) h = absurd (false≢true h)
number_idle (ru.Lacking s) h = absurd (false≢true h)

fresh_idle : (u : Units) → units_fresh u ≡ true → idle u.ru ≡ true
unfolding units_fresh
fresh_idle u i =
    number_idle u.ru
    (parts (eqb (cu_number (cu_state u.cu)) 0) (eqb (ru_number (ru_state u.ru)) 0)
    (parts
    (eqb (event_bits u.events) 0 && not u.rulast && eqb u.base.0 0 && eqb u.scb.0 0 && settings_fresh u.settings)
    (units_idle u.cu u.ru) i
    ).1
    ).1

or_by : (a b c : Bool) → (a || b) ≡ true → (b ≡ true → c ≡ true) → (a || c) ≡ true
or_by true b c h k = refl
or_by false b c h k = k h

-- a frame is held or none is
pub held_or_none : (u : Ru) → (held_in u ≡ []) ⊎ ((f : Frame) × (held_in u ≡ f ∷ []))
held_or_none ru.Idle = inl refl
held_or_none ru.NoResources = inl refl
held_or_none (ru.Suspended fd) = inl refl
held_or_none (ru.Ready fd) = inl refl
held_or_none (ru.Held fd f p) = inr (f, refl)
held_or_none (ru.Filling s w) = inr (s.frame, refl)
held_or_none (ru.Closing s free full) = inr (s.frame, refl)
held_or_none (ru.Lacking s) = inr (s.frame, refl)

range_saved : (d : Device) → in_range d ≡ true → (held_in d.units.ru ≡ []) ⊎ ((f : Frame) × (held_in d.units.ru ≡ f ∷ []))
    → AllSaved (held_in d.units.ru)
range_saved d r (inl h) = subst AllSaved (sym h) tt
range_saved d r (inr k) = subst AllSaved (sym k.1) (held_saved d k.0 r k.1, tt)

pub in_range_sound : (d : Device) → in_range d ≡ true → Sound d
unfolding in_range initialised_or_fresh
in_range_sound d r =
    record {
      started =
          or_by d.units.initialised (units_fresh d.units && addressing_fresh d) (idle d.units.ru)
          (parts (units_fit d.units) (initialised_or_fresh d) r).1
          (λ k. fresh_idle d.units (parts (units_fresh d.units) (addressing_fresh d) k).0);
      saved = range_saved d r (held_or_none d.units.ru);
    }

held_busy : (u : Ru) (f : Frame) → held_in u ≡ f ∷ [] → idle u ≡ true → ⊥
held_busy ru.Idle f h i = none≢one h
held_busy ru.NoResources f h i = false≢true i
held_busy (ru.Suspended fd) f h i = false≢true i
held_busy (ru.Ready fd) f h i = false≢true i
held_busy (ru.Held fd g p) f h i = false≢true i
held_busy (ru.Filling s w) f h i = false≢true i
held_busy (ru.Closing s free full) f h i = false≢true i
held_busy (ru.Lacking s) f h i = false≢true i

pub sound_initialised : (d : Device) (f : Frame) → Sound d → held_in d.units.ru ≡ f ∷ [] → d.units.initialised ≡ true
sound_initialised d f s h = or_left d.units.initialised (idle d.units.ru) s.started (held_busy d.units.ru f h)

-- so the fates are as said of one call
pub good_sound : (c : Call) (w : World) (f : Frame) → Sound w.device → held_in (unit_of w) ≡ f ∷ [] → is_good f ≡ true → GoodFate f c w
good_sound c w f s h g = good_of c w f g (held_fate c w f (sound_initialised w.device f s h) h)

pub bad_sound : (c : Call) (w : World) (f : Frame) → Sound w.device → held_in (unit_of w) ≡ f ∷ [] → is_good f ≡ false → BadFate f c w
bad_sound c w f s h g =
    bad_of c w f g (or_right (is_good f) f.savebad (subst AllSaved h s.saved).0 g) (held_fate c w f (sound_initialised w.device f s h) h)

-- ---- what a call does with the held frames, in short

-- it holds what it held, and no held frame's fate is given
keeps : (w : World) (r : Ran) → held_in r.outcome.device.units.ru ≡ held_in (unit_of w) → held_fates r.outcome.fates ≡ [] → FatesOfHeld w r
keeps w r e x =
    record { gone = []; stay = held_in (unit_of w); held = refl; left = e; each = ap (λ (fs : List Fate). length fs) x }

-- or it holds nothing any more, and as many are given as frames were held
ends : (w : World) (r : Ran) → held_in r.outcome.device.units.ru ≡ []
    → length (held_fates r.outcome.fates) ≡ length (held_in (unit_of w)) → FatesOfHeld w r
ends w r e x = record { gone = held_in (unit_of w); stay = []; held = sym (append-nil (held_in (unit_of w))); left = e; each = x }

one_ends : (w : World) (r : Ran) (f : Frame) (x : Fate) → held_in (unit_of w) ≡ f ∷ [] → held_in r.outcome.device.units.ru ≡ []
    → held_fates r.outcome.fates ≡ x ∷ [] → FatesOfHeld w r
one_ends w r f x h e k = ends w r e (ap (λ (fs : List Fate). length fs) k ∙ sym (ap (λ (fs : List Frame). length fs) h))

good_went : (c : Call) (w : World) (f : Frame) → held_in (unit_of w) ≡ f ∷ [] → (loses c w ≡ true → Lost w c → FatesOfHeld w (ran c w)) → GoodFate f c w
    → FatesOfHeld w (ran c w)
good_went c w f h g (held.stays l n k m) = keeps w (ran c w) (k.unit ∙ sym h) k.fates
good_went c w f h g (held.stored s free full n e q x k z) =
    one_ends w (ran c w) f fate.Stored h (none_left true (unit_after w s full) w (ran c w) (none_after w s full) z) (ap held_fates x)
good_went c w f h g (held.counted s n e q b x k z) =
    one_ends w (ran c w) f fate.Counted h (none_left false ru.NoResources w (ran c w) refl z) (ap held_fates x)
good_went c w f h g (held.both s n e q b x k j z) =
    one_ends w (ran c w) f fate.StoredCounted h (none_left true ru.NoResources w (ran c w) refl z) (ap held_fates x)
good_went c w f h g (held.lost l k) = g l k

bad_went : (c : Call) (w : World) (f : Frame) → held_in (unit_of w) ≡ f ∷ [] → (loses c w ≡ true → Lost w c → FatesOfHeld w (ran c w)) → BadFate f c w
    → FatesOfHeld w (ran c w)
bad_went c w f h g (held.stays l n k m) = keeps w (ran c w) (k.unit ∙ sym h) k.fates
bad_went c w f h g (held.stored s free full n e q x k z) =
    one_ends w (ran c w) f fate.Stored h (none_left true (unit_after w s full) w (ran c w) (none_after w s full) z) (ap held_fates x)
bad_went c w f h g (held.lacking s n e q x k z) =
    one_ends w (ran c w) f fate.Stored h (none_left true ru.NoResources w (ran c w) refl z) (ap held_fates x)
bad_went c w f h g (held.lost l k) = g l k

held_went : (good : Bool) (c : Call) (w : World) (f : Frame) → Sound w.device → held_in (unit_of w) ≡ f ∷ []
    → (loses c w ≡ true → Lost w c → FatesOfHeld w (ran c w))
    → is_good f ≡ good → FatesOfHeld w (ran c w)
held_went true c w f s h g e = good_went c w f h g (good_sound c w f s h e)
held_went false c w f s h g e = bad_went c w f h g (bad_sound c w f s h e)

-- ---- an attention

-- a held frame's fate for each frame
for_each_lem : (x : Fate) (fs : List Frame) → of_held x ≡ true → length (held_fates (map (λ (f : Frame). x) fs)) ≡ length fs
for_each_lem x [] o = refl
for_each_lem x (f ∷ fs) o =
    ap (λ (b : Bool). length (chosen b x (held_fates (map (λ (f : Frame). x) fs)))) o ∙ ap suc (for_each_lem x fs o)

lost_went : (w : World) → Lost w attention → FatesOfHeld w (attention_of w)
lost_went w (by_resetting r x d m) =
    ends w (attention_of w) (ap (λ (k : Device). held_in k.units.ru) d)
    (ap (λ (fs : List Fate). length (held_fates fs)) x ∙ for_each_lem fate.Reset (held_in (unit_of w)) refl)
lost_went w (by_abort r a x u m) =
    ends w (attention_of w) (ap held_in u)
    (ap (λ (fs : List Fate). length (held_fates fs)) x ∙ for_each_lem fate.Aborted (held_in (unit_of w)) refl)

goes_none : (code : Code) (rfa : Offset) (u : Ru) → held_in u ≡ [] → held_in (ru_by code rfa u) ≡ []
goes_none start rfa u h = goes_on start rfa u refl ∙ h
goes_none resume rfa u h = goes_on resume rfa u refl ∙ h
goes_none suspend rfa u h = goes_on suspend rfa u refl ∙ h
goes_none abort rfa u h = refl
goes_none other rfa u h = h

ruc_none : (w : World) → held_in (unit_of w) ≡ [] → held_in (obeyed_ruc w).unit ≡ []
unfolding obey_ruc
ruc_none w h = goes_none (code_of (ruc (command_of w))) _ (unit_of w) h

to_initialise : (w : World) → w.device.units.initialised ≡ false → attended w (attentions.initialise w.device w.memory) ≡ attention_of w
unfolding attended attention_of attentions.attention
to_initialise w i = ap (λ (b : Bool). attended w (attentions.attention_by b w.device w.memory)) (sym i)

to_reset : (w : World) → w.device.units.initialised ≡ true → resets (command_of w) ≡ true
    → attended w (attentions.attend_by true w.device (command_of w) w.memory) ≡ attention_of w
to_reset w i r = ap (λ (b : Bool). attended w (attentions.attend_by b w.device (command_of w) w.memory)) (sym r) ∙ to_attend w i

to_obeyed : (w : World) → w.device.units.initialised ≡ true → resets (command_of w) ≡ false → obeyed w ≡ attention_of w
to_obeyed w i r = ap (λ (b : Bool). attended w (attentions.attend_by b w.device (command_of w) w.memory)) (sym r) ∙ to_attend w i

initialise_none : (w : World) → held_in (unit_of w) ≡ [] → FatesOfHeld w (attended w (attentions.initialise w.device w.memory))
unfolding attended attentions.initialise
initialise_none w h = keeps w (attended w (attentions.initialise w.device w.memory)) (sym h) refl

reset_none : (w : World) → held_in (unit_of w) ≡ [] → FatesOfHeld w (attended w (attentions.attend_by true w.device (command_of w) w.memory))
unfolding attended attentions.attend_by
reset_none w h =
    keeps w (attended w (attentions.attend_by true w.device (command_of w) w.memory)) (sym h)
    (ap (λ (fs : List Frame). held_fates (lost_by fate.Reset fs [])) h)

obeyed_none : (w : World) → held_in (unit_of w) ≡ [] → FatesOfHeld w (obeyed w)
unfolding attended attentions.attend_by
obeyed_none w h =
    let k = ruc_none w h in
    keeps w (obeyed w) (k ∙ sym h) (ap₂ (λ (a b : List Frame). held_fates (lost_by fate.Aborted a b)) h k)

attention_none : (i r : Bool) (w : World) → held_in (unit_of w) ≡ [] → w.device.units.initialised ≡ i → resets (command_of w) ≡ r
    → FatesOfHeld w (attention_of w)
attention_none false r w h i k = subst (FatesOfHeld w) (to_initialise w i) (initialise_none w h)
attention_none true true w h i k = subst (FatesOfHeld w) (to_reset w i k) (reset_none w h)
attention_none true false w h i k = subst (FatesOfHeld w) (to_obeyed w i k) (obeyed_none w h)

attention_by_lem : (w : World) → Sound w.device → (held_in (unit_of w) ≡ []) ⊎ ((f : Frame) × (held_in (unit_of w) ≡ f ∷ [])) → FatesOfHeld w (attention_of w)
attention_by_lem w s (inl h) = attention_none w.device.units.initialised (resets (command_of w)) w h refl refl
attention_by_lem w s (inr k) = held_went (is_good k.0) attention w k.0 s k.1 (λ l x. lost_went w x) refl

pub attention_went : (w : World) → Sound w.device → FatesOfHeld w (attention_of w)
attention_went w s = attention_by_lem w s (held_or_none (unit_of w))

-- ---- a turn

record Unserved (w : World) (r : Ran) : Type 0 where
  initialised : r.outcome.device.units.initialised ≡ w.device.units.initialised
  unit : r.outcome.device.units.ru ≡ unit_of w
  fates : held_fates r.outcome.fates ≡ []

command_unserved : (w : World) (report : ℕ) → Unserved w (command_turn w report)
unfolding command_turn concluded
command_unserved w report = record { initialised = refl; unit = refl; fates = refl }

turn_unserved : (c : Bool) (w : World) (report : ℕ) → held_in (unit_of w) ≡ [] → cu_works w.device.units.cu ≡ c
    → Unserved w (turn_of w report)
turn_unserved false w report h a =
    subst (Unserved w) (served_as false false w.device.units.rulast w report a (none_held (unit_of w) h) refl)
    (record { initialised = refl; unit = refl; fates = refl })
turn_unserved true w report h a =
    subst (Unserved w) (served_as true false w.device.units.rulast w report a (none_held (unit_of w) h) refl) (command_unserved w report)

turn_by_lem : (w : World) (report : ℕ) → Sound w.device → (held_in (unit_of w) ≡ []) ⊎ ((f : Frame) × (held_in (unit_of w) ≡ f ∷ []))
    → FatesOfHeld w (turn_of w report)
turn_by_lem w report s (inl h) =
    let k = turn_unserved (cu_works w.device.units.cu) w report h refl in
    keeps w (turn_of w report) (ap held_in k.unit) k.fates
turn_by_lem w report s (inr k) = held_went (is_good k.0) (turn report) w k.0 s k.1 (λ l x. absurd (false≢true l)) refl

pub turn_went : (w : World) (report : ℕ) → Sound w.device → FatesOfHeld w (turn_of w report)
turn_went w report s = turn_by_lem w report s (held_or_none (unit_of w))

-- ---- an arrival

-- the unit after an arrival, and what is held from then on
arrived : (few matched : Bool) → Ru → Frame → Ru
arrived few matched u j = arrivals.unit_by (is_held (arrivals.fate_by few matched u j)) u j

arrived_idle : (b : Bool) (u : Ru) (j : Frame) → idle (arrivals.unit_by b u j) ≡ idle u
arrived_idle false u j = refl
arrived_idle true ru.Idle j = refl
arrived_idle true ru.NoResources j = refl
arrived_idle true (ru.Suspended fd) j = refl
arrived_idle true (ru.Ready fd) j = refl
arrived_idle true (ru.Held fd f p) j = refl
arrived_idle true (ru.Filling s w) j = refl
arrived_idle true (ru.Closing s free full) j = refl
arrived_idle true (ru.Lacking s) j = refl

-- it is what was held, or that and one that is good or to be saved
pub data Arrives (few matched : Bool) (u : Ru) (j : Frame) : Type 0 where
  kept : is_held (arrivals.fate_by few matched u j) ≡ false → Arrives few matched u j
  comes : is_held (arrivals.fate_by few matched u j) ≡ true → held_in (arrivals.unit_by true u j) ≡ held_in u ++ (j ∷ [])
      → (is_good j || j.savebad) ≡ true
      → Arrives few matched u j

ready_arrives : (good saved : Bool) (fd : Offset) (j : Frame) → is_good j ≡ good → j.savebad ≡ saved → Arrives false true (ru.Ready fd) j
ready_arrives true saved fd j g b =
    comes (ap₂ (λ (x y : Bool). is_held (arrivals.in_ready x y (arrivals.counter_for j))) g b) refl
    (ap (λ (x : Bool). x || j.savebad) g)
ready_arrives false true fd j g b =
    comes (ap₂ (λ (x y : Bool). is_held (arrivals.in_ready x y (arrivals.counter_for j))) g b) refl (ap₂ (λ (x y : Bool). x || y) g b)
ready_arrives false false fd j g b = kept (ap₂ (λ (x y : Bool). is_held (arrivals.in_ready x y (arrivals.counter_for j))) g b)

resources_arrives : (good : Bool) (c : Option Counter) → is_held (arrivals.in_no_resources good c) ≡ false
resources_arrives true c = refl
resources_arrives false c = refl

pub arrives : (few matched : Bool) (u : Ru) (j : Frame) → Arrives few matched u j
arrives true matched u j = kept refl
arrives false false u j = kept refl
arrives false true ru.Idle j = kept refl
arrives false true ru.NoResources j = kept (resources_arrives (is_good j) (arrivals.counter_for j))
arrives false true (ru.Suspended fd) j = kept refl
arrives false true (ru.Ready fd) j = ready_arrives (is_good j) j.savebad fd j refl refl
arrives false true (ru.Held fd f p) j = kept refl
arrives false true (ru.Filling s w) j = kept refl
arrives false true (ru.Closing s free full) j = kept refl
arrives false true (ru.Lacking s) j = kept refl

in_ready_new : (good saved : Bool) (c : Option Counter) → of_held (arrivals.in_ready good saved c) ≡ false
in_ready_new true saved c = refl
in_ready_new false true c = refl
in_ready_new false false c = refl

in_none_new : (good : Bool) (c : Option Counter) → of_held (arrivals.in_no_resources good c) ≡ false
in_none_new true c = refl
in_none_new false c = refl

-- no arrival has a held frame's fate
pub arrival_new : (few matched : Bool) (u : Ru) (j : Frame) → of_held (arrivals.fate_by few matched u j) ≡ false
arrival_new true matched u j = refl
arrival_new false false u j = refl
arrival_new false true ru.Idle j = refl
arrival_new false true ru.NoResources j = in_none_new (is_good j) (arrivals.counter_for j)
arrival_new false true (ru.Suspended fd) j = refl
arrival_new false true (ru.Ready fd) j = in_ready_new (is_good j) j.savebad (arrivals.counter_for j)
arrival_new false true (ru.Held fd f p) j = refl
arrival_new false true (ru.Filling s w) j = refl
arrival_new false true (ru.Closing s free full) j = refl
arrival_new false true (ru.Lacking s) j = refl

arrival_saved : (few matched : Bool) (u : Ru) (j : Frame) → AllSaved (held_in u) → Arrives few matched u j
    → AllSaved (held_in (arrived few matched u j))
unfolding arrived
arrival_saved few matched u j s (kept k) = subst (λ (b : Bool). AllSaved (held_in (arrivals.unit_by b u j))) (sym k) s
arrival_saved few matched u j s (comes k e g) =
    subst (λ (b : Bool). AllSaved (held_in (arrivals.unit_by b u j))) (sym k)
    (subst AllSaved (sym e) (saved_append (held_in u) (j ∷ []) s (g, tt)))

arrival_sound : (w : World) (f : List ℕ) (v : ℕ) → Sound w.device → Sound (chip.arrival_of w f v).outcome.device
unfolding chip.arrival_of chip.arrival arrivals.arrival arrivals.fate_of arrived
arrival_sound w f v s =
    let few = ltb (length f) (header_in w) in
    let m = matches (settings_of w) w.device.own w.device.filter f in
    let j = arrivals.judged (settings_of w) f v in
    record {
      started =
          ap (λ (b : Bool). w.device.units.initialised || b) (arrived_idle (is_held (arrivals.fate_by few m (unit_of w) j)) (unit_of w) j)
          ∙ s.started;
      saved = arrival_saved few m (unit_of w) j s.saved (arrives few m (unit_of w) j);
    }

-- ---- it stays so

went_saved : (w : World) (r : Ran) → Sound w.device → FatesOfHeld w r → AllSaved (held_in r.outcome.device.units.ru)
went_saved w r s k = subst AllSaved (sym k.left) (saved_behind k.gone k.stay (subst AllSaved k.held s.saved))

fresh_sound : Sound fresh
fresh_sound = record { started = refl; saved = tt }

-- an attention leaves the chip initialised, or fresh
Started : Ran → Type 0
Started r = (r.outcome.device.units.initialised || idle r.outcome.device.units.ru) ≡ true

initialise_started : (w : World) → Started (attended w (attentions.initialise w.device w.memory))
unfolding Started attended attentions.initialise
initialise_started w = refl

reset_started : (w : World) → Started (attended w (attentions.attend_by true w.device (command_of w) w.memory))
unfolding Started attended attentions.attend_by
reset_started w = refl

obeyed_started : (w : World) → w.device.units.initialised ≡ true → Started (obeyed w)
unfolding Started attended attentions.attend_by
obeyed_started w i = ap (λ (b : Bool). b || idle (obeyed_ruc w).unit) i

attention_started : (i r : Bool) (w : World) → w.device.units.initialised ≡ i → resets (command_of w) ≡ r → Started (attention_of w)
attention_started false r w i k = subst Started (to_initialise w i) (initialise_started w)
attention_started true true w i k = subst Started (to_reset w i k) (reset_started w)
attention_started true false w i k = subst Started (to_obeyed w i k) (obeyed_started w i)

attention_sound : (w : World) → Sound w.device → Sound (attention_of w).outcome.device
unfolding Started
attention_sound w s =
    record {
      started = attention_started w.device.units.initialised (resets (command_of w)) w refl refl;
      saved = went_saved w (attention_of w) s (attention_went w s);
    }

-- no turn takes the initialisation back
Keeps : World → Ran → Type 0
Keeps w r = r.outcome.device.units.initialised ≡ w.device.units.initialised

command_initialised : (w : World) (report : ℕ) → Keeps w (command_turn w report)
unfolding Keeps command_turn concluded
command_initialised w report = refl

receive_initialised : (w : World) → Keeps w (receive_turn w)
unfolding Keeps receive_turn concluded
receive_initialised w = refl

neither_initialised : (w : World) (report : ℕ) → Keeps w (turn_by (served_by false false false) w report)
unfolding Keeps
neither_initialised w report = refl

turn_initialised : (c h l : Bool) (w : World) (report : ℕ) → Keeps w (turn_by (served_by c h l) w report)
turn_initialised false false l w report = neither_initialised w report
turn_initialised true false l w report = command_initialised w report
turn_initialised false true l w report = receive_initialised w
turn_initialised true true true w report = command_initialised w report
turn_initialised true true false w report = receive_initialised w

turn_started : (w : World) (report : ℕ) → Sound w.device → (held_in (unit_of w) ≡ []) ⊎ ((f : Frame) × (held_in (unit_of w) ≡ f ∷ []))
    → Started (turn_of w report)
unfolding Started Keeps turn_of
turn_started w report s (inl h) =
    let k = turn_unserved (cu_works w.device.units.cu) w report h refl in
    ap₂ (λ (b : Bool) (u : Ru). b || idle u) k.initialised k.unit ∙ s.started
turn_started w report s (inr k) =
    ap (λ (b : Bool). b || idle (turn_of w report).outcome.device.units.ru)
    (turn_initialised (cu_works w.device.units.cu) (ru_works (unit_of w)) w.device.units.rulast w report
    ∙ sound_initialised w.device k.0 s k.1)

turn_sound : (w : World) (report : ℕ) → Sound w.device → Sound (turn_of w report).outcome.device
unfolding Started
turn_sound w report s =
    record {
      started = turn_started w report s (held_or_none (unit_of w));
      saved = went_saved w (turn_of w report) s (turn_went w report s);
    }

-- every call keeps it
pub call_sound : (c : Call) (w : World) → Sound w.device → Sound (ran c w).outcome.device
unfolding reset_of
call_sound reset w s = fresh_sound
call_sound attention w s = attention_sound w s
call_sound (arrive f v) w s = arrival_sound w f v s
call_sound (turn report) w s = turn_sound w report s
