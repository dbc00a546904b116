-- Demand 2 of frames over whole traces: each frame that was held has exactly one fate, or is still held at the end, or the host altered the record.
-- Assumes nothing.
use mathlib.Core.Path.{◌≡◌, refl, sym, ap, ap₂, ◌∙◌, subst}
use mathlib.Core.Bool.{Bool, true, false, cond, false≢true, true≢false}
use mathlib.Core.List.{List, [], ◌∷◌, ◌++◌, map, nil≢cons, append-nil, append_assoc}
use mathlib.Core.Logic.{◌⊎◌, inl, inr}
use Prim.Native.Nat.{ℕ, suc, ◌+◌, ◌≤◌, ◌<◌}
use native.Mathlib.Omega.{arith}
use borrow.Author.Tests.{eqb-true, ltb-true, ltb-false, ne_eqb}
use lib.Dec.{eqb, ltb}
use lib.ListN.{length, drop}
use Rattle.device.specs.Answers.{is_held}
use Rattle.device.specs.State.{held_in, is_good}
use Rattle.device.specs.declared.Fate.{Fate}
use Rattle.device.specs.declared.Fate.TheVariants as fate
use Rattle.device.specs.declared.Frame.{Frame}
use Rattle.device.specs.declared.Ru.{Ru}
use Rattle.image.specs.Ranges.{in_range}
use Rattle.receive.specs.Arrival as arrivals
use Rattle.chip.specs.Arrival as chip
use Rattle.chip.specs.Call.{Call, reset, attention, arrive, turn, ran}
use Rattle.chip.specs.World.{World, Ran, reset_of}
use Rattle.filter.specs.Match.{matches}
use Rattle.progress.specs.Trace.{run}
use Rattle.traces.specs.Event.{Event, call, host}
use Rattle.frames.specs.Arrival.{unit_of, settings_of, header_in}
use Rattle.frames.specs.Held.{of_held, is_loss, chosen, held_fates, FatesOfHeld, loses, ends, Lost, by_reset, by_resetting, by_abort, GoodFate, BadFate}
use Rattle.frames.specs.Held as held
use Rattle.frames.specs.Fates.{Deed, event, alter, world_after, Scene, opening, Noted, noted, numbers_of, numbered, Way, by_call, by_altering, Ended, held_as, still, begun_if, begun}
use Rattle.frames.specs.Fates.{ended_as, ended_by, fates_in, ended, takes, advance, beginnings, endings, times, names_of, fate_one, alter_one}
use Rattle.frames.specs.Fates.{times_fated, times_altered, is_unaltered, Proper, EachProper, AllProper, AllFates}
use Rattle.frames.proofs.Sound.{Sound, in_range_sound, held_or_none, good_sound, bad_sound, attention_went, turn_went, Arrives, kept, comes, arrives, arrival_new, call_sound}

-- ---- one deed

-- what is held before and what begins is what ends and what is held after
Balanced : Deed → Scene → Type 0
Balanced d s = names_of (ended d s) ++ still (advance d s) ≡ still s ++ begun d s

-- frames that are held under numbers of their own, and what comes behind them
held_with : (fs : List Frame) (ns : List ℕ) (gs : List Frame) (ms : List Noted) → held_as gs (numbers_of ms) ≡ ms
    → held_as (fs ++ gs) (numbers_of (held_as fs ns ++ ms)) ≡ held_as fs ns ++ ms
held_with [] ns gs ms e = e
held_with (f ∷ fs) [] gs ms e = ap (λ (l : List Noted). noted 0 (f ∷ []) ∷ l) (held_with fs [] gs ms e)
held_with (f ∷ fs) (n ∷ ns) gs ms e = ap (λ (l : List Noted). noted n (f ∷ []) ∷ l) (held_with fs ns gs ms e)

held_again : (fs : List Frame) (ns : List ℕ) → held_as fs (numbers_of (held_as fs ns ++ [])) ≡ held_as fs ns ++ []
held_again fs ns =
    ap (λ (l : List Frame). held_as l (numbers_of (held_as fs ns ++ []))) (sym (append-nil fs)) ∙ held_with fs ns [] [] refl

held_numbered : (n : ℕ) (fs : List Frame) → held_as fs (numbers_of (numbered n fs)) ≡ numbered n fs
held_numbered n [] = refl
held_numbered n (f ∷ fs) = ap (λ (l : List Noted). noted n (f ∷ []) ∷ l) (held_numbered (suc n) fs)

-- an attention or a turn: the oldest end, as many as have a fate
Settles : List Fate → List Frame → List Frame → List ℕ → Type 0
Settles xs before after ns =
    let still = held_as before ns in
    let ended = ended_as xs still in
    names_of ended ++ held_as after (numbers_of (drop (length ended) still ++ [])) ≡ still ++ []

settles : (xs : List Fate) (gone stay : List Frame) (ns : List ℕ) → length xs ≡ length gone → Settles xs (gone ++ stay) stay ns
unfolding Settles
settles [] [] stay ns e = held_again stay ns
settles [] (f ∷ fs) stay ns e = absurd (omega (arith, e))
settles (x ∷ xs) [] stay ns e = absurd (omega (arith, e))
settles (x ∷ xs) (f ∷ fs) stay [] e = ap (λ (l : List Noted). noted 0 (f ∷ []) ∷ l) (settles xs fs stay [] (omega (arith, e)))
settles (x ∷ xs) (f ∷ fs) stay (n ∷ ns) e = ap (λ (l : List Noted). noted n (f ∷ []) ∷ l) (settles xs fs stay ns (omega (arith, e)))

balance_went : (ns : List ℕ) (w : World) (r : Ran) → FatesOfHeld w r
    → Settles (held_fates r.outcome.fates) (held_in (unit_of w)) (held_in r.outcome.device.units.ru) ns
balance_went ns w r k =
    let xs = held_fates r.outcome.fates in
    subst (λ (l : List Frame). Settles xs l (held_in r.outcome.device.units.ru) ns) (sym k.held)
    (subst (λ (l : List Frame). Settles xs (k.gone ++ k.stay) l ns) (sym k.left) (settles xs k.gone k.stay ns k.each))

-- an arrival: nothing ends, and one may come behind those that are held
Joins : List Fate → (held : Bool) → (next : ℕ) → List ℕ → Ru → Frame → Type 0
Joins xs held next ns u j =
    let still = held_as (held_in u) ns in
    let ended = ended_as xs still in
    let begins = begun_if held next j ++ [] in
    names_of ended ++ held_as (held_in (arrivals.unit_by held u j)) (numbers_of (drop (length ended) still ++ begins)) ≡ still ++ begins

joins : (few matched : Bool) (next : ℕ) (ns : List ℕ) (u : Ru) (j : Frame) → Arrives few matched u j
    → Joins [] (is_held (arrivals.fate_by few matched u j)) next ns u j
unfolding Joins
joins few matched next ns u j (kept k) = subst (λ (b : Bool). Joins [] b next ns u j) (sym k) (held_again (held_in u) ns)
joins few matched next ns u j (comes k e g) =
    subst (λ (b : Bool). Joins [] b next ns u j) (sym k)
    (ap (λ (l : List Frame). held_as l (numbers_of (held_as (held_in u) ns ++ (noted next (j ∷ []) ∷ [])))) e
    ∙ held_with (held_in u) ns (j ∷ []) (noted next (j ∷ []) ∷ []) refl)

balance_arrival : (f : List ℕ) (v : ℕ) (s : Scene) → Balanced (event (call (arrive f v))) s
unfolding Balanced Joins chip.arrival_of chip.arrival arrivals.arrival arrivals.fate_of
balance_arrival f v s =
    let w = s.world in
    let few = ltb (length f) (header_in w) in
    let m = matches (settings_of w) w.device.own w.device.filter f in
    let j = arrivals.judged (settings_of w) f v in
    let x = arrivals.fate_by few m (unit_of w) j in
    subst (λ (b : Bool). Joins (chosen b x []) (is_held x) s.next s.held (unit_of w) j) (sym (arrival_new few m (unit_of w) j))
    (joins few m s.next s.held (unit_of w) j (arrives few m (unit_of w) j))

-- the reset call, and the host at the record: all end
all_end : (way : Way) (ns : List Noted) → names_of (ended_by way ns) ≡ ns
all_end way [] = refl
all_end way (n ∷ ns) = ap (λ (l : List Noted). n ∷ l) (all_end way ns)

none_left : (way : Way) (ns : List Noted) → drop (length (ended_by way ns)) ns ≡ []
none_left way [] = refl
none_left way (n ∷ ns) = none_left way ns

balanced : (d : Deed) (s : Scene) → Sound s.world.device → Balanced d s
unfolding Balanced Settles reset_of
balanced (event (call reset)) s k = ap (λ (l : List Noted). l ++ []) (all_end (by_call fate.Reset) (still s))
balanced (event (call attention)) s k = balance_went s.held s.world (ran attention s.world) (attention_went s.world k)
balanced (event (call (arrive f v))) s k = balance_arrival f v s
balanced (event (call (turn report))) s k = balance_went s.held s.world (ran (turn report) s.world) (turn_went s.world report k)
balanced (event (host m h out)) s k = held_again (held_in (unit_of s.world)) s.held
balanced (alter d r) s k =
    let fs = held_in d.units.ru in
    ap₂ (λ (x y : List Noted). x ++ y) (all_end by_altering (still s))
    (ap (λ (l : List Noted). held_as fs (numbers_of (l ++ numbered s.next fs))) (none_left by_altering (still s)) ∙ held_numbered s.next fs)

-- ---- over time

deed_sound : (d : Deed) (w : World) → Sound w.device → Sound (world_after d w).device
deed_sound (event (call c)) w k = call_sound c w k
deed_sound (event (host m h out)) w k = k
deed_sound (alter d r) w k = in_range_sound d r

names_append : (xs ys : List Ended) → names_of (xs ++ ys) ≡ names_of xs ++ names_of ys
names_append [] ys = refl
names_append (x ∷ xs) ys = ap (λ (l : List Noted). x.noted ∷ l) (names_append xs ys)

conserves : (ds : List Deed) (s : Scene) → Sound s.world.device → names_of (endings ds s) ++ still (run advance ds s) ≡ still s ++ beginnings ds s
unfolding Balanced
conserves [] s k = sym (append-nil (still s))
conserves (d ∷ ds) s k =
    let t = advance d s in
    ap (λ (l : List Noted). l ++ still (run advance ds t)) (names_append (ended d s) (endings ds t))
    ∙ append_assoc (names_of (ended d s)) (names_of (endings ds t)) (still (run advance ds t))
    ∙ ap (λ (l : List Noted). names_of (ended d s) ++ l) (conserves ds t (deed_sound d s.world k))
    ∙ sym (append_assoc (names_of (ended d s)) (still t) (beginnings ds t))
    ∙ ap (λ (l : List Noted). l ++ beginnings ds t) (balanced d s k)
    ∙ append_assoc (still s) (begun d s) (beginnings ds t)

-- conservation: an equality of lists. Every frame that was held ends, under its number and as it was judged at its arrival, or is still held; in the
-- order of the arrivals; and nothing else ends
pub conserved : (ds : List Deed) (s : Scene) → in_range s.world.device ≡ true
    → names_of (endings ds s) ++ still (run advance ds s) ≡ still s ++ beginnings ds s
conserved ds s r = conserves ds s (in_range_sound s.world.device r)

fates_sound : (ds : List Deed) (w : World) → Sound w.device → AllFates ds w
fates_sound [] w k = tt
fates_sound (event (call c) ∷ ds) w k =
    let rest = fates_sound ds (world_after (event (call c)) w) (deed_sound (event (call c)) w k) in
    (λ f h g. good_sound c w f k h g, λ f h g. bad_sound c w f k h g, rest)
fates_sound (event (host m h out) ∷ ds) w k = fates_sound ds (world_after (event (host m h out)) w) k
fates_sound (alter d r ∷ ds) w k = fates_sound ds (world_after (alter d r) w) (in_range_sound d r)

-- at every call on the way the fate is as said of one call
pub all_fates : (ds : List Deed) (w : World) → in_range w.device ≡ true → AllFates ds w
all_fates ds w r = fates_sound ds w (in_range_sound w.device r)

-- ---- no fate is noted beside what is done

arrival_fates : (w : World) (f : List ℕ) (v : ℕ) → held_fates (chip.arrival_of w f v).outcome.fates ≡ []
unfolding chip.arrival_of chip.arrival arrivals.arrival arrivals.fate_of
arrival_fates w f v =
    let few = ltb (length f) (header_in w) in
    let m = matches (settings_of w) w.device.own w.device.filter f in
    let j = arrivals.judged (settings_of w) f v in
    ap (λ (b : Bool). chosen b (arrivals.fate_by few m (unit_of w) j) []) (arrival_new few m (unit_of w) j)

reset_fates : (w : World) → held_fates (ran reset w).outcome.fates ≡ []
unfolding reset_of
reset_fates w = refl

-- an outcome that gives held frames' fates: so many frames were held, and are no more
pub fates_of_held : (c : Call) (w : World) → in_range w.device ≡ true → (held_fates (ran c w).outcome.fates ≡ [] → ⊥) → FatesOfHeld w (ran c w)
fates_of_held reset w r h = absurd (h (reset_fates w))
fates_of_held attention w r h = attention_went w (in_range_sound w.device r)
fates_of_held (arrive f v) w r h = absurd (h (arrival_fates w f v))
fates_of_held (turn report) w r h = turn_went w report (in_range_sound w.device r)

-- ---- by which fates a call ends holdings: it loses frames, or it does not

abbrev AllLoss : Bool → List Fate → Type 0
AllLoss b [] = Unit {0}
AllLoss b (x ∷ xs) = (is_loss x ≡ b) × AllLoss b xs

-- no frame is held
no_frames : (gone stay : List Frame) → [] ≡ gone ++ stay → length gone ≡ 0
no_frames [] stay e = refl
no_frames (f ∷ fs) stay e = absurd (nil≢cons e)

no_fates : (b : Bool) (xs : List Fate) → length xs ≡ 0 → AllLoss b xs
no_fates b [] e = tt
no_fates b (x ∷ xs) e = absurd (omega (arith, e))

none_loss : (b : Bool) (w : World) (r : Ran) → held_in (unit_of w) ≡ [] → FatesOfHeld w r → AllLoss b (held_fates r.outcome.fates)
none_loss b w r h k = no_fates b (held_fates r.outcome.fates) (k.each ∙ no_frames k.gone k.stay (sym h ∙ k.held))

-- one is, and the turn that ends it loses none
ends_keeps : (c : Call) (w : World) → ends c w ≡ true → loses c w ≡ false
ends_keeps reset w e = absurd (false≢true e)
ends_keeps attention w e = absurd (false≢true e)
ends_keeps (arrive f v) w e = absurd (false≢true e)
ends_keeps (turn report) w e = refl

end_loss : (x : Fate) (c : Call) (w : World) → ends c w ≡ true → (ran c w).outcome.fates ≡ x ∷ [] → AllLoss false (held_fates (x ∷ []))
    → AllLoss (loses c w) (held_fates (ran c w).outcome.fates)
end_loss x c w n e h =
    subst (λ (b : Bool). AllLoss b (held_fates (ran c w).outcome.fates)) (sym (ends_keeps c w n))
    (subst (λ (fs : List Fate). AllLoss false (held_fates fs)) (sym e) h)

-- it stays held
stay_loss : (c : Call) (w : World) → held_fates (ran c w).outcome.fates ≡ [] → AllLoss (loses c w) (held_fates (ran c w).outcome.fates)
stay_loss c w e = subst (AllLoss (loses c w)) (sym e) tt

-- or is lost
if_loss : (b o : Bool) (x : Fate) (xs : List Fate) → is_loss x ≡ b → AllLoss b xs → AllLoss b (chosen o x xs)
if_loss b true x xs e h = (e, h)
if_loss b false x xs e h = h

each_loss : (b : Bool) (x : Fate) (fs : List Frame) → is_loss x ≡ b → AllLoss b (held_fates (map (λ (f : Frame). x) fs))
each_loss b x [] e = tt
each_loss b x (f ∷ fs) e = if_loss b (of_held x) x (held_fates (map (λ (f : Frame). x) fs)) e (each_loss b x fs e)

lost_loss : (c : Call) (w : World) → loses c w ≡ true → Lost w c → AllLoss (loses c w) (held_fates (ran c w).outcome.fates)
lost_loss reset w l (by_reset d m) = stay_loss reset w (reset_fates w)
lost_loss attention w l (by_resetting r e d m) =
    subst (λ (fs : List Fate). AllLoss (loses attention w) (held_fates fs)) (sym e) (each_loss (loses attention w) fate.Reset (held_in (unit_of w)) (sym l))
lost_loss attention w l (by_abort r a e u m) =
    subst (λ (fs : List Fate). AllLoss (loses attention w) (held_fates fs)) (sym e) (each_loss (loses attention w) fate.Aborted (held_in (unit_of w)) (sym l))
lost_loss (arrive f v) w l h = elim h [ ]
lost_loss (turn r) w l h = elim h [ ]

good_loss : (c : Call) (w : World) (f : Frame) → GoodFate f c w → AllLoss (loses c w) (held_fates (ran c w).outcome.fates)
good_loss c w f (held.stays l n k m) = stay_loss c w k.fates
good_loss c w f (held.stored s free full n e q x k z) = end_loss fate.Stored c w n x (refl, tt)
good_loss c w f (held.counted s n e q b x k z) = end_loss fate.Counted c w n x (refl, tt)
good_loss c w f (held.both s n e q b x k j z) = end_loss fate.StoredCounted c w n x (refl, tt)
good_loss c w f (held.lost l k) = lost_loss c w l k

bad_loss : (c : Call) (w : World) (f : Frame) → BadFate f c w → AllLoss (loses c w) (held_fates (ran c w).outcome.fates)
bad_loss c w f (held.stays l n k m) = stay_loss c w k.fates
bad_loss c w f (held.stored s free full n e q x k z) = end_loss fate.Stored c w n x (refl, tt)
bad_loss c w f (held.lacking s n e q x k z) = end_loss fate.Stored c w n x (refl, tt)
bad_loss c w f (held.lost l k) = lost_loss c w l k

one_loss : (good : Bool) (c : Call) (w : World) (f : Frame) → Sound w.device → held_in (unit_of w) ≡ f ∷ [] → is_good f ≡ good
    → AllLoss (loses c w) (held_fates (ran c w).outcome.fates)
one_loss true c w f s h g = good_loss c w f (good_sound c w f s h g)
one_loss false c w f s h g = bad_loss c w f (bad_sound c w f s h g)

went_loss : (c : Call) (w : World) → Sound w.device → FatesOfHeld w (ran c w) → (held_in (unit_of w) ≡ []) ⊎ ((f : Frame) × (held_in (unit_of w) ≡ f ∷ []))
    → AllLoss (loses c w) (held_fates (ran c w).outcome.fates)
went_loss c w s k (inl h) = none_loss (loses c w) w (ran c w) h k
went_loss c w s k (inr j) = one_loss (is_good j.0) c w j.0 s j.1 refl

losses : (c : Call) (w : World) → Sound w.device → AllLoss (loses c w) (held_fates (ran c w).outcome.fates)
losses reset w s = stay_loss reset w (reset_fates w)
losses attention w s = went_loss attention w s (attention_went w s) (held_or_none (unit_of w))
losses (arrive f v) w s = stay_loss (arrive f v) w (arrival_fates w f v)
losses (turn report) w s = went_loss (turn report) w s (turn_went w report s) (held_or_none (unit_of w))

-- ---- the ways to end

module _ (A : Type 0) where
  proper_if : (o : Bool) (c : Call) (w : World) (x : Fate) (xs : List Fate) → of_held x ≡ o → AllLoss (loses c w) (chosen o x xs)
      → (AllLoss (loses c w) xs → (ns : List Noted) → EachProper A (event (call c)) w (ended_as xs ns))
      → (ns : List Noted) → EachProper A (event (call c)) w (ended_as (chosen o x xs) ns)
  proper_if true c w x xs h l k [] = ((h, l.0), k l.1 [])
  proper_if true c w x xs h l k (n ∷ ns) = ((h, l.0), k l.1 ns)
  proper_if false c w x xs h l k ns = k l ns

  proper_as : (c : Call) (w : World) (xs : List Fate) → AllLoss (loses c w) (held_fates xs) → (ns : List Noted)
      → EachProper A (event (call c)) w (ended_as (held_fates xs) ns)
  proper_as c w [] l ns = tt
  proper_as c w (x ∷ xs) l ns = proper_if (of_held x) c w x (held_fates xs) refl l (proper_as c w xs) ns

  proper_by : (d : Deed) (w : World) (way : Way) (ns : List Noted) → Proper A d w way → EachProper A d w (ended_by way ns)
  proper_by d w way [] h = tt
  proper_by d w way (n ∷ ns) h = (h, proper_by d w way ns h)

  proper_fates : (c : Call) (s : Scene) → Sound s.world.device → EachProper A (event (call c)) s.world (fates_in c s)
  proper_fates c s k = proper_as c s.world (ran c s.world).outcome.fates (losses c s.world k) (still s)

  proper_event : (e : Event) (s : Scene) → Sound s.world.device → EachProper A (event e) s.world (ended (event e) s)
  proper_event (call reset) s k = proper_by (event (call reset)) s.world (by_call fate.Reset) (still s) (refl, refl)
  proper_event (call attention) s k = proper_fates attention s k
  proper_event (call (arrive f v)) s k = proper_fates (arrive f v) s k
  proper_event (call (turn report)) s k = proper_fates (turn report) s k
  proper_event (host m h out) s k = tt

  proper_sound : (ds : List Deed) (s : Scene) → Sound s.world.device → (is_unaltered ds ≡ false → A) → AllProper A ds s
  proper_sound [] s k a = tt
  proper_sound (event e ∷ ds) s k a =
      (proper_event e s k, proper_sound ds (advance (event e) s) (deed_sound (event e) s.world k) a)
  proper_sound (alter d r ∷ ds) s k a = (
    proper_by (alter d r) s.world by_altering (still s) (a refl),
    proper_sound ds (advance (alter d r) s) (deed_sound (alter d r) s.world k) (λ e. a refl),
  )

-- an end is by a held frame's fate, one of loss exactly if the call aborts or resets, or the host altered the record
pub all_proper : (ds : List Deed) (s : Scene) → in_range s.world.device ≡ true → AllProper (Unit {0}) ds s
all_proper ds s r = proper_sound (Unit {0}) ds s (in_range_sound s.world.device r) (λ e. tt)

-- if the host alters no record, every end is by a fate
pub all_fated : (ds : List Deed) (s : Scene) → in_range s.world.device ≡ true → is_unaltered ds ≡ true → AllProper ⊥ ds s
all_fated ds s r h = proper_sound ⊥ ds s (in_range_sound s.world.device r) (λ e. true≢false (sym h ∙ e))

-- ---- each number once

times_append : (k : ℕ) (xs ys : List Noted) → times k (xs ++ ys) ≡ times k xs + times k ys
times_append k [] ys = omega arith
times_append k (x ∷ xs) ys =
    let i : times k (xs ++ ys) ≡ times k xs + times k ys = times_append k xs ys in
    omega arith

-- frames under numbers from n on: each number once, and none below or beyond
below : (k n : ℕ) (fs : List Frame) → k < n → times k (numbered n fs) ≡ 0
below k n [] h = refl
below k n (f ∷ fs) h =
    ap₂ (λ (b : Bool) (x : ℕ). cond b 1 0 + x) (ne_eqb n k (λ q. omega (arith, h, q))) (below k (suc n) fs (omega (arith, h)))

beyond : (k n : ℕ) (fs : List Frame) → n + length fs ≤ k → times k (numbered n fs) ≡ 0
beyond k n [] h = refl
beyond k n (f ∷ fs) h =
    ap₂ (λ (b : Bool) (x : ℕ). cond b 1 0 + x) (ne_eqb n k (λ q. omega (arith, h, q))) (beyond k (suc n) fs (omega (arith, h)))

counts_once : (b : Bool) (rest : ℕ) → rest ≤ 1 → (b ≡ true → rest ≡ 0) → cond b 1 0 + rest ≤ 1
counts_once true rest h z =
    let e = z refl in
    omega arith
counts_once false rest h z = omega arith

once : (k n : ℕ) (fs : List Frame) → times k (numbered n fs) ≤ 1
once k n [] = omega arith
once k n (f ∷ fs) =
    counts_once (eqb n k) (times k (numbered (suc n) fs)) (once k (suc n) fs)
    (λ b. below k (suc n) fs (omega (arith, eqb-true n k b)))

-- and with what has other numbers
once_with : (k n : ℕ) (fs : List Frame) (ms : List Noted) → times k ms ≤ 1 → (k < n + length fs → times k ms ≡ 0) → times k (numbered n fs ++ ms) ≤ 1
once_with k n fs ms m z = by (ltb k (n + length fs)) refl
  where
    by : (b : Bool) → ltb k (n + length fs) ≡ b → times k (numbered n fs ++ ms) ≤ 1
    by true e =
        let i = z (ltb-true k (n + length fs) e) in
        omega (arith, times_append k (numbered n fs) ms, i, once k n fs)
    by false e = omega (arith, times_append k (numbered n fs) ms, beyond k n fs (ltb-false k (n + length fs) e), m)

-- what begins with a deed has the next numbers, and takes them
record Begins (d : Deed) (s : Scene) : Type 0 where
  frames : List Frame
  begins : begun d s ≡ numbered s.next frames
  most : length frames ≤ takes d

begins_if : (b : Bool) (f : List ℕ) (v : ℕ) (s : Scene) → begun (event (call (arrive f v))) s
    ≡ begun_if b s.next (arrivals.judged (settings_of s.world) f v) ++ []
    → Begins (event (call (arrive f v))) s
begins_if true f v s h = record { frames = arrivals.judged (settings_of s.world) f v ∷ []; begins = h; most = omega arith }
begins_if false f v s h = record { frames = []; begins = h; most = omega arith }

arrival_begins : (f : List ℕ) (v : ℕ) (s : Scene) → Begins (event (call (arrive f v))) s
unfolding chip.arrival_of chip.arrival arrivals.arrival
arrival_begins f v s =
    let w = s.world in
    begins_if (is_held (arrivals.fate_of (settings_of w) (matches (settings_of w) w.device.own w.device.filter f) (unit_of w) f v)) f v s refl

nothing : (d : Deed) (s : Scene) → begun d s ≡ [] → Begins d s
nothing d s e = record { frames = []; begins = e; most = omega arith }

begins : (d : Deed) (s : Scene) → Begins d s
begins (event (call reset)) s = nothing (event (call reset)) s refl
begins (event (call attention)) s = nothing (event (call attention)) s refl
begins (event (call (arrive f v))) s = arrival_begins f v s
begins (event (call (turn report))) s = nothing (event (call (turn report))) s refl
begins (event (host m h out)) s = nothing (event (host m h out)) s refl
begins (alter d r) s = record { frames = held_in d.units.ru; begins = refl; most = omega arith }

-- no number that is behind begins
behind : (ds : List Deed) (s : Scene) (k : ℕ) → k < s.next → times k (beginnings ds s) ≡ 0
behind [] s k h = refl
behind (d ∷ ds) s k h =
    let b = begins d s in
    let rest = beginnings ds (advance d s) in
    ap (λ (l : List Noted). times k (l ++ rest)) b.begins
    ∙ times_append k (numbered s.next b.frames) rest
    ∙ ap₂ (λ (x y : ℕ). x + y) (below k s.next b.frames h) (behind ds (advance d s) k (omega (arith, h)))

-- no number begins twice
not_twice : (ds : List Deed) (s : Scene) (k : ℕ) → times k (beginnings ds s) ≤ 1
not_twice [] s k = omega arith
not_twice (d ∷ ds) s k =
    let b = begins d s in
    let rest = beginnings ds (advance d s) in
    subst (λ (l : List Noted). times k (l ++ rest) ≤ 1) (sym b.begins)
    (once_with k s.next b.frames rest (not_twice ds (advance d s) k) (λ h. behind ds (advance d s) k (omega (arith, h, b.most))))

all_once : (w : World) (ds : List Deed) (k : ℕ) → times k (still (opening w) ++ beginnings ds (opening w)) ≤ 1
all_once w ds k =
    let fs = held_in (unit_of w) in
    let rest = beginnings ds (opening w) in
    subst (λ (l : List Noted). times k (l ++ rest) ≤ 1) (sym (held_numbered 1 fs))
    (once_with k 1 fs rest (not_twice ds (opening w) k) (λ h. behind ds (opening w) k (omega (arith, h))))

-- every end is by a fate or by altering
one_way : (b : Bool) (way : Way) → cond b 1 0 ≡ cond b (fate_one way) 0 + cond b (alter_one way) 0
one_way true (by_call x) = refl
one_way true by_altering = refl
one_way false way = refl

ways : (k : ℕ) (es : List Ended) → times k (names_of es) ≡ times_fated k es + times_altered k es
ways k [] = refl
ways k (e ∷ es) =
    let i : times k (names_of es) ≡ times_fated k es + times_altered k es = ways k es in
    omega (arith, one_way (eqb e.noted.number k) e.way)

-- ---- the demand

conserved_times : (w : World) (ds : List Deed) (k : ℕ) → in_range w.device ≡ true
    → times_fated k (endings ds (opening w)) + times_altered k (endings ds (opening w)) + times k (still (run advance ds (opening w)))
    ≡ times k (still (opening w) ++ beginnings ds (opening w))
conserved_times w ds k r =
    let s = opening w in
    ap (λ (n : ℕ). n + times k (still (run advance ds s))) (sym (ways k (endings ds s)))
    ∙ sym (times_append k (names_of (endings ds s)) (still (run advance ds s)))
    ∙ ap (times k) (conserved ds s r)

-- from any world in range on, whatever happens: a frame that was held, at first or from its arrival on, under the number k, has exactly one fate, or
-- the host altered the record, or it is still held at the end
pub exactly_one : (w : World) (ds : List Deed) (k : ℕ) → in_range w.device ≡ true
    → 0 < times k (still (opening w) ++ beginnings ds (opening w))
    → times_fated k (endings ds (opening w)) + times_altered k (endings ds (opening w)) + times k (still (run advance ds (opening w))) ≡ 1
exactly_one w ds k r h =
    omega (arith, conserved_times w ds k r, all_once w ds k)

-- and no fate is noted under a number of which no frame was held
pub no_other : (w : World) (ds : List Deed) (k : ℕ) → in_range w.device ≡ true → times k (still (opening w) ++ beginnings ds (opening w)) ≡ 0
    → times_fated k (endings ds (opening w)) + times_altered k (endings ds (opening w)) + times k (still (run advance ds (opening w))) ≡ 0
no_other w ds k r h = conserved_times w ds k r ∙ h

-- where the host alters no record, it is a fate or it is still held
never_altered : (d : Deed) (w : World) → Proper ⊥ d w by_altering → ⊥
never_altered (event (call c)) w h = h
never_altered (event (host m x out)) w h = h
never_altered (alter d r) w h = h

not_altered : (b : Bool) (d : Deed) (w : World) (way : Way) → Proper ⊥ d w way → cond b (alter_one way) 0 ≡ 0
not_altered true d w (by_call x) h = refl
not_altered true d w by_altering h = absurd (never_altered d w h)
not_altered false d w way h = refl

none_altered : (k : ℕ) (d : Deed) (w : World) (es rest : List Ended) → EachProper ⊥ d w es → times_altered k rest ≡ 0 → times_altered k (es ++ rest) ≡ 0
none_altered k d w [] rest h z = z
none_altered k d w (e ∷ es) rest h z =
    let i : times_altered k (es ++ rest) ≡ 0 = none_altered k d w es rest h.1 z in
    omega (arith, not_altered (eqb e.noted.number k) d w e.way h.0)

all_unaltered : (k : ℕ) (ds : List Deed) (s : Scene) → AllProper ⊥ ds s → times_altered k (endings ds s) ≡ 0
all_unaltered k [] s h = refl
all_unaltered k (d ∷ ds) s h =
    none_altered k d s.world (ended d s) (endings ds (advance d s)) h.0 (all_unaltered k ds (advance d s) h.1)

pub exactly_one_fate : (w : World) (ds : List Deed) (k : ℕ) → in_range w.device ≡ true → is_unaltered ds ≡ true
    → 0 < times k (still (opening w) ++ beginnings ds (opening w))
    → times_fated k (endings ds (opening w)) + times k (still (run advance ds (opening w))) ≡ 1
exactly_one_fate w ds k r u h =
    omega (arith, exactly_one w ds k r h, all_unaltered k ds (opening w) (all_fated ds (opening w) r u))
