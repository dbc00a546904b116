-- Demand 2 of frames over the calls on the areas that a host lends, whatever it lends: the deeds are what the calls do, and what is shown of deeds
-- holds of them. Runs of turns among the calls are their turns. Assumes nothing.
use mathlib.Core.Path.{◌≡◌, refl, sym, ap, ap₂, ◌∙◌, subst}
use mathlib.Core.Bool.{Bool, true, false, ◌&&◌, false≢true}
use mathlib.Core.List.{List, [], ◌∷◌, ◌++◌}
use Prim.Native.Nat.{ℕ, zero, suc, ◌+◌, ◌<◌}
use native.Mathlib.Omega.{arith}
use lib.Dec.{eqb}
use borrow.Author.Tests.{eqb-true, eq-eqb}
use Rattle.memory.proofs.Bytes.{Bytes, bytes_nil}
use Rattle.device.specs.declared.Device.{Device}
use Rattle.image.specs.Found.{Found}
use Rattle.image.specs.Found as is
use Rattle.image.specs.Image.{decode_of, device_at}
use Rattle.image.specs.Ranges.{in_range}
use Rattle.chip.specs.Call.{Call, reset, attention, arrive, turn}
use Rattle.chip.specs.World.{World}
use Rattle.calls.specs.Calls.{Areas, Called, turn_call, run_call}
use Rattle.progress.specs.Trace.{run}
use Rattle.traces.specs.Areas.{FrameBytes, AreBytes, Holds, world_in, Shows}
use Rattle.traces.specs.Bytes.{called, is_refused}
use Rattle.traces.specs.Driven.{Lending, lending, refused_at, left_by, left, host_of, Drive, calls, runs, taken_in, ran_by, left_driven, turns_from, unrolled}
use Rattle.traces.specs.Event.{call, step}
use Rattle.traces.specs.Told.{Said}
use Rattle.closure.specs.Carried.{Carried}
use Rattle.closure.specs.Refusals.{TakesAll}
use Rattle.closure.specs.Turns.{turns_on}
use Rattle.closure.proofs.Refusals.{holds_of, foreign_holds, refused_whole}
use Rattle.closure.proofs.Carried.{carry, carry_reset, not_refused, lent_kept, holds_decoded, holds_back}
use Rattle.closure.proofs.Turns.{run_accepted, run_is_turns, taken_accepted, turn_again}
use Rattle.frames.specs.Fates.{Deed, event, alter, opening, world_after, names_of, times, times_fated, times_altered, is_unaltered, AllProper, AllFates}
use Rattle.frames.specs.OnBytes.{same, altered_to, altered_by, altered_unless, altering, deeds_by, deeds_of, Given, AllGiven, AllGivenDrive, KeepsRecord}
use Rattle.frames.specs.OnBytes.{AllKept, AllSaidOf, world_at, held_of, ended_of, still_of}
use Rattle.frames.proofs.Fates as fates

-- ---- the test of two records

same_cons : (b : Bool) (x y : ℕ) (xs ys : List ℕ) → eqb x y ≡ b → (same xs ys ≡ true → xs ≡ ys) → b && same xs ys ≡ true → x ∷ xs ≡ y ∷ ys
same_cons true x y xs ys e f h = ap₂ (λ (z : ℕ) (zs : List ℕ). z ∷ zs) (eqb-true x y e) (f h)
same_cons false x y xs ys e f h = absurd (false≢true h)

pub same_equal : (xs ys : List ℕ) → same xs ys ≡ true → xs ≡ ys
same_equal [] [] h = refl
same_equal [] (y ∷ ys) h = absurd (false≢true h)
same_equal (x ∷ xs) [] h = absurd (false≢true h)
same_equal (x ∷ xs) (y ∷ ys) h = same_cons (eqb x y) x y xs ys refl (same_equal xs ys) h

same_self : (xs : List ℕ) → same xs xs ≡ true
same_self [] = refl
same_self (x ∷ xs) = ap₂ (λ (b c : Bool). b && c) (eq-eqb x x refl) (same_self xs)

pub equal_same : (xs ys : List ℕ) → xs ≡ ys → same xs ys ≡ true
equal_same xs ys e = subst (λ (zs : List ℕ). same xs zs ≡ true) e (same_self xs)

-- ---- the host's altering of the record

-- the record lent is the one that stands: it is not altered
pub not_altered : (l : Lending) (a : Areas) → l.lent.kept ≡ a.kept → altering l a ≡ []
not_altered l a e = ap (λ (b : Bool). altered_unless b l.lent.kept) (equal_same l.lent.kept a.kept e)

-- it is another: it is altered to the state that the one lent holds
abbrev Altered : Device → List Deed → Type 0
Altered d ds = (r : in_range d ≡ true) × (ds ≡ alter d r ∷ [])

altered_to_lem : (d : Device) (b : Bool) (e : in_range d ≡ b) → in_range d ≡ true → Altered d (altered_to d b e)
altered_to_lem d true e r = (e, refl)
altered_to_lem d false e r = absurd (false≢true (sym e ∙ r))

altered_by_lem : (b : Bool) (l : Lending) (a : Areas) (d : Device) → same l.lent.kept a.kept ≡ b → Holds l.lent.kept d
    → (l.lent.kept ≡ a.kept → ⊥)
    → Altered d (altered_unless b l.lent.kept)
altered_by_lem true l a d e h n = absurd (n (same_equal l.lent.kept a.kept e))
altered_by_lem false l a d e h n =
    subst (λ (x : Found). Altered d (altered_by x l.lent.kept)) (sym (holds_decoded l.lent.kept d h))
    (subst (λ (x : Device). Altered d (altered_to x (in_range x) refl)) (sym (holds_back l.lent.kept d h)) (altered_to_lem d (in_range d) refl h.range))

pub altered : (l : Lending) (a : Areas) (d : Device) → Holds l.lent.kept d → (l.lent.kept ≡ a.kept → ⊥)
    → (r : in_range d ≡ true) × (altering l a ≡ alter d r ∷ [])
altered l a d h n = altered_by_lem (same l.lent.kept a.kept) l a d refl h n

-- ---- a call that is not refused, in the world after the deeds before it

-- the record lent holds the state in which the call comes; reset ignores it
holds_altered : (d : Device) (b : Bool) (e : in_range d ≡ b) (r : List ℕ) (w : World) → Holds r d → Holds r (run world_after (altered_to d b e) w).device
holds_altered d true e r w h = h
holds_altered d false e r w h = absurd (false≢true (sym e ∙ h.range))

takes_foreign : (c : Call) (a : Areas) (d : Device) → Bytes a.kept → is_refused (called c a) ≡ false → decode_of a.kept ≡ is.Foreign
    → TakesAll c (Holds a.kept d)
takes_foreign reset a d b e f = tt
takes_foreign attention a d b e f = absurd (foreign_holds a.kept f (not_refused attention a b e).image)
takes_foreign (arrive x v) a d b e f = absurd (foreign_holds a.kept f (not_refused (arrive x v) a b e).image)
takes_foreign (turn report) a d b e f = absurd (foreign_holds a.kept f (not_refused (turn report) a b e).image)

takes_held : (c : Call) (P : Type 0) → P → TakesAll c P
takes_held reset P p = tt
takes_held attention P p = p
takes_held (arrive f v) P p = p
takes_held (turn report) P p = p

takes_found : (c : Call) (a : Areas) (x : Found) (w : World) → Bytes a.kept → is_refused (called c a) ≡ false → decode_of a.kept ≡ x
    → TakesAll c (Holds a.kept (run world_after (altered_by x a.kept) w).device)
takes_found c a (is.Units u) w b e f =
    let d = device_at a.kept u in
    takes_held c _ (holds_altered d (in_range d) refl a.kept w (holds_of a.kept b u f))
takes_found c a is.Foreign w b e f = takes_foreign c a w.device b e f

takes_by : (s : Bool) (l : Lending) (a : Areas) (w : World) → same l.lent.kept a.kept ≡ s → Bytes l.lent.kept → refused_at l ≡ false
    → Holds a.kept w.device
    → TakesAll l.made (Holds l.lent.kept (run world_after (altered_unless s l.lent.kept) w).device)
takes_by true l a w s b e h =
    takes_held l.made _ (subst (λ (r : List ℕ). Holds r w.device) (sym (same_equal l.lent.kept a.kept s)) h)
takes_by false l a w s b e h = takes_found l.made l.lent (decode_of l.lent.kept) w b e refl

carried_by : (c : Call) (a : Areas) (d : Device) → FrameBytes c → AreBytes a → TakesAll c (Holds a.kept d) → is_refused (called c a) ≡ false
    → Carried c d a
carried_by reset a d f b h e = carry_reset a d b e
carried_by attention a d f b h e = carry attention a d f b h e
carried_by (arrive x v) a d f b h e = carry (arrive x v) a d f b h e
carried_by (turn report) a d f b h e = carry (turn report) a d f b h e

-- what such a call leaves shows the world after it
carried_shows : (c : Call) (a : Areas) (d : Device) → Carried c d a → Shows (called c a).areas (step (call c) (world_in d a))
carried_shows c a d k =
    record {
      memory = ap (λ (r : Called). r.areas.memory) k.same;
      holding = ap (λ (r : Called). r.areas.holding) k.same;
      outgoing = ap (λ (r : Called). r.areas.outgoing) k.same;
      kept = k.holds;
    }

-- ---- over time

pub run_append : {S E : Type 0} (f : E → S → S) (xs ys : List E) (s : S) → run f (xs ++ ys) s ≡ run f ys (run f xs s)
run_append f [] ys s = refl
run_append f (x ∷ xs) ys s = run_append f xs ys (f x s)

-- at each call all is as said, and what stands shows the world
abbrev Along : List Lending → Areas → World → Type 0
Along ls a w = AllSaidOf ls a w × Shows (run left ls a) (run world_after (deeds_of ls a) w)

along_by : (x : Bool) (l : Lending) (ls : List Lending) (a : Areas) (w : World) → refused_at l ≡ x → Given l → Shows a w
    → ((b : Areas) (v : World) → Shows b v → Along ls b v)
    → (Said x l (run world_after (altering l a) w) × AllSaidOf ls (left_by x l a) (run world_after (deeds_by x l a) w))
    × Shows (run left ls (left_by x l a)) (run world_after (deeds_by x l a ++ deeds_of ls (left_by x l a)) w)
along_by true l ls a w e g s f =
    let rest = f a w s in
    ((refused_whole l.made l.lent e, rest.0), rest.1)
along_by false l ls a w e g s f =
    let b = g e in
    let v : World = run world_after (altering l a) w in
    let deeds : List Deed = event (host_of l.lent) ∷ event (call l.made) ∷ [] in
    let h = takes_by (same l.lent.kept a.kept) l a w refl b.1.kept e s.kept in
    let k : Carried l.made v.device l.lent = carried_by l.made l.lent v.device b.0 b.1 h e in
    let after = (called l.made l.lent).areas in
    let u : World = step (call l.made) (step (host_of l.lent) v) in
    let same_world : run world_after (altering l a ++ deeds) w ≡ u = run_append world_after (altering l a) deeds w in
    let rest = f after u (carried_shows l.made l.lent v.device k) in (
      (k.same, subst (λ (z : World). AllSaidOf ls after z) (sym same_world) rest.0),
      subst (λ (z : World). Shows (run left ls after) z)
          (sym (run_append world_after (altering l a ++ deeds) (deeds_of ls after) w ∙ ap (run world_after (deeds_of ls after)) same_world))
          rest.1,
    )

along : (ls : List Lending) (a : Areas) (w : World) → AllGiven ls → Shows a w → Along ls a w
along [] a w g s = (tt, s)
along (l ∷ ls) a w g s = along_by (refused_at l) l ls a w refl g.0 s (λ b v t. along ls b v g.1 t)

-- the deeds are what the calls do: every answer and every lent byte is as said, and what stands at the end shows the world at the end
pub all_said : (ls : List Lending) (a : Areas) (d : Device) → Holds a.kept d → AllGiven ls
    → AllSaidOf ls a (world_in d a) × Shows (run left ls a) (world_at ls a d)
all_said ls a d h g = along ls a (world_in d a) g (record { memory = refl; holding = refl; outgoing = refl; kept = h })

-- ---- frames

pub exactly_one : (ls : List Lending) (a : Areas) (d : Device) (k : ℕ) → Holds a.kept d → 0 < times k (held_of ls a d)
    → times_fated k (ended_of ls a d) + times_altered k (ended_of ls a d) + times k (still_of ls a d) ≡ 1
exactly_one ls a d k h = fates.exactly_one (world_in d a) (deeds_of ls a) k h.range

pub no_other : (ls : List Lending) (a : Areas) (d : Device) (k : ℕ) → Holds a.kept d → times k (held_of ls a d) ≡ 0
    → times_fated k (ended_of ls a d) + times_altered k (ended_of ls a d) + times k (still_of ls a d) ≡ 0
no_other ls a d k h = fates.no_other (world_in d a) (deeds_of ls a) k h.range

pub conserved : (ls : List Lending) (a : Areas) (d : Device) → Holds a.kept d → names_of (ended_of ls a d) ++ still_of ls a d ≡ held_of ls a d
conserved ls a d h = fates.conserved (deeds_of ls a) (opening (world_in d a)) h.range

pub all_fates : (ls : List Lending) (a : Areas) (d : Device) → Holds a.kept d → AllFates (deeds_of ls a) (world_in d a)
all_fates ls a d h = fates.all_fates (deeds_of ls a) (world_in d a) h.range

-- each end is by a held frame's fate, one of loss exactly if the call aborts or resets, or the host lent another record than the one left
pub all_proper : (ls : List Lending) (a : Areas) (d : Device) → Holds a.kept d → AllProper (Unit {0}) (deeds_of ls a) (opening (world_in d a))
all_proper ls a d h = fates.all_proper (deeds_of ls a) (opening (world_in d a)) h.range

-- if it lends every record as it was left, it alters none, and every end is by a fate
unaltered_by : (x : Bool) (l : Lending) (ls : List Lending) (a : Areas) → refused_at l ≡ x → KeepsRecord l a
    → is_unaltered (deeds_of ls (left_by x l a)) ≡ true
    → is_unaltered (deeds_by x l a ++ deeds_of ls (left_by x l a)) ≡ true
unaltered_by true l ls a e k h = h
unaltered_by false l ls a e k h = rw (not_altered l a (k e)) h

pub unaltered : (ls : List Lending) (a : Areas) → AllKept ls a → is_unaltered (deeds_of ls a) ≡ true
unaltered [] a k = refl
unaltered (l ∷ ls) a k = unaltered_by (refused_at l) l ls a refl k.0 (unaltered ls (left l a) k.1)

pub all_fated : (ls : List Lending) (a : Areas) (d : Device) → Holds a.kept d → AllKept ls a → AllProper ⊥ (deeds_of ls a) (opening (world_in d a))
all_fated ls a d h k = fates.all_fated (deeds_of ls a) (opening (world_in d a)) h.range (unaltered ls a k)

pub exactly_one_fate : (ls : List Lending) (a : Areas) (d : Device) (k : ℕ) → Holds a.kept d → AllKept ls a → 0 < times k (held_of ls a d)
    → times_fated k (ended_of ls a d) + times k (still_of ls a d) ≡ 1
exactly_one_fate ls a d k h u = fates.exactly_one_fate (world_in d a) (deeds_of ls a) k h.range (unaltered ls a u)

-- ---- runs of turns among the calls

turns_given : (k report : ℕ) (a : Areas) (ls : List Lending) → AreBytes a → AllGiven ls → AllGiven (turns_from k a report ++ ls)
turns_given zero report a ls b g = g
turns_given (suc k) report a ls b g =
    (λ e. (bytes_nil, b), turns_given k report (turn_call a report).areas ls (lent_kept (turn report) a bytes_nil b) g)

run_given : (k : ℕ) (lent : Areas) (report : ℕ) (ls : List Lending) → (0 < k → AreBytes lent) → AllGiven ls → AllGiven (turns_from k lent report ++ ls)
run_given zero lent report ls b g = g
run_given (suc k) lent report ls b g = turns_given (suc k) report lent ls (b (omega arith)) g

all_given : (ds : List Drive) → AllGivenDrive ds → AllGiven (unrolled ds)
all_given [] g = tt
all_given (calls l ∷ ds) g = (g.0, all_given ds g.1)
all_given (runs lent report budget ∷ ds) g = run_given (taken_in lent report budget) lent report (unrolled ds) g.0 (all_given ds g.1)

-- turns that are not refused, the first lent anything, each other what the one before left
turn_left : (report : ℕ) (x a : Areas) (ls : List Lending) → is_refused (turn_call x report) ≡ false
    → run left (lending (turn report) x ∷ ls) a ≡ run left ls (turn_call x report).areas
turn_left report x a ls e = ap (λ (b : Bool). run left ls (left_by b (lending (turn report) x) a)) e

turns_left : (k report : ℕ) (a : Areas) (ls : List Lending) → AreBytes a → is_refused (turn_call a report) ≡ false
    → run left (turns_from k a report ++ ls) a ≡ run left ls (turns_on k a report)
turns_left zero report a ls b e = refl
turns_left (suc k) report a ls b e =
    turn_left report a a (turns_from k (turn_call a report).areas report ++ ls) e
    ∙ turns_left k report (turn_call a report).areas ls (lent_kept (turn report) a bytes_nil b) (turn_again a report b e)

run_left : (k : ℕ) (lent : Areas) (report budget : ℕ) (a : Areas) (ls : List Lending) → taken_in lent report budget ≡ k → (0 < k → AreBytes lent)
    → run left (turns_from k lent report ++ ls) a ≡ run left ls (ran_by k a (run_call lent report budget).areas)
run_left zero lent report budget a ls t b = refl
run_left (suc k) lent report budget a ls t b =
    let l : AreBytes lent = b (omega arith) in
    let e = taken_accepted lent report budget k t in
    let same : (run_call lent report budget).areas ≡ turns_on (suc k) lent report =
    (run_is_turns lent report budget l (run_accepted lent report budget e)).areas ∙ ap (λ (j : ℕ). turns_on j lent report) t in
    turn_left report lent a (turns_from k (turn_call lent report).areas report ++ ls) e
    ∙ turns_left k report (turn_call lent report).areas ls (lent_kept (turn report) lent bytes_nil l) (turn_again lent report l e)
    ∙ ap (run left ls) (sym same)

pub unrolled_left : (ds : List Drive) (a : Areas) → AllGivenDrive ds → run left (unrolled ds) a ≡ run left_driven ds a
unrolled_left [] a g = refl
unrolled_left (calls l ∷ ds) a g = unrolled_left ds (left l a) g.1
unrolled_left (runs lent report budget ∷ ds) a g =
    run_left (taken_in lent report budget) lent report budget a (unrolled ds) refl g.0
    ∙ unrolled_left ds (left_driven (runs lent report budget) a) g.1

-- the deeds of the unrolled calls are what the drives do, and what stands after the drives shows the world at their end
pub runs_said : (ds : List Drive) (a : Areas) (d : Device) → Holds a.kept d → AllGivenDrive ds
    → AllSaidOf (unrolled ds) a (world_in d a) × Shows (run left_driven ds a) (world_at (unrolled ds) a d)
runs_said ds a d h g =
    let x = all_said (unrolled ds) a d h (all_given ds g) in
    (x.0, subst (λ (b : Areas). Shows b (world_at (unrolled ds) a d)) (unrolled_left ds a g) x.1)
