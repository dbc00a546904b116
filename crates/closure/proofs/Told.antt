-- What the caller of a host's calls is told: every answer and every lent byte are the definitions', and so are the frames that were sent, in calls
-- and in runs of turns. Assumes nothing.
use mathlib.Core.Path.{◌≡◌, refl, sym, ap, ap₂, ◌∙◌, subst}
use mathlib.Core.Bool.{Bool, true, false}
use mathlib.Core.List.{List, [], ◌∷◌, ◌++◌, append-nil, append_assoc}
use Prim.Native.Nat.{ℕ, zero, suc, ◌+◌, ◌<◌}
use native.Mathlib.Omega.{arith}
use Rattle.std.specs.Prelude.{Option, Some, None}
use Rattle.scb.specs.Words.{bits_at, one}
use Rattle.device.specs.Answers.{answered}
use Rattle.device.specs.declared.Refusal.{Refusal}
use Rattle.image.specs.Image.{decode_of, device_at}
use Rattle.image.specs.Found.{Found}
use Rattle.image.specs.Found as is
use Rattle.chip.specs.World.{World, Ran, world_of, afterwards}
use Rattle.chip.specs.Turn.{turn_of}
use Rattle.chip.specs.Run.{stops_at, Run, continued, run_of}
use Rattle.chip.specs.Call.{ran}
use Rattle.calls.specs.Answer.{turns_taken, with_turns, without_turns}
use Rattle.calls.specs.Calls.{Areas, Called, refusal_of, refused_answer, refused, on_bytes, decoded_on, unless_refused, run_on_bytes, turn_call, run_call}
use Rattle.calls.proofs.Answer.{told, told_alone}
use Rattle.progress.specs.Trace.{run}
use Rattle.traces.specs.Bytes.{called, sent_length, edge}
use Rattle.traces.specs.Event.{Event, call, step}
use Rattle.traces.specs.Areas.{FrameBytes, AreBytes, Shows}
use Rattle.traces.specs.Driven.{Lending, refused_at, left_by, left, host_of, events_by, events_of, Drive, calls, runs, taken_in, left_driven, turns_from, unrolled, Fair, AllFair, AllFairDrive}
use Rattle.traces.specs.Told.{frame_of, frames_along, frame_told, frames_told, frames_driven, edges_along, edges_told, edges_driven, Said, AllSaid}
use Rattle.closure.specs.Turns.{turns_on, last_answer, sent, edged, AsTurns}
use Rattle.closure.proofs.Refusals.{untouched, refused_whole}
use Rattle.closure.proofs.Carried.{carry, answer_parts, shows_world}
use Rattle.closure.proofs.Turns.{run_is_turns, run_accepted, taken_accepted}
use Rattle.closure.proofs.Driven.{lent_shows, next_shows}

-- ---- a call on areas that show a world

pub said_shown : (l : Lending) (w : World) → AreBytes l.lent → Shows l.lent w → refused_at l ≡ false → FrameBytes l.made
    → called l.made l.lent ≡ on_bytes (ran l.made w)
said_shown l w b s e f =
    (carry l.made l.lent w.device f b s.kept e).same
    ∙ ap (λ (v : World). on_bytes (ran l.made v)) (shows_world l.lent w s)

-- the edge that its caller reads off is the definitions'
edge_shown : (l : Lending) (w : World) → AreBytes l.lent → Shows l.lent w → refused_at l ≡ false
    → edge (called l.made l.lent).answer ≡ one (ran l.made w).outcome.answer.edge
edge_shown l w b s e =
    (answer_parts l.made l.lent w.device b s.kept e).edge
    ∙ ap (λ (v : World). one (ran l.made v).outcome.answer.edge) (shows_world l.lent w s)

-- the frame that its caller reads off is the one that the definitions send
told_shown : (l : Lending) (w : World) → AreBytes l.lent → Shows l.lent w → refused_at l ≡ false → FrameBytes l.made
    → frame_told (called l.made l.lent) ≡ frame_of (ran l.made w).outcome.answer.length (ran l.made w).outgoing
told_shown l w b s e f =
    let p = answer_parts l.made l.lent w.device b s.kept e in
    let same = said_shown l w b s e f in
    ap₂ (λ (n : ℕ) (out : List ℕ). frame_of n out)
    (p.length ∙ ap (λ (v : World). (ran l.made v).outcome.answer.length) (shows_world l.lent w s))
    (ap (λ (r : Called). r.areas.outgoing) same)

-- a refused call tells of none
refused_none : (l : Lending) → refused_at l ≡ true → frame_told (called l.made l.lent) ≡ []
refused_none l e = ap (λ (n : ℕ). frame_of n (called l.made l.lent).areas.outgoing) (untouched l.made l.lent e).length

module _ (May : Event → World → Type 0) where
  -- ---- calls

  said_by : (x : Bool) (l : Lending) (ls : List Lending) (a : Areas) (w : World) → refused_at l ≡ x → Fair May l a → Shows a w
      → AllFair May ls (left_by x l a) → ((b : Areas) (v : World) → AllFair May ls b → Shows b v → AllSaid ls v)
      → Said x l w × AllSaid ls (run step (events_by x l []) w)
  said_by true l ls a w e k s m f = (refused_whole l.made l.lent e, f a w m s)
  said_by false l ls a w e k s m f =
      let h = k e in (
        said_shown l (step (host_of l.lent) w) h.bytes (lent_shows May l a w h s) e h.frame,
        f (called l.made l.lent).areas (step (call l.made) (step (host_of l.lent) w)) m (next_shows May l a w e h s),
      )

  -- where the areas show the world, every call that is not refused answers and leaves what the definitions do, and every other leaves all as lent
  pub fair_said : (ls : List Lending) (a : Areas) (w : World) → AllFair May ls a → Shows a w → AllSaid ls w
  fair_said [] a w m s = tt
  fair_said (l ∷ ls) a w m s = said_by (refused_at l) l ls a w refl m.0 s m.1 (fair_said ls)

  told_by_lem : (x : Bool) (l : Lending) (ls : List Lending) (a : Areas) (w : World) → refused_at l ≡ x → Fair May l a → Shows a w
      → AllFair May ls (left_by x l a)
      → ((b : Areas) (v : World) → AllFair May ls b → Shows b v → frames_told ls ≡ frames_along (events_of ls) v)
      → frame_told (called l.made l.lent) ++ frames_told ls ≡ frames_along (events_by x l (events_of ls)) w
  told_by_lem true l ls a w e k s m f = ap (λ (fs : List (List ℕ)). fs ++ frames_told ls) (refused_none l e) ∙ f a w m s
  told_by_lem false l ls a w e k s m f =
      let h = k e in
      let v : World = step (host_of l.lent) w in
      ap₂ (λ (fs gs : List (List ℕ)). fs ++ gs) (told_shown l v h.bytes (lent_shows May l a w h s) e h.frame)
      (f (called l.made l.lent).areas (step (call l.made) v) m (next_shows May l a w e h s))

  -- and the frames that the caller reads off the answers are those that the definitions send
  pub told_along : (ls : List Lending) (a : Areas) (w : World) → AllFair May ls a → Shows a w → frames_told ls ≡ frames_along (events_of ls) w
  told_along [] a w m s = refl
  told_along (l ∷ ls) a w m s = told_by_lem (refused_at l) l ls a w refl m.0 s m.1 (told_along ls)

  -- edges, the same
  edges_by : (x : Bool) (l : Lending) (ls : List Lending) (a : Areas) (w : World) → refused_at l ≡ x → Fair May l a → Shows a w
      → AllFair May ls (left_by x l a)
      → ((b : Areas) (v : World) → AllFair May ls b → Shows b v → edges_told ls ≡ edges_along (events_of ls) v)
      → edge (called l.made l.lent).answer + edges_told ls ≡ edges_along (events_by x l (events_of ls)) w
  edges_by true l ls a w e k s m f =
      let z : edge (called l.made l.lent).answer ≡ 0 = (untouched l.made l.lent e).edge in
      let rest : edges_told ls ≡ edges_along (events_of ls) w = f a w m s in
      omega (arith, z, rest)
  edges_by false l ls a w e k s m f =
      let h = k e in
      let v : World = step (host_of l.lent) w in
      ap₂ (λ (x y : ℕ). x + y) (edge_shown l v h.bytes (lent_shows May l a w h s) e)
      (f (called l.made l.lent).areas (step (call l.made) v) m (next_shows May l a w e h s))

  pub edges_along_lem : (ls : List Lending) (a : Areas) (w : World) → AllFair May ls a → Shows a w → edges_told ls ≡ edges_along (events_of ls) w
  edges_along_lem [] a w m s = refl
  edges_along_lem (l ∷ ls) a w m s = edges_by (refused_at l) l ls a w refl m.0 s m.1 (edges_along_lem ls)

-- ---- runs of turns: a frame, or an edge, is told by the run's answer exactly if its last turn told it

-- length and edge stand below the turns
length_below : (n : ℕ) → sent_length (without_turns n) ≡ sent_length n
unfolding bits_at
length_below n = omega arith

edge_below : (n : ℕ) → edge (without_turns n) ≡ edge n
unfolding bits_at
edge_below n = omega arith

-- an answer that tells neither
abbrev Silent : ℕ → Type 0
Silent n = (sent_length n ≡ 0) × (edge n ≡ 0)

-- a run that took no turn tells neither
some_taken : (x t : ℕ) → 0 < t → turns_taken (with_turns x t) ≡ 0 → ⊥
some_taken x t l e = omega (arith, l, e)

takes_by : (s : Bool) (r : Ran) (rest : Run) → 0 < (continued s r rest).taken
takes_by true r rest = omega arith
takes_by false r rest = omega arith

idle_run : (n : ℕ) (w : World) (report : ℕ) → turns_taken (run_on_bytes (run_of n w report)).answer ≡ 0 → Silent (run_on_bytes (run_of n w report)).answer
unfolding run_of
idle_run zero w report e = let t = told (answered 0 false) 0 (omega arith) in (t.sent, t.edged)
idle_run (suc n) w report e =
    absurd (some_taken _ _ (takes_by (stops_at w report) (turn_of w report) (run_of n (afterwards (turn_of w report)) report)) e)

refused_silent : (r : Refusal) (a : Areas) → Silent (refused r a).answer
refused_silent r a = let t = told_alone (refused_answer r) (omega arith) in (t.sent, t.edged)

module _ (a : Areas) (report budget : ℕ) where
  idle_on : (x : Found) → turns_taken (decoded_on (λ w. run_on_bytes (run_of budget w report)) a x).answer ≡ 0
      → Silent (decoded_on (λ w. run_on_bytes (run_of budget w report)) a x).answer
  idle_on (is.Units u) e = idle_run budget (world_of (device_at a.kept u) a.memory a.holding a.outgoing) report e
  idle_on is.Foreign e = refused_silent _ a

  idle_by : (r : Option Refusal) → turns_taken (unless_refused r (λ w. run_on_bytes (run_of budget w report)) a).answer ≡ 0
      → Silent (unless_refused r (λ w. run_on_bytes (run_of budget w report)) a).answer
  idle_by None e = idle_on (decode_of a.kept) e
  idle_by (Some r) e = refused_silent r a

  idle_silent : taken_in a report budget ≡ 0 → Silent (run_call a report budget).answer
  unfolding run_call
  idle_silent e = idle_by (refusal_of a []) e

-- turns in a row of which none but the last sends
quiet_turn : (n : ℕ) (out : List ℕ) → ((n ≡ 0 → ⊥) → ⊥) → frame_of n out ≡ []
quiet_turn zero out h = refl
quiet_turn (suc n) out h = absurd (h (λ e. omega (arith, e)))

abbrev Quiet : Areas → ℕ → ℕ → Type 0
Quiet a report k = (j : ℕ) → suc j < suc k → (sent_length (turn_call (turns_on j a report) report).answer ≡ 0 → ⊥) → ⊥

last_told : (k : ℕ) (a : Areas) (report : ℕ) → Quiet a report k
    → frames_told (turns_from (suc k) a report) ≡ frame_told (turn_call (turns_on k a report) report)
last_told zero a report q = append-nil _
last_told (suc k) a report q =
    ap₂ (λ (fs gs : List (List ℕ)). fs ++ gs)
    (quiet_turn (sent_length (turn_call a report).answer) (turn_call a report).areas.outgoing (q 0 (omega arith)))
    (last_told k (turn_call a report).areas report (λ j l h. q (suc j) (omega (arith, l)) h))

-- the last turn comes after the others
turns_last : (k : ℕ) (a : Areas) (report : ℕ) → turns_on (suc k) a report ≡ (turn_call (turns_on k a report) report).areas
turns_last zero a report = refl
turns_last (suc k) a report = turns_last k (turn_call a report).areas report

-- the turns that a run took tell what it tells
run_told : (k : ℕ) (a : Areas) (report budget : ℕ) → taken_in a report budget ≡ k → (0 < k → AreBytes a)
    → frame_told (run_call a report budget) ≡ frames_told (turns_from k a report)
run_told zero a report budget t b = ap (λ (n : ℕ). frame_of n (run_call a report budget).areas.outgoing) (idle_silent a report budget t).0
run_told (suc k) a report budget t b =
    let s : AsTurns a report budget (run_call a report budget) =
    run_is_turns a report budget (b (omega arith)) (run_accepted a report budget (taken_accepted a report budget k t)) in
    let n : sent_length (run_call a report budget).answer ≡ sent_length (turn_call (turns_on k a report) report).answer =
    sym (length_below _) ∙ ap sent_length (s.answer ∙ ap (λ (j : ℕ). last_answer j a report) t) in
    let out : (run_call a report budget).areas.outgoing ≡ (turn_call (turns_on k a report) report).areas.outgoing =
    ap (λ (x : Areas). x.outgoing) (s.areas ∙ ap (λ (j : ℕ). turns_on j a report) t ∙ turns_last k a report) in
    ap₂ (λ (j : ℕ) (o : List ℕ). frame_of j o) n out
    ∙ sym (last_told k a report (λ j l h. s.going j (subst (λ (i : ℕ). suc j < i) (sym t) l) (sent h)))

told_append : (xs ys : List Lending) → frames_told (xs ++ ys) ≡ frames_told xs ++ frames_told ys
told_append [] ys = refl
told_append (x ∷ xs) ys =
    let first : List (List ℕ) = frame_told (called x.made x.lent) in
    ap (λ (fs : List (List ℕ)). first ++ fs) (told_append xs ys) ∙ sym (append_assoc first (frames_told xs) (frames_told ys))

-- all that drives tell is told by the calls that they come to
pub driven_told : (May : Event → World → Type 0) (ds : List Drive) (a : Areas) → AllFairDrive May ds a → frames_driven ds ≡ frames_told (unrolled ds)
driven_told May [] a p = refl
driven_told May (calls l ∷ ds) a p =
    ap (λ (fs : List (List ℕ)). frame_told (called l.made l.lent) ++ fs) (driven_told May ds (left l a) p.1)
driven_told May (runs lent report budget ∷ ds) a p =
    ap₂ (λ (fs gs : List (List ℕ)). fs ++ gs) (run_told (taken_in lent report budget) lent report budget refl (λ z. (p.0 z).bytes))
    (driven_told May ds (left_driven (runs lent report budget) a) p.1)
    ∙ sym (told_append (turns_from (taken_in lent report budget) lent report) (unrolled ds))

-- ---- edges, the same

no_edge : (x : ℕ) → x < 2 → (x ≡ 1 → ⊥) → x ≡ 0
no_edge zero l h = refl
no_edge (suc zero) l h = absurd (h refl)
no_edge (suc (suc x)) l h = absurd (omega (arith, l))

one_bit : (n : ℕ) → edge n < 2
unfolding bits_at
one_bit n = omega arith

abbrev Smooth : Areas → ℕ → ℕ → Type 0
Smooth a report k = (j : ℕ) → suc j < suc k → edge (turn_call (turns_on j a report) report).answer ≡ 1 → ⊥

last_edge : (k : ℕ) (a : Areas) (report : ℕ) → Smooth a report k
    → edges_told (turns_from (suc k) a report) ≡ edge (turn_call (turns_on k a report) report).answer
last_edge zero a report q = omega arith
last_edge (suc k) a report q =
    let z : edge (turn_call a report).answer ≡ 0 = no_edge _ (one_bit (turn_call a report).answer) (q 0 (omega arith)) in
    let rest = last_edge k (turn_call a report).areas report (λ j l h. q (suc j) (omega (arith, l)) h) in
    omega (arith, z, rest)

run_edge : (k : ℕ) (a : Areas) (report budget : ℕ) → taken_in a report budget ≡ k → (0 < k → AreBytes a)
    → edge (run_call a report budget).answer ≡ edges_told (turns_from k a report)
run_edge zero a report budget t b = (idle_silent a report budget t).1
run_edge (suc k) a report budget t b =
    let s : AsTurns a report budget (run_call a report budget) =
    run_is_turns a report budget (b (omega arith)) (run_accepted a report budget (taken_accepted a report budget k t)) in
    sym (edge_below _) ∙ ap edge (s.answer ∙ ap (λ (j : ℕ). last_answer j a report) t)
    ∙ sym (last_edge k a report (λ j l h. s.going j (subst (λ (i : ℕ). suc j < i) (sym t) l) (edged h)))

edges_append : (xs ys : List Lending) → edges_told (xs ++ ys) ≡ edges_told xs + edges_told ys
edges_append [] ys = omega arith
edges_append (x ∷ xs) ys =
    let rest = edges_append xs ys in
    omega (arith, rest)

pub driven_edges : (May : Event → World → Type 0) (ds : List Drive) (a : Areas) → AllFairDrive May ds a → edges_driven ds ≡ edges_told (unrolled ds)
driven_edges May [] a p = refl
driven_edges May (calls l ∷ ds) a p =
    ap (λ (n : ℕ). edge (called l.made l.lent).answer + n) (driven_edges May ds (left l a) p.1)
driven_edges May (runs lent report budget ∷ ds) a p =
    ap₂ (λ (x y : ℕ). x + y) (run_edge (taken_in lent report budget) lent report budget refl (λ z. (p.0 z).bytes))
    (driven_edges May ds (left_driven (runs lent report budget) a) p.1)
    ∙ sym (edges_append (turns_from (taken_in lent report budget) lent report) (unrolled ds))
