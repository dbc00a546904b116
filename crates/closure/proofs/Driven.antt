-- What is asked of a host's calls on the areas that it lends, beside the same on states: the areas show the state all along, the events may occur, and
-- as many turns count. And runs of turns among the calls are their turns. Assumes nothing.
use mathlib.Core.Path.{◌≡◌, refl, sym, ap, ◌∙◌, subst}
use mathlib.Core.Bool.{Bool, true, false, not, ◌&&◌}
use mathlib.Core.List.{List, [], ◌∷◌, ◌++◌}
use Prim.Native.Nat.{ℕ, zero, suc, ◌+◌, ◌<◌}
use native.Mathlib.Nat.{zero-add}
use native.Mathlib.Omega.{arith}
use Rattle.memory.proofs.Bytes.{bytes_nil}
use Rattle.device.specs.declared.Device.{Device}
use Rattle.image.specs.Image.{device_at}
use Rattle.image.specs.Found.{Found}
use Rattle.chip.specs.Call.{turn}
use Rattle.chip.specs.World.{World}
use Rattle.calls.specs.Calls.{Areas, turn_call, run_call}
use Rattle.progress.specs.Trace.{run, AllMay, bit, turns}
use Rattle.traces.specs.Bytes.{called, is_refused}
use Rattle.traces.specs.Event.{Event, call, step, is_turn}
use Rattle.traces.specs.Areas.{AreBytes, Holds, units_by, device_in, world_in, world_said, Shows}
use Rattle.traces.specs.Driven.{Lending, lending, refused_at, left_by, left, is_taken, host_of, events_by, events_of, Drive, calls, runs, taken_in, ran_by, left_driven}
use Rattle.traces.specs.Driven.{turns_driven, turns_from, unrolled, Lends, Fair, AllFair, AllFairDrive}
use Rattle.closure.specs.Turns.{turns_on}
use Rattle.closure.proofs.Carried.{holds_decoded, holds_back, lent_kept, shows_world, carry_shown}
use Rattle.closure.proofs.Turns.{run_accepted, run_is_turns, taken_accepted, turn_again}

-- ---- the state that a record holds is the one that it says

pub holds_said : (r : List ℕ) (d : Device) → Holds r d → device_in r ≡ d
holds_said r d h = ap (λ (x : Found). device_at r (units_by x)) (holds_decoded r d h) ∙ holds_back r d h

pub shows_said : (a : Areas) (w : World) → Shows a w → world_said a ≡ w
shows_said a w s = ap (λ (d : Device). world_in d a) (holds_said a.kept w.device s.kept) ∙ shows_world a w s

-- ---- turns that are not refused

turns_by : (x : Bool) (l : Lending) (ls : List Lending) → turns is_turn (events_of ls) ≡ turns is_taken ls
    → turns is_turn (events_by x l (events_of ls)) ≡ bit (not x && is_turn (call l.made)) + turns is_taken ls
turns_by true l ls e = e ∙ sym (zero-add (turns is_taken ls))
turns_by false l ls e = zero-add _ ∙ ap (λ (n : ℕ). bit (is_turn (call l.made)) + n) e

pub turns_same : (ls : List Lending) → turns is_turn (events_of ls) ≡ turns is_taken ls
turns_same [] = refl
turns_same (l ∷ ls) = turns_by (refused_at l) l ls (turns_same ls)

module _ (May : Event → World → Type 0) where
  -- ---- the areas show the state, and the events may occur, all along

  -- what is lent shows the state with what the host left
  pub lent_shows : (l : Lending) (a : Areas) (w : World) → Lends May l a → Shows a w → Shows l.lent (step (host_of l.lent) w)
  lent_shows l a w k s =
      record { memory = refl; holding = refl; outgoing = refl; kept = subst (λ (r : List ℕ). Holds r w.device) (sym k.kept) s.kept }

  pub next_shows : (l : Lending) (a : Areas) (w : World) → refused_at l ≡ false → Lends May l a → Shows a w
      → Shows (called l.made l.lent).areas (step (call l.made) (step (host_of l.lent) w))
  next_shows l a w e k s = (carry_shown l.made l.lent (step (host_of l.lent) w) k.frame k.bytes (lent_shows l a w k s) e).0

  abbrev Along : Areas → World → List Event → World → Type 0
  Along b v es w = Shows b v × AllMay May step es w

  along_by : (x : Bool) (l : Lending) (ls : List Lending) (a : Areas) (w : World) → refused_at l ≡ x → Fair May l a → Shows a w
      → AllFair May ls (left_by x l a)
      → ((b : Areas) (v : World) → AllFair May ls b → Shows b v → Along (run left ls b) (run step (events_of ls) v) (events_of ls) v)
      → Along (run left ls (left_by x l a)) (run step (events_by x l (events_of ls)) w) (events_by x l (events_of ls)) w
  along_by true l ls a w e k s m f = f a w m s
  along_by false l ls a w e k s m f =
      let h = k e in
      let v : World = step (host_of l.lent) w in
      let rest = f (called l.made l.lent).areas (step (call l.made) v) m (next_shows l a w e h s) in (
        rest.0,
        (
          subst (λ (x : World). May (host_of l.lent) x) (shows_said a w s) h.leaves,
          (subst (λ (x : World). May (call l.made) x) (shows_said l.lent v (lent_shows l a w h s)) h.may, rest.1),
        ),
      )

  pub fair_along : (ls : List Lending) (a : Areas) (w : World) → AllFair May ls a → Shows a w
      → Along (run left ls a) (run step (events_of ls) w) (events_of ls) w
  fair_along [] a w m s = (s, tt)
  fair_along (l ∷ ls) a w m s = along_by (refused_at l) l ls a w refl m.0 s m.1 (λ b v n t. fair_along ls b v n t)

  -- ---- runs of turns among the calls, where a turn may occur, and so may a host that leaves all as it stands

  pub record LetsTurns : Type 0 where
    pub still : (a : Areas) → May (host_of a) (world_said a)
    pub turns : (report : ℕ) (w : World) → May (call (turn report)) w

  -- what is shown of the calls that drives come to: they are fair, leave what the drives leave, and count as many turns
  pub record Spread (ls : List Lending) (a after : Areas) (n : ℕ) : Type 0 where
    pub fair : AllFair May ls a
    pub leaves : run left ls a ≡ after
    pub counts : turns is_taken ls ≡ n

  -- a turn that is not refused, before others
  turn_before : (report : ℕ) (x a : Areas) (ls : List Lending) (after : Areas) (n : ℕ) → is_refused (turn_call x report) ≡ false
      → Lends May (lending (turn report) x) a → Spread ls (turn_call x report).areas after n
      → Spread (lending (turn report) x ∷ ls) a after (suc n)
  turn_before report x a ls after n e p s =
      record { fair = (λ z. p, rw e s.fair); leaves = rw e s.leaves; counts = rw e (omega (arith, s.counts)) }

  module _ (T : LetsTurns) where
    -- turns in a row
    turns_before : (k : ℕ) (report : ℕ) (x : Areas) (ls : List Lending) (after : Areas) (n : ℕ) → AreBytes x
        → is_refused (turn_call x report) ≡ false → Spread ls (turns_on k x report) after n
        → Spread (turns_from k x report ++ ls) x after (k + n)
    turns_before zero report x ls after n l e s = record { fair = s.fair; leaves = s.leaves; counts = omega (arith, s.counts) }
    turns_before (suc k) report x ls after n l e s =
        let more : suc k + n ≡ suc (k + n) = omega arith in
        rw more
        (turn_before report x x (turns_from k (turn_call x report).areas report ++ ls) after (k + n) e
        (record { frame = bytes_nil; bytes = l; kept = refl; leaves = T.still x; may = T.turns report (world_said x) })
        (turns_before k report (turn_call x report).areas ls after n (lent_kept (turn report) x bytes_nil l) (turn_again x report l e) s))

    -- a run, before others
    run_by : (k : ℕ) (lent : Areas) (report budget : ℕ) (a : Areas) (ls : List Lending) (after : Areas) (n : ℕ) → taken_in lent report budget ≡ k
        → (0 < k → Lends May (lending (turn report) lent) a) → Spread ls (ran_by k a (run_call lent report budget).areas) after n
        → Spread (turns_from k lent report ++ ls) a after (k + n)
    run_by zero lent report budget a ls after n t p s = record { fair = s.fair; leaves = s.leaves; counts = omega (arith, s.counts) }
    run_by (suc k) lent report budget a ls after n t p s =
        let h = p (omega arith) in
        let l : AreBytes lent = h.bytes in
        let e = taken_accepted lent report budget k t in
        let same : (run_call lent report budget).areas ≡ turns_on (suc k) lent report =
        (run_is_turns lent report budget l (run_accepted lent report budget e)).areas ∙ ap (λ (j : ℕ). turns_on j lent report) t in
        let more : suc k + n ≡ suc (k + n) = omega arith in
        rw more
        (turn_before report lent a (turns_from k (turn_call lent report).areas report ++ ls) after (k + n) e h
        (turns_before k report (turn_call lent report).areas ls after n (lent_kept (turn report) lent bytes_nil l) (turn_again lent report l e)
        (subst (λ (x : Areas). Spread ls x after n) same s)))

    -- all of them: what stands after drives, and the turns that their answers say, are those of the calls
    pub spread : (ds : List Drive) (a : Areas) → AllFairDrive May ds a → Spread (unrolled ds) a (run left_driven ds a) (turns_driven ds)
    spread [] a p = record { fair = tt; leaves = refl; counts = refl }
    spread (calls l ∷ ds) a p =
        let s = spread ds (left l a) p.1 in
        record { fair = (p.0, s.fair); leaves = s.leaves; counts = ap (λ (n : ℕ). bit (is_taken l) + n) s.counts }
    spread (runs lent report budget ∷ ds) a p =
        run_by (taken_in lent report budget) lent report budget a (unrolled ds) (run left_driven ds (left_driven (runs lent report budget) a)) (turns_driven ds) refl
        p.0 (spread ds (left_driven (runs lent report budget) a) p.1)
