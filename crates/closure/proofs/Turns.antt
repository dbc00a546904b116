-- A run of turns is refused as a turn is; else it leaves what so many turns in a row leave, with the last one's answer, and how many is exactly
-- said. Assumes nothing.
use mathlib.Core.Path.{◌≡◌, refl, sym, ap, ◌∙◌, subst}
use mathlib.Core.Bool.{Bool, true, false, not, false≢true}
use mathlib.Core.List.{[]}
use mathlib.Core.Logic.{◌⊎◌, inl, inr, ⊎_elim}
use Prim.Native.Nat.{ℕ, zero, suc, ◌≤◌, ◌<◌}
use native.Mathlib.Omega.{arith}
use borrow.Author.Tests.{eq-eqb}
use lib.Dec.{eqb}
use Rattle.std.specs.Prelude.{Option, Some, None}
use Rattle.memory.specs.Size.{Allowed}
use Rattle.memory.proofs.Bytes.{Bytes, bytes_nil}
use Rattle.scb.specs.Words.{bits_at, one}
use Rattle.device.specs.Answers.{answered}
use Rattle.device.specs.Numbers.{refusal_or_0}
use Rattle.device.specs.declared.Device.{Device}
use Rattle.device.specs.declared.Refusal.{Refusal}
use Rattle.image.specs.Image.{image_of, decode_of, device_at}
use Rattle.image.specs.Found.{Found}
use Rattle.image.specs.Found as is
use Rattle.image.proofs.Exact.{one_state}
use Rattle.chip.specs.World.{World, Ran, world_of, afterwards}
use Rattle.chip.specs.Turn.{turn_of}
use Rattle.chip.specs.Run.{stops_at, Run, last_turn, one_more, continued, run_of}
use Rattle.chip.specs.Call.{turn}
use Rattle.chip.proofs.Moves.{unchanged_stops}
use Rattle.chip.proofs.Run.{Cause, going_quiet, sent_stops, edge_stops, stops_cause}
use Rattle.chip.proofs.Run as cause
use Rattle.calls.specs.Answer.{turns_taken, without_turns}
use Rattle.calls.specs.Calls.{Areas, areas_of, Called, answer_number, refusal_of, on_bytes, decoded_on, unless_refused, called_on, called_by, run_on_bytes, turn_call, run_call}
use Rattle.calls.proofs.Answer.{told, told_number, told_number_of_run}
use Rattle.traces.specs.Bytes.{number, is_refused}
use Rattle.traces.specs.Areas.{AreBytes, Holds, world_in, Shows}
use Rattle.closure.specs.Sound.{Sound}
use Rattle.closure.specs.Refusals.{Untouched}
use Rattle.closure.specs.Carried.{Parts}
use Rattle.closure.specs.Turns.{turns_on, last_answer, Ends, sent, edged, workless, AsTurns}
use Rattle.closure.proofs.Closed.{closed}
use Rattle.closure.proofs.Answers.{number_accepted, sent_most}
use Rattle.closure.proofs.Refusals.{table, AllRight, gives_none, untouched}
use Rattle.closure.proofs.Carried.{not_refused, same_by, lent_kept, areas_as_long, answer_parts, shows_world, carry_shown}

-- ---- what a run answers on states

number_by : (s : Bool) (r : Ran) (rest : Run) → r.outcome.answer.refusal ≡ None → rest.answer.refusal ≡ None
    → (continued s r rest).answer.refusal ≡ None
number_by true r rest a b = a
number_by false r rest a b = b

-- number 0
run_number : (n : ℕ) (w : World) (report : ℕ) → (run_of n w report).answer.refusal ≡ None
unfolding run_of
run_number zero w report = refl
run_number (suc n) w report =
    number_by (stops_at w report) (turn_of w report) (run_of n (afterwards (turn_of w report)) report) (number_accepted (turn report) w)
    (run_number n (afterwards (turn_of w report)) report)

length_by : (s : Bool) (r : Ran) (rest : Run) → r.outcome.answer.length ≤ 2048 → rest.answer.length ≤ 2048
    → (continued s r rest).answer.length ≤ 2048
length_by true r rest a b = a
length_by false r rest a b = b

-- no frame sent exceeds 2,048 bytes
run_length : (n : ℕ) (w : World) (report : ℕ) → Sound w → (run_of n w report).answer.length ≤ 2048
unfolding run_of
run_length zero w report s = omega arith
run_length (suc n) w report s =
    length_by (stops_at w report) (turn_of w report) (run_of n (afterwards (turn_of w report)) report) (sent_most (turn report) w s)
    (run_length n (afterwards (turn_of w report)) report (closed (turn report) w bytes_nil s))

-- ---- refusals: those of a turn

kept_number : (r : Run) → r.answer.refusal ≡ None → number (run_on_bytes r).answer ≡ 0
kept_number r e = told_number_of_run r.answer r.taken ∙ ap refusal_or_0 e

turned_number : (r : Ran) → r.outcome.answer.refusal ≡ None → number (on_bytes r).answer ≡ 0
turned_number r e = told_number r.outcome.answer ∙ ap refusal_or_0 e

-- a run and a turn, by what is refused and what is decoded
data Like (x y : Called) : Type 0 where
  both_refused : x ≡ y → Like x y
  both_taken : number x.answer ≡ 0 → number y.answer ≡ 0 → Like x y

module _ (a : Areas) (report budget : ℕ) where
  like_on : (x : Found) → Like (decoded_on (λ w. run_on_bytes (run_of budget w report)) a x) (called_on (λ w. turn_of w report) a x)
  like_on (is.Units u) =
      let w = world_of (device_at a.kept u) a.memory a.holding a.outgoing in
      both_taken (kept_number (run_of budget w report) (run_number budget w report)) (turned_number (turn_of w report) (number_accepted (turn report) w))
  like_on is.Foreign = both_refused refl

  like_by : (r : Option Refusal) → Like (unless_refused r (λ w. run_on_bytes (run_of budget w report)) a) (called_by r (λ w. turn_of w report) a)
  like_by None = like_on (decode_of a.kept)
  like_by (Some r) = both_refused refl

  like : Like (run_call a report budget) (turn_call a report)
  unfolding run_call turn_call
  like = like_by (refusal_of a [])

same_number : (x y : Called) → Like x y → number x.answer ≡ number y.answer
same_number x y (both_refused e) = ap (λ (c : Called). number c.answer) e
same_number x y (both_taken e f) = e ∙ sym f

-- a run gives the number that a turn gives, whatever the budget, so the table of refusals is a turn's
pub run_refusals : (a : Areas) (report budget : ℕ) → number (run_call a report budget).answer ≡ number (turn_call a report).answer
run_refusals a report budget = same_number _ _ (like a report budget)

refused_same : (x y : Called) → Like x y → is_refused y ≡ true → x ≡ y
refused_same x y (both_refused e) r = e
refused_same x y (both_taken e f) r = absurd (false≢true (sym (ap not (eq-eqb (number y.answer) 0 f)) ∙ r))

-- a refused run is a refused turn: the same answer, no turn taken, nothing changed
pub refused_run_lem : (a : Areas) (report budget : ℕ) → is_refused (turn_call a report) ≡ true → run_call a report budget ≡ turn_call a report
refused_run_lem a report budget r = refused_same _ _ (like a report budget) r

run_refused_as : (a : Areas) (report budget : ℕ) → is_refused (run_call a report budget) ≡ is_refused (turn_call a report)
run_refused_as a report budget = ap (λ (n : ℕ). not (eqb n 0)) (run_refusals a report budget)

pub run_untouched : (a : Areas) (report budget : ℕ) → is_refused (run_call a report budget) ≡ true → Untouched a (run_call a report budget)
run_untouched a report budget r =
    let t : is_refused (turn_call a report) ≡ true = sym (run_refused_as a report budget) ∙ r in
    rw (refused_run_lem a report budget t) (untouched (turn report) a t)

-- ---- a turn that is not refused, on the areas and on the world that they show

-- the areas that show a world
shown_areas : (a : Areas) (w : World) → Shows a w → areas_of w.memory w.holding w.outgoing (image_of w.device) ≡ a
shown_areas a w s = rw (← s.memory, ← s.holding, ← s.outgoing, ← s.kept.image)

shown_sound : (a : Areas) (w : World) → AreBytes a → Shows a w → Sound w
shown_sound a w l s =
    record {
      range = s.kept.range;
      wide = s.kept.wide;
      memory = subst Bytes s.memory l.memory;
      holding = subst Bytes s.holding l.holding;
      outgoing = subst Bytes s.outgoing l.outgoing;
    }

-- the next turn is not refused either
next_accepted : (a : Areas) (w : World) (report : ℕ) → AreBytes a → Shows a w → is_refused (turn_call a report) ≡ false
    → is_refused (turn_call (turn_call a report).areas report) ≡ false
next_accepted a w report l s e =
    let b = (turn_call a report).areas in
    let x = not_refused (turn report) a l.kept e in
    let long = areas_as_long (turn report) a bytes_nil l in
    let v = (carry_shown (turn report) a w bytes_nil l s e).0 in
    let z : AllRight (turn report) b =
    record {
      size = subst Allowed (sym long.memory) x.size;
      kept = long.kept ∙ x.kept;
      holding = long.holding ∙ x.holding;
      outgoing = long.outgoing ∙ x.outgoing;
      frame = x.frame;
      image = ((turn_of w report).outcome.device, v.kept);
    }
    in
    ap not (eq-eqb (number (turn_call b report).answer) 0
    ((table (turn report) b (lent_kept (turn report) a bytes_nil l).kept 0).1 (gives_none (turn report) b z)))

parts_shown : (a : Areas) (w : World) (report : ℕ) → AreBytes a → Shows a w → is_refused (turn_call a report) ≡ false
    → Parts (turn_call a report).answer (turn_of w report).outcome.answer
parts_shown a w report l s e =
    subst (λ (v : World). Parts (turn_call a report).answer (turn_of v report).outcome.answer) (shows_world a w s)
    (answer_parts (turn report) a w.device l s.kept e)

-- ---- what the host sees of the turn that ends a run is why it ends

one_true : (b : Bool) → one b ≡ 1 → b ≡ true
one_true true e = refl
one_true false e = absurd (omega arith)

cause_ends : (a : Areas) (w : World) (report : ℕ) → AreBytes a → Shows a w → is_refused (turn_call a report) ≡ false → Cause w (turn_of w report)
    → Ends a report
cause_ends a w report l s e (cause.sent n) = sent (λ z. n (sym (parts_shown a w report l s e).length ∙ z))
cause_ends a w report l s e (cause.edge t) = edged ((parts_shown a w report l s e).edge ∙ ap one t)
cause_ends a w report l s e (cause.workless d) =
    workless ((carry_shown (turn report) a w bytes_nil l s e).0.kept.image ∙ ap image_of d ∙ sym s.kept.image)

ends_stops : (a : Areas) (w : World) (report : ℕ) → AreBytes a → Shows a w → is_refused (turn_call a report) ≡ false → Ends a report
    → stops_at w report ≡ true
ends_stops a w report l s e (sent n) = sent_stops w report (λ z. n ((parts_shown a w report l s e).length ∙ z))
ends_stops a w report l s e (edged t) = edge_stops w report (one_true _ (sym (parts_shown a w report l s e).edge ∙ t))
ends_stops a w report l s e (workless k) =
    let v = (carry_shown (turn report) a w bytes_nil l s e).0.kept in
    unchanged_stops w report
    (one_state (turn_of w report).outcome.device w.device v.wide v.range s.kept.wide s.kept.range
    (sym v.image ∙ k ∙ s.kept.image))

-- ---- a run, by its budget

-- what a run on the world comes to, beside the turns on the areas
record Took (n : ℕ) (a : Areas) (report : ℕ) (r : Run) : Type 0 where
  areas : (run_on_bytes r).areas ≡ turns_on r.taken a report
  answer : answer_number r.answer ≡ last_answer r.taken a report
  most : r.taken ≤ n
  going : (j : ℕ) → suc j < r.taken → Ends (turns_on j a report) report → ⊥
  ended : (r.taken ≡ n) ⊎ ((j : ℕ) × (r.taken ≡ suc j) × Ends (turns_on j a report) report)

answer_number_quiet : answer_number (answered 0 false) ≡ 0
unfolding answer_number
answer_number_quiet = refl

-- a turn before a run
module _ (n : ℕ) (a : Areas) (w : World) (report : ℕ) (l : AreBytes a) (s : Shows a w) (e : is_refused (turn_call a report) ≡ false) where
  last_by : (k p : ℕ) → stops_at w report ≡ false → p ≡ last_answer k (turn_call a report).areas report → p ≡ last_answer (suc k) a report
  last_by zero p g q =
      q ∙ sym ((carry_shown (turn report) a w bytes_nil l s e).1 ∙ ap answer_number (going_quiet w report g) ∙ answer_number_quiet)
  last_by (suc k) p g q = q

  going_by : (r : Run) → stops_at w report ≡ false → ((j : ℕ) → suc j < r.taken → Ends (turns_on j (turn_call a report).areas report) report → ⊥)
      → (j : ℕ) → suc j < suc r.taken → Ends (turns_on j a report) report → ⊥
  going_by r g h zero b x = false≢true (sym g ∙ ends_stops a w report l s e x)
  going_by r g h (suc j) b x = h j (omega arith) x

  took_more : stops_at w report ≡ false → Took n (turn_call a report).areas report (run_of n (afterwards (turn_of w report)) report)
      → Took (suc n) a report (one_more (run_of n (afterwards (turn_of w report)) report))
  took_more g t =
      let r = run_of n (afterwards (turn_of w report)) report in
      record {
        areas = t.areas;
        answer = last_by r.taken (answer_number r.answer) g t.answer;
        most = omega (arith, t.most);
        going = going_by r g t.going;
        ended = ⊎_elim (λ (x : r.taken ≡ n). inl (ap suc x))
            (λ (x : (j : ℕ) × (r.taken ≡ suc j) × Ends (turns_on j (turn_call a report).areas report) report). inr (suc x.0, ap suc x.1, x.2)) t.ended;
      }

  took_last : stops_at w report ≡ true → Took (suc n) a report (last_turn (turn_of w report))
  took_last g =
      let v = carry_shown (turn report) a w bytes_nil l s e in
      record {
        areas = shown_areas (turn_call a report).areas (afterwards (turn_of w report)) v.0;
        answer = sym v.1;
        most = omega arith;
        going = λ j b x. omega (arith, b);
        ended = inr (0, refl, cause_ends a w report l s e (stops_cause w report g));
      }

  took_by_lem : (x : Bool) → stops_at w report ≡ x → Took n (turn_call a report).areas report (run_of n (afterwards (turn_of w report)) report)
      → Took (suc n) a report (continued x (turn_of w report) (run_of n (afterwards (turn_of w report)) report))
  took_by_lem true g t = took_last g
  took_by_lem false g t = took_more g t

took : (n : ℕ) (a : Areas) (w : World) (report : ℕ) → AreBytes a → Shows a w → is_refused (turn_call a report) ≡ false
    → Took n a report (run_of n w report)
unfolding run_of
took zero a w report l s e =
    record {
      areas = shown_areas a w s;
      answer = answer_number_quiet;
      most = omega arith;
      going = λ j b x. omega (arith, b);
      ended = inl refl;
    }
took (suc n) a w report l s e =
    took_by_lem n a w report l s e (stops_at w report) refl
    (took n (turn_call a report).areas (afterwards (turn_of w report)) report (lent_kept (turn report) a bytes_nil l)
    (carry_shown (turn report) a w bytes_nil l s e).0 (next_accepted a w report l s e))

-- ---- a run on the areas

run_same : (a : Areas) (d : Device) (report budget : ℕ) → Holds a.kept d → AllRight (turn report) a
    → run_call a report budget ≡ run_on_bytes (run_of budget (world_in d a) report)
unfolding run_call
run_same a d report budget h r = same_by (turn report) a (λ w. run_on_bytes (run_of budget w report)) d h r

as_turns : (a : Areas) (report budget : ℕ) (r : Run) → Took budget a report r → r.answer.length ≤ 2048 → AsTurns a report budget (run_on_bytes r)
as_turns a report budget r t l =
    let q = told r.answer r.taken (omega (arith, l)) in
    let k : turns_taken (run_on_bytes r).answer ≡ r.taken = q.taken in
    let p : without_turns (run_on_bytes r).answer ≡ answer_number r.answer = q.last in
    record {
      areas = t.areas ∙ ap (λ (n : ℕ). turns_on n a report) (sym k);
      answer = p ∙ t.answer ∙ ap (λ (n : ℕ). last_answer n a report) (sym k);
      most = omega (arith, k, t.most);
      going = λ j b x. t.going j (omega (arith, k, b)) x;
      ended = ⊎_elim (λ (x : r.taken ≡ budget). inl (k ∙ x))
          (λ (x : (j : ℕ) × (r.taken ≡ suc j) × Ends (turns_on j a report) report). inr (x.0, k ∙ x.1, x.2)) t.ended;
    }

-- a run that is not refused leaves exactly the areas that so many turns in a row leave, with the answer of the last of them; so many is no more
-- than the budget, no turn before the last ends a run, and the last does or the budget is used up
pub run_is_turns : (a : Areas) (report budget : ℕ) → AreBytes a → is_refused (run_call a report budget) ≡ false
    → AsTurns a report budget (run_call a report budget)
run_is_turns a report budget l e =
    let t : is_refused (turn_call a report) ≡ false = sym (run_refused_as a report budget) ∙ e in
    let x = not_refused (turn report) a l.kept t in
    let d = x.image.0 in
    let w = world_in d a in
    let s : Shows a w = record { memory = refl; holding = refl; outgoing = refl; kept = x.image.1 } in
    subst (λ (c : Called). AsTurns a report budget c) (sym (run_same a d report budget x.image.1 x))
    (as_turns a report budget (run_of budget w report) (took budget a w report l s t) (run_length budget w report (shown_sound a w l s)))

-- ---- what that settles

-- budget 0 takes no turn: answer 0, nothing changed
pub run_none : (a : Areas) (report : ℕ) → AreBytes a → is_refused (run_call a report 0) ≡ false → run_call a report 0 ≡ record { answer = 0; areas = a }
unfolding bits_at
run_none a report l e =
    let r = run_call a report 0 in
    let t = run_is_turns a report 0 l e in
    let k : turns_taken r.answer ≡ 0 = omega (arith, t.most) in
    let p : without_turns r.answer ≡ 0 = t.answer ∙ ap (λ (n : ℕ). last_answer n a report) k in
    let z : r.answer ≡ 0 = omega (arith, k, p) in
    let b : r.areas ≡ a = t.areas ∙ ap (λ (n : ℕ). turns_on n a report) k in
    λ i. record { answer = z i; areas = b i }

-- two that are said so are the same: neither the number of turns nor anything else is left open
same_count : (a : Areas) (report budget : ℕ) (x y : Called) → AsTurns a report budget x → AsTurns a report budget y
    → turns_taken x.answer < turns_taken y.answer → ⊥
same_count a report budget x y s t l =
    ⊎_elim (λ (e : turns_taken x.answer ≡ budget). omega (arith, l, e, t.most))
    (λ (e : (j : ℕ) × (turns_taken x.answer ≡ suc j) × Ends (turns_on j a report) report). t.going e.0 (omega (arith, l, e.1)) e.2) s.ended

pub one_run : (a : Areas) (report budget : ℕ) (x y : Called) → AsTurns a report budget x → AsTurns a report budget y → x ≡ y
unfolding bits_at
one_run a report budget x y s t =
    let k : turns_taken x.answer ≡ turns_taken y.answer =
    omega (arith, same_count a report budget x y s t, same_count a report budget y x t s) in
    let p : without_turns x.answer ≡ without_turns y.answer = s.answer ∙ ap (λ (n : ℕ). last_answer n a report) k ∙ sym t.answer in
    let z : x.answer ≡ y.answer = omega (arith, k, p) in
    let b : x.areas ≡ y.areas = s.areas ∙ ap (λ (n : ℕ). turns_on n a report) k ∙ sym t.areas in
    λ i. record { answer = z i; areas = b i }

-- ---- for runs among other calls

taken_by : (x : Bool) (a : Areas) (report budget k : ℕ) → is_refused (run_call a report budget) ≡ x
    → turns_taken (run_call a report budget).answer ≡ suc k → x ≡ false
unfolding bits_at
taken_by true a report budget k e t = absurd (omega (arith, t, (run_untouched a report budget e).whole))
taken_by false a report budget k e t = refl

-- a run that took a turn was not refused, nor is a turn there
pub taken_accepted : (a : Areas) (report budget k : ℕ) → turns_taken (run_call a report budget).answer ≡ suc k
    → is_refused (turn_call a report) ≡ false
taken_accepted a report budget k t =
    sym (run_refused_as a report budget) ∙ taken_by (is_refused (run_call a report budget)) a report budget k refl t

-- where a turn is not refused, neither is the next
pub turn_again : (a : Areas) (report : ℕ) → AreBytes a → is_refused (turn_call a report) ≡ false
    → is_refused (turn_call (turn_call a report).areas report) ≡ false
turn_again a report l e =
    let x = not_refused (turn report) a l.kept e in
    next_accepted a (world_in x.image.0 a) report l (record { memory = refl; holding = refl; outgoing = refl; kept = x.image.1 }) e

-- and where a turn is not refused, neither is a run
pub run_accepted : (a : Areas) (report budget : ℕ) → is_refused (turn_call a report) ≡ false → is_refused (run_call a report budget) ≡ false
run_accepted a report budget e = run_refused_as a report budget ∙ e

-- ---- what a run leaves is accepted again

closed_by : (x : Bool) (r : Ran) (rest : Run) → Sound (afterwards r) → Sound rest.world → Sound (continued x r rest).world
closed_by true r rest s t = s
closed_by false r rest s t = t

-- from a state in range it comes to a state in range
pub run_closed : (n : ℕ) (w : World) (report : ℕ) → Sound w → Sound (run_of n w report).world
unfolding run_of
run_closed zero w report s = s
run_closed (suc n) w report s =
    let t = closed (turn report) w bytes_nil s in
    closed_by (stops_at w report) (turn_of w report) (run_of n (afterwards (turn_of w report)) report) t
    (run_closed n (afterwards (turn_of w report)) report t)

-- so the record that it leaves holds a state in range
pub run_again : (a : Areas) (report budget : ℕ) → AreBytes a → is_refused (run_call a report budget) ≡ false
    → (d : Device) × Holds (run_call a report budget).areas.kept d
run_again a report budget l e =
    let x = not_refused (turn report) a l.kept (sym (run_refused_as a report budget) ∙ e) in
    let w = world_in x.image.0 a in
    let s : Shows a w = record { memory = refl; holding = refl; outgoing = refl; kept = x.image.1 } in
    let g = run_closed budget w report (shown_sound a w l s) in
    let same = run_same a x.image.0 report budget x.image.1 x in
    ((run_of budget w report).world.device, record { wide = g.wide; range = g.range; image = ap (λ (c : Called). c.areas.kept) same })

pub turns_lent : (k : ℕ) (a : Areas) (report : ℕ) → AreBytes a → AreBytes (turns_on k a report)
turns_lent zero a report l = l
turns_lent (suc k) a report l = turns_lent k (turn_call a report).areas report (lent_kept (turn report) a bytes_nil l)

lent_by : (x : Bool) (a : Areas) (report budget : ℕ) → is_refused (run_call a report budget) ≡ x → AreBytes a → AreBytes (run_call a report budget).areas
lent_by true a report budget e l = rw (run_untouched a report budget e).areas l
lent_by false a report budget e l =
    rw (run_is_turns a report budget l e).areas (turns_lent (turns_taken (run_call a report budget).answer) a report l)

-- and bytes stay bytes, refused or not
pub run_lent : (a : Areas) (report budget : ℕ) → AreBytes a → AreBytes (run_call a report budget).areas
run_lent a report budget l = lent_by (is_refused (run_call a report budget)) a report budget refl l

-- a run with a budget takes a turn
pub run_takes : (a : Areas) (report budget : ℕ) → AreBytes a → is_refused (run_call a report budget) ≡ false → 0 < budget
    → 0 < turns_taken (run_call a report budget).answer
run_takes a report budget l e b =
    let k = turns_taken (run_call a report budget).answer in
    ⊎_elim (λ (x : k ≡ budget). omega (arith, x, b)) (λ (x : (j : ℕ) × (k ≡ suc j) × Ends (turns_on j a report) report). omega (arith, x.1))
    (run_is_turns a report budget l e).ended

-- of budget 1, one
pub run_of_one : (a : Areas) (report : ℕ) → AreBytes a → is_refused (turn_call a report) ≡ false → turns_taken (run_call a report 1).answer ≡ 1
run_of_one a report l e =
    let t = run_accepted a report 1 e in omega (arith, run_takes a report 1 l t (omega arith), (run_is_turns a report 1 l t).most)
