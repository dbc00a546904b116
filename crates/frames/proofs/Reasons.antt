-- Why an arriving frame is dropped: each reason is given exactly when the order of the rules reaches it, on states and on bytes; and no other call's
-- answer has one. 02, Wish 3. Assumes nothing.
use mathlib.Core.Path.{◌≡◌, refl, sym, ap, subst, ◌∙◌}
use mathlib.Core.Bool.{Bool, true, false}
use mathlib.Core.List.{List, [], ◌∷◌}
use Prim.Native.Nat.{ℕ, zero, suc}
use native.Mathlib.Omega.{arith}
use Rattle.std.specs.Prelude.{Option, Some, None}
use Rattle.memory.proofs.Bytes.{bytes_nil}
use Rattle.scb.specs.Words.{bits_at}
use Rattle.device.specs.Answers.{reason_of}
use Rattle.device.specs.Numbers.{reason_or_0}
use Rattle.device.specs.declared.Answer.{Answer}
use Rattle.device.specs.declared.Device.{Device}
use Rattle.device.specs.declared.Fate.{Fate}
use Rattle.device.specs.declared.Reason.{Reason}
use Rattle.device.specs.declared.Reason.TheVariants as reason
use Rattle.device.proofs.Laws.{one_reason}
use Rattle.chip.specs.Arrival.{arrival_of}
use Rattle.chip.specs.Attention.{attention_of}
use Rattle.chip.specs.Call.{Call, reset, attention, arrive, turn, ran}
use Rattle.chip.specs.World.{World, reset_of}
use Rattle.chip.proofs.Answers.{attention_plain, turn_plain}
use Rattle.calls.specs.Answer.{turns_taken, without_turns}
use Rattle.calls.specs.Calls.{Areas, Called, run_call}
use Rattle.calls.proofs.Answer.{told_alone}
use Rattle.traces.specs.Areas.{AreBytes, Holds, world_in}
use Rattle.traces.specs.Bytes.{called, is_refused}
use Rattle.traces.specs.Bytes.{reason as reason_in}
use Rattle.closure.specs.Turns.{turns_on, last_answer}
use Rattle.closure.proofs.Carried.{accepted_again, answer_parts, not_refused}
use Rattle.closure.proofs.Refusals.{untouched}
use Rattle.closure.proofs.Turns.{run_is_turns, run_untouched, turns_lent}
use Rattle.frames.specs.Arrival.{RightLengths, ArrivalFate}
use Rattle.frames.specs.Arrival as classes
use Rattle.frames.specs.Reasons.{why_of, unset, unready, overrun, held, lost, saved, Reached, IsOther}
use Rattle.frames.proofs.Arrival as arrivals
use Rattle.frames.proofs.Arrived.{right_lengths}

-- the reason is that of the one fate
first_why : List Fate → Option Reason
first_why [] = None
first_why (x ∷ xs) = reason_of x

pub by_the_fate : (w : World) (f : List ℕ) (v : ℕ) (x : Fate) → (arrival_of w f v).outcome.fates ≡ x ∷ [] → why_of w f v ≡ reason_of x
unfolding arrival_of first_why
by_the_fate w f v x e = ap first_why e

-- ---- a reason that is given is reached

record Because (w : World) (f : List ℕ) (v : ℕ) : Type 0 where
  why : Option Reason
  said : why_of w f v ≡ why
  reached : Reached why w f v

abbrev why_in : Answer → Option Reason
why_in a = a.reason

because : (w : World) (f : List ℕ) (v : ℕ) → ArrivalFate w f v (arrival_of w f v) → Because w f v
because w f v (classes.few n h) = record { why = Some reason.TooFew; said = ap why_in h.answer; reached = n }
because w f v (classes.unmatched n m h) = record { why = Some reason.NoMatch; said = ap why_in h.answer; reached = (n, m) }
because w f v (classes.idle o u h) = record { why = Some reason.UnitIdle; said = ap why_in h.answer; reached = (o, u) }
because w f v (classes.suspended fd o u h) = record { why = Some reason.UnitSuspended; said = ap why_in h.answer; reached = (o, (fd, u)) }
because w f v (classes.overrun o u h) = record { why = None; said = ap why_in h.answer; reached = (o, overrun u) }
because w f v (classes.good_ready fd o g u h) = record { why = None; said = ap why_in h.answer; reached = (o, held fd u g) }
because w f v (classes.good_unready o g u h) = record { why = None; said = ap why_in h.answer; reached = (o, lost u g) }
because w f v (classes.bad_saved fd c o b u s h) = record { why = None; said = ap why_in h.answer; reached = (o, saved fd c u s b) }
because w f v (classes.bad_unsaved fd c o b u s h) = record { why = Some reason.Bad; said = ap why_in h.answer; reached = (o, (unset fd u s, (c, b))) }
because w f v (classes.bad_unready c o b u h) = record { why = Some reason.Bad; said = ap why_in h.answer; reached = (o, (unready u, (c, b))) }

-- ---- and one that is reached is given

given : (w : World) (f : List ℕ) (v : ℕ) → RightLengths w f → (why : Option Reason) → Reached why w f v → why_of w f v ≡ why
given w f v l (Some reason.TooFew) n = ap why_in (arrivals.few w f v l n).answer
given w f v l (Some reason.NoMatch) (n, m) = ap why_in (arrivals.unmatched w f v l n m).answer
given w f v l (Some reason.UnitIdle) (o, u) = ap why_in (arrivals.idle w f v l o u).answer
given w f v l (Some reason.UnitSuspended) (o, (fd, u)) = ap why_in (arrivals.suspended w f v fd l o u).answer
given w f v l (Some reason.Bad) (o, (unset fd u s, (c, b))) = ap why_in (arrivals.bad_unsaved w f v fd c l o b u s).answer
given w f v l (Some reason.Bad) (o, (unready u, (c, b))) = ap why_in (arrivals.bad_unready w f v c l o b u).answer
given w f v l None (o, overrun u) = ap why_in (arrivals.overrun w f v l o u).answer
given w f v l None (o, held fd u g) = ap why_in (arrivals.good_ready w f v fd l o g u).answer
given w f v l None (o, lost u g) = ap why_in (arrivals.good_unready w f v l o g u).answer
given w f v l None (o, saved fd c u s b) = ap why_in (arrivals.bad_saved w f v fd c l o b u s).answer

-- both ways, at every arrival that is not refused
pub exactly : (w : World) (f : List ℕ) (v : ℕ) → RightLengths w f → (why : Option Reason)
    → (why_of w f v ≡ why → Reached why w f v) × (Reached why w f v → why_of w f v ≡ why)
exactly w f v l why =
    let b = because w f v (arrivals.arrival_fate w f v l) in (
      (λ e. subst (λ (y : Option Reason). Reached y w f v) (sym b.said ∙ e) b.reached),
      (λ h. given w f v l why h),
    )

-- ---- on bytes

module _ (a : Areas) (d : Device) (f : List ℕ) (v : ℕ) (b : AreBytes a) (h : Holds a.kept d) (e : is_refused (called (arrive f v) a) ≡ false) where
  abbrev there : World
  there = world_in d a

  right : RightLengths there f
  right = right_lengths a d f v b e

  -- the number in the answer is that of the reason
  numbered : reason_in (called (arrive f v) a).answer ≡ reason_or_0 (why_of there f v)
  numbered = (answer_parts (arrive f v) a d b h e).reason

  pub exactly_on_bytes : (why : Option Reason)
      → (reason_in (called (arrive f v) a).answer ≡ reason_or_0 why → Reached why there f v)
      × (Reached why there f v → reason_in (called (arrive f v) a).answer ≡ reason_or_0 why)
  exactly_on_bytes why =
      let x = exactly there f v right why in (
        (λ n. x.0 (one_reason (why_of there f v) why (sym numbered ∙ n))),
        (λ r. numbered ∙ ap reason_or_0 (x.1 r)),
      )

  -- and it is one of them
  pub some_reason : (why : Option Reason) × ((reason_in (called (arrive f v) a).answer ≡ reason_or_0 why) × Reached why there f v)
  some_reason = let y = why_of there f v in (y, (numbered, (exactly there f v right y).0 refl))

-- ---- no other call gives one

none_on : (c : Call) (w : World) → IsOther c → (ran c w).outcome.answer.reason ≡ None
unfolding reset_of attention_of
none_on reset w o = refl
none_on attention w o = ap why_in (attention_plain w.device w.memory)
none_on (arrive f v) w o = absurd o
none_on (turn report) w o = ap why_in (turn_plain w report)

-- one that is not refused answers as on the state that the record holds
state_none : (c : Call) (a : Areas) (d : Device) → AreBytes a → Holds a.kept d → is_refused (called c a) ≡ false → IsOther c
    → reason_in (called c a).answer ≡ 0
state_none c a d b h e o = (answer_parts c a d b h e).reason ∙ ap reason_or_0 (none_on c (world_in d a) o)

-- reset ignores the record's content
reset_none : (a : Areas) → AreBytes a → is_refused (called reset a) ≡ false → reason_in (called reset a).answer ≡ 0
unfolding reset_of
reset_none a b e =
    ap (λ (r : Called). reason_in r.answer) (accepted_again reset a bytes_nil b e).carried.same ∙ (told_alone reset_of.answer (omega arith)).explained

accepted_none : (c : Call) (a : Areas) → AreBytes a → is_refused (called c a) ≡ false → IsOther c → reason_in (called c a).answer ≡ 0
accepted_none reset a b e o = reset_none a b e
accepted_none attention a b e o = let x = (not_refused attention a b.kept e).image in state_none attention a x.0 b x.1 e o
accepted_none (arrive f v) a b e o = absurd o
accepted_none (turn report) a b e o = let x = (not_refused (turn report) a b.kept e).image in state_none (turn report) a x.0 b x.1 e o

none_by : (x : Bool) (c : Call) (a : Areas) → is_refused (called c a) ≡ x → AreBytes a → IsOther c → reason_in (called c a).answer ≡ 0
none_by true c a e b o = (untouched c a e).reason
none_by false c a e b o = accepted_none c a b e o

pub no_reason : (c : Call) (a : Areas) → AreBytes a → IsOther c → reason_in (called c a).answer ≡ 0
no_reason c a b o = none_by (is_refused (called c a)) c a refl b o

-- nor does a run, which answers as its last turn does
last_none : (k : ℕ) (a : Areas) (report : ℕ) → AreBytes a → reason_in (last_answer k a report) ≡ 0
unfolding bits_at
last_none zero a report b = refl
last_none (suc k) a report b = no_reason (turn report) (turns_on k a report) (turns_lent k a report b) tt

reason_below : (n : ℕ) → reason_in (without_turns n) ≡ reason_in n
unfolding bits_at
reason_below n = omega arith

run_by : (x : Bool) (a : Areas) (report budget : ℕ) → is_refused (run_call a report budget) ≡ x → AreBytes a → reason_in (run_call a report budget).answer ≡ 0
run_by true a report budget e b = (run_untouched a report budget e).reason
run_by false a report budget e b =
    let r = run_call a report budget in
    sym (reason_below r.answer) ∙ ap reason_in (run_is_turns a report budget b e).answer ∙ last_none (turns_taken r.answer) a report b

pub no_reason_of_a_run : (a : Areas) (report budget : ℕ) → AreBytes a → reason_in (run_call a report budget).answer ≡ 0
no_reason_of_a_run a report budget b = run_by (is_refused (run_call a report budget)) a report budget refl b
