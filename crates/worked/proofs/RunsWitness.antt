-- What is asked where the host drives by runs of turns can be met: every trace of calls can be driven so, each turn that is not refused by a run
-- of budget 1; and so the worked list of `BytesWitness`. Assumes nothing.
use mathlib.Core.Path.{◌≡◌, refl, sym, ap, ◌∙◌, subst}
use mathlib.Core.Bool.{Bool, true, false}
use mathlib.Core.List.{List, [], ◌∷◌}
use Prim.Native.Nat.{ℕ, ◌≤◌}
use lib.ListN.{length}
use Rattle.chip.specs.Call.{Call, reset, attention, arrive, turn}
use Rattle.calls.specs.Calls.{Areas, turn_call, run_call}
use Rattle.progress.specs.Trace.{turns}
use Rattle.progress.specs.Machine.{Undisturbed}
use Rattle.traces.specs.Bytes.{called, is_refused}
use Rattle.traces.specs.Event.{DuringList}
use Rattle.traces.specs.Areas.{AreBytes}
use Rattle.traces.specs.Driven.{Lending, lending, refused_at, left, is_taken, events_of, Drive, calls, runs, taken_in, left_driven, turns_driven, unrolled}
use Rattle.traces.specs.Driven.{Lends, Fair, AllFair, FairDrive, AllFairDrive}
use Rattle.closure.specs.Turns.{turns_on}
use Rattle.closure.proofs.Turns.{run_accepted, run_is_turns, run_of_one}
use Rattle.closure.proofs.Driven.{spread}
use Rattle.lists.specs.Unit.{machine}
use Rattle.lists.specs.Done.{enough, bytes_of}
use Rattle.lists.specs.OnBytes.{PremisesByRuns, DoneByRuns}
use Rattle.lists.proofs.Bytes.{list_turns, runs_list_done}
use Rattle.lists.proofs.Tests.{keptb}
use Rattle.worked.proofs.Witness.{before, starts, begun, three, is_started}
use Rattle.worked.proofs.BytesWitness.{first, right_first, not_refused, worked, bytes_premises}

-- ---- each turn that is not refused by a run

abbrev by_run : (refused : Bool) → Call → Areas → Drive
by_run true c a = calls (lending c a)
by_run false reset a = calls (lending reset a)
by_run false attention a = calls (lending attention a)
by_run false (arrive f v) a = calls (lending (arrive f v) a)
by_run false (turn report) a = runs a report 1

abbrev pub by_runs : List Lending → List Drive
by_runs [] = []
by_runs (l ∷ ls) = by_run (refused_at l) l.made l.lent ∷ by_runs ls

-- it is lent what the call is lent, leaves what the call leaves, and is unrolled to it
record Like (d : Drive) (l : Lending) (a : Areas) : Type 0 where
  fair : FairDrive DuringList d a
  leaves : left_driven d a ≡ left l a
  calls_it : (ds : List Drive) → unrolled (d ∷ ds) ≡ l ∷ unrolled ds

itself : (l : Lending) (a : Areas) → Fair DuringList l a → Like (calls l) l a
itself l a m = record { fair = m; leaves = refl; calls_it = λ ds. refl }

turn_like : (report : ℕ) (x a : Areas) → is_refused (turn_call x report) ≡ false → Lends DuringList (lending (turn report) x) a
    → Like (runs x report 1) (lending (turn report) x) a
turn_like report x a e m =
    let l : AreBytes x = m.bytes in
    let t : taken_in x report 1 ≡ 1 = run_of_one x report l e in
    let s : (run_call x report 1).areas ≡ (turn_call x report).areas =
    (run_is_turns x report 1 l (run_accepted x report 1 e)).areas ∙ ap (λ (k : ℕ). turns_on k x report) t in
    record { fair = λ z. m; leaves = rw (t, e) s; calls_it = λ ds. rw t }

like_by : (b : Bool) (c : Call) (x a : Areas) → is_refused (called c x) ≡ b → Fair DuringList (lending c x) a → Like (by_run b c x) (lending c x) a
like_by true c x a e m = itself (lending c x) a m
like_by false reset x a e m = itself (lending reset x) a m
like_by false attention x a e m = itself (lending attention x) a m
like_by false (arrive f v) x a e m = itself (lending (arrive f v) x) a m
like_by false (turn report) x a e m = turn_like report x a e (m e)

-- ---- all along: what is asked of the host is met, and the calls are those

pub by_runs_lem : (ls : List Lending) (a : Areas) → AllFair DuringList ls a
    → AllFairDrive DuringList (by_runs ls) a × (unrolled (by_runs ls) ≡ ls) × (turns_driven (by_runs ls) ≡ turns is_taken ls)
by_runs_lem [] a m = (tt, refl, refl)
by_runs_lem (l ∷ ls) a m =
    let k = like_by (refused_at l) l.made l.lent a refl m.0 in
    let d = by_run (refused_at l) l.made l.lent in
    let rest = by_runs_lem ls (left l a) m.1 in
    let drives : AllFairDrive DuringList (d ∷ by_runs ls) a =
    (k.fair, subst (λ (b : Areas). AllFairDrive DuringList (by_runs ls) b) (sym k.leaves) rest.0) in
    let same : unrolled (d ∷ by_runs ls) ≡ l ∷ ls = k.calls_it (by_runs ls) ∙ ap (λ (xs : List Lending). l ∷ xs) rest.1 in
    (drives, same, sym (spread DuringList list_turns (d ∷ by_runs ls) a drives).counts ∙ ap (turns is_taken) same)

-- ---- the worked list

pub runs_met : PremisesByRuns DuringList enough three (by_runs worked) (called attention first).areas begun
runs_met =
    let x = by_runs_lem worked (called attention first).areas bytes_premises.fair in
    record {
      fair = x.0;
      apart = bytes_premises.apart;
      intact = subst (λ (ls : List Lending). Undisturbed machine (bytes_of begun three) (events_of ls) begun) (sym x.1) bytes_premises.intact;
      turns = subst (λ (n : ℕ). enough (length three) ≤ n) (sym x.2) bytes_premises.turns;
    }

pub runs_done : DoneByRuns three (by_runs worked) (called attention first).areas begun
unfolding keptb
runs_done =
    (runs_list_done three (by_runs worked) first before.device right_first.bytes right_first.holds not_refused starts refl is_started.listed
    runs_met).1
