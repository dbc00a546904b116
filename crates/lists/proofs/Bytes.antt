-- Demand 3, first half, over the calls on the areas that are lent: refused calls stand anywhere and count for nothing; and runs of turns are as many
-- turns as their answer says. Assumes nothing.
use mathlib.Core.Path.{◌≡◌, refl, sym, ap, ◌∙◌, subst}
use mathlib.Core.Bool.{false}
use mathlib.Core.List.{List, []}
use Prim.Native.Nat.{ℕ, ◌≤◌}
use native.Mathlib.Omega.{arith}
use lib.ListN.{length}
use Rattle.memory.specs.Memory.{word_at}
use Rattle.memory.proofs.Bytes.{bytes_nil}
use Rattle.memory.proofs.Power.{allowed}
use Rattle.scb.specs.Words.{cbl_at}
use Rattle.device.specs.declared.Device.{Device}
use Rattle.command.specs.Part.{Part}
use Rattle.control.specs.Obey.{of_scb}
use Rattle.chip.specs.Call.{attention, ran}
use Rattle.chip.specs.Attention.{attention_of}
use Rattle.chip.specs.World.{World}
use Rattle.calls.specs.Calls.{Areas, on_bytes, attention_call}
use Rattle.calls.proofs.Laws.{lengths_of_accepted}
use Rattle.progress.specs.Trace.{run, turns}
use Rattle.progress.specs.Machine.{Laws}
use Rattle.traces.specs.Bytes.{called, is_refused}
use Rattle.traces.specs.Event.{Event, call, step, is_turn, DuringList}
use Rattle.traces.specs.Areas.{AreBytes, Holds, world_in, Shows}
use Rattle.traces.specs.Driven.{Lending, events_of, Drive, unrolled}
use Rattle.closure.proofs.Carried.{carry, carry_shown}
use Rattle.closure.proofs.Driven.{turns_same, fair_along, LetsTurns, spread}
use Rattle.closure.proofs.Told.{fair_said, told_along, edges_along_lem, driven_told, driven_edges}
use Rattle.lists.specs.Uses.{block, Listed, first_of}
use Rattle.lists.specs.Unit.{machine}
use Rattle.lists.specs.Done.{Starts, Resumes, enough, Done}
use Rattle.lists.specs.OnBytes.{PremisesOnBytes, DoneOnBytes, PremisesByRuns, DoneByRuns}
use Rattle.lists.proofs.Laws.{list_laws}
use Rattle.lists.proofs.Start.{Begins, begins, resumes, started}
use Rattle.lists.proofs.Order.{list_done}

-- ---- an attention that is not refused has an allowed N

size_least : (a : Areas) → is_refused (called attention a) ≡ false → 8192 ≤ length a.memory
unfolding attention_call
size_least a r = (allowed (length a.memory) (lengths_of_accepted a [] (λ w. on_bytes (attention_of w)) r).memory).least

-- ---- the whole

-- what the attention leaves
pub start_shows : (a : Areas) (d : Device) → AreBytes a → Holds a.kept d → is_refused (called attention a) ≡ false
    → Shows (called attention a).areas (step (call attention) (world_in d a))
start_shows a d l h r =
    (carry_shown attention a (world_in d a) bytes_nil l (record { memory = refl; holding = refl; outgoing = refl; kept = h }) r).0

-- and what it answers and leaves is what the definitions say
start_said : (a : Areas) (d : Device) → AreBytes a → Holds a.kept d → is_refused (called attention a) ≡ false
    → called attention a ≡ on_bytes (ran attention (world_in d a))
start_said a d l h r = (carry attention a d bytes_nil l h r).same

-- whichever way it was started
module _ (May : Event → World → Type 0) (K : Laws machine May) where
  pub begun_on_bytes : (bs : List ℕ) (ls : List Lending) (a : Areas) (d : Device) → AreBytes a → Holds a.kept d
      → is_refused (called attention a) ≡ false → Begins (block (first_of bs)) (world_in d a) (step (call attention) (world_in d a))
      → Listed d.units.base (step (call attention) (world_in d a)).memory bs
      → PremisesOnBytes May enough bs ls (called attention a).areas (step (call attention) (world_in d a))
      → DoneOnBytes bs ls (called attention a).areas (step (call attention) (world_in d a))
  begun_on_bytes bs ls a d l h r b listed p =
      let w = world_in d a in
      let v = step (call attention) w in
      let s = start_shows a d l h r in
      let base : v.device.units.base ≡ d.units.base = ap (λ (x : Part). x.base) b.part in
      let least : 8192 ≤ length v.memory = subst (λ (n : ℕ). 8192 ≤ n) (sym b.size) (size_least a r) in
      let count : enough (length bs) ≤ turns is_turn (events_of ls) = subst (λ (n : ℕ). enough (length bs) ≤ n) (sym (turns_same ls)) p.turns in
      let along = fair_along May ls (called attention a).areas v p.fair s in
      let done : Done bs (events_of ls) v =
      list_done May K bs (events_of ls) v (started bs w v b (rw base listed))
      (record { size = least; apart = p.apart; events = along.1; intact = p.intact; turns = count }) in
      record {
        done = done;
        said = fair_said May ls (called attention a).areas v p.fair s;
        shows = along.0;
        told = told_along May ls (called attention a).areas v p.fair s ∙ done.told;
        edges = edges_along_lem May ls (called attention a).areas v p.fair s;
      }

  -- with runs of turns among the calls
  pub begun_by_runs : LetsTurns May → (bs : List ℕ) (ds : List Drive) (a : Areas) (d : Device) → AreBytes a → Holds a.kept d
      → is_refused (called attention a) ≡ false → Begins (block (first_of bs)) (world_in d a) (step (call attention) (world_in d a))
      → Listed d.units.base (step (call attention) (world_in d a)).memory bs
      → PremisesByRuns May enough bs ds (called attention a).areas (step (call attention) (world_in d a))
      → DoneByRuns bs ds (called attention a).areas (step (call attention) (world_in d a))
  begun_by_runs lets bs ds a d l h r b listed p =
      let v = step (call attention) (world_in d a) in
      let s = spread May lets ds (called attention a).areas p.fair in
      let x = begun_on_bytes bs (unrolled ds) a d l h r b listed
      (record { fair = s.fair; apart = p.apart; intact = p.intact; turns = omega (arith, p.turns, s.counts) }) in
      record {
        done = x.done;
        said = x.said;
        shows = subst (λ (y : Areas). Shows y (run step (events_of (unrolled ds)) v)) s.leaves x.shows;
        told = driven_told May ds (called attention a).areas p.fair ∙ x.told;
        edges = driven_edges May ds (called attention a).areas p.fair ∙ x.edges;
      }

-- ---- START

-- The starting attention is not refused; a is what it is lent, and its record holds the state d. Then come calls, refused or not, each with what it
-- is lent: one that is not refused is no attention and no reset, is lent bytes, and finds record and outgoing area as the last such call left them.
-- Nothing writes into the list but each command's own results, of which none is a later command's byte, and N stays. Once 132 n turns have come
-- that are not refused, all n are done as the definitions say, once each, in list order, nothing else is begun, and what the attention and every
-- call after it answer and leave, up to what stands in the areas and in the record at the end, is what the definitions say
pub areas_list_done : (bs : List ℕ) (ls : List Lending) (a : Areas) (d : Device) → AreBytes a → Holds a.kept d
    → is_refused (called attention a) ≡ false → Starts (world_in d a) → first_of bs ≡ word_at a.memory (of_scb d.units cbl_at)
    → Listed d.units.base (step (call attention) (world_in d a)).memory bs
    → PremisesOnBytes DuringList enough bs ls (called attention a).areas (step (call attention) (world_in d a))
    → (called attention a ≡ on_bytes (ran attention (world_in d a)))
    × DoneOnBytes bs ls (called attention a).areas (step (call attention) (world_in d a))
areas_list_done bs ls a d l h r s first listed p =
    (start_said a d l h r, begun_on_bytes DuringList list_laws bs ls a d l h r (begins bs (world_in d a) s first) listed p)

pub list_turns : LetsTurns DuringList
list_turns = record { still = λ a. (refl, refl); turns = λ report w. (refl, tt) }

-- As `areas_list_done`, with runs of turns among the calls: the turns inside a run count as turns. What stands in the areas and in the record when
-- 132 n turns have been taken, in calls and in runs, is what the definitions leave, and all n commands are done
pub runs_list_done : (bs : List ℕ) (ds : List Drive) (a : Areas) (d : Device) → AreBytes a → Holds a.kept d
    → is_refused (called attention a) ≡ false → Starts (world_in d a) → first_of bs ≡ word_at a.memory (of_scb d.units cbl_at)
    → Listed d.units.base (step (call attention) (world_in d a)).memory bs
    → PremisesByRuns DuringList enough bs ds (called attention a).areas (step (call attention) (world_in d a))
    → (called attention a ≡ on_bytes (ran attention (world_in d a)))
    × DoneByRuns bs ds (called attention a).areas (step (call attention) (world_in d a))
runs_list_done bs ds a d l h r s first listed p =
    (start_said a d l h r, begun_by_runs DuringList list_laws list_turns bs ds a d l h r (begins bs (world_in d a) s first) listed p)

-- ---- RESUME: the same, from the block on before which the unit was suspended

pub areas_resumed_done : (bs : List ℕ) (ls : List Lending) (a : Areas) (d : Device) → AreBytes a → Holds a.kept d
    → is_refused (called attention a) ≡ false → Resumes (first_of bs) (world_in d a)
    → Listed d.units.base (step (call attention) (world_in d a)).memory bs
    → PremisesOnBytes DuringList enough bs ls (called attention a).areas (step (call attention) (world_in d a))
    → (called attention a ≡ on_bytes (ran attention (world_in d a)))
    × DoneOnBytes bs ls (called attention a).areas (step (call attention) (world_in d a))
areas_resumed_done bs ls a d l h r s listed p =
    (start_said a d l h r, begun_on_bytes DuringList list_laws bs ls a d l h r (resumes (first_of bs) (world_in d a) s) listed p)

pub runs_resumed_done : (bs : List ℕ) (ds : List Drive) (a : Areas) (d : Device) → AreBytes a → Holds a.kept d
    → is_refused (called attention a) ≡ false → Resumes (first_of bs) (world_in d a)
    → Listed d.units.base (step (call attention) (world_in d a)).memory bs
    → PremisesByRuns DuringList enough bs ds (called attention a).areas (step (call attention) (world_in d a))
    → (called attention a ≡ on_bytes (ran attention (world_in d a)))
    × DoneByRuns bs ds (called attention a).areas (step (call attention) (world_in d a))
runs_resumed_done bs ds a d l h r s listed p =
    (start_said a d l h r, begun_by_runs DuringList list_laws list_turns bs ds a d l h r (resumes (first_of bs) (world_in d a) s) listed p)
