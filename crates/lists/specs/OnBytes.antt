-- Demand 3, first half, over the calls on the areas that the host lends: 01, "Calls, lent areas, refusals". Assumes nothing.
use Rattle.std.specs.Prelude.{◌≡◌, List, ℕ, ◌≤◌, length}
use Rattle.chip.specs.World.{World}
use Rattle.calls.specs.Calls.{Areas}
use Rattle.traces.specs.Event.{Event, step}
use Rattle.traces.specs.Areas.{Shows}
use Rattle.traces.specs.Driven.{Lending, left, is_taken, events_of, Drive, left_driven, turns_driven, unrolled, AllFair, AllFairDrive}
use Rattle.traces.specs.Told.{frames_told, frames_driven, edges_along, edges_told, edges_driven, AllSaid}
use Rattle.progress.specs.Trace.{run, turns}
use Rattle.progress.specs.Machine.{log, Undisturbed}
use Rattle.lists.specs.Unit.{machine}
use Rattle.lists.specs.Seen.{frames_of}
use Rattle.lists.specs.Done.{bytes_of, Apart, Done}

-- ---- calls, refused ones among them

-- the blocks bs; the trace ls; a, what the starting attention left; v, the state that a shows; May says which events may occur, least how many turns
-- n commands are given
pub record PremisesOnBytes (May : Event → World → Type 0) (least : ℕ → ℕ) (bs : List ℕ) (ls : List Lending) (a : Areas) (v : World) : Type 0 where
  pub fair : AllFair May ls a
  pub apart : Apart bs v
  -- nothing writes into the list but each command's own results, neither the host between calls nor a call; N stays
  pub intact : Undisturbed machine (bytes_of v bs) (events_of ls) v
  pub turns : least (length bs) ≤ turns is_taken ls

pub record DoneOnBytes (bs : List ℕ) (ls : List Lending) (a : Areas) (v : World) : Type 0 where
  -- the list is done
  pub done : Done bs (events_of ls) v
  -- every answer, and every byte that a call leaves, is the definitions'
  pub said : AllSaid ls v
  -- what stands in the areas at the end, the record among them, is what the definitions leave
  pub shows : Shows (run left ls a) (run step (events_of ls) v)
  -- the frames that the caller reads off the answers and the outgoing area are those that are noted as sent
  pub told : frames_told ls ≡ frames_of (log machine (events_of ls) v)
  -- and as many edges are reported to it as the definitions report
  pub edges : edges_told ls ≡ edges_along (events_of ls) v

-- ---- runs of turns among the calls: a run is as many turns as its answer says, and `unrolled` has those turns in its place

pub record PremisesByRuns (May : Event → World → Type 0) (least : ℕ → ℕ) (bs : List ℕ) (ds : List Drive) (a : Areas) (v : World) : Type 0 where
  pub fair : AllFairDrive May ds a
  pub apart : Apart bs v
  pub intact : Undisturbed machine (bytes_of v bs) (events_of (unrolled ds)) v
  -- the turns inside a run count as turns
  pub turns : least (length bs) ≤ turns_driven ds

pub record DoneByRuns (bs : List ℕ) (ds : List Drive) (a : Areas) (v : World) : Type 0 where
  pub done : Done bs (events_of (unrolled ds)) v
  pub said : AllSaid (unrolled ds) v
  pub shows : Shows (run left_driven ds a) (run step (events_of (unrolled ds)) v)
  -- the frames that the caller reads off, in calls and in runs, and the edges
  pub told : frames_driven ds ≡ frames_of (log machine (events_of (unrolled ds)) v)
  pub edges : edges_driven ds ≡ edges_along (events_of (unrolled ds)) v
