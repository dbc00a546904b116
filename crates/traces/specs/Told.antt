-- What the caller is told: the frames that were sent, the edges, and that every call answers and leaves what the definitions say. 01, "Calls, lent areas,
-- refusals": an answer is the number, the length sent (0 if none) and the edge. Assumes nothing.
use Rattle.std.specs.Prelude.{◌≡◌, Bool, true, false, List, [], ◌∷◌, ◌++◌, ℕ, zero, suc, ◌+◌, take}
use Rattle.scb.specs.Words.{one}
use Rattle.chip.specs.World.{World}
use Rattle.chip.specs.Call.{ran}
use Rattle.calls.specs.Calls.{Called, on_bytes, run_call}
use Rattle.progress.specs.Trace.{run}
use Rattle.traces.specs.Bytes.{called, number, sent_length, edge}
use Rattle.traces.specs.Event.{Event, call, host, step}
use Rattle.traces.specs.Driven.{Lending, refused_at, host_of, events_by, Drive, calls, runs}

-- ---- the frames that were sent

-- the first bytes of the outgoing area, as many as the length says; 0: none was sent, or one of no bytes
abbrev pub frame_of : (length : ℕ) → (outgoing : List ℕ) → List (List ℕ)
frame_of zero out = []
frame_of (suc n) out = take (suc n) out ∷ []

-- by the calls of a trace, in their order: the length that each answers, of the outgoing area as it leaves it
abbrev pub frames_along : List Event → World → List (List ℕ)
frames_along [] w = []
frames_along (call c ∷ es) w = frame_of (ran c w).outcome.answer.length (ran c w).outgoing ++ frames_along es (step (call c) w)
frames_along (host m h out ∷ es) w = frames_along es (step (host m h out) w)

-- on bytes: what a caller reads off the answer and the outgoing area
abbrev pub frame_told : Called → List (List ℕ)
frame_told r = frame_of (sent_length r.answer) r.areas.outgoing

abbrev pub frames_told : List Lending → List (List ℕ)
frames_told [] = []
frames_told (l ∷ ls) = frame_told (called l.made l.lent) ++ frames_told ls

abbrev pub frame_driven : Drive → List (List ℕ)
frame_driven (calls l) = frame_told (called l.made l.lent)
frame_driven (runs lent report budget) = frame_told (run_call lent report budget)

abbrev pub frames_driven : List Drive → List (List ℕ)
frames_driven [] = []
frames_driven (d ∷ ds) = frame_driven d ++ frames_driven ds

-- ---- the edges that were reported: how many

-- by the calls of a trace
abbrev pub edges_along : List Event → World → ℕ
edges_along [] w = 0
edges_along (call c ∷ es) w = one (ran c w).outcome.answer.edge + edges_along es (step (call c) w)
edges_along (host m h out ∷ es) w = edges_along es (step (host m h out) w)

-- on bytes, in calls and in runs
abbrev pub edges_told : List Lending → ℕ
edges_told [] = 0
edges_told (l ∷ ls) = edge (called l.made l.lent).answer + edges_told ls

abbrev pub edge_driven : Drive → ℕ
edge_driven (calls l) = edge (called l.made l.lent).answer
edge_driven (runs lent report budget) = edge (run_call lent report budget).answer

abbrev pub edges_driven : List Drive → ℕ
edges_driven [] = 0
edges_driven (d ∷ ds) = edge_driven d + edges_driven ds

-- ---- every answer and every lent byte: of a call that is not refused what the definitions say in the world in which it comes; a refused one answers its
-- number and nothing else, which the table of refusals says, and leaves all as it was lent

abbrev pub Said : (refused : Bool) → Lending → World → Type 0
Said true l w = called l.made l.lent ≡ record { answer = number (called l.made l.lent).answer; areas = l.lent }
Said false l w = called l.made l.lent ≡ on_bytes (ran l.made (step (host_of l.lent) w))

abbrev pub AllSaid : List Lending → World → Type 0
AllSaid [] w = Unit {0}
AllSaid (l ∷ ls) w = Said (refused_at l) l w × AllSaid ls (run step (events_by (refused_at l) l []) w)
