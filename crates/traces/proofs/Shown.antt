-- Which events are turns, and which may come; what calls and runs that are refused count for. Each is a case that another reading fails. Assumes
-- nothing.
use mathlib.Core.Path.{◌≡◌, refl, sym, ◌∙◌}
use mathlib.Core.Bool.{true, false, ◌&&◌, not, true≢false}
use mathlib.Core.List.{List, [], ◌∷◌, cons≢nil}
use Prim.Native.Nat.{ℕ}
use native.Mathlib.Omega.{arith}
use lib.Dec.{T}
use Rattle.memory.specs.Size.{size_allowed}
use Rattle.scb.specs.Words.{bits_at}
use Rattle.device.specs.State.{fresh}
use Rattle.chip.specs.Call.{reset, attention, arrive, turn}
use Rattle.chip.specs.World.{World, world_of}
use Rattle.calls.specs.Calls.{Areas, areas_of, answer_number, refusal_of, turn_call, run_call}
use Rattle.traces.specs.Event.{Event, call, host, is_turn, is_calm, DuringList, WhileHeld}
use Rattle.traces.specs.Areas.{FrameBytes}
use Rattle.traces.specs.Driven.{Lending, lending, refused_at, left, is_taken, events_of, Drive, runs, left_driven, turns_one, unrolled, Fair, FairDrive}
use Rattle.traces.specs.Told.{frame_of}

-- 01, "Calls, lent areas, refusals": a frame is made of bytes
pub by_bytes : FrameBytes (arrive (256 ∷ []) 0) → ⊥
by_bytes b = omega (arith, b.each 0)

-- the length sent says how many bytes of the outgoing area are the frame; 0, that none was sent
pub by_length : (frame_of 0 (5 ∷ 6 ∷ []) ≡ []) × (frame_of 2 (5 ∷ 6 ∷ 7 ∷ []) ≡ (5 ∷ 6 ∷ []) ∷ [])
by_length = (refl, refl)

-- ---- 01, "Turns": demand 3 counts turns, and no other call

pub turns_alone : T (is_turn (call (turn 0)) && not (is_turn (call (arrive [] 0))) && not (is_turn (call attention))
    && not (is_turn (call reset)) && not (is_turn (host [] [] [])))
turns_alone = tt

-- no attention or reset comes; a frame may arrive, and the host may write
pub calm : T (is_calm (call (turn 0)) && is_calm (call (arrive [] 0)) && is_calm (host [] [] []) && not (is_calm (call attention)) && not (is_calm (call reset)))
calm = tt

-- while a list is run the host keeps the outgoing area; while a frame is held it leaves all three as it likes
pub outgoing_kept : DuringList (host [] [] (1 ∷ [])) (world_of fresh [] [] []) → ⊥
outgoing_kept y = cons≢nil y.1

pub none_kept : (m h out : List ℕ) (w : World) → WhileHeld (host m h out) w
none_kept m h out w = refl

-- ---- 01, "Turns": turns that are not refused count

-- nothing at all is lent, so that both are refused; something else stands
abbrev nothing : Areas
nothing = areas_of [] [] [] []

abbrev standing : Areas
standing = areas_of (1 ∷ []) (2 ∷ []) (3 ∷ []) (4 ∷ [])

abbrev stray : Lending
stray = lending (turn 0) nothing

abbrev stray_run : Drive
stray_run = runs nothing 0 5

pub refused : refused_at stray ≡ true
unfolding turn_call refusal_of answer_number bits_at size_allowed
refused = refl

-- a refused call counts for no turn and no event, and what stood stands
pub refused_call : (is_taken stray ≡ false) × (events_of (stray ∷ []) ≡ []) × (left stray standing ≡ standing)
unfolding turn_call refusal_of answer_number bits_at size_allowed
refused_call = (refl, refl, refl)

-- so does a run that took no turn, whatever its budget
pub refused_run : (turns_one stray_run ≡ 0) × (unrolled (stray_run ∷ []) ≡ []) × (left_driven stray_run standing ≡ standing)
unfolding run_call refusal_of answer_number size_allowed
refused_run = (refl, refl, refl)

-- nothing is asked of either
pub nothing_asked : (May : Event → World → Type 0) → Fair May stray standing × FairDrive May stray_run standing
unfolding run_call refusal_of answer_number size_allowed
nothing_asked May = (λ e. absurd (true≢false (sym refused ∙ e)), λ z. absurd (omega (arith, z)))

-- and of a call that is not refused, that it finds the record as it stands
pub record_kept : (May : Event → World → Type 0) (l : Lending) (a : Areas) → Fair May l a → refused_at l ≡ false → l.lent.kept ≡ a.kept
record_kept May l a f e = (f e).kept
