-- Demand 3's premises of a chip can be met, in both halves and of a list that is resumed, with a refused call among what comes. Assumes nothing.
use mathlib.Core.Path.{◌≡◌, refl}
use mathlib.Core.List.{List, [], ◌∷◌, map}
use Prim.Native.Nat.{◌≤◌}
use native.Mathlib.Omega.{arith}
use lib.Dec.{lit≤}
use lib.ListN.{replicate}
use Rattle.memory.proofs.Bytes.{bytes_nil}
use Rattle.device.specs.declared.Frame.{Frame}
use Rattle.chip.specs.Cases.{◌is◌}
use Rattle.chip.specs.Call.{attention, turn}
use Rattle.chip.specs.World.{World}
use Rattle.progress.specs.Trace.{run, AllMay, turns}
use Rattle.traces.specs.Event.{Event, call, step, is_turn, WhileHeld}
use Rattle.lists.specs.Uses.{Listed}
use Rattle.lists.specs.Done.{enough}
use Rattle.worked.proofs.BytesWitness.{stray, stray_refused}
use Rattle.worked.proofs.Resumed as resumed_run
use Rattle.lists.proofs.Tests.{keptb}
use Rattle.held.specs.Held.{frames_in}
use Rattle.held.proofs.Exact as held_exact
use Rattle.kinds.specs.Chips.{Handed, Act, does, asks}
use Rattle.kinds.specs.Closed.{Right}
use Rattle.kinds.specs.Lists.{turns_of}
use Rattle.kinds.specs.Third.{AllAcceptable, ListRun, ResumedRun, HeldRun}
use Rattle.kinds.proofs.Two.{pair, waits, two_run}
use Rattle.kinds.proofs.Closing.{closing}
use Rattle.kinds.proofs.Third.{right_along}
use Rattle.kinds.proofs.Witness.{attending, turning}
use Rattle.demands.proofs.Sharp.{right_told, right_board, turns_acceptable, events_back, none_asked, right_begun}

-- a turn that is lent nothing at all is refused
abbrev pub stray_turn : Act
stray_turn = asks stray.made stray.lent

stray_handed : Handed stray.made stray.lent
stray_handed =
    record { given = turning; areas = record { memory = bytes_nil; holding = bytes_nil; outgoing = bytes_nil; kept = bytes_nil } }

-- two NOPs, and 264 turns
pub list_met : ListRun enough pair (stray_turn ∷ turns_of (0 ∷ replicate 263 0)) waits
list_met =
    let k = two_run 0 (omega arith) in
    record {
      right = k.right;
      sets_off = k.sets_off;
      listed = k.listed;
      acceptable = k.acceptable;
      refused = (stray_handed, stray_refused, k.refused);
      premises = k.premises;
    }

-- a NOP behind one that suspended the unit, and 132 turns
right_resumed : Right resumed_run.before
right_resumed =
    let start = right_board (8188 is 0 ∷ 2 is 0x08 ∷ 0x1A is 0x4000 ∷ 0x1C is 0x20 ∷ 0x22 is 0x8000 ∷ []) (0x0A is 0xF100 ∷ 0x0C is 0x18 ∷ []) in
    let turned = call attention ∷ replicate 2 (call (turn 0)) in
    right_told (0x0A is 0xF200 ∷ 0x0C is 0x18 ∷ []) (run step turned _) (right_along closing turned _ (attending, lit≤ tt, turns_acceptable 2) start)

resumed_listed : Listed (resumed_run.begun).device.units.base (resumed_run.begun).memory resumed_run.behind
unfolding keptb
resumed_listed = refl

pub resumed_met : ResumedRun enough resumed_run.behind (stray_turn ∷ map does resumed_run.trace) resumed_run.before
resumed_met =
    record {
      right = right_resumed;
      sets_off = resumed_run.resumes;
      listed = resumed_listed;
      acceptable = turns_acceptable 132;
      refused = (stray_handed, stray_refused, none_asked resumed_run.trace);
      premises = resumed_run.premises;
    }

met_by : (f : Frame) (es : List Event) (w : World) → Right w → AllAcceptable es → frames_in w ≡ f ∷ [] → AllMay WhileHeld step es w
    → 132 ≤ turns is_turn es → HeldRun 132 f (stray_turn ∷ map does es) w
met_by f es w r a h e l =
    record {
      right = r;
      holds = h;
      acceptable = rw (events_back es) a;
      refused = (stray_handed, stray_refused, none_asked es);
      events = rw (events_back es) e;
      turns = rw (events_back es) l;
    }

-- the run in which a held frame takes all of them
pub frame_met : HeldRun 132 held_exact.frame (stray_turn ∷ map does (held_exact.turns_of 132)) held_exact.begun
frame_met =
    met_by held_exact.frame (held_exact.turns_of 132) held_exact.begun right_begun (turns_acceptable 132) held_exact.its_frame
    (held_exact.calm_turns 132 held_exact.begun) (lit≤ tt)
