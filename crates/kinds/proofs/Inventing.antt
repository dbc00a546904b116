-- The chip that tells an edge where there is none, at report 7, invents: at a call, along a trace, in the run of a list, and while a frame is held.
-- So does the one that counts an overrun more. Assumes nothing.
use mathlib.Core.Path.{◌≡◌, refl, sym, ap, ◌∙◌}
use mathlib.Core.Bool.{true, false}
use mathlib.Core.List.{List, [], ◌∷◌}
use mathlib.Core.Logic.{inl}
use Prim.Native.Nat.{ℕ, ◌+◌, ◌-◌, ◌%◌}
use native.Mathlib.Omega.{arith}
use lib.Dec.{lit≤}
use lib.ListN.{get_or, replicate}
use Rattle.memory.specs.Memory.{word_at}
use Rattle.memory.proofs.Fields.{word_same}
use Rattle.device.specs.Numbers.{counter_place}
use Rattle.device.specs.State.{fresh, fresh_form}
use Rattle.device.specs.Change.{with_ru}
use Rattle.device.specs.declared.Counter.TheVariants as counter
use Rattle.device.specs.declared.Cu.TheVariants as cu
use Rattle.device.specs.declared.Device.{Device}
use Rattle.device.specs.declared.Frame.{Frame}
use Rattle.device.specs.declared.Ru.{Ru}
use Rattle.device.specs.declared.Ru.TheVariants as ru
use Rattle.device.specs.declared.Verdict.TheVariants as verdict
use Rattle.phases.specs.Forms.{form_number}
use Rattle.phases.specs.Phases.{ru_word}
use Rattle.image.specs.Ranges.{units_fit, cu_fits, frame_fits, ru_fits, initialised_or_fresh, in_range, Wide}
use Rattle.image.proofs.Exact.{fresh_range, fresh_wide}
use Rattle.control.specs.Obey.{of_scb}
use Rattle.chip.specs.World.{World, world_of}
use Rattle.chip.specs.Call.{Call, attention, turn, ran}
use Rattle.calls.specs.Calls.{Areas, Called, answer_number}
use Rattle.progress.specs.Trace.{AllMay}
use Rattle.traces.specs.Areas.{shown}
use Rattle.traces.specs.Bytes.{called}
use Rattle.traces.specs.Event.{call, step, WhileHeld}
use Rattle.kinds.specs.Chips.{Handed}
use Rattle.kinds.specs.Closed.{Right}
use Rattle.kinds.specs.Demands.{Acceptable}
use Rattle.kinds.specs.Lists.{turns_of}
use Rattle.kinds.specs.Third.{HeldRun}
use Rattle.kinds.specs.Kinds.{from_edge, another_counter, another_edge, Invents, another_count, another_edges, InventsInTrace, InventsAlong, InventsWhileHeld}
use Rattle.kinds.specs.Spoiled.{at_seven, turned_over, counted_on, inventing, counting}
use Rattle.kinds.proofs.Accepted.{accepted_call}
use Rattle.kinds.proofs.Third.{right_acceptable, right_handed}
use Rattle.kinds.proofs.Closing.{closing}
use Rattle.kinds.proofs.Witness.{zeros, held_area, sent_area, attending, acceptable_on, handed_on, units_with}
use Rattle.kinds.proofs.Two.{two, idle, two_size, acceptable_two, idle_wide, idle_range, waits, begun, pair, right_two, two_run, begun_device, zero_reports, turns_of_lem, acceptable_turns, refused_turns}
use Rattle.kinds.proofs.Spoiled.{over_edge, as_long}
use Rattle.kinds.proofs.Marked.{is_spoilt, units_said, sevenths}

-- ---- at a call

other_edge : (x : ℕ) → 1 - x ≡ x → ⊥
other_edge x e = omega (arith, e)

-- at report 7 the edge is not the definitions'
edge_differs : (w : World) → Acceptable (turn 7) w.device w.memory w.holding w.outgoing → Handed (turn 7) (shown w)
    → from_edge (inventing.calls tt (turn 7) (shown w)).answer ≡ from_edge (answer_number (ran (turn 7) w).outcome.answer) → ⊥
edge_differs w k l e =
    let x = (called (turn 7) (shown w)).answer in
    let same : from_edge x ≡ from_edge (answer_number (ran (turn 7) w).outcome.answer) =
    ap (λ (r : Called). from_edge r.answer) (accepted_call w.device w.memory w.holding w.outgoing (turn 7) k)
    in
    let over =
    ap (λ (r : Called). from_edge r.answer)
    (is_spoilt 7 w.device w.memory w.holding w.outgoing k l at_seven (λ a. turned_over) refl)
    ∙ over_edge x
    in
    other_edge (from_edge x) (sym over ∙ e ∙ sym same)

one_more_lem : (x : ℕ) → (x + 1) % 65536 % 65536 ≡ x → ⊥
one_more_lem x e = omega (arith, e)

-- and the counter is not
abbrev overruns : Device → List ℕ → ℕ
overruns d m = word_at m (of_scb d.units (counter_place counter.Overruns))

count_differs : (w : World) → Acceptable (turn 7) w.device w.memory w.holding w.outgoing → Handed (turn 7) (shown w)
    → overruns w.device (counting.calls tt (turn 7) (shown w)).areas.memory ≡ overruns w.device (ran (turn 7) w).memory → ⊥
count_differs w k l e =
    let m = (called (turn 7) (shown w)).areas.memory in
    let at = of_scb w.device.units (counter_place counter.Overruns) in
    let same : word_at m at ≡ word_at (ran (turn 7) w).memory at =
    ap (λ (r : Called). overruns w.device r.areas.memory) (accepted_call w.device w.memory w.holding w.outgoing (turn 7) k)
    in
    let more : overruns w.device (counting.calls tt (turn 7) (shown w)).areas.memory ≡ (word_at m at + 1) % 65536 % 65536 =
    ap (λ (r : Called). overruns w.device r.areas.memory)
    (is_spoilt 7 w.device w.memory w.holding w.outgoing k l at_seven counted_on refl)
    ∙ rw (units_said 7 w.device w.memory w.holding w.outgoing k l)
    (word_same m at ((word_at m at + 1) % 65536) (omega (arith, as_long 7 (shown w) l, k.size.least)))
    in
    one_more_lem (word_at m at) (sym more ∙ e ∙ sym same)

abbrev freshly : World
freshly = world_of fresh zeros held_area sent_area

fresh_acceptable : Acceptable (turn 7) fresh zeros held_area sent_area
fresh_acceptable = acceptable_on (turn 7) fresh (omega arith) fresh_wide fresh_range

fresh_handed : Handed (turn 7) (shown freshly)
fresh_handed = handed_on (turn 7) fresh sevenths fresh_wide

pub inventing_is_of_its_kind : Invents inventing
inventing_is_of_its_kind =
    record {
      inner = tt;
      call = turn 7;
      device = fresh;
      memory = zeros;
      holding = held_area;
      outgoing = sent_area;
      acceptable = fresh_acceptable;
      lent = fresh_handed;
      invented = another_edge (λ e. edge_differs freshly fresh_acceptable fresh_handed e);
    }

pub counting_is_of_its_kind : Invents counting
counting_is_of_its_kind =
    record {
      inner = tt;
      call = turn 7;
      device = fresh;
      memory = zeros;
      holding = held_area;
      outgoing = sent_area;
      acceptable = fresh_acceptable;
      lent = fresh_handed;
      invented = another_counter fresh.units (inl refl) counter.Overruns (λ e. count_differs freshly fresh_acceptable fresh_handed e);
    }

-- ---- along a trace, of one turn

pub acceptable_right : (c : Call) (w : World) → Acceptable c w.device w.memory w.holding w.outgoing → Handed c (shown w) → Right w
acceptable_right c w s l =
    record {
      areas =
          record {
            size = s.size;
            holding = s.holding;
            outgoing = s.outgoing;
            memory_bytes = l.areas.memory;
            holding_bytes = l.areas.holding;
            outgoing_bytes = l.areas.outgoing;
          };
      wide = s.wide;
      range = s.range;
    }

pub inventing_in_trace_lem : InventsInTrace inventing
inventing_in_trace_lem =
    record {
      inner = tt;
      world = freshly;
      acts = turns_of (7 ∷ []);
      right = acceptable_right (turn 7) freshly fresh_acceptable fresh_handed;
      all_acceptable = (sevenths, lit≤ tt, tt);
      scb = fresh;
      before_or_after = inl refl;
      invented = another_edges (λ e. edge_differs freshly fresh_acceptable fresh_handed (ap (λ (xs : List ℕ). get_or xs 0 0) e));
    }

pub counting_in_trace : InventsInTrace counting
counting_in_trace =
    record {
      inner = tt;
      world = freshly;
      acts = turns_of (7 ∷ []);
      right = acceptable_right (turn 7) freshly fresh_acceptable fresh_handed;
      all_acceptable = (sevenths, lit≤ tt, tt);
      scb = fresh;
      before_or_after = inl refl;
      invented = another_count counter.Overruns (λ e. count_differs freshly fresh_acceptable fresh_handed e);
    }

-- ---- in the run of a list: two NOPs, and the first turn after the start

start_acceptable : Acceptable attention idle two held_area sent_area
start_acceptable = acceptable_two attention idle two (omega arith) two_size idle_wide idle_range

after_right : Right begun
after_right = closing.each attention waits attending (omega arith) right_two

-- what it is lent is what the attention left
after_acceptable : Acceptable (turn 7) begun.device begun.memory begun.holding begun.outgoing
after_acceptable = right_acceptable (turn 7) begun (omega arith) after_right

after_handed : Handed (turn 7) (shown begun)
after_handed = right_handed (turn 7) begun sevenths after_right

after_lent : (called attention (shown waits)).areas ≡ shown begun
after_lent = ap (λ (r : Called). r.areas) (accepted_call idle two held_area sent_area attention start_acceptable)

pub inventing_along_lem : InventsAlong inventing
inventing_along_lem =
    record {
      inner = tt;
      blocks = pair;
      acts = turns_of (7 ∷ []);
      more = turns_of (replicate 263 0);
      world = waits;
      comes = two_run 7 (omega arith);
      invented =
          another_edges
          (λ e.
          edge_differs begun after_acceptable after_handed
          (ap (λ (a : Areas). from_edge (inventing.calls tt (turn 7) a).answer) (sym after_lent) ∙ ap (λ (xs : List ℕ). get_or xs 1 0) e));
    }

-- the SCB stays where it was
same_place : (m : List ℕ) → overruns begun.device m ≡ overruns idle m
same_place m = ap (λ (d : Device). overruns d m) begun_device

pub counting_along : InventsAlong counting
counting_along =
    record {
      inner = tt;
      blocks = pair;
      acts = turns_of (7 ∷ []);
      more = turns_of (replicate 263 0);
      world = waits;
      comes = two_run 7 (omega arith);
      invented =
          another_count counter.Overruns
          (λ e.
          count_differs begun after_acceptable after_handed
          (same_place _ ∙ ap (λ (a : Areas). overruns idle (counting.calls tt (turn 7) a).areas.memory) (sym after_lent) ∙ e ∙ sym (same_place _)));
    }

-- ---- while a frame is held, its begin turn next: the first of 132 turns

abbrev sixty : Frame
sixty = record { length = 60; verdict = verdict.Good; short = false; savebad = false; form = fresh_form }

abbrev unit : Ru
unit = ru.Held (record { 0 = 0x60 }) sixty false

abbrev holder : Device
holder = record { units = with_ru (units_with cu.Idle) unit; own = replicate 6 255; filter = 0 }

holder_wide : Wide holder
unfolding form_number ru_word
holder_wide =
    record {
      scb = idle_wide.scb;
      minimum = idle_wide.minimum;
      cu = idle_wide.cu;
      ru = record { at = omega arith; kind = omega arith; size = omega arith; next = omega arith };
      own = refl;
      own_bytes_lem = idle_wide.own_bytes_lem;
      filter = idle_wide.filter;
    }

holder_range : in_range holder ≡ true
unfolding in_range units_fit cu_fits ru_fits frame_fits initialised_or_fresh
holder_range = refl

abbrev holds : World
holds = world_of holder zeros held_area sent_area

holds_acceptable : Acceptable (turn 7) holder zeros held_area sent_area
holds_acceptable = acceptable_on (turn 7) holder (omega arith) holder_wide holder_range

holds_handed : Handed (turn 7) (shown holds)
holds_handed = handed_on (turn 7) holder sevenths holder_wide

calm : (rs : List ℕ) (w : World) → AllMay WhileHeld step (turns_of_lem rs) w
calm [] w = tt
calm (r ∷ rs) w = (refl, calm rs (step (call (turn r)) w))

held_run : HeldRun 132 sixty (turns_of (7 ∷ replicate 131 0)) holds
held_run =
    record {
      right = acceptable_right (turn 7) holds holds_acceptable holds_handed;
      holds = refl;
      acceptable = acceptable_turns (7 ∷ replicate 131 0) (omega arith, zero_reports 131);
      refused = refused_turns (7 ∷ replicate 131 0);
      events = calm (7 ∷ replicate 131 0) holds;
      turns = lit≤ tt;
    }

pub inventing_while_held_lem : InventsWhileHeld inventing
inventing_while_held_lem =
    record {
      inner = tt;
      frame = sixty;
      acts = turns_of (7 ∷ []);
      more = turns_of (replicate 131 0);
      world = holds;
      comes = held_run;
      invented = another_edges (λ e. edge_differs holds holds_acceptable holds_handed (ap (λ (xs : List ℕ). get_or xs 0 0) e));
    }

pub counting_while_held : InventsWhileHeld counting
counting_while_held =
    record {
      inner = tt;
      frame = sixty;
      acts = turns_of (7 ∷ []);
      more = turns_of (replicate 131 0);
      world = holds;
      comes = held_run;
      invented = another_count counter.Overruns (λ e. count_differs holds holds_acceptable holds_handed e);
    }
