-- The inspector's list: which demand a chip of each wrong kind lacks, and that none meets the promises. Assumes nothing.
use mathlib.Core.Path.{◌≡◌, refl, sym, ap, ◌∙◌}
use mathlib.Core.Bool.{false≢true}
use mathlib.Core.List.{List}
use Prim.Native.Nat.{ℕ, ◌<◌}
use native.Mathlib.Omega.{arith}
use lib.ListN.{get_or, take}
use Rattle.memory.specs.Memory.{word_at}
use Rattle.memory.specs.Address.{place}
use Rattle.memory.specs.declared.Offset.{Offset}
use Rattle.scb.specs.Words.{bit}
use Rattle.device.specs.State.{fresh}
use Rattle.device.specs.Numbers.{counter_place}
use Rattle.device.specs.declared.Device.{Device}
use Rattle.image.specs.Image.{image_of}
use Rattle.image.proofs.Exact.{fresh_range, fresh_wide}
use Rattle.image.proofs.Steps.{length_image}
use Rattle.actions.specs.Block.{block_status_at, argument_at}
use Rattle.control.specs.Obey.{of_scb}
use Rattle.chip.specs.World.{Ran}
use Rattle.chip.specs.Call.{attention, turn}
use Rattle.calls.specs.Calls.{Called, answer_number}
use Rattle.traces.specs.Bytes.{number, sent_length}
use Rattle.closure.proofs.Refusals.{gives_none}
use Rattle.kinds.specs.Chips.{Chip, Meets}
use Rattle.kinds.specs.Demands.{Demand1, lent_of, AsDefined, Demand2}
use Rattle.kinds.specs.Kinds.{RefusesAll, OneAnswer, MemoryAsLent, setup_in, SetsNothing, MeasuresNothing, SendsNothing, MarksOnly, Undone, settings_undone, word_undone, length_undone, frame_undone, not_due, AnyBlock, SetsC, MarksSome, Invented, another_counter, another_edge, from_edge, Invents}
use Rattle.kinds.proofs.Ours.{has_demand1, has_demand2}
use Rattle.kinds.proofs.Witness.{zeros, held_area, sent_area, attending, turning, acceptable_on, handed_on, firstly, idly, first_answer, idle_answer, first_status, zero_status, block, with_unit, turned, setting_up, setting_wide, setting_range, setting_done, was_set, is_set, measuring, measuring_wide, measuring_range, measuring_done, measured, begun, sending, sending_wide, sending_range, sending_done, sent_length_lem, not_done, not_measured}

module _ (chip : Chip) where
  -- ---- refuses everything: table of refusals, demand 1. A fresh record is to be given 0 at a turn

  pub refuses_lacks_1 : RefusesAll chip → Demand1 chip → ⊥
  refuses_lacks_1 k d =
      let a = lent_of fresh zeros held_area sent_area in
      let l = handed_on (turn 0) fresh turning fresh_wide in
      let s = acceptable_on (turn 0) fresh (omega arith) fresh_wide fresh_range in
      let more : 0 < number (chip.calls chip.first (turn 0) a).answer = k.each chip.first (turn 0) fresh zeros held_area sent_area s l in
      let none : number (chip.calls chip.first (turn 0) a).answer ≡ 0 =
      (d.each chip.first (turn 0) a l).given 0
      (gives_none (turn 0) a
      (record {
        size = s.size;
        kept = length_image fresh fresh_wide.own;
        holding = s.holding;
        outgoing = s.outgoing;
        frame = omega arith;
        image = (fresh, record { wide = fresh_wide; range = fresh_range; image = refl });
      }))
      in
      omega (arith, more, none)

  pub no_refuses_all : RefusesAll chip → Meets chip → ⊥
  no_refuses_all k p = refuses_lacks_1 k (has_demand1 chip p)

  -- ---- a constant answer: demand 2. The first attention reports an edge, a turn before it does not

  module _ (d : Demand2 chip) where
    at_first : AsDefined firstly (chip.calls chip.first attention (lent_of fresh zeros held_area sent_area))
    at_first =
        d.each chip.first attention fresh zeros held_area sent_area (acceptable_on attention fresh (omega arith) fresh_wide fresh_range)
        (handed_on attention fresh attending fresh_wide)

    at_turn : AsDefined idly (chip.calls chip.first (turn 0) (lent_of fresh zeros held_area sent_area))
    at_turn =
        d.each chip.first (turn 0) fresh zeros held_area sent_area (acceptable_on (turn 0) fresh (omega arith) fresh_wide fresh_range)
        (handed_on (turn 0) fresh turning fresh_wide)

  pub one_answer_lacks_2 : OneAnswer chip → Demand2 chip → ⊥
  one_answer_lacks_2 k d =
      let x =
      k.each chip.first attention fresh zeros held_area sent_area (acceptable_on attention fresh (omega arith) fresh_wide fresh_range)
      (handed_on attention fresh attending fresh_wide)
      in
      let y =
      k.each chip.first (turn 0) fresh zeros held_area sent_area (acceptable_on (turn 0) fresh (omega arith) fresh_wide fresh_range)
      (handed_on (turn 0) fresh turning fresh_wide)
      in
      let p : k.answer ≡ 4294967296 = sym x ∙ (at_first d).answer ∙ first_answer in
      let q : k.answer ≡ 0 = sym y ∙ (at_turn d).answer ∙ idle_answer in
      omega (arith, p, q)

  pub no_one_answer : OneAnswer chip → Meets chip → ⊥
  no_one_answer k p = one_answer_lacks_2 k (has_demand2 chip p)

  -- ---- memory untouched: demand 2. The first attention writes the SCB's status

  pub as_lent_lacks_2 : MemoryAsLent chip → Demand2 chip → ⊥
  as_lent_lacks_2 k d =
      let x =
      k.each chip.first attention fresh zeros held_area sent_area (acceptable_on attention fresh (omega arith) fresh_wide fresh_range)
      (handed_on attention fresh attending fresh_wide)
      in
      let same : firstly.memory ≡ zeros = sym (at_first d).memory ∙ x in
      let z : word_at firstly.memory 0 ≡ word_at zeros 0 = ap (λ (m : List ℕ). word_at m 0) same in
      omega (arith, z, first_status, zero_status)

  pub no_memory_as_lent : MemoryAsLent chip → Meets chip → ⊥
  no_memory_as_lent k p = as_lent_lacks_2 k (has_demand2 chip p)

  -- ---- complete without acting: demand 2. Of settings, TDR's word and sent length, a chip that leaves one alone is excluded already

  pub sets_nothing_lacks_2 : SetsNothing chip → Demand2 chip → ⊥
  sets_nothing_lacks_2 k d =
      let s = acceptable_on (turn 0) (with_unit setting_up) (omega arith) setting_wide setting_range in
      let l = handed_on (turn 0) (with_unit setting_up) turning setting_wide in
      let r = d.each chip.first (turn 0) (with_unit setting_up) zeros held_area sent_area s l in
      let x =
      k.each chip.first 0 (with_unit setting_up) zeros held_area sent_area block s l
      (record { block = refl; before = not_done; after = rw r.memory setting_done })
      in
      let e : setup_in (image_of (turned setting_up).outcome.device) ≡ setup_in (image_of (with_unit setting_up)) =
      sym (ap setup_in r.kept) ∙ x
      in
      let z = ap (λ (y : List ℕ). get_or y 2 0) e in
      omega (arith, z, was_set, is_set)

  pub measures_nothing_lacks_2 : MeasuresNothing chip → Demand2 chip → ⊥
  measures_nothing_lacks_2 k d =
      let s = acceptable_on (turn 0) (with_unit measuring) (omega arith) measuring_wide measuring_range in
      let l = handed_on (turn 0) (with_unit measuring) turning measuring_wide in
      let r = d.each chip.first (turn 0) (with_unit measuring) zeros held_area sent_area s l in
      let x =
      k.each chip.first 0 (with_unit measuring) zeros held_area sent_area block s l
      (record { block = refl; before = not_done; after = rw r.memory measuring_done }) begun refl
      in
      let z = sym (ap (λ (m : List ℕ). word_at m (place (record { 0 = 0 }) block 6)) r.memory) ∙ x in
      omega (arith, z, measured, not_measured)

  pub sends_nothing_lacks_2 : SendsNothing chip → Demand2 chip → ⊥
  sends_nothing_lacks_2 k d =
      let s = acceptable_on (turn 0) (with_unit sending) (omega arith) sending_wide sending_range in
      let l = handed_on (turn 0) (with_unit sending) turning sending_wide in
      let r = d.each chip.first (turn 0) (with_unit sending) zeros held_area sent_area s l in
      let x =
      k.each chip.first 0 (with_unit sending) zeros held_area sent_area block s l
      (record { block = refl; before = not_done; after = rw r.memory sending_done })
      in
      let z = sym (ap sent_length r.answer) ∙ x in
      omega (arith, z, sent_length_lem)

  pub marks_only_lacks_2 : MarksOnly chip → Demand2 chip → ⊥
  marks_only_lacks_2 k d = measures_nothing_lacks_2 k.tdr d

  pub no_sets_nothing : SetsNothing chip → Meets chip → ⊥
  no_sets_nothing k p = sets_nothing_lacks_2 k (has_demand2 chip p)

  pub no_measures_nothing : MeasuresNothing chip → Meets chip → ⊥
  no_measures_nothing k p = measures_nothing_lacks_2 k (has_demand2 chip p)

  pub no_sends_nothing : SendsNothing chip → Meets chip → ⊥
  no_sends_nothing k p = sends_nothing_lacks_2 k (has_demand2 chip p)

  pub no_marks_only : MarksOnly chip → Meets chip → ⊥
  no_marks_only k p = marks_only_lacks_2 k (has_demand2 chip p)

  -- one marking at which the action is not done, or C not due

  module _ (x : Device) (m : List ℕ) (o : Offset) (said : Ran) (r : Called) (p : AsDefined said r) (marks : SetsC AnyBlock x m r o) where
    all_done : Undone x o said r → ⊥
    all_done (settings_undone differs) = differs (ap setup_in p.kept)
    all_done (word_undone differs) = differs (ap (λ (q : List ℕ). word_at q (place x.units.base o argument_at)) p.memory)
    all_done (length_undone differs) = differs (ap sent_length p.answer)
    all_done (frame_undone differs) = differs (ap (take (sent_length (answer_number said.outcome.answer))) p.outgoing)
    all_done (not_due none) =
        false≢true
        (sym none ∙ ap (λ (q : List ℕ). bit (word_at q (place x.units.base o block_status_at)) 15) (sym p.memory) ∙ marks.after)

  pub marks_some_lacks_2 : MarksSome chip → Demand2 chip → ⊥
  marks_some_lacks_2 k d =
      let r = d.each k.inner k.call k.device k.memory k.holding k.outgoing k.acceptable k.lent in
      all_done k.device k.memory k.block _ _ r k.marks k.undone

  pub no_marks_some : MarksSome chip → Meets chip → ⊥
  no_marks_some k p = marks_some_lacks_2 k (has_demand2 chip p)

  -- ---- a counter or an edge that the definitions do not have: demand 2

  module _ (x : Device) (said : Ran) (r : Called) (p : AsDefined said r) where
    nothing_invented : Invented x said r → ⊥
    nothing_invented (another_counter u s k differs) = differs (ap (λ (m : List ℕ). word_at m (of_scb u (counter_place k))) p.memory)
    nothing_invented (another_edge differs) = differs (ap from_edge p.answer)

  pub invents_lacks_2 : Invents chip → Demand2 chip → ⊥
  invents_lacks_2 k d =
      let r = d.each k.inner k.call k.device k.memory k.holding k.outgoing k.acceptable k.lent in
      nothing_invented k.device _ _ r k.invented

  pub no_invents : Invents chip → Meets chip → ⊥
  no_invents k p = invents_lacks_2 k (has_demand2 chip p)
