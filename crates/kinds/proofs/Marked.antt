-- The chips that mark commands complete without acting, or before it, are of their kinds, and do complete. Assumes nothing.
use mathlib.Core.Path.{◌≡◌, refl, sym, ap, ◌∙◌}
use mathlib.Core.Bool.{Bool, true, false, not}
use mathlib.Core.List.{List, [], ◌∷◌, ◌++◌, append_assoc}
use Prim.Native.Nat.{ℕ, ◌+◌, ◌%◌, ◌≤◌}
use native.Mathlib.Omega.{arith}
use lib.Dec.{eqb}
use lib.ListN.{length, take, drop}
use lib.Seq.{sets, sets-eq, length-take-le}
use Rattle.memory.specs.Address.{place}
use Rattle.memory.specs.Memory.{digits, word_at, apply}
use Rattle.memory.specs.declared.Offset.{Offset}
use Rattle.memory.specs.declared.RealAddress.{RealAddress}
use Rattle.memory.proofs.Bytes.{Bytes, bytes_nil, field_bound}
use Rattle.memory.proofs.Fields.{word_same, word_other}
use Rattle.memory.proofs.Places.{place_down}
use Rattle.scb.specs.Words.{bit, bits_at}
use Rattle.device.specs.declared.Action.TheVariants as action
use Rattle.device.specs.declared.Begun.{Begun}
use Rattle.device.specs.declared.Cu.{Cu}
use Rattle.device.specs.declared.Cu.TheVariants as cu
use Rattle.device.specs.declared.Device.{Device}
use Rattle.numerals.specs.Places.{bytes_from}
use Rattle.numerals.proofs.Laws.{length_from, first_of, second_of}
use Rattle.phases.specs.Phases.{cu_word}
use Rattle.packed.specs.Record.{setup_at}
use Rattle.packed.specs.SetUp.{setup_size}
use Rattle.image.specs.Image.{image_of}
use Rattle.image.specs.Ranges.{cu_fits, in_range, Wide}
use Rattle.image.proofs.Exact.{decode_image}
use Rattle.image.proofs.Steps.{length_image}
use Rattle.actions.specs.Block.{block_status_at, argument_at}
use Rattle.chip.specs.World.{world_of}
use Rattle.chip.specs.Call.{turn, ran}
use Rattle.calls.specs.Calls.{Areas, Called}
use Rattle.traces.specs.Areas.{units_by, units_in}
use Rattle.traces.specs.Bytes.{called, number, sent_length, is_refused}
use Rattle.closure.proofs.Refusals.{gives_none}
use Rattle.closure.proofs.Carried.{areas_as_long}
use Rattle.lists.proofs.Tests.{keptb}
use Rattle.kinds.specs.Chips.{Given, Handed}
use Rattle.kinds.specs.Demands.{Acceptable, lent_of}
use Rattle.kinds.specs.Kinds.{InWork, Completes, setup_in, SetsNothing, MeasuresNothing, SendsNothing, MarksOnly, word_undone, not_due, MarksSome}
use Rattle.kinds.specs.Spoiled.{spoiling, always, at_seven, unset, measured_in, words_back, unmeasured, unsent, unacted, marked_at_once, setting_nothing, measuring_nothing, sending_nothing, marking_only, marking_at_seven, marking_at_once}
use Rattle.kinds.proofs.Ours.{called_tabled}
use Rattle.kinds.proofs.Accepted.{accepted_call}
use Rattle.kinds.proofs.Spoiled.{as_long, unsent_length}
use Rattle.kinds.proofs.Witness.{zeros, held_area, sent_area, turning, acceptable_on, handed_on, block, begun, with_unit, wide_with, range_with, setting_up, setting_wide, setting_range, setting_done, measuring, measuring_wide, measuring_range, measuring_done, sending, sending_wide, sending_range, sending_done, not_done, not_measured}

-- ---- bytes and words put back

spliced : (q s : List ℕ) → length q ≡ 256 → length s ≡ setup_size → setup_in (sets q setup_at s) ≡ s
spliced q s n size =
    let before = take setup_at q in
    let behind = drop (setup_at + length s) q in
    let long : length before ≡ 240 = length-take-le setup_at q (omega (arith, n)) in
    rw (sets-eq s q setup_at (omega (arith, n, size)), append_assoc before s behind)
    (rw long at (second_of before (s ++ behind) 0 setup_size) ∙ ap (λ (j : ℕ). bytes_from (s ++ behind) 0 j) (sym size) ∙ first_of s behind)

word_at_lem : (base : RealAddress) (p o : Offset) (m q : List ℕ) → p ≡ o → 2 ≤ length q → Bytes m
    → word_at (apply (words_back base m (p ∷ [])) q) (place base o argument_at) ≡ word_at m (place base o argument_at)
word_at_lem base p o m q e n y =
    let w = word_at m (place base o argument_at) in
    let low : w % 65536 ≡ w = omega (arith, field_bound m (place base o argument_at) 2 y) in
    rw e (word_same q (place base o argument_at) w n ∙ low)

word_again : (c : Cu) (b : Begun) (base : RealAddress) (o : Offset) (m q : List ℕ) → c ≡ cu.Acting b action.Tdr → InWork c o → 2 ≤ length q → Bytes m
    → word_at (apply (words_back base m (measured_in c)) q) (place base o argument_at) ≡ word_at m (place base o argument_at)
word_again c b base o m q e w n y = rw e (word_at_lem base b.block o m q (rw e at w) n y)

-- the status before it is none of its bytes
status_kept : (base : RealAddress) (o : Offset) (m q : List ℕ) → 8 ≤ length q
    → word_at (apply (words_back base m (o ∷ [])) q) (place base o block_status_at) ≡ word_at q (place base o block_status_at)
unfolding digits
status_kept base o m q n =
    word_other q (place base o argument_at) (digits 2 (word_at m (place base o argument_at))) (place base o block_status_at)
    (place_down base o (length q) 6 2 0 2 (omega arith) (omega (arith, n)))

-- ---- a turn that is not to be refused is spoilt

module _ (report : ℕ) (d : Device) (m h out : List ℕ) (k : Acceptable (turn report) d m h out) (l : Handed (turn report) (lent_of d m h out)) where
  abbrev lent : Areas
  lent = lent_of d m h out

  abbrev left : Called
  left = called (turn report) lent

  number_none : number left.answer ≡ 0
  number_none =
      (called_tabled (turn report) lent l).given 0
      (gives_none (turn report) lent
      (record {
        size = k.size;
        kept = length_image d k.wide.own;
        holding = k.holding;
        outgoing = k.outgoing;
        frame = k.frame;
        image = (d, record { wide = k.wide; range = k.range; image = refl });
      }))

  pub not_refused : is_refused left ≡ false
  not_refused = ap (λ (n : ℕ). not (eqb n 0)) number_none

  pub is_spoilt : (at : ℕ → Bool) (spoil : Areas → Called → Called) → at report ≡ true → spoiling at spoil (turn report) lent ≡ spoil lent left
  is_spoilt at spoil e = rw (e, not_refused)

  -- the settings are as they were
  settings_back : setup_in (unset lent left).areas.kept ≡ setup_in (image_of d)
  settings_back =
      let q = left.areas.kept in
      let s = setup_in (image_of d) in
      let n : length q ≡ 256 = (areas_as_long (turn report) lent l.given.frame l.areas).kept ∙ length_image d k.wide.own in
      let size : length s ≡ setup_size = length_from (image_of d) setup_at setup_size in
      spliced q s n size

  -- TDR's word is as it was
  pub units_said : units_in (image_of d) ≡ d.units
  units_said = ap units_by (decode_image d k.wide k.range)

  word_back : (o : Offset) (b : Begun) (q : List ℕ) → length q ≡ length m → InWork d.units.cu o → d.units.cu ≡ cu.Acting b action.Tdr
      → word_at (apply (words_back (units_in (image_of d)).base m (measured_in (units_in (image_of d)).cu)) q) (place d.units.base o argument_at)
      ≡ word_at m (place d.units.base o argument_at)
  word_back o b q n w e =
      rw units_said (word_again d.units.cu b d.units.base o m q e w (omega (arith, n, k.size.least)) l.areas.memory)

-- ---- the kinds

pub setting_nothing_is_of_its_kind : SetsNothing setting_nothing
setting_nothing_is_of_its_kind =
    record {
      each =
          λ s report d m h out o k l c.
          ap (λ (r : Called). setup_in r.areas.kept) (is_spoilt report d m h out k l always unset refl) ∙ settings_back report d m h out k l;
    }

pub measuring_nothing_is_of_its_kind : MeasuresNothing measuring_nothing
measuring_nothing_is_of_its_kind =
    record {
      each =
          λ s report d m h out o k l c b e.
          ap (λ (r : Called). word_at r.areas.memory (place d.units.base o argument_at)) (is_spoilt report d m h out k l always unmeasured refl)
          ∙ word_back report d m h out k l o b (left report d m h out k l).areas.memory (as_long report (lent_of d m h out) l) c.block e;
    }

pub sending_nothing_is_of_its_kind : SendsNothing sending_nothing
sending_nothing_is_of_its_kind =
    record {
      each =
          λ s report d m h out o k l c.
          ap (λ (r : Called). sent_length r.answer) (is_spoilt report d m h out k l always (λ a. unsent) refl)
          ∙ unsent_length (left report d m h out k l).answer;
    }

pub marking_only_is_of_its_kind : MarksOnly marking_only
marking_only_is_of_its_kind =
    record {
      settings =
          record {
            each =
                λ s report d m h out o k l c.
                ap (λ (r : Called). setup_in r.areas.kept) (is_spoilt report d m h out k l always unacted refl) ∙ settings_back report d m h out k l;
          };
      tdr =
          record {
            each =
                λ s report d m h out o k l c b e.
                ap (λ (r : Called). word_at r.areas.memory (place d.units.base o argument_at)) (is_spoilt report d m h out k l always unacted refl)
                ∙ word_back report d m h out k l o b (left report d m h out k l).areas.memory (as_long report (lent_of d m h out) l) c.block e;
          };
      sending =
          record {
            each =
                λ s report d m h out o k l c.
                ap (λ (r : Called). sent_length r.answer) (is_spoilt report d m h out k l always unacted refl)
                ∙ unsent_length (left report d m h out k l).answer;
          };
    }

-- ---- and they do complete: at an end turn they set C as the definitions do

module _ (report : ℕ) (c : Cu) (wide : Wide (with_unit c)) (range : in_range (with_unit c) ≡ true) (given : Given (turn report)) where
  abbrev fits : Acceptable (turn report) (with_unit c) zeros held_area sent_area
  fits = acceptable_on (turn report) (with_unit c) (omega arith) wide range

  abbrev handed : Handed (turn report) (lent_of (with_unit c) zeros held_area sent_area)
  handed = handed_on (turn report) (with_unit c) given wide

  abbrev areas : Areas
  areas = lent_of (with_unit c) zeros held_area sent_area

  abbrev c_in : List ℕ → Bool
  c_in m = bit (word_at m (place (record { 0 = 0 }) block block_status_at)) 15

  -- as the definitions leave it
  c_left : c_in (ran (turn report) (world_of (with_unit c) zeros held_area sent_area)).memory ≡ true → c_in (called (turn report) areas).areas.memory ≡ true
  c_left e = ap (λ (r : Called). c_in r.areas.memory) (accepted_call (with_unit c) zeros held_area sent_area (turn report) fits) ∙ e

  -- so it is where memory is not spoilt
  same_c : (at : ℕ → Bool) (spoil : Areas → Called → Called) → at report ≡ true
      → (spoil areas (called (turn report) areas)).areas.memory ≡ (called (turn report) areas).areas.memory
      → c_in (ran (turn report) (world_of (with_unit c) zeros held_area sent_area)).memory ≡ true
      → c_in (spoiling at spoil (turn report) areas).areas.memory ≡ true
  same_c at spoil e same done =
      ap (λ (r : Called). c_in r.areas.memory) (is_spoilt report (with_unit c) zeros held_area sent_area fits handed at spoil e) ∙ ap c_in same ∙ c_left done

-- and where TDR's word is put back
module _ (report : ℕ) (given : Given (turn report)) where
  word_c : c_in report measuring measuring_wide measuring_range given (ran (turn report) (world_of (with_unit measuring) zeros held_area sent_area)).memory ≡ true
      → c_in report measuring measuring_wide measuring_range given
      (unmeasured (areas report measuring measuring_wide measuring_range given)
      (called (turn report) (areas report measuring measuring_wide measuring_range given))).areas.memory
      ≡ true
  word_c done =
      let k = fits report measuring measuring_wide measuring_range given in
      let l = handed report measuring measuring_wide measuring_range given in
      let a = areas report measuring measuring_wide measuring_range given in
      let q = (called (turn report) a).areas.memory in
      let n = as_long report a l in
      rw (units_said report (with_unit measuring) zeros held_area sent_area k l, status_kept (record { 0 = 0 }) block zeros q (omega (arith, n, k.size.least)))
      (c_left report measuring measuring_wide measuring_range given done)

pub setting_nothing_completes :
    Completes (with_unit setting_up) zeros (setting_nothing.calls tt (turn 0) (lent_of (with_unit setting_up) zeros held_area sent_area)) block
setting_nothing_completes =
    record { block = refl; before = not_done; after = same_c 0 setting_up setting_wide setting_range turning always unset refl refl setting_done }

pub sending_nothing_completes :
    Completes (with_unit sending) zeros (sending_nothing.calls tt (turn 0) (lent_of (with_unit sending) zeros held_area sent_area)) block
sending_nothing_completes =
    record { block = refl; before = not_done; after = same_c 0 sending sending_wide sending_range turning always (λ a. unsent) refl refl sending_done }

measured_c : (report : ℕ) (given : Given (turn report)) (at : ℕ → Bool) (spoil : Areas → Called → Called) → at report ≡ true
    → ((a : Areas) (r : Called) → (spoil a r).areas.memory ≡ (unmeasured a r).areas.memory)
    → c_in report measuring measuring_wide measuring_range given (ran (turn report) (world_of (with_unit measuring) zeros held_area sent_area)).memory ≡ true
    → Completes (with_unit measuring) zeros (spoiling at spoil (turn report) (lent_of (with_unit measuring) zeros held_area sent_area)) block
measured_c report given at spoil e same done =
    let k = fits report measuring measuring_wide measuring_range given in
    let l = handed report measuring measuring_wide measuring_range given in
    let a = areas report measuring measuring_wide measuring_range given in
    record {
      block = refl;
      before = not_done;
      after =
          ap (λ (r : Called). c_in report measuring measuring_wide measuring_range given r.areas.memory)
          (is_spoilt report (with_unit measuring) zeros held_area sent_area k l at spoil e)
          ∙ ap (c_in report measuring measuring_wide measuring_range given) (same a (called (turn report) a)) ∙ word_c report given done;
    }

pub measuring_nothing_completes :
    Completes (with_unit measuring) zeros (measuring_nothing.calls tt (turn 0) (lent_of (with_unit measuring) zeros held_area sent_area)) block
measuring_nothing_completes = measured_c 0 turning always unmeasured refl (λ a r. refl) measuring_done

pub marking_only_completes :
    Completes (with_unit measuring) zeros (marking_only.calls tt (turn 0) (lent_of (with_unit measuring) zeros held_area sent_area)) block
marking_only_completes = measured_c 0 turning always unacted refl (λ a r. refl) measuring_done

-- ---- at report 7 alone

pub sevenths : Given (turn 7)
sevenths = record { frame = bytes_nil; numbers = omega arith }

seven_done : bit (word_at (ran (turn 7) (world_of (with_unit measuring) zeros held_area sent_area)).memory (place (record { 0 = 0 }) block 0)) 15 ≡ true
unfolding keptb
seven_done = refl

seven_measured : word_at (ran (turn 7) (world_of (with_unit measuring) zeros held_area sent_area)).memory (place (record { 0 = 0 }) block 6) ≡ 0x8000
unfolding keptb
seven_measured = refl

pub marking_at_seven_is_of_its_kind : MarksSome marking_at_seven
marking_at_seven_is_of_its_kind =
    let d = with_unit measuring in
    let k = fits 7 measuring measuring_wide measuring_range sevenths in
    let l = handed 7 measuring measuring_wide measuring_range sevenths in
    let a = areas 7 measuring measuring_wide measuring_range sevenths in
    let same =
    ap (λ (r : Called). word_at r.areas.memory (place (record { 0 = 0 }) block argument_at))
    (is_spoilt 7 d zeros held_area sent_area k l at_seven unacted refl)
    ∙ word_back 7 d zeros held_area sent_area k l block begun (called (turn 7) a).areas.memory (as_long 7 a l) refl refl
    in
    let completes = measured_c 7 sevenths at_seven unacted refl (λ a r. refl) seven_done in
    record {
      inner = tt;
      call = turn 7;
      device = d;
      memory = zeros;
      holding = held_area;
      outgoing = sent_area;
      block = block;
      acceptable = k;
      lent = l;
      marks = record { block = tt; before = completes.before; after = completes.after };
      undone = word_undone (λ e. omega (arith, e, same, not_measured, seven_measured));
    }

-- ---- at a begin turn, at which C is not due

abbrev waiting : Cu
waiting = cu.Waiting block

waiting_wide : Wide (with_unit waiting)
unfolding cu_word
waiting_wide = wide_with waiting (record { at = omega arith; kind = omega arith; size = omega arith; next = omega arith })

waiting_range : in_range (with_unit waiting) ≡ true
unfolding cu_fits
waiting_range = range_with waiting refl

-- the definitions write 4000h
begun_not_done : c_in 7 waiting waiting_wide waiting_range sevenths (ran (turn 7) (world_of (with_unit waiting) zeros held_area sent_area)).memory ≡ false
unfolding keptb
begun_not_done = refl

pub marking_at_once_is_of_its_kind : MarksSome marking_at_once
unfolding bits_at
marking_at_once_is_of_its_kind =
    let d = with_unit waiting in
    let k = fits 7 waiting waiting_wide waiting_range sevenths in
    let l = handed 7 waiting waiting_wide waiting_range sevenths in
    let a = areas 7 waiting waiting_wide waiting_range sevenths in
    let q = (called (turn 7) a).areas.memory in
    let c = c_in 7 waiting waiting_wide waiting_range sevenths in
    let room : 2 ≤ length q = omega (arith, as_long 7 a l, k.size.least) in
    let word : word_at (marked_at_once a (called (turn 7) a)).areas.memory (place (record { 0 = 0 }) block block_status_at) ≡ 0xA000 =
    rw (units_said 7 d zeros held_area sent_area k l) (word_same q (place (record { 0 = 0 }) block block_status_at) 0xA000 room)
    in
    record {
      inner = tt;
      call = turn 7;
      device = d;
      memory = zeros;
      holding = held_area;
      outgoing = sent_area;
      block = block;
      acceptable = k;
      lent = l;
      marks =
          record {
            block = tt;
            before = not_done;
            after =
                ap (λ (r : Called). c r.areas.memory) (is_spoilt 7 d zeros held_area sent_area k l at_seven marked_at_once refl)
                ∙ ap (λ (x : ℕ). bit x 15) word;
          };
      undone = not_due begun_not_done;
    }
