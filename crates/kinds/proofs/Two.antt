-- A list of two NOPs: a chip that serves the first command only lacks demands 2 and 3. Assumes nothing.
use mathlib.Core.Path.{◌≡◌, refl, sym, ap, ◌∙◌}
use mathlib.Core.Bool.{Bool, true, false, false≢true}
use mathlib.Core.List.{List, [], ◌∷◌}
use Prim.Native.Nat.{ℕ, zero, suc, ◌+◌, ◌^◌, ◌≤◌, ◌<◌}
use native.Mathlib.Omega.{arith}
use lib.Dec.{lit≤}
use lib.ListN.{length, replicate, length-replicate}
use Rattle.memory.specs.Address.{place}
use Rattle.memory.specs.Memory.{word_at, Write, apply, word_to}
use Rattle.memory.specs.declared.Offset.{Offset}
use Rattle.memory.proofs.Bytes.{Bytes, bytes_nil, apply_bytes, digits_bytes}
use Rattle.memory.proofs.Fields.{Apart, up, down}
use Rattle.memory.proofs.Laws.{length_apply}
use Rattle.scb.specs.Words.{bit}
use Rattle.device.specs.Limits.{holding_size, outgoing_size}
use Rattle.device.specs.State.{cu_works, ru_works}
use Rattle.device.specs.declared.Cu.TheVariants as cu
use Rattle.device.specs.declared.Device.{Device}
use Rattle.phases.specs.Phases.{cu_word}
use Rattle.image.specs.Ranges.{cu_fits, in_range, Wide}
use Rattle.image.proofs.Exact.{image_bytes}
use Rattle.actions.specs.Setup.{setup_of}
use Rattle.chip.specs.World.{World, world_of}
use Rattle.chip.specs.Call.{Call, attention}
use Rattle.calls.specs.Calls.{Areas}
use Rattle.progress.specs.Trace.{run}
use Rattle.progress.specs.Machine.{Undisturbed}
use Rattle.traces.specs.Areas.{shown}
use Rattle.traces.specs.Event.{Event, call, step}
use Rattle.lists.specs.Uses.{Listed}
use Rattle.lists.specs.Unit.{machine}
use Rattle.lists.specs.Done.{Starts, enough}
use Rattle.lists.specs.Done as lists
use Rattle.lists.proofs.Tests.{keptb, kept_ok, clash_ok, calls_ok, idle_turn_lem, idle_kept}
use Rattle.closure.specs.Refusals.{FrameRight}
use Rattle.kinds.specs.Chips.{Chip, Given, Handed, Meets, does, events_in, chip_run}
use Rattle.kinds.specs.Demands.{Acceptable, lent_of, Demand2}
use Rattle.kinds.specs.Closed.{Right, Closed}
use Rattle.kinds.specs.Lists.{Starting, turns_of, AllReports}
use Rattle.kinds.specs.Third.{AllAcceptable, AllRefused, ListRun, Demand3}
use Rattle.kinds.specs.Kinds.{FirstOnly}
use Rattle.kinds.proofs.Ours.{has_demand2}
use Rattle.kinds.proofs.Third.{along, run_left, said_left}
use Rattle.kinds.proofs.Witness.{zeros, held_area, sent_area, zero_bytes, smallest, attending, with_unit, wide_with, range_with}

-- ---- the memory: SCB at 30h with START and the CBL offset 40h; NOPs at 40h and, with EL, at 50h

abbrev pub words : List Write
words = word_to 0x32 0x0100 ∷ word_to 0x34 0x40 ∷ word_to 0x44 0x50 ∷ word_to 0x52 0x8000 ∷ []

abbrev pub two : List ℕ
two = apply words zeros

abbrev pub one : Offset
one = record { 0 = 0x40 }

abbrev pub other : Offset
other = record { 0 = 0x50 }

abbrev pub idle : Device
idle = with_unit cu.Idle

pub two_size : length two ≡ 8192
two_size = length_apply words zeros ∙ length-replicate {A = ℕ} 8192 0

pub two_bytes : Bytes two
two_bytes =
    apply_bytes words zeros (digits_bytes 2 0x0100, (digits_bytes 2 0x40, (digits_bytes 2 0x50, (digits_bytes 2 0x8000, tt)))) (zero_bytes 8192)

-- ---- what is lent, whatever writes have been made

pub acceptable_two : (c : Call) (d : Device) (m : List ℕ) → FrameRight c → length m ≡ 8192 → Wide d → in_range d ≡ true → Acceptable c d m held_area sent_area
acceptable_two c d m f n w e =
    record {
      size = rw n smallest;
      holding = length-replicate {A = ℕ} holding_size 0;
      outgoing = length-replicate {A = ℕ} outgoing_size 0;
      frame = f;
      wide = w;
      range = e;
    }

pub handed_two : (c : Call) (d : Device) (m : List ℕ) → Given c → Bytes m → Wide d → Handed c (lent_of d m held_area sent_area)
handed_two c d m g b w =
    record {
      given = g;
      areas = record { memory = b; holding = zero_bytes holding_size; outgoing = zero_bytes outgoing_size; kept = image_bytes d w };
    }

pub idle_wide : Wide idle
unfolding cu_word
idle_wide = wide_with cu.Idle (record { at = omega arith; kind = omega arith; size = omega arith; next = omega arith })

pub idle_range : in_range idle ≡ true
unfolding cu_fits
idle_range = range_with cu.Idle refl

-- ---- the start

apart_at : (a j b k : ℕ) → a + j ≤ b → b + k ≤ a + 8192 → Apart (length two) a j b k
apart_at a j b k p q = rw two_size (up 8192 a j b k p q)

apart_down : (a j b k : ℕ) → b + k ≤ a → a + j ≤ b + 8192 → Apart (length two) a j b k
apart_down a j b k p q = rw two_size (down 8192 a j b k p q)

pub starting : Starting idle two one (other ∷ [])
unfolding keptb
starting =
    record {
      initialised = refl;
      idle = refl;
      free = refl;
      unreset = refl;
      start = refl;
      at = refl;
      listed = (refl, refl, refl);
      scb_apart = (apart_at 0x30 4 0x40 6 (omega arith) (omega arith), (apart_at 0x30 4 0x50 6 (omega arith) (omega arith), tt));
      blocks_apart = (
        (
          (
            record { status = apart_at 0x40 2 0x50 6 (omega arith) (omega arith); word = λ t. apart_at 0x46 2 0x50 6 (omega arith) (omega arith) },
            record { status = apart_down 0x50 2 0x40 6 (omega arith) (omega arith); word = λ t. apart_down 0x56 2 0x40 6 (omega arith) (omega arith) },
          ),
          tt,
        ),
        (tt, tt),
      );
    }

-- ---- what demand 3 asks of it: the list, 264 turns

pub zero_reports : (n : ℕ) → AllReports (replicate n 0)
zero_reports zero = tt
zero_reports (suc n) = (omega arith, zero_reports n)

abbrev pub waits : World
waits = world_of idle two held_area sent_area

abbrev pub begun : World
begun = step (call attention) waits

abbrev pub pair : List ℕ
pair = 0x40 ∷ 0x50 ∷ []

abbrev pub turns_of_lem : List ℕ → List Event
turns_of_lem rs = events_in (turns_of rs)

-- after four turns both are done, whatever the first line report
abbrev over : ℕ → World
over r = run step (turns_of_lem (r ∷ 0 ∷ 0 ∷ 0 ∷ [])) begun

pub right_two : Right waits
right_two =
    let s = acceptable_two attention idle two (omega arith) two_size idle_wide idle_range in
    record {
      areas =
          record {
            size = s.size;
            holding = s.holding;
            outgoing = s.outgoing;
            memory_bytes = two_bytes;
            holding_bytes = zero_bytes holding_size;
            outgoing_bytes = zero_bytes outgoing_size;
          };
      wide = idle_wide;
      range = idle_range;
    }

pub acceptable_turns : (rs : List ℕ) → AllReports rs → AllAcceptable (turns_of_lem rs)
acceptable_turns [] p = tt
acceptable_turns (r ∷ rs) p = (record { frame = bytes_nil; numbers = p.0 }, omega arith, acceptable_turns rs p.1)

pub refused_turns : (rs : List ℕ) → AllRefused (turns_of rs)
refused_turns [] = tt
refused_turns (r ∷ rs) = refused_turns rs

-- turns without work
idle_run : (w : World) → cu_works w.device.units.cu ≡ false → ru_works w.device.units.ru ≡ false → (rs : List ℕ)
    → run step (turns_of_lem rs) w ≡ w
idle_run w a b [] = refl
idle_run w a b (r ∷ rs) = ap (run step (turns_of_lem rs)) (idle_turn_lem w r a b) ∙ idle_run w a b rs

begins_at : Starts waits
unfolding keptb
begins_at = record { initialised = refl; unreset = refl; start = refl; idle = refl }

stands : Listed begun.device.units.base begun.memory pair
unfolding keptb
stands = (refl, refl, refl)

begun_size : length begun.memory ≡ 8192
unfolding keptb
begun_size = refl

-- no result of the first is a byte of the second
two_apart : lists.Apart pair begun
unfolding keptb
two_apart = clash_ok (length begun.memory) begun.device.units.base (setup_of begun.device) begun.memory pair tt

four_kept : (r : ℕ) → Undisturbed machine (lists.bytes_of begun pair) (turns_of_lem (r ∷ 0 ∷ 0 ∷ 0 ∷ [])) begun
unfolding keptb
four_kept r = kept_ok (lists.bytes_of begun pair) (turns_of_lem (r ∷ 0 ∷ 0 ∷ 0 ∷ [])) begun tt

over_idle : (r : ℕ) → cu_works (over r).device.units.cu ≡ false
unfolding keptb
over_idle r = refl

over_free : (r : ℕ) → ru_works (over r).device.units.ru ≡ false
unfolding keptb
over_free r = refl

pub two_run : (r : ℕ) → r < 2 ^ 16 → ListRun enough pair (turns_of (r ∷ replicate 263 0)) waits
unfolding keptb
two_run r p =
    let kept = four_kept r in
    let Idle-then = idle_kept 260 0 (lists.bytes_of begun pair) (over r) (over_idle r) (over_free r) in
    record {
      right = right_two;
      sets_off = record { starts = begins_at; first = refl };
      listed = stands;
      acceptable = acceptable_turns (r ∷ replicate 263 0) (p, zero_reports 263);
      refused = refused_turns (r ∷ replicate 263 0);
      premises =
          record {
            size = omega (arith, begun_size);
            apart = two_apart;
            events = calls_ok (turns_of_lem (r ∷ replicate 263 0)) begun tt;
            intact = (kept.0, (kept.1.0, (kept.1.1.0, (kept.1.1.1.0, Idle-then))));
            turns = lit≤ tt;
          };
    }

-- the definitions set C in the second block
clear_before : bit (word_at two (place (record { 0 = 0 }) other 0)) 15 ≡ false
unfolding keptb
clear_before = refl

set_after : bit (word_at (over 0).memory (place (record { 0 = 0 }) other 0)) 15 ≡ true
unfolding keptb
set_after = refl

pub begun_device : begun.device ≡ with_unit (cu.Waiting one)
unfolding keptb
begun_device = refl

module _ (chip : Chip) where
  -- ---- serves the first command only: the second block would not get C, but gets it by the fourth turn
  gets_c : FirstOnly chip → (reports : List ℕ) → AllReports reports
      → chip_run chip chip.first (does (call attention) ∷ turns_of reports) (shown waits) ≡ shown (run step (turns_of_lem reports) begun)
      → run step (turns_of_lem reports) begun ≡ over 0 → ⊥
  gets_c k reports p left ends =
      let s = acceptable_two attention idle two (omega arith) two_size idle_wide idle_range in
      let l = handed_two attention idle two attending two_bytes idle_wide in
      let never = (k.each chip.first idle two held_area sent_area one (other ∷ []) reports s l starting p).0 in
      let c : Areas → Bool = λ a. bit (word_at a.memory (place (record { 0 = 0 }) other 0)) 15 in
      false≢true (sym clear_before ∙ never (ap c (left ∙ ap shown ends) ∙ set_after))

  -- demand 3
  pub first_only_lacks_3 : FirstOnly chip → Demand3 chip → ⊥
  first_only_lacks_3 k d =
      let reports : List ℕ = 0 ∷ replicate 263 0 in
      let said = (d.list chip.first pair (turns_of reports) waits (two_run 0 (omega arith))).1 in
      gets_c k reports (zero_reports 264) (said_left chip (does (call attention) ∷ turns_of reports) chip.first waits said)
      (idle_run (over 0) (over_idle 0) (over_free 0) (replicate 260 0))

  -- and demand 2, since every state that a call leaves is in range
  pub first_only_lacks_2 : Closed → FirstOnly chip → Demand2 chip → ⊥
  first_only_lacks_2 closed k q =
      let reports : List ℕ = replicate 4 0 in
      let acts = does (call attention) ∷ turns_of reports in
      let same = along closed chip q acts chip.first waits (attending, lit≤ tt, acceptable_turns reports (zero_reports 4)) right_two in
      gets_c k reports (zero_reports 4) (run_left chip acts chip.first waits same) refl

  pub no_first_only : Closed → FirstOnly chip → Meets chip → ⊥
  no_first_only closed k p = first_only_lacks_2 closed k (has_demand2 chip p)
