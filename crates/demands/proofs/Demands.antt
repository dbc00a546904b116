-- The three demands and the inspector's list, sentence by sentence. That every call ends and does nothing undefined is what the check of the code
-- says of all functions; what each exported call promises is in crates/lentoquist/src/lib.rt. Assumes nothing.
use mathlib.Core.Path.{◌≡◌}
use mathlib.Core.Bool.{Bool, true, false, not, ◌&&◌, ◌||◌}
use mathlib.Core.List.{List, [], ◌∷◌, ◌++◌, map}
use mathlib.Core.Logic.{◌⊎◌}
use Prim.Native.Nat.{ℕ, ◌+◌, ◌-◌, ◌*◌, ◌%◌, ◌^◌, ◌≤◌, ◌<◌}
use lib.Dec.{T, eqb}
use lib.ListN.{length, take, drop, replicate}
use Rattle.std.specs.Prelude.{Option, Some, None}
use Rattle.memory.specs.Address.{place, none}
use Rattle.memory.specs.Memory.{bytes_at, put_bytes, digits, field_at, word_at, word_to}
use Rattle.memory.specs.declared.Offset.{Offset}
use Rattle.memory.specs.declared.RealAddress.{RealAddress}
use Rattle.memory.proofs.Bytes.{Bytes}
use Rattle.memory.proofs.Fields as fields
use Rattle.scb.specs.Words.{bits_at, bit, joined, cbl_at}
use Rattle.scb.specs.declared.RuState.TheVariants as rus
use Rattle.scb.proofs.Fields as bit_fields
use Rattle.hash.specs.Hash.{hash}
use Rattle.hash.specs.Numbers.{fast}
use Rattle.hash.specs.Values.{values, all_are, bits_of}
use Rattle.hash.proofs.Faster.{faster_is_hash}
use Rattle.hash.proofs.Shown as folded
use Rattle.device.specs.Answers.{reason_of}
use Rattle.device.specs.Header.{destination_in, source_in, type_in, header, unbuffered}
use Rattle.device.specs.Limits.{type_length, record_size, outgoing_size}
use Rattle.device.specs.Numbers.{refusal_number, refusal_or_0, reason_or_0}
use Rattle.device.specs.State.{ru_state, is_holding, held_in, is_good, fresh_form}
use Rattle.device.specs.declared.Action.TheVariants as action
use Rattle.device.specs.declared.Begun.{Begun}
use Rattle.device.specs.declared.Counter.{Counter}
use Rattle.device.specs.declared.Counter.TheVariants as counter
use Rattle.device.specs.declared.Device.{Device}
use Rattle.device.specs.declared.Fate.{Fate}
use Rattle.device.specs.declared.Fate.TheVariants as fate
use Rattle.device.specs.declared.Form.{Form}
use Rattle.device.specs.declared.Frame.{Frame}
use Rattle.device.specs.declared.Reason.{Reason}
use Rattle.device.specs.declared.Refusal.{Refusal}
use Rattle.device.specs.declared.Ru.TheVariants as ru
use Rattle.device.specs.declared.Settings.{Settings}
use Rattle.device.specs.declared.Storing.{Storing}
use Rattle.device.specs.declared.Verdict.TheVariants as verdict
use Rattle.device.specs.declared.Walk.{Walk}
use Rattle.device.proofs.Header as header_rule
use Rattle.device.proofs.Laws as numbers
use Rattle.filter.specs.Match.{all_ones, is_own, is_group, matches}
use Rattle.filter.proofs.Laws as match
use Rattle.actions.specs.Actions.{acceptable, byte_of, count_of, groups_of, groups, act, done, failed}
use Rattle.actions.specs.Block.{block_status_at}
use Rattle.actions.specs.Setup.{Setup, setup_of}
use Rattle.actions.proofs.Configured as configured
use Rattle.actions.proofs.Filtered as grouping
use Rattle.command.specs.Part.{part_of}
use Rattle.command.specs.Service.{service}
use Rattle.numerals.specs.Places.{field}
use Rattle.packed.specs.Packed.{ru_tag_in}
use Rattle.packed.specs.Record.{ru_at, rest_at, setup_at}
use Rattle.packed.specs.SetUp.{filter_size, filter_at}
use Rattle.image.specs.Image.{packed_at}
use Rattle.image.specs.Ranges.{in_range, Wide}
use Rattle.control.specs.Obey.{of_scb}
use Rattle.chip.specs.World.{World, Ran, afterwards}
use Rattle.chip.specs.Arrival.{arrival_of}
use Rattle.chip.specs.Cases.{all_pass}
use Rattle.chip.specs.Call.{Call, reset, attention, arrive, turn, ran}
use Rattle.chip.proofs.Papers as marked_cases
use Rattle.chip.proofs.Swaps as swapped
use Rattle.calls.specs.Calls.{Areas, Called, on_bytes, turn_call, run_call}
use Rattle.calls.specs.Refusals.{rows, reset_rows}
use Rattle.calls.proofs.Shown as tabled
use Rattle.progress.specs.Trace.{run, AllMay, turns}
use Rattle.traces.specs.Event.{Event, call, step, DuringList, WhileHeld}
use Rattle.traces.specs.Bytes.{called, number, is_refused}
use Rattle.traces.specs.Bytes.{reason as reason_in}
use Rattle.traces.specs.Areas.{FrameBytes, AreBytes, Holds, world_in, world_said, Shows}
use Rattle.traces.specs.Driven.{Lending, left, is_taken, Drive, left_driven, unrolled, AllFair}
use Rattle.closure.specs.Sound.{Sound}
use Rattle.closure.specs.Refusals.{TakesAll, When, Means, Seen, Untouched}
use Rattle.closure.specs.Carried.{Again, Parts}
use Rattle.closure.specs.Turns.{AsTurns}
use Rattle.closure.proofs.Refusals as refusals
use Rattle.closure.proofs.Witness as rows_seen
use Rattle.closure.proofs.Closed as closure
use Rattle.closure.proofs.Carried as carried
use Rattle.closure.proofs.Outside as outside
use Rattle.closure.proofs.Turns as run_of_turns
use Rattle.frames.specs.Arrival as arrival
use Rattle.frames.specs.Reasons.{why_of, Reached, IsOther, Told}
use Rattle.frames.specs.Filtered.{EndsMcSetup, FallsIn, SetUpBy, FilterAfter}
use Rattle.frames.specs.Setups.{left_by, EndsAction, SetupAfter}
use Rattle.frames.specs.Sent.{BeginsTransmit, unit_begun, HeaderPlaced, TakesBuffer, unit_after, BufferTaken, EndsTransmit, TransmitEnded}
use Rattle.frames.specs.Held.{in_frame, ends, held_fates, FatesOfHeld, GoodFate, BadFate}
use Rattle.frames.specs.Fates.{Deed, alter, Scene, names_of, opening, still, advance, beginnings, endings, times, times_fated, times_altered, AllFates}
use Rattle.frames.specs.Fates.{by_call, by_altering, is_unaltered, AllProper}
use Rattle.frames.specs.OnBytes.{ArrivedOn, altering, deeds_of, AllGiven, AllGivenDrive, AllKept, AllSaidOf, world_at, held_of, ended_of, still_of}
use Rattle.frames.specs.Stands.{StoredStands, Piece, PieceStands, NoOverlap, pieces, counters, other_counters, lacking_counters, Each, Spared, GoodExit, BadExit, Clear, NextClear}
use Rattle.frames.specs.Data.{Staying, data_of, Delivered, ArrivedDelivered, EndLent, DeliveredOnBytes, ArrivedOnBytes}
use Rattle.frames.proofs.Arrival as arrivals
use Rattle.frames.proofs.Arrived as arrived
use Rattle.frames.proofs.Reasons as reasons
use Rattle.frames.proofs.Filtered as filtered
use Rattle.frames.proofs.Setups as set_ups
use Rattle.frames.proofs.Sent as sending
use Rattle.frames.proofs.Parts as descriptor_parts
use Rattle.frames.proofs.Held as holdings
use Rattle.frames.proofs.Stands as exits
use Rattle.frames.proofs.Clear as clear
use Rattle.frames.proofs.Data as stored
use Rattle.frames.proofs.Fates as fates
use Rattle.frames.proofs.OnBytes as on_bytes
use Rattle.traced.proofs.DataWitness as data_run
use Rattle.traced.proofs.FilterWitness as filter_run
use Rattle.traced.proofs.DataBytesWitness as data_bytes_run
use Rattle.traced.proofs.BytesWitness as bytes_run
use Rattle.traced.proofs.ReasonsWitness as reasons_run
use Rattle.traced.proofs.FormWitness as form_run
use Rattle.lists.specs.Uses.{Listed, first_of}
use Rattle.lists.specs.Done.{Starts, Resumes, Started, enough, Premises, Done}
use Rattle.lists.specs.OnBytes.{PremisesOnBytes, DoneOnBytes, PremisesByRuns, DoneByRuns}
use Rattle.lists.proofs.Whole as whole
use Rattle.lists.proofs.Bytes as list_bytes
use Rattle.worked.proofs.Exact as list_exact
use Rattle.worked.proofs.Witness as list_run
use Rattle.worked.proofs.BytesWitness as list_bytes_run
use Rattle.worked.proofs.RunsWitness as list_drives
use Rattle.worked.proofs.Suspended as suspended_run
use Rattle.worked.proofs.Resumed as resumed_run
use Rattle.worked.proofs.Grouped as grouped_run
use Rattle.worked.proofs.Buffered as buffered_run
use Rattle.held.specs.Held as held
use Rattle.held.specs.OnRecords as on_records
use Rattle.held.proofs.Whole as held_frames
use Rattle.held.proofs.Exact as held_exact
use Rattle.held.proofs.Calls as held_calls
use Rattle.held.proofs.Lending as lent_run
use Rattle.kinds.specs.Chips.{Chip, Meets, Says, Permits, Act, does, events_in}
use Rattle.kinds.specs.Demands.{Demand1, Demand2}
use Rattle.kinds.specs.Lists.{turns_of}
use Rattle.kinds.specs.Third.{AsSaid, ListRun, ResumedRun, HeldRun, Demand3By, Demand3}
use Rattle.kinds.specs.Frames.{Demand2Frames}
use Rattle.kinds.specs.Kinds.{Wrong, LacksNamed, RefusesAll, OneAnswer, MemoryAsLent, SetsNothing, MeasuresNothing, SendsNothing, MarksOnly, MarksSome}
use Rattle.kinds.specs.Kinds.{FirstOnly, Invents, InventsAlong, InventsWhileHeld, InventsInTrace}
use Rattle.kinds.specs.Spoiled.{AsOursBut, SpoiltTurn, always, at_seven, AfterFirst, ServesFirst}
use Rattle.kinds.specs.Spoiled.{the_length, the_edge, OfAnswer, OfMemory, OfSetup, OfWord, OfAction, OfMark, OfOverruns}
use Rattle.kinds.specs.Spoiled.{as_lent, with_answer, with_memory, unset, unmeasured, unsent, unacted, marked_at_once, turned_over, counted_on}
use Rattle.kinds.specs.Spoiled.{refusing, answering, leaving, marking_only, marking_at_seven, setting_nothing, measuring_nothing, sending_nothing}
use Rattle.kinds.specs.Spoiled.{marking_at_once, serving_first, inventing, counting}
use Rattle.kinds.proofs.Equal as equal
use Rattle.kinds.proofs.Ours as demanded
use Rattle.kinds.proofs.Inspected as inspected
use Rattle.kinds.proofs.Closing as closing
use Rattle.kinds.proofs.Frames as chip_frames
use Rattle.kinds.proofs.Two.{pair, waits}
use Rattle.kinds.proofs.Spoiled as spoiled
use Rattle.kinds.proofs.Marked as marked
use Rattle.kinds.proofs.First as first
use Rattle.kinds.proofs.Inventing as invented
use Rattle.demands.proofs.Sharp as sharp
use Rattle.demands.proofs.Witness as met

-- ---- demand 1

-- "Bad lengths, overlong frames and foreign records are refused with document 01's numbers": each number is given exactly when the table says
pub refused_by_the_table : (c : Call) (a : Areas) → Bytes a.kept → (n : ℕ)
    → (number (called c a).answer ≡ n → When n c a) × (When n c a → number (called c a).answer ≡ n)
refused_by_the_table = refusals.table

-- 02, Wish 3: "21 device record, 22 holding area, 23 outgoing area, lowest first, between 1 and 3 in the order". What each of the seven numbers
-- means, both ways, of a call that takes all four; and of reset, which gives 21 or none
pub each_number_exactly_when : (c : Call) (a : Areas) → Bytes a.kept
    → TakesAll c
    ((r : Option Refusal)
    → (number (called c a).answer ≡ refusal_or_0 r → Means r c a) × (Means r c a → number (called c a).answer ≡ refusal_or_0 r))
each_number_exactly_when = refusals.written_out

pub a_reset_gives_21_or_none : (a : Areas)
    → ((length a.kept ≡ record_size) × (number (called reset a).answer ≡ 0))
    ⊎ ((length a.kept ≡ record_size → ⊥) × (number (called reset a).answer ≡ 21))
a_reset_gives_21_or_none = refusals.reset_numbers

-- the order is 1, 21, 22, 23, 3, 4, and a number names one row
pub the_order_of_refusals : (map refusal_number rows ≡ 1 ∷ 21 ∷ 22 ∷ 23 ∷ 3 ∷ 4 ∷ []) × (map refusal_number reset_rows ≡ 21 ∷ [])
the_order_of_refusals = tabled.rows_in_order

pub a_number_names_one_row : (x y : Option Refusal) → refusal_or_0 x ≡ refusal_or_0 y → x ≡ y
a_number_names_one_row = numbers.one_refusal

-- and every row of it is given at some call
pub every_row_is_given : (r : Option Refusal) → Seen r
every_row_is_given = rows_seen.each_row

-- "and a refused call changes no lent byte", with length 0, no edge and no reason
pub a_refusal_changes_nothing : (c : Call) (a : Areas) → is_refused (called c a) ≡ true → Untouched a (called c a)
a_refusal_changes_nothing = refusals.untouched

-- the ranges "hold every state a call can leave", so that a record which a call left is accepted again
pub every_state_left_is_in_range : (c : Call) (w : World) → FrameBytes c → Sound w → Sound (afterwards (ran c w))
every_state_left_is_in_range = closure.closed

pub a_record_left_is_accepted : (c : Call) (a : Areas) → FrameBytes c → AreBytes a → is_refused (called c a) ≡ false → Again c a
a_record_left_is_accepted = carried.accepted_again

-- and "no held frame outside Ready": a record whose phase, byte 7, is none of those that hold a frame, which are all in Ready, has nothing of a frame
-- in bytes 26 to 39, or is refused; and a state that a record holds, and that holds a frame, is in Ready
pub no_held_frame_outside_ready : (r : List ℕ) (d : Device) → Holds r d → ru_tag_in (packed_at r) < 4 → (field r ru_at 8 < 2 ^ 16) × (field r rest_at 8 ≡ 0)
no_held_frame_outside_ready = outside.holds_outside

pub a_held_frame_is_in_ready : (r : List ℕ) (d : Device) (f : Frame) (fs : List Frame) → Holds r d → held_in d.units.ru ≡ f ∷ fs
    → ru_state d.units.ru ≡ rus.Ready
a_held_frame_is_in_ready = carried.holds_ready

-- a run of turns gives the number that a turn gives there, whatever its budget; a refused one is a refused turn, no turn taken and nothing changed
pub a_run_is_refused_as_a_turn : (a : Areas) (report budget : ℕ) → number (run_call a report budget).answer ≡ number (turn_call a report).answer
a_run_is_refused_as_a_turn = run_of_turns.run_refusals

pub a_refused_run_is_a_refused_turn : (a : Areas) (report budget : ℕ) → is_refused (turn_call a report) ≡ true
    → run_call a report budget ≡ turn_call a report
a_refused_run_is_a_refused_turn = run_of_turns.refused_run_lem

pub a_refused_run_changes_nothing : (a : Areas) (report budget : ℕ) → is_refused (run_call a report budget) ≡ true
    → Untouched a (run_call a report budget)
a_refused_run_changes_nothing = run_of_turns.run_untouched

-- and the record that a run leaves is accepted again
pub a_record_that_a_run_left_is_accepted : (a : Areas) (report budget : ℕ) → AreBytes a → is_refused (run_call a report budget) ≡ false
    → (d : Device) × Holds (run_call a report budget).areas.kept d
a_record_that_a_run_left_is_accepted = run_of_turns.run_again

-- ---- demand 2

-- "After each call the memory, device record, outgoing frame, interrupt and answer are what document 01 says": of every chip that meets the promises
pub as_document_01_says : (chip : Chip) → Meets chip → Demand2 chip
as_document_01_says = demanded.has_demand2

-- and of every such chip the sentences on frames, which follow: in its own run, whatever comes while the host keeps the record, from any state in range
-- on, what becomes of every arrival and of every held frame, and what is stored of those that arrive in it, is what is said below
pub as_document_01_says_of_frames : (chip : Chip) → Meets chip → Demand2Frames chip
as_document_01_says_of_frames = chip_frames.has_demand2_frames

-- 02, Wish 1: 'Demand 2's "addressed to us" now means passed by this filter' (`is_ours`): by its bit, a frame that is passed by no other rule
pub addressed_to_us_by_the_filter : (w : World) (f : List ℕ) → (arrival.settings_of w).promiscuous ≡ false → all_ones (arrival.length_in w) f ≡ false
    → is_own (arrival.length_in w) w.device.own f ≡ false
    → arrival.is_ours w f ≡ (is_group f && bit w.device.filter (hash (take (arrival.length_in w) f)))
addressed_to_us_by_the_filter w f = match.by_the_filter (arrival.settings_of w) w.device.own w.device.filter f

-- "Broadcast, own address and promiscuous mode keep their rules", of so many bytes as the address length in force
pub addressed_to_us_by_broadcast : (w : World) (f : List ℕ) → (arrival.settings_of w).promiscuous ≡ false → 0 < arrival.length_in w
    → all_ones (arrival.length_in w) f ≡ true
    → arrival.is_ours w f ≡ not (arrival.settings_of w).nobroadcast
addressed_to_us_by_broadcast w f = match.by_broadcast (arrival.settings_of w) w.device.own w.device.filter f

pub addressed_to_us_by_the_own_address : (w : World) (f : List ℕ) → all_ones (arrival.length_in w) f ≡ false
    → is_own (arrival.length_in w) w.device.own f ≡ true → arrival.is_ours w f ≡ true
addressed_to_us_by_the_own_address w f = match.by_own_address (arrival.settings_of w) w.device.own w.device.filter f

pub addressed_to_us_by_promiscuous_mode : (w : World) (f : List ℕ) → (arrival.settings_of w).promiscuous ≡ true → arrival.is_ours w f ≡ true
addressed_to_us_by_promiscuous_mode w f = match.by_promiscuous (arrival.settings_of w) w.device.own w.device.filter f

-- "It folds each address through the CRC into a 64-bit filter": the turn that ends an MC-Setup leaves a filter whose bits are those on which an address
-- of its list falls, each of them and no other, and nothing else of the setup is changed
pub an_mc_setup_makes_the_filter : (w : World) (b : Begun) (report : ℕ) → EndsMcSetup w b → SetUpBy w b (left_by w report)
an_mc_setup_makes_the_filter = filtered.set_up

-- "and a multicast frame passes when its bit is set, listed or not": after that turn, if an address of the list falls on the same bit
pub a_multicast_frame_passes_by_its_bit : (w : World) (b : Begun) (report : ℕ) → EndsMcSetup w b → (f : List ℕ) → all_ones (arrival.length_in w) f ≡ false
    → is_group f ≡ true → FallsIn w b (hash (take (arrival.length_in w) f)) → arrival.is_ours (left_by w report) f ≡ true
a_multicast_frame_passes_by_its_bit = filtered.passes

-- and only then, where no other rule passes it
pub and_by_no_other : (w : World) (b : Begun) (report : ℕ) → EndsMcSetup w b → (f : List ℕ)
    → (arrival.settings_of w).promiscuous ≡ false → all_ones (arrival.length_in w) f ≡ false → is_own (arrival.length_in w) (left_by w report).device.own f ≡ false
    → arrival.is_ours (left_by w report) f ≡ true → (is_group f ≡ true) × FallsIn w b (hash (take (arrival.length_in w) f))
and_by_no_other = filtered.passed

-- "any count works": the command unit writes A000h to the block and nothing else, whatever stands there; the turn adds the SCB's status where it is due.
-- "A count of 0 empties the filter", as does one below the length of an address; 02, Wish 4: "at 0 it empties the filter"
pub mc_setup_is_always_done : (w : World) (b : Begun) (report : ℕ) → EndsMcSetup w b
    → (service (part_of w.device w.outgoing) w.memory report).writes ≡ word_to (place w.device.units.base b.block block_status_at) done ∷ []
mc_setup_is_always_done = filtered.status_done

pub a_count_of_0_empties_the_filter : (w : World) (b : Begun) (report : ℕ) → EndsMcSetup w b
    → count_of w.device.units.base b.block w.memory < arrival.length_in w → (left_by w report).device.filter ≡ 0
a_count_of_0_empties_the_filter = filtered.emptied

pub length_0_empties_the_filter : (w : World) (b : Begun) (report : ℕ) → EndsMcSetup w b → arrival.length_in w ≡ 0 → (left_by w report).device.filter ≡ 0
length_0_empties_the_filter = filtered.emptied_at_none

-- and no other call changes the filter but a reset, of either kind
pub the_filter_after_a_call : (c : Call) (w : World) → FilterAfter w c
the_filter_after_a_call = filtered.filter_after

-- the same on bytes: the filter of the state that a record holds is its last eight bytes, low byte first, and what a call leaves there is what is said of it
pub the_filter_in_the_record : (r : List ℕ) (d : Device) → Holds r d → field r (setup_at + filter_at) filter_size ≡ d.filter
the_filter_in_the_record = filtered.filter_in_record

pub the_filter_after_a_call_on_bytes : (c : Call) (a : Areas) (d : Device) → FrameBytes c → AreBytes a → Holds a.kept d → is_refused (called c a) ≡ false
    → FilterAfter (world_in d a) c × (field (called c a).areas.kept (setup_at + filter_at) filter_size ≡ (ran c (world_in d a)).outcome.device.filter)
the_filter_after_a_call_on_bytes = filtered.filter_on_bytes

-- "The fold is that of document 000, section 5.5": `hash`, which is that section's program; values of it, of short addresses too; 64 addresses that fall on
-- all 64 bits; and that the form which the code has is the same
pub the_values_of_the_fold : T (all_are values)
the_values_of_the_fold = folded.values_are

pub the_fold_of_short_addresses : T (eqb (fast (0x01 ∷ [])) 50 && eqb (hash (0x01 ∷ [])) 50 && eqb (fast (0xAB ∷ 0xCD ∷ [])) 19 && eqb (hash (0xAB ∷ 0xCD ∷ [])) 19)
the_fold_of_short_addresses = folded.short_values

pub the_fold_reaches_every_bit : T (eqb (bits_of 64) (2 ^ 64 - 1))
the_fold_reaches_every_bit = folded.all_bits

pub the_faster_fold_is_the_same : (bs : List ℕ) → fast bs ≡ hash bs
the_faster_fold_is_the_same = faster_is_hash

-- "A good frame addressed to us, arriving while the receive unit is Ready, is held to be stored"
pub a_good_frame_is_held : (w : World) (f : List ℕ) (v : ℕ) (fd : Offset) → arrival.RightLengths w f → arrival.Ours w f → arrival.Good w f v
    → arrival.unit_of w ≡ ru.Ready fd
    → arrival.IsHeld w f fd (arrival.judged_as w f verdict.Good false) None (arrival_of w f v)
a_good_frame_is_held = arrivals.good_ready

-- "or adds one to exactly one counter", one being held: memory is as it was but for OVRNERRS, one more, "wrapping after 65,535"
pub or_is_counted : (w : World) (f : List ℕ) (v : ℕ) → arrival.RightLengths w f → arrival.Ours w f → is_holding (arrival.unit_of w) ≡ true
    → arrival.NotHeld w fate.Overrun None (Some counter.Overruns) (arrival_of w f v)
or_is_counted = arrivals.overrun

-- the same exactness for every other arrival
pub every_arrival : (w : World) (f : List ℕ) (v : ℕ) → arrival.RightLengths w f → arrival.ArrivalFate w f v (arrival_of w f v)
every_arrival = arrivals.arrival_fate

-- and on the areas that the host lends, at every arrival that is not refused
pub every_arrival_on_bytes : (a : Areas) (d : Device) (f : List ℕ) (v : ℕ) → AreBytes a → Bytes f → Holds a.kept d
    → is_refused (called (arrive f v) a) ≡ false → ArrivedOn a d f v
every_arrival_on_bytes = arrived.arrived_on

-- 02, Wish 3: "An arrival that is dropped also says why .. Each reason is given exactly when document 01's order reaches it": both ways, at every arrival
-- that is not refused, a frame that is held or lost by OVRNERRS or RSCERRS among them, which has no reason
pub why_a_frame_is_dropped : (w : World) (f : List ℕ) (v : ℕ) → arrival.RightLengths w f → (why : Option Reason)
    → (why_of w f v ≡ why → Reached why w f v) × (Reached why w f v → why_of w f v ≡ why)
why_a_frame_is_dropped = reasons.exactly

-- it is read off the fate that all else of the arrival follows from
pub the_reason_is_that_of_the_fate : (w : World) (f : List ℕ) (v : ℕ) (x : Fate) → (arrival_of w f v).outcome.fates ≡ x ∷ [] → why_of w f v ≡ reason_of x
the_reason_is_that_of_the_fate = reasons.by_the_fate

-- on bytes: in bits 40 to 47 of the answer, by its number; the number is one of the reasons', and names it
pub why_a_frame_is_dropped_on_bytes : (a : Areas) (d : Device) (f : List ℕ) (v : ℕ) → AreBytes a → Holds a.kept d
    → is_refused (called (arrive f v) a) ≡ false → (why : Option Reason)
    → (reason_in (called (arrive f v) a).answer ≡ reason_or_0 why → Reached why (world_in d a) f v)
    × (Reached why (world_in d a) f v → reason_in (called (arrive f v) a).answer ≡ reason_or_0 why)
why_a_frame_is_dropped_on_bytes = reasons.exactly_on_bytes

pub every_arrival_has_its_reason : (a : Areas) (d : Device) (f : List ℕ) (v : ℕ) → AreBytes a → Holds a.kept d
    → is_refused (called (arrive f v) a) ≡ false
    → (why : Option Reason) × ((reason_in (called (arrive f v) a).answer ≡ reason_or_0 why) × Reached why (world_in d a) f v)
every_arrival_has_its_reason = reasons.some_reason

-- every part of it, at every call that is not refused: number 0, and length, edge and reason as the call on the state has them; nothing else is set
pub the_parts_of_an_answer : (c : Call) (a : Areas) (d : Device) → AreBytes a → Holds a.kept d → is_refused (called c a) ≡ false
    → Parts (called c a).answer (ran c (world_in d a)).outcome.answer
the_parts_of_an_answer = carried.answer_parts

pub a_number_names_one_reason : (x y : Option Reason) → reason_or_0 x ≡ reason_or_0 y → x ≡ y
a_number_names_one_reason = numbers.one_reason

-- no other call's answer has one, refused or not, nor that of a run; a refused arrival's has none either (`a_refusal_changes_nothing`)
pub no_reason_at_another_call : (c : Call) (a : Areas) → AreBytes a → IsOther c → reason_in (called c a).answer ≡ 0
no_reason_at_another_call = reasons.no_reason

pub no_reason_of_a_run : (a : Areas) (report budget : ℕ) → AreBytes a → reason_in (run_call a report budget).answer ≡ 0
no_reason_of_a_run = reasons.no_reason_of_a_run

-- and each is given at some arrival
pub every_reason_is_given : (why : Option Reason) → Told why
every_reason_is_given = reasons_run.each_reason

-- a held good frame stays held, is stored, or is counted, "both, if kept with too few buffers", or is lost by an abort or a reset. While it stays held
-- its own turns write 4000h at begin, and a buffer with its F, count and EOF, and nothing else: no counter, no event. At its end all is said: what is
-- written, FR exactly if stored, RNR exactly if the unit leaves Ready, where the unit goes, the edge, and that nothing else of the record changes
pub a_held_good_frame : (c : Call) (w : World) (f : Frame) → in_range w.device ≡ true → held_in (arrival.unit_of w) ≡ f ∷ [] → is_good f ≡ true
    → GoodFate f c w
a_held_good_frame = holdings.good_held

pub a_held_bad_frame : (c : Call) (w : World) (f : Frame) → in_range w.device ≡ true → held_in (arrival.unit_of w) ≡ f ∷ [] → is_good f ≡ false
    → BadFate f c w
a_held_bad_frame = holdings.bad_held

-- stored and counted as facts about memory at exit, where no piece that the turn writes lies over another. Stored: the header bytes and the status word
-- stand. Counted, kept or not: RSCERRS is one more; if not kept, 0000h stands in the descriptor. Every other counter is as at entry, if no piece lies over
-- it: no counter moves if stored alone, and what is counted "adds one to exactly one counter"
pub stored_and_counted_at_exit : (c : Call) (w : World) (f : Frame) → arrival.RightLengths w [] → in_range w.device ≡ true
    → held_in (arrival.unit_of w) ≡ f ∷ [] → is_good f ≡ true
    → NoOverlap (length w.memory) (pieces (arrival.unit_of w) w)
    → GoodExit f c w
stored_and_counted_at_exit = exits.good_exit

-- a bad one, which its arrival has counted unless it is short: its header bytes and status word stand, and every counter is as at entry, if no piece lies
-- over it
pub a_bad_frame_at_exit : (c : Call) (w : World) (f : Frame) → arrival.RightLengths w [] → in_range w.device ≡ true
    → held_in (arrival.unit_of w) ≡ f ∷ [] → is_good f ≡ false
    → NoOverlap (length w.memory) (pieces (arrival.unit_of w) w)
    → BadExit f c w
a_bad_frame_at_exit = exits.bad_exit

-- no piece lies over another wherever the frame descriptor, eight bytes and those of the header that go to it, and the SCB's 16 have no byte in common, nor,
-- unless No Resources follows, has +6 of the next frame descriptor with either
pub no_piece_over_another : (w : World) (s : Storing) (free : Offset) (full : Bool) → Clear (unbuffered s.frame.form) w s
    → (s.el || full ≡ false → NextClear (unbuffered s.frame.form) w s)
    → NoOverlap (length w.memory) (pieces (ru.Closing s free full) w)
no_piece_over_another = clear.closing_clear

pub no_piece_over_another_out_of_buffers : (w : World) (s : Storing) → Clear (unbuffered s.frame.form) w s
    → NoOverlap (length w.memory) (pieces (ru.Lacking s) w)
no_piece_over_another_out_of_buffers = clear.lacking_clear

-- nor lies a piece over a counter there, but RSCERRS's own if a good frame ends out of buffers
pub no_piece_over_a_counter : (w : World) (s : Storing) (free : Offset) (full : Bool) → Clear (unbuffered s.frame.form) w s
    → (s.el || full ≡ false → NextClear (unbuffered s.frame.form) w s)
    → Each (Spared (ru.Closing s free full) w) counters
no_piece_over_a_counter = clear.closing_spared

pub no_piece_over_a_counter_out_of_buffers : (w : World) (s : Storing) → Clear (unbuffered s.frame.form) w s
    → Each (Spared (ru.Lacking s) w) (lacking_counters (is_good s.frame))
no_piece_over_a_counter_out_of_buffers = clear.lacking_spared

-- "is held to be stored": while it stays held, what its own turns write to the buffers is its data, byte for byte. With buffers enough all of it, out of
-- buffers a proper beginning of it, by the turn that ends it; whatever else is called that neither loses it nor ends it, and whatever the host makes of
-- memory, if it keeps the holding area
pub its_data_is_stored : (w : World) (fd : Offset) (f : Frame) (p : Bool) (es : List Event) (report : ℕ) → in_range w.device ≡ true
    → arrival.unit_of w ≡ ru.Held fd f p → AllMay Staying step es w → ends (turn report) (run step es w) ≡ true
    → Delivered f (data_of f w.holding) es w report
its_data_is_stored = stored.delivered

-- and from the arrival on, of the very bytes that arrived: the data is what they have behind the header, with location 1 all of them, and the header
-- bytes that the end writes are their first; by the length and location at their arrival, whatever Configure has said since
pub the_bytes_that_arrived_are_stored : (w : World) (bs : List ℕ) (v : ℕ) (c : Option Counter) (es : List Event) (report : ℕ) → arrival.RightLengths w bs
    → in_range w.device ≡ true → (arrival_of w bs v).outcome.fates ≡ fate.Held c ∷ []
    → AllMay Staying step es (step (call (arrive bs v)) w) → ends (turn report) (run step es (step (call (arrive bs v)) w)) ≡ true
    → ArrivedDelivered bs es (step (call (arrive bs v)) w) report
the_bytes_that_arrived_are_stored = stored.arrived

-- the same over the calls on the areas that the host lends, refused calls among them; each leaves what the definitions say, and so does the turn that
-- ends it
pub its_data_is_stored_on_bytes : (a b : Areas) (w : World) (fd : Offset) (f : Frame) (p : Bool) (ls : List Lending) (report : ℕ) → Shows a w
    → arrival.unit_of w ≡ ru.Held fd f p → AllFair Staying ls a → EndLent b report (run left ls a) → ends (turn report) (world_said b) ≡ true
    → DeliveredOnBytes f (data_of f a.holding) ls b w report
its_data_is_stored_on_bytes = stored.delivered_on_bytes

pub the_bytes_that_arrived_are_stored_on_bytes : (a b : Areas) (d : Device) (bs : List ℕ) (v : ℕ) (c : Option Counter) (ls : List Lending) (report : ℕ)
    → AreBytes a → Holds a.kept d → Bytes bs → is_refused (called (arrive bs v) a) ≡ false
    → (arrival_of (world_in d a) bs v).outcome.fates ≡ fate.Held c ∷ []
    → AllFair Staying ls (called (arrive bs v) a).areas → EndLent b report (run left ls (called (arrive bs v) a).areas)
    → ends (turn report) (world_said b) ≡ true
    → ArrivedOnBytes bs v a ls b (world_in d a) report
the_bytes_that_arrived_are_stored_on_bytes = stored.arrived_on_bytes

-- "only an abort, a reset or the host's altering of the record may lose a held one": over any trace, a holding ends at a call, by aborted or reset exactly
-- if the call aborts or resets, else by stored, counted or both; or by the host's altering of the record, and never so if the host alters none
pub every_end_is_proper : (ds : List Deed) (s : Scene) → in_range s.world.device ≡ true → AllProper (Unit {0}) ds s
every_end_is_proper = fates.all_proper

pub every_end_is_a_fate : (ds : List Deed) (s : Scene) → in_range s.world.device ≡ true → is_unaltered ds ≡ true → AllProper ⊥ ds s
every_end_is_a_fate = fates.all_fated

-- and a frame that was held has exactly one fate, or the host altered the record, or it is held still
pub exactly_one_fate : (w : World) (ds : List Deed) (k : ℕ) → in_range w.device ≡ true
    → 0 < times k (still (opening w) ++ beginnings ds (opening w))
    → times_fated k (endings ds (opening w)) + times_altered k (endings ds (opening w)) + times k (still (run advance ds (opening w))) ≡ 1
exactly_one_fate = fates.exactly_one

-- and no fate without its frame: under a number that no held frame got, 0 among them, no end is noted and nothing is held
pub no_other_fate : (w : World) (ds : List Deed) (k : ℕ) → in_range w.device ≡ true
    → times k (still (opening w) ++ beginnings ds (opening w)) ≡ 0
    → times_fated k (endings ds (opening w)) + times_altered k (endings ds (opening w)) + times k (still (run advance ds (opening w))) ≡ 0
no_other_fate = fates.no_other

-- so, frame by frame and in order: those that ended and those that are still held are those that were held
pub every_held_frame_is_accounted_for : (ds : List Deed) (s : Scene) → in_range s.world.device ≡ true
    → names_of (endings ds s) ++ still (run advance ds s) ≡ still s ++ beginnings ds s
every_held_frame_is_accounted_for = fates.conserved

pub at_every_call : (ds : List Deed) (w : World) → in_range w.device ≡ true → AllFates ds w
at_every_call = fates.all_fates

-- a call gives such fates only where so many frames were held, and are held no more
pub a_fate_has_its_frame : (c : Call) (w : World) → in_range w.device ≡ true → (held_fates (ran c w).outcome.fates ≡ [] → ⊥)
    → FatesOfHeld w (ran c w)
a_fate_has_its_frame = fates.fates_of_held

-- the same over the calls on the areas that the host lends, refused calls among them, whatever it lends: bytes are all that is asked, of the calls
-- that are not refused. "The host's altering of the record" is a record lent that is not the one that stands
pub a_record_lent_otherwise_is_altered : (l : Lending) (a : Areas) (d : Device) → Holds l.lent.kept d → (l.lent.kept ≡ a.kept → ⊥)
    → (r : in_range d ≡ true) × (altering l a ≡ alter d r ∷ [])
a_record_lent_otherwise_is_altered = on_bytes.altered

pub a_record_lent_as_left_is_not : (l : Lending) (a : Areas) → l.lent.kept ≡ a.kept → altering l a ≡ []
a_record_lent_as_left_is_not = on_bytes.not_altered

-- "After each call the memory, device record, outgoing frame, interrupt and answer are what document 01 says": in the very trace whose frames are
-- counted, all of each call that is not refused is what the definitions say, and what stands at the end shows the world at the end
pub the_calls_do_these_deeds : (ls : List Lending) (a : Areas) (d : Device) → Holds a.kept d → AllGiven ls
    → AllSaidOf ls a (world_in d a) × Shows (run left ls a) (world_at ls a d)
the_calls_do_these_deeds = on_bytes.all_said

-- "only an abort, a reset or the host's altering of the record may lose a held one"
pub every_end_on_bytes_is_proper : (ls : List Lending) (a : Areas) (d : Device) → Holds a.kept d
    → AllProper (Unit {0}) (deeds_of ls a) (opening (world_in d a))
every_end_on_bytes_is_proper = on_bytes.all_proper

-- and a frame that was held has exactly one fate, or the host altered the record, or it is held still
pub exactly_one_fate_on_bytes : (ls : List Lending) (a : Areas) (d : Device) (k : ℕ) → Holds a.kept d → 0 < times k (held_of ls a d)
    → times_fated k (ended_of ls a d) + times_altered k (ended_of ls a d) + times k (still_of ls a d) ≡ 1
exactly_one_fate_on_bytes = on_bytes.exactly_one

pub no_other_fate_on_bytes : (ls : List Lending) (a : Areas) (d : Device) (k : ℕ) → Holds a.kept d → times k (held_of ls a d) ≡ 0
    → times_fated k (ended_of ls a d) + times_altered k (ended_of ls a d) + times k (still_of ls a d) ≡ 0
no_other_fate_on_bytes = on_bytes.no_other

pub every_held_frame_is_accounted_for_on_bytes : (ls : List Lending) (a : Areas) (d : Device) → Holds a.kept d
    → names_of (ended_of ls a d) ++ still_of ls a d ≡ held_of ls a d
every_held_frame_is_accounted_for_on_bytes = on_bytes.conserved

pub at_every_call_on_bytes : (ls : List Lending) (a : Areas) (d : Device) → Holds a.kept d → AllFates (deeds_of ls a) (world_in d a)
at_every_call_on_bytes = on_bytes.all_fates

-- and if the host lends every record as it was left, a held frame has exactly one fate or is held still, and every end is by a fate
pub exactly_one_fate_if_records_are_kept : (ls : List Lending) (a : Areas) (d : Device) (k : ℕ) → Holds a.kept d → AllKept ls a
    → 0 < times k (held_of ls a d)
    → times_fated k (ended_of ls a d) + times k (still_of ls a d) ≡ 1
exactly_one_fate_if_records_are_kept = on_bytes.exactly_one_fate

pub every_end_is_a_fate_if_records_are_kept : (ls : List Lending) (a : Areas) (d : Device) → Holds a.kept d → AllKept ls a
    → AllProper ⊥ (deeds_of ls a) (opening (world_in d a))
every_end_is_a_fate_if_records_are_kept = on_bytes.all_fated

-- the same where runs of turns are among the calls: what is said here of every list of calls is said of `unrolled ds`, which has a run's turns in its
-- place, and what stands after the runs and calls shows its world
pub the_runs_do_these_deeds : (ds : List Drive) (a : Areas) (d : Device) → Holds a.kept d → AllGivenDrive ds
    → AllSaidOf (unrolled ds) a (world_in d a) × Shows (run left_driven ds a) (world_at (unrolled ds) a d)
the_runs_do_these_deeds = on_bytes.runs_said

-- a run of turns: all areas, the record among them, are those of as many turns in a row as its answer says, and the rest of its answer is the last
-- turn's. So many is no more than the budget; no turn before the last sent a frame of at least one byte, reported an edge or had no work; and the last
-- did, or the budget is used up. So what is said of turns, here and below, is said of the turns inside a run, and no edge and no frame that has a byte
-- goes unreported
pub a_run_is_so_many_turns : (a : Areas) (report budget : ℕ) → AreBytes a → is_refused (run_call a report budget) ≡ false
    → AsTurns a report budget (run_call a report budget)
a_run_is_so_many_turns = run_of_turns.run_is_turns

-- that leaves nothing open, neither the number of turns nor a byte
pub and_that_says_all : (a : Areas) (report budget : ℕ) (r s : Called) → AsTurns a report budget r → AsTurns a report budget s → r ≡ s
and_that_says_all = run_of_turns.one_run

-- budget 0 takes no turn: answer 0, nothing changed
pub a_run_of_no_turn : (a : Areas) (report : ℕ) → AreBytes a → is_refused (run_call a report 0) ≡ false → run_call a report 0 ≡ record { answer = 0; areas = a }
a_run_of_no_turn = run_of_turns.run_none

-- ---- 02, Wish 4: short addresses and headers in buffers. What it says of arrivals, "shorter than the header", is in `every_arrival` and `why_a_frame_is_dropped`
-- above; "at 0 it empties the filter" is `length_0_empties_the_filter`; "A held frame is stored by the length and location it arrived under" is
-- `the_bytes_that_arrived_are_stored`

-- "The header has twice the length plus two bytes": its parts, destination, source and type, lie side by side, and every byte of a frame is in one of them or
-- behind the header. "Prove the header rule once over the length"
pub a_header_is_twice_the_length_plus_two : (l : ℕ) → header l ≡ 2 * l + 2
a_header_is_twice_the_length_plus_two = header_rule.twice_and_two

pub its_parts_lie_side_by_side : (l : ℕ)
    → (destination_in ≡ 0) × (source_in l ≡ destination_in + l) × (type_in l ≡ source_in l + l) × (header l ≡ type_in l + type_length)
its_parts_lie_side_by_side = header_rule.side_by_side

pub every_byte_is_in_a_part_or_behind_them : (l i : ℕ) → header_rule.Lies l i
every_byte_is_in_a_part_or_behind_them = header_rule.lies

-- "with location 1 the whole frame goes through buffers both ways": none of the header is among what goes through buffers with location 0, all of it with 1
pub no_part_is_in_the_data : (f : Form) → f.location ≡ false → unbuffered f ≡ header f.length
no_part_is_in_the_data = header_rule.none_in_the_data

pub the_whole_frame_goes_through_buffers : (f : Form) → f.location ≡ true → unbuffered f ≡ 0
the_whole_frame_goes_through_buffers = header_rule.all_in_the_buffers

-- "Configure shall accept lengths 0 to 6 and address location 1 ... 7 and loopback still give 8000h": which byte 3 is accepted, both ways
pub what_a_configure_accepts : (byte : ℕ) → acceptable byte ≡ true → (bits_at byte 0 3 ≤ 6) × (bit byte 6 ≡ false) × (bit byte 7 ≡ false)
what_a_configure_accepts = configured.accepted

pub and_it_accepts_all_of_these : (byte : ℕ) → bits_at byte 0 3 ≤ 6 → bit byte 6 ≡ false → bit byte 7 ≡ false → acceptable byte ≡ true
and_it_accepts_all_of_these = configured.acceptable_is

-- the turn that ends one: what byte 3 says is in force, own address and filter stay, and the unit writes A000h to the block; or the setup stays, and it
-- writes 8000h; the turn adds the SCB's status where it is due
pub a_configure_is_taken : (w : World) (b : Begun) (report : ℕ) → EndsAction w b action.Configure
    → let byte = byte_of w.device.units.base b.block w.memory 3 in
    acceptable byte ≡ true
    → ((arrival.settings_of (left_by w report)).form ≡ record { length = bits_at byte 0 3; location = bit byte 3 })
    × ((left_by w report).device.own ≡ w.device.own) × ((left_by w report).device.filter ≡ w.device.filter)
a_configure_is_taken = set_ups.configured_left

pub and_its_status_is_done : (w : World) (b : Begun) (report : ℕ) → EndsAction w b action.Configure
    → acceptable (byte_of w.device.units.base b.block w.memory 3) ≡ true
    → (service (part_of w.device w.outgoing) w.memory report).writes ≡ word_to (place w.device.units.base b.block block_status_at) done ∷ []
and_its_status_is_done = set_ups.configured_status

pub a_configure_is_not_taken : (w : World) (b : Begun) (report : ℕ) → EndsAction w b action.Configure
    → acceptable (byte_of w.device.units.base b.block w.memory 3) ≡ false → setup_of (left_by w report).device ≡ setup_of w.device
a_configure_is_not_taken = set_ups.unconfigured_left

pub and_its_status_is_failed : (w : World) (b : Begun) (report : ℕ) → EndsAction w b action.Configure
    → acceptable (byte_of w.device.units.base b.block w.memory 3) ≡ false
    → (service (part_of w.device w.outgoing) w.memory report).writes ≡ word_to (place w.device.units.base b.block block_status_at) failed ∷ []
and_its_status_is_failed = set_ups.unconfigured_status

-- and settings, own address and filter change at no other call than a reset, of either kind, and the turn that ends a command that is no Transmit, by its
-- action; on bytes, the record that is left holds them
pub the_setup_after_a_call : (c : Call) (w : World) → SetupAfter w c
the_setup_after_a_call = set_ups.setup_after_lem

pub the_setup_after_a_call_on_bytes : (c : Call) (a : Areas) (d : Device) → FrameBytes c → AreBytes a → Holds a.kept d → is_refused (called c a) ≡ false
    → SetupAfter (world_in d a) c × Holds (called c a).areas.kept (ran c (world_in d a)).outcome.device
the_setup_after_a_call_on_bytes = set_ups.setup_on_bytes

-- "of the own address the first bytes, up to the length, count", and so a broadcast is as many FFh: both ways. At length 0 both are empty truths, by which
-- nothing is received: `at_length_0_promiscuous_mode_alone`
pub the_own_address_is : (l : ℕ) (own f : List ℕ) → l ≤ length own → l ≤ length f → is_own l own f ≡ true → take l f ≡ take l own
the_own_address_is = match.own_means

pub and_what_has_it_is_the_own_address : (l : ℕ) (own f : List ℕ) → l ≤ length own → l ≤ length f → take l f ≡ take l own → is_own l own f ≡ true
and_what_has_it_is_the_own_address = match.own_if

pub a_broadcast_is : (l : ℕ) (f : List ℕ) → l ≤ length f → all_ones l f ≡ true → take l f ≡ replicate l 0xFF
a_broadcast_is = match.ones_means

pub and_what_has_so_many_is_one : (l : ℕ) (f : List ℕ) → l ≤ length f → take l f ≡ replicate l 0xFF → all_ones l f ≡ true
and_what_has_so_many_is_one = match.ones_if

-- and the header is compared with location 1 as with location 0
pub addresses_are_compared_by_either_location : (s : Settings) (location : Bool) (own : List ℕ) (filter : ℕ) (f : List ℕ)
    → matches (match.located s location) own filter f ≡ matches s own filter f
addresses_are_compared_by_either_location = match.alike_by_location

-- at length 0 "only promiscuous mode receives"
pub at_length_0_promiscuous_mode_alone : (w : World) (f : List ℕ) → arrival.length_in w ≡ 0 → arrival.is_ours w f ≡ (arrival.settings_of w).promiscuous
at_length_0_promiscuous_mode_alone w f = match.by_no_address (arrival.settings_of w) w.device.own w.device.filter f

-- an MC-Setup takes addresses of the length in force: as many whole ones as its count has room for; without one the filter is empty
pub as_many_whole_addresses_as_fit : (l count : ℕ) → 0 < l → (groups_of l count * l ≤ count) × (count < groups_of l count * l + l)
as_many_whole_addresses_as_fit = grouping.whole_addresses

pub no_address_no_filter : (base : RealAddress) (s : Setup) (block : Offset) (m : List ℕ) → groups s.settings.form.length base block m ≡ 0
    → (act action.McSetup base s block m).setup.filter ≡ 0
no_address_no_filter = grouping.emptied_by_none

-- the turn that begins a Transmit with location 0 places destination, own address and type where the rule has them, and leaves what is behind them; with
-- location 1 "the chip inserts no source address", and the outgoing area stays
pub a_transmit_places_its_header : (w : World) (o : Offset) (report : ℕ) → BeginsTransmit w o → in_range w.device ≡ true → Wide w.device
    → length w.outgoing ≡ outgoing_size → (arrival.settings_of w).form.location ≡ false → HeaderPlaced w o (ran (turn report) w).outgoing
a_transmit_places_its_header = sending.header_placed

pub a_transmit_places_nothing_with_location_1 : (w : World) (o : Offset) (report : ℕ) → BeginsTransmit w o
    → (arrival.settings_of w).form.location ≡ true → (ran (turn report) w).outgoing ≡ w.outgoing
a_transmit_places_nothing_with_location_1 = sending.nothing_with_location_1

-- either way so many bytes of the frame are there then as go to no buffer: `no_part_is_in_the_data`, `the_whole_frame_goes_through_buffers`
pub so_much_of_the_frame_is_there : (w : World) (o : Offset) (report : ℕ) → BeginsTransmit w o → (ran (turn report) w).outcome.device.units.cu ≡ unit_begun w o
so_much_of_the_frame_is_there = sending.unit_begun_lem

-- each buffer's bytes go behind what is there so far, and as many more are there then
pub a_buffer_goes_behind : (w : World) (b : Begun) (k : Walk) (report : ℕ) → TakesBuffer w b k → length w.outgoing ≡ outgoing_size
    → BufferTaken w k (ran (turn report) w).outgoing
a_buffer_goes_behind = sending.buffer_taken

pub so_much_more_is_there : (w : World) (b : Begun) (k : Walk) (report : ℕ) → TakesBuffer w b k
    → (ran (turn report) w).outcome.device.units.cu ≡ unit_after w b k
so_much_more_is_there = sending.unit_taken

-- and the end tells the length, 0 of a frame of no bytes too, which shows in its status alone
pub a_transmit_ends : (w : World) (b : Begun) (n report : ℕ) → EndsTransmit w b n → TransmitEnded w b n report
a_transmit_ends = sending.transmit_ended

-- "Block and descriptor fields are packed": of a frame that is stored, k bytes behind the first i of what went to no buffer stand as many behind +8 of the
-- descriptor: the destination with i = 0, the source with `source_in`, the type with `type_in`
pub the_descriptor_part_by_part : (lacking : Bool) (s : Storing) (w : World) (r : Ran) → StoredStands lacking s w r → (i k : ℕ) → i + k ≤ unbuffered s.frame.form
    → bytes_at r.memory (in_frame w s (8 + i)) k ≡ take k (drop i w.holding)
the_descriptor_part_by_part = descriptor_parts.part_stands

-- the turn that ends a frame leaves as it was what none of its pieces lies over; with location 1 the descriptor from +8 on is such, so that no byte of it is
-- written, stored or out of buffers
pub nothing_else_is_written_at_the_end : (c : Call) (w : World) (f : Frame) → arrival.RightLengths w [] → in_range w.device ≡ true
    → held_in (arrival.unit_of w) ≡ f ∷ [] → ends c w ≡ true → (p : Piece) → PieceStands w (ran c w) p
nothing_else_is_written_at_the_end = exits.nothing_else

pub with_location_1_the_descriptor_stays_from_8_on : (c : Call) (w : World) (f : Frame) (s : Storing) (free : Offset) (full : Bool) → arrival.RightLengths w []
    → in_range w.device ≡ true → held_in (arrival.unit_of w) ≡ f ∷ [] → ends c w ≡ true → arrival.unit_of w ≡ ru.Closing s free full → Clear 14 w s
    → (s.el || full ≡ false → NextClear 14 w s) → s.frame.form.location ≡ true
    → bytes_at (ran c w).memory (in_frame w s 8) 14 ≡ bytes_at w.memory (in_frame w s 8) 14
with_location_1_the_descriptor_stays_from_8_on = clear.closing_stays

pub with_location_1_the_descriptor_stays_from_8_on_out_of_buffers : (c : Call) (w : World) (f : Frame) (s : Storing) → arrival.RightLengths w []
    → in_range w.device ≡ true → held_in (arrival.unit_of w) ≡ f ∷ [] → ends c w ≡ true → arrival.unit_of w ≡ ru.Lacking s → Clear 14 w s
    → s.frame.form.location ≡ true
    → bytes_at (ran c w).memory (in_frame w s 8) 14 ≡ bytes_at w.memory (in_frame w s 8) 14
with_location_1_the_descriptor_stays_from_8_on_out_of_buffers = clear.lacking_stays

-- ---- demand 3, first half

-- "Let a channel attention start a command list .. within 132 times n turns all n are done as in 2, once each, in list order". Done as in 2: each
-- with its status, which has C and stands in its block, its frame, the events that it raises, and at each of the command unit's turns the edge in the
-- answer and the SCB's status word
pub a_list_is_done : (bs : List ℕ) (es : List Event) (w : World) → Starts w
    → first_of bs ≡ word_at w.memory (of_scb w.device.units cbl_at)
    → Listed (step (call attention) w).device.units.base (step (call attention) w).memory bs
    → Premises DuringList enough bs es (step (call attention) w)
    → Done bs es (step (call attention) w)
a_list_is_done = whole.attention_list_done

-- the sentence can be read of START alone. The same of RESUME, which goes on at the block before which the unit was suspended
pub a_resumed_list_is_done : (bs : List ℕ) (es : List Event) (w : World) → Resumes (first_of bs) w
    → Listed (step (call attention) w).device.units.base (step (call attention) w).memory bs
    → Premises DuringList enough bs es (step (call attention) w)
    → Done bs es (step (call attention) w)
a_resumed_list_is_done = whole.resumed_list_done

-- the same over the calls on the areas that the host lends, refused calls among them: every answer and byte is the definitions', from the attention on,
-- and the frames that the caller is told are those that are sent
pub a_list_is_done_on_bytes : (bs : List ℕ) (ls : List Lending) (a : Areas) (d : Device) → AreBytes a → Holds a.kept d
    → is_refused (called attention a) ≡ false → Starts (world_in d a) → first_of bs ≡ word_at a.memory (of_scb d.units cbl_at)
    → Listed d.units.base (step (call attention) (world_in d a)).memory bs
    → PremisesOnBytes DuringList enough bs ls (called attention a).areas (step (call attention) (world_in d a))
    → (called attention a ≡ on_bytes (ran attention (world_in d a)))
    × DoneOnBytes bs ls (called attention a).areas (step (call attention) (world_in d a))
a_list_is_done_on_bytes = list_bytes.areas_list_done

pub a_resumed_list_is_done_on_bytes : (bs : List ℕ) (ls : List Lending) (a : Areas) (d : Device) → AreBytes a → Holds a.kept d
    → is_refused (called attention a) ≡ false → Resumes (first_of bs) (world_in d a)
    → Listed d.units.base (step (call attention) (world_in d a)).memory bs
    → PremisesOnBytes DuringList enough bs ls (called attention a).areas (step (call attention) (world_in d a))
    → (called attention a ≡ on_bytes (ran attention (world_in d a)))
    × DoneOnBytes bs ls (called attention a).areas (step (call attention) (world_in d a))
a_resumed_list_is_done_on_bytes = list_bytes.areas_resumed_done

-- the same where runs of turns are among the calls: a run is as many turns as its answer says, and `unrolled` has those turns in its place
pub a_list_is_done_by_runs : (bs : List ℕ) (ds : List Drive) (a : Areas) (d : Device) → AreBytes a → Holds a.kept d
    → is_refused (called attention a) ≡ false → Starts (world_in d a) → first_of bs ≡ word_at a.memory (of_scb d.units cbl_at)
    → Listed d.units.base (step (call attention) (world_in d a)).memory bs
    → PremisesByRuns DuringList enough bs ds (called attention a).areas (step (call attention) (world_in d a))
    → (called attention a ≡ on_bytes (ran attention (world_in d a)))
    × DoneByRuns bs ds (called attention a).areas (step (call attention) (world_in d a))
a_list_is_done_by_runs = list_bytes.runs_list_done

pub a_resumed_list_is_done_by_runs : (bs : List ℕ) (ds : List Drive) (a : Areas) (d : Device) → AreBytes a → Holds a.kept d
    → is_refused (called attention a) ≡ false → Resumes (first_of bs) (world_in d a)
    → Listed d.units.base (step (call attention) (world_in d a)).memory bs
    → PremisesByRuns DuringList enough bs ds (called attention a).areas (step (call attention) (world_in d a))
    → (called attention a ≡ on_bytes (ran attention (world_in d a)))
    × DoneByRuns bs ds (called attention a).areas (step (call attention) (world_in d a))
a_resumed_list_is_done_by_runs = list_bytes.runs_resumed_done

-- 132 is exact: with 131 for one command, or 263 for two, the statement is false
pub no_fewer_for_one : (least : ℕ → ℕ) → least 1 ≤ 131 → list_exact.FirstHalf least → ⊥
no_fewer_for_one = list_exact.one_takes_132

pub no_fewer_for_two : (least : ℕ → ℕ) → least 2 ≤ 263 → list_exact.FirstHalf least → ⊥
no_fewer_for_two = list_exact.two_take_264

-- ---- demand 3, second half

-- "A held frame is stored or counted within 132 turns, whatever the memory holds, if the record is kept and no attention or reset comes"
pub a_held_frame_is_settled : held.Within 132
a_held_frame_is_settled = held_frames.held_frame

pub a_held_frame_is_settled_on_bytes : on_records.Within 132
a_held_frame_is_settled_on_bytes = held_calls.held_frame

-- the same where runs of turns are among the calls
pub a_held_frame_is_settled_by_runs : on_records.WithinByRuns 132
a_held_frame_is_settled_by_runs = held_calls.runs_held_frame

-- and no smaller number would do
pub no_fewer_for_a_frame : (n : ℕ) → n < 132 → held.Within n → ⊥
no_fewer_for_a_frame = held_exact.exact

-- ---- demand 3, both halves, of a chip

-- of every chip that meets the promises: the commands are done, the frame is stored or counted, and at every call of the trace, refused ones among
-- them, the chip answers and leaves what the definitions do
pub as_demand_3_says : (chip : Chip) → Meets chip → Demand3 chip
as_demand_3_says = closing.meets_demand3

-- the same of a list that is resumed
pub as_demand_3_says_of_resumed_lists : (chip : Chip) → Meets chip → (s : chip.Inner) (bs : List ℕ) (acts : List Act) (w : World)
    → ResumedRun enough bs acts w
    → Done bs (events_in acts) (step (call attention) w) × AsSaid chip s (does (call attention) ∷ acts) w
as_demand_3_says_of_resumed_lists = closing.meets_resumed

-- and no chip, whatever it does, has it with fewer turns for one command, for two or for a held frame: the runs by which it fails are the definitions'
-- own, of which the demand asks `Done` or `Settled`, whatever the chip
pub no_chip_with_fewer_for_one : (chip : Chip) (least : ℕ → ℕ) (most : ℕ) → least 1 ≤ 131 → Demand3By least most chip → ⊥
no_chip_with_fewer_for_one = sharp.one_takes_132

pub no_chip_with_fewer_for_two : (chip : Chip) (least : ℕ → ℕ) (most : ℕ) → least 2 ≤ 263 → Demand3By least most chip → ⊥
no_chip_with_fewer_for_two = sharp.two_take_264

pub no_chip_with_fewer_for_a_frame : (chip : Chip) (least : ℕ → ℕ) (most : ℕ) → most < 132 → Demand3By least most chip → ⊥
no_chip_with_fewer_for_a_frame = sharp.frame_takes_132

-- ---- the inspector's list

-- "Any two outcomes it permits are shown equal"
pub one_outcome : (c : Call) (a : Areas) (r s : Called) → Permits c a r → Permits c a s → r ≡ s
one_outcome = equal.one_outcome

pub one_outcome_of_a_run : (a : Areas) (report budget : ℕ) (r s : Called) → Says (run_call a report budget) r → Says (run_call a report budget) s → r ≡ s
one_outcome_of_a_run a report budget = equal.one_said (run_call a report budget)

-- "Show that these are excluded": no chip of a wrong kind meets the promises
pub wrong_chips_are_excluded : (chip : Chip) → Wrong chip → Meets chip → ⊥
wrong_chips_are_excluded = closing.none_meets

-- each lacks the demand that is named with it, and every chip that meets the promises has all three, the second with its sentences on frames
pub each_lacks_its_demand : (chip : Chip) (w : Wrong chip) → LacksNamed chip w
each_lacks_its_demand = inspected.lacks_named closing.closing

pub promises_are_enough : (chip : Chip) → Meets chip → Demand1 chip × Demand2 chip × Demand2Frames chip × Demand3 chip
promises_are_enough chip p =
    (demanded.has_demand1 chip p, demanded.has_demand2 chip p, chip_frames.has_demand2_frames chip p, closing.meets_demand3 chip p)

-- and each kind has a chip that is of it and no worse: ours, spoilt in one thing; every other piece of what it answers and leaves, at every call, is as
-- ours, and what is spoilt is as said. One that refuses everything: with 1 what is not to be refused; and it changes nothing
pub a_chip_that_refuses_everything : RefusesAll refusing
    × AsOursBut refusing (λ s c a p. is_refused (called c a) ≡ false) (λ a r. as_lent 1 a)
    × ((c : Call) (a : Areas) → Untouched a (refusing.calls tt c a))
a_chip_that_refuses_everything = (spoiled.refusing_is_of_its_kind, spoiled.refusing_is_no_worse, spoiled.refusing_changes_nothing)

-- with a constant answer
pub a_chip_with_a_constant_answer : (n : ℕ) → OneAnswer (answering n) × AsOursBut (answering n) (λ s c a p. OfAnswer p) (λ a. with_answer n)
a_chip_with_a_constant_answer n = (spoiled.answering_is_of_its_kind n, spoiled.answering_is_no_worse n)

-- that leaves memory untouched
pub a_chip_that_leaves_memory_untouched : MemoryAsLent leaving × AsOursBut leaving (λ s c a p. OfMemory p) (λ a. with_memory a.memory)
a_chip_that_leaves_memory_untouched = (spoiled.leaving_is_of_its_kind, spoiled.leaving_is_no_worse)

-- that marks commands complete without acting, always, and at some turns alone
pub a_chip_that_marks_only : MarksOnly marking_only × AsOursBut marking_only (λ s c a p. SpoiltTurn always c a × OfAction a p) unacted
a_chip_that_marks_only = (marked.marking_only_is_of_its_kind, spoiled.marking_only_is_no_worse)

pub a_chip_that_marks_some : MarksSome marking_at_seven × AsOursBut marking_at_seven (λ s c a p. SpoiltTurn at_seven c a × OfAction a p) unacted
a_chip_that_marks_some = (marked.marking_at_seven_is_of_its_kind, spoiled.marking_at_seven_is_no_worse)

-- that marks a command complete before it acts, at some turns while the unit waits before it
pub a_chip_that_marks_at_once : MarksSome marking_at_once × AsOursBut marking_at_once (λ s c a p. SpoiltTurn at_seven c a × OfMark a p) marked_at_once
a_chip_that_marks_at_once = (marked.marking_at_once_is_of_its_kind, spoiled.marking_at_once_is_no_worse)

-- a third of it: that sets nothing, that measures nothing, that sends nothing
pub a_chip_that_sets_nothing : SetsNothing setting_nothing × AsOursBut setting_nothing (λ s c a p. SpoiltTurn always c a × OfSetup p) unset
a_chip_that_sets_nothing = (marked.setting_nothing_is_of_its_kind, spoiled.setting_nothing_is_no_worse)

pub a_chip_that_measures_nothing : MeasuresNothing measuring_nothing
    × AsOursBut measuring_nothing (λ s c a p. SpoiltTurn always c a × OfWord a p) unmeasured
a_chip_that_measures_nothing = (marked.measuring_nothing_is_of_its_kind, spoiled.measuring_nothing_is_no_worse)

pub a_chip_that_sends_nothing : SendsNothing sending_nothing
    × AsOursBut sending_nothing (λ s c a p. SpoiltTurn always c a × (p ≡ the_length)) (λ a. unsent)
a_chip_that_sends_nothing = (marked.sending_nothing_is_of_its_kind, spoiled.sending_nothing_is_no_worse)

-- that serves the first command only, and serves it as ours does; the command unit's later turns leave all as lent and answer 0
pub a_chip_that_serves_the_first_command_only : FirstOnly serving_first
    × ServesFirst serving_first
    × AsOursBut serving_first (λ s c a p. AfterFirst s c a) (λ a r. as_lent 0 a)
a_chip_that_serves_the_first_command_only = (
  first.serving_first_is_of_its_kind,
  first.serving_first_serves_the_first,
  first.serving_first_is_no_worse,
)

-- that invents an edge, at a call, along a trace, amid a list and while a frame is held
pub a_chip_that_invents_an_edge : Invents inventing
    × InventsInTrace inventing
    × InventsAlong inventing
    × InventsWhileHeld inventing
    × AsOursBut inventing (λ s c a p. SpoiltTurn at_seven c a × (p ≡ the_edge)) (λ a. turned_over)
a_chip_that_invents_an_edge = (
  invented.inventing_is_of_its_kind,
  invented.inventing_in_trace_lem,
  invented.inventing_along_lem,
  invented.inventing_while_held_lem,
  spoiled.inventing_is_no_worse,
)

-- that invents a counter, the same: it counts an overrun more
pub a_chip_that_invents_a_counter : Invents counting
    × InventsInTrace counting
    × InventsAlong counting
    × InventsWhileHeld counting
    × AsOursBut counting (λ s c a p. SpoiltTurn at_seven c a × OfOverruns a p) counted_on
a_chip_that_invents_a_counter = (
  invented.counting_is_of_its_kind,
  invented.counting_in_trace,
  invented.counting_along,
  invented.counting_while_held,
  spoiled.counting_is_no_worse,
)

-- ---- document 01's cases, and its fields

-- "P1 to P8 are shown of the definitions by a single statement over a list of them"; and so are the "Readings that swap the columns"
pub p1_to_p8 : T (all_pass marked_cases.papers)
p1_to_p8 = marked_cases.shown

pub no_columns_are_swapped : T (all_pass swapped.swaps)
no_columns_are_swapped = swapped.refuted

-- "Facts on 16- and 24-bit fields are shown once over the width": a field of k bytes at an address reads as it was written, whatever lies over the end
-- of memory; one apart from it stays; and a field of j and k bytes is its low part and its high part
pub a_field_reads_as_written : (m : List ℕ) (a k v : ℕ) → k ≤ length m → field_at k (put_bytes m a (digits k v)) a ≡ v % 256 ^ k
a_field_reads_as_written = fields.field_same

pub a_field_apart_stays : (m : List ℕ) (a : ℕ) (bs : List ℕ) (b k : ℕ) → fields.Apart (length m) a (length bs) b k
    → field_at k (put_bytes m a bs) b ≡ field_at k m b
a_field_apart_stays = fields.field_other

pub a_field_in_two_parts : (m : List ℕ) (a j k : ℕ) → field_at (j + k) m a ≡ field_at j m a + 256 ^ j * field_at k m (a + j)
a_field_in_two_parts = fields.field_append

-- the same of bits in a word: so many from a place on read as they were joined, and those below it stay
pub bits_read_as_joined : (w at v bits : ℕ) → w < 2 ^ at → v < 2 ^ bits → bits_at (joined w at v) at bits ≡ v
bits_read_as_joined = bit_fields.bits_of_joined

pub bits_below_stay : (w at v k bits : ℕ) → bits + k ≤ at → bits_at (joined w at v) k bits ≡ bits_at w k bits
bits_below_stay = bit_fields.bits_kept

-- ---- the premises are met, each by a run that is computed

-- demand 2: an MC-Setup of two groups; a frame to a third that is not listed is held by the bit that it shares, and one whose bit is clear is dropped
pub a_group_that_is_not_listed : filter_run.Seen
a_group_that_is_not_listed = filter_run.seen

-- demand 2: 60 bytes arrive, and 46 of them get to three buffers, or 40 to two
pub a_frame_whose_data_is_stored : data_run.Seen 0xA0 (replicate 4 (call (turn 0))) 46
a_frame_whose_data_is_stored = data_run.enough

pub a_frame_out_of_buffers : data_run.Seen 0xFFFF (replicate 3 (call (turn 0))) 40
a_frame_out_of_buffers = data_run.too_few_lem

-- the same by calls on bytes, each lent what stands, one of them refused
pub a_frame_whose_data_is_stored_on_bytes : data_bytes_run.Met 0xA0 4
a_frame_whose_data_is_stored_on_bytes = data_bytes_run.met_enough

pub a_frame_out_of_buffers_on_bytes : data_bytes_run.Met 0xFFFF 3
a_frame_out_of_buffers_on_bytes = data_bytes_run.met_too_few

-- before the turn that ends the first of them, or the second: frame descriptor, SCB and +6 of the next frame descriptor lie apart, so no piece lies over
-- another, nor over a counter that is not written, and the facts at exit are there
pub a_frame_stored_at_exit : data_run.Exits (data_run.at_end 0xA0 4) (ru.Closing data_run.storing none false) counters
a_frame_stored_at_exit = data_run.enough_exits

pub a_frame_counted_at_exit : data_run.Exits (data_run.at_end 0xFFFF 3) (ru.Lacking data_run.storing) other_counters
a_frame_counted_at_exit = data_run.too_few_exits

-- 02, Wish 4: a frame is held while a Configure says another length and location, and is stored by those that it arrived under: the header in the descriptor
-- and the data in the buffer; or all of it in the buffer, and nothing in the descriptor
pub held_across_a_configure : form_run.Stored fresh_form 0x0A form_run.short (take 14 form_run.twenty) (drop 14 form_run.twenty ++ replicate 14 0)
held_across_a_configure = form_run.as_six

pub held_across_a_configure_with_location_1 : form_run.Stored form_run.short 0x06 fresh_form form_run.marks form_run.twenty
held_across_a_configure_with_location_1 = form_run.as_two

-- before the turn that ends the second, what `with_location_1_the_descriptor_stays_from_8_on` asks for is met
pub a_descriptor_that_stays : Clear 14 form_run.ended form_run.storing × NextClear 14 form_run.ended form_run.storing
    × (bytes_at (ran (turn 0) form_run.ended).memory (in_frame form_run.ended form_run.storing 8) 14
    ≡ bytes_at (form_run.ended).memory (in_frame form_run.ended form_run.storing 8) 14)
a_descriptor_that_stays = (form_run.is_clear, form_run.next_is_clear, form_run.stays)

-- six calls, one of them refused: of two held frames one ends by a record that is lent otherwise, and one is stored
pub frames_on_bytes : AllGiven bytes_run.calls
    × (bytes_run.story ≡ record { held = 1 ∷ 2 ∷ []; ends = (1, by_altering) ∷ (2, by_call fate.Stored) ∷ []; still = [] })
frames_on_bytes = (bytes_run.all_given, bytes_run.its_story)

-- demand 3, first half: a Transmit, a TDR and a NOP, while two frames are stored and the host writes; on bytes, with a refused call; and by runs
pub a_list_that_is_run : Starts list_run.before × Started list_run.three list_run.begun × Premises DuringList enough list_run.three list_run.trace list_run.begun
    × Done list_run.three list_run.trace list_run.begun
a_list_that_is_run = (list_run.starts, list_run.is_started, list_run.premises, list_run.witness_done)

pub a_list_that_is_run_on_bytes :
    let a = (called attention list_bytes_run.first).areas in
    PremisesOnBytes DuringList enough list_run.three list_bytes_run.worked a list_run.begun × DoneOnBytes list_run.three list_bytes_run.worked a list_run.begun
a_list_that_is_run_on_bytes = (list_bytes_run.bytes_premises, list_bytes_run.bytes_done)

pub a_list_that_is_run_by_runs :
    let a = (called attention list_bytes_run.first).areas in
    let ds = list_drives.by_runs list_bytes_run.worked in
    PremisesByRuns DuringList enough list_run.three ds a list_run.begun × DoneByRuns list_run.three ds a list_run.begun
a_list_that_is_run_by_runs = (list_drives.runs_met, list_drives.runs_done)

-- one that ends in S, started from Suspended by an attention that also acknowledges all and aborts a begun frame, with a Transmit whose data lies over its
-- own status word, while frames arrive; and one that goes on by RESUME
pub a_list_at_an_unruly_start : suspended_run.Unruly
a_list_at_an_unruly_start = suspended_run.unruly

pub a_list_that_is_resumed : Resumes 0x20 resumed_run.before
    × Listed (resumed_run.begun).device.units.base (resumed_run.begun).memory resumed_run.behind
    × Premises DuringList enough resumed_run.behind resumed_run.trace resumed_run.begun
    × Done resumed_run.behind resumed_run.trace resumed_run.begun
a_list_that_is_resumed = (resumed_run.resumes, resumed_run.listed, resumed_run.premises, resumed_run.resumed_done)

-- and one with an MC-Setup whose addresses run over the end of memory, from 8186 to 5
pub a_list_with_an_mc_setup : Started grouped_run.two grouped_run.begun × Premises DuringList enough grouped_run.two grouped_run.trace grouped_run.begun
    × Done grouped_run.two grouped_run.trace grouped_run.begun
a_list_with_an_mc_setup = (grouped_run.is_started, grouped_run.premises, grouped_run.grouped_done)

-- 02, Wish 4: a Configure to two bytes and location 1, an MC-Setup of two such addresses, and a Transmit whose frame is its buffer's; the host writes where the
-- Transmit's block would have its destination and type, and these are none of the list's bytes
pub a_list_that_configures : Started buffered_run.three buffered_run.begun
    × Premises DuringList enough buffered_run.three buffered_run.trace buffered_run.begun
    × Done buffered_run.three buffered_run.trace buffered_run.begun
a_list_that_configures = (buffered_run.is_started, buffered_run.premises, buffered_run.buffered_done)

-- second half: among refusals, with another memory and other areas at each call
pub a_frame_that_is_settled :
    let ls = lent_run.restless 132 lent_run.device in
    AllFair WhileHeld ls lent_run.standing × (turns is_taken ls ≡ 132) × on_records.Settled 132 held_exact.frame ls lent_run.standing
a_frame_that_is_settled = ((held_calls.restless_asked).0, (held_calls.restless_asked).1, held_calls.met_restless)

-- both of a chip, and a list that is resumed, with a refused call among what comes
pub a_list_of_a_chip : ListRun enough pair (met.stray_turn ∷ turns_of (0 ∷ replicate 263 0)) waits
a_list_of_a_chip = met.list_met

pub a_resumed_list_of_a_chip : ResumedRun enough resumed_run.behind (met.stray_turn ∷ map does resumed_run.trace) resumed_run.before
a_resumed_list_of_a_chip = met.resumed_met

pub a_frame_of_a_chip : HeldRun 132 held_exact.frame (met.stray_turn ∷ map does (held_exact.turns_of 132)) held_exact.begun
a_frame_of_a_chip = met.frame_met
