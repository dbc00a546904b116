-- 02, Wish 4: "A held frame is stored by the length and location it arrived under, whatever Configure has said since": a frame of 20 bytes arrives under one
-- form, a Configure that is begun sets another before the first buffer is filled, and what the descriptor and the buffer get is computed; both ways. What
-- is asked for the statement on its data is met too. Assumes nothing.
use mathlib.Core.Path.{◌≡◌, refl, ap, ◌∙◌}
use mathlib.Core.Bool.{true, false}
use mathlib.Core.List.{List, [], ◌∷◌, ◌++◌}
use Prim.Native.Nat.{ℕ}
use native.Mathlib.Omega.{arith}
use lib.ListN.{length, replicate, take, drop, length-replicate}
use Rattle.std.specs.Prelude.{None}
use Rattle.memory.specs.Address.{place, beyond, none}
use Rattle.memory.specs.Memory.{byte_at, put_byte, bytes_at, put_bytes, value, digits, field_at, Write, bytes_to, word_to, apply}
use Rattle.memory.specs.Size.{size_allowed}
use Rattle.memory.proofs.Fields.{up, down}
use Rattle.scb.specs.Words.{no_events, bits_at, joined, any_of, event_bits, status_word}
use Rattle.device.specs.Answers.{counts}
use Rattle.device.specs.Limits.{holding_size, outgoing_size}
use Rattle.device.specs.Numbers.{verdict_of}
use Rattle.device.specs.State.{fresh, fresh_form, held_in}
use Rattle.device.specs.declared.Action.TheVariants as action
use Rattle.device.specs.declared.Begun.{Begun}
use Rattle.device.specs.declared.Cu.TheVariants as cu
use Rattle.device.specs.declared.Device.{Device}
use Rattle.device.specs.declared.Fate.TheVariants as fate
use Rattle.device.specs.declared.Form.{Form}
use Rattle.device.specs.declared.Frame.{Frame}
use Rattle.device.specs.declared.Ru.TheVariants as ru
use Rattle.device.specs.declared.Storing.{Storing}
use Rattle.device.specs.declared.Verdict.TheVariants as verdict
use Rattle.filter.specs.Match.{agree, matches}
use Rattle.actions.specs.Actions.{settings_by, act}
use Rattle.command.specs.End.{next_after, end}
use Rattle.command.specs.Service as command_service
use Rattle.image.specs.Ranges.{in_range, units_fit, cu_fits, ru_fits, frame_fits, initialised_or_fresh}
use Rattle.receive.specs.Arrival.{length_of, judged, fate_of, arrival}
use Rattle.receive.specs.Begin as receive_begin
use Rattle.receive.specs.Buffer as receive_buffer
use Rattle.receive.specs.End.{frame_status, settles, close}
use Rattle.receive.specs.Service as receive_service
use Rattle.attention.specs.Status.{status_to}
use Rattle.chip.specs.Arrival as arrivals
use Rattle.chip.specs.Call.{arrive, turn, ran}
use Rattle.chip.specs.Turn.{concluded, command_turn, receive_turn, turn_of}
use Rattle.chip.specs.World.{World, world_of}
use Rattle.progress.specs.Trace.{run, AllMay}
use Rattle.traces.specs.Event.{Event, call, step}
use Rattle.frames.specs.Arrival.{RightLengths, settings_of, in_scb, unit_of}
use Rattle.frames.specs.Held.{in_frame, link_now, ends}
use Rattle.frames.specs.Data.{Staying, ArrivedDelivered}
use Rattle.frames.specs.Stands.{next_first, Clear, NextClear}
use Rattle.frames.proofs.Data.{arrived}
use Rattle.frames.proofs.Clear.{closing_stays}
use Rattle.traced.proofs.DataWitness.{upward, eight, sized}

-- two bytes an address, and the header in the buffers
abbrev pub short : Form
short = record { length = 2; location = true }

-- a Configure that is begun, its block at 200h
abbrev configuring : Begun
configuring = record { block = record { 0 = 0x200 }; el = true; suspend = false; interrupt = false; pausing = false }

-- SCB at 40h, frame descriptor at 60h, its buffer descriptor at 80h; that form is in force
abbrev pub under : Form → Device
under form =
    record {
      units =
          record {
            initialised = true;
            base = record { 0 = 0 };
            scb = record { 0 = 0x40 };
            events = no_events;
            rulast = false;
            settings = record { savebad = false; promiscuous = false; nobroadcast = false; minimum = 0; form = form };
            cu = cu.Acting configuring action.Configure;
            ru = ru.Ready (record { 0 = 0x60 });
          };
      own = fresh.own;
      filter = fresh.filter;
    }

-- what stands in the descriptor from +8 on
abbrev pub marks : List ℕ
marks = replicate 14 0x77

-- a buffer of 20 bytes at 100h; the Configure has four bytes, and its byte 3 is at 209h
abbrev words : (third : ℕ) → List Write
words third = bytes_to 0x68 marks ∷ word_to 0x66 0x80 ∷ word_to 0x82 0xFFFF ∷ word_to 0x84 0x100 ∷ word_to 0x88 20 ∷ word_to 0x206 4 ∷ word_to 0x209 third ∷ []

abbrev pub before : Form → (third : ℕ) → World
before form third = world_of (under form) (apply (words third) (replicate 8192 0)) (replicate holding_size 0) (replicate outgoing_size 0)

-- a broadcast under either form
abbrev pub twenty : List ℕ
twenty = replicate 6 255 ++ upward 1 14

-- begin; the end of the Configure; the buffer
abbrev pub trace : List Event
trace = call (turn 0) ∷ call (turn 0) ∷ call (turn 0) ∷ []

abbrev pub arrived_at : Form → (third : ℕ) → World
arrived_at form third = step (call (arrive twenty 0)) (before form third)

-- the turn that ends the frame
abbrev pub last : Form → (third : ℕ) → List ℕ
last form third = (ran (turn 0) (run step trace (arrived_at form third))).memory

-- it is held; then another form is in force, and the end is next; 14 bytes from +8 of the descriptor on, and 20 of the buffer, as that end leaves them
pub record Stored (form : Form) (third : ℕ) (now : Form) (in_descriptor in_buffer : List ℕ) : Type 0 where
  pub range : in_range (under form) ≡ true
  pub fate : (arrivals.arrival_of (before form third) twenty 0).outcome.fates ≡ fate.Held None ∷ []
  pub may : AllMay Staying step trace (arrived_at form third)
  pub ends : ends (turn 0) (run step trace (arrived_at form third)) ≡ true
  pub configured : (settings_of (run step trace (arrived_at form third))).form ≡ now
  pub descriptor : bytes_at (last form third) 0x68 14 ≡ in_descriptor
  pub buffer : bytes_at (last form third) 0x100 20 ≡ in_buffer

-- under six bytes and location 0, and a Configure to two and 1: the header is in the descriptor, and what is behind it in the buffer
pub as_six : Stored fresh_form 0x0A short (take 14 twenty) (drop 14 twenty ++ replicate 14 0)
unfolding byte_at put_byte bytes_at put_bytes value digits field_at place beyond bits_at joined any_of event_bits status_word counts verdict_of agree matches length_of judged fate_of arrival receive_begin.begun_by receive_begin.begin receive_buffer.descriptor_at receive_buffer.buffer frame_status settles close receive_service.service settings_by act next_after end command_service.service status_to arrivals.arrival arrivals.arrival_of concluded command_turn receive_turn turn_of in_range units_fit cu_fits ru_fits initialised_or_fresh
as_six =
    record {
      range = refl;
      fate = refl;
      may = ((refl, refl), ((refl, refl), ((refl, refl), tt)));
      ends = refl;
      configured = refl;
      descriptor = refl;
      buffer = refl;
    }

-- under two bytes and location 1, and a Configure to six and 0: all of it is in the buffer, and the descriptor has its marks still
pub as_two : Stored short 0x06 fresh_form marks twenty
unfolding byte_at put_byte bytes_at put_bytes value digits field_at place beyond bits_at joined any_of event_bits status_word counts verdict_of agree matches length_of judged fate_of arrival receive_begin.begun_by receive_begin.begin receive_buffer.descriptor_at receive_buffer.buffer frame_status settles close receive_service.service settings_by act next_after end command_service.service status_to arrivals.arrival arrivals.arrival_of concluded command_turn receive_turn turn_of in_range units_fit cu_fits ru_fits initialised_or_fresh
as_two =
    record {
      range = refl;
      fate = refl;
      may = ((refl, refl), ((refl, refl), ((refl, refl), tt)));
      ends = refl;
      configured = refl;
      descriptor = refl;
      buffer = refl;
    }

-- so both are delivered as said of a frame that arrives
lengths : (form : Form) (third : ℕ) → RightLengths (before form third) twenty
lengths form third = record { size = sized (words third); area = length-replicate {A = ℕ} holding_size 0; frame = omega arith }

pub is_said : (form : Form) (third : ℕ) (now : Form) (in_descriptor in_buffer : List ℕ) → Stored form third now in_descriptor in_buffer → ArrivedDelivered twenty trace (arrived_at form third) 0
is_said form third now in_descriptor in_buffer s =
    arrived (before form third) twenty 0 None trace 0 (lengths form third) s.range s.fate s.may s.ends

-- ---- with location 1, before the end of the second: descriptor, SCB and +6 of the next frame descriptor lie apart, so the statement that the descriptor stays
-- from +8 on speaks of it

abbrev pub ended : World
ended = run step trace (arrived_at short 0x06)

abbrev pub frame : Frame
frame = record { length = 20; verdict = verdict.Good; short = false; savebad = false; form = short }

abbrev pub storing : Storing
storing = record { fd = record { 0 = 0x60 }; el = false; suspend = false; pausing = false; frame = frame }

record Computed : Type 0 where
  now : unit_of ended ≡ ru.Closing storing none false
  held : held_in (unit_of ended) ≡ frame ∷ []
  range : in_range ended.device ≡ true
  ends : ends (turn 0) ended ≡ true
  size : length ended.memory ≡ 8192
  area : length ended.holding ≡ holding_size
  scb : ended.device.units.scb.0 ≡ 0x40
  link : (link_now ended storing).0 ≡ 0

computed : Computed
unfolding byte_at put_byte bytes_at put_bytes value digits field_at place beyond bits_at joined any_of event_bits status_word counts verdict_of agree matches length_of judged fate_of arrival receive_begin.begun_by receive_begin.begin receive_buffer.descriptor_at receive_buffer.buffer frame_status settles close receive_service.service settings_by act next_after end command_service.service status_to arrivals.arrival arrivals.arrival_of concluded command_turn receive_turn turn_of in_range units_fit cu_fits ru_fits frame_fits initialised_or_fresh
computed = record { now = refl; held = refl; range = refl; ends = refl; size = refl; area = refl; scb = refl; link = refl }

pub is_clear : Clear 14 ended storing
unfolding place
is_clear =
    let n = computed.size in
    let s = computed.scb in
    record { room = omega arith; scb = omega arith; apart = down (length ended.memory) (in_frame ended storing 0) 22 (in_scb ended 0) 16 (omega arith) (omega arith) }

pub next_is_clear : NextClear 14 ended storing
unfolding place
next_is_clear =
    let n = computed.size in
    let s = computed.scb in
    let l = computed.link in
    record {
      frame = up (length ended.memory) (next_first ended storing) 2 (in_frame ended storing 0) 22 (omega arith) (omega arith);
      scb = up (length ended.memory) (next_first ended storing) 2 (in_scb ended 0) 16 (omega arith) (omega arith);
    }

pub stays : bytes_at (ran (turn 0) ended).memory (in_frame ended storing 8) 14 ≡ bytes_at ended.memory (in_frame ended storing 8) 14
stays =
    let k = computed in
    let l : RightLengths ended [] = record { size = ap size_allowed k.size ∙ eight; area = k.area; frame = omega arith } in
    closing_stays (turn 0) ended frame storing none false l k.range k.held k.ends k.now is_clear (λ e. next_is_clear) refl
