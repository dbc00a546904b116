-- What is said of a frame's data is about something: 60 bytes that arrive, into buffers of 20, 20 and 20 bytes, and into buffers of 20 and 20. What is
-- asked is met, and what the buffers get is computed. What the facts at exit ask is met too. Assumes nothing.
use mathlib.Core.Path.{◌≡◌, refl, sym, ap, ◌∙◌, subst}
use mathlib.Core.Bool.{true, false}
use mathlib.Core.List.{List, [], ◌∷◌, ◌++◌}
use Prim.Native.Nat.{ℕ, zero, suc, ◌+◌}
use native.Mathlib.Omega.{arith}
use lib.Count.{ones}
use lib.ListN.{length, replicate, take, drop, length-replicate}
use Rattle.std.specs.Prelude.{None}
use Rattle.memory.specs.Address.{place, beyond, none}
use Rattle.memory.specs.Memory.{byte_at, put_byte, bytes_at, put_bytes, value, digits, field_at, Write, word_to, apply}
use Rattle.memory.specs.Size.{size_allowed}
use Rattle.memory.proofs.Fields.{up, down}
use Rattle.memory.proofs.Laws.{length_apply}
use Rattle.scb.specs.Words.{no_events, bits_at, joined, any_of, event_bits, status_word}
use Rattle.device.specs.Answers.{counts}
use Rattle.device.specs.Header.{unbuffered}
use Rattle.device.specs.Limits.{holding_size, outgoing_size}
use Rattle.device.specs.Numbers.{verdict_of}
use Rattle.device.specs.State.{fresh, fresh_form, held_in}
use Rattle.device.specs.declared.Cu.TheVariants as cu
use Rattle.device.specs.declared.Device.{Device}
use Rattle.device.specs.declared.Fate.TheVariants as fate
use Rattle.device.specs.declared.Frame.{Frame}
use Rattle.device.specs.declared.Ru.{Ru}
use Rattle.device.specs.declared.Ru.TheVariants as ru
use Rattle.device.specs.declared.Storing.{Storing}
use Rattle.device.specs.declared.Verdict.TheVariants as verdict
use Rattle.filter.specs.Match.{agree, matches}
use Rattle.image.specs.Ranges.{in_range, units_fit, cu_fits, ru_fits, frame_fits, initialised_or_fresh}
use Rattle.receive.specs.Arrival.{length_of, judged, fate_of, arrival}
use Rattle.receive.specs.Begin as receive_begin
use Rattle.receive.specs.Buffer as receive_buffer
use Rattle.receive.specs.End.{frame_status, settles, close, lack}
use Rattle.receive.specs.Service as receive_service
use Rattle.attention.specs.Status.{status_to}
use Rattle.chip.specs.Arrival as arrivals
use Rattle.chip.specs.Call.{arrive, turn}
use Rattle.chip.specs.Turn.{concluded, receive_turn, turn_of}
use Rattle.chip.specs.World.{World, world_of}
use Rattle.progress.specs.Trace.{run, AllMay}
use Rattle.traces.specs.Event.{Event, call, step}
use Rattle.frames.specs.Arrival.{RightLengths, in_scb, unit_of}
use Rattle.frames.specs.Held.{in_frame, link_now, ends}
use Rattle.frames.specs.Data.{Staying, fills_along, together, ArrivedDelivered}
use Rattle.frames.specs.Stands.{NoOverlap, next_first, pieces, counters, other_counters, Each, Spared, GoodExit, Clear, NextClear}
use Rattle.frames.proofs.Data.{arrived}
use Rattle.frames.proofs.Stands.{good_exit}
use Rattle.frames.proofs.Clear.{closing_clear, closing_spared, lacking_clear, lacking_spared}

-- SCB at 40h, frame descriptor at 60h; its buffer descriptors at 80h, 90h and A0h
abbrev pub ready : Device
ready =
    record {
      units =
          record {
            initialised = true;
            base = record { 0 = 0 };
            scb = record { 0 = 0x40 };
            events = no_events;
            rulast = false;
            settings = record { savebad = false; promiscuous = false; nobroadcast = false; minimum = 64; form = fresh_form };
            cu = cu.Idle;
            ru = ru.Ready (record { 0 = 0x60 });
          };
      own = fresh.own;
      filter = fresh.filter;
    }

-- so many bytes, each another
abbrev pub upward : ℕ → ℕ → List ℕ
upward from zero = []
upward from (suc n) = from ∷ upward (suc from) n

-- a broadcast of 60 bytes
abbrev pub sixty : List ℕ
sixty = replicate 6 255 ++ upward 1 54

-- as it is judged
abbrev pub frame : Frame
frame = record { length = 60; verdict = verdict.Good; short = false; savebad = false; form = fresh_form }

-- a buffer descriptor at o: the next one, a buffer of 20 bytes
abbrev pub descriptor : (o next buffer : ℕ) → List Write
descriptor o next buffer = word_to (o + 2) next ∷ word_to (o + 4) buffer ∷ word_to (o + 8) 20 ∷ []

-- the second of them names the third, or none
abbrev pub words : (third : ℕ) → List Write
words third = word_to 0x66 0x80 ∷ (descriptor 0x80 0x90 0x100 ++ descriptor 0x90 third 0x120 ++ descriptor 0xA0 0xFFFF 0x140)

abbrev memory : (third : ℕ) → List ℕ
memory third = apply (words third) (replicate 8192 0)

abbrev pub before : (third : ℕ) → World
before third = world_of ready (memory third) (replicate holding_size 0) (replicate outgoing_size 0)

-- what was asked
pub in_range_lem : in_range ready ≡ true
unfolding in_range units_fit cu_fits ru_fits initialised_or_fresh
in_range_lem = refl

pub eight : size_allowed 8192 ≡ true
unfolding size_allowed ones
eight = refl

pub sized : (ws : List Write) → size_allowed (length (apply ws (replicate 8192 0))) ≡ true
sized ws = ap size_allowed (length_apply ws (replicate 8192 0) ∙ length-replicate {A = ℕ} 8192 0) ∙ eight

pub lengths : (third : ℕ) → RightLengths (before third) sixty
lengths third = record { size = sized (words third); area = length-replicate {A = ℕ} holding_size 0; frame = omega arith }

-- what the arrival and the trace meet, and what the buffers get: so many of the 46 bytes of data
pub record Seen (third : ℕ) (trace : List Event) (got : ℕ) : Type 0 where
  pub fate : (arrivals.arrival_of (before third) sixty 0).outcome.fates ≡ fate.Held None ∷ []
  pub unit : unit_of (step (call (arrive sixty 0)) (before third)) ≡ ru.Held (record { 0 = 0x60 }) frame false
  pub may : AllMay Staying step trace (step (call (arrive sixty 0)) (before third))
  pub ends : ends (turn 0) (run step trace (step (call (arrive sixty 0)) (before third))) ≡ true
  pub bytes : together (fills_along trace (step (call (arrive sixty 0)) (before third))) ≡ take got (drop (unbuffered fresh_form) sixty)

-- begin and three buffers: all 46
pub enough : Seen 0xA0 (call (turn 0) ∷ call (turn 0) ∷ call (turn 0) ∷ call (turn 0) ∷ []) 46
unfolding byte_at put_byte bytes_at put_bytes value digits field_at place beyond bits_at joined any_of event_bits status_word counts verdict_of agree matches length_of judged fate_of arrival receive_begin.begun_by receive_begin.begin receive_buffer.descriptor_at receive_buffer.buffer frame_status settles close lack receive_service.service status_to arrivals.arrival arrivals.arrival_of concluded receive_turn turn_of
enough = record { fate = refl; unit = refl; may = ((refl, refl), ((refl, refl), ((refl, refl), ((refl, refl), tt)))); ends = refl; bytes = refl }

-- begin and two buffers: 40 of them
pub too_few_lem : Seen 0xFFFF (call (turn 0) ∷ call (turn 0) ∷ call (turn 0) ∷ []) 40
unfolding byte_at put_byte bytes_at put_bytes value digits field_at place beyond bits_at joined any_of event_bits status_word counts verdict_of agree matches length_of judged fate_of arrival receive_begin.begun_by receive_begin.begin receive_buffer.descriptor_at receive_buffer.buffer frame_status settles close lack receive_service.service status_to arrivals.arrival arrivals.arrival_of concluded receive_turn turn_of
too_few_lem = record { fate = refl; unit = refl; may = ((refl, refl), ((refl, refl), ((refl, refl), tt))); ends = refl; bytes = refl }

-- so both are delivered as said
pub is_said : (third : ℕ) (trace : List Event) (got : ℕ) → Seen third trace got → ArrivedDelivered sixty trace (step (call (arrive sixty 0)) (before third)) 0
is_said third trace got s = arrived (before third) sixty 0 None trace 0 (lengths third) in_range_lem s.fate s.may s.ends

-- ---- the facts at exit

-- the frame has arrived and so many turns have come: the turn that ends it is next
abbrev pub at_end : (third turns : ℕ) → World
at_end third turns = run step (replicate turns (call (turn 0))) (step (call (arrive sixty 0)) (before third))

-- in the frame descriptor at 60h
abbrev pub storing : Storing
storing = record { fd = record { 0 = 0x60 }; el = false; suspend = false; pausing = false; frame = frame }

-- what the facts at exit ask for is met before that turn: the frame descriptor, the SCB and +6 of the next frame descriptor lie apart, so no piece lies
-- over another, nor over one of these counters; so the facts are there
pub record Exits (w : World) (unit : Ru) (unwritten : List ℕ) : Type 0 where
  pub now : unit_of w ≡ unit
  pub ends : ends (turn 0) w ≡ true
  pub clear : Clear 14 w storing
  pub next : NextClear 14 w storing
  pub apart : NoOverlap (length w.memory) (pieces (unit_of w) w)
  pub spared : Each (Spared (unit_of w) w) unwritten
  pub exit : GoodExit frame (turn 0) w

-- what is computed of such a world: its SCB is at 40h, the link is 0
record Computed (w : World) (unit : Ru) : Type 0 where
  now : unit_of w ≡ unit
  ends : ends (turn 0) w ≡ true
  held : held_in (unit_of w) ≡ frame ∷ []
  range : in_range w.device ≡ true
  size : length w.memory ≡ 8192
  area : length w.holding ≡ holding_size
  scb : w.device.units.scb.0 ≡ 0x40
  link : (link_now w storing).0 ≡ 0

closing : Computed (at_end 0xA0 4) (ru.Closing storing none false)
unfolding byte_at put_byte bytes_at put_bytes value digits field_at place beyond bits_at joined any_of event_bits status_word counts verdict_of agree matches length_of judged fate_of arrival receive_begin.begun_by receive_begin.begin receive_buffer.descriptor_at receive_buffer.buffer frame_status settles close lack receive_service.service status_to arrivals.arrival arrivals.arrival_of concluded receive_turn turn_of in_range units_fit cu_fits ru_fits frame_fits initialised_or_fresh
closing = record { now = refl; ends = refl; held = refl; range = refl; size = refl; area = refl; scb = refl; link = refl }

lacking : Computed (at_end 0xFFFF 3) (ru.Lacking storing)
unfolding byte_at put_byte bytes_at put_bytes value digits field_at place beyond bits_at joined any_of event_bits status_word counts verdict_of agree matches length_of judged fate_of arrival receive_begin.begun_by receive_begin.begin receive_buffer.descriptor_at receive_buffer.buffer frame_status settles close lack receive_service.service status_to arrivals.arrival arrivals.arrival_of concluded receive_turn turn_of in_range units_fit cu_fits ru_fits frame_fits initialised_or_fresh
lacking = record { now = refl; ends = refl; held = refl; range = refl; size = refl; area = refl; scb = refl; link = refl }

is_clear : (w : World) (u : Ru) → Computed w u → Clear 14 w storing
unfolding place
is_clear w u k =
    let n = k.size in
    let s = k.scb in
    record { room = omega arith; scb = omega arith; apart = down (length w.memory) (in_frame w storing 0) 22 (in_scb w 0) 16 (omega arith) (omega arith) }

next_is_clear : (w : World) (u : Ru) → Computed w u → NextClear 14 w storing
unfolding place
next_is_clear w u k =
    let n = k.size in
    let s = k.scb in
    let l = k.link in
    record {
      frame = up (length w.memory) (next_first w storing) 2 (in_frame w storing 0) 22 (omega arith) (omega arith);
      scb = up (length w.memory) (next_first w storing) 2 (in_scb w 0) 16 (omega arith) (omega arith);
    }

exits_by : (w : World) (u : Ru) (unwritten : List ℕ) → Computed w u → NoOverlap (length w.memory) (pieces u w) → Each (Spared u w) unwritten
    → Exits w u unwritten
exits_by w u unwritten k a b =
    let p = subst (λ (x : Ru). NoOverlap (length w.memory) (pieces x w)) (sym k.now) a in
    let l : RightLengths w [] = record { size = ap size_allowed k.size ∙ eight; area = k.area; frame = omega arith } in
    record {
      now = k.now;
      ends = k.ends;
      clear = is_clear w u k;
      next = next_is_clear w u k;
      apart = p;
      spared = subst (λ (x : Ru). Each (Spared x w) unwritten) (sym k.now) b;
      exit = good_exit (turn 0) w frame l k.range k.held refl p;
    }

-- with buffers enough; with too few
pub enough_exits : Exits (at_end 0xA0 4) (ru.Closing storing none false) counters
enough_exits =
    let c = is_clear _ _ closing in
    let n : false ≡ false → NextClear 14 (at_end 0xA0 4) storing = λ e. next_is_clear _ _ closing in
    exits_by _ _ counters closing (closing_clear _ storing none false c n) (closing_spared _ storing none false c n)

pub too_few_exits : Exits (at_end 0xFFFF 3) (ru.Lacking storing) other_counters
too_few_exits = let c = is_clear _ _ lacking in exits_by _ _ other_counters lacking (lacking_clear _ storing c) (lacking_spared _ storing c)
