-- The laws over traces are about something: a run in which frames are stored, counted, both, aborted, lost by a reset and by altering the record,
-- and one is still held; its notes are computed. Assumes nothing.
use mathlib.Core.Path.{◌≡◌, refl}
use mathlib.Core.Bool.{Bool, true, false}
use mathlib.Core.List.{List, [], ◌∷◌, ◌++◌, map}
use Prim.Native.Nat.{ℕ}
use lib.ListN.{replicate}
use Rattle.memory.specs.Address.{place, beyond}
use Rattle.memory.specs.Memory.{byte_at, put_byte, bytes_at, put_bytes, value, digits, field_at, word_to, apply}
use Rattle.scb.specs.Control.{code_of}
use Rattle.scb.specs.Words.{no_events, bits_at, joined, acknowledged, any_of, event_bits, status_word}
use Rattle.device.specs.Answers.{counts}
use Rattle.device.specs.Numbers.{action_of, verdict_of}
use Rattle.device.specs.State.{fresh, fresh_form}
use Rattle.device.specs.declared.Cu.TheVariants as cu
use Rattle.device.specs.declared.Device.{Device}
use Rattle.device.specs.declared.Fate.TheVariants as fate
use Rattle.device.specs.declared.Frame.{Frame}
use Rattle.device.specs.declared.Ru.{Ru}
use Rattle.device.specs.declared.Ru.TheVariants as ru
use Rattle.filter.specs.Match.{agree, matches}
use Rattle.image.specs.Ranges.{in_range, units_fit, cu_fits, ru_fits, initialised_or_fresh}
use Rattle.receive.specs.Arrival.{length_of, judged, fate_of, arrival}
use Rattle.receive.specs.Begin as receive_begin
use Rattle.receive.specs.Buffer as receive_buffer
use Rattle.receive.specs.End.{frame_status, settles, close, lack}
use Rattle.receive.specs.Service as receive_service
use Rattle.attention.specs.Status.{status_to}
use Rattle.attention.specs.Attention as attentions
use Rattle.control.specs.Obey.{obey_cuc, obey_ruc}
use Rattle.chip.specs.Attention.{attention_of}
use Rattle.chip.specs.Arrival as arrivals
use Rattle.chip.specs.Call.{Call, reset, attention, arrive, turn}
use Rattle.chip.specs.Turn.{concluded, command_turn, receive_turn, turn_of}
use Rattle.chip.specs.World.{World, world_of, reset_of}
use Rattle.progress.specs.Trace.{run}
use Rattle.traces.specs.Event.{call, host}
use Rattle.frames.specs.Fates.{Deed, event, alter, opening, noted, numbers_of, Way, by_call, by_altering, Ended, held_as, still, ended_as, names_of}
use Rattle.frames.specs.Fates.{advance, beginnings, endings}

-- SCB at 64, a ring of one frame descriptor at 0; no minimum length
abbrev pub device_with : Ru → Bool → Device
device_with unit savebad =
    record {
      units =
          record {
            initialised = true;
            base = record { 0 = 0 };
            scb = record { 0 = 64 };
            events = no_events;
            rulast = false;
            settings = record { savebad = savebad; promiscuous = false; nobroadcast = false; minimum = 0; form = fresh_form };
            cu = cu.Idle;
            ru = unit;
          };
      own = fresh.own;
      filter = fresh.filter;
    }

abbrev pub ready : Bool → Device
ready savebad = device_with (ru.Ready (record { 0 = 0 })) savebad

pub in_range_lem : (savebad : Bool) → in_range (ready savebad) ≡ true
unfolding in_range units_fit cu_fits ru_fits initialised_or_fresh
in_range_lem savebad = refl

-- a broadcast of 14 bytes, and one with a byte of data, for which there is no buffer: +6 of the descriptor has FFFFh
abbrev pub bare : List ℕ
bare = replicate 6 255 ++ replicate 8 0

abbrev one : List ℕ
one = bare ++ (1 ∷ [])

abbrev zeros : List ℕ
zeros = replicate 128 0

abbrev without : List ℕ
without = apply (word_to 6 0xFFFF ∷ []) zeros

-- RUC 4
abbrev aborting : List ℕ
aborting = apply (word_to 66 0x0040 ∷ []) zeros

abbrev memory : List ℕ → Deed
memory m = event (host m zeros zeros)

abbrev does : Call → Deed
does c = event (call c)

abbrev trace : List Deed
trace =
    does (arrive bare 0) ∷ does (turn 0) ∷ does (turn 0)
    ∷ memory without ∷ does (arrive one 0) ∷ does (turn 0) ∷ does (turn 0)
    ∷ alter (ready true) (in_range_lem true) ∷ memory without ∷ does (arrive one 0) ∷ does (turn 0) ∷ does (turn 0)
    ∷ alter (ready false) (in_range_lem false) ∷ does (arrive bare 0) ∷ memory aborting ∷ does attention
    ∷ alter (ready false) (in_range_lem false) ∷ does (arrive bare 0) ∷ alter (ready false) (in_range_lem false)
    ∷ does (arrive bare 0) ∷ does reset
    ∷ alter (ready false) (in_range_lem false) ∷ does (arrive bare 0)
    ∷ []

-- which were held, how each ended, and which is still held
pub record Story : Type 0 where
  pub held : List ℕ
  pub ends : List (ℕ × Way)
  pub still : List ℕ

pub start : World
start = world_of (ready false) zeros zeros zeros

pub story : Story
unfolding start byte_at put_byte bytes_at put_bytes value digits field_at place beyond code_of bits_at joined acknowledged any_of event_bits status_word counts action_of verdict_of agree matches length_of judged fate_of arrival receive_begin.begun_by receive_begin.begin receive_buffer.descriptor_at receive_buffer.buffer frame_status settles close lack receive_service.service status_to reset_of attentions.iscp_of attentions.initialise obey_cuc obey_ruc attentions.attend_by attentions.attend attentions.attention attention_of arrivals.arrival arrivals.arrival_of concluded command_turn receive_turn turn_of
story =
    record {
      held = numbers_of (beginnings trace (opening start));
      ends = map (λ (e : Ended). (e.noted.number, e.way)) (endings trace (opening start));
      still = numbers_of (still (run advance trace (opening start)));
    }

pub its_story : story
    ≡ record {
      held = 1 ∷ 2 ∷ 3 ∷ 4 ∷ 5 ∷ 6 ∷ 7 ∷ [];
      ends =
          (1, by_call fate.Stored)
          ∷ (2, by_call fate.Counted)
          ∷ (3, by_call fate.StoredCounted)
          ∷ (4, by_call fate.Aborted)
          ∷ (5, by_altering)
          ∷ (6, by_call fate.Reset)
          ∷ [];
      still = 7 ∷ [];
    }
unfolding story
its_story = refl

-- ---- the notes of more than one held frame, and of a fate that no held frame is there for

-- numbers go with frames in their order; a fate ends the oldest
pub oldest_first : (f g : Frame)
    → names_of (ended_as (fate.Stored ∷ []) (held_as (f ∷ g ∷ []) (3 ∷ 5 ∷ []))) ≡ noted 3 (f ∷ []) ∷ []
oldest_first f g = refl

-- two fates end both
pub both_end : (f g : Frame)
    → names_of (ended_as (fate.Aborted ∷ fate.Aborted ∷ []) (held_as (f ∷ g ∷ []) (3 ∷ 5 ∷ []))) ≡ noted 3 (f ∷ []) ∷ noted 5 (g ∷ []) ∷ []
both_end f g = refl

-- a fate too many is noted too, under a number that no frame has: `no_other` then fails
pub one_too_many : (f : Frame)
    → names_of (ended_as (fate.Stored ∷ fate.Counted ∷ []) (held_as (f ∷ []) (3 ∷ []))) ≡ noted 3 (f ∷ []) ∷ noted 0 [] ∷ []
one_too_many f = refl

-- and so is a frame that is held without a number
pub none_left_out : (f g : Frame) → held_as (f ∷ g ∷ []) (3 ∷ []) ≡ noted 3 (f ∷ []) ∷ noted 0 (g ∷ []) ∷ []
none_left_out f g = refl
