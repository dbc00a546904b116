-- Worked cases of the definitions: words given, then steps. A step is a call with the answer that it must give, and the words that memory and
-- the outgoing area must hold after it, changed or unchanged. Assumes nothing.
use Rattle.std.specs.Prelude.{Bool, true, false, not, ◌&&◌, List, [], ◌∷◌, ℕ, eqb, replicate}
use Rattle.memory.specs.Memory.{byte_at, put_byte, bytes_at, put_bytes, value, digits, field_at, word_at, word_to, apply}
use Rattle.memory.specs.Address.{place, beyond}
use Rattle.scb.specs.Control.{code_of}
use Rattle.scb.specs.Words.{bits_at, joined, acknowledged, any_of, event_bits, status_word}
use Rattle.hash.specs.Hash.{ones, shifted, step, bits_in, register, selected, hash}
use Rattle.device.specs.Answers.{counts}
use Rattle.device.specs.Limits.{holding_size, outgoing_size}
use Rattle.device.specs.Numbers.{action_of, verdict_of, refusal_or_0, reason_or_0}
use Rattle.device.specs.State.{fresh}
use Rattle.device.specs.declared.Answer.{Answer}
use Rattle.filter.specs.Match.{agree, matches}
use Rattle.command.specs.Begin as command_begin
use Rattle.command.specs.Buffer as command_buffer
use Rattle.actions.specs.Actions.{settings_by, filtering, act, reported, is_sent, sent}
use Rattle.command.specs.End.{next_after, end}
use Rattle.command.specs.Service as command_service
use Rattle.receive.specs.Arrival.{length_of, judged, fate_of, arrival}
use Rattle.receive.specs.Begin as receive_begin
use Rattle.receive.specs.Buffer as receive_buffer
use Rattle.receive.specs.End.{frame_status, settles, close, lack}
use Rattle.receive.specs.Service as receive_service
use Rattle.attention.specs.Status.{status_to}
use Rattle.attention.specs.Attention as attentions
use Rattle.chip.specs.World.{World, Ran, afterwards, reset_of}
use Rattle.control.specs.Obey.{obey_cuc, obey_ruc}
use Rattle.chip.specs.Attention.{attention_of}
use Rattle.chip.specs.Arrival as arrivals
use Rattle.chip.specs.Call.{Call, ran}
use Rattle.chip.specs.Turn.{concluded, command_turn, receive_turn, turn_of}

-- an address and the word there
pub record Word : Type 0 where
  pub place : ℕ
  pub value : ℕ

abbrev pub ◌is◌ : ℕ → ℕ → Word
◌is◌ a w = record { place = a; value = w }

infix 80 ◌is◌
-- the interrupt's level, where a case speaks of it
pub data Level : Type 0 where
  unsaid : Level
  high : Level
  low : Level

-- an answer: number, length, edge, reason
pub record Said : Type 0 where
  pub number : ℕ
  pub length : ℕ
  pub edge : Bool
  pub reason : ℕ

pub record Step : Type 0 where
  -- words that the host writes before the call
  pub host : List Word
  -- words that it writes to the holding and to the outgoing area, by index
  pub held : List Word
  pub sent : List Word
  pub call : Call
  pub answer : Said
  pub words : List Word
  -- words of the outgoing area, by index
  pub outgoing : List Word
  pub level : Level

pub record Case : Type 0 where
  pub given : List Word
  pub steps : List Step

-- ---- running a case

abbrev pub put : List Word → List ℕ → List ℕ
put [] m = m
put (w ∷ ws) m = put ws (apply (word_to w.place w.value ∷ []) m)

-- the world with what the host writes before a step
abbrev pub altered : World → Step → World
altered w s =
    record {
      device = w.device;
      memory = put s.host w.memory;
      holding = put s.held w.holding;
      outgoing = put s.sent w.outgoing;
    }

-- a fresh device with a memory
abbrev pub start_on : List ℕ → World
start_on m =
    record { device = fresh; memory = m; holding = replicate holding_size 0; outgoing = replicate outgoing_size 0 }

-- 8,192 bytes of memory, zero but for the words given
abbrev pub start : List Word → World
start ws = start_on (put ws (replicate 8192 0))

-- ---- what must be so after a step

abbrev pub same : Bool → Bool → Bool
same true b = b
same false b = not b

abbrev pub answers : Answer → Said → Bool
answers a s =
    eqb (refusal_or_0 a.refusal) s.number
    && eqb a.length s.length
    && same a.edge s.edge
    && eqb (reason_or_0 a.reason) s.reason

abbrev pub holds : List Word → List ℕ → Bool
holds [] m = true
holds (w ∷ ws) m = eqb (word_at m w.place) w.value && holds ws m

-- 01, "The SCB": interrupt is high when bits 15-12 are not all zero
abbrev pub level_is : Level → Bool → Bool
level_is unsaid b = true
level_is high b = b
level_is low b = not b

abbrev pub step_passes : Step → Ran → Bool
step_passes s r =
    answers r.outcome.answer s.answer
    && holds s.words r.memory
    && holds s.outgoing r.outgoing
    && level_is s.level (any_of r.outcome.device.units.events)

abbrev pub walk : List Step → World → Bool
walk [] w = true
walk (s ∷ ss) w =
    let r = ran s.call (altered w s) in step_passes s r && walk ss (afterwards r)

unfoldable pub passes : Case → Bool
unfolding byte_at put_byte bytes_at put_bytes value digits field_at place beyond
    code_of bits_at joined acknowledged any_of event_bits status_word counts action_of verdict_of agree matches
    command_begin.begun_by command_begin.header_of command_begin.begin command_buffer.descriptor_at command_buffer.buffer
    ones shifted step bits_in register selected hash settings_by filtering act reported is_sent sent next_after end command_service.service
    length_of judged fate_of arrival
    receive_begin.begun_by receive_begin.begin receive_buffer.descriptor_at receive_buffer.buffer frame_status settles close lack
    receive_service.service status_to reset_of attentions.iscp_of attentions.initialise obey_cuc obey_ruc attentions.attend_by attentions.attend
    attentions.attention attention_of arrivals.arrival arrivals.arrival_of concluded command_turn receive_turn turn_of
passes c = walk c.steps (start c.given)

abbrev pub all_pass : List Case → Bool
all_pass [] = true
all_pass (c ∷ cs) = passes c && all_pass cs
