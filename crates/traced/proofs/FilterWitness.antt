-- What is said of the filter is about something: an MC-Setup of two groups ends, and of the frames that arrive after it one to a group that is not
-- listed is held by the bit that it shares, and one whose bit is clear is not ours. Assumes nothing.
use mathlib.Core.Path.{◌≡◌, refl}
use mathlib.Core.Bool.{true, false}
use mathlib.Core.List.{List, [], ◌∷◌}
use Prim.Native.Nat.{ℕ}
use native.Mathlib.Omega.{arith}
use lib.ListN.{replicate, take}
use Rattle.std.specs.Prelude.{None}
use Rattle.memory.specs.Address.{place}
use Rattle.memory.specs.Memory.{byte_at, put_byte, bytes_at, put_bytes, value, digits, field_at, Write, word_to, apply}
use Rattle.scb.specs.Words.{bits_at, joined, any_of, event_bits, status_word}
use Rattle.hash.specs.Hash.{ones, shifted, step, bits_in, register, selected, hash}
use Rattle.device.specs.Change.{with_cu, with_units}
use Rattle.device.specs.Limits.{longest_address, holding_size, outgoing_size}
use Rattle.device.specs.Numbers.{verdict_of}
use Rattle.device.specs.declared.Action.TheVariants as action
use Rattle.device.specs.declared.Begun.{Begun}
use Rattle.device.specs.declared.Cu.TheVariants as cu
use Rattle.device.specs.declared.Fate.TheVariants as fate
use Rattle.filter.specs.Match.{agree, all_ones, is_group, matches}
use Rattle.actions.specs.Actions.{groups, group_at, filtering, act}
use Rattle.command.specs.End.{next_after, end}
use Rattle.command.specs.Service.{service}
use Rattle.receive.specs.Arrival.{length_of, judged, fate_of, arrival}
use Rattle.attention.specs.Status.{status_to}
use Rattle.chip.specs.Arrival as arrivals
use Rattle.chip.specs.Turn.{concluded, command_turn, turn_of}
use Rattle.chip.specs.World.{World, world_of}
use Rattle.frames.specs.Arrival.{is_ours}
use Rattle.frames.specs.Filtered.{EndsMcSetup, FallsIn}
use Rattle.frames.specs.Setups.{left_by}
use Rattle.traced.proofs.DataWitness.{ready, upward}
use Rattle.frames.proofs.Filtered.{passes}

-- the MC-Setup at 200h is begun: two groups, 01-00-00-00-00-00 and 01-00-5E-00-00-01, which fall on bits 5 and 52
abbrev pub begun : Begun
begun = record { block = record { 0 = 0x200 }; el = true; suspend = false; interrupt = false; pausing = false }

abbrev words : List Write
words = word_to 0x200 0x4000 ∷ word_to 0x202 0x8003 ∷ word_to 0x206 12 ∷ word_to 0x208 0x0001 ∷ word_to 0x20E 0x0001 ∷ word_to 0x210 0x005E ∷ word_to 0x212 0x0100 ∷ []

abbrev pub world : World
world =
    world_of (with_units ready (with_cu ready.units (cu.Acting begun action.McSetup))) (apply words (replicate 8192 0)) (replicate holding_size 0)
    (replicate outgoing_size 0)

-- 60 bytes to a group
abbrev pub to : (last : ℕ) → List ℕ
to last = 0x01 ∷ 0 ∷ 0 ∷ 0 ∷ 0 ∷ last ∷ upward 1 54

-- what is met, and what comes of it: 01-00-00-00-00-7F shares bit 5 with the first of the two, 01-00-00-00-00-01 shares none
pub record Seen : Type 0 where
  pub ends : EndsMcSetup world begun
  pub two : groups longest_address world.device.units.base begun.block world.memory ≡ 2
  pub first : group_at longest_address world.memory 0x208 0 ≡ 0x01 ∷ 0 ∷ 0 ∷ 0 ∷ 0 ∷ 0 ∷ []
  pub second : group_at longest_address world.memory 0x208 1 ≡ 0x01 ∷ 0 ∷ 0x5E ∷ 0 ∷ 0 ∷ 0x01 ∷ []
  pub not_ones : all_ones longest_address (to 0x7F) ≡ false
  pub group : is_group (to 0x7F) ≡ true
  pub falls : FallsIn world begun (hash (take longest_address (to 0x7F)))
  pub ours : is_ours (left_by world 0) (to 0x7F) ≡ true
  pub held : (arrivals.arrival_of (left_by world 0) (to 0x7F) 0).outcome.fates ≡ fate.Held None ∷ []
  pub another : (arrivals.arrival_of (left_by world 0) (to 0x01) 0).outcome.fates ≡ fate.NoMatch ∷ []

pub seen : Seen
unfolding byte_at put_byte bytes_at put_bytes value digits field_at place bits_at joined any_of event_bits status_word verdict_of ones shifted step bits_in register selected hash agree matches length_of judged fate_of arrival filtering act next_after end service status_to arrivals.arrival arrivals.arrival_of concluded command_turn turn_of
seen =
    let e : EndsMcSetup world begun = record { served = refl; begun = refl } in
    let f : FallsIn world begun (hash (take longest_address (to 0x7F))) = record { which = 0; among = omega arith; on_it = refl } in
    record {
      ends = e;
      two = refl;
      first = refl;
      second = refl;
      not_ones = refl;
      group = refl;
      falls = f;
      ours = passes world begun 0 e (to 0x7F) refl refl f;
      held = refl;
      another = refl;
    }
