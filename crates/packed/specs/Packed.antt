-- The units' state as four numbers, which is how the record keeps it and how a call carries it. Assumes nothing.
use Rattle.std.specs.Prelude.{◌≡◌, Bool, true, false, ◌&&◌, ℕ, ◌+◌, ◌*◌, ◌/◌, ◌%◌, ◌<◌, ◌^◌, eqb}
use Rattle.scb.specs.Words.{one, event_bits, raise}
use Rattle.scb.specs.declared.Events.{Events}
use Rattle.device.specs.Change.{with_cu, with_ru, with_events, served_ru}
use Rattle.device.specs.declared.Begun.{Begun}
use Rattle.device.specs.declared.Cu.{Cu}
use Rattle.device.specs.declared.Ru.{Ru}
use Rattle.device.specs.declared.Units.{Units}
use Rattle.phases.specs.Phases.{number_of, begun_word, cu_tag, cu_word, ru_tag, ru_word, ru_rest, WordWide, HoldingWide}
use Rattle.phases.specs.declared.Word.{Word}
use Rattle.packed.specs.declared.Packed.{Packed}
use Rattle.packed.specs.declared.cu.Unit as cu
use Rattle.packed.specs.declared.ru.Unit as ru

-- ---- a state's numbers

-- bit 0 initialised, bit 1 RU served last, bits 7-4 CX, FR, CNA, RNR
abbrev pub marks_by : Bool → Bool → Events → ℕ
marks_by initialised rulast events = one initialised + 2 * one rulast + 2 ^ 4 * event_bits events

abbrev pub marks_of : Units → ℕ
marks_of u = marks_by u.initialised u.rulast u.events

-- eight bytes, in the order of the record from byte 5 on: bits 7-4 the events; bits 2-0 the CU's tag, bit 4 initialised, bit 5 RU served last; the
-- RU's tag; two bytes of the SCB's offset; three of the base
abbrev pub status_by : (scb marks cu ru base : ℕ) → ℕ
status_by scb marks cu ru base =
    2 ^ 4 * (marks / 2 ^ 4) + 2 ^ 8 * cu + 2 ^ 12 * (marks % 2 ^ 2) + 2 ^ 16 * ru + 2 ^ 24 * scb + 2 ^ 40 * base

abbrev pub status_of : Units → ℕ
status_of u = status_by u.scb.0 (marks_of u) (cu_tag u.cu) (ru_tag u.ru) u.base.0

-- all of the state but the settings, the own address and the filter, which stand beside it
unfoldable pub packed_of : Units → Packed
packed_of u =
    record {
      status = status_of u;
      cu = number_of (cu_word u.cu);
      ru = number_of (ru_word u.ru);
      rest = ru_rest u.ru;
    }

-- ---- a unit was served, and events came up: what every working turn does with a service

abbrev pub cu_served : Units → Cu → Events → Units
cu_served u c by = with_events (served_ru (with_cu u c) false) (raise u.events by)

abbrev pub ru_served : Units → Ru → Events → Units
ru_served u v by = with_events (served_ru (with_ru u v) true) (raise u.events by)

-- both units obeyed their control codes, and events came up
abbrev pub both_with : Units → Cu → Ru → Events → Units
both_with u c v by = with_events (with_ru (with_cu u c) v) (raise u.events by)

-- ---- what is read of the status

abbrev pub scb_in : Packed → ℕ
scb_in k = k.status / 2 ^ 24 % 2 ^ 16

abbrev pub marks_in : Packed → ℕ
marks_in k = k.status / 2 ^ 12 % 2 ^ 2 + 2 ^ 4 * (k.status / 2 ^ 4 % 2 ^ 4)

abbrev pub cu_tag_in : Packed → ℕ
cu_tag_in k = k.status / 2 ^ 8 % 2 ^ 3

abbrev pub ru_tag_in : Packed → ℕ
ru_tag_in k = k.status / 2 ^ 16 % 2 ^ 8

-- each unit's numbers
abbrev pub cu_unit_in : Packed → cu.Unit
cu_unit_in k = record { tag = cu_tag_in k; word = k.cu }

abbrev pub ru_unit_in : Packed → ru.Unit
ru_unit_in k = record { tag = ru_tag_in k; word = k.ru; rest = k.rest }

abbrev pub base_in : Packed → ℕ
base_in k = k.status / 2 ^ 40

-- the bits of a status that nothing uses are zero: 3-0 of its first byte; 3, 6 and 7 of its second
abbrev pub status_is : ℕ → Bool
status_is s = eqb (s % 2 ^ 4) 0 && eqb (s / 2 ^ 11 % 2) 0 && eqb (s / 2 ^ 14 % 2 ^ 2) 0

-- ---- numbers that are a state's: every field is as wide as the code's types and a real address make it

-- a number is a word's
pub record WordIs (w : Word) (n : ℕ) : Type 0 where
  pub number_is : n ≡ number_of w
  pub wide : WordWide w

-- a begun command's word, and a held frame's, with a SUSPEND that waits
abbrev pub begun_pausing : Word → Word
begun_pausing w =
    record {
      at = w.at;
      first = w.first;
      second = w.second;
      third = w.third;
      fourth = true;
      fifth = w.fifth;
      sixth = w.sixth;
      kind = w.kind;
      size = w.size;
      next = w.next;
    }

abbrev pub held_pausing : Word → Word
held_pausing w =
    record {
      at = w.at;
      first = true;
      second = w.second;
      third = w.third;
      fourth = w.fourth;
      fifth = w.fifth;
      sixth = w.sixth;
      kind = w.kind;
      size = w.size;
      next = w.next;
    }

-- a number is a begun command's, with nothing above its marks
abbrev pub BegunIs : Begun → ℕ → Type 0
BegunIs b n = WordIs (begun_word b 0 0 0) n

pub record CuIs (c : Cu) (tag n : ℕ) : Type 0 where
  pub tag_is : tag ≡ cu_tag c
  pub word_is : n ≡ number_of (cu_word c)
  pub wide : WordWide (cu_word c)

pub record RuIs (u : Ru) (tag n rest : ℕ) : Type 0 where
  pub tag_is : tag ≡ ru_tag u
  pub word_is : n ≡ number_of (ru_word u)
  pub rest_is : rest ≡ ru_rest u
  pub wide : WordWide (ru_word u)
  pub holding : HoldingWide u

-- the same of a unit's numbers together
abbrev pub CuUnitIs : Cu → cu.Unit → Type 0
CuUnitIs c n = CuIs c n.tag n.word

abbrev pub RuUnitIs : Ru → ru.Unit → Type 0
RuUnitIs v n = RuIs v n.tag n.word n.rest

pub record UnitsWide (u : Units) : Type 0 where
  pub scb_wide : u.scb.0 < 2 ^ 16
  pub base_wide : u.base.0 < 2 ^ 24
  pub cu_wide : WordWide (cu_word u.cu)
  pub ru_wide : WordWide (ru_word u.ru)
  pub holding_wide : HoldingWide u.ru

pub record PackedIs (u : Units) (k : Packed) : Type 0 where
  pub same : k ≡ packed_of u
  pub wide : UnitsWide u
