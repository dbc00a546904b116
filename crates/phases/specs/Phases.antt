-- A unit as a tag and words of eight bytes: what a phase uses stands below what it does not use, which is zero. Assumes nothing.
use Rattle.std.specs.Prelude.{Bool, false, not, cond, ◌&&◌, ℕ, ◌-◌, ◌<◌, ◌^◌, eqb, leb, ltb}
use Rattle.memory.specs.declared.Offset.{Offset}
use Rattle.device.specs.Numbers.{action_number, action_of, verdict_of}
use Rattle.device.specs.declared.Action.{Action}
use Rattle.device.specs.declared.Begun.{Begun}
use Rattle.device.specs.declared.Cu.{Cu}
use Rattle.device.specs.declared.Cu.TheVariants as cu
use Rattle.device.specs.declared.Frame.{Frame}
use Rattle.device.specs.declared.Ru.{Ru}
use Rattle.device.specs.declared.Ru.TheVariants as ru
use Rattle.device.specs.declared.Storing.{Storing}
use Rattle.device.specs.declared.Walk.{Walk}
use Rattle.phases.specs.Fields.{flags_of, odd, flag_at, word_by, offset_in, flags_in, kind_in, size_in, next_in, offset_most, sized_most, word_most, rest_by, filled_in, used_in, filled_most}
use Rattle.phases.specs.Forms.{kind_of, verdict_in, form_in, form_of, kind_shaped, FormWide}
use Rattle.phases.specs.declared.Word.{Word}

-- ---- a word and its number

abbrev pub flag_bits : Word → ℕ
flag_bits w = flags_of w.first w.second w.third w.fourth w.fifth w.sixth

unfoldable pub number_of : Word → ℕ
number_of w = word_by w.at (flag_bits w) w.kind w.size w.next

-- and the word of a number
abbrev pub flagged : ℕ → ℕ → ℕ → ℕ → ℕ → Word
flagged at f kind size next =
    record {
      at = at;
      first = odd f;
      second = flag_at 1 f;
      third = flag_at 2 f;
      fourth = flag_at 3 f;
      fifth = flag_at 4 f;
      sixth = flag_at 5 f;
      kind = kind;
      size = size;
      next = next;
    }

unfoldable pub word_of : ℕ → Word
word_of n = flagged (offset_in n) (flags_in n) (kind_in n) (size_in n) (next_in n)

-- a word with an offset alone
abbrev pub plain : ℕ → Word
plain o = record { at = o; first = false; second = false; third = false; fourth = false; fifth = false; sixth = false; kind = 0; size = 0; next = 0 }

-- ---- the command unit

-- a begun command: its block, its flags I, S, EL, in the order of bits 13 to 15 of the command word, and a waiting SUSPEND, and what its phase
-- needs besides
abbrev pub begun_word : Begun → ℕ → ℕ → ℕ → Word
begun_word b kind size next =
    record {
      at = b.block.0;
      first = b.interrupt;
      second = b.suspend;
      third = b.el;
      fourth = b.pausing;
      fifth = false;
      sixth = false;
      kind = kind;
      size = size;
      next = next;
    }

-- one whose end is next: its number
abbrev pub acting_word : Begun → Action → Word
acting_word b a = begun_word b (action_number a) 0 0

-- what a command word holds to the end, in the order of its bits 13 to 15; no SUSPEND waits yet
abbrev pub begun_with : Offset → (flags : ℕ) → Begun
begun_with o flags = record { block = o; el = flag_at 2 flags; suspend = flag_at 1 flags; interrupt = odd flags; pausing = false }

-- the tags of the phases in which a command is begun
abbrev pub acting_tag : ℕ
acting_tag = 3

abbrev pub sending_tag : ℕ
sending_tag = 4

abbrev pub ending_tag : ℕ
ending_tag = 5

abbrev pub failing_tag : ℕ
failing_tag = 6

-- the tag of a phase
abbrev pub cu_tag : Cu → ℕ
cu_tag cu.Idle = 0
cu_tag (cu.Suspended o) = 1
cu_tag (cu.Waiting o) = 2
cu_tag (cu.Acting b a) = acting_tag
cu_tag (cu.Sending b w) = sending_tag
cu_tag (cu.Ending b n) = ending_tag
cu_tag (cu.Failing b) = failing_tag

-- its word; a Transmit has the descriptors used, the bytes in the outgoing area and the next descriptor
unfoldable pub cu_word : Cu → Word
cu_word cu.Idle = plain 0
cu_word (cu.Suspended o) = plain o.0
cu_word (cu.Waiting o) = plain o.0
cu_word (cu.Acting b a) = acting_word b a
cu_word (cu.Sending b w) = begun_word b w.used w.filled w.next.0
cu_word (cu.Ending b n) = begun_word b 0 n 0
cu_word (cu.Failing b) = begun_word b 0 0 0

-- what is read of a word
abbrev pub begun_of : Word → Begun
begun_of w = record { block = record { 0 = w.at }; el = w.third; suspend = w.second; interrupt = w.first; pausing = w.fourth }

abbrev pub sending_of : Word → Walk
sending_of w = record { next = record { 0 = w.next }; used = w.kind; filled = w.size }

abbrev pub action_at : Word → Action
action_at w = action_of w.kind

-- the unit of a tag and a word
unfoldable pub cu_of : ℕ → Word → Cu
cu_of t w =
    cond (eqb t 0) cu.Idle
    (cond (eqb t 1) (cu.Suspended (record { 0 = w.at }))
    (cond (eqb t 2) (cu.Waiting (record { 0 = w.at }))
    (cond (eqb t acting_tag) (cu.Acting (begun_of w) (action_at w))
    (cond (eqb t sending_tag) (cu.Sending (begun_of w) (sending_of w))
    (cond (eqb t ending_tag) (cu.Ending (begun_of w) w.size) (cu.Failing (begun_of w)))))))

-- a begun command has four flags; the largest that has nothing above them, and the largest with a command below 8
abbrev pub begun_flags : ℕ
begun_flags = 2 ^ 4

abbrev pub begun_most : ℕ
begun_most = 2 ^ 20 - 1

abbrev pub acting_most : ℕ
acting_most = 2 ^ 27 - 1

-- a tag's largest number, and its kinds: an action is no Transmit, and Ending has no kind, though its size stands above it
unfoldable pub cu_most : ℕ → ℕ
cu_most t =
    cond (eqb t 0) 0
    (cond (eqb t 1) offset_most
    (cond (eqb t 2) offset_most
    (cond (eqb t acting_tag) acting_most
    (cond (eqb t sending_tag) word_most
    (cond (eqb t ending_tag) sized_most begun_most)))))

unfoldable pub cu_kind : ℕ → ℕ → Bool
cu_kind t kind = cond (eqb t acting_tag) (not (eqb kind 4)) (cond (eqb t ending_tag) (eqb kind 0) (ltb t 7))

-- a tag and a number are those of a unit
unfoldable pub cu_shaped : ℕ → ℕ → Bool
cu_shaped t n = leb n (cu_most t) && ltb (flags_in n) begun_flags && cu_kind t (kind_in n)

-- ---- the receive unit

-- a held frame: its descriptor, its flags waiting SUSPEND, short, save bad, its verdict and form, and its length
abbrev pub frame_word : Offset → Frame → Bool → Word
frame_word o f pausing =
    record {
      at = o.0;
      first = pausing;
      second = f.short;
      third = f.savebad;
      fourth = false;
      fifth = false;
      sixth = false;
      kind = kind_of f.verdict f.form;
      size = f.length;
      next = 0;
    }

-- as it was judged, before it is known which descriptor it goes to, as a number
abbrev pub frame_number : Frame → ℕ
frame_number f = number_of (frame_word (record { 0 = 0 }) f false)

-- a held frame that is begun, by the flags S, EL in the order of bits 14 and 15 of the descriptor's word
abbrev pub storing_with : Offset → Frame → Bool → (flags : ℕ) → Storing
storing_with o f pausing flags = record { fd = o; el = flag_at 1 flags; suspend = odd flags; pausing = pausing; frame = f }

-- one begun: besides, the flags S, EL, whether the last buffer had EL, and an offset
abbrev pub storing_word : Storing → ℕ → Bool → Word
storing_word s next full =
    record {
      at = s.fd.0;
      first = s.pausing;
      second = s.frame.short;
      third = s.frame.savebad;
      fourth = s.suspend;
      fifth = s.el;
      sixth = full;
      kind = kind_of s.frame.verdict s.frame.form;
      size = s.frame.length;
      next = next;
    }

-- the tags of the phases in which a frame is held
abbrev pub held_tag : ℕ
held_tag = 4

abbrev pub filling_tag : ℕ
filling_tag = 5

abbrev pub closing_tag : ℕ
closing_tag = 6

abbrev pub lacking_tag : ℕ
lacking_tag = 7

-- the tag of a phase
abbrev pub ru_tag : Ru → ℕ
ru_tag ru.Idle = 0
ru_tag (ru.Suspended o) = 1
ru_tag ru.NoResources = 2
ru_tag (ru.Ready o) = 3
ru_tag (ru.Held o f p) = held_tag
ru_tag (ru.Filling s w) = filling_tag
ru_tag (ru.Closing s o full) = closing_tag
ru_tag (ru.Lacking s) = lacking_tag

-- its word
unfoldable pub ru_word : Ru → Word
ru_word ru.Idle = plain 0
ru_word ru.NoResources = plain 0
ru_word (ru.Suspended o) = plain o.0
ru_word (ru.Ready o) = plain o.0
ru_word (ru.Held o f p) = frame_word o f p
ru_word (ru.Filling s w) = storing_word s w.next.0 false
ru_word (ru.Closing s o full) = storing_word s o.0 full
ru_word (ru.Lacking s) = storing_word s 0 false

-- the second word: how far a frame is stored, and in how many buffers
abbrev pub filled_number : Walk → ℕ
filled_number w = rest_by w.filled w.used

unfoldable pub ru_rest : Ru → ℕ
ru_rest ru.Idle = 0
ru_rest ru.NoResources = 0
ru_rest (ru.Suspended o) = 0
ru_rest (ru.Ready o) = 0
ru_rest (ru.Held o f p) = 0
ru_rest (ru.Filling s w) = filled_number w
ru_rest (ru.Closing s o full) = 0
ru_rest (ru.Lacking s) = 0

-- what is read of its words
abbrev pub frame_of : Word → Frame
frame_of w =
    record {
      length = w.size;
      verdict = verdict_of (verdict_in w.kind);
      short = w.second;
      savebad = w.third;
      form = form_of (form_in w.kind);
    }

abbrev pub storing_of : Word → Storing
storing_of w = record { fd = record { 0 = w.at }; el = w.fifth; suspend = w.fourth; pausing = w.first; frame = frame_of w }

abbrev pub filling_of : Word → ℕ → Walk
filling_of w rest = record { next = record { 0 = w.next }; used = used_in rest; filled = filled_in rest }

-- the unit of a tag and its words
unfoldable pub ru_of : ℕ → Word → ℕ → Ru
ru_of t w rest =
    cond (eqb t 0) ru.Idle
    (cond (eqb t 1) (ru.Suspended (record { 0 = w.at }))
    (cond (eqb t 2) ru.NoResources
    (cond (eqb t 3) (ru.Ready (record { 0 = w.at }))
    (cond (eqb t held_tag) (ru.Held (record { 0 = w.at }) (frame_of w) w.first)
    (cond (eqb t filling_tag) (ru.Filling (storing_of w) (filling_of w rest))
    (cond (eqb t closing_tag) (ru.Closing (storing_of w) (record { 0 = w.next }) w.sixth) (ru.Lacking (storing_of w))))))))

-- a held frame has three flags, a begun one five, and six once all is stored
abbrev pub held_flags : ℕ
held_flags = 2 ^ 3

abbrev pub storing_flags : ℕ
storing_flags = 2 ^ 5

abbrev pub closing_flags : ℕ
closing_flags = 2 ^ 6

-- a tag's largest number, its flags, and the largest second word
unfoldable pub ru_most : ℕ → ℕ
ru_most t =
    cond (eqb t 0) 0
    (cond (eqb t 1) offset_most
    (cond (eqb t 2) 0
    (cond (eqb t 3) offset_most
    (cond (eqb t filling_tag) word_most
    (cond (eqb t closing_tag) word_most sized_most)))))

unfoldable pub ru_flags : ℕ → ℕ
ru_flags t = cond (eqb t held_tag) held_flags (cond (eqb t closing_tag) closing_flags storing_flags)

unfoldable pub rest_most : ℕ → ℕ
rest_most t = cond (eqb t filling_tag) filled_most 0

-- a tag and two numbers are those of a unit
unfoldable pub ru_shaped : ℕ → ℕ → ℕ → Bool
ru_shaped t n rest = ltb t 8 && leb n (ru_most t) && ltb (flags_in n) (ru_flags t) && kind_shaped (kind_in n) && leb rest (rest_most t)

-- ---- the widths, which the types of the code say of every word

pub record WordWide (w : Word) : Type 0 where
  pub at : w.at < 2 ^ 16
  pub kind : w.kind < 2 ^ 8
  pub size : w.size < 2 ^ 16
  pub next : w.next < 2 ^ 16

-- a held frame's addresses have at most six bytes; what is stored of one being filled has two bytes, and the buffers one
abbrev pub HoldingWide : Ru → Type 0
HoldingWide ru.Idle = Unit {0}
HoldingWide ru.NoResources = Unit {0}
HoldingWide (ru.Suspended o) = Unit {0}
HoldingWide (ru.Ready o) = Unit {0}
HoldingWide (ru.Held o f p) = FormWide f.form
HoldingWide (ru.Filling s w) = FormWide s.frame.form × (w.filled < 2 ^ 16) × (w.used < 2 ^ 8)
HoldingWide (ru.Closing s o full) = FormWide s.frame.form
HoldingWide (ru.Lacking s) = FormWide s.frame.form
