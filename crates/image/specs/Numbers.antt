-- An image's tests as the code makes them, on the numbers of a record: proofs/Units.antt and proofs/Tests.antt show that they come to the same as
-- the layout and the ranges. Assumes nothing.
use Rattle.std.specs.Prelude.{Bool, false, not, cond, ◌&&◌, ◌||◌, List, ℕ, ◌+◌, eqb, leb, ltb}
use Rattle.numerals.specs.Places.{field}
use Rattle.device.specs.Header.{header, unbuffered}
use Rattle.device.specs.Limits.{longest_address}
use Rattle.phases.specs.Fields.{odd, flags_in, kind_in, size_in, next_in, sized_most, filled_in, above_filled, filled_most}
use Rattle.phases.specs.Forms.{form_of, verdict_in, form_in, kind_shaped}
use Rattle.phases.specs.Phases.{word_of, acting_tag, sending_tag, ending_tag, failing_tag, begun_flags, begun_most, acting_most, cu_of, cu_shaped}
use Rattle.phases.specs.Phases.{held_tag, filling_tag, closing_tag, lacking_tag, held_flags, storing_flags, closing_flags, frame_of, ru_of, ru_shaped}
use Rattle.packed.specs.Packed.{status_is, marks_in, cu_tag_in, ru_tag_in}
use Rattle.packed.specs.SetUp.{form_at, settings_shaped, filter_size, settings_at, minimum_at, own_at, filter_at}
use Rattle.packed.specs.Record.{letters_at, status_at, setup_at}
use Rattle.packed.specs.declared.Packed.{Packed}
use Rattle.image.specs.Ranges.{cu_fits, ru_fits}
use Rattle.image.specs.Image.{front_is, spare_zero, packed_at}

-- ---- a unit's word

-- so many bytes at least, and 2,048 at most
abbrev pub sized_in : ℕ → ℕ → Bool
sized_in least n = leb least (size_in n) && leb (size_in n) 2048

-- what of a frame does not go through buffers, by a form's number; the frame's own
abbrev pub unbuffered_in : ℕ → ℕ
unbuffered_in form = unbuffered (form_of form)

abbrev pub form_of_kind : ℕ → ℕ
form_of_kind n = form_in (kind_in n)

-- a walk goes on: fewer than 64 descriptors are used, and there is a next one
abbrev pub has_next_in : ℕ → ℕ → Bool
has_next_in n used = leb used 63 && not (eqb (next_in n) 0xFFFF)

-- ---- the command unit, by the number of the form in force and its tag

unfoldable pub acting_is : ℕ → Bool
acting_is n = leb n acting_most && ltb (flags_in n) begun_flags && not (eqb (kind_in n) 4)

unfoldable pub sending_is : ℕ → ℕ → Bool
sending_is form n = ltb (flags_in n) begun_flags && has_next_in n (kind_in n) && sized_in (unbuffered_in form) n

unfoldable pub ending_is : ℕ → ℕ → Bool
ending_is form n = leb n sized_most && ltb (flags_in n) begun_flags && eqb (kind_in n) 0 && sized_in (unbuffered_in form) n

unfoldable pub begun_is : ℕ → ℕ → ℕ → Bool
begun_is form t n =
    cond (eqb t acting_tag) (acting_is n)
    (cond (eqb t sending_tag) (sending_is form n)
    (cond (eqb t ending_tag) (ending_is form n)
    (cond (eqb t failing_tag) (leb n begun_most) false)))

-- ---- the receive unit, by its tag

-- a frame whose flags are below a number; a bad one is held only to be saved
unfoldable pub frame_is : ℕ → ℕ → Bool
frame_is n most =
    ltb (flags_in n) most
    && kind_shaped (kind_in n)
    && sized_in (header (form_of (form_of_kind n)).length) n
    && ((frame_of (word_of n)).savebad || (not (frame_of (word_of n)).short && eqb (verdict_in (kind_in n)) 0))

-- it has data for the buffers
abbrev pub has_data_in : ℕ → Bool
has_data_in n = ltb (unbuffered_in (form_of_kind n)) (size_in n)

unfoldable pub held_is : ℕ → ℕ → Bool
held_is n rest = leb n sized_most && eqb rest 0 && frame_is n held_flags

unfoldable pub filling_is : ℕ → ℕ → Bool
filling_is n rest =
    leb rest filled_most
    && frame_is n storing_flags
    && has_next_in n (above_filled rest)
    && leb (unbuffered_in (form_of_kind n)) (filled_in rest)
    && ltb (filled_in rest) (size_in n)

unfoldable pub closing_is : ℕ → ℕ → Bool
closing_is n rest = eqb rest 0 && frame_is n closing_flags && (has_data_in n || not (word_of n).sixth)

unfoldable pub lacking_is : ℕ → ℕ → Bool
lacking_is n rest = leb n sized_most && eqb rest 0 && frame_is n storing_flags && has_data_in n

unfoldable pub holding_is : ℕ → ℕ → ℕ → Bool
holding_is t n rest =
    cond (eqb t held_tag) (held_is n rest)
    (cond (eqb t filling_tag) (filling_is n rest)
    (cond (eqb t closing_tag) (closing_is n rest)
    (cond (eqb t lacking_tag) (lacking_is n rest) false)))

-- ---- a record

-- a tag and a number are those of a command unit in range, by the number of the form in force
unfoldable pub cu_is : ℕ → ℕ → ℕ → Bool
cu_is form t n = cu_shaped t n && cu_fits (form_of form) (cu_of t (word_of n))

-- and a tag and two numbers of a receive unit
unfoldable pub ru_is : ℕ → ℕ → ℕ → Bool
ru_is t n rest = ru_shaped t n rest && ru_fits (ru_of t (word_of n) rest)

-- a front, a form and four numbers are those of units in range
unfoldable pub words_are : (front form : ℕ) → Packed → Bool
words_are front form k = (front_is front && status_is k.status) && (cu_is form (cu_tag_in k) k.cu && ru_is (ru_tag_in k) k.ru k.rest)

-- the form in force, as a record has it
abbrev pub form_is : List ℕ → ℕ
form_is r = form_at (field r (setup_at + settings_at) 1)

-- all is as after reset: no bit of the status and of the settings, minimum length 64, own address six FFh, the filter empty
unfoldable pub fresh_at : List ℕ → Bool
fresh_at r =
    eqb (field r status_at 8) 0
    && eqb (field r (setup_at + settings_at) 1) 0
    && eqb (field r (setup_at + minimum_at) 1) 64
    && eqb (field r (setup_at + own_at) longest_address) 0xFFFFFFFFFFFF
    && eqb (field r (setup_at + filter_at) filter_size) 0

-- all of them
unfoldable pub tested : List ℕ → Bool
tested r =
    words_are (field r letters_at 8) (form_is r) (packed_at r)
    && ((spare_zero r && settings_shaped (field r (setup_at + settings_at) 1)) && (odd (marks_in (packed_at r)) || fresh_at r))
