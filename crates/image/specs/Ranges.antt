-- The ranges: which states a record may hold. Every state that a call can leave is among them. Assumes nothing.
use Rattle.std.specs.Prelude.{Bool, true, not, ◌&&◌, ◌||◌, ◌≡◌, ℕ, ◌<◌, ◌^◌, eqb, leb, ltb, length, get_or}
use Rattle.memory.specs.Address.{is_none}
use Rattle.memory.specs.Memory.{value}
use Rattle.scb.specs.Words.{cu_number, ru_number, event_bits}
use Rattle.device.specs.Header.{header, unbuffered}
use Rattle.device.specs.Limits.{longest_address, longest, filter_bits}
use Rattle.device.specs.State.{cu_state, ru_state, is_good}
use Rattle.device.specs.declared.Cu.{Cu}
use Rattle.device.specs.declared.Cu.TheVariants as cu
use Rattle.device.specs.declared.Device.{Device}
use Rattle.device.specs.declared.Form.{Form}
use Rattle.device.specs.declared.Frame.{Frame}
use Rattle.device.specs.declared.Ru.{Ru}
use Rattle.device.specs.declared.Ru.TheVariants as ru
use Rattle.device.specs.declared.Settings.{Settings}
use Rattle.device.specs.declared.Storing.{Storing}
use Rattle.device.specs.declared.Units.{Units}
use Rattle.device.specs.declared.Walk.{Walk}
use Rattle.phases.specs.Phases.{cu_word, ru_word, WordWide}

-- an address has at most six bytes
abbrev pub form_fits : Form → Bool
form_fits f = leb f.length longest_address

-- so many bytes at least, and 2,048 at most
abbrev pub sized_from : ℕ → ℕ → Bool
sized_from least n = leb least n && leb n longest

-- a walk goes on: fewer than 64 descriptors are used, and there is a next one
abbrev pub has_next : Walk → Bool
has_next w = leb w.used 63 && not (is_none w.next)

-- a Transmit has in the outgoing area what the buffers do not bring, by the form in force, and no more than a frame
abbrev pub sent_fits : Form → ℕ → Bool
sent_fits f n = sized_from (unbuffered f) n

abbrev pub sending_fits : Form → Walk → Bool
sending_fits f w = has_next w && sent_fits f w.filled

-- the command unit is in range
unfoldable pub cu_fits : Form → Cu → Bool
cu_fits f cu.Idle = true
cu_fits f (cu.Suspended o) = true
cu_fits f (cu.Waiting o) = true
cu_fits f (cu.Acting b a) = true
cu_fits f (cu.Sending b w) = sending_fits f w
cu_fits f (cu.Ending b n) = sent_fits f n
cu_fits f (cu.Failing b) = true

-- a held frame has its header, by its own form; a bad one is held only to be saved
unfoldable pub frame_fits : Frame → Bool
frame_fits f = form_fits f.form && sized_from (header f.form.length) f.length && (is_good f || f.savebad)

-- it has data for the buffers: with location 1 always
abbrev pub has_data : Frame → Bool
has_data f = ltb (unbuffered f.form) f.length

-- what is being filled has data left
abbrev pub filling_fits : Storing → Walk → Bool
filling_fits s w = frame_fits s.frame && has_next w && leb (unbuffered s.frame.form) w.filled && ltb w.filled s.frame.length

-- a frame without data fills no buffer, so the last one used cannot have had EL
abbrev pub closing_fits : Storing → Bool → Bool
closing_fits s full = frame_fits s.frame && (has_data s.frame || not full)

-- nor can one without data be out of buffers
abbrev pub lacking_fits : Storing → Bool
lacking_fits s = frame_fits s.frame && has_data s.frame

-- the receive unit is in range
unfoldable pub ru_fits : Ru → Bool
ru_fits ru.Idle = true
ru_fits ru.NoResources = true
ru_fits (ru.Suspended o) = true
ru_fits (ru.Ready o) = true
ru_fits (ru.Held o f p) = frame_fits f
ru_fits (ru.Filling s w) = filling_fits s w
ru_fits (ru.Closing s o full) = closing_fits s full
ru_fits (ru.Lacking s) = lacking_fits s

-- the units are, the base has 24 bits, and the form in force is one
unfoldable pub units_fit : Units → Bool
units_fit u = ltb u.base.0 (2 ^ 24) && form_fits u.settings.form && cu_fits u.settings.form u.cu && ru_fits u.ru

-- ---- before the first attention nothing can change: all is as after reset

-- address length 6, and location 0
abbrev pub form_fresh : Form → Bool
form_fresh f = eqb f.length longest_address && not f.location

-- those bits 0, and 64 for minimum length
abbrev pub settings_fresh : Settings → Bool
settings_fresh s = not s.savebad && not s.promiscuous && not s.nobroadcast && eqb s.minimum 64 && form_fresh s.form

-- both units Idle
abbrev pub units_idle : Cu → Ru → Bool
units_idle c u = eqb (cu_number (cu_state c)) 0 && eqb (ru_number (ru_state u)) 0

-- all that stands beside the own address and the filter
unfoldable pub units_fresh : Units → Bool
units_fresh u =
    eqb (event_bits u.events) 0
    && not u.rulast
    && eqb u.base.0 0
    && eqb u.scb.0 0
    && settings_fresh u.settings
    && units_idle u.cu u.ru

-- six FFh, and an empty filter
abbrev pub addressing_fresh : Device → Bool
addressing_fresh d = eqb (value d.own) 0xFFFFFFFFFFFF && eqb d.filter 0

-- the clause of its own: a device that is not initialised is the fresh one
unfoldable pub initialised_or_fresh : Device → Bool
initialised_or_fresh d = d.units.initialised || (units_fresh d.units && addressing_fresh d)

-- ---- all of them

unfoldable pub in_range : Device → Bool
in_range d = units_fit d.units && initialised_or_fresh d

-- ---- the widths: what the types of the code say of every state, so that no call tests it

pub record Wide (d : Device) : Type 0 where
  pub scb : d.units.scb.0 < 2 ^ 16
  pub minimum : d.units.settings.minimum < 2 ^ 8
  pub cu : WordWide (cu_word d.units.cu)
  pub ru : WordWide (ru_word d.units.ru)
  pub own : length d.own ≡ longest_address
  pub own_bytes_lem : (i : ℕ) → get_or d.own i 0 < 2 ^ 8
  pub filter : d.filter < 2 ^ filter_bits
