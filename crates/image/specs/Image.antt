-- The record of 256 bytes: the image of a state, and the state that a record is the image of. Assumes nothing.
use Rattle.std.specs.Prelude.{Bool, cond, ◌&&◌, List, [], ◌++◌, ℕ, ◌+◌, ◌/◌, ◌%◌, ◌^◌, eqb, length, replicate, Option, Some, None}
use Rattle.std.proofs.lemmas.List.Edits.{sets}
use Rattle.memory.specs.Memory.{digits}
use Rattle.scb.specs.declared.Events.{Events}
use Rattle.device.specs.Limits.{longest_address, record_size}
use Rattle.device.specs.declared.Cu.{Cu}
use Rattle.device.specs.declared.Device.{Device}
use Rattle.device.specs.declared.Ru.{Ru}
use Rattle.device.specs.declared.Settings.{Settings}
use Rattle.device.specs.declared.Units.{Units}
use Rattle.actions.specs.Setup.{setup_of}
use Rattle.numerals.specs.Places.{bytes_from, field}
use Rattle.phases.specs.Fields.{odd, flag_at}
use Rattle.phases.specs.Forms.{form_of}
use Rattle.phases.specs.Phases.{word_of, cu_of, cu_shaped, ru_of, ru_shaped}
use Rattle.packed.specs.Packed.{packed_of, status_is, base_in, scb_in, marks_in, cu_tag_in, ru_tag_in}
use Rattle.packed.specs.SetUp.{setup_bytes, form_at, settings_shaped, filter_size, settings_at, minimum_at, own_at, filter_at}
use Rattle.packed.specs.Record.{letters_at, status_at, cu_at, ru_at, rest_at, gap_at, gap_size, spare_at, spare_size, setup_at}
use Rattle.packed.specs.declared.Packed.{Packed}
use Rattle.image.specs.Ranges.{in_range}
use Rattle.image.specs.Found.{Found}
use Rattle.image.specs.Found as is

-- ---- the image of a state

-- bytes 0-4: B, G, T, and the version, 1
unfoldable pub front : List ℕ
front = digits 3 0x544742 ++ digits 2 1

-- bytes 0-39: the status from byte 5, three spare bytes, the command unit's word, the receive unit's two
unfoldable pub unit_bytes : Packed → List ℕ
unit_bytes k = front ++ (digits 8 k.status ++ (replicate gap_size 0 ++ (digits 8 k.cu ++ (digits 8 k.ru ++ digits 8 k.rest))))

-- all 256: bytes 40-239 are spare, the last 16 are the setup
unfoldable pub image_of : Device → List ℕ
image_of d = unit_bytes (packed_of d.units) ++ (replicate spare_size 0 ++ setup_bytes (setup_of d))

-- ---- the state of an image

-- the four numbers as they stand in a record
unfoldable pub packed_at : List ℕ → Packed
packed_at r = record { status = field r status_at 8; cu = field r cu_at 8; ru = field r ru_at 8; rest = field r rest_at 8 }

-- the events and the settings in their bits
abbrev pub events_of : ℕ → Events
events_of n = record { cx = flag_at 3 n; fr = flag_at 2 n; cna = flag_at 1 n; rnr = odd n }

abbrev pub settings_of : ℕ → ℕ → Settings
settings_of s minimum =
    record { savebad = odd s; promiscuous = flag_at 1 s; nobroadcast = flag_at 2 s; minimum = minimum; form = form_of (form_at s) }

-- the units of their numbers
abbrev pub cu_by : Packed → Cu
cu_by k = cu_of (cu_tag_in k) (word_of k.cu)

abbrev pub ru_by : Packed → Ru
ru_by k = ru_of (ru_tag_in k) (word_of k.ru) k.rest

unfoldable pub units_by : Packed → Settings → Units
units_by k s =
    record {
      initialised = odd (marks_in k);
      base = record { 0 = base_in k };
      scb = record { 0 = scb_in k };
      events = events_of (marks_in k / 2 ^ 4);
      rulast = odd (marks_in k / 2);
      settings = s;
      cu = cu_by k;
      ru = ru_by k;
    }

-- byte 240 settings, byte 241 minimum length
abbrev pub settings_in : List ℕ → Settings
settings_in r = settings_of (field r (setup_at + settings_at) 1) (field r (setup_at + minimum_at) 1)

-- the units as they stand in a record
unfoldable pub units_at : List ℕ → Units
units_at r = units_by (packed_at r) (settings_in r)

-- units with the own address and the filter of a record: bytes 242-247, bytes 248-255
unfoldable pub device_from : List ℕ → Units → Device
device_from r u = record { units = u; own = bytes_from r (setup_at + own_at) longest_address; filter = field r (setup_at + filter_at) filter_size }

-- a record of another length is read as an empty one: its own address and its filter are zero
unfoldable pub device_at : List ℕ → Units → Device
device_at r u = device_from (cond (eqb (length r) record_size) r []) u

-- ---- which records are images

-- letters and version, the low five bytes of a record's first eight
abbrev pub front_is : ℕ → Bool
front_is n = eqb (n % 2 ^ 40) 0x0001544742

-- front, status, and a form in the settings
unfoldable pub head_shaped : List ℕ → Bool
head_shaped r = front_is (field r letters_at 8) && status_is (field r status_at 8) && settings_shaped (field r (setup_at + settings_at) 1)

-- each unit's tag and words are those of a unit
abbrev pub words_shaped : Packed → Bool
words_shaped k = cu_shaped (cu_tag_in k) k.cu && ru_shaped (ru_tag_in k) k.ru k.rest

unfoldable pub units_shaped : List ℕ → Bool
units_shaped r = words_shaped (packed_at r)

-- bytes 13-15 and 40-239 are zero
unfoldable pub spare_zero : List ℕ → Bool
spare_zero r = eqb (field r gap_at gap_size) 0 && eqb (field r spare_at spare_size) 0

-- its bytes are as an image has them, and what an image has zero is zero
unfoldable pub shaped : List ℕ → Bool
shaped r = head_shaped r && units_shaped r && spare_zero r

-- units, with the own address and the filter of a record, are in range
unfoldable pub range_from : List ℕ → Units → Bool
range_from r u = in_range (device_from r u)

-- 256 bytes are the image of a state in range
abbrev pub imaged : List ℕ → Bool
imaged r = shaped r && range_from r (units_at r)

-- what a record of 256 bytes is, and one of any length
unfoldable pub decode_full : List ℕ → Found
decode_full r = cond (imaged r) (is.Units (units_at r)) is.Foreign

unfoldable pub decode_of : List ℕ → Found
decode_of r = cond (eqb (length r) record_size) (decode_full r) is.Foreign

-- what the code answers: the numbers of the state found, or none
abbrev pub decoded_by : Found → Option Packed
decoded_by (is.Units u) = Some (packed_of u)
decoded_by is.Foreign = None

-- ---- writing back; a record of another length stays

-- the whole image
unfoldable pub stored : List ℕ → Device → List ℕ
stored r d = cond (eqb (length r) record_size) (image_of d) r

-- the four numbers alone
abbrev pub put_packed : List ℕ → Packed → List ℕ
put_packed r k = sets (sets (sets (sets r status_at (digits 8 k.status)) cu_at (digits 8 k.cu)) ru_at (digits 8 k.ru)) rest_at (digits 8 k.rest)

unfoldable pub stored_units : List ℕ → Packed → List ℕ
stored_units r k = cond (eqb (length r) record_size) (put_packed r k) r
