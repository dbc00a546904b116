-- What the commands set up, as the record keeps it and a call is lent it: 16 bytes. Assumes nothing.
use Rattle.std.specs.Prelude.{◌≡◌, List, ◌∷◌, ◌++◌, Bool, ℕ, ◌+◌, ◌*◌, ◌/◌, ◌%◌, ◌<◌, ◌^◌, length}
use Rattle.memory.specs.Memory.{digits}
use Rattle.scb.specs.Words.{one}
use Rattle.device.specs.Limits.{longest_address, filter_bits}
use Rattle.device.specs.declared.Settings.{Settings}
use Rattle.actions.specs.Setup.{Setup}
use Rattle.phases.specs.Forms.{form_number, form_shaped, FormWide}

-- the byte of settings: bit 0 save bad; its modes, which are bit 1 promiscuous and bit 2 broadcast disabled; and above them the form
abbrev pub joined_settings : (savebad modes form : ℕ) → ℕ
joined_settings savebad modes form = savebad + 2 * modes + 2 ^ 3 * form

abbrev pub modes_of : Settings → ℕ
modes_of s = one s.promiscuous + 2 * one s.nobroadcast

abbrev pub settings_byte : Settings → ℕ
settings_byte s = joined_settings (one s.savebad) (modes_of s) (form_number s.form)

abbrev pub modes_in : ℕ → ℕ
modes_in b = b / 2 % 2 ^ 2

abbrev pub form_at : ℕ → ℕ
form_at b = b / 2 ^ 3

-- what it has above the modes is a form's
abbrev pub settings_shaped : ℕ → Bool
settings_shaped b = form_shaped (form_at b)

-- the filter's 64 bits, in bytes
abbrev pub filter_size : ℕ
filter_size = 8

-- one byte of settings, one of the minimum length, six of the own address, eight of the filter: byte k bit j is its bit 8k + j
unfoldable pub setup_bytes : Setup → List ℕ
setup_bytes s = settings_byte s.settings ∷ (s.settings.minimum ∷ (s.own ++ digits filter_size s.filter))

-- where each of them stands, and all of them
abbrev pub settings_at : ℕ
settings_at = 0

abbrev pub minimum_at : ℕ
minimum_at = 1

abbrev pub own_at : ℕ
own_at = 2

abbrev pub filter_at : ℕ
filter_at = own_at + longest_address

abbrev pub setup_size : ℕ
setup_size = filter_at + filter_size

-- bytes that are a setup's
pub record SetIs (s : Setup) (b : List ℕ) : Type 0 where
  pub bytes_are : b ≡ setup_bytes s
  pub minimum_wide : s.settings.minimum < 2 ^ 8
  pub form_wide : FormWide s.settings.form
  pub own_wide : length s.own ≡ longest_address
  pub filter_wide : s.filter < 2 ^ filter_bits
