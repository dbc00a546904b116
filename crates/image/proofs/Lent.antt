-- For a caller that lends the parts of a record: what is decoded is the numbers of a state, the last 16 bytes are its setup, and numbers and
-- setup put back are the image of the state that they say. Assumes nothing.
use mathlib.Core.Path.{◌≡◌, refl, sym, ap, subst}
use mathlib.Core.List.{List, [], ◌++◌, append-nil}
use Prim.Native.Nat.{ℕ, ◌-◌}
use native.Mathlib.Omega.{arith}
use lib.ListN.{length, replicate, take, drop, length-drop, drop_of_length-le}
use lib.Seq.{take_all}
use Rattle.memory.specs.Memory.{digits}
use Rattle.memory.proofs.Bytes.{Bytes}
use Rattle.device.specs.declared.Device.{Device}
use Rattle.device.specs.declared.Units.{Units}
use Rattle.actions.specs.Setup.{Setup, setup_of}
use Rattle.phases.specs.Forms.{FormWide}
use Rattle.packed.specs.Packed.{packed_of, PackedIs}
use Rattle.packed.specs.SetUp.{setup_bytes, SetIs}
use Rattle.packed.specs.declared.Packed.{Packed}
use Rattle.image.specs.Ranges.{Wide}
use Rattle.image.specs.Found.{Found}
use Rattle.image.specs.Found as is
use Rattle.image.specs.Image.{front, unit_bytes, image_of, device_from, device_at, decode_of, decoded_by, put_packed}
use Rattle.std.proofs.Common.{Option, Some, None}
use Rattle.image.proofs.Exact.{Image, exact, wide_units, fits, fit_form}

-- ---- what is decoded

-- a state was found, and these are its numbers
pub record FoundAs (f : Found) (k : Packed) : Type 0 where
  pub units : Units
  pub found : f ≡ is.Units units
  pub numbers : k ≡ packed_of units

abbrev numbers_in : Option Packed → Packed → Packed
numbers_in (Some k) other = k
numbers_in None other = other

abbrev is_foreign : Option Packed → ℕ
is_foreign (Some k) = 0
is_foreign None = 1

pub found_units : (f : Found) (k : Packed) → decoded_by f ≡ Some k → FoundAs f k
found_units (is.Units u) k e = record { units = u; found = refl; numbers = sym (ap (λ (x : Option Packed). numbers_in x k) e) }
found_units is.Foreign k e = let z : ◌≡◌ {A = ℕ} 1 0 = ap is_foreign e in absurd (omega arith)

pub found_foreign : (f : Found) → decoded_by f ≡ None → f ≡ is.Foreign
found_foreign (is.Units u) e = let z : ◌≡◌ {A = ℕ} 0 1 = ap is_foreign e in absurd (omega arith)
found_foreign is.Foreign e = refl

-- ---- the parts of an image

module _ (d : Device) where
  -- the front, the numbers and the spare bytes
  pub first_part : take 240 (image_of d) ≡ unit_bytes (packed_of d.units) ++ replicate 200 0
  unfolding image_of unit_bytes front digits
  first_part = refl

  -- the setup
  pub last_part : drop 240 (image_of d) ≡ setup_bytes (setup_of d)
  unfolding image_of unit_bytes front digits
  last_part = refl

  pub setup_is : Wide d → FormWide d.units.settings.form → SetIs (setup_of d) (drop 240 (image_of d))
  setup_is h f = record { bytes_are = last_part; minimum_wide = h.minimum; form_wide = f; own_wide = h.own; filter_wide = h.filter }

-- ---- the same of a record that was decoded

module _ (r : List ℕ) (u : Units) (l : length r ≡ 256) (b : Bytes r) (e : decode_of r ≡ is.Units u) where
  pub its_image : Image r u
  its_image = exact r l b u e

  pub its_numbers : (k : Packed) → k ≡ packed_of u → PackedIs u k
  unfolding device_at device_from
  its_numbers k q = record { same = q; wide = wide_units (device_at r u) its_image.wide (fits (device_at r u) its_image.wide its_image.range) }

  pub its_setup : SetIs (setup_of (device_at r u)) (drop 240 r)
  its_setup =
      let d = device_at r u in
      let s = setup_is d its_image.wide (fit_form d.units (fits d its_image.wide its_image.range)) in
      subst (λ (x : List ℕ). SetIs (setup_of d) (drop 240 x)) (sym its_image.same) s

-- ---- what is put back

-- numbers that go to an image
pub units_put : (d : Device) (k : Packed) → put_packed (image_of d) k ≡ unit_bytes k ++ (replicate 200 0 ++ setup_bytes (setup_of d))
unfolding image_of unit_bytes front digits
units_put d k = refl

module _ (d : Device) (u : Units) (k : Packed) (s : Setup) (h : PackedIs u k) (same : u.settings ≡ s.settings) where
  -- with the numbers of some units and the bytes of a setup, it is the image of the device that has both
  pub parts_put : take 240 (put_packed (image_of d) k) ++ setup_bytes s ≡ image_of (record { units = u; own = s.own; filter = s.filter })
  unfolding image_of unit_bytes front digits
  parts_put = rw (h.same, ← same)

-- ---- the last 16 bytes of a record, lent and returned

module _ (r : List ℕ) (l : length r ≡ 256) where
  last_length : length (drop 240 r) ≡ 16
  last_length = let e : length (drop 240 r) ≡ length r - 240 = length-drop 240 r in omega arith

  pub setup_lent : take 16 (drop 240 r) ≡ drop 240 r
  setup_lent = take_all 16 (drop 240 r) (omega (arith, last_length))

  pub setup_returned : (b : List ℕ) → take 240 r ++ (b ++ drop 16 (drop 240 r)) ≡ take 240 r ++ b
  setup_returned b =
      let e : drop 16 (drop 240 r) ≡ [] = drop_of_length-le (drop 240 r) {i = 16} (omega (arith, last_length)) in
      rw e (ap (λ (x : List ℕ). take 240 r ++ x) (append-nil b))
