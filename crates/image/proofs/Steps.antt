-- What the functions' proofs cite: the stores of a record end to end, and what each branch of decoding comes to. Assumes nothing.
use mathlib.Core.Path.{◌≡◌, refl, sym}
use mathlib.Core.Bool.{true, false}
use mathlib.Core.List.{List, ◌++◌}
use Prim.Native.Nat.{ℕ}
use native.Mathlib.Omega.{arith}
use borrow.Author.Tests.{eq-eqb, ne_eqb}
use lib.ListN.{length, replicate, length-append, set}
use lib.Seq.{sets}
use Rattle.memory.specs.Memory.{value, digits}
use Rattle.scb.specs.Words.{joined, event_bits}
use Rattle.device.specs.State.{fresh}
use Rattle.device.specs.declared.Device.{Device}
use Rattle.device.specs.declared.Units.{Units}
use Rattle.actions.specs.Setup.{Setup, setup_of}
use Rattle.numerals.specs.Places.{bytes_from, field}
use Rattle.numerals.proofs.Laws.{sets_whole}
use Rattle.phases.specs.Forms.{form_number}
use Rattle.phases.specs.Phases.{number_of, cu_word, ru_word, ru_rest}
use Rattle.packed.specs.Packed.{packed_of}
use Rattle.packed.specs.SetUp.{setup_bytes}
use Rattle.packed.specs.declared.Packed.{Packed}
use Rattle.image.specs.Found as is
use Rattle.image.specs.Image.{front, unit_bytes, image_of, units_at, device_from, device_at, shaped, range_from, decode_full, decode_of, stored, put_packed, stored_units}

-- ---- an image has 256 bytes

pub length_units : (k : Packed) → length (unit_bytes k) ≡ 40
unfolding unit_bytes front digits
length_units k = refl

pub length_setup : (s : Setup) → length s.own ≡ 6 → length (setup_bytes s) ≡ 16
unfolding setup_bytes digits
length_setup s p =
    let e : length (s.own ++ digits 8 s.filter) ≡ 14 = simp length-append (omega arith) in
    omega arith

pub length_image : (d : Device) → length d.own ≡ 6 → length (image_of d) ≡ 256
unfolding image_of
length_image d p = simp length-append (omega (arith, length_units (packed_of d.units), length_setup (setup_of d) p))

-- ---- the stores of a record

-- the fresh image, over zeros
fresh_over : sets (set (sets (sets (replicate 256 0) 0 (digits 3 0x544742)) 3 (digits 2 1)) 241 64) 242 (digits 6 0xFFFFFFFFFFFF) ≡ image_of fresh
unfolding image_of unit_bytes front setup_bytes packed_of event_bits joined form_number number_of cu_word ru_word ru_rest digits
fresh_over = refl

pub fresh_stores : (r : List ℕ) → length r ≡ 256
    → sets (set (sets (sets (sets r 0 (replicate 256 0)) 0 (digits 3 0x544742)) 3 (digits 2 1)) 241 64) 242 (digits 6 0xFFFFFFFFFFFF) ≡ image_of fresh
fresh_stores r h = rw (sets_whole r (replicate 256 0) (sym h)) fresh_over

-- writing back leaves exactly the image, whatever stood there; a record of another length stays
pub stored_image : (r : List ℕ) (d : Device) → length r ≡ 256 → stored r d ≡ image_of d
unfolding stored
stored_image r d h = rw (eq-eqb (length r) 256 h)

pub stored_other : (r : List ℕ) (d : Device) → (length r ≡ 256 → ⊥) → stored r d ≡ r
unfolding stored
stored_other r d h = rw (ne_eqb (length r) 256 h)

pub units_stored : (r : List ℕ) (k : Packed) → length r ≡ 256 → stored_units r k ≡ put_packed r k
unfolding stored_units
units_stored r k h = rw (eq-eqb (length r) 256 h)

pub units_other : (r : List ℕ) (k : Packed) → (length r ≡ 256 → ⊥) → stored_units r k ≡ r
unfolding stored_units
units_other r k h = rw (ne_eqb (length r) 256 h)

-- ---- the branches of decoding

module _ (r : List ℕ) where
  pub full_taken : shaped r ≡ true → range_from r (units_at r) ≡ true → is.Units (units_at r) ≡ decode_full r
  unfolding decode_full
  full_taken p q = rw (p, q)

  pub full_out : shaped r ≡ true → range_from r (units_at r) ≡ false → is.Foreign ≡ decode_full r
  unfolding decode_full
  full_out p q = rw (p, q)

  pub full_other : shaped r ≡ false → is.Foreign ≡ decode_full r
  unfolding decode_full
  full_other p = rw p

  pub decode_full_lem : length r ≡ 256 → decode_full r ≡ decode_of r
  unfolding decode_of
  decode_full_lem h = rw (eq-eqb (length r) 256 h)

  pub decode_other : (length r ≡ 256 → ⊥) → is.Foreign ≡ decode_of r
  unfolding decode_of
  decode_other h = rw (ne_eqb (length r) 256 h)

  pub device_full : (u : Units) → length r ≡ 256 → device_from r u ≡ device_at r u
  unfolding device_at
  device_full u h = rw (eq-eqb (length r) 256 h)

  pub device_other : (u : Units) → (length r ≡ 256 → ⊥) → record { units = u; own = replicate 6 0; filter = 0 } ≡ device_at r u
  unfolding device_at device_from bytes_from field value
  device_other u h = rw (ne_eqb (length r) 256 h)
