-- The settings of a Configure, as the byte that it comes to; the filter of an MC-Setup, address by address. Assumes nothing.
use mathlib.Core.Path.{◌≡◌, refl, sym, ◌∙◌}
use mathlib.Core.Bool.{true, false, not}
use mathlib.Core.List.{List, [], ◌∷◌, ◌++◌}
use Prim.Native.Nat.{ℕ, zero, suc, ◌+◌, ◌*◌, ◌/◌, ◌%◌, ◌<◌, ◌^◌}
use native.Mathlib.Nat.{add-zero, zero-mul, suc-mul, zero-lt-suc, div-one, div-eq_of_lt, mul-add-div_right, mod-eq_of_lt}
use native.Mathlib.Omega.{arith}
use borrow.Author.Tests.{leb-true}
use lib.Bits.{bit_or}
use lib.Dec.{leb, ltb}
use lib.Pow.{pow-lt}
use Rattle.memory.specs.Memory.{byte_at, bytes_at}
use Rattle.memory.proofs.Laws.{bytes_append}
use Rattle.scb.specs.Words.{one, bits_at, bit}
use Rattle.hash.specs.Hash.{hash}
use Rattle.device.specs.Limits.{longest_address}
use Rattle.device.specs.declared.Settings.{Settings}
use Rattle.phases.proofs.Units.{both, one_below}
use Rattle.phases.specs.Forms.{form_number, FormWide}
use Rattle.actions.specs.Actions.{length_in, form_in, settings_by, acceptable, groups_of, filtering}
use Rattle.packed.specs.SetUp.{joined_settings, settings_byte, modes_of, modes_in}
use Rattle.packed.proofs.Words.{one_odd}

-- ---- a setup's settings

-- bit 7 of a byte is its half, and bits 0 and 1 are its rest by 4
high_bit : (n : ℕ) → n < 2 ^ 8 → n / 2 ^ 7 ≡ one (bit n 7)
unfolding bits_at
high_bit n g = rw (one_odd (n / 2 ^ 7)) (omega arith)

low_bits : (n : ℕ) → n % 2 ^ 2 ≡ one (bit n 0) + 2 * one (bit n 1)
unfolding bits_at
low_bits n = rw (div-one n, one_odd n, one_odd (n / 2)) (omega arith)

-- modes and form do not touch
modes_in_lem : (s : Settings) → modes_in (settings_byte s) ≡ modes_of s
modes_in_lem s = omega (arith, one_below s.savebad, one_below s.promiscuous, one_below s.nobroadcast)

module _ (count : ℕ) (byte : ℕ → ℕ) (s : Settings) (form : ℕ) (g : byte 2 < 2 ^ 8) (f : form ≡ form_number (form_in (byte 3))) where
  pub settings_taken : ltb 8 count ≡ true → joined_settings (byte 2 / 2 ^ 7) (byte 8 % 2 ^ 2) form ≡ settings_byte (settings_by count byte s)
  unfolding settings_by
  settings_taken e = rw (e, f, high_bit (byte 2) g, low_bits (byte 8))

  pub settings_kept : ltb 8 count ≡ false → (kept : ℕ) → kept ≡ settings_byte s
      → joined_settings (byte 2 / 2 ^ 7) (modes_in kept) form ≡ settings_byte (settings_by count byte s)
  unfolding settings_by
  settings_kept e kept k = rw (e, f, k, modes_in_lem s, high_bit (byte 2) g)

-- ---- a setup's form

-- a bit has two values, and its number is what a form has of it
pub bit_below : (n at : ℕ) → bits_at n at 1 < 2
unfolding bits_at
bit_below n at = omega arith

pub bit_number : (n at : ℕ) → bits_at n at 1 ≡ one (bit n at)
unfolding bits_at
bit_number n at = rw (one_odd (n / 2 ^ at))

-- a byte that is taken says a form
pub acceptable_wide : (byte : ℕ) → acceptable byte ≡ true → FormWide (form_in byte)
acceptable_wide byte e =
    leb-true _ _ (both (leb (length_in byte) longest_address) (not (bit byte 6)) (both _ (not (bit byte 7)) e).0).0

pub settings_wide : (count : ℕ) (byte : ℕ → ℕ) (s : Settings) → acceptable (byte 3) ≡ true → FormWide (settings_by count byte s).form
unfolding settings_by
settings_wide count byte s e = acceptable_wide (byte 3) e

-- ---- a setup's filter

-- one byte more of memory
pub one_more_lem : (m : List ℕ) (a j : ℕ) → bytes_at m a (j + 1) ≡ bytes_at m a j ++ (byte_at m (a + j) ∷ [])
unfolding bytes_at
one_more_lem m a j = bytes_append m a j 1

-- i bytes are whole addresses of l bytes, and the filter is theirs
pub record Whole (l : ℕ) (m : List ℕ) (a i filter : ℕ) : Type 0 where
  pub groups : ℕ
  pub bytes : i ≡ groups * l
  pub filtered : filter ≡ filtering l m a groups

groups_in : (l g j : ℕ) → j < l → groups_of l (g * l + j) ≡ g
groups_in zero g j h = absurd (omega arith)
groups_in (suc l) g j h = mul-add-div_right (zero-lt-suc l) g j ∙ rw (div-eq_of_lt h, add-zero g)

module _ (l : ℕ) (m : List ℕ) (a : ℕ) where
  pub none_yet : Whole l m a 0 0
  unfolding filtering
  none_yet = record { groups = 0; bytes = sym (zero-mul l); filtered = refl }

  -- one address more: its bit is set
  pub filter_more : (i k filter : ℕ) → Whole l m a i filter → k < 64 → k ≡ hash (bytes_at m (a + i) l)
      → Whole l m a (i + l) (bit_or filter (1 * 2 ^ k % 2 ^ 64))
  unfolding filtering
  filter_more i k filter w b h =
      let g : 2 ^ k < 2 ^ 64 = pow-lt b in
      let o : 1 * 2 ^ k ≡ 2 ^ k = omega arith in
      record {
        groups = suc w.groups;
        bytes = rw (suc-mul w.groups l, ← w.bytes);
        filtered = rw (w.filtered, ← w.bytes, ← h, o, mod-eq_of_lt g);
      }

  -- a remainder of fewer bytes than an address has is ignored
  pub remainder_ignored : (i j filter : ℕ) → Whole l m a i filter → j < l → filter ≡ filtering l m a (groups_of l (i + j))
  remainder_ignored i j filter w h = rw (w.bytes, groups_in l w.groups j h) w.filtered
