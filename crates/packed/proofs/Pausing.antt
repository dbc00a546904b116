-- A flag set in a number is set in its word: a SUSPEND that waits. Assumes nothing.
use mathlib.Core.Path.{◌≡◌}
use mathlib.Core.Bool.{Bool, true, false}
use Prim.Native.Nat.{ℕ, ◌+◌, ◌*◌, ◌/◌, ◌%◌, ◌<◌}
use native.Mathlib.Omega.{arith}
use lib.Bits.{bit_or, and_high, or_add_and}
use Rattle.scb.specs.Words.{one}
use Rattle.phases.specs.Phases.{number_of}
use Rattle.phases.specs.declared.Word.{Word}
use Rattle.phases.proofs.Units.{one_below}
use Rattle.packed.specs.Packed.{WordIs, begun_pausing, held_pausing}

-- a bit set in a number: the number itself where it was set
or_19 : (n : ℕ) → bit_or n 524288 + n / 524288 % 2 * 524288 ≡ n + 524288
or_19 n = rw (← and_high n 1 19) (or_add_and n 524288)

or_16 : (n : ℕ) → bit_or n 65536 + n / 65536 % 2 * 65536 ≡ n + 65536
or_16 n = rw (← and_high n 1 16) (or_add_and n 65536)

module _ (at : ℕ) (a b c d e f : Bool) (kind size next : ℕ) where
  -- a word by its parts
  abbrev word : Word
  word = record { at = at; first = a; second = b; third = c; fourth = d; fifth = e; sixth = f; kind = kind; size = size; next = next }

fourth_set : (at : ℕ) (a b c d e f : Bool) (kind size next : ℕ) → at < 65536
    → bit_or (number_of (word at a b c d e f kind size next)) 524288 ≡ number_of (word at a b c true e f kind size next)
unfolding number_of
fourth_set at a b c true e f kind size next h =
    let n = number_of (word at a b c true e f kind size next) in
    let low : at + 65536 * (one a + 2 * one b + 4 * one c) < 524288 = omega (arith, one_below a, one_below b, one_below c) in
    let o : n / 524288 % 2 ≡ 1 = omega arith in
    omega (arith, or_19 n)
fourth_set at a b c false e f kind size next h =
    let n = number_of (word at a b c false e f kind size next) in
    let low : at + 65536 * (one a + 2 * one b + 4 * one c) < 524288 = omega (arith, one_below a, one_below b, one_below c) in
    let o : n / 524288 % 2 ≡ 0 = omega arith in
    omega (arith, or_19 n)

first_set : (at : ℕ) (a b c d e f : Bool) (kind size next : ℕ) → at < 65536
    → bit_or (number_of (word at a b c d e f kind size next)) 65536 ≡ number_of (word at true b c d e f kind size next)
unfolding number_of
first_set at true b c d e f kind size next h =
    let n = number_of (word at true b c d e f kind size next) in
    let o : n / 65536 % 2 ≡ 1 = omega arith in
    omega (arith, or_16 n)
first_set at false b c d e f kind size next h =
    let n = number_of (word at false b c d e f kind size next) in
    let o : n / 65536 % 2 ≡ 0 = omega arith in
    omega (arith, or_16 n)

module _ (w : Word) (n : ℕ) (h : WordIs w n) where
  pub begun_pausing_lem : WordIs (begun_pausing w) (bit_or n 524288)
  begun_pausing_lem =
      record {
        number_is =
            rw h.number_is
            (fourth_set w.at w.first w.second w.third w.fourth w.fifth w.sixth w.kind w.size w.next h.wide.at);
        wide = record { at = h.wide.at; kind = h.wide.kind; size = h.wide.size; next = h.wide.next };
      }

  pub held_pausing_lem : WordIs (held_pausing w) (bit_or n 65536)
  held_pausing_lem =
      record {
        number_is =
            rw h.number_is
            (first_set w.at w.first w.second w.third w.fourth w.fifth w.sixth w.kind w.size w.next h.wide.at);
        wide = record { at = h.wide.at; kind = h.wide.kind; size = h.wide.size; next = h.wide.next };
      }
