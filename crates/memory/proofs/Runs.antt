-- Where the two bytes of a word do not pass the end of memory they stand side by side in the list. Each law has the index i at which they
-- begin and the test by which the code chose its way. Assumes nothing.
use Rattle.std.proofs.Common.{◌≡◌, ℕ, ◌+◌, ◌-◌, ◌*◌, ◌/◌, ◌%◌, ◌<◌, ◌≤◌, List, length, get_or, set, sym, ◌∙◌, mod-eq_of_lt, add-one, arith, length-set}
use native.Mathlib.Nat.{mod-add-mod, mod-eq-sub-mod}
use Rattle.memory.specs.Memory.{byte_at, put_byte, put_bytes, digits, word_at}
use Rattle.memory.proofs.Laws.{none_get, none_set, within}
use Rattle.memory.proofs.Fields.{field_one, field_more}

-- ---- the place after i

next_in_lem : (a n i : ℕ) → i ≡ a % n → i < n - 1 → (a + 1) % n ≡ i + 1
next_in_lem a n i e h = let l : a % n + 1 < n = omega arith in rw e (sym (mod-add-mod a n 1) ∙ mod-eq_of_lt l)

next_across : (a n i : ℕ) → i ≡ a % n → (n ≡ 0 → ⊥) → n - 1 ≤ i → (a + 1) % n ≡ 0
next_across a n i e p h =
    let r : i < n = within a n i e p in
    let l : n ≤ a % n + 1 = omega arith in
    let z : a % n + 1 - n ≡ 0 = omega arith in
    sym (mod-add-mod a n 1) ∙ mod-eq-sub-mod l ∙ rw z (mod-eq_of_lt (omega arith))

-- ---- words

two_bytes : (m : List ℕ) (a : ℕ) → byte_at m a + byte_at m (a + 1) * 256 ≡ word_at m a
two_bytes m a = omega (arith, field_more m a 1, field_one m a)

pub word_none : (m : List ℕ) (a : ℕ) → length m ≡ 0 → 0 ≡ word_at m a
word_none m a e = rw (← two_bytes m a, none_get m a e, none_get m (a + 1) e)

pub word_in : (m : List ℕ) (a i : ℕ) → i ≡ a % length m → i < length m - 1 → get_or m i 0 + get_or m (i + 1) 0 * 256 ≡ word_at m a
unfolding byte_at
word_in m a i e h = rw (← two_bytes m a, next_in_lem a (length m) i e h, e)

pub word_across : (m : List ℕ) (a i : ℕ) → i ≡ a % length m → (length m ≡ 0 → ⊥) → length m - 1 ≤ i → get_or m i 0 + get_or m 0 0 * 256 ≡ word_at m a
unfolding byte_at
word_across m a i e p h = rw (← two_bytes m a, next_across a (length m) i e p h, e)

two_puts : (m : List ℕ) (a w : ℕ) → put_byte (put_byte m a (w % 256)) (a + 1) (w / 256 % 256) ≡ put_bytes m a (digits 2 w)
unfolding put_bytes digits
two_puts m a w = rw add-one

pub put_none : (m : List ℕ) (a w : ℕ) → length m ≡ 0 → m ≡ put_bytes m a (digits 2 w)
put_none m a w e = rw (← two_puts m a w, none_set m a (w % 256) e) (sym (none_set m (a + 1) (w / 256 % 256) e))

pub put_in : (m : List ℕ) (a i w : ℕ) → i ≡ a % length m → i < length m - 1
    → set (set m i (w % 256)) (i + 1) (w / 256 % 256) ≡ put_bytes m a (digits 2 w)
unfolding put_byte
put_in m a i w e l = rw (← two_puts m a w, length-set, next_in_lem a (length m) i e l, e)

pub put_across : (m : List ℕ) (a i w : ℕ) → i ≡ a % length m → (length m ≡ 0 → ⊥) → length m - 1 ≤ i
    → set (set m i (w % 256)) 0 (w / 256 % 256) ≡ put_bytes m a (digits 2 w)
unfolding put_byte
put_across m a i w e p l = rw (← two_puts m a w, length-set, next_across a (length m) i e p l, e)
