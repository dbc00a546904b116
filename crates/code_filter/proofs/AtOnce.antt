-- An address compared by its first four bytes and its last four, which lie over each other where it has fewer than eight. Assumes nothing.
use mathlib.Core.Path.{◌≡◌, refl, sym, ap, ◌∙◌}
use mathlib.Core.Bool.{Bool, true, false, ◌&&◌}
use mathlib.Core.List.{List}
use mathlib.Core.Logic.{⊎_elim}
use Prim.Native.Nat.{ℕ, zero, suc, ◌+◌, ◌-◌, ◌≤◌, ◌<◌}
use native.Mathlib.Nat.{zero-add, add-zero, not-suc-le-zero, le_of_suc-le-suc}
use native.Mathlib.Omega.{arith}
use borrow.Author.Tests.{eq-eqb, ne_eqb, eqb-true, eqb-false}
use lib.Dec.{eqb}
use lib.ListN.{get_or, replicate}
use lib.ListN.{length, take, drop}
use lib.Seq.{take_all}
use Rattle.std.specs.Bool.{Decides, MatchBool}
use Rattle.std.specs.List.{AllWithin, HoldsAt}
use Rattle.memory.specs.Memory.{value, digits}
use Rattle.memory.proofs.Laws.{below_or_not}
use Rattle.memory.proofs.Bytes.{Bytes, bytes_nil, bytes_cons}
use Rattle.numerals.specs.Places.{bytes_from, field}
use Rattle.numerals.proofs.Laws.{piece, four, from_run}
use Rattle.filter.specs.Match.{agree}
use Rattle.code_filter.proofs.Laws.{each_of}

-- ---- bytes from a place on

from_get : (r : List ℕ) (at n j : ℕ) → j < n → get_or (bytes_from r at n) j 0 ≡ get_or r (at + j) 0
unfolding bytes_from
from_get r at zero j h = absurd (not-suc-le-zero h)
from_get r at (suc n) zero h = rw add-zero
from_get r at (suc n) (suc j) h =
    let e : suc at + j ≡ at + suc j = omega arith in
    from_get r (suc at) n j (le_of_suc-le-suc h) ∙ ap (λ (k : ℕ). get_or r k 0) e

module _ (a f : List ℕ) where
  from_same : (i k n : ℕ) → ((j : ℕ) → j < n → get_or f (k + j) 0 ≡ get_or a (i + j) 0) → bytes_from a i n ≡ bytes_from f k n
  unfolding bytes_from
  from_same i k zero h = refl
  from_same i k (suc n) h =
      let head : get_or f k 0 ≡ get_or a i 0 = rw (add-zero k, add-zero i) at (h 0 (omega arith)) in
      let tail : bytes_from a (suc i) n ≡ bytes_from f (suc k) n =
      from_same (suc i) (suc k) n
      (λ j p.
      let x : suc k + j ≡ k + suc j = omega arith in
      let y : suc i + j ≡ i + suc j = omega arith in
      ap (λ (m : ℕ). get_or f m 0) x ∙ h (suc j) (omega arith) ∙ ap (λ (m : ℕ). get_or a m 0) (sym y)) in
      rw (head, tail)

-- ---- agreement is that of each byte

and_both : (x y : Bool) → (x && y) ≡ true → (x ≡ true) × (y ≡ true)
and_both true y h = (refl, h)
and_both false y h = (h, absurd (eqb-false 0 0 (sym h) refl))

refuted : (b : Bool) → (b ≡ true → ⊥) → b ≡ false
refuted false h = refl
refuted true h = absurd (h refl)

module _ (a : List ℕ) (i : ℕ) (f : List ℕ) where
  agree_all : (l : ℕ) → ((k : ℕ) → k < l → get_or f k 0 ≡ get_or a (i + k) 0) → agree a i f l ≡ true
  unfolding agree
  agree_all zero h = refl
  agree_all (suc l) h = rw (agree_all l (λ k p. h k (omega arith)), eq-eqb _ _ (sym (h l (omega arith))))

  agree_each : (l k : ℕ) → agree a i f l ≡ true → k < l → get_or f k 0 ≡ get_or a (i + k) 0
  unfolding agree
  agree_each zero k e h = absurd (not-suc-le-zero h)
  agree_each (suc l) k e h =
      let b = and_both (agree a i f l) (eqb (get_or a (i + l) 0) (get_or f l 0)) e in
      ⊎_elim
      (λ (p : k < l). agree_each l k b.0 p)
      (λ (p : l ≤ k).
      let s : k ≡ l = omega arith in
      rw s (sym (eqb-true _ _ b.1)))
      (below_or_not k l)

-- ---- all bytes of a short address

-- two slices that are equal
pub agree_decides : (a : List ℕ) (i : ℕ) (f : List ℕ) → i + length f ≤ length a
    → Decides (agree a i f (length f)) (f ≡ take (length f) (drop i a))
agree_decides a i f h =
    let l = length f in
    let front : bytes_from f 0 l ≡ f = from_run f 0 l (omega arith) ∙ take_all l f (omega arith) in
    let back : bytes_from a i l ≡ take l (drop i a) = from_run a i l h in (
      λ e.
          let same : bytes_from a i l ≡ bytes_from f 0 l =
          from_same a f i 0 l (λ j p. rw zero-add (agree_each a i f l j e p)) in
          sym front ∙ sym same ∙ back,
      λ e. agree_all a i f l
          (λ k p.
          let same : bytes_from f 0 l ≡ bytes_from a i l = front ∙ e ∙ sym back in
          rw zero-add at (sym (from_get f 0 l k p) ∙ ap (λ (r : List ℕ). get_or r k 0) same ∙ from_get a i l k p)),
    )

-- bytes that are each FFh
pub ones_told : (f : List ℕ) (r : Bool)
    → MatchBool r (AllWithin (λ x. x ≡ 255) f 0 (length f)) ((k : ℕ) × (k < length f) × HoldsAt (λ x. x ≡ 255 → ⊥) f k)
    → r ≡ agree (replicate (length f) 255) 0 f (length f)
ones_told f true h =
    sym (agree_all (replicate (length f) 255) 0 f (length f)
    (λ k p. h k 0 (omega arith) (omega arith) ∙ sym (rw (zero-add, each_of (length f) 255 k p))))
ones_told f false (k, p, other) =
    sym (refuted (agree (replicate (length f) 255) 0 f (length f))
    (λ t. other 0 (agree_each (replicate (length f) 255) 0 f (length f) k t p ∙ rw (zero-add, each_of (length f) 255 k p))))

-- ---- four bytes at once

module _ (a : List ℕ) (i : ℕ) (f : List ℕ) (x : Bytes a) (y : Bytes f) (l : ℕ) (h : 4 ≤ l) (g : l ≤ 8) where
  tell : (p q j : ℕ) → field a p 4 ≡ field f q 4 → j < 4 → get_or f (q + j) 0 ≡ get_or a (p + j) 0
  tell p q j e b =
      let s : bytes_from a p 4 ≡ bytes_from f q 4 = piece a x p 4 ∙ ap (digits 4) e ∙ sym (piece f y q 4) in
      sym (from_get f q 4 j b) ∙ ap (λ (r : List ℕ). get_or r j 0) (sym s) ∙ from_get a p 4 j b

  told : (s : ℕ) → s + 4 ≤ l → agree a i f l ≡ true → field a (i + s) 4 ≡ field f s 4
  unfolding field
  told s b e =
      ap value
      (from_same a f (i + s) s 4
      (λ j p.
      let z : i + (s + j) ≡ i + s + j = omega arith in
      agree_each a i f l (s + j) e (omega arith) ∙ ap (λ (m : ℕ). get_or a m 0) z))

  both_same : field a i 4 ≡ field f 0 4 → field a (i + (l - 4)) 4 ≡ field f (l - 4) 4 → agree a i f l ≡ true
  both_same first last =
      agree_all a i f l
      (λ k p.
      ⊎_elim
      (λ (q : k < 4). rw zero-add at (tell i 0 k first q))
      (λ (q : 4 ≤ k).
      let j = k - (l - 4) in
      let u : l - 4 + j ≡ k = omega arith in
      let w : i + (l - 4) + j ≡ i + k = omega arith in
      rw (u, w) at (tell (i + (l - 4)) (l - 4) j last (omega arith)))
      (below_or_not k 4))

  -- the first four differ
  pub first_differs : (field a i 4 ≡ field f 0 4 → ⊥) → false ≡ agree a i f l
  first_differs other = sym (refuted (agree a i f l) (λ e. other (rw add-zero at (told 0 (omega arith) e))))

  -- they do not, so the last four decide
  decided : field a i 4 ≡ field f 0 4 → (b : Bool) → eqb (field a (i + (l - 4)) 4) (field f (l - 4) 4) ≡ b → b ≡ agree a i f l
  decided first true e = sym (both_same first (eqb-true _ _ e))
  decided first false e = sym (refuted (agree a i f l) (λ t. eqb-false _ _ e (told (l - 4) (omega arith) t)))

  pub last_decides : field a i 4 ≡ field f 0 4 → eqb (field a (i + (l - 4)) 4) (field f (l - 4) 4) ≡ agree a i f l
  last_decides first = decided first (eqb (field a (i + (l - 4)) 4) (field f (l - 4) 4)) refl

-- ---- FFh alone

pub ones_bytes : (l : ℕ) → Bytes (replicate l 255)
ones_bytes zero = bytes_nil
ones_bytes (suc l) = bytes_cons 255 (replicate l 255) (omega arith) (ones_bytes l)

pub ones_field : (l s : ℕ) → s + 4 ≤ l → field (replicate l 255) s 4 ≡ 0xFFFFFFFF
ones_field l s h =
    rw (
      four (replicate l 255) s,
      each_of l 255 s (omega arith),
      each_of l 255 (s + 1) (omega arith),
      each_of l 255 (s + 2) (omega arith),
      each_of l 255 (s + 3) (omega arith),
    )

other_way : (m n : ℕ) (b : Bool) → eqb m n ≡ b → b ≡ eqb n m
other_way m n true e = sym (eq-eqb n m (sym (eqb-true m n e)))
other_way m n false e = sym (ne_eqb n m (λ s. eqb-false m n e (sym s)))

module _ (f : List ℕ) (y : Bytes f) (l : ℕ) (h : 4 ≤ l) (g : l ≤ 8) where
  -- the first four are not all FFh
  pub first_other : (field f 0 4 ≡ 0xFFFFFFFF → ⊥) → false ≡ agree (replicate l 255) 0 f l
  first_other other =
      first_differs (replicate l 255) 0 f (ones_bytes l) y l h g (λ e. other (sym e ∙ ones_field l 0 (omega arith)))

  -- they are, so the last four decide
  pub last_ones : field f 0 4 ≡ 0xFFFFFFFF → eqb (field f (l - 4) 4) 0xFFFFFFFF ≡ agree (replicate l 255) 0 f l
  last_ones first =
      let z : 0 + (l - 4) ≡ l - 4 = zero-add (l - 4) in
      let d = last_decides (replicate l 255) 0 f (ones_bytes l) y l h g (ones_field l 0 (omega arith) ∙ sym first) in
      other_way (field f (l - 4) 4) 0xFFFFFFFF _ refl ∙ rw (z, ones_field l (l - 4) (omega arith)) at d
