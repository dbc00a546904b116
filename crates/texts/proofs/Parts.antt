-- A long stretch may be printed in parts of whole lines: their texts, one behind the other, are its text. No contract cites this file.
-- Assumes nothing.
use mathlib.Core.Path.{◌≡◌, refl, sym}
use mathlib.Core.List.{List, ◌++◌, append-nil, append_assoc}
use Prim.Native.Nat.{ℕ, zero, suc, ◌+◌, ◌-◌, ◌*◌, ◌/◌, ◌<◌, min}
use native.Mathlib.Nat.{add-zero, add-suc}
use native.Mathlib.Omega.{arith}
use Rattle.texts.specs.Texts.{each, show_line, look_line, show_text, look_text}

each_split : (f : ℕ → List ℕ) (j n : ℕ) → each f (j + n) ≡ each f j ++ each (λ i. f (j + i)) n
unfolding each
each_split f j zero = rw (add-zero j) (sym (append-nil (each f j)))
each_split f j (suc n) = rw (add-suc j n, each_split f j n) (append_assoc (each f j) (each (λ i. f (j + i)) n) (f (j + n)))

each_same : (f g : ℕ → List ℕ) (n : ℕ) → ((i : ℕ) → i < n → f i ≡ g i) → each f n ≡ each g n
unfolding each
each_same f g zero h = refl
each_same f g (suc n) h = rw (each_same f g n (λ i p. h i (omega arith)), h n (omega arith))

-- three of the same texts in other words
same : (f g e : ℕ → List ℕ) (rows j n : ℕ) → rows ≡ j + n → ((i : ℕ) → i < j → f i ≡ g i) → ((i : ℕ) → i < n → f (j + i) ≡ e i)
    → each f rows ≡ each g j ++ each e n
same f g e rows j n p q r = rw (p, each_split f j n, each_same f g j q, each_same (λ i. f (j + i)) e n r)

-- the same line, at a place and of a size in other words
alike : (line : ℕ → ℕ → List ℕ) (p q m n : ℕ) → p ≡ q → m ≡ n → line p m ≡ line q n
alike line p q m n e f = rw (e, f)

pub show_parts : (area : List ℕ) (place j n : ℕ)
    → show_text area place (16 * j + n) ≡ show_text area place (16 * j) ++ show_text area (place + 16 * j) n
unfolding show_text
show_parts area place j n =
    let rows : (16 * j + n + 15) / 16 ≡ j + (n + 15) / 16 = omega arith in
    let whole : (16 * j + 15) / 16 ≡ j = omega arith in
    rw whole
    (same _ _ _ _ j ((n + 15) / 16) rows
    (λ i h.
    let m : min 16 (16 * j + n - 16 * i) ≡ min 16 (16 * j - 16 * i) = omega arith in
    alike (show_line area) _ _ _ _ refl m)
    (λ i h.
    let p : place + 16 * (j + i) ≡ place + 16 * j + 16 * i = omega arith in
    let m : min 16 (16 * j + n - 16 * (j + i)) ≡ min 16 (n - 16 * i) = omega arith in
    alike (show_line area) _ _ _ _ p m))

pub look_parts : (area : List ℕ) (place j n : ℕ)
    → look_text area place (8 * j + n) ≡ look_text area place (8 * j) ++ look_text area (place + 16 * j) n
unfolding look_text
look_parts area place j n =
    let rows : (8 * j + n + 7) / 8 ≡ j + (n + 7) / 8 = omega arith in
    let whole : (8 * j + 7) / 8 ≡ j = omega arith in
    rw whole
    (same _ _ _ _ j ((n + 7) / 8) rows
    (λ i h.
    let m : min 8 (8 * j + n - 8 * i) ≡ min 8 (8 * j - 8 * i) = omega arith in
    alike (look_line area) _ _ _ _ refl m)
    (λ i h.
    let p : place + 16 * (j + i) ≡ place + 16 * j + 16 * i = omega arith in
    let m : min 8 (8 * j + n - 8 * (j + i)) ≡ min 8 (n - 8 * i) = omega arith in
    alike (look_line area) _ _ _ _ p m))
