-- Texts one behind the other, and the digits of numbers. No contract cites this file. Assumes nothing.
use mathlib.Core.Path.{◌≡◌, refl, sym, ap, ◌∙◌}
use mathlib.Core.List.{List, [], ◌∷◌, ◌++◌}
use mathlib.Core.Logic.{⊎_elim}
use Prim.Native.Nat.{ℕ, zero, suc, ◌+◌, ◌-◌, ◌*◌, ◌/◌, ◌%◌, ◌≤◌, ◌<◌, min}
use native.Mathlib.Numerals.{add-one}
use native.Mathlib.Omega.{arith}
use borrow.Author.Tests.{lt-ltb, le-ltb}
use lib.ListN.{length, length-append}
use lib.Seq.{sets, length-sets}
use Rattle.memory.proofs.Laws.{below_or_not, sets-append, sets_past}
use Rattle.texts.specs.Codes.{codes}
use Rattle.texts.specs.declared.Item.{Item}
use Rattle.texts.specs.declared.Item.TheVariants.{Byte, Word}
use Rattle.texts.specs.Texts.{Puts, each, hex_digit, hex, decimal_by, decimal, show_line, look_line, show_text, look_text}
use Rattle.texts.specs.Items.{per_line, item_text, line, stretch}

-- ---- texts one behind the other

pub puts_none : (at : ℕ) (b : List ℕ) → Puts [] at b at b
puts_none at b = record { next = omega arith; bytes = refl }

-- once the end is reached, it does not matter where the second text goes
meet : (xs ys : List ℕ) (at : ℕ) (b : List ℕ) (r : ℕ) → r ≡ at + min (length xs) (length b - at)
    → sets (sets b at xs) r ys ≡ sets b at (xs ++ ys)
meet xs ys at b r e =
    ⊎_elim
    (λ (h : length b < at + length xs).
    let l : length (sets b at xs) ≡ length b = length-sets b at xs in
    sets_past (sets b at xs) r ys (omega arith) ∙ sym (sets_past (sets b at xs) (at + length xs) ys (omega arith))
    ∙ sym (sets-append b at xs ys))
    (λ (h : at + length xs ≤ length b).
    let k : r ≡ at + length xs = omega arith in
    rw k (sym (sets-append b at xs ys)))
    (below_or_not (length b) (at + length xs))

-- two texts one behind the other are one
pub puts_cat : {xs ys : List ℕ} {at : ℕ} {b : List ℕ} {r : ℕ} {m : List ℕ} {r' : ℕ} {m' : List ℕ}
    → Puts xs at b r m → Puts ys r m r' m' → Puts (xs ++ ys) at b r' m'
puts_cat {xs} {ys} {at} {b} {r} {m} {r'} {m'} p q =
    let l : length m ≡ length b = ap length p.bytes ∙ length-sets b at xs in
    let e : length (xs ++ ys) ≡ length xs + length ys = length-append xs ys in
    let pn : r ≡ at + min (length xs) (length b - at) = p.next in
    let qn : r' ≡ r + min (length ys) (length m - r) = q.next in
    record { next = omega arith; bytes = q.bytes ∙ ap (λ (z : List ℕ). sets z r ys) p.bytes ∙ meet xs ys at b r p.next }

-- the same text in other words
pub puts_is : {xs ys : List ℕ} {at : ℕ} {b : List ℕ} {r : ℕ} {m : List ℕ} → xs ≡ ys → Puts xs at b r m → Puts ys at b r m
puts_is {xs} {ys} {at} {b} {r} {m} e p = rw (← e) p

-- one more of the texts that a loop puts
pub puts_more : (f : ℕ → List ℕ) (i : ℕ) {at : ℕ} {b : List ℕ} {r : ℕ} {m : List ℕ} {r' : ℕ} {m' : List ℕ}
    → Puts (each f i) at b r m → Puts (f i) r m r' m' → Puts (each f (i + 1)) at b r' m'
unfolding each
puts_more f i p q = rw (add-one i) (puts_cat p q)

-- ---- the same on a page, whose borrow is named g

pub prints_none : {g at : ℕ} {b : List ℕ} → (g ≡ g) × Puts [] at b at b
prints_none {g} {at} {b} = (refl, puts_none at b)

pub prints_cat : {xs ys : List ℕ} {g at : ℕ} {b : List ℕ} {g' r : ℕ} {m : List ℕ} {g'' r' : ℕ} {m' : List ℕ}
    → (g' ≡ g) × Puts xs at b r m → (g'' ≡ g') × Puts ys r m r' m' → (g'' ≡ g) × Puts (xs ++ ys) at b r' m'
prints_cat p q = (q.0 ∙ p.0, puts_cat p.1 q.1)

pub prints_is : {xs ys : List ℕ} {g at : ℕ} {b : List ℕ} {g' r : ℕ} {m : List ℕ}
    → xs ≡ ys → (g' ≡ g) × Puts xs at b r m → (g' ≡ g) × Puts ys at b r m
prints_is e p = (p.0, puts_is e p.1)

-- one more of the texts that a loop prints
pub prints_more : (f : ℕ → List ℕ) (i : ℕ) {g at : ℕ} {b : List ℕ} {g' r : ℕ} {m : List ℕ} {g'' r' : ℕ} {m' : List ℕ}
    → (g' ≡ g) × Puts (each f i) at b r m → (g'' ≡ g') × Puts (f i) r m r' m' → (g'' ≡ g) × Puts (each f (i + 1)) at b r' m'
prints_more f i p q = (q.0 ∙ p.0, puts_more f i p.1 q.1)

-- ---- stretches, whatever their parts are

pub line_is : (u : Item) (area : List ℕ) (place n : ℕ) → hex 4 place ++ codes ":" ++ each (item_text u area place) n ++ codes "\n" ≡ line u area place n
unfolding show_line look_line
line_is Byte area place n = refl
line_is Word area place n = refl

-- the line k of a stretch
abbrev pub row : Item → List ℕ → ℕ → ℕ → ℕ → List ℕ
row u area place count k = line u area (place + 16 * k) (min (per_line u) (count - per_line u * k))

pub stretch_is : (u : Item) (area : List ℕ) (place count k : ℕ) → k ≡ count / per_line u + min 1 (count % per_line u)
    → each (row u area place count) k ≡ stretch u area place count
unfolding show_text look_text
stretch_is Byte area place count k e = let f : k ≡ (count + 15) / 16 = omega arith in ap (each (row Byte area place count)) f
stretch_is Word area place count k e = let f : k ≡ (count + 7) / 8 = omega arith in ap (each (row Word area place count)) f

-- ---- digits

pub hex_two : (b x y : ℕ) → x ≡ hex_digit (b / 16 % 16) → y ≡ hex_digit (b % 16) → (x ∷ []) ++ (y ∷ []) ≡ hex 2 b
unfolding hex
hex_two b x y p q = rw (p, q)

four : (a b c d a' b' c' d' : ℕ) → a ≡ a' → b ≡ b' → c ≡ c' → d ≡ d'
    → hex_digit a ∷ hex_digit b ∷ hex_digit c ∷ hex_digit d ∷ [] ≡ hex_digit a' ∷ hex_digit b' ∷ hex_digit c' ∷ hex_digit d' ∷ []
four a b c d a' b' c' d' p q r s = rw (p, q, r, s)

pub hex_four : (w : ℕ) → hex 2 (w / 256 % 256) ++ hex 2 (w % 256) ≡ hex 4 w
unfolding hex
hex_four w =
    let a : w / 256 % 256 / 16 % 16 ≡ w / 16 / 16 / 16 % 16 = omega arith in
    let b : w / 256 % 256 % 16 ≡ w / 16 / 16 % 16 = omega arith in
    let c : w % 256 / 16 % 16 ≡ w / 16 % 16 = omega arith in
    let d : w % 256 % 16 ≡ w % 16 = omega arith in
    four _ _ _ _ _ _ _ _ a b c d

-- a place shows its last four digits
pub hex_place : (p : ℕ) → hex 4 (p % 65536) ≡ hex 4 p
unfolding hex
hex_place p =
    let a : p % 65536 / 16 / 16 / 16 % 16 ≡ p / 16 / 16 / 16 % 16 = omega arith in
    let b : p % 65536 / 16 / 16 % 16 ≡ p / 16 / 16 % 16 = omega arith in
    let c : p % 65536 / 16 % 16 ≡ p / 16 % 16 = omega arith in
    let d : p % 65536 % 16 ≡ p % 16 = omega arith in
    four _ _ _ _ _ _ _ _ a b c d

-- how many digits there may be does not matter, if there are enough
enough : (k j n : ℕ) → n < k → n < j → decimal_by k n ≡ decimal_by j n
unfolding decimal_by
enough zero j n p q = absurd (omega arith)
enough (suc k) zero n p q = absurd (omega arith)
enough (suc k) (suc j) n p q =
    ⊎_elim
    (λ (h : n < 10). rw (lt-ltb n 10 h))
    (λ (h : 10 ≤ n). rw (le-ltb n 10 h, enough k j (n / 10) (omega arith) (omega arith)))
    (below_or_not n 10)

pub decimal_one : (n : ℕ) → n < 10 → (48 + n % 10) ∷ [] ≡ decimal n
unfolding decimal decimal_by
decimal_one n h = rw (lt-ltb n 10 h)

more : (n : ℕ) → 10 ≤ n → decimal_by n (n / 10) ++ ((48 + n % 10) ∷ []) ≡ decimal_by (suc n) n
unfolding decimal_by
more n h = rw (le-ltb n 10 h)

pub decimal_more : (n : ℕ) → 10 ≤ n → decimal (n / 10) ++ ((48 + n % 10) ∷ []) ≡ decimal n
unfolding decimal
decimal_more n h = rw (enough (suc (n / 10)) n (n / 10) (omega arith) (omega arith)) (more n h)
