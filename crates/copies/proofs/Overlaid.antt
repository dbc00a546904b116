-- What the copies of a few bytes rest on: bytes that are read and put as one number are a run, and two runs that lie over each other are one.
-- Assumes nothing.
use mathlib.Core.Path.{◌≡◌, refl, sym, ap, ◌∙◌}
use mathlib.Core.List.{List, [], ◌∷◌, ◌++◌}
use Prim.Native.Nat.{ℕ, zero, suc, ◌+◌, ◌-◌, ◌≤◌, ◌<◌}
use native.Mathlib.Nat.{not-suc-le-zero, le_of_suc-le-suc}
use native.Mathlib.Omega.{arith}
use lib.ListN.{length, set, take, drop, length-drop}
use lib.Seq.{drop-drop, take-add, length-take-le, set-set, set_comm, sets}
use Rattle.memory.specs.Memory.{digits}
use Rattle.memory.proofs.Bytes.{Bytes}
use Rattle.memory.proofs.Laws.{sets-append}
use Rattle.numerals.specs.Places.{field}
use Rattle.numerals.proofs.Laws.{piece, from_run}

-- ---- as one number

pub as_number : (s : List ℕ) (i n : ℕ) → Bytes s → i + n ≤ length s → digits n (field s i n) ≡ take n (drop i s)
as_number s i n b h = sym (piece s b i n) ∙ from_run s i n h

-- ---- one run over another

-- a store before a run may as well come first
under : (l : List ℕ) (p q y : ℕ) (zs : List ℕ) → p < q → set (sets l q zs) p y ≡ sets (set l p y) q zs
under l p q y [] h = refl
under l p q y (z ∷ zs) h =
    under (set l q z) p (suc q) y zs (omega arith) ∙ ap (λ (r : List ℕ). sets r (suc q) zs) (set_comm l q p z y (λ e. omega (arith, e)))

-- a run over the front of it
over : (l : List ℕ) (p n m : ℕ) (ys : List ℕ) → n ≤ m → sets (sets l p (take n ys)) p (take m ys) ≡ sets l p (take m ys)
over l p zero m ys h = refl
over l p (suc n) zero ys h = absurd (not-suc-le-zero h)
over l p (suc n) (suc m) [] h = refl
over l p (suc n) (suc m) (y ∷ ys) h =
    ap (λ (r : List ℕ). sets r (suc p) (take m ys))
    (under (set l p y) p (suc p) y (take n ys) (omega arith) ∙ ap (λ (r : List ℕ). sets r (suc p) (take n ys)) (set-set l p y y))
    ∙ over (set l p y) (suc p) n m ys (le_of_suc-le-suc h)

-- the first w of k bytes, and then the last w, are all of them
overlaid : (d l : List ℕ) (to j w : ℕ) → j ≤ w → j + w ≤ length l
    → sets (sets d to (take w l)) (to + j) (take w (drop j l)) ≡ sets d to (take (j + w) l)
overlaid d l to j w h g =
    let front : length (take j l) ≡ j = length-take-le j l (omega arith) in
    let e : w ≡ j + (w - j) = omega arith in
    let parts : take w l ≡ take j l ++ take (w - j) (drop j l) = ap (λ (n : ℕ). take n l) e ∙ take-add j (w - j) l in
    rw (parts, take-add j w l, sets-append d to (take j l) (take (w - j) (drop j l)), sets-append d to (take j l) (take w (drop j l)), front) (over (sets d to (take j l)) (to + j) (w - j) w (drop j l) (omega arith))

pub two_runs : (d s : List ℕ) (to from k w : ℕ) → w ≤ k → k ≤ w + w → k ≤ length s - from
    → sets (sets d to (take w (drop from s))) (to + (k - w)) (take w (drop (from + (k - w)) s)) ≡ sets d to (take k (drop from s))
two_runs d s to from k w h g q =
    let l : length (drop from s) ≡ length s - from = length-drop from s in
    let e : k - w + w ≡ k = omega arith in
    rw (← drop-drop (k - w) from s)
    (overlaid d (drop from s) to (k - w) w (omega arith) (omega arith) ∙ ap (λ (n : ℕ). sets d to (take n (drop from s))) e)
