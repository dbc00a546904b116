-- Runs of one byte in a list of bytes, and room below an end. Assumes nothing.
use mathlib.Core.Path.{◌≡◌, refl, sym, ◌∙◌}
use mathlib.Core.Bool.{Bool, true, false}
use mathlib.Core.Logic.{◌⊎◌, inl, inr, ⊎_elim}
use mathlib.Core.List.{List, [], ◌∷◌, append_assoc}
use Prim.Native.Nat.{ℕ, zero, suc, ◌+◌, ◌-◌, ◌≤◌, ◌<◌, min}
use native.Mathlib.Decide.{dec_lt}
use native.Mathlib.Omega.{arith}
use borrow.Author.Tests.{le-leb, lt-leb, leb-true, leb-false}
use borrow.Rule.Slice.PartMut.{put_mid}
use lib.Dec.{leb}
use lib.ListN.{length, set, replicate, length-set, length-replicate}
use lib.Seq.{sets, set_out, sets-eq, drop-drop}

sets_past : (d : List ℕ) (at : ℕ) (bs : List ℕ) → length d ≤ at → sets d at bs ≡ d
sets_past d at [] h = refl
sets_past d at (b ∷ bs) h = rw (set_out d at b h) (sets_past d (suc at) bs (omega arith))

told : (a b : ℕ) → Dec (a < b) → (a < b) ⊎ (b ≤ a)
told a b (yes p) = inl p
told a b (no h) = inr (omega arith)

-- stores beyond the end change nothing
pub fill_all : (d : List ℕ) (at n b : ℕ) → sets d at (replicate (min n (length d - at)) b) ≡ sets d at (replicate n b)
fill_all d at zero b = let k : min 0 (length d - at) ≡ 0 = omega arith in rw k
fill_all d at (suc n) b =
    ⊎_elim
    (λ (h : at < length d).
    let k : min (suc n) (length d - at) ≡ suc (min n (length d - suc at)) = omega arith in
    let l : length (set d at b) ≡ length d = length-set d at b in
    rw (k, ← l) (fill_all (set d at b) (suc at) n b))
    (λ (h : length d ≤ at).
    sets_past d at (replicate (min (suc n) (length d - at)) b) h ∙ sym (sets_past d at (replicate (suc n) b) h))
    (told at (length d) (dec_lt at (length d)))

-- a part that holds one byte
pub part_filled : (d : List ℕ) (at n e b : ℕ) (ys : List ℕ) → e ≡ min (at + n) (length d) → at < e → ys ≡ replicate (e - at) b
    → put_mid at (e - at) d ys ≡ sets d at (replicate n b)
part_filled d at n e b ys m l f =
    let k : e - at ≡ min n (length d - at) = omega arith in
    let q : length (replicate (e - at) b) ≡ e - at = length-replicate {A = ℕ} (e - at) b in
    let p : sets d at (replicate (e - at) b) ≡ put_mid at (length (replicate (e - at) b)) d (replicate (e - at) b) =
    rw (drop-drop, ← append_assoc) (sets-eq (replicate (e - at) b) d at (rw q (omega arith))) in
    rw f (sym (rw q at p) ∙ rw k (fill_all d at n b))

-- or no place for it
pub none_filled : (d : List ℕ) (at n e b : ℕ) → e ≡ min (at + n) (length d) → e ≤ at → d ≡ sets d at (replicate n b)
none_filled d at n e b m l =
    let k : min n (length d - at) ≡ 0 = omega arith in
    rw k at (fill_all d at n b)

-- ---- room below an end

by_test : (e p n : ℕ) → p ≤ e → (t : Bool) → leb n (e - p) ≡ t → t ≡ leb (p + n) e
by_test e p n h true t = sym (le-leb (p + n) e (omega (arith, h, leb-true n (e - p) t)))
by_test e p n h false t = sym (lt-leb (p + n) e (omega (arith, h, leb-false n (e - p) t)))

pub room_left : (e p n : ℕ) → p ≤ e → leb n (e - p) ≡ leb (p + n) e
room_left e p n h = by_test e p n h (leb n (e - p)) refl

pub no_room : (e p n : ℕ) → e < p → false ≡ leb (p + n) e
no_room e p n h = sym (lt-leb (p + n) e (omega arith))
