-- Lengths, one byte, and runs of bytes end to end. No contract cites this file. Assumes nothing.
use Rattle.std.proofs.Common.{◌≡◌, ℕ, zero, suc, ◌+◌, ◌-◌, ◌%◌, ◌<◌, ◌≤◌, min, ◌⊎◌, List, [], ◌∷◌, ◌++◌, length, get_or, take, drop, set, sym, refl, ap, ◌∙◌, inl, inr, ⊎_elim, add-zero, add-suc, add-one, mod-lt, mod-eq_of_lt, suc-add, zero-add, arith, append_assoc, length-set, get_or-set_other, get_or-set_same, length-drop, length-take-le, get_or-drop, take-suc}
use native.Mathlib.Nat.{mod-add-mod, mod-eq-sub-mod}
use native.Mathlib.Decide.{dec_lt}
use lib.Seq.{set_out, sets, sets-eq, drop-drop}
use borrow.Rule.Slice.PartMut.{put_mid}
use Rattle.memory.specs.Memory.{byte_at, put_byte, bytes_at, put_bytes, Write, apply}

-- ---- lengths

pub length-put_byte : (m : List ℕ) (a v : ℕ) → length (put_byte m a v) ≡ length m
unfolding put_byte
length-put_byte m a v = length-set m (a % length m) v

pub length-put_bytes : (m : List ℕ) (a : ℕ) (bs : List ℕ) → length (put_bytes m a bs) ≡ length m
unfolding put_bytes
length-put_bytes m a [] = refl
length-put_bytes m a (b ∷ bs) = length-put_bytes (put_byte m a b) (suc a) bs ∙ length-put_byte m a b

pub length_apply : (ws : List Write) (m : List ℕ) → length (apply ws m) ≡ length m
length_apply [] m = refl
length_apply (w ∷ ws) m = length_apply ws (put_bytes m w.to w.bytes) ∙ length-put_bytes m w.to w.bytes

pub length-bytes_at : (m : List ℕ) (a n : ℕ) → length (bytes_at m a n) ≡ n
unfolding bytes_at
length-bytes_at m a zero = refl
length-bytes_at m a (suc n) = ap suc (length-bytes_at m (suc a) n)

-- ---- one byte

told : (a b : ℕ) → Dec (a < b) → (a < b) ⊎ (b ≤ a)
told a b (yes p) = inl p
told a b (no h) = inr (omega arith)

pub below_or_not : (a b : ℕ) → (a < b) ⊎ (b ≤ a)
below_or_not a b = told a b (dec_lt a b)

-- an empty memory reads 0 and takes nothing
pub none_get : (m : List ℕ) (a : ℕ) → length m ≡ 0 → byte_at m a ≡ 0
unfolding byte_at
none_get [] a e = refl
none_get (x ∷ m) a e = absurd (omega arith)

pub none_set : (m : List ℕ) (a v : ℕ) → length m ≡ 0 → put_byte m a v ≡ m
unfolding put_byte
none_set [] a v e = refl
none_set (x ∷ m) a v e = absurd (omega arith)

-- a remainder is below its divisor
pub within : (a n r : ℕ) → r ≡ a % n → (n ≡ 0 → ⊥) → r < n
within a n r e h = let k : a % n < n = mod-lt a (omega arith) in omega arith

-- a distance below the length, and not 0, leads to another place
pub apart : (a k n : ℕ) → 0 < k → k < n → (a + k) % n ≡ a % n → ⊥
apart a k n p q e =
    let r : a % n < n = mod-lt a (omega arith) in
    let s : (a % n + k) % n ≡ a % n = mod-add-mod a n k ∙ e in
    ⊎_elim
    (λ (h : a % n + k < n). omega (arith, mod-eq_of_lt h))
    (λ (h : n ≤ a % n + k). let t : a % n + k - n < n = omega arith in omega (arith, mod-eq-sub-mod h, mod-eq_of_lt t))
    (below_or_not (a % n + k) n)

pub byte_same : (m : List ℕ) (a b v : ℕ) → 0 < length m → b % length m ≡ a % length m → byte_at (put_byte m a v) b ≡ v
unfolding byte_at put_byte
byte_same m a b v h e = rw (length-set, e, get_or-set_same m (a % length m) v 0 (mod-lt a h))

pub byte_other : (m : List ℕ) (a b v : ℕ) → (b % length m ≡ a % length m → ⊥) → byte_at (put_byte m a v) b ≡ byte_at m b
unfolding byte_at put_byte
byte_other m a b v h = rw (length-set, get_or-set_other m (a % length m) (b % length m) v 0 h)

-- ---- runs of bytes end to end

pub put_append : (m : List ℕ) (a : ℕ) (xs ys : List ℕ) → put_bytes m a (xs ++ ys) ≡ put_bytes (put_bytes m a xs) (a + length xs) ys
unfolding put_bytes
put_append m a [] ys = rw add-zero
put_append m a (x ∷ xs) ys = rw (add-suc, ← suc-add) (put_append (put_byte m a x) (suc a) xs ys)

pub bytes_append : (m : List ℕ) (a j k : ℕ) → bytes_at m a (j + k) ≡ bytes_at m a j ++ bytes_at m (a + j) k
unfolding bytes_at
bytes_append m a zero k = rw (zero-add, add-zero)
bytes_append m a (suc j) k = rw (suc-add, add-suc, ← suc-add a) (ap (λ (l : List ℕ). byte_at m a ∷ l) (bytes_append m (suc a) j k))

pub sets-append : (d : List ℕ) (at : ℕ) (xs ys : List ℕ) → sets d at (xs ++ ys) ≡ sets (sets d at xs) (at + length xs) ys
sets-append d at [] ys = rw add-zero
sets-append d at (x ∷ xs) ys = rw (add-suc, ← suc-add) (sets-append (set d at x) (suc at) xs ys)

pub apply_append : (xs ys : List Write) (m : List ℕ) → apply (xs ++ ys) m ≡ apply ys (apply xs m)
apply_append [] ys m = refl
apply_append (x ∷ xs) ys m = apply_append xs ys (put_bytes m x.to x.bytes)

-- ---- runs: a part that is written, and that what lies past the end does not matter

pub sets_past : (d : List ℕ) (at : ℕ) (bs : List ℕ) → length d ≤ at → sets d at bs ≡ d
sets_past d at [] h = refl
sets_past d at (b ∷ bs) h = rw (set_out d at b h) (sets_past d (suc at) bs (omega arith))

-- what a slice of bytes holds when a part of it was written
pub part_put : (d : List ℕ) (at k : ℕ) (bs : List ℕ) → length bs ≡ k → at + k ≤ length d → put_mid at k d bs ≡ sets d at bs
part_put d at k bs e h = rw (← e, drop-drop, ← append_assoc) (sym (sets-eq bs d at (omega arith)))

-- a turn of the loop that copies a run
pub run_step : (d : List ℕ) (to : ℕ) (src : List ℕ) (from i : ℕ) → from + i < length src
    → set (sets d to (take i (drop from src))) (to + i) (get_or src (from + i) 0) ≡ sets d to (take (i + 1) (drop from src))
run_step d to src from i h =
    let k : i < length (drop from src) = simp length-drop (omega arith) in
    let e : length (take i (drop from src)) ≡ i = length-take-le i (drop from src) (omega arith) in
    sym (rw (add-one, take-suc (drop from src) i 0 k, sets-append, e, get_or-drop))

pub run_all : (d : List ℕ) (at : ℕ) (src : List ℕ) → sets d at (take (min (length src) (length d - at)) src) ≡ sets d at src
run_all d at [] = let k : min 0 (length d - at) ≡ 0 = omega arith in rw k
run_all d at (b ∷ bs) =
    ⊎_elim
    (λ (h : at < length d).
    let k : min (suc (length bs)) (length d - at) ≡ suc (min (length bs) (length d - suc at)) = omega arith in
    let l : length (set d at b) ≡ length d = length-set d at b in
    rw (k, ← l) (run_all (set d at b) (suc at) bs))
    (λ (h : length d ≤ at).
    sets_past d at (take (min (length (b ∷ bs)) (length d - at)) (b ∷ bs)) h ∙ sym (sets_past d at (b ∷ bs) h))
    (below_or_not at (length d))
