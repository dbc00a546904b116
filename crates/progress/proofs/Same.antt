-- Bytes that stay the same. Assumes nothing.
use mathlib.Core.Path.{◌≡◌, refl, sym, ◌∙◌}
use mathlib.Core.Logic.{◌≢◌}
use mathlib.Core.List.{List, [], ◌∷◌, ◌++◌}
use Prim.Native.Nat.{ℕ, zero, suc, ◌%◌}
use native.Mathlib.Nat.{suc_inj, suc-ne-zero}
use lib.ListN.{length, get_or, set}
use Rattle.memory.specs.Memory.{byte_at, put_byte, bytes_at, put_bytes, field_at, Write, apply}
use Rattle.memory.proofs.Laws.{length-put_byte, length-put_bytes, byte_other}
use Rattle.progress.specs.Same.{In, here, there, range, targets, Same}

-- ---- parts of lists

abbrev pub Sub : List ℕ → List ℕ → Type 0
Sub F G = (a : ℕ) → In a F → In a G

pub sub-nil : (G : List ℕ) → Sub [] G
sub-nil G a i = elim i [ ]

-- what holds of a list's elements, one after the other
pub each_nil : (T : ℕ → Type 0) (a : ℕ) → In a [] → T a
each_nil T a i = elim i [ ]

pub each_cons : (T : ℕ → Type 0) {x : ℕ} {F : List ℕ} → T x → ((a : ℕ) → In a F → T a) → (a : ℕ) → In a (x ∷ F) → T a
each_cons T i f a here = i
each_cons T i f a (there j) = f a j

pub in_left : {a : ℕ} {s : List ℕ} (t : List ℕ) → In a s → In a (s ++ t)
in_left t here = here
in_left t (there i) = there (in_left t i)

pub in_right : {a : ℕ} (s : List ℕ) {t : List ℕ} → In a t → In a (s ++ t)
in_right [] i = i
in_right (x ∷ s) i = there (in_right s i)

-- ---- the same writes on memories that are the same there

get_or_set_both : (m q : List ℕ) (i j x : ℕ) → length m ≡ length q → get_or m j 0 ≡ get_or q j 0 → get_or (set m i x) j 0 ≡ get_or (set q i x) j 0
get_or_set_both [] [] i j x l e = refl
get_or_set_both [] (c ∷ q) i j x l e = absurd (suc-ne-zero _ (sym l))
get_or_set_both (b ∷ m) [] i j x l e = absurd (suc-ne-zero _ l)
get_or_set_both (b ∷ m) (c ∷ q) zero zero x l e = refl
get_or_set_both (b ∷ m) (c ∷ q) zero (suc j) x l e = e
get_or_set_both (b ∷ m) (c ∷ q) (suc i) zero x l e = e
get_or_set_both (b ∷ m) (c ∷ q) (suc i) (suc j) x l e = get_or_set_both m q i j x (suc_inj l) e

put_both : (m q : List ℕ) (i v a : ℕ) → length m ≡ length q → byte_at m a ≡ byte_at q a → byte_at (put_byte m i v) a ≡ byte_at (put_byte q i v) a
unfolding byte_at put_byte
put_both m q i v a l e =
    rw (length-put_byte m i v, length-put_byte q i v, ← l) (get_or_set_both m q (i % length m) (a % length m) v l (rw (← l) at e))

pub same_put : (L m q : List ℕ) (i v : ℕ) → Same L m q → Same L (put_byte m i v) (put_byte q i v)
same_put L m q i v h =
    record {
      size = length-put_byte m i v ∙ h.size ∙ sym (length-put_byte q i v);
      bytes = λ a j. put_both m q i v a h.size (h.bytes a j);
    }

pub same_puts : (L m q : List ℕ) (i : ℕ) (bs : List ℕ) → Same L m q → Same L (put_bytes m i bs) (put_bytes q i bs)
unfolding put_bytes
same_puts L m q i [] h = h
same_puts L m q i (b ∷ bs) h = same_puts L (put_byte m i b) (put_byte q i b) (suc i) bs (same_put L m q i b h)

pub same_apply : (L : List ℕ) (ws : List Write) (m q : List ℕ) → Same L m q → Same L (apply ws m) (apply ws q)
same_apply L [] m q h = h
same_apply L (w ∷ ws) m q h =
    same_apply L ws (put_bytes m w.to w.bytes) (put_bytes q w.to w.bytes) (same_puts L m q w.to w.bytes h)

pub same_refl : (L m : List ℕ) → Same L m m
same_refl L m = record { size = refl; bytes = λ a i. refl }

pub same_sym : {L m q : List ℕ} → Same L m q → Same L q m
same_sym f = record { size = sym f.size; bytes = λ a i. sym (f.bytes a i) }

pub same_trans : {L m q p : List ℕ} → Same L m q → Same L q p → Same L m p
same_trans f g = record { size = f.size ∙ g.size; bytes = λ a i. f.bytes a i ∙ g.bytes a i }

pub same_part : {F L m q : List ℕ} → Sub F L → Same L m q → Same F m q
same_part s h = record { size = h.size; bytes = λ a i. h.bytes a (s a i) }

-- ---- writes that reach none of the listed addresses

pub puts_apart : (F m : List ℕ) (i : ℕ) (bs : List ℕ)
    → ((x y : ℕ) → In x F → In y (range i (length bs)) → x % length m ≢ y % length m) → Same F (put_bytes m i bs) m
unfolding put_bytes range
puts_apart F m i [] h = same_refl F m
puts_apart F m i (b ∷ bs) h =
    let l : length (put_byte m i b) ≡ length m = length-put_byte m i b in
    let r : Same F (put_bytes (put_byte m i b) (suc i) bs) (put_byte m i b) =
    puts_apart F (put_byte m i b) (suc i) bs (λ x y j k. rw l (h x y j (there k))) in
    record { size = r.size ∙ l; bytes = λ x j. r.bytes x j ∙ byte_other m i x b (h x i j here) }

pub apart_writes : (F : List ℕ) (ws : List Write) (q : List ℕ)
    → ((x y : ℕ) → In x F → In y (targets ws) → x % length q ≢ y % length q) → Same F (apply ws q) q
apart_writes F [] q h = same_refl F q
apart_writes F (w ∷ ws) q h =
    let p = put_bytes q w.to w.bytes in
    let l : length p ≡ length q = length-put_bytes q w.to w.bytes in
    let r : Same F (apply ws p) p = apart_writes F ws p (λ x y i j. rw l (h x y i (in_right (range w.to (length w.bytes)) j))) in
    same_trans r (puts_apart F q w.to w.bytes (λ x y i j. h x y i (in_left (targets ws) j)))

-- ---- runs and fields are the same where their bytes are

pub same_bytes_lem : {m q : List ℕ} (a n : ℕ) → Same (range a n) m q → bytes_at m a n ≡ bytes_at q a n
unfolding bytes_at range
same_bytes_lem a zero h = refl
same_bytes_lem a (suc n) h = rw (h.bytes a here, same_bytes_lem (suc a) n (same_part (λ b i. there i) h))

pub same_field : {F m q : List ℕ} (k a : ℕ) → Sub (range a k) F → Same F m q → field_at k m a ≡ field_at k q a
unfolding field_at
same_field k a s h = rw (same_bytes_lem a k (same_part s h))
