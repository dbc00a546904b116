-- Reading what was written: one law for runs of bytes of any length, and what it says of numbers of k bytes. Assumes nothing.
use Rattle.std.proofs.Common.{◌≡◌, ℕ, zero, suc, ◌+◌, ◌-◌, ◌*◌, ◌/◌, ◌%◌, ◌^◌, ◌<◌, ◌≤◌, List, [], ◌∷◌, ◌++◌, length, sym, refl, ap, ◌∙◌, ap₂, add-zero, add-suc, mul_assoc, suc-add, pow-suc, arith}
use native.Mathlib.Nat.{pow-succ'}
use lib.Arith.{mod-mul}
use Rattle.memory.specs.Memory.{byte_at, put_byte, bytes_at, put_bytes, value, digits, field_at, word_at, real_at, Write, apply}
use Rattle.memory.proofs.Laws.{length-put_byte, length-put_bytes, length-bytes_at, byte_same, byte_other, apart, bytes_append}

-- in a memory of n bytes the j bytes from a and the k bytes from b have no place in common
abbrev pub Apart : ℕ → ℕ → ℕ → ℕ → ℕ → Type 0
Apart n a j b k = (x : ℕ) → x < j → (y : ℕ) → y < k → (a + x) % n ≡ (b + y) % n → ⊥

pub up : (n a j b k : ℕ) → a + j ≤ b → b + k ≤ a + n → Apart n a j b k
up n a j b k p q x hx y hy e =
    let z : a + x + (b + y - (a + x)) ≡ b + y = omega arith in
    apart (a + x) (b + y - (a + x)) n (omega arith) (omega arith) (ap (λ (t : ℕ). t % n) z ∙ sym e)

pub down : (n a j b k : ℕ) → b + k ≤ a → a + j ≤ b + n → Apart n a j b k
down n a j b k p q x hx y hy e = up n b k a j p q y hy x hx (sym e)

-- ---- runs of bytes

byte_puts : (m : List ℕ) (a : ℕ) (bs : List ℕ) (b : ℕ) → ((x : ℕ) → x < length bs → (a + x) % length m ≡ b % length m → ⊥) → byte_at (put_bytes m a bs) b ≡ byte_at m b
unfolding put_bytes
byte_puts m a [] b h = refl
byte_puts m a (v ∷ bs) b h =
    byte_puts (put_byte m a v) (suc a) bs b (λ x p e. h (suc x) (omega arith) (rw (add-suc, ← suc-add) (rw length-put_byte at e)))
    ∙ byte_other m a b v (λ e. h 0 (omega arith) (rw add-zero (sym e)))

pub bytes_other : (m : List ℕ) (a : ℕ) (bs : List ℕ) (b k : ℕ) → Apart (length m) a (length bs) b k → bytes_at (put_bytes m a bs) b k ≡ bytes_at m b k
unfolding bytes_at
bytes_other m a bs b zero h = refl
bytes_other m a bs b (suc k) h =
    ap₂ (λ (v : ℕ) (l : List ℕ). v ∷ l) (byte_puts m a bs b (λ x p e. h x p 0 (omega arith) (rw add-zero e)))
    (bytes_other m a bs (suc b) k (λ x p y q e. h x p (suc y) (omega arith) (rw (add-suc b, ← suc-add) e)))

pub bytes_same : (m : List ℕ) (a : ℕ) (bs : List ℕ) → length bs ≤ length m → bytes_at (put_bytes m a bs) a (length bs) ≡ bs
unfolding bytes_at put_bytes
bytes_same m a [] h = refl
bytes_same m a (v ∷ bs) h =
    let l : length (put_byte m a v) ≡ length m = length-put_byte m a v in
    ap₂ (λ (x : ℕ) (r : List ℕ). x ∷ r)
    (byte_puts (put_byte m a v) (suc a) bs a (λ x p e. apart a (suc x) (length m) (omega arith) (omega arith) (rw (add-suc, ← suc-add, ← l) e))
    ∙ byte_same m a a v (omega arith) refl)
    (bytes_same (put_byte m a v) (suc a) bs (omega arith))

-- none of the writes meets the k bytes from b on
abbrev pub AllApart : ℕ → List Write → ℕ → ℕ → Type 0
AllApart n [] b k = Unit {0}
AllApart n (w ∷ ws) b k = Apart n w.to (length w.bytes) b k × AllApart n ws b k

pub apply_other : (ws : List Write) (m : List ℕ) (b k : ℕ) → AllApart (length m) ws b k → bytes_at (apply ws m) b k ≡ bytes_at m b k
apply_other [] m b k h = refl
apply_other (w ∷ ws) m b k h =
    apply_other ws (put_bytes m w.to w.bytes) b k (rw length-put_bytes h.1) ∙ bytes_other m w.to w.bytes b k h.0

-- ---- numbers of k bytes

pub length_digits : (k v : ℕ) → length (digits k v) ≡ k
unfolding digits
length_digits zero v = refl
length_digits (suc k) v = ap suc (length_digits k (v / 256))

some : (k : ℕ) → 0 < 256 ^ k
some zero = omega arith
some (suc k) = rw pow-suc (omega (arith, some k))

pub value_digits : (k v : ℕ) → value (digits k v) ≡ v % 256 ^ k
unfolding value digits
value_digits zero v = omega arith
value_digits (suc k) v =
    let i : value (digits k (v / 256)) ≡ v / 256 % 256 ^ k = value_digits k (v / 256) in
    rw (i, pow-suc) (omega (arith, mod-mul v {m = 256 ^ k} {c = 256} (some k) (omega arith)))

pub value_append : (xs ys : List ℕ) → value (xs ++ ys) ≡ value xs + 256 ^ length xs * value ys
unfolding value
value_append [] ys = omega arith
value_append (x ∷ xs) ys =
    let i : value (xs ++ ys) ≡ value xs + 256 ^ length xs * value ys = value_append xs ys in
    let p : 256 ^ suc (length xs) * value ys ≡ 256 * (256 ^ length xs * value ys) = rw (pow-succ', mul_assoc) in
    omega arith

-- the low and the high part of a number, wherever it is cut
pub field_append : (m : List ℕ) (a j k : ℕ) → field_at (j + k) m a ≡ field_at j m a + 256 ^ j * field_at k m (a + j)
unfolding field_at
field_append m a j k = rw (bytes_append, value_append, length-bytes_at)

pub field_one : (m : List ℕ) (a : ℕ) → field_at 1 m a ≡ byte_at m a
unfolding field_at bytes_at value
field_one m a = omega arith

-- one more byte, the highest
pub field_more : (m : List ℕ) (a k : ℕ) → field_at (k + 1) m a ≡ field_at k m a + 256 ^ k * byte_at m (a + k)
field_more m a k = rw (field_append, field_one)

pub field_same : (m : List ℕ) (a k v : ℕ) → k ≤ length m → field_at k (put_bytes m a (digits k v)) a ≡ v % 256 ^ k
unfolding field_at
field_same m a k v h =
    let l : length (digits k v) ≡ k = length_digits k v in
    ap (λ (n : ℕ). value (bytes_at (put_bytes m a (digits k v)) a n)) (sym l)
    ∙ ap value (bytes_same m a (digits k v) (omega arith))
    ∙ value_digits k v

pub field_other : (m : List ℕ) (a : ℕ) (bs : List ℕ) (b k : ℕ) → Apart (length m) a (length bs) b k → field_at k (put_bytes m a bs) b ≡ field_at k m b
unfolding field_at
field_other m a bs b k h = ap value (bytes_other m a bs b k h)

-- ---- of words and real addresses

pub word_same : (m : List ℕ) (a w : ℕ) → 2 ≤ length m → word_at (put_bytes m a (digits 2 w)) a ≡ w % 65536
word_same m a w h = field_same m a 2 w h

pub word_other : (m : List ℕ) (a : ℕ) (bs : List ℕ) (b : ℕ) → Apart (length m) a (length bs) b 2 → word_at (put_bytes m a bs) b ≡ word_at m b
word_other m a bs b h = field_other m a bs b 2 h

pub real_other : (m : List ℕ) (a : ℕ) (bs : List ℕ) (b : ℕ) → Apart (length m) a (length bs) b 3 → real_at (put_bytes m a bs) b ≡ real_at m b
real_other m a bs b h = field_other m a bs b 3 h
