-- Bytes stay bytes: every element of a memory is below 256, whatever of bytes is written to it. Assumes nothing.
use Rattle.std.proofs.Common.{◌≡◌, ℕ, zero, suc, ◌+◌, ◌*◌, ◌/◌, ◌%◌, ◌^◌, ◌<◌, List, [], ◌∷◌, ◌++◌, length, get_or, take, drop, set, refl, ap, pow-suc, arith, get_or-drop}
use Rattle.memory.specs.Memory.{byte_at, put_byte, bytes_at, put_bytes, value, digits, field_at, Write, apply}
use Rattle.memory.proofs.Laws.{length-bytes_at}

-- every element is a byte
pub record Bytes (m : List ℕ) : Type 0 where
  pub each : (i : ℕ) → get_or m i 0 < 256

-- ---- lists of bytes

pub bytes_nil : Bytes []
bytes_nil = record { each = λ i. omega arith }

cons : (b : ℕ) (bs : List ℕ) → b < 256 → Bytes bs → (i : ℕ) → get_or (b ∷ bs) i 0 < 256
cons b bs p h zero = p
cons b bs p h (suc i) = h.each i

pub bytes_cons : (b : ℕ) (bs : List ℕ) → b < 256 → Bytes bs → Bytes (b ∷ bs)
bytes_cons b bs p h = record { each = cons b bs p h }

pub bytes_tail : (b : ℕ) (bs : List ℕ) → Bytes (b ∷ bs) → Bytes bs
bytes_tail b bs h = record { each = λ i. h.each (suc i) }

pub drop_bytes : (n : ℕ) (bs : List ℕ) → Bytes bs → Bytes (drop n bs)
drop_bytes n bs h = record { each = λ i. rw get_or-drop (h.each (n + i)) }

pub take_bytes_lem : (n : ℕ) (bs : List ℕ) → Bytes bs → Bytes (take n bs)
take_bytes_lem zero bs h = bytes_nil
take_bytes_lem (suc n) [] h = bytes_nil
take_bytes_lem (suc n) (b ∷ bs) h = bytes_cons b (take n bs) (h.each 0) (take_bytes_lem n bs (bytes_tail b bs h))

-- ---- reads

pub byte_bound : (m : List ℕ) (a : ℕ) → Bytes m → byte_at m a < 256
unfolding byte_at
byte_bound m a h = h.each (a % length m)

pub read_bytes : (m : List ℕ) (a k : ℕ) → Bytes m → Bytes (bytes_at m a k)
unfolding bytes_at
read_bytes m a zero h = bytes_nil
read_bytes m a (suc k) h = bytes_cons (byte_at m a) (bytes_at m (suc a) k) (byte_bound m a h) (read_bytes m (suc a) k h)

pub value_lt : (bs : List ℕ) → Bytes bs → value bs < 256 ^ length bs
unfolding value
value_lt [] h = omega arith
value_lt (b ∷ bs) h =
    let i : value bs < 256 ^ length bs = value_lt bs (bytes_tail b bs h) in
    let p : b < 256 = h.each 0 in
    rw pow-suc (omega arith)

pub field_bound : (m : List ℕ) (a k : ℕ) → Bytes m → field_at k m a < 256 ^ k
unfolding field_at
field_bound m a k h = rw length-bytes_at at (value_lt (bytes_at m a k) (read_bytes m a k h))

-- ---- digits

pub digits_bytes : (k v : ℕ) → Bytes (digits k v)
unfolding digits
digits_bytes zero v = bytes_nil
digits_bytes (suc k) v = bytes_cons (v % 256) (digits k (v / 256)) (omega arith) (digits_bytes k (v / 256))

pub digits_value : (bs : List ℕ) → Bytes bs → digits (length bs) (value bs) ≡ bs
unfolding digits value
digits_value [] h = refl
digits_value (b ∷ bs) h =
    let p : b < 256 = h.each 0 in
    let q : (b + 256 * value bs) % 256 ≡ b = omega arith in
    let r : (b + 256 * value bs) / 256 ≡ value bs = omega arith in
    rw (q, r) (ap (λ (l : List ℕ). b ∷ l) (digits_value bs (bytes_tail b bs h)))

-- ---- writes

set_each : (m : List ℕ) (i v : ℕ) → Bytes m → v < 256 → (k : ℕ) → get_or (set m i v) k 0 < 256
set_each [] i v h p k = h.each k
set_each (x ∷ m) zero v h p zero = p
set_each (x ∷ m) zero v h p (suc k) = h.each (suc k)
set_each (x ∷ m) (suc i) v h p zero = h.each 0
set_each (x ∷ m) (suc i) v h p (suc k) = set_each m i v (bytes_tail x m h) p k

pub set_bytes : (m : List ℕ) (i v : ℕ) → Bytes m → v < 256 → Bytes (set m i v)
set_bytes m i v h p = record { each = set_each m i v h p }

pub put_bytes_lem : (m : List ℕ) (a : ℕ) (bs : List ℕ) → Bytes m → Bytes bs → Bytes (put_bytes m a bs)
unfolding put_bytes put_byte
put_bytes_lem m a [] h p = h
put_bytes_lem m a (b ∷ bs) h p = put_bytes_lem (put_byte m a b) (suc a) bs (set_bytes m (a % length m) b h (p.each 0)) (bytes_tail b bs p)

-- each write is of bytes
abbrev pub AllBytes : List Write → Type 0
AllBytes [] = Unit {0}
AllBytes (w ∷ ws) = Bytes w.bytes × AllBytes ws

pub all_append : (xs ys : List Write) → AllBytes xs → AllBytes ys → AllBytes (xs ++ ys)
all_append [] ys p q = q
all_append (x ∷ xs) ys p q = (p.0, all_append xs ys p.1 q)

pub apply_bytes : (ws : List Write) (m : List ℕ) → AllBytes ws → Bytes m → Bytes (apply ws m)
apply_bytes [] m p h = h
apply_bytes (w ∷ ws) m p h = apply_bytes ws (put_bytes m w.to w.bytes) p.1 (put_bytes_lem m w.to w.bytes h p.0)
