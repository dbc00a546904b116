-- Where `place` leads: in a memory of an allowed size, where base, offset and field together lead. Assumes nothing.
use Rattle.std.proofs.Common.{◌≡◌, ℕ, zero, suc, ◌+◌, ◌-◌, ◌%◌, ◌^◌, ◌≤◌, List, [], ◌∷◌, length, sym, refl, ap, ◌∙◌, ap₂, add-one, arith}
use native.Mathlib.Nat.{mod-add-mod}
use lib.Pow.{mod-mod-pow}
use Rattle.memory.specs.Memory.{byte_at, put_byte, bytes_at, put_bytes, value, field_at}
use Rattle.memory.specs.Address.{place, beyond}
use Rattle.memory.specs.Size.{Allowed}
use Rattle.memory.specs.declared.Offset.{Offset}
use Rattle.memory.specs.declared.RealAddress.{RealAddress}
use Rattle.memory.proofs.Laws.{length-put_byte}
use Rattle.memory.proofs.Fields.{Apart, up, down}
use Rattle.memory.proofs.Power.{exponent}

pub fold : (x n : ℕ) → Allowed n → x % 2 ^ 24 % n ≡ x % n
fold x n a =
    let k : a.exponent ≤ 24 = exponent a.exponent 24 (omega (arith, a.power)) in
    let e : 24 - a.exponent + a.exponent ≡ 24 = omega arith in
    rw a.power (ap (λ (t : ℕ). x % 2 ^ t % 2 ^ a.exponent) (sym e) ∙ mod-mod-pow x (24 - a.exponent) a.exponent)

pub fold_add : (x i n : ℕ) → Allowed n → (x % 2 ^ 24 + i) % n ≡ (x + i) % n
fold_add x i n a = sym (mod-add-mod (x % 2 ^ 24) n i) ∙ rw (fold x n a) (mod-add-mod x n i)

pub place_fold : (base : RealAddress) (o : Offset) (field n : ℕ) → Allowed n → place base o field % n ≡ (base.0 + o.0 + field) % n
unfolding place
place_fold base o field n a =
    let e : base.0 % 16777216 + o.0 + field ≡ base.0 % 16777216 + (o.0 + field) = omega arith in
    let f : base.0 + o.0 + field ≡ base.0 + (o.0 + field) = omega arith in
    rw (e, f) (fold_add base.0 (o.0 + field) n a)

pub beyond_fold : (x : RealAddress) (field n : ℕ) → Allowed n → beyond x field % n ≡ (x.0 + field) % n
unfolding beyond
beyond_fold x field n a = fold_add x.0 field n a

-- fields of one block, of which the first ends before the second begins, have no place in common
pub place_up : (base : RealAddress) (o : Offset) (n f j g k : ℕ) → f + j ≤ g → g + k ≤ f + n → Apart n (place base o f) j (place base o g) k
unfolding place
place_up base o n f j g k p q = up n (base.0 % 16777216 + o.0 + f) j (base.0 % 16777216 + o.0 + g) k (omega arith) (omega arith)

pub place_down : (base : RealAddress) (o : Offset) (n f j g k : ℕ) → g + k ≤ f → f + j ≤ g + n → Apart n (place base o f) j (place base o g) k
unfolding place
place_down base o n f j g k p q = down n (base.0 % 16777216 + o.0 + f) j (base.0 % 16777216 + o.0 + g) k (omega arith) (omega arith)

-- ---- addresses that lead to one place read and write alike

next : (a b n : ℕ) → a % n ≡ b % n → suc a % n ≡ suc b % n
next a b n e = rw (← add-one a, ← add-one b) (sym (mod-add-mod a n 1) ∙ rw e (mod-add-mod b n 1))

pub byte_place : (m : List ℕ) (a b : ℕ) → a % length m ≡ b % length m → byte_at m a ≡ byte_at m b
unfolding byte_at
byte_place m a b e = rw e

pub bytes_place : (m : List ℕ) (a b k : ℕ) → a % length m ≡ b % length m → bytes_at m a k ≡ bytes_at m b k
unfolding bytes_at
bytes_place m a b zero e = refl
bytes_place m a b (suc k) e =
    ap₂ (λ (v : ℕ) (l : List ℕ). v ∷ l) (byte_place m a b e) (bytes_place m (suc a) (suc b) k (next a b (length m) e))

pub field_place : (m : List ℕ) (a b k : ℕ) → a % length m ≡ b % length m → field_at k m a ≡ field_at k m b
unfolding field_at
field_place m a b k e = ap value (bytes_place m a b k e)

put_one : (m : List ℕ) (a b v : ℕ) → a % length m ≡ b % length m → put_byte m a v ≡ put_byte m b v
unfolding put_byte
put_one m a b v e = rw e

pub put_place : (m : List ℕ) (a b : ℕ) (bs : List ℕ) → a % length m ≡ b % length m → put_bytes m a bs ≡ put_bytes m b bs
unfolding put_bytes
put_place m a b [] e = refl
put_place m a b (v ∷ bs) e =
    rw (put_one m a b v e)
    (put_place (put_byte m b v) (suc a) (suc b) bs (rw length-put_byte (next a b (length m) e)))
