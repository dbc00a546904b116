-- Powers of two, by their digits: the sizes that are allowed, and a mask as a remainder. Assumes nothing.
use Rattle.std.proofs.Common.{◌≡◌, ℕ, suc, ◌+◌, ◌-◌, ◌*◌, ◌/◌, ◌%◌, ◌^◌, ◌<◌, ◌≤◌, min, Bool, true, false, ◌&&◌, eqb, leb, ap, ◌∙◌, ⊎_elim, pow-suc, arith, pow_pos, eq-eqb, eqb-true, le-leb, leb-true}
use lib.Arith.{bin_ind}
use lib.Bits.{bit_and, and_step, and_self, and_mask}
use lib.Count.{ones, ones_step, ones_cat}
use lib.Pow.{pow-lt}
use Rattle.memory.specs.Size.{size_allowed, Allowed}
use Rattle.memory.proofs.Laws.{below_or_not}

-- ---- sizes

none : (n : ℕ) → ones n ≡ 0 → n ≡ 0
none =
    bin_ind (λ (n : ℕ). ones n ≡ 0 → n ≡ 0) (λ e. omega arith)
    (λ n ih e. omega (arith, ones_step n, ih (omega (arith, ones_step n))))

-- one digit set: a power of two
pub power : (n : ℕ) → ones n ≡ 1 → (k : ℕ) × (n ≡ 2 ^ k)
unfolding ones
power =
    bin_ind (λ (n : ℕ). ones n ≡ 1 → (k : ℕ) × (n ≡ 2 ^ k)) (λ e. absurd (omega arith))
    (λ n ih e.
    ⊎_elim
    (λ (h : 0 < n % 2). (0, omega (arith, none (n / 2) (omega (arith, ones_step n)))))
    (λ (h : n % 2 ≤ 0). let r = ih (omega (arith, ones_step n)) in (suc r.0, omega (arith, r.1, pow-suc 2 r.0)))
    (below_or_not 0 (n % 2)))

-- a power of two: one digit set
pub one : (k : ℕ) → ones (2 ^ k) ≡ 1
unfolding ones
one k = let e : 2 ^ k ≡ 1 * 2 ^ k + 0 = omega arith in ap ones e ∙ ones_cat k 1 0 (pow_pos k)

-- the order of powers is that of their exponents
pub exponent : (j k : ℕ) → 2 ^ j ≤ 2 ^ k → j ≤ k
exponent j k h = ⊎_elim (λ (l : k < j). omega (arith, pow-lt l)) (λ (l : j ≤ k). l) (below_or_not k j)

both : (a b : Bool) → a && b ≡ true → (a ≡ true) × (b ≡ true)
both true true e = (e, e)
both true false e = let z : ◌≡◌ {A = ℕ} 0 1 = cc in absurd (omega arith)
both false b e = let z : ◌≡◌ {A = ℕ} 0 1 = cc in absurd (omega arith)

-- what `size_allowed` asks is a power of two in bounds, and the other way
pub allowed : (n : ℕ) → size_allowed n ≡ true → Allowed n
unfolding size_allowed
allowed n e =
    let p = both (leb 8192 n && leb n 16777216) (eqb (ones n) 1) e in
    let q = both (leb 8192 n) (leb n 16777216) p.0 in
    let r = power n (eqb-true (ones n) 1 p.1) in
    record { least = leb-true 8192 n q.0; most = leb-true n 16777216 q.1; exponent = r.0; power = r.1 }

pub size_allowed_lem : (n : ℕ) → Allowed n → size_allowed n ≡ true
unfolding size_allowed
size_allowed_lem n a = rw (le-leb 8192 n a.least, le-leb n 16777216 a.most, eq-eqb (ones n) 1 (ap ones a.power ∙ one a.exponent))

-- ---- masks

-- a number that shares no digit with the one before it is a power of two
pub alone : (n : ℕ) → 0 < n → bit_and n (n - 1) ≡ 0 → (k : ℕ) × (n ≡ 2 ^ k)
alone =
    bin_ind (λ (n : ℕ). 0 < n → bit_and n (n - 1) ≡ 0 → (k : ℕ) × (n ≡ 2 ^ k)) (λ p e. absurd (omega arith))
    (λ n ih p e.
    ⊎_elim
    (λ (h : 0 < n % 2).
    let same : (n - 1) / 2 ≡ n / 2 = omega arith in
    let s : bit_and n (n - 1) ≡ bit_and (n / 2) (n / 2) * 2 + min (n % 2) ((n - 1) % 2) = and_step n (n - 1) ∙ ap (λ (x : ℕ). bit_and (n / 2) x * 2 + min (n % 2) ((n - 1) % 2)) same in
    (0, omega (arith, s, and_self (n / 2))))
    (λ (h : n % 2 ≤ 0).
    let less : (n - 1) / 2 ≡ n / 2 - 1 = omega arith in
    let s : bit_and n (n - 1) ≡ bit_and (n / 2) (n / 2 - 1) * 2 + min (n % 2) ((n - 1) % 2) = and_step n (n - 1) ∙ ap (λ (x : ℕ). bit_and (n / 2) x * 2 + min (n % 2) ((n - 1) % 2)) less in
    let r = ih (omega arith) (omega (arith, s)) in
    (suc r.0, omega (arith, r.1, pow-suc 2 r.0)))
    (below_or_not 0 (n % 2)))

-- and the one before it masks the remainder
pub mask : (a n : ℕ) → 0 < n → bit_and n (n - 1) ≡ 0 → bit_and a (n - 1) ≡ a % n
mask a n p e = let r = alone n p e in rw r.1 (and_mask a r.0)
