-- A unit and its tag and words say the same: the words of a unit in width are shaped and lead back to it, and shaped words are those of the
-- unit that is read of them. Assumes nothing.
use mathlib.Core.Path.{◌≡◌, refl}
use mathlib.Core.Bool.{Bool, true, false, not, cond, ◌&&◌}
use mathlib.Core.Logic.{⊎_elim}
use Prim.Native.Nat.{ℕ, zero, suc, ◌+◌, ◌*◌, ◌-◌, ◌/◌, ◌%◌, ◌≤◌, ◌<◌}
use native.Mathlib.Nat.{div-div-eq-div-mul, div-add-mod'}
use native.Mathlib.Omega.{arith}
use borrow.Author.Tests.{eqb-true, ltb-true, leb-true, lt-ltb, le-leb, le-ltb, ne_eqb}
use lib.Dec.{eqb, leb, ltb, eqb→eq}
use Rattle.memory.proofs.Laws.{below_or_not}
use Rattle.scb.specs.Words.{one}
use Rattle.scb.proofs.Below.{below}
use Rattle.device.specs.Numbers.{action_number, action_of, verdict_number, verdict_of}
use Rattle.device.specs.declared.Action.{Action}
use Rattle.device.specs.declared.Action.TheVariants as action
use Rattle.device.specs.declared.Begun.{Begun}
use Rattle.device.specs.declared.Form.{Form}
use Rattle.device.specs.declared.Cu.{Cu}
use Rattle.device.specs.declared.Cu.TheVariants as cu
use Rattle.device.specs.declared.Ru.{Ru}
use Rattle.device.specs.declared.Ru.TheVariants as ru
use Rattle.device.specs.declared.Storing.{Storing}
use Rattle.device.specs.declared.Verdict.{Verdict}
use Rattle.device.specs.declared.Verdict.TheVariants as verdict
use Rattle.device.proofs.Laws.{action_back, verdict_back}
use Rattle.phases.specs.Fields.{flags_of, odd}
use Rattle.phases.specs.Forms.{form_number, form_of, form_shaped, FormWide, kind_of, verdict_in, form_in, kind_shaped}
use Rattle.phases.specs.Phases.{flag_bits, number_of, word_of, plain, begun_word, cu_tag, cu_word, cu_of, cu_most, cu_kind, cu_shaped, frame_word, storing_word, ru_tag, ru_word, filled_number, ru_rest, ru_of, ru_most, ru_flags, rest_most, ru_shaped, WordWide, HoldingWide}
use Rattle.phases.specs.declared.Word.{Word}

-- ---- tests

pub both : (a b : Bool) → (a && b) ≡ true → (a ≡ true) × (b ≡ true)
both true b e = (refl, e)
both false b e = let z : ◌≡◌ {A = ℕ} 0 1 = cc in absurd (omega arith)

pub never : false ≡ true → ⊥
never e = let z : ◌≡◌ {A = ℕ} 0 1 = cc in omega arith

-- ---- flags

pub one_below : (b : Bool) → one b < 2
one_below true = omega arith
one_below false = omega arith

pub one_back : (b : Bool) → eqb (one b) 1 ≡ b
one_back true = refl
one_back false = refl

module _ (a b c d e f : Bool) where
  pub flags_below : flags_of a b c d e f < 64
  flags_below = omega (arith, one_below a, one_below b, one_below c, one_below d, one_below e, one_below f)

  pub flag1 : odd (flags_of a b c d e f) ≡ a
  flag1 =
      let n : flags_of a b c d e f % 2 ≡ one a = omega (arith, one_below a) in
      rw n (one_back a)

  pub flag2 : odd (flags_of a b c d e f / 2) ≡ b
  flag2 =
      let q : flags_of a b c d e f / 2 ≡ one b + 2 * (one c + 2 * one d + 4 * one e + 8 * one f) = omega (arith, one_below a) in
      let n : flags_of a b c d e f / 2 % 2 ≡ one b = rw q (omega (arith, one_below b)) in
      rw n (one_back b)

  pub flag3 : odd (flags_of a b c d e f / 4) ≡ c
  flag3 =
      let q : flags_of a b c d e f / 4 ≡ one c + 2 * (one d + 2 * one e + 4 * one f) = omega (arith, one_below a, one_below b) in
      let n : flags_of a b c d e f / 4 % 2 ≡ one c = rw q (omega (arith, one_below c)) in
      rw n (one_back c)

  pub flag4 : odd (flags_of a b c d e f / 8) ≡ d
  flag4 =
      let q : flags_of a b c d e f / 8 ≡ one d + 2 * (one e + 2 * one f) = omega (arith, one_below a, one_below b, one_below c) in
      let n : flags_of a b c d e f / 8 % 2 ≡ one d = rw q (omega (arith, one_below d)) in
      rw n (one_back d)

  pub flag5 : odd (flags_of a b c d e f / 16) ≡ e
  flag5 =
      let q : flags_of a b c d e f / 16 ≡ one e + 2 * one f = omega (arith, one_below a, one_below b, one_below c, one_below d) in
      let n : flags_of a b c d e f / 16 % 2 ≡ one e = rw q (omega (arith, one_below e)) in
      rw n (one_back e)

  pub flag6 : odd (flags_of a b c d e f / 32) ≡ f
  flag6 =
      let q : flags_of a b c d e f / 32 ≡ one f = omega (arith, one_below a, one_below b, one_below c, one_below d, one_below e) in
      let n : flags_of a b c d e f / 32 % 2 ≡ one f = rw q (omega (arith, one_below f)) in
      rw n (one_back f)

-- a number below 64 is its six bits; below 4 and below 8, its two and three
pub bits : (n : ℕ) → n < 64 → flags_of (odd n) (odd (n / 2)) (odd (n / 4)) (odd (n / 8)) (odd (n / 16)) (odd (n / 32)) ≡ n
bits n h =
    eqb→eq _ n (below (λ k. eqb (flags_of (odd k) (odd (k / 2)) (odd (k / 4)) (odd (k / 8)) (odd (k / 16)) (odd (k / 32))) k) 64 tt n h)

pub bits3 : (n : ℕ) → n < 8 → flags_of (odd n) (odd (n / 2)) (odd (n / 4)) false false false ≡ n
bits3 n h = eqb→eq _ n (below (λ k. eqb (flags_of (odd k) (odd (k / 2)) (odd (k / 4)) false false false) k) 8 tt n h)

-- ---- a form, and a verdict with it

pub verdict_small : (v : Verdict) → verdict_number v < 3
verdict_small verdict.Good = omega arith
verdict_small verdict.Crc = omega arith
verdict_small verdict.Misaligned = omega arith

pub verdict_number_lem : (k : ℕ) → k < 3 → verdict_number (verdict_of k) ≡ k
unfolding verdict_of
verdict_number_lem zero h = refl
verdict_number_lem (suc zero) h = refl
verdict_number_lem (suc (suc zero)) h = refl
verdict_number_lem (suc (suc (suc k))) h = absurd (omega arith)

pub form_below : (f : Form) → form_number f < 16
unfolding form_number
form_below f = omega (arith, one_below f.location)

pub form_back : (f : Form) → FormWide f → form_of (form_number f) ≡ f
unfolding form_number form_of
form_back f h =
    let n = 6 - f.length + 8 * one f.location in
    let k : n % 8 ≡ 6 - f.length = omega (arith, one_below f.location) in
    let l : 6 - n % 8 ≡ f.length = rw k (omega arith) in
    let d : n / 8 ≡ one f.location = omega (arith, one_below f.location) in
    let q : n / 8 % 2 ≡ one f.location = rw d (omega (arith, one_below f.location)) in
    rw (l, q, one_back f.location)

-- every number is read as a form whose addresses have at most six bytes
pub form_wide : (n : ℕ) → FormWide (form_of n)
unfolding form_of
form_wide n = omega arith

pub form_shaped_lem : (f : Form) → form_shaped (form_number f) ≡ true
unfolding form_shaped form_number
form_shaped_lem f =
    let n = 6 - f.length + 8 * one f.location in
    rw (lt-ltb n 16 (omega (arith, one_below f.location)), le-leb (n % 8) 6 (omega (arith, one_below f.location)))

implied : Bool → Bool → Bool
implied a b = cond a b true

pub form_number_lem : (n : ℕ) → form_shaped n ≡ true → form_number (form_of n) ≡ n
unfolding form_shaped form_number form_of implied
form_number_lem n e =
    let b : n < 16 = ltb-true _ _ (both (ltb n 16) (leb (n % 8) 6) e).0 in
    let x = below (λ k. implied (form_shaped k) (eqb (form_number (form_of k)) k)) 16 tt n b in
    eqb→eq _ n (rw e at x)

pub kind_below : (v : Verdict) (f : Form) → kind_of v f < 64
kind_below v f = omega (arith, verdict_small v, form_below f)

pub verdict_in_lem : (v : Verdict) (f : Form) → verdict_of (verdict_in (kind_of v f)) ≡ v
verdict_in_lem v f =
    let q : kind_of v f % 4 ≡ verdict_number v = omega (arith, verdict_small v) in
    rw q (verdict_back v)

pub form_in_lem : (v : Verdict) (f : Form) → form_in (kind_of v f) ≡ form_number f
form_in_lem v f = omega (arith, verdict_small v)

pub form_of_kind_lem : (v : Verdict) (f : Form) → FormWide f → form_of (form_in (kind_of v f)) ≡ f
form_of_kind_lem v f h = rw (form_in_lem v f) (form_back f h)

pub kind_shaped_lem : (v : Verdict) (f : Form) → kind_shaped (kind_of v f) ≡ true
unfolding kind_shaped
kind_shaped_lem v f =
    let q : kind_of v f % 4 ≡ verdict_number v = omega (arith, verdict_small v) in
    rw (q, lt-ltb (verdict_number v) 3 (verdict_small v), form_in_lem v f, form_shaped_lem f)

pub kind_number : (k : ℕ) → kind_shaped k ≡ true → kind_of (verdict_of (verdict_in k)) (form_of (form_in k)) ≡ k
unfolding kind_shaped
kind_number k e =
    let x = both (ltb (k % 4) 3) (form_shaped (k / 4)) e in
    rw (verdict_number_lem (k % 4) (ltb-true _ _ x.0), form_number_lem (k / 4) x.1) (omega arith)

-- ---- a word and its number

module _ (a f k s n : ℕ) (p : a < 65536) (q : f < 256) (r : k < 256) (t : s < 65536) where
  sum_at : (a + 65536 * f + 16777216 * k + 4294967296 * s + 281474976710656 * n) % 65536 ≡ a
  sum_at = omega arith

  sum_flags : (a + 65536 * f + 16777216 * k + 4294967296 * s + 281474976710656 * n) / 65536 % 256 ≡ f
  sum_flags =
      let d : (a + 65536 * f + 16777216 * k + 4294967296 * s + 281474976710656 * n) / 65536 ≡ f + 256 * (k + 256 * s + 16777216 * n) = omega arith in
      rw d (omega arith)

  sum_kind : (a + 65536 * f + 16777216 * k + 4294967296 * s + 281474976710656 * n) / 16777216 % 256 ≡ k
  sum_kind =
      let d : (a + 65536 * f + 16777216 * k + 4294967296 * s + 281474976710656 * n) / 16777216 ≡ k + 256 * (s + 65536 * n) = omega arith in
      rw d (omega arith)

  sum_size : (a + 65536 * f + 16777216 * k + 4294967296 * s + 281474976710656 * n) / 4294967296 % 65536 ≡ s
  sum_size =
      let d : (a + 65536 * f + 16777216 * k + 4294967296 * s + 281474976710656 * n) / 4294967296 ≡ s + 65536 * n = omega arith in
      rw d (omega arith)

  sum_next : (a + 65536 * f + 16777216 * k + 4294967296 * s + 281474976710656 * n) / 281474976710656 ≡ n
  sum_next = omega arith

module _ (w : Word) (h : WordWide w) where
  flags_wide : flag_bits w < 256
  flags_wide = omega (arith, flags_below w.first w.second w.third w.fourth w.fifth w.sixth)

  pub flags_of_lem : number_of w / 65536 % 256 ≡ flag_bits w
  unfolding number_of
  flags_of_lem = sum_flags w.at (flag_bits w) w.kind w.size w.next h.at flags_wide h.kind h.size

  pub kind_of_lem : number_of w / 16777216 % 256 ≡ w.kind
  unfolding number_of
  kind_of_lem = sum_kind w.at (flag_bits w) w.kind w.size w.next h.at flags_wide h.kind h.size

  pub number_below : number_of w < 18446744073709551616
  unfolding number_of
  number_below = omega (arith, h.at, flags_below w.first w.second w.third w.fourth w.fifth w.sixth, h.kind, h.size, h.next)

  pub word_back : word_of (number_of w) ≡ w
  unfolding word_of number_of
  word_back =
      let f = flag_bits w in
      rw (
        sum_at w.at f w.kind w.size w.next h.at flags_wide h.kind h.size,
        sum_flags w.at f w.kind w.size w.next h.at flags_wide h.kind h.size,
        sum_kind w.at f w.kind w.size w.next h.at flags_wide h.kind h.size,
        sum_size w.at f w.kind w.size w.next h.at flags_wide h.kind h.size,
        sum_next w.at f w.kind w.size w.next h.at flags_wide h.kind h.size,
        flag1 w.first w.second w.third w.fourth w.fifth w.sixth,
        flag2 w.first w.second w.third w.fourth w.fifth w.sixth,
        flag3 w.first w.second w.third w.fourth w.fifth w.sixth,
        flag4 w.first w.second w.third w.fourth w.fifth w.sixth,
        flag5 w.first w.second w.third w.fourth w.fifth w.sixth,
        flag6 w.first w.second w.third w.fourth w.fifth w.sixth,
      )

-- one digit of a number in mixed radix
digit : (s a k : ℕ) → s / (a * k) * k + s / a % k ≡ s / a
digit s a k = rw (← div-div-eq-div-mul) (div-add-mod' (s / a) k)

sum : (n a b c d o f k s : ℕ) → a * 65536 + o ≡ n → b * 256 + f ≡ a → c * 256 + k ≡ b → d * 65536 + s ≡ c
    → o + 65536 * f + 16777216 * k + 4294967296 * s + 281474976710656 * d ≡ n
sum n a b c d o f k s p q r t = omega arith

parts : (n : ℕ)
    → n % 65536 + 65536 * (n / 65536 % 256) + 16777216 * (n / 16777216 % 256) + 4294967296 * (n / 4294967296 % 65536) + 281474976710656 * (n / 281474976710656)
    ≡ n
parts n =
    sum n (n / 65536) (n / 16777216) (n / 4294967296) (n / 281474976710656) (n % 65536) (n / 65536 % 256) (n / 16777216 % 256)
    (n / 4294967296 % 65536) (div-add-mod' n 65536) (digit n 65536 256) (digit n 16777216 256) (digit n 4294967296 65536)

pub number_back : (n : ℕ) → n / 65536 % 256 < 64 → number_of (word_of n) ≡ n
unfolding number_of word_of
number_back n h = rw (bits (n / 65536 % 256) h) (parts n)

pub wide_of : (n : ℕ) → n < 18446744073709551616 → WordWide (word_of n)
unfolding word_of
wide_of n h = record { at = omega arith; kind = omega arith; size = omega arith; next = omega arith }

-- ---- the command unit

cu_ok : (t n : ℕ) → n ≤ cu_most t → n / 65536 % 256 < 16 → cu_kind t (n / 16777216 % 256) ≡ true → cu_shaped t n ≡ true
unfolding cu_shaped
cu_ok t n p q e = rw (le-leb n (cu_most t) p, lt-ltb (n / 65536 % 256) 16 q, e)

begun_flags_lem : (b : Begun) → flags_of b.interrupt b.suspend b.el b.pausing false false < 16
begun_flags_lem b = omega (arith, one_below b.el, one_below b.suspend, one_below b.interrupt, one_below b.pausing)

action_small : (a : Action) → action_number a < 8
action_small action.Nop = omega arith
action_small action.IaSetup = omega arith
action_small action.Configure = omega arith
action_small action.McSetup = omega arith
action_small action.Tdr = omega arith
action_small action.Dump = omega arith
action_small action.Diagnose = omega arith

no_transmit : (a : Action) → not (eqb (action_number a) 4) ≡ true
no_transmit action.Nop = refl
no_transmit action.IaSetup = refl
no_transmit action.Configure = refl
no_transmit action.McSetup = refl
no_transmit action.Tdr = refl
no_transmit action.Dump = refl
no_transmit action.Diagnose = refl

module _ (b : Begun) (k s n : ℕ) (h : WordWide (begun_word b k s n)) where
  begun_low : number_of (begun_word b k s n) / 65536 % 256 < 16
  begun_low = rw (flags_of_lem (begun_word b k s n) h) (begun_flags_lem b)

  begun_most_lem : number_of (begun_word b k s n) ≤ 1048575 + 16777216 * k + 4294967296 * s + 281474976710656 * n
  unfolding number_of
  begun_most_lem = omega (arith, h.at, begun_flags_lem b)

-- an offset alone
plain_most : (o : ℕ) → number_of (plain o) ≤ o
unfolding number_of
plain_most o = omega arith

plain_low : (o : ℕ) → WordWide (plain o) → number_of (plain o) / 65536 % 256 < 16
plain_low o h = rw (flags_of_lem (plain o) h) (omega arith)

pub cu_shaped_lem : (c : Cu) → WordWide (cu_word c) → cu_shaped (cu_tag c) (number_of (cu_word c)) ≡ true
unfolding cu_word cu_most cu_kind
cu_shaped_lem cu.Idle h = cu_ok 0 (number_of (plain 0)) (plain_most 0) (plain_low 0 h) refl
cu_shaped_lem (cu.Suspended o) h = cu_ok 1 (number_of (plain o.0)) (omega (arith, plain_most o.0, h.at)) (plain_low o.0 h) refl
cu_shaped_lem (cu.Waiting o) h = cu_ok 2 (number_of (plain o.0)) (omega (arith, plain_most o.0, h.at)) (plain_low o.0 h) refl
cu_shaped_lem (cu.Acting b a) h =
    cu_ok 3 (number_of (begun_word b (action_number a) 0 0)) (omega (arith, begun_most_lem b (action_number a) 0 0 h, action_small a)) (begun_low b (action_number a) 0 0 h)
    (rw (kind_of_lem (begun_word b (action_number a) 0 0) h) (no_transmit a))
cu_shaped_lem (cu.Sending b w) h =
    cu_ok 4 (number_of (begun_word b w.used w.filled w.next.0)) (omega (arith, number_below (begun_word b w.used w.filled w.next.0) h))
    (begun_low b w.used w.filled w.next.0 h) refl
cu_shaped_lem (cu.Ending b n) h =
    cu_ok 5 (number_of (begun_word b 0 n 0)) (omega (arith, begun_most_lem b 0 n 0 h, h.size)) (begun_low b 0 n 0 h) (rw (kind_of_lem (begun_word b 0 n 0) h))
cu_shaped_lem (cu.Failing b) h = cu_ok 6 (number_of (begun_word b 0 0 0)) (omega (arith, begun_most_lem b 0 0 0 h)) (begun_low b 0 0 0 h) refl

pub cu_back : (c : Cu) → cu_of (cu_tag c) (cu_word c) ≡ c
unfolding cu_of cu_word
cu_back cu.Idle = refl
cu_back (cu.Suspended o) = refl
cu_back (cu.Waiting o) = refl
cu_back (cu.Acting b a) = rw (action_back a)
cu_back (cu.Sending b w) = refl
cu_back (cu.Ending b n) = refl
cu_back (cu.Failing b) = refl

-- ---- and back

kind_tag : (t k : ℕ) → cu_kind t k ≡ true → t < 7
unfolding cu_kind
kind_tag t k e =
    ⊎_elim (λ (h : t < 7). h)
    (λ (h : 7 ≤ t). absurd (never (rw (ne_eqb t 3 (λ z. omega arith), ne_eqb t 5 (λ z. omega arith), le-ltb t 7 h) at e)))
    (below_or_not t 7)

pub action_number_lem : (k : ℕ) → k < 8 → not (eqb k 4) ≡ true → action_number (action_of k) ≡ k
unfolding action_of
action_number_lem zero h e = refl
action_number_lem (suc zero) h e = refl
action_number_lem (suc (suc zero)) h e = refl
action_number_lem (suc (suc (suc zero))) h e = refl
action_number_lem (suc (suc (suc (suc zero)))) h e = absurd (never e)
action_number_lem (suc (suc (suc (suc (suc zero))))) h e = refl
action_number_lem (suc (suc (suc (suc (suc (suc zero)))))) h e = refl
action_number_lem (suc (suc (suc (suc (suc (suc (suc zero))))))) h e = refl
action_number_lem (suc (suc (suc (suc (suc (suc (suc (suc k)))))))) h e = absurd (omega arith)

module _ (n : ℕ) where
  -- a number of two bytes is an offset alone
  only : n ≤ 65535 → plain (n % 65536) ≡ word_of n
  unfolding word_of
  only h =
      let f : n / 65536 % 256 ≡ 0 = omega arith in
      let k : n / 16777216 % 256 ≡ 0 = omega arith in
      let s : n / 4294967296 % 65536 ≡ 0 = omega arith in
      let x : n / 281474976710656 ≡ 0 = omega arith in
      rw (f, k, s, x)

cu_same_at : (t n : ℕ) → t < 7 → n ≤ cu_most t → n / 65536 % 256 < 16 → cu_kind t (n / 16777216 % 256) ≡ true
    → (cu_tag (cu_of t (word_of n)) ≡ t) × (cu_word (cu_of t (word_of n)) ≡ word_of n)
unfolding cu_most cu_kind cu_of cu_word word_of
cu_same_at zero n b p q e = (refl, let z : n ≡ 0 = omega arith in rw z)
cu_same_at (suc zero) n b p q e = (refl, only n p)
cu_same_at (suc (suc zero)) n b p q e = (refl, only n p)
cu_same_at (suc (suc (suc zero))) n b p q e =
    let f = n / 65536 % 256 in
    let y : f / 16 ≡ 0 = omega arith in
    let z : f / 32 ≡ 0 = omega arith in
    let s : n / 4294967296 % 65536 ≡ 0 = omega arith in
    let x : n / 281474976710656 ≡ 0 = omega arith in
    (refl, rw (action_number_lem (n / 16777216 % 256) (omega arith) e, y, z, s, x))
cu_same_at (suc (suc (suc (suc zero)))) n b p q e =
    let f = n / 65536 % 256 in
    let y : f / 16 ≡ 0 = omega arith in
    let z : f / 32 ≡ 0 = omega arith in
    (refl, rw (y, z))
cu_same_at (suc (suc (suc (suc (suc zero))))) n b p q e =
    let f = n / 65536 % 256 in
    let y : f / 16 ≡ 0 = omega arith in
    let z : f / 32 ≡ 0 = omega arith in
    let k : n / 16777216 % 256 ≡ 0 = eqb-true _ _ e in
    let x : n / 281474976710656 ≡ 0 = omega arith in
    (refl, rw (y, z, k, x))
cu_same_at (suc (suc (suc (suc (suc (suc zero)))))) n b p q e =
    let f = n / 65536 % 256 in
    let y : f / 16 ≡ 0 = omega arith in
    let z : f / 32 ≡ 0 = omega arith in
    let k : n / 16777216 % 256 ≡ 0 = omega arith in
    let s : n / 4294967296 % 65536 ≡ 0 = omega arith in
    let x : n / 281474976710656 ≡ 0 = omega arith in
    (refl, rw (y, z, k, s, x))
cu_same_at (suc (suc (suc (suc (suc (suc (suc t))))))) n b p q e = absurd (omega arith)

pub record Same (t n : ℕ) (tag : ℕ) (w : Word) : Type 0 where
  pub tag_same : tag ≡ t
  pub word_same : w ≡ word_of n
  pub number_same : number_of w ≡ n

pub cu_same : (t n : ℕ) → cu_shaped t n ≡ true → Same t n (cu_tag (cu_of t (word_of n))) (cu_word (cu_of t (word_of n)))
unfolding cu_shaped
cu_same t n e =
    let x = both (leb n (cu_most t) && ltb (n / 65536 % 256) 16) (cu_kind t (n / 16777216 % 256)) e in
    let y = both (leb n (cu_most t)) (ltb (n / 65536 % 256) 16) x.0 in
    let q : n / 65536 % 256 < 16 = ltb-true _ _ y.1 in
    let z = cu_same_at t n (kind_tag t (n / 16777216 % 256) x.1) (leb-true _ _ y.0) q x.1 in
    record { tag_same = z.0; word_same = z.1; number_same = rw z.1 (number_back n (omega arith)) }

-- ---- the receive unit

ru_ok : (t n rest : ℕ) → t < 8 → n ≤ ru_most t → n / 65536 % 256 < ru_flags t → kind_shaped (n / 16777216 % 256) ≡ true → rest ≤ rest_most t
    → ru_shaped t n rest ≡ true
unfolding ru_shaped
ru_ok t n rest b p q k m = rw (lt-ltb t 8 b, le-leb n (ru_most t) p, lt-ltb (n / 65536 % 256) (ru_flags t) q, k, le-leb rest (rest_most t) m)

plain_kind : (o : ℕ) → WordWide (plain o) → kind_shaped (number_of (plain o) / 16777216 % 256) ≡ true
unfolding kind_shaped form_shaped
plain_kind o h = rw (kind_of_lem (plain o) h)

storing_flags_lem : (s : Storing) (full : Bool)
    → flags_of s.pausing s.frame.short s.frame.savebad s.suspend s.el full < 32 + 32 * one full
storing_flags_lem s full =
    omega (arith, one_below s.pausing, one_below s.frame.short, one_below s.frame.savebad, one_below s.el, one_below s.suspend)

module _ (s : Storing) (n : ℕ) (full : Bool) (h : WordWide (storing_word s n full)) where
  storing_low : number_of (storing_word s n full) / 65536 % 256 < 32 + 32 * one full
  storing_low = rw (flags_of_lem (storing_word s n full) h) (storing_flags_lem s full)

  storing_kind : kind_shaped (number_of (storing_word s n full) / 16777216 % 256) ≡ true
  storing_kind = rw (kind_of_lem (storing_word s n full) h) (kind_shaped_lem s.frame.verdict s.frame.form)

-- nothing in the two highest bytes
without_next : (w : Word) → WordWide w → w.next ≡ 0 → number_of w ≤ 281474976710655
unfolding number_of
without_next w h e = omega (arith, h.at, flags_below w.first w.second w.third w.fourth w.fifth w.sixth, h.kind, h.size)

pub ru_shaped_lem : (u : Ru) → WordWide (ru_word u) → ru_rest u < 16777216 → ru_shaped (ru_tag u) (number_of (ru_word u)) (ru_rest u) ≡ true
unfolding ru_word ru_rest ru_most ru_flags rest_most
ru_shaped_lem ru.Idle h m = ru_ok 0 (number_of (plain 0)) 0 (omega arith) (plain_most 0) (omega (arith, plain_low 0 h)) (plain_kind 0 h) (omega arith)
ru_shaped_lem ru.NoResources h m = ru_ok 2 (number_of (plain 0)) 0 (omega arith) (plain_most 0) (omega (arith, plain_low 0 h)) (plain_kind 0 h) (omega arith)
ru_shaped_lem (ru.Suspended o) h m =
    ru_ok 1 (number_of (plain o.0)) 0 (omega arith) (omega (arith, plain_most o.0, h.at)) (omega (arith, plain_low o.0 h)) (plain_kind o.0 h) (omega arith)
ru_shaped_lem (ru.Ready o) h m =
    ru_ok 3 (number_of (plain o.0)) 0 (omega arith) (omega (arith, plain_most o.0, h.at)) (omega (arith, plain_low o.0 h)) (plain_kind o.0 h) (omega arith)
ru_shaped_lem (ru.Held o f p) h m =
    ru_ok 4 (number_of (frame_word o f p)) 0 (omega arith) (without_next (frame_word o f p) h refl)
    (rw (flags_of_lem (frame_word o f p) h) (omega (arith, one_below p, one_below f.short, one_below f.savebad)))
    (rw (kind_of_lem (frame_word o f p) h) (kind_shaped_lem f.verdict f.form)) (omega arith)
ru_shaped_lem (ru.Filling s w) h m =
    ru_ok 5 (number_of (storing_word s w.next.0 false)) (filled_number w) (omega arith) (omega (arith, number_below (storing_word s w.next.0 false) h))
    (storing_low s w.next.0 false h) (storing_kind s w.next.0 false h) (omega arith)
ru_shaped_lem (ru.Closing s o full) h m =
    ru_ok 6 (number_of (storing_word s o.0 full)) 0 (omega arith) (omega (arith, number_below (storing_word s o.0 full) h))
    (omega (arith, storing_low s o.0 full h, one_below full)) (storing_kind s o.0 full h) (omega arith)
ru_shaped_lem (ru.Lacking s) h m =
    ru_ok 7 (number_of (storing_word s 0 false)) 0 (omega arith) (without_next (storing_word s 0 false) h refl) (storing_low s 0 false h) (storing_kind s 0 false h) (omega arith)

pub rest_below : (u : Ru) → HoldingWide u → ru_rest u < 16777216
unfolding ru_rest
rest_below ru.Idle h = omega arith
rest_below ru.NoResources h = omega arith
rest_below (ru.Suspended o) h = omega arith
rest_below (ru.Ready o) h = omega arith
rest_below (ru.Held o f p) h = omega arith
rest_below (ru.Filling s w) h = omega arith
rest_below (ru.Closing s o full) h = omega arith
rest_below (ru.Lacking s) h = omega arith

pub ru_back : (u : Ru) → HoldingWide u → ru_of (ru_tag u) (ru_word u) (ru_rest u) ≡ u
unfolding ru_of ru_word ru_rest
ru_back ru.Idle h = refl
ru_back ru.NoResources h = refl
ru_back (ru.Suspended o) h = refl
ru_back (ru.Ready o) h = refl
ru_back (ru.Held o f p) h = rw (verdict_in_lem f.verdict f.form, form_of_kind_lem f.verdict f.form h)
ru_back (ru.Filling s w) h =
    let d : (w.filled + 65536 * w.used) / 65536 % 256 ≡ w.used = omega (arith, h.1, h.2) in
    let e : (w.filled + 65536 * w.used) % 65536 ≡ w.filled = omega (arith, h.1) in
    rw (verdict_in_lem s.frame.verdict s.frame.form, form_of_kind_lem s.frame.verdict s.frame.form h.0, d, e)
ru_back (ru.Closing s o full) h = rw (verdict_in_lem s.frame.verdict s.frame.form, form_of_kind_lem s.frame.verdict s.frame.form h)
ru_back (ru.Lacking s) h = rw (verdict_in_lem s.frame.verdict s.frame.form, form_of_kind_lem s.frame.verdict s.frame.form h)

-- ---- and back

pub record RuSame (t n rest : ℕ) (u : Ru) : Type 0 where
  pub tag_same : ru_tag u ≡ t
  pub word_same : ru_word u ≡ word_of n
  pub rest_same : ru_rest u ≡ rest

ru_same_at : (t n rest : ℕ) → t < 8 → n ≤ ru_most t → n / 65536 % 256 < ru_flags t → kind_shaped (n / 16777216 % 256) ≡ true → rest ≤ rest_most t
    → RuSame t n rest (ru_of t (word_of n) rest)
unfolding ru_most ru_flags rest_most ru_of ru_word ru_rest word_of
ru_same_at zero n rest b p q k m = record { tag_same = refl; word_same = let z : n ≡ 0 = omega arith in rw z; rest_same = omega arith }
ru_same_at (suc zero) n rest b p q k m = record { tag_same = refl; word_same = only n p; rest_same = omega arith }
ru_same_at (suc (suc zero)) n rest b p q k m = record { tag_same = refl; word_same = let z : n ≡ 0 = omega arith in rw z; rest_same = omega arith }
ru_same_at (suc (suc (suc zero))) n rest b p q k m = record { tag_same = refl; word_same = only n p; rest_same = omega arith }
ru_same_at (suc (suc (suc (suc zero)))) n rest b p q k m =
    let f = n / 65536 % 256 in
    let x : f / 8 ≡ 0 = omega arith in
    let y : f / 16 ≡ 0 = omega arith in
    let z : f / 32 ≡ 0 = omega arith in
    let e : n / 281474976710656 ≡ 0 = omega arith in
    record { tag_same = refl; word_same = rw (kind_number (n / 16777216 % 256) k, x, y, z, e); rest_same = omega arith }
ru_same_at (suc (suc (suc (suc (suc zero))))) n rest b p q k m =
    let f = n / 65536 % 256 in
    let z : f / 32 ≡ 0 = omega arith in
    record { tag_same = refl; word_same = rw (kind_number (n / 16777216 % 256) k, z); rest_same = omega arith }
ru_same_at (suc (suc (suc (suc (suc (suc zero)))))) n rest b p q k m =
    record { tag_same = refl; word_same = rw (kind_number (n / 16777216 % 256) k); rest_same = omega arith }
ru_same_at (suc (suc (suc (suc (suc (suc (suc zero))))))) n rest b p q k m =
    let f = n / 65536 % 256 in
    let z : f / 32 ≡ 0 = omega arith in
    let e : n / 281474976710656 ≡ 0 = omega arith in
    record { tag_same = refl; word_same = rw (kind_number (n / 16777216 % 256) k, z, e); rest_same = omega arith }
ru_same_at (suc (suc (suc (suc (suc (suc (suc (suc t)))))))) n rest b p q k m = absurd (omega arith)

picked : (a b : Bool) → cond a 8 (cond b 64 32) ≤ 64
picked true b = omega arith
picked false true = omega arith
picked false false = omega arith

flags_most : (t : ℕ) → ru_flags t ≤ 64
unfolding ru_flags
flags_most t = picked (eqb t 4) (eqb t 6)

pub ru_same : (t n rest : ℕ) → ru_shaped t n rest ≡ true → RuSame t n rest (ru_of t (word_of n) rest) × (number_of (ru_word (ru_of t (word_of n) rest)) ≡ n)
unfolding ru_shaped
ru_same t n rest e =
    let x = both _ (leb rest (rest_most t)) e in
    let y = both _ (kind_shaped (n / 16777216 % 256)) x.0 in
    let z = both _ (ltb (n / 65536 % 256) (ru_flags t)) y.0 in
    let w = both (ltb t 8) (leb n (ru_most t)) z.0 in
    let q : n / 65536 % 256 < ru_flags t = ltb-true _ _ z.1 in
    let s = ru_same_at t n rest (ltb-true _ _ w.0) (leb-true _ _ w.1) q y.1 (leb-true _ _ x.1) in
    (s, rw s.word_same (number_back n (omega (arith, flags_most t))))
