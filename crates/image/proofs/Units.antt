-- The tests that the code makes of a unit's numbers are the shape and the range of the unit. Assumes nothing.
use mathlib.Core.Path.{◌≡◌, refl, sym, ap, ◌∙◌}
use mathlib.Core.Bool.{Bool, true, false, not, cond, ◌&&◌, ◌||◌}
use mathlib.Core.Logic.{◌⊎◌, inl, inr}
use Prim.Native.Nat.{ℕ, zero, suc, ◌/◌, ◌%◌, ◌≤◌, ◌<◌}
use native.Mathlib.Omega.{arith}
use borrow.Author.Tests.{eqb-true, ltb-true, leb-true, lt-ltb, le-leb, lt-leb, le-ltb, ne_eqb, eq-eqb}
use lib.Bits.{bit_or}
use lib.Dec.{eqb, leb, ltb}
use Rattle.memory.proofs.Laws.{below_or_not}
use Rattle.device.specs.Header.{header}
use Rattle.device.specs.Numbers.{verdict_of}
use Rattle.device.specs.State.{good_by}
use Rattle.phases.specs.Fields.{flags_in, kind_in, size_in, filled_in, above_filled, used_in}
use Rattle.phases.specs.Forms.{verdict_in, form_in, form_of, form_shaped, kind_shaped}
use Rattle.phases.specs.Phases.{word_of, cu_of, cu_most, cu_kind, cu_shaped, frame_of, ru_of, ru_most, ru_flags, rest_most, ru_shaped}
use Rattle.phases.proofs.Units.{both, form_wide}
use Rattle.numerals.proofs.Laws.{or_zero}
use Rattle.image.specs.Ranges.{cu_fits, ru_fits, frame_fits}
use Rattle.image.specs.Numbers.{unbuffered_in, form_of_kind, has_data_in, sized_in, has_next_in, acting_is, sending_is, ending_is, begun_is, frame_is, held_is, filling_is, closing_is, lacking_is, holding_is, cu_is, ru_is}

-- ---- tests

-- two tests that hold in the same cases are the same
pub same : (a b : Bool) → (a ≡ true → b ≡ true) → (b ≡ true → a ≡ true) → a ≡ b
same true b p q = sym (p refl)
same false true p q = q refl
same false false p q = refl

and_true : (a : Bool) → (a && true) ≡ a
and_true true = refl
and_true false = refl

and_false : (a : Bool) → (a && false) ≡ false
and_false true = refl
and_false false = refl

and_and : (a b c : Bool) → ((a && b) && c) ≡ (a && (b && c))
and_and true b c = refl
and_and false b c = refl

-- a test that another one implies
implied : (a b : Bool) → (a ≡ true → b ≡ true) → (a && b) ≡ a
implied true b h = h refl
implied false b h = refl

or_swap : (a b : Bool) → (a || b) ≡ (b || a)
or_swap true true = refl
or_swap true false = refl
or_swap false true = refl
or_swap false false = refl

-- ---- the command unit

-- by the number f of the form in force
module _ (f n : ℕ) where
  low_flags : (m : ℕ) → m ≤ 0xFFFFF → leb n m ≡ true → ltb (flags_in n) 16 ≡ true
  low_flags m h e = let p : n ≤ m = leb-true _ _ e in lt-ltb (flags_in n) 16 (omega arith)

  cu_none : leb n 0 ≡ cu_is f 0 n
  unfolding cu_is cu_shaped cu_most cu_kind cu_fits cu_of
  cu_none = sym (and_true _ ∙ and_true _ ∙ implied (leb n 0) (ltb (flags_in n) 16) (low_flags 0 (omega arith)))

  cu_suspended : leb n 0xFFFF ≡ cu_is f 1 n
  unfolding cu_is cu_shaped cu_most cu_kind cu_fits cu_of
  cu_suspended = sym (and_true _ ∙ and_true _ ∙ implied (leb n 0xFFFF) (ltb (flags_in n) 16) (low_flags 0xFFFF (omega arith)))

  cu_waiting : leb n 0xFFFF ≡ cu_is f 2 n
  unfolding cu_is cu_shaped cu_most cu_kind cu_fits cu_of
  cu_waiting = sym (and_true _ ∙ and_true _ ∙ implied (leb n 0xFFFF) (ltb (flags_in n) 16) (low_flags 0xFFFF (omega arith)))

  cu_acting : acting_is n ≡ cu_is f 3 n
  unfolding acting_is cu_is cu_shaped cu_most cu_kind cu_fits cu_of
  cu_acting = sym (and_true _)

  cu_sending : n < 18446744073709551616 → sending_is f n ≡ cu_is f 4 n
  unfolding sending_is cu_is cu_shaped cu_most cu_kind cu_fits cu_of word_of
  cu_sending h =
      rw (le-leb n 0xFFFFFFFFFFFFFFFF (omega arith))
      (and_and (ltb (flags_in n) 16) (has_next_in n (kind_in n)) (sized_in (unbuffered_in f) n)
      ∙ ap (λ (x : Bool). x && (has_next_in n (kind_in n) && sized_in (unbuffered_in f) n)) (sym (and_true (ltb (flags_in n) 16))))

  cu_ending : ending_is f n ≡ cu_is f 5 n
  unfolding ending_is cu_is cu_shaped cu_most cu_kind cu_fits cu_of word_of
  cu_ending = refl

  cu_failing : leb n 0xFFFFF ≡ cu_is f 6 n
  unfolding cu_is cu_shaped cu_most cu_kind cu_fits cu_of
  cu_failing = sym (and_true _ ∙ and_true _ ∙ implied (leb n 0xFFFFF) (ltb (flags_in n) 16) (low_flags 0xFFFFF (omega arith)))

  cu_beyond : (t : ℕ) → 7 ≤ t → false ≡ cu_is f t n
  unfolding cu_is cu_shaped cu_kind
  cu_beyond t h =
      let k : cu_kind t (kind_in n) ≡ false = rw (ne_eqb t 3 (λ e. omega arith), ne_eqb t 5 (λ e. omega arith), le-ltb t 7 h) in
      rw (k, and_false (leb n (cu_most t) && ltb (flags_in n) 16))

pub cu_low : (f t n : ℕ) → t < 3 → leb n (cond (eqb t 0) 0 0xFFFF) ≡ cu_is f t n
cu_low f zero n h = cu_none f n
cu_low f (suc zero) n h = cu_suspended f n
cu_low f (suc (suc zero)) n h = cu_waiting f n
cu_low f (suc (suc (suc t))) n h = absurd (omega arith)

pub cu_begun : (f t n : ℕ) → n < 18446744073709551616 → 3 ≤ t → begun_is f t n ≡ cu_is f t n
unfolding begun_is
cu_begun f zero n h g = absurd (omega arith)
cu_begun f (suc zero) n h g = absurd (omega arith)
cu_begun f (suc (suc zero)) n h g = absurd (omega arith)
cu_begun f (suc (suc (suc zero))) n h g = cu_acting f n
cu_begun f (suc (suc (suc (suc zero)))) n h g = cu_sending f n h
cu_begun f (suc (suc (suc (suc (suc zero))))) n h g = cu_ending f n
cu_begun f (suc (suc (suc (suc (suc (suc zero)))))) n h g = cu_failing f n
cu_begun f (suc (suc (suc (suc (suc (suc (suc t))))))) n h g =
    let s = suc (suc (suc (suc (suc (suc (suc t)))))) in
    rw (ne_eqb s 3 (λ e. omega arith), ne_eqb s 4 (λ e. omega arith), ne_eqb s 5 (λ e. omega arith), ne_eqb s 6 (λ e. omega arith))
    (cu_beyond f n s (omega arith))

-- ---- the receive unit

-- what the tests say of its numbers
record RuFacts (t n rest : ℕ) : Type 0 where
  tag : t < 8
  most : n ≤ ru_most t
  flags : flags_in n < ru_flags t
  kind : kind_shaped (kind_in n) ≡ true
  second : rest ≤ rest_most t
  fits : ru_fits (ru_of t (word_of n) rest) ≡ true

module _ (t n rest : ℕ) where
  ru_facts : ru_is t n rest ≡ true → RuFacts t n rest
  unfolding ru_is ru_shaped
  ru_facts e =
      let v = both _ (ru_fits (ru_of t (word_of n) rest)) e in
      let x = both _ (leb rest (rest_most t)) v.0 in
      let y = both _ (kind_shaped (kind_in n)) x.0 in
      let z = both _ (ltb (flags_in n) (ru_flags t)) y.0 in
      let w = both (ltb t 8) (leb n (ru_most t)) z.0 in
      record {
        tag = ltb-true _ _ w.0;
        most = leb-true _ _ w.1;
        flags = ltb-true _ _ z.1;
        kind = y.1;
        second = leb-true _ _ x.1;
        fits = v.1;
      }

  ru_true : RuFacts t n rest → ru_is t n rest ≡ true
  unfolding ru_is ru_shaped
  ru_true f =
      rw (
        lt-ltb t 8 f.tag,
        le-leb n (ru_most t) f.most,
        lt-ltb (flags_in n) (ru_flags t) f.flags,
        f.kind,
        le-leb rest (rest_most t) f.second,
        f.fits,
      )

kind_none : kind_shaped 0 ≡ true
unfolding kind_shaped form_shaped
kind_none = refl

-- an offset alone, or nothing
ru_plain : (t n rest most : ℕ) → t < 8 → most ≤ 0xFFFF → ru_most t ≡ most → ru_flags t ≡ 32 → rest_most t ≡ 0 → ru_fits (ru_of t (word_of n) rest) ≡ true
    → (leb n most && eqb rest 0) ≡ ru_is t n rest
ru_plain t n rest most b m p q k fits =
    same (leb n most && eqb rest 0) (ru_is t n rest)
    (λ e.
    let x = both (leb n most) (eqb rest 0) e in
    let y : n ≤ most = leb-true _ _ x.0 in
    let z : rest ≡ 0 = eqb-true _ _ x.1 in
    let i : kind_in n ≡ 0 = omega arith in
    ru_true t n rest (record { tag = b; most = omega arith; flags = omega arith; kind = rw i kind_none; second = omega arith; fits = fits }))
    (λ e. let f = ru_facts t n rest e in rw (le-leb n most (omega (arith, f.most)), eq-eqb rest 0 (omega (arith, f.second))))

ru_low : (t n rest : ℕ) → t < 4 → (leb n (cond (eqb (t % 2) 0) 0 0xFFFF) && eqb rest 0) ≡ ru_is t n rest
unfolding ru_most ru_flags rest_most ru_fits ru_of
ru_low zero n rest h = ru_plain 0 n rest 0 (omega arith) (omega arith) refl refl refl refl
ru_low (suc zero) n rest h = ru_plain 1 n rest 0xFFFF (omega arith) (omega arith) refl refl refl refl
ru_low (suc (suc zero)) n rest h = ru_plain 2 n rest 0 (omega arith) (omega arith) refl refl refl refl
ru_low (suc (suc (suc zero))) n rest h = ru_plain 3 n rest 0xFFFF (omega arith) (omega arith) refl refl refl refl
ru_low (suc (suc (suc (suc t)))) n rest h = absurd (omega arith)

-- an offset alone, or nothing: no other bit is set
low_word : (n : ℕ) → (n < 65536) ⊎ (65536 ≤ n) → eqb (n / 65536) 0 ≡ leb n 0xFFFF
low_word n (inl h) = eq-eqb (n / 65536) 0 (omega (arith, h)) ∙ sym (le-leb n 0xFFFF (omega (arith, h)))
low_word n (inr h) = ne_eqb (n / 65536) 0 (λ z. omega (arith, h, z)) ∙ sym (lt-leb n 0xFFFF (omega (arith, h)))

low_none : (n : ℕ) → eqb n 0 ≡ leb n 0
low_none zero = refl
low_none (suc n) = ne_eqb (suc n) 0 (λ z. omega (arith, z)) ∙ sym (lt-leb (suc n) 0 (omega arith))

pub ru_offset : (t n rest : ℕ) → t < 4 → t % 2 ≡ 1 → eqb (bit_or (n / 65536) rest) 0 ≡ ru_is t n rest
ru_offset t n rest h e = or_zero (n / 65536) rest ∙ ap (λ (x : Bool). x && eqb rest 0) (low_word n (below_or_not n 65536)) ∙ rw e at (ru_low t n rest h)

pub ru_none : (t n rest : ℕ) → t < 4 → t % 2 ≡ 0 → eqb (bit_or n rest) 0 ≡ ru_is t n rest
ru_none t n rest h e = or_zero n rest ∙ ap (λ (x : Bool). x && eqb rest 0) (low_none n) ∙ rw e at (ru_low t n rest h)

good : (short : Bool) (k : ℕ) → k < 3 → good_by short (verdict_of k) ≡ (not short && eqb k 0)
unfolding verdict_of
good true k h = refl
good false zero h = refl
good false (suc zero) h = refl
good false (suc (suc zero)) h = refl
good false (suc (suc (suc k))) h = absurd (omega arith)

-- a number that is one of a verdict and a form
shaped_verdict : (k : ℕ) → kind_shaped k ≡ true → verdict_in k < 3
unfolding kind_shaped
shaped_verdict k e = ltb-true _ _ (both (ltb (verdict_in k) 3) (form_shaped (form_in k)) e).0

module _ (n most : ℕ) where
  saved : Bool
  saved = (frame_of (word_of n)).savebad || (not (frame_of (word_of n)).short && eqb (verdict_in (kind_in n)) 0)

  least : ℕ
  least = header (form_of (form_of_kind n)).length

  frame_same : kind_shaped (kind_in n) ≡ true → (sized_in least n && saved) ≡ frame_fits (frame_of (word_of n))
  unfolding saved least frame_fits word_of
  frame_same h =
      let k = verdict_in (kind_in n) in
      rw (
        le-leb (form_of (form_of_kind n)).length 6 (form_wide (form_of_kind n)),
        good (frame_of (word_of n)).short k (shaped_verdict (kind_in n) h),
        or_swap (not (frame_of (word_of n)).short && eqb k 0) (frame_of (word_of n)).savebad,
      )

  frame_facts : frame_is n most ≡ true → (flags_in n < most) × (kind_shaped (kind_in n) ≡ true) × (frame_fits (frame_of (word_of n)) ≡ true)
  unfolding frame_is saved least
  frame_facts e =
      let x = both _ saved e in
      let y = both _ (sized_in least n) x.0 in
      let z = both (ltb (flags_in n) most) (kind_shaped (kind_in n)) y.0 in
      (ltb-true _ _ z.0, z.1, sym (frame_same z.1) ∙ rw (y.1, x.1))

  frame_true : flags_in n < most → kind_shaped (kind_in n) ≡ true → frame_fits (frame_of (word_of n)) ≡ true → frame_is n most ≡ true
  unfolding frame_is saved least
  frame_true p k e =
      let x = both (sized_in least n) saved (frame_same k ∙ e) in
      rw (lt-ltb (flags_in n) most p, k, x.0, x.1)

module _ (n rest : ℕ) (h : n < 18446744073709551616) where
  held_same : held_is n rest ≡ ru_is 4 n rest
  unfolding held_is ru_most ru_flags rest_most ru_fits ru_of
  held_same =
      same (held_is n rest) (ru_is 4 n rest)
      (λ e.
      let x = both _ (frame_is n 8) e in
      let y = both (leb n 0xFFFFFFFFFFFF) (eqb rest 0) x.0 in
      let f = frame_facts n 8 x.1 in
      let z : rest ≡ 0 = eqb-true _ _ y.1 in
      ru_true 4 n rest (record { tag = omega arith; most = leb-true _ _ y.0; flags = f.0; kind = f.1; second = omega arith; fits = f.2 }))
      (λ e.
      let f = ru_facts 4 n rest e in
      rw (le-leb n 0xFFFFFFFFFFFF f.most, eq-eqb rest 0 (omega (arith, f.second)), frame_true n 8 f.flags f.kind f.fits))

  filling_same : filling_is n rest ≡ ru_is 5 n rest
  unfolding filling_is ru_most ru_flags rest_most ru_fits ru_of word_of
  filling_same =
      same (filling_is n rest) (ru_is 5 n rest)
      (λ e.
      let v = both _ (ltb (filled_in rest) (size_in n)) e in
      let w = both _ (leb (unbuffered_in (form_of_kind n)) (filled_in rest)) v.0 in
      let x = both _ (has_next_in n (above_filled rest)) w.0 in
      let y = both (leb rest 0xFFFFFF) (frame_is n 32) x.0 in
      let f = frame_facts n 32 y.1 in
      let m : rest ≤ 0xFFFFFF = leb-true _ _ y.0 in
      let u : used_in rest ≡ above_filled rest = omega arith in
      ru_true 5 n rest
      (record { tag = omega arith; most = omega arith; flags = f.0; kind = f.1; second = m; fits = rw (f.2, u, x.1, w.1, v.1) }))
      (λ e.
      let f = ru_facts 5 n rest e in
      let m : rest ≤ 0xFFFFFF = f.second in
      let u : used_in rest ≡ above_filled rest = omega arith in
      let v = both _ (ltb (filled_in rest) (size_in n)) f.fits in
      let w = both _ (leb (unbuffered_in (form_of_kind n)) (filled_in rest)) v.0 in
      let x = both (frame_fits (frame_of (word_of n))) (has_next_in n (used_in rest)) w.0 in
      let g : has_next_in n (above_filled rest) ≡ true = rw (← u) x.1 in
      rw (le-leb rest 0xFFFFFF m, frame_true n 32 f.flags f.kind x.0, g, w.1, v.1))

  closing_same : closing_is n rest ≡ ru_is 6 n rest
  unfolding closing_is ru_most ru_flags rest_most ru_fits ru_of word_of
  closing_same =
      same (closing_is n rest) (ru_is 6 n rest)
      (λ e.
      let x = both _ (has_data_in n || not (word_of n).sixth) e in
      let y = both (eqb rest 0) (frame_is n 64) x.0 in
      let f = frame_facts n 64 y.1 in
      let z : rest ≡ 0 = eqb-true _ _ y.0 in
      ru_true 6 n rest
      (record { tag = omega arith; most = omega arith; flags = f.0; kind = f.1; second = omega arith; fits = rw (f.2, x.1) }))
      (λ e.
      let f = ru_facts 6 n rest e in
      let x = both (frame_fits (frame_of (word_of n))) (has_data_in n || not (word_of n).sixth) f.fits in
      rw (eq-eqb rest 0 (omega (arith, f.second)), frame_true n 64 f.flags f.kind x.0, x.1))

  lacking_same : lacking_is n rest ≡ ru_is 7 n rest
  unfolding lacking_is ru_most ru_flags rest_most ru_fits ru_of word_of
  lacking_same =
      same (lacking_is n rest) (ru_is 7 n rest)
      (λ e.
      let x = both _ (has_data_in n) e in
      let y = both _ (frame_is n 32) x.0 in
      let w = both (leb n 0xFFFFFFFFFFFF) (eqb rest 0) y.0 in
      let f = frame_facts n 32 y.1 in
      let z : rest ≡ 0 = eqb-true _ _ w.1 in
      ru_true 7 n rest
      (record { tag = omega arith; most = leb-true _ _ w.0; flags = f.0; kind = f.1; second = omega arith; fits = rw (f.2, x.1) }))
      (λ e.
      let f = ru_facts 7 n rest e in
      let x = both (frame_fits (frame_of (word_of n))) (has_data_in n) f.fits in
      rw (le-leb n 0xFFFFFFFFFFFF f.most, eq-eqb rest 0 (omega (arith, f.second)), frame_true n 32 f.flags f.kind x.0, x.1))

  ru_beyond : (t : ℕ) → 8 ≤ t → false ≡ ru_is t n rest
  unfolding ru_is ru_shaped
  ru_beyond t g = rw (le-ltb t 8 g)

pub ru_holding : (t n rest : ℕ) → n < 18446744073709551616 → 4 ≤ t → holding_is t n rest ≡ ru_is t n rest
unfolding holding_is
ru_holding zero n rest h g = absurd (omega arith)
ru_holding (suc zero) n rest h g = absurd (omega arith)
ru_holding (suc (suc zero)) n rest h g = absurd (omega arith)
ru_holding (suc (suc (suc zero))) n rest h g = absurd (omega arith)
ru_holding (suc (suc (suc (suc zero)))) n rest h g = held_same n rest h
ru_holding (suc (suc (suc (suc (suc zero))))) n rest h g = filling_same n rest h
ru_holding (suc (suc (suc (suc (suc (suc zero)))))) n rest h g = closing_same n rest h
ru_holding (suc (suc (suc (suc (suc (suc (suc zero))))))) n rest h g = lacking_same n rest h
ru_holding (suc (suc (suc (suc (suc (suc (suc (suc t)))))))) n rest h g =
    let s = suc (suc (suc (suc (suc (suc (suc (suc t))))))) in
    rw (ne_eqb s 4 (λ e. omega arith), ne_eqb s 5 (λ e. omega arith), ne_eqb s 6 (λ e. omega arith), ne_eqb s 7 (λ e. omega arith))
    (ru_beyond n rest h s (omega arith))
