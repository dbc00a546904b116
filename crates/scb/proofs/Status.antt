-- What is read of a status word: each field is what was put there, each event stands in its own bit, and all else is zero;
-- and the interrupt is high exactly when bits 15-12 are not all zero. Instances of the laws of Fields. Assumes nothing.
use mathlib.Core.Path.{◌≡◌, ◌∙◌, refl, sym, ap}
use mathlib.Core.Bool.{Bool, true, false, not, ◌||◌}
use Prim.Native.Nat.{ℕ, ◌+◌, ◌*◌, ◌^◌, ◌<◌, ◌≤◌}
use native.Mathlib.Nat.{lt_trans}
use native.Mathlib.Omega.{arith}
use borrow.Author.Tests.{ne_eqb, eqb-true, not-false}
use lib.Dec.{eqb, lit<, lit≤}
use Rattle.scb.specs.declared.CuState.{CuState}
use Rattle.scb.specs.declared.Events.{Events}
use Rattle.scb.specs.declared.RuState.{RuState}
use Rattle.scb.specs.Words.{bits_at, joined, bit, one, any_of, event_bits, cu_number, ru_number, status_word}
use Rattle.scb.proofs.Fields.{joined_below, bits_past, bits_whole, bits_above, bits_of_joined, bits_kept}
use Rattle.scb.proofs.Tables.{cu_below, ru_below}

-- ---- the parts, and what they stay below

one_below : (b : Bool) → one b < 2 ^ 1
one_below true = lit< tt
one_below false = lit< tt

abbrev two : Events → ℕ
two e = joined (one e.rnr) 1 (one e.cna)

abbrev three : Events → ℕ
three e = joined (two e) 2 (one e.fr)

two_below : (e : Events) → two e < 2 ^ 2
two_below e = joined_below (one e.rnr) 1 (one e.cna) 1 (one_below e.rnr) (one_below e.cna)

three_below : (e : Events) → three e < 2 ^ 3
three_below e = joined_below (two e) 2 (one e.fr) 1 (two_below e) (one_below e.fr)

pub events_below : (e : Events) → event_bits e < 16
unfolding event_bits
events_below e = joined_below (three e) 3 (one e.cx) 1 (three_below e) (one_below e.cx)

cus_below : (c : CuState) → cu_number c < 2 ^ 3
cus_below c = lt_trans (cu_below c) (lit< tt)

rus_below : (r : RuState) → ru_number r < 2 ^ 3
rus_below r = lt_trans (ru_below r) (lit< tt)

abbrev low : RuState → ℕ
low r = joined 0 4 (ru_number r)

abbrev states : CuState → RuState → ℕ
states c r = joined (low r) 8 (cu_number c)

low_below : (r : RuState) → low r < 2 ^ 8
low_below r = lt_trans (joined_below 0 4 (ru_number r) 3 (lit< tt) (rus_below r)) (lit< tt)

states_below : (c : CuState) (r : RuState) → states c r < 2 ^ 12
states_below c r = lt_trans (joined_below (low r) 8 (cu_number c) 3 (low_below r) (cus_below c)) (lit< tt)

-- ---- the events in their number

one_back : (b : Bool) → eqb (one b) 1 ≡ b
one_back true = refl
one_back false = refl

module _ (e : Events) where
  -- below CX, and below FR
  under_cx : (k : ℕ) → 1 + k ≤ 3 → bits_at (event_bits e) k 1 ≡ bits_at (three e) k 1
  unfolding event_bits
  under_cx k h = bits_kept (three e) 3 (one e.cx) k 1 h

  under_fr : (k : ℕ) → 1 + k ≤ 2 → bits_at (event_bits e) k 1 ≡ bits_at (two e) k 1
  under_fr k h = under_cx k (omega arith) ∙ bits_kept (two e) 2 (one e.fr) k 1 h

  bits_cx : bits_at (event_bits e) 3 1 ≡ one e.cx
  unfolding event_bits
  bits_cx = bits_of_joined (three e) 3 (one e.cx) 1 (three_below e) (one_below e.cx)

  bits_fr : bits_at (event_bits e) 2 1 ≡ one e.fr
  bits_fr = under_cx 2 (lit≤ tt) ∙ bits_of_joined (two e) 2 (one e.fr) 1 (two_below e) (one_below e.fr)

  bits_cna : bits_at (event_bits e) 1 1 ≡ one e.cna
  bits_cna = under_fr 1 (lit≤ tt) ∙ bits_of_joined (one e.rnr) 1 (one e.cna) 1 (one_below e.rnr) (one_below e.cna)

  bits_rnr : bits_at (event_bits e) 0 1 ≡ one e.rnr
  bits_rnr = under_fr 0 (lit≤ tt) ∙ bits_kept (one e.rnr) 1 (one e.cna) 0 1 (lit≤ tt) ∙ bits_whole (one e.rnr) 1 (one_below e.rnr)

-- ---- the status word

module _ (e : Events) (c : CuState) (r : RuState) where
  pub status_below : status_word e c r < 65536
  unfolding status_word
  status_below = joined_below (states c r) 12 (event_bits e) 4 (states_below c r) (events_below e)

  -- from bit 12 on, the events; below it the states, and below bit 8 RUS alone
  upper : (k : ℕ) → bits_at (status_word e c r) (12 + k) 1 ≡ bits_at (event_bits e) k 1
  unfolding status_word
  upper k = bits_above (states c r) 12 (event_bits e) k 1 (states_below c r)

  lower : (k bits : ℕ) → bits + k ≤ 12 → bits_at (status_word e c r) k bits ≡ bits_at (states c r) k bits
  unfolding status_word
  lower k bits h = bits_kept (states c r) 12 (event_bits e) k bits h

  lowest : (k bits : ℕ) → bits + k ≤ 8 → bits_at (status_word e c r) k bits ≡ bits_at (low r) k bits
  lowest k bits h = lower k bits (omega arith) ∙ bits_kept (low r) 8 (cu_number c) k bits h

  -- its fields
  pub status_events : bits_at (status_word e c r) 12 4 ≡ event_bits e
  unfolding status_word
  status_events = bits_of_joined (states c r) 12 (event_bits e) 4 (states_below c r) (events_below e)

  pub status_cus : bits_at (status_word e c r) 8 3 ≡ cu_number c
  status_cus = lower 8 3 (lit≤ tt) ∙ bits_of_joined (low r) 8 (cu_number c) 3 (low_below r) (cus_below c)

  pub status_rus : bits_at (status_word e c r) 4 3 ≡ ru_number r
  status_rus = lowest 4 3 (lit≤ tt) ∙ bits_of_joined 0 4 (ru_number r) 3 (lit< tt) (rus_below r)

  -- its events, each in its bit
  pub status_cx : bit (status_word e c r) 15 ≡ e.cx
  status_cx = rw (upper 3, bits_cx e) (one_back e.cx)

  pub status_fr : bit (status_word e c r) 14 ≡ e.fr
  status_fr = rw (upper 2, bits_fr e) (one_back e.fr)

  pub status_cna : bit (status_word e c r) 13 ≡ e.cna
  status_cna = rw (upper 1, bits_cna e) (one_back e.cna)

  pub status_rnr : bit (status_word e c r) 12 ≡ e.rnr
  status_rnr = rw (upper 0, bits_rnr e) (one_back e.rnr)

  -- all else is zero
  pub status_bit11 : bits_at (status_word e c r) 11 1 ≡ 0
  status_bit11 = lower 11 1 (lit≤ tt) ∙ bits_above (low r) 8 (cu_number c) 3 1 (low_below r) ∙ bits_past (cu_number c) 3 1 (cus_below c)

  pub status_bit7 : bits_at (status_word e c r) 7 1 ≡ 0
  status_bit7 = lowest 7 1 (lit≤ tt) ∙ bits_above 0 4 (ru_number r) 3 1 (lit< tt) ∙ bits_past (ru_number r) 3 1 (rus_below r)

  pub status_low : bits_at (status_word e c r) 0 4 ≡ 0
  status_low = lowest 0 4 (lit≤ tt) ∙ bits_kept 0 4 (ru_number r) 0 4 (lit≤ tt) ∙ bits_whole 0 4 (lit< tt)

-- ---- the interrupt

high : (n : ℕ) → 0 < n → true ≡ not (eqb n 0)
high n h = sym (ap not (ne_eqb n 0 (λ e. omega arith)))

some : (a b c d : Bool) → (a || b || c || d) ≡ not (eqb (joined (joined (joined (one d) 1 (one c)) 2 (one b)) 3 (one a)) 0)
unfolding joined
some true b c d = high (one d + one c * 2 + one b * 4 + 8) (omega arith)
some false true c d = high (one d + one c * 2 + 4 + 0) (omega arith)
some false false true d = high (one d + 2 + 0 + 0) (omega arith)
some false false false true = refl
some false false false false = refl

pub any_bits : (e : Events) → any_of e ≡ not (eqb (event_bits e) 0)
unfolding any_of event_bits
any_bits e = some e.cx e.fr e.cna e.rnr

-- it is high exactly when bits 15-12 of the status word are not all zero
pub interrupt : (e : Events) (c : CuState) (r : RuState) → any_of e ≡ not (eqb (bits_at (status_word e c r) 12 4) 0)
interrupt e c r = rw (status_events e c r) (any_bits e)

pub quiet : (e : Events) → any_of e ≡ false → event_bits e ≡ 0
quiet e h = eqb-true (event_bits e) 0 (not-false (eqb (event_bits e) 0) (sym (any_bits e) ∙ h))

pub quiet_of_bits : (e : Events) → event_bits e ≡ 0 → any_of e ≡ false
quiet_of_bits e h = any_bits e ∙ rw h
