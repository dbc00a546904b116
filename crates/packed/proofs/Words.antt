-- What is read of a unit's word and put together to one, in plain numbers; and the tag and the words of each phase. Assumes nothing.
use mathlib.Core.Path.{◌≡◌, refl, sym, ◌∙◌}
use mathlib.Core.Bool.{Bool, true, false, not}
use Prim.Native.Nat.{ℕ, zero, suc, ◌+◌, ◌*◌, ◌/◌, ◌%◌, ◌<◌, ◌^◌}
use native.Mathlib.Omega.{arith}
use lib.Dec.{eqb, eqb→eq}
use mir.Val.{bool_byte}
use Rattle.memory.specs.declared.Offset.{Offset}
use Rattle.scb.specs.Words.{one}
use Rattle.scb.proofs.Below.{below}
use Rattle.device.specs.Numbers.{action_of, verdict_of}
use Rattle.device.specs.declared.Begun.{Begun}
use Rattle.device.specs.declared.Cu.TheVariants as cu
use Rattle.device.specs.declared.Form.{Form}
use Rattle.device.specs.declared.Frame.{Frame}
use Rattle.device.specs.declared.Ru.TheVariants as ru
use Rattle.device.specs.declared.Storing.{Storing}
use Rattle.device.specs.declared.Walk.{Walk}
use Rattle.phases.specs.Fields.{flags_of, odd, flag_at, flags_in, flag_in, rest_by}
use Rattle.phases.specs.Forms.{form_number, FormWide}
use Rattle.phases.specs.Phases.{number_of, word_of, plain, begun_word, begun_of, begun_with, cu_word, frame_word, frame_number, storing_with, storing_word, ru_word, ru_rest}
use Rattle.phases.proofs.Units.{one_below, bits3, action_number_lem, verdict_number_lem, kind_below}
use Rattle.packed.specs.Packed.{WordIs, BegunIs, CuIs, RuIs}

-- ---- flags

one_two : (k : ℕ) → k < 2 → one (eqb k 1) ≡ k
one_two zero h = refl
one_two (suc zero) h = refl
one_two (suc (suc k)) h = absurd (omega arith)

-- what `u64::from` makes of a flag
pub from_flag : (b : Bool) → bool_byte b ≡ one b
from_flag true = refl
from_flag false = refl

pub one_odd : (k : ℕ) → one (odd k) ≡ k % 2
one_odd k = one_two (k % 2) (omega arith)

-- a flag of a word is a bit of its number
module _ (n : ℕ) where
  pub first_in : flag_in 0 n ≡ (word_of n).first
  unfolding word_of
  first_in = let e : n / 2 ^ 16 % 2 ≡ flags_in n % 2 = omega arith in rw e

  pub second_in : flag_in 1 n ≡ (word_of n).second
  unfolding word_of
  second_in = let e : n / 2 ^ 17 % 2 ≡ flags_in n / 2 % 2 = omega arith in rw e

  pub third_in : flag_in 2 n ≡ (word_of n).third
  unfolding word_of
  third_in = let e : n / 2 ^ 18 % 2 ≡ flags_in n / 2 ^ 2 % 2 = omega arith in rw e

  pub fourth_in : flag_in 3 n ≡ (word_of n).fourth
  unfolding word_of
  fourth_in = let e : n / 2 ^ 19 % 2 ≡ flags_in n / 2 ^ 3 % 2 = omega arith in rw e

  pub fifth_in : flag_in 4 n ≡ (word_of n).fifth
  unfolding word_of
  fifth_in = let e : n / 2 ^ 20 % 2 ≡ flags_in n / 2 ^ 4 % 2 = omega arith in rw e

  pub sixth_in : flag_in 5 n ≡ (word_of n).sixth
  unfolding word_of
  sixth_in = let e : n / 2 ^ 21 % 2 ≡ flags_in n / 2 ^ 5 % 2 = omega arith in rw e

  pub interrupt_in : n / 2 ^ 16 % 2 ≡ one (begun_of (word_of n)).interrupt
  interrupt_in = sym (one_odd (n / 2 ^ 16)) ∙ rw first_in

-- ---- a word with an offset alone

pub plain_is : (o : ℕ) → o < 2 ^ 16 → WordIs (plain o) o
unfolding number_of
plain_is o h = record { number_is = omega arith; wide = record { at = h; kind = omega arith; size = omega arith; next = omega arith } }

-- ---- a begun command

pub begun_with_lem : (o : Offset) (flags : ℕ) → o.0 < 2 ^ 16 → flags < 2 ^ 3 → BegunIs (begun_with o flags) (o.0 + 2 ^ 16 * flags)
unfolding number_of
begun_with_lem o flags h l =
    record { number_is = rw (bits3 flags l) (omega arith); wide = record { at = h; kind = omega arith; size = omega arith; next = omega arith } }

-- the low four of a byte's bits
four : (k : ℕ) → k < 2 ^ 8 → flags_of (odd k) (flag_at 1 k) (flag_at 2 k) (flag_at 3 k) false false ≡ k % 2 ^ 4
four k h = eqb→eq _ _ (below (λ i. eqb (flags_of (odd i) (flag_at 1 i) (flag_at 2 i) (flag_at 3 i) false false) (i % 2 ^ 4)) (2 ^ 8) tt k h)

-- the low bits of a unit's word are its begun command
pub begun_in_lem : (n : ℕ) → BegunIs (begun_of (word_of n)) (n % 2 ^ 20)
unfolding word_of number_of
begun_in_lem n =
    record {
      number_is = rw (four (flags_in n) (omega arith)) (omega arith);
      wide = record { at = omega arith; kind = omega arith; size = omega arith; next = omega arith };
    }

module _ (v : Begun) (b : ℕ) (h : BegunIs v b) where
  begun_number : (kind size next : ℕ) → b + 2 ^ 24 * kind + 2 ^ 32 * size + 2 ^ 48 * next ≡ number_of (begun_word v kind size next)
  unfolding number_of
  begun_number kind size next = omega (arith, h.number_is)

  pub begun_and : (kind size next : ℕ) → kind < 2 ^ 8 → size < 2 ^ 16 → next < 2 ^ 16
      → WordIs (begun_word v kind size next) (b + 2 ^ 24 * kind + 2 ^ 32 * size + 2 ^ 48 * next)
  begun_and kind size next k s n = record { number_is = begun_number kind size next; wide = record { at = h.wide.at; kind = k; size = s; next = n } }

  pub begun_kind : (kind : ℕ) → kind < 2 ^ 8 → WordIs (begun_word v kind 0 0) (b + 2 ^ 24 * kind)
  begun_kind kind k = let w = begun_and kind 0 0 k (omega arith) (omega arith) in record { number_is = omega (arith, w.number_is); wide = w.wide }

  pub begun_size : (size : ℕ) → size < 2 ^ 16 → WordIs (begun_word v 0 size 0) (b + 2 ^ 32 * size)
  begun_size size s = let w = begun_and 0 size 0 (omega arith) s (omega arith) in record { number_is = omega (arith, w.number_is); wide = w.wide }

-- ---- a held frame

pub frame_number_lem : (short savebad : Bool) (verdict length : ℕ) (f : Form) → verdict < 3
    → 2 ^ 17 * one short + 2 ^ 18 * one savebad + 2 ^ 24 * (verdict + 2 ^ 2 * form_number f) + 2 ^ 32 * length
    ≡ frame_number (record { length = length; verdict = verdict_of verdict; short = short; savebad = savebad; form = f })
unfolding number_of
frame_number_lem short savebad verdict length f h = rw (verdict_number_lem verdict h) (omega arith)

pub held_word : (f n : ℕ) (o : Offset) (g : Frame) → f ≡ frame_number g → g.length < 2 ^ 16 → WordIs (plain o.0) n → WordIs (frame_word o g false) (f + n % 2 ^ 16)
unfolding number_of
held_word f n o g e l h =
    record {
      number_is = let m : n % 2 ^ 16 ≡ o.0 = omega (arith, h.number_is, h.wide.at) in rw m (omega arith);
      wide = record { at = h.wide.at; kind = omega (arith, kind_below g.verdict g.form); size = l; next = omega arith };
    }

-- S and EL of a descriptor come to stand above the flags of a held frame
two_bits : (flags : ℕ) → flags < 2 ^ 2 → one (odd flags) + 2 * one (flag_at 1 flags) ≡ flags
two_bits flags h = rw (one_odd flags, one_odd (flags / 2)) (omega arith)

pub storing_with_lem : (n : ℕ) (o : Offset) (f : Frame) (p : Bool) (flags : ℕ) → flags < 2 ^ 2 → WordIs (frame_word o f p) n
    → WordIs (storing_word (storing_with o f p flags) 0 false) ((n % 2 ^ 48 + 2 ^ 19 * flags) % 2 ^ 48)
unfolding number_of
storing_with_lem n o f p flags l h =
    let k : n + 2 ^ 19 * flags < 2 ^ 48 =
    omega (arith, h.number_is, h.wide.at, h.wide.size, kind_below f.verdict f.form, one_below p, one_below f.short, one_below f.savebad) in
    let e : (n % 2 ^ 48 + 2 ^ 19 * flags) % 2 ^ 48 ≡ n + 2 ^ 19 * flags = omega arith in
    record {
      number_is = rw e (omega (arith, h.number_is, two_bits flags l));
      wide = record { at = h.wide.at; kind = h.wide.kind; size = h.wide.size; next = omega arith };
    }

-- EL of the last buffer, above them
pub storing_full : (n : ℕ) (s : Storing) (next : ℕ) (el : Bool) → WordIs (storing_word s next false) n
    → WordIs (storing_word s 0 el) ((n % 2 ^ 48 + 2 ^ 21 * one el) % 2 ^ 48)
unfolding number_of
storing_full n s next el h =
    let low = number_of (storing_word s 0 false) in
    let d : n ≡ low + 2 ^ 48 * next = omega (arith, h.number_is) in
    let k : low + 2 ^ 21 < 2 ^ 48 =
    omega (arith, h.wide.at, h.wide.size, kind_below s.frame.verdict s.frame.form, one_below s.pausing, one_below s.frame.short, one_below s.frame.savebad, one_below s.suspend, one_below s.el) in
    let e : n % 2 ^ 48 ≡ low = omega arith in
    let i : (low + 2 ^ 21 * one el) % 2 ^ 48 ≡ low + 2 ^ 21 * one el = omega (arith, one_below el) in
    record {
      number_is = rw (e, i) (omega arith);
      wide = record { at = h.wide.at; kind = h.wide.kind; size = h.wide.size; next = omega arith };
    }

pub storing_next : (n : ℕ) (s : Storing) (next : ℕ) (full : Bool) → next < 2 ^ 16 → WordIs (storing_word s 0 full) n → WordIs (storing_word s next full) (n + 2 ^ 48 * next)
unfolding number_of
storing_next n s next full l h =
    record { number_is = omega (arith, h.number_is); wide = record { at = h.wide.at; kind = h.wide.kind; size = h.wide.size; next = l } }

-- ---- the phases of the command unit

pub idle_is : CuIs cu.Idle 0 0
unfolding cu_word
idle_is = let w = plain_is 0 (omega arith) in record { tag_is = refl; word_is = w.number_is; wide = w.wide }

module _ (n : ℕ) (o : Offset) (w : WordIs (plain o.0) n) where
  pub suspended_is : CuIs (cu.Suspended o) 1 n
  unfolding cu_word
  suspended_is = record { tag_is = refl; word_is = w.number_is; wide = w.wide }

  pub waiting_is : CuIs (cu.Waiting o) 2 n
  unfolding cu_word
  waiting_is = record { tag_is = refl; word_is = w.number_is; wide = w.wide }

module _ (n : ℕ) (v : Begun) where
  -- every number of a command but a Transmit's
  pub acting_is_lem : (k : ℕ) → k < 8 → not (eqb k 4) ≡ true → WordIs (begun_word v k 0 0) n → CuIs (cu.Acting v (action_of k)) 3 n
  unfolding cu_word
  acting_is_lem k l e w = let a = action_number_lem k l e in record { tag_is = refl; word_is = rw a w.number_is; wide = rw a w.wide }

  pub sending_is_lem : (k : Walk) → WordIs (begun_word v k.used k.filled k.next.0) n → CuIs (cu.Sending v k) 4 n
  unfolding cu_word
  sending_is_lem k w = record { tag_is = refl; word_is = w.number_is; wide = w.wide }

  pub ending_is_lem : (filled : ℕ) → WordIs (begun_word v 0 filled 0) n → CuIs (cu.Ending v filled) 5 n
  unfolding cu_word
  ending_is_lem filled w = record { tag_is = refl; word_is = w.number_is; wide = w.wide }

  pub failing_is : BegunIs v n → CuIs (cu.Failing v) 6 n
  unfolding cu_word
  failing_is w = record { tag_is = refl; word_is = w.number_is; wide = w.wide }

-- ---- the phases of the receive unit

pub no_resources : RuIs ru.NoResources 2 0 0
unfolding ru_word ru_rest
no_resources = let w = plain_is 0 (omega arith) in record { tag_is = refl; word_is = w.number_is; rest_is = refl; wide = w.wide; holding = tt }

module _ (n : ℕ) (o : Offset) (w : WordIs (plain o.0) n) where
  pub suspended : RuIs (ru.Suspended o) 1 n 0
  unfolding ru_word ru_rest
  suspended = record { tag_is = refl; word_is = w.number_is; rest_is = refl; wide = w.wide; holding = tt }

  pub ready : RuIs (ru.Ready o) 3 n 0
  unfolding ru_word ru_rest
  ready = record { tag_is = refl; word_is = w.number_is; rest_is = refl; wide = w.wide; holding = tt }

pub held : (n : ℕ) (o : Offset) (f : Frame) (p : Bool) → FormWide f.form → WordIs (frame_word o f p) n → RuIs (ru.Held o f p) 4 n 0
unfolding ru_word ru_rest
held n o f p l w = record { tag_is = refl; word_is = w.number_is; rest_is = refl; wide = w.wide; holding = l }

module _ (n : ℕ) (s : Storing) (l : FormWide s.frame.form) where
  pub filling : (k : Walk) (rest : ℕ) → rest ≡ rest_by k.filled k.used → k.filled < 2 ^ 16 → k.used < 2 ^ 8 → WordIs (storing_word s k.next.0 false) n
      → RuIs (ru.Filling s k) 5 n rest
  unfolding ru_word ru_rest
  filling k rest e f u w = record { tag_is = refl; word_is = w.number_is; rest_is = e; wide = w.wide; holding = (l, f, u) }

  pub closing : (o : Offset) (full : Bool) → WordIs (storing_word s o.0 full) n → RuIs (ru.Closing s o full) 6 n 0
  unfolding ru_word ru_rest
  closing o full w = record { tag_is = refl; word_is = w.number_is; rest_is = refl; wide = w.wide; holding = l }

  pub lacking : WordIs (storing_word s 0 false) n → RuIs (ru.Lacking s) 7 n 0
  unfolding ru_word ru_rest
  lacking w = record { tag_is = refl; word_is = w.number_is; rest_is = refl; wide = w.wide; holding = l }

-- and what the numbers of a phase say of its word
pub held_back : (tag n rest : ℕ) (o : Offset) (f : Frame) (p : Bool) → RuIs (ru.Held o f p) tag n rest → WordIs (frame_word o f p) n
unfolding ru_word
held_back tag n rest o f p h = record { number_is = h.word_is; wide = h.wide }

pub filling_back : (tag n rest : ℕ) (s : Storing) (k : Walk) → RuIs (ru.Filling s k) tag n rest → WordIs (storing_word s k.next.0 false) n
unfolding ru_word
filling_back tag n rest s k h = record { number_is = h.word_is; wide = h.wide }

pub ready_back : (tag n rest : ℕ) (o : Offset) → RuIs (ru.Ready o) tag n rest → WordIs (plain o.0) n
unfolding ru_word
ready_back tag n rest o h = record { number_is = h.word_is; wide = h.wide }
