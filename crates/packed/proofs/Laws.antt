-- The numbers of a state lead back to it, and a state put together from numbers is the state that the rules say. Assumes nothing.
use mathlib.Core.Path.{◌≡◌, refl, ap, ◌∙◌}
use mathlib.Core.Bool.{Bool, true, false}
use Prim.Native.Nat.{ℕ, ◌+◌, ◌*◌, ◌/◌, ◌%◌, ◌<◌}
use native.Mathlib.Omega.{arith}
use lib.Bits.{bit_or}
use lib.Dec.{T, eqb, eqb→eq}
use Rattle.scb.specs.Words.{one, event_bits, joined, raise}
use Rattle.scb.specs.declared.Events.{Events}
use Rattle.scb.proofs.Below.{all, below}
use Rattle.device.specs.declared.Cu.{Cu}
use Rattle.device.specs.declared.Cu.TheVariants as cu
use Rattle.device.specs.declared.Ru.{Ru}
use Rattle.device.specs.declared.Ru.TheVariants as ru
use Rattle.device.specs.declared.Units.{Units}
use Rattle.phases.specs.Fields.{odd}
use Rattle.phases.specs.Phases.{word_of, cu_tag, cu_word, cu_of, ru_tag, ru_word, ru_of}
use Rattle.phases.proofs.Units.{one_below, cu_back, ru_back, word_back}
use Rattle.packed.specs.Packed.{marks_by, marks_of, status_by, status_of, packed_of, scb_in, marks_in, cu_tag_in, ru_tag_in, base_in, CuIs, RuIs, PackedIs}
use Rattle.packed.specs.declared.Packed.{Packed}

one_odd : (b : Bool) → eqb (one b) 1 ≡ b
one_odd true = refl
one_odd false = refl

-- ---- the events as a number below 16

unfoldable pub events_at : ℕ → Events
events_at n = record { cx = odd (n / 8); fr = odd (n / 4); cna = odd (n / 2); rnr = odd n }

pub events_below : (e : Events) → event_bits e < 16
unfolding event_bits joined
events_below e = omega (arith, one_below e.cx, one_below e.fr, one_below e.cna, one_below e.rnr)

pub events_at_lem : (a b c d : Bool) → let e : Events = record { cx = a; fr = b; cna = c; rnr = d } in events_at (event_bits e) ≡ e
unfolding events_at event_bits joined
events_at_lem true true true true = refl
events_at_lem true true true false = refl
events_at_lem true true false true = refl
events_at_lem true true false false = refl
events_at_lem true false true true = refl
events_at_lem true false true false = refl
events_at_lem true false false true = refl
events_at_lem true false false false = refl
events_at_lem false true true true = refl
events_at_lem false true true false = refl
events_at_lem false true false true = refl
events_at_lem false true false false = refl
events_at_lem false false true true = refl
events_at_lem false false true false = refl
events_at_lem false false false true = refl
events_at_lem false false false false = refl

-- every pair of them, computed
raises : ℕ → Bool
raises k = eqb (bit_or (k / 16) (k % 16)) (event_bits (raise (events_at (k / 16)) (events_at (k % 16))))

all_raise : T (all raises 256)
unfolding raises events_at event_bits joined
all_raise = tt

raise_pair : (a b : ℕ) → a < 16 → b < 16 → bit_or a b ≡ event_bits (raise (events_at a) (events_at b))
unfolding raises
raise_pair a b g h =
    let k = 16 * a + b in
    let q : k / 16 ≡ a = omega arith in
    let r : k % 16 ≡ b = omega arith in
    let t : bit_or (k / 16) (k % 16) ≡ event_bits (raise (events_at (k / 16)) (events_at (k % 16))) =
    eqb→eq _ _ (below raises 256 all_raise k (omega arith)) in
    cc

pub raise_or : (e by : Events) → bit_or (event_bits e) (event_bits by) ≡ event_bits (raise e by)
raise_or e by =
    raise_pair (event_bits e) (event_bits by) (events_below e) (events_below by)
    ∙ rw (events_at_lem e.cx e.fr e.cna e.rnr, events_at_lem by.cx by.fr by.cna by.rnr)

pub or_below : (a b : ℕ) → a < 16 → b < 16 → bit_or a b < 16
or_below a b g h = rw (raise_pair a b g h) (events_below _)

-- ---- the parts of a status

-- in plain variables: events, tag, marks, tag, offset, base
abbrev laid : (e c m r s b : ℕ) → ℕ
laid e c m r s b = 16 * e + 256 * c + 4096 * m + 65536 * r + 16777216 * s + 1099511627776 * b

module _ (e c m r s b : ℕ) (he : e < 16) (hc : c < 8) (hm : m < 4) (hr : r < 256) (hs : s < 65536) where
  events_laid : laid e c m r s b / 16 % 16 ≡ e
  events_laid =
      let q : laid e c m r s b / 16 ≡ e + 16 * (c + 16 * m + 256 * r + 65536 * s + 4294967296 * b) = omega arith in
      rw q (omega arith)

  cu_laid : laid e c m r s b / 256 % 8 ≡ c
  cu_laid =
      let q : laid e c m r s b / 256 ≡ c + 8 * (2 * m + 32 * r + 8192 * s + 536870912 * b) = omega arith in
      rw q (omega arith)

  marks_laid : laid e c m r s b / 4096 % 4 ≡ m
  marks_laid =
      let q : laid e c m r s b / 4096 ≡ m + 4 * (4 * r + 1024 * s + 67108864 * b) = omega arith in
      rw q (omega arith)

  ru_laid : laid e c m r s b / 65536 % 256 ≡ r
  ru_laid =
      let q : laid e c m r s b / 65536 ≡ r + 256 * (s + 65536 * b) = omega arith in
      rw q (omega arith)

  scb_laid : laid e c m r s b / 16777216 % 65536 ≡ s
  scb_laid =
      let q : laid e c m r s b / 16777216 ≡ s + 65536 * b = omega arith in
      rw q (omega arith)

  base_laid : laid e c m r s b / 1099511627776 ≡ b
  base_laid = omega arith

-- marks are four bits of events above two of their own, and a tag has three bits
module _ (scb marks cu ru base : ℕ) (s : scb < 65536) (f : marks < 256) (g : marks % 16 < 4) (c : cu < 8) (r : ru < 256) where
  high : marks / 16 < 16
  high = omega arith

  low : marks % 4 < 4
  low = omega arith

  scb_part : status_by scb marks cu ru base / 16777216 % 65536 ≡ scb
  scb_part = scb_laid (marks / 16) cu (marks % 4) ru scb base high c low r s

  marks_part : status_by scb marks cu ru base / 4096 % 4 + 16 * (status_by scb marks cu ru base / 16 % 16) ≡ marks
  marks_part =
      let z : marks % 4 + 16 * (marks / 16) ≡ marks = omega arith in
      rw (marks_laid (marks / 16) cu (marks % 4) ru scb base high c low r s, events_laid (marks / 16) cu (marks % 4) ru scb base high c low r s) z

  cu_part : status_by scb marks cu ru base / 256 % 8 ≡ cu
  cu_part = cu_laid (marks / 16) cu (marks % 4) ru scb base high c low r s

  ru_part : status_by scb marks cu ru base / 65536 % 256 ≡ ru
  ru_part = ru_laid (marks / 16) cu (marks % 4) ru scb base high c low r s

  base_part : status_by scb marks cu ru base / 1099511627776 ≡ base
  base_part = base_laid (marks / 16) cu (marks % 4) ru scb base high c low r s

pub cu_tag_below : (c : Cu) → cu_tag c < 8
cu_tag_below cu.Idle = omega arith
cu_tag_below (cu.Suspended o) = omega arith
cu_tag_below (cu.Waiting o) = omega arith
cu_tag_below (cu.Acting b a) = omega arith
cu_tag_below (cu.Sending b w) = omega arith
cu_tag_below (cu.Ending b n) = omega arith
cu_tag_below (cu.Failing b) = omega arith

pub ru_tag_below : (u : Ru) → ru_tag u < 8
ru_tag_below ru.Idle = omega arith
ru_tag_below ru.NoResources = omega arith
ru_tag_below (ru.Suspended o) = omega arith
ru_tag_below (ru.Ready o) = omega arith
ru_tag_below (ru.Held o f p) = omega arith
ru_tag_below (ru.Filling s w) = omega arith
ru_tag_below (ru.Closing s o full) = omega arith
ru_tag_below (ru.Lacking s) = omega arith

pub marks_below : (i l : Bool) (e : Events) → marks_by i l e < 256
marks_below i l e = omega (arith, one_below i, one_below l, events_below e)

pub marks_low : (i l : Bool) (e : Events) → marks_by i l e % 16 < 4
marks_low i l e = omega (arith, one_below i, one_below l)

-- ---- what is read of a state's numbers

module _ (u : Units) (k : Packed) (h : PackedIs u k) where
  status_is_lem : k.status ≡ status_of u
  unfolding packed_of
  status_is_lem = ap (λ (x : Packed). x.status) h.same

  pub scb_is : scb_in k ≡ u.scb.0
  scb_is = rw status_is_lem (scb_part _ _ _ _ _ h.wide.scb_wide (marks_below u.initialised u.rulast u.events) (marks_low u.initialised u.rulast u.events) (cu_tag_below u.cu) (omega (arith, ru_tag_below u.ru)))

  pub marks_is : marks_in k ≡ marks_of u
  marks_is = rw status_is_lem (marks_part _ _ _ _ _ h.wide.scb_wide (marks_below u.initialised u.rulast u.events) (marks_low u.initialised u.rulast u.events) (cu_tag_below u.cu) (omega (arith, ru_tag_below u.ru)))

  cu_tag_is : cu_tag_in k ≡ cu_tag u.cu
  cu_tag_is = rw status_is_lem (cu_part _ _ _ _ _ h.wide.scb_wide (marks_below u.initialised u.rulast u.events) (marks_low u.initialised u.rulast u.events) (cu_tag_below u.cu) (omega (arith, ru_tag_below u.ru)))

  ru_tag_is : ru_tag_in k ≡ ru_tag u.ru
  ru_tag_is = rw status_is_lem (ru_part _ _ _ _ _ h.wide.scb_wide (marks_below u.initialised u.rulast u.events) (marks_low u.initialised u.rulast u.events) (cu_tag_below u.cu) (omega (arith, ru_tag_below u.ru)))

  pub base_is : base_in k ≡ u.base.0
  base_is = rw status_is_lem (base_part _ _ _ _ _ h.wide.scb_wide (marks_below u.initialised u.rulast u.events) (marks_low u.initialised u.rulast u.events) (cu_tag_below u.cu) (omega (arith, ru_tag_below u.ru)))

  pub cu_is_lem : CuIs u.cu (cu_tag_in k) k.cu
  unfolding packed_of
  cu_is_lem = record { tag_is = cu_tag_is; word_is = ap (λ (x : Packed). x.cu) h.same; wide = h.wide.cu_wide }

  pub ru_is_lem : RuIs u.ru (ru_tag_in k) k.ru k.rest
  unfolding packed_of
  ru_is_lem =
      record {
        tag_is = ru_tag_is;
        word_is = ap (λ (x : Packed). x.ru) h.same;
        rest_is = ap (λ (x : Packed). x.rest) h.same;
        wide = h.wide.ru_wide;
        holding = h.wide.holding_wide;
      }

  pub events_is : marks_in k / 16 ≡ event_bits u.events
  events_is = rw marks_is (omega (arith, one_below u.initialised, one_below u.rulast))

  pub initialised_is : odd (marks_in k) ≡ u.initialised
  initialised_is =
      let n : marks_of u % 2 ≡ one u.initialised = omega (arith, one_below u.initialised) in
      rw (marks_is, n) (one_odd u.initialised)

  pub rulast_is : odd (marks_in k / 2) ≡ u.rulast
  rulast_is =
      let q : marks_of u / 2 ≡ one u.rulast + 2 * (4 * event_bits u.events) = omega (arith, one_below u.initialised) in
      let n : marks_of u / 2 % 2 ≡ one u.rulast = rw q (omega (arith, one_below u.rulast)) in
      rw (marks_is, n) (one_odd u.rulast)

-- a tag and words lead back to their unit
pub cu_of_lem : (c : Cu) (tag n : ℕ) → CuIs c tag n → cu_of tag (word_of n) ≡ c
cu_of_lem c tag n h = rw (h.tag_is, h.word_is, word_back (cu_word c) h.wide) (cu_back c)

pub ru_of_lem : (u : Ru) (tag n rest : ℕ) → RuIs u tag n rest → ru_of tag (word_of n) rest ≡ u
ru_of_lem u tag n rest h = rw (h.tag_is, h.word_is, h.rest_is, word_back (ru_word u) h.wide) (ru_back u h.holding)

-- ---- a state put together from numbers

module _ (u : Units) (k : Packed) (h : PackedIs u k) where
  cut_scb : k.status / 16777216 % 65536 ≡ u.scb.0
  cut_scb = scb_is u k h

  cut_base : k.status / 1099511627776 ≡ u.base.0
  cut_base = base_is u k h

  pub low_mark : marks_in k % 2 ≡ one u.initialised
  low_mark = rw (marks_is u k h) (omega (arith, one_below u.initialised))

  module _ (c : Cu) (v : Ru) (i l : Bool) (e : Events) (marks cutag cuword rutag ruword rest : ℕ)
      (f : marks ≡ marks_by i l e) (hc : CuIs c cutag cuword) (hv : RuIs v rutag ruword rest) where
    pub together : PackedIs (record { initialised = i; base = u.base; scb = u.scb; events = e; rulast = l; settings = u.settings; cu = c; ru = v })
        (record { status = status_by (k.status / 16777216 % 65536) (marks % 256) (cutag % 8) (rutag % 256) (k.status / 1099511627776 % 16777216); cu = cuword; ru = ruword; rest = rest })
    unfolding packed_of
    together =
        let s : status_by (k.status / 16777216 % 65536) (marks % 256) (cutag % 8) (rutag % 256) (k.status / 1099511627776 % 16777216)
        ≡ status_by u.scb.0 (marks_by i l e) (cu_tag c) (ru_tag v) u.base.0 =
        rw (cut_base, f, hc.tag_is, hv.tag_is)
        (let p : marks_by i l e % 256 ≡ marks_by i l e = omega (arith, marks_below i l e) in
        let q : cu_tag c % 8 ≡ cu_tag c = omega (arith, cu_tag_below c) in
        let r : ru_tag v % 256 ≡ ru_tag v = omega (arith, ru_tag_below v) in
        let t : u.base.0 % 16777216 ≡ u.base.0 = omega (arith, h.wide.base_wide) in
        rw (p, q, r, t, cut_scb)) in
        record {
          same = rw (s, hc.word_is, hv.word_is, hv.rest_is);
          wide =
              record {
                scb_wide = h.wide.scb_wide;
                base_wide = h.wide.base_wide;
                cu_wide = hc.wide;
                ru_wide = hv.wide;
                holding_wide = hv.holding;
              };
        }
