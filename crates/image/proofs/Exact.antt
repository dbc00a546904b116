-- The record is exact: the image of a state in range is decoded to that state, what is decoded is the image of what it is decoded to, and a
-- foreign record is the image of no state in range. Assumes nothing.
use mathlib.Core.Path.{◌≡◌, refl, sym, ◌∙◌}
use mathlib.Core.Bool.{Bool, true, false, not, ◌&&◌, ◌||◌}
use mathlib.Core.List.{List, [], ◌∷◌, ◌++◌}
use Prim.Native.Nat.{ℕ, zero, suc, ◌+◌, ◌*◌, ◌/◌, ◌%◌, ◌≤◌, ◌<◌}
use native.Mathlib.Nat.{div-div-eq-div-mul, div-add-mod'}
use native.Mathlib.Omega.{arith}
use borrow.Author.Tests.{eqb-true, ltb-true, leb-true, eq-eqb, ne_eqb, not-true}
use lib.Dec.{eqb, leb, ltb, eqb→eq}
use lib.ListN.{length, get_or, replicate}
use Rattle.memory.specs.Address.{is_none}
use Rattle.memory.specs.Memory.{value, digits}
use Rattle.memory.proofs.Bytes.{Bytes, digits_value, bytes_cons, bytes_tail, digits_bytes}
use Rattle.memory.proofs.Fields.{value_append, length_digits}
use Rattle.scb.specs.Words.{one, joined, no_events, event_bits, any_of, cu_number, ru_number}
use Rattle.scb.specs.declared.Events.{Events}
use Rattle.scb.proofs.Below.{below}
use Rattle.scb.proofs.Status.{events_below, any_bits}
use Rattle.device.specs.Header.{header, unbuffered}
use Rattle.device.specs.State.{fresh, fresh_units, cu_state, ru_state, is_good}
use Rattle.device.specs.declared.Cu.{Cu}
use Rattle.device.specs.declared.Cu.TheVariants as cu
use Rattle.device.specs.declared.Device.{Device}
use Rattle.device.specs.declared.Frame.{Frame}
use Rattle.device.specs.declared.Ru.{Ru}
use Rattle.device.specs.declared.Ru.TheVariants as ru
use Rattle.device.specs.declared.Settings.{Settings}
use Rattle.device.specs.declared.Units.{Units}
use Rattle.actions.specs.Setup.{setup_of}
use Rattle.numerals.specs.Places.{bytes_from, field}
use Rattle.numerals.proofs.Laws.{field_below, piece, fit, digits_zero, from_append, from_bytes, from_cons, length_from, whole, first_of, second_of, one as field_one}
use Rattle.phases.specs.Fields.{flags_of, odd}
use Rattle.phases.specs.Forms.{FormWide}
use Rattle.phases.specs.Phases.{number_of, cu_tag, cu_word, cu_shaped, ru_tag, ru_word, ru_shaped, HoldingWide}
use Rattle.phases.proofs.Units.{both, never, one_below, flag1, flag2, flag3, flag4, form_below, form_back, form_number_lem, form_shaped_lem, number_below, wide_of, cu_shaped_lem, cu_same, rest_below, ru_shaped_lem, ru_same, Same, RuSame}
use Rattle.packed.specs.Packed.{marks_by, marks_of, status_of, packed_of, status_is, marks_in, cu_tag_in, ru_tag_in, UnitsWide, PackedIs}
use Rattle.packed.specs.SetUp.{settings_byte, settings_shaped, setup_bytes}
use Rattle.packed.specs.declared.Packed.{Packed}
use Rattle.packed.proofs.Laws.{cu_tag_below, ru_tag_below, marks_below, scb_is, base_is, cu_is_lem, ru_is_lem, cu_of_lem, ru_of_lem, events_is, initialised_is, rulast_is}
use Rattle.packed.proofs.SetUps.{saves_in, promiscuous_in, broadcast_in, form_in_settings}
use Rattle.packed.proofs.Words.{one_odd}
use Rattle.image.specs.Ranges.{settings_fresh, units_idle, addressing_fresh, form_fits, sized_from, form_fresh, units_fit, cu_fits, frame_fits, ru_fits, units_fresh, initialised_or_fresh, in_range, Wide}
use Rattle.image.specs.Found as is
use Rattle.image.specs.Image.{front, unit_bytes, image_of, packed_at, events_of, settings_of, units_by, units_at, device_from, device_at, head_shaped, units_shaped, spare_zero, shaped, range_from, decode_full, decode_of}
use Rattle.image.proofs.Steps.{full_taken, full_out, full_other, decode_full_lem, device_full, length_units, length_image}

-- ---- the events and the settings in their bits

bits_of : (e : Events) → event_bits e ≡ flags_of e.rnr e.cna e.fr e.cx false false
unfolding event_bits joined
bits_of e = omega arith

pub events_back : (e : Events) → events_of (event_bits e) ≡ e
events_back e =
    rw (
      bits_of e,
      flag1 e.rnr e.cna e.fr e.cx false false,
      flag2 e.rnr e.cna e.fr e.cx false false,
      flag3 e.rnr e.cna e.fr e.cx false false,
      flag4 e.rnr e.cna e.fr e.cx false false,
    )

events_same : (n : ℕ) → n < 16 → event_bits (events_of n) ≡ n
events_same n h =
    bits_of (events_of n) ∙ eqb→eq _ n (below (λ k. eqb (flags_of (odd k) (odd (k / 2)) (odd (k / 4)) (odd (k / 8)) false false) k) 16 tt n h)

pub settings_back : (s : Settings) → FormWide s.form → settings_of (settings_byte s) s.minimum ≡ s
settings_back s f = rw (saves_in s, promiscuous_in s, broadcast_in s, form_in_settings s, form_back s.form f)

setting_below : (s : Settings) → settings_byte s < 128
setting_below s = omega (arith, one_below s.savebad, one_below s.promiscuous, one_below s.nobroadcast, form_below s.form)

-- ---- the parts of a status, in plain variables: events, tag, marks, tag, offset, base

abbrev laid : (e c m r s b : ℕ) → ℕ
laid e c m r s b = 16 * e + 256 * c + 4096 * m + 65536 * r + 16777216 * s + 1099511627776 * b

module _ (e c m r s b : ℕ) (he : e < 16) (hc : c < 8) (hm : m < 4) where
  laid_low : laid e c m r s b % 16 ≡ 0
  laid_low = omega arith

  laid_third : laid e c m r s b / 2048 % 2 ≡ 0
  laid_third =
      let q : laid e c m r s b / 2048 ≡ 2 * (m + 16 * r + 4096 * s + 268435456 * b) = omega arith in
      rw q (omega arith)

  laid_high : laid e c m r s b / 16384 % 4 ≡ 0
  laid_high =
      let q : laid e c m r s b / 16384 ≡ 4 * (r + 256 * s + 16777216 * b) = omega arith in
      rw q (omega arith)

  laid_below : r < 256 → s < 65536 → b < 16777216 → laid e c m r s b < 18446744073709551616
  laid_below hr hs hb = omega arith

low_byte : (e c m r s b : ℕ) → e < 16 → laid e c m r s b % 256 ≡ 16 * e
low_byte e c m r s b h = omega arith

-- one digit of a number in mixed radix, and all of a status
digit : (s a k : ℕ) → s / (a * k) * k + s / a % k ≡ s / a
digit s a k = rw (← div-div-eq-div-mul) (div-add-mod' (s / a) k)

bit-sum : (n a b c x y z : ℕ) → a * 2 + x ≡ n → b * 2 + y ≡ a → c * 2 + z ≡ b → x + 2 * (y + 2 * z) + 8 * c ≡ n
bit-sum n a b c x y z p q r = omega arith

pub settings_same : (b m : ℕ) → settings_shaped b ≡ true → settings_byte (settings_of b m) ≡ b
settings_same b m h =
    rw (one_odd b, one_odd (b / 2), one_odd (b / 4), form_number_lem (b / 8) h)
    (bit-sum b (b / 2) (b / 4) (b / 8) (b % 2) (b / 2 % 2) (b / 4 % 2) (div-add-mod' b 2) (digit b 2 2) (digit b 4 2))

sum : (n a b c d f g h e x t y m z v o : ℕ) → a * 16 + x ≡ n → b * 16 + e ≡ a → c * 8 + t ≡ b → d * 2 + y ≡ c → f * 4 + m ≡ d → g * 4 + z ≡ f
    → h * 256 + v ≡ g → x ≡ 0 → y ≡ 0 → z ≡ 0
    → (b' : ℕ) → b' * 65536 + o ≡ h → laid e t m v o b' ≡ n
sum n a b c d f g h e x t y m z v o p1 p2 p3 p4 p5 p6 p7 q1 q2 q3 b' p8 = omega arith

status_parts : (s : ℕ) → s % 16 ≡ 0 → s / 2048 % 2 ≡ 0 → s / 16384 % 4 ≡ 0
    → laid (s / 16 % 16) (s / 256 % 8) (s / 4096 % 4) (s / 65536 % 256) (s / 16777216 % 65536) (s / 1099511627776) ≡ s
status_parts s p q r =
    sum s (s / 16) (s / 256) (s / 2048) (s / 4096) (s / 16384) (s / 65536) (s / 16777216) (s / 16 % 16) (s % 16) (s / 256 % 8) (s / 2048 % 2)
    (s / 4096 % 4) (s / 16384 % 4) (s / 65536 % 256) (s / 16777216 % 65536) (div-add-mod' s 16) (digit s 16 16) (digit s 256 8) (digit s 2048 2)
    (digit s 4096 4) (digit s 16384 4) (digit s 65536 256) p q r (s / 1099511627776) (digit s 16777216 65536)

-- ---- the fields of an image

module _ (d : Device) where
  at0 : field (image_of d) 0 8 % 1099511627776 ≡ 0x0001544742
  unfolding image_of unit_bytes front digits field bytes_from value
  at0 = omega arith

  at5 : field (image_of d) 5 8 ≡ value (digits 8 (packed_of d.units).status)
  unfolding image_of unit_bytes front digits field bytes_from
  at5 = refl

  at13 : field (image_of d) 13 3 ≡ 0
  unfolding image_of unit_bytes front digits field bytes_from value
  at13 = refl

  at16 : field (image_of d) 16 8 ≡ value (digits 8 (packed_of d.units).cu)
  unfolding image_of unit_bytes front digits field bytes_from
  at16 = refl

  at24 : field (image_of d) 24 8 ≡ value (digits 8 (packed_of d.units).ru)
  unfolding image_of unit_bytes front digits field bytes_from
  at24 = refl

  at32 : field (image_of d) 32 8 ≡ value (digits 8 (packed_of d.units).rest)
  unfolding image_of unit_bytes front digits field bytes_from
  at32 = refl

  -- from byte 40 on: spare, and from byte 240 on the setup
  behind : (at n : ℕ) → bytes_from (image_of d) (40 + at) n ≡ bytes_from (replicate 200 0 ++ setup_bytes (setup_of d)) at n
  unfolding image_of
  behind at n = rw (length_units (packed_of d.units)) at (second_of (unit_bytes (packed_of d.units)) (replicate 200 0 ++ setup_bytes (setup_of d)) at n)

  spare_back : bytes_from (image_of d) 40 200 ≡ replicate 200 0
  spare_back = behind 0 200 ∙ first_of (replicate 200 0) (setup_bytes (setup_of d))

  pub set_behind : (at n : ℕ) → bytes_from (image_of d) (240 + at) n ≡ bytes_from (setup_bytes (setup_of d)) at n
  set_behind at n =
      let e : 240 + at ≡ 40 + (200 + at) = omega arith in
      rw e (behind (200 + at) n ∙ second_of (replicate 200 0) (setup_bytes (setup_of d)) at n)

  at240 : field (image_of d) 240 1 ≡ settings_byte d.units.settings
  unfolding field setup_bytes
  at240 = rw (set_behind 0 1) (field_one (setup_bytes (setup_of d)) 0)

  at241 : field (image_of d) 241 1 ≡ d.units.settings.minimum
  unfolding field setup_bytes
  at241 = rw (set_behind 1 1) (field_one (setup_bytes (setup_of d)) 1)

  module _ (h : Wide d) where
    own_back : bytes_from (image_of d) 242 6 ≡ d.own
    unfolding setup_bytes
    own_back =
        set_behind 2 6
        ∙ from_cons _ (d.units.settings.minimum ∷ (d.own ++ digits 8 d.filter)) 1 6
        ∙ from_cons _ (d.own ++ digits 8 d.filter) 0 6
        ∙ rw h.own at (first_of d.own (digits 8 d.filter))

    digits_back : bytes_from (image_of d) 248 8 ≡ digits 8 d.filter
    unfolding setup_bytes
    digits_back =
        let f = digits 8 d.filter in
        set_behind 8 8
        ∙ from_cons _ (d.units.settings.minimum ∷ (d.own ++ f)) 7 8
        ∙ from_cons _ (d.own ++ f) 6 8
        ∙ rw h.own at (second_of d.own f 0 8)
        ∙ rw (length_digits 8 d.filter) at (whole f)

    filter_back : field (image_of d) 248 8 ≡ d.filter
    unfolding field
    filter_back = rw digits_back (fit 8 d.filter h.filter)

    pub device_back_from : (u : Units) → device_from (image_of d) u ≡ record { units = u; own = d.own; filter = d.filter }
    unfolding device_from
    device_back_from u = rw (own_back, filter_back)

-- ---- an image is decoded to its state

-- what a range says of a frame, and of one being filled
module _ (f : Frame) (e : frame_fits f ≡ true) where
  frame_sized : (form_fits f.form ≡ true) × (sized_from (header f.form.length) f.length ≡ true)
  unfolding frame_fits
  frame_sized = both (form_fits f.form) (sized_from (header f.form.length) f.length) (both _ (is_good f || f.savebad) e).0

  pub frame_form : FormWide f.form
  frame_form = leb-true _ _ frame_sized.0

  frame_length : f.length ≤ 2048
  frame_length = leb-true _ _ (both (leb (header f.form.length) f.length) (leb f.length 2048) frame_sized.1).1

pub holding_wide : (u : Ru) → ru_fits u ≡ true → HoldingWide u
unfolding ru_fits
holding_wide ru.Idle e = tt
holding_wide ru.NoResources e = tt
holding_wide (ru.Suspended o) e = tt
holding_wide (ru.Ready o) e = tt
holding_wide (ru.Held o f p) e = frame_form f e
holding_wide (ru.Filling s w) e =
    let x = both _ (ltb w.filled s.frame.length) e in
    let y = both _ (leb (unbuffered s.frame.form) w.filled) x.0 in
    let z = both (frame_fits s.frame) _ y.0 in
    let p : w.filled < s.frame.length = ltb-true _ _ x.1 in
    let q : s.frame.length ≤ 2048 = frame_length s.frame z.0 in
    let t : w.used ≤ 63 = leb-true _ _ (both (leb w.used 63) (not (is_none w.next)) z.1).0 in
    (frame_form s.frame z.0, omega arith, omega arith)
holding_wide (ru.Closing s o full) e = frame_form s.frame (both (frame_fits s.frame) _ e).0
holding_wide (ru.Lacking s) e = frame_form s.frame (both (frame_fits s.frame) _ e).0

pub fit_base : (u : Units) → units_fit u ≡ true → u.base.0 < 16777216
unfolding units_fit
fit_base u e =
    let x = both (ltb u.base.0 16777216 && form_fits u.settings.form) (cu_fits u.settings.form u.cu) (both _ (ru_fits u.ru) e).0 in
    ltb-true _ _ (both (ltb u.base.0 16777216) (form_fits u.settings.form) x.0).0

pub fit_form : (u : Units) → units_fit u ≡ true → FormWide u.settings.form
unfolding units_fit
fit_form u e =
    let x = both (ltb u.base.0 16777216 && form_fits u.settings.form) (cu_fits u.settings.form u.cu) (both _ (ru_fits u.ru) e).0 in
    leb-true _ _ (both (ltb u.base.0 16777216) (form_fits u.settings.form) x.0).1

pub fit_ru : (u : Units) → units_fit u ≡ true → ru_fits u.ru ≡ true
unfolding units_fit
fit_ru u e = (both (ltb u.base.0 16777216 && form_fits u.settings.form && cu_fits u.settings.form u.cu) (ru_fits u.ru) e).1

-- the numbers of a state have eight bytes
module _ (u : Units) (h : UnitsWide u) where
  status_tests : (status_of u % 16 ≡ 0) × (status_of u / 2048 % 2 ≡ 0) × (status_of u / 16384 % 4 ≡ 0) × (status_of u < 18446744073709551616)
  status_tests =
      let f = marks_of u in
      let p : f / 16 < 16 = omega (arith, marks_below u.initialised u.rulast u.events) in
      let q : f % 4 < 4 = omega arith in
      let c = cu_tag_below u.cu in
      let v : ru_tag u.ru < 256 = omega (arith, ru_tag_below u.ru) in (
        laid_low (f / 16) (cu_tag u.cu) (f % 4) (ru_tag u.ru) u.scb.0 u.base.0 p c q,
        laid_third (f / 16) (cu_tag u.cu) (f % 4) (ru_tag u.ru) u.scb.0 u.base.0 p c q,
        laid_high (f / 16) (cu_tag u.cu) (f % 4) (ru_tag u.ru) u.scb.0 u.base.0 p c q,
        laid_below (f / 16) (cu_tag u.cu) (f % 4) (ru_tag u.ru) u.scb.0 u.base.0 p c q v h.scb_wide h.base_wide,
      )

-- the numbers of a state lead back to it
pub units_by_lem : (u : Units) (k : Packed) → PackedIs u k → units_by k u.settings ≡ u
unfolding units_by
units_by_lem u k h =
    rw (
      initialised_is u k h,
      base_is u k h,
      scb_is u k h,
      events_is u k h,
      events_back u.events,
      rulast_is u k h,
      cu_of_lem u.cu (cu_tag_in k) k.cu (cu_is_lem u k h),
      ru_of_lem u.ru (ru_tag_in k) k.ru k.rest (ru_is_lem u k h),
    )

module _ (d : Device) (h : Wide d) (e : units_fit d.units ≡ true) where
  pub wide_units : UnitsWide d.units
  wide_units =
      record {
        scb_wide = h.scb;
        base_wide = fit_base d.units e;
        cu_wide = h.cu;
        ru_wide = h.ru;
        holding_wide = holding_wide d.units.ru (fit_ru d.units e);
      }

  kept_back : packed_at (image_of d) ≡ packed_of d.units
  unfolding packed_at packed_of
  kept_back =
      rw (
        at5 d ∙ fit 8 _ (status_tests d.units wide_units).3,
        at16 d ∙ fit 8 _ (number_below (cu_word d.units.cu) h.cu),
        at24 d ∙ fit 8 _ (number_below (ru_word d.units.ru) h.ru),
        at32 d ∙ fit 8 _ (omega (arith, rest_below d.units.ru wide_units.holding_wide)),
      )

  -- the numbers that stand in it are the state's
  pub kept_is : PackedIs d.units (packed_at (image_of d))
  kept_is = record { same = kept_back; wide = wide_units }

  pub units_back : units_at (image_of d) ≡ d.units
  unfolding units_at
  units_back = rw (at240 d, at241 d, settings_back d.units.settings (fit_form d.units e)) (units_by_lem d.units (packed_at (image_of d)) kept_is)

  is5 : field (image_of d) 5 8 ≡ status_of d.units
  unfolding packed_of
  is5 = at5 d ∙ fit 8 _ (status_tests d.units wide_units).3

  head_true : head_shaped (image_of d) ≡ true
  unfolding head_shaped
  head_true =
      let t = status_tests d.units wide_units in
      rw (
        at0 d,
        is5,
        eq-eqb _ 0 t.0,
        eq-eqb _ 0 t.1,
        eq-eqb _ 0 t.2,
        at240 d,
        form_in_settings d.units.settings,
        form_shaped_lem d.units.settings.form,
      )

  units_true : units_shaped (image_of d) ≡ true
  unfolding units_shaped
  units_true =
      let c = cu_is_lem d.units (packed_at (image_of d)) kept_is in
      let v = ru_is_lem d.units (packed_at (image_of d)) kept_is in
      rw (
        c.tag_is,
        c.word_is,
        v.tag_is,
        v.word_is,
        v.rest_is,
        cu_shaped_lem d.units.cu h.cu,
        ru_shaped_lem d.units.ru h.ru (rest_below d.units.ru wide_units.holding_wide),
      )

  spare_true : spare_zero (image_of d) ≡ true
  unfolding spare_zero field value
  spare_true = rw (at13 d, spare_back d)

  shaped_true : shaped (image_of d) ≡ true
  unfolding shaped
  shaped_true = rw (head_true, units_true, spare_true)

module _ (d : Device) (h : Wide d) (e : in_range d ≡ true) where
  pub fits : units_fit d.units ≡ true
  unfolding in_range
  fits = (both (units_fit d.units) (initialised_or_fresh d) e).0

  -- the image of a state in range is decoded to its units
  pub decode_image : decode_of (image_of d) ≡ is.Units d.units
  unfolding range_from
  decode_image =
      let b = units_back d h fits in
      let l : length (image_of d) ≡ 256 = length_image d h.own in
      let k : range_from (image_of d) (units_at (image_of d)) ≡ true = rw (b, device_back_from d h d.units) e in
      sym (decode_full_lem (image_of d) l) ∙ sym (full_taken (image_of d) (shaped_true d h fits) k) ∙ rw b

-- with the addresses that stand in it, it is decoded to the whole state
pub device_back : (d : Device) → Wide d → device_at (image_of d) d.units ≡ d
device_back d h = sym (device_full (image_of d) d.units (length_image d h.own)) ∙ device_back_from d h d.units

-- ---- what is decoded is the image of its state

-- an image and a record, in the same pieces
flat : (k : Packed) (u : Units) (own : List ℕ) (filter : ℕ)
    → unit_bytes k ++ (replicate 200 0 ++ setup_bytes (record { settings = u.settings; own = own; filter = filter }))
    ≡ digits 5 0x0001544742
    ++ (digits 8 k.status
    ++ (replicate 3 0
    ++ (digits 8 k.cu
    ++ (digits 8 k.ru
    ++ (digits 8 k.rest
    ++ (replicate 200 0
    ++ (settings_byte u.settings ∷ (u.settings.minimum ∷ (own ++ digits 8 filter)))))))))
unfolding unit_bytes front digits setup_bytes
flat k u own filter = refl

cut : (r : List ℕ)
    → bytes_from r 0 256
    ≡ bytes_from r 0 5
    ++ (bytes_from r 5 8
    ++ (bytes_from r 13 3
    ++ (bytes_from r 16 8
    ++ (bytes_from r 24 8
    ++ (bytes_from r 32 8
    ++ (bytes_from r 40 200
    ++ (get_or r 240 0 ∷ (get_or r 241 0 ∷ (bytes_from r 242 6 ++ bytes_from r 248 8)))))))))
unfolding bytes_from
cut r = refl

marks_same : (m e : ℕ) → m < 4 → e < 16 → let f = m + 16 * e in marks_by (odd f) (odd (f / 2)) (events_of (f / 16)) ≡ f
marks_same m e p q =
    let f = m + 16 * e in
    let x : f / 16 ≡ e = omega arith in
    let y : f % 2 ≡ m % 2 = omega arith in
    let h : f / 2 ≡ m / 2 + 8 * e = omega arith in
    let z : f / 2 % 2 ≡ m / 2 % 2 = rw h (omega arith) in
    let w : one (odd f) + 2 * one (odd (f / 2)) + 16 * event_bits (events_of (f / 16)) ≡ f % 2 + 2 * (f / 2 % 2) + 16 * e =
    rw (one_odd f, one_odd (f / 2), x, events_same e q) in
    w ∙ omega arith

module _ (r : List ℕ) (e : shaped r ≡ true) where
  head_is : head_shaped r ≡ true
  unfolding shaped
  head_is = (both (head_shaped r) (units_shaped r) (both (head_shaped r && units_shaped r) (spare_zero r) e).0).0

  units_are : units_shaped r ≡ true
  unfolding shaped
  units_are = (both (head_shaped r) (units_shaped r) (both (head_shaped r && units_shaped r) (spare_zero r) e).0).1

  spare_is : spare_zero r ≡ true
  unfolding shaped
  spare_is = (both (head_shaped r && units_shaped r) (spare_zero r) e).1

  -- the tests of the head, one by one
  pub front_test : field r 0 8 % 1099511627776 ≡ 0x0001544742
  unfolding head_shaped
  front_test = eqb-true _ _ (both (eqb (field r 0 8 % 1099511627776) 0x0001544742) (status_is (field r 5 8)) (both _ (settings_shaped (field r 240 1)) head_is).0).0

  status_test : status_is (field r 5 8) ≡ true
  unfolding head_shaped
  status_test = (both (eqb (field r 0 8 % 1099511627776) 0x0001544742) (status_is (field r 5 8)) (both _ (settings_shaped (field r 240 1)) head_is).0).1

  pub settings_test : settings_shaped (field r 240 1) ≡ true
  unfolding head_shaped
  settings_test = (both (eqb (field r 0 8 % 1099511627776) 0x0001544742 && status_is (field r 5 8)) (settings_shaped (field r 240 1)) head_is).1

  pub cu_shape : cu_shaped (cu_tag_in (packed_at r)) (packed_at r).cu ≡ true
  unfolding units_shaped
  cu_shape = (both (cu_shaped (cu_tag_in (packed_at r)) (packed_at r).cu) (ru_shaped (ru_tag_in (packed_at r)) (packed_at r).ru (packed_at r).rest) units_are).0

  pub ru_shape : ru_shaped (ru_tag_in (packed_at r)) (packed_at r).ru (packed_at r).rest ≡ true
  unfolding units_shaped
  ru_shape = (both (cu_shaped (cu_tag_in (packed_at r)) (packed_at r).cu) (ru_shaped (ru_tag_in (packed_at r)) (packed_at r).ru (packed_at r).rest) units_are).1

  cu_same_at : Same (cu_tag_in (packed_at r)) (packed_at r).cu (cu_tag (units_at r).cu) (cu_word (units_at r).cu)
  unfolding units_at units_by
  cu_same_at = cu_same (cu_tag_in (packed_at r)) (packed_at r).cu cu_shape

  ru_same_at : RuSame (ru_tag_in (packed_at r)) (packed_at r).ru (packed_at r).rest (units_at r).ru × (number_of (ru_word (units_at r).ru) ≡ (packed_at r).ru)
  unfolding units_at units_by
  ru_same_at = ru_same (ru_tag_in (packed_at r)) (packed_at r).ru (packed_at r).rest ru_shape

  marks_are : marks_of (units_at r) ≡ marks_in (packed_at r)
  unfolding units_at units_by
  marks_are = marks_same ((packed_at r).status / 4096 % 4) ((packed_at r).status / 16 % 16) (omega arith) (omega arith)

  scb_at_lem : (units_at r).scb.0 ≡ (packed_at r).status / 16777216 % 65536
  unfolding units_at units_by
  scb_at_lem = refl

  base_at : (units_at r).base.0 ≡ (packed_at r).status / 1099511627776
  unfolding units_at units_by
  base_at = refl

  pub status_same : status_of (units_at r) ≡ (packed_at r).status
  unfolding packed_at
  status_same =
      let s = (packed_at r).status in
      let t = both _ (eqb (s / 16384 % 4) 0) status_test in
      let v = both (eqb (s % 16) 0) (eqb (s / 2048 % 2) 0) t.0 in
      let f : marks_in (packed_at r) / 16 ≡ s / 16 % 16 = omega arith in
      let g : marks_in (packed_at r) % 4 ≡ s / 4096 % 4 = omega arith in
      rw (marks_are, cu_same_at.tag_same, ru_same_at.0.tag_same, scb_at_lem, base_at, f, g)
      (status_parts s (eqb-true _ _ v.0) (eqb-true _ _ v.1) (eqb-true _ _ t.1))

  -- the numbers of what is read are those that stand there
  pub kept_same : packed_of (units_at r) ≡ packed_at r
  unfolding packed_of
  kept_same = rw (status_same, cu_same_at.number_same, ru_same_at.1, ru_same_at.0.rest_same)

module _ (r : List ℕ) (l : length r ≡ 256) (b : Bytes r) (e : shaped r ≡ true) where
  front_is_lem : bytes_from r 0 5 ≡ digits 5 0x0001544742
  unfolding field
  front_is_lem =
      let p = field_below r b 0 5 in
      let v : field r 0 8 ≡ field r 0 5 + 1099511627776 * field r 5 3 = rw (from_append r 0 5 3, value_append, length_from) in
      let q : field r 0 5 ≡ 0x0001544742 = omega (arith, front_test r e) in
      piece r b 0 5 ∙ rw q

  spare_none : (bytes_from r 13 3 ≡ replicate 3 0) × (bytes_from r 40 200 ≡ replicate 200 0)
  unfolding spare_zero
  spare_none =
      let t = both (eqb (field r 13 3) 0) (eqb (field r 40 200) 0) (spare_is r e) in
      let p : field r 13 3 ≡ 0 = eqb-true _ _ t.0 in
      let q : field r 40 200 ≡ 0 = eqb-true _ _ t.1 in
      (piece r b 13 3 ∙ rw p (digits_zero 3), piece r b 40 200 ∙ rw q (digits_zero 200))

  settings_are : settings_byte (units_at r).settings ≡ get_or r 240 0
  unfolding units_at units_by
  settings_are = settings_same (field r 240 1) (field r 241 1) (settings_test r e) ∙ field_one r 240

  minimum_is : (units_at r).settings.minimum ≡ get_or r 241 0
  unfolding units_at units_by
  minimum_is = field_one r 241

  -- a record that is shaped is the image of what it is read as
  exact_from : r ≡ image_of (device_from r (units_at r))
  unfolding device_from image_of packed_at
  exact_from =
      sym (rw l at (whole r))
      ∙ cut r
      ∙ rw (
        kept_same r e,
        flat (packed_at r) (units_at r) (bytes_from r 242 6) (field r 248 8),
        settings_are,
        minimum_is,
        front_is_lem,
        spare_none.0,
        spare_none.1,
        piece r b 5 8,
        piece r b 16 8,
        piece r b 24 8,
        piece r b 32 8,
        piece r b 248 8,
      )

  wide_from : Wide (device_from r (units_at r))
  unfolding device_from units_at units_by packed_at
  wide_from =
      record {
        scb = omega arith;
        minimum = field_below r b 241 1;
        cu = rw (cu_same_at r e).word_same (wide_of (field r 16 8) (field_below r b 16 8));
        ru = rw (ru_same_at r e).0.word_same (wide_of (field r 24 8) (field_below r b 24 8));
        own = length_from r 242 6;
        own_bytes_lem = (from_bytes r 242 6 b).each;
        filter = field_below r b 248 8;
      }

-- ---- the statements

times16 : (n : ℕ) → eqb n 0 ≡ eqb (16 * n) 0
times16 zero = refl
times16 (suc n) = ne_eqb (suc n) 0 (λ e. omega arith) ∙ sym (ne_eqb (16 * suc n) 0 (λ e. omega arith))

all_below : (v n : ℕ) → v < 256 → (i : ℕ) → get_or (replicate n v) i 0 < 256
all_below v zero h i = omega arith
all_below v (suc n) h zero = h
all_below v (suc n) h (suc i) = all_below v n h i

-- what is known of a record that is decoded to units
pub record Image (r : List ℕ) (u : Units) : Type 0 where
  pub range : in_range (device_at r u) ≡ true
  pub wide : Wide (device_at r u)
  pub same : r ≡ image_of (device_at r u)

told_range : (r : List ℕ) (x : Bool) → range_from r (units_at r) ≡ x → shaped r ≡ true → (u : Units) → decode_full r ≡ is.Units u
    → (range_from r (units_at r) ≡ true) × (u ≡ units_at r)
told_range r true q p u d = (q, cc (full_taken r p q))
told_range r false q p u d = let z : ◌≡◌ {A = ℕ} 0 1 = cc (full_out r p q) in absurd (omega arith)

told : (r : List ℕ) (x : Bool) → shaped r ≡ x → (u : Units) → decode_full r ≡ is.Units u
    → (shaped r ≡ true) × (range_from r (units_at r) ≡ true) × (u ≡ units_at r)
told r true p u d = let t = told_range r (range_from r (units_at r)) refl p u d in (p, t.0, t.1)
told r false p u d = let z : ◌≡◌ {A = ℕ} 0 1 = cc (full_other r p) in absurd (omega arith)

-- what is decoded to units is, with the addresses that stand in it, the image of a state in range, all 256 bytes
pub exact : (r : List ℕ) → length r ≡ 256 → Bytes r → (u : Units) → decode_of r ≡ is.Units u → Image r u
unfolding range_from
exact r l b u d =
    let t = told r (shaped r) refl u (decode_full_lem r l ∙ d) in
    let v = device_full r (units_at r) l in
    rw t.2 (record { range = rw (← v) t.1; wide = rw (← v) (wide_from r l b t.0); same = rw (← v) (exact_from r l b t.0) })

-- a foreign record is the image of no state in range
pub foreign_exact : (r : List ℕ) → decode_of r ≡ is.Foreign → (d : Device) → Wide d → in_range d ≡ true → r ≡ image_of d → ⊥
foreign_exact r f d h e q =
    let k : decode_of r ≡ is.Units d.units = rw q (decode_image d h e) in
    let z : ◌≡◌ {A = ℕ} 0 1 = cc in
    omega arith

-- one encoding for each state: states whose images are equal are equal
pub one_state : (d e : Device) → Wide d → in_range d ≡ true → Wide e → in_range e ≡ true → image_of d ≡ image_of e → d ≡ e
one_state d e h p k q same =
    let x = decode_image d h p in
    let y = decode_image e k q in
    let u : d.units ≡ e.units = cc in
    sym (device_back d h) ∙ rw (same, u) (device_back e k)

-- what stands in byte 5: the events, CX the highest bit, and nothing else
pub events_at_lem : (d : Device) → get_or (image_of d) 5 0 ≡ 16 * event_bits d.units.events
unfolding image_of unit_bytes front digits packed_of
events_at_lem d =
    let u = d.units in
    let f : marks_of u / 16 ≡ event_bits u.events = omega (arith, one_below u.initialised, one_below u.rulast) in
    rw f
    (low_byte (event_bits u.events) (cu_tag u.cu) (marks_of u % 4) (ru_tag u.ru) u.scb.0 u.base.0 (events_below u.events))

-- the interrupt is high while byte 5 is not 0
pub level : (d : Device) → any_of d.units.events ≡ not (eqb (get_or (image_of d) 5 0) 0)
level d = any_bits d.units.events ∙ rw (events_at_lem d, times16 (event_bits d.units.events))

-- ---- the fresh state

pub fresh_range : in_range fresh ≡ true
unfolding in_range units_fit cu_fits ru_fits initialised_or_fresh units_fresh event_bits joined value
fresh_range = refl

pub fresh_wide : Wide fresh
unfolding cu_word ru_word
fresh_wide =
    record {
      scb = omega arith;
      minimum = omega arith;
      cu = record { at = omega arith; kind = omega arith; size = omega arith; next = omega arith };
      ru = record { at = omega arith; kind = omega arith; size = omega arith; next = omega arith };
      own = refl;
      own_bytes_lem = all_below 255 6 (omega arith);
      filter = omega arith;
    }

-- before the first attention there is one state
idle_cu : (c : Cu) → eqb (cu_number (cu_state c)) 0 ≡ true → c ≡ cu.Idle
idle_cu cu.Idle e = refl
idle_cu (cu.Suspended o) e = absurd (never e)
idle_cu (cu.Waiting o) e = absurd (never e)
idle_cu (cu.Acting b a) e = absurd (never e)
idle_cu (cu.Sending b w) e = absurd (never e)
idle_cu (cu.Ending b n) e = absurd (never e)
idle_cu (cu.Failing b) e = absurd (never e)

idle_ru : (u : Ru) → eqb (ru_number (ru_state u)) 0 ≡ true → u ≡ ru.Idle
idle_ru ru.Idle e = refl
idle_ru ru.NoResources e = absurd (never e)
idle_ru (ru.Suspended o) e = absurd (never e)
idle_ru (ru.Ready o) e = absurd (never e)
idle_ru (ru.Held o f p) e = absurd (never e)
idle_ru (ru.Filling s w) e = absurd (never e)
idle_ru (ru.Closing s o full) e = absurd (never e)
idle_ru (ru.Lacking s) e = absurd (never e)

no_events_lem : (e : Events) → event_bits e ≡ 0 → e ≡ no_events
no_events_lem e h = sym (events_back e) ∙ rw h

pub units_fresh_lem : (u : Units) → u.initialised ≡ false → units_fresh u ≡ true → u ≡ fresh_units
unfolding units_fresh
units_fresh_lem u i e =
    let idle = both _ (units_idle u.cu u.ru) e in
    let settings = both _ (settings_fresh u.settings) idle.0 in
    let scb = both _ (eqb u.scb.0 0) settings.0 in
    let base = both _ (eqb u.base.0 0) scb.0 in
    let last = both (eqb (event_bits u.events) 0) (not u.rulast) base.0 in
    let s = u.settings in
    let form = both _ (form_fresh s.form) settings.1 in
    let length = both (eqb s.form.length 6) (not s.form.location) form.1 in
    let minimum = both _ (eqb s.minimum 64) form.0 in
    let broadcast = both _ (not s.nobroadcast) minimum.0 in
    let save = both (not s.savebad) (not s.promiscuous) broadcast.0 in
    let units = both (eqb (cu_number (cu_state u.cu)) 0) (eqb (ru_number (ru_state u.ru)) 0) idle.1 in
    rw (
      i,
      no_events_lem u.events (eqb-true (event_bits u.events) 0 last.0),
      not-true u.rulast last.1,
      eqb-true u.base.0 0 base.1,
      eqb-true u.scb.0 0 scb.1,
      not-true s.savebad save.0,
      not-true s.promiscuous save.1,
      not-true s.nobroadcast broadcast.1,
      eqb-true s.minimum 64 minimum.1,
      eqb-true s.form.length 6 length.0,
      not-true s.form.location length.1,
      idle_cu u.cu units.0,
      idle_ru u.ru units.1,
    )

spelled : (l : List ℕ) (n v : ℕ) → Bytes l → length l ≡ n → value l ≡ v → l ≡ digits n v
spelled l n v b p q = sym (rw (p, q) at (digits_value l b))

six_ff : digits 6 0xFFFFFFFFFFFF ≡ replicate 6 255
unfolding digits
six_ff = refl

or_second : (a b : Bool) → a ≡ false → (a || b) ≡ true → b ≡ true
or_second true b i e = absurd (never (sym i))
or_second false b i e = e

pub one_fresh : (d : Device) → Wide d → in_range d ≡ true → d.units.initialised ≡ false → d ≡ fresh
unfolding in_range initialised_or_fresh
one_fresh d h e i =
    let x = or_second d.units.initialised (units_fresh d.units && addressing_fresh d) i (both (units_fit d.units) (initialised_or_fresh d) e).1 in
    let y = both (units_fresh d.units) (addressing_fresh d) x in
    let z = both (eqb (value d.own) 0xFFFFFFFFFFFF) (eqb d.filter 0) y.1 in
    rw (
      units_fresh_lem d.units i y.0,
      spelled d.own 6 0xFFFFFFFFFFFF (record { each = h.own_bytes_lem }) h.own (eqb-true _ _ z.0),
      eqb-true d.filter 0 z.1,
      six_ff,
    )

-- ---- every element of an image is a byte

append_bytes : (xs ys : List ℕ) → Bytes xs → Bytes ys → Bytes (xs ++ ys)
append_bytes [] ys p q = q
append_bytes (x ∷ xs) ys p q = bytes_cons x (xs ++ ys) (p.each 0) (append_bytes xs ys (bytes_tail x xs p) q)

spelt : (n v : ℕ) (ys : List ℕ) → Bytes ys → Bytes (digits n v ++ ys)
spelt n v ys q = append_bytes (digits n v) ys (digits_bytes n v) q

pub image_bytes : (d : Device) → Wide d → Bytes (image_of d)
unfolding image_of
image_bytes d h =
    let k = packed_of d.units in
    rw (flat k d.units d.own d.filter)
    (spelt 5 0x0001544742 _ (spelt 8 k.status _ (append_bytes (replicate 3 0) _ (record { each = all_below 0 3 (omega arith) })
    (spelt 8 k.cu _ (spelt 8 k.ru _ (spelt 8 k.rest _
    (append_bytes (replicate 200 0) _ (record { each = all_below 0 200 (omega arith) })
    (bytes_cons _ _ (omega (arith, setting_below d.units.settings)) (bytes_cons _ _ h.minimum
    (append_bytes d.own (digits 8 d.filter) (record { each = h.own_bytes_lem }) (digits_bytes 8 d.filter)))))))))))
