-- The tests that the code makes of a record are the layout and the ranges, and what it decodes is the state. Assumes nothing.
use mathlib.Core.Path.{◌≡◌, refl, sym, ap, ◌∙◌}
use mathlib.Core.Bool.{Bool, true, false, ◌&&◌, ◌||◌}
use mathlib.Core.List.{List}
use Prim.Native.Nat.{ℕ, ◌/◌, ◌<◌}
use native.Mathlib.Omega.{arith}
use borrow.Author.Tests.{eqb-true, lt-ltb, le-leb, eq-eqb}
use lib.Dec.{eqb, leb, ltb}
use lib.ListN.{length}
use Rattle.memory.specs.Memory.{value}
use Rattle.scb.specs.Words.{joined, event_bits}
use Rattle.device.specs.State.{fresh_units}
use Rattle.device.specs.declared.Units.{Units}
use Rattle.numerals.specs.Places.{bytes_from, field}
use Rattle.phases.specs.Fields.{odd}
use Rattle.phases.specs.Forms.{form_number, form_of}
use Rattle.phases.specs.Phases.{word_of, cu_of, cu_shaped, ru_of, ru_shaped}
use Rattle.phases.proofs.Units.{both, form_wide}
use Rattle.packed.specs.Packed.{status_of, status_is, marks_in, cu_tag_in, ru_tag_in}
use Rattle.packed.specs.SetUp.{settings_byte, settings_shaped}
use Rattle.image.specs.Ranges.{cu_fits, ru_fits, units_fit, units_fresh, addressing_fresh, initialised_or_fresh, in_range}
use Rattle.image.specs.Found as is
use Rattle.image.specs.Image.{packed_at, units_by, units_at, device_from, front_is, head_shaped, units_shaped, spare_zero, shaped, range_from, imaged, decode_full, decode_of, decoded_by}
use Rattle.image.specs.Numbers.{form_is, cu_is, ru_is, words_are, fresh_at, tested}
use Rattle.std.proofs.Common.{Some, None}
use Rattle.image.proofs.Steps.{decode_full_lem, decode_other, full_taken}
use Rattle.image.proofs.Units.{same}
use Rattle.image.proofs.Exact.{settings_same, status_same, settings_test, kept_same, units_fresh_lem}

or_else : (i x f : Bool) → (i ≡ false → x ≡ f) → (i || x) ≡ (i || f)
or_else true x f h = refl
or_else false x f h = h refl

module _ (r : List ℕ) where
  initialised_at_lem : (units_at r).initialised ≡ odd (marks_in (packed_at r))
  unfolding units_at units_by
  initialised_at_lem = refl

  settings_are : shaped r ≡ true → settings_byte (units_at r).settings ≡ field r 240 1
  unfolding units_at units_by
  settings_are g = settings_same (field r 240 1) (field r 241 1) (settings_test r g)

  minimum_is : (units_at r).settings.minimum ≡ field r 241 1
  unfolding units_at units_by
  minimum_is = refl

  -- before the first attention: the state is fresh exactly if the bytes are
  fresh_state : (units_at r).initialised ≡ false → shaped r ≡ true → (units_fresh (units_at r) && addressing_fresh (device_from r (units_at r))) ≡ true → fresh_at r ≡ true
  unfolding fresh_at device_from field packed_at event_bits joined form_number
  fresh_state i h e =
      let x = both (units_fresh (units_at r)) (addressing_fresh (device_from r (units_at r))) e in
      let y = both (eqb (value (bytes_from r 242 6)) 0xFFFFFFFFFFFF) (eqb (field r 248 8) 0) x.1 in
      let p : units_at r ≡ fresh_units = units_fresh_lem (units_at r) i x.0 in
      let s : field r 5 8 ≡ 0 = sym (status_same r h) ∙ ap (λ (u : Units). status_of u) p in
      let b : field r 240 1 ≡ 0 = sym (settings_are h) ∙ ap (λ (u : Units). settings_byte u.settings) p in
      let m : field r 241 1 ≡ 64 = sym minimum_is ∙ ap (λ (u : Units). u.settings.minimum) p in
      rw (eq-eqb (field r 5 8) 0 s, eq-eqb (field r 240 1) 0 b, eq-eqb (field r 241 1) 64 m, y.0, y.1)

  own_is : eqb (field r 242 6) 0xFFFFFFFFFFFF ≡ true → eqb (value (bytes_from r 242 6)) 0xFFFFFFFFFFFF ≡ true
  unfolding field
  own_is h = h

  fresh_bytes : fresh_at r ≡ true → (units_fresh (units_at r) && addressing_fresh (device_from r (units_at r))) ≡ true
  unfolding fresh_at units_fresh units_at units_by packed_at device_from cu_of ru_of event_bits joined form_of
  fresh_bytes e =
      let v = both _ (eqb (field r 248 8) 0) e in
      let w = both _ (eqb (field r 242 6) 0xFFFFFFFFFFFF) v.0 in
      let x = both _ (eqb (field r 241 1) 64) w.0 in
      let y = both (eqb (field r 5 8) 0) (eqb (field r 240 1) 0) x.0 in
      let s : field r 5 8 ≡ 0 = eqb-true _ _ y.0 in
      let b : field r 240 1 ≡ 0 = eqb-true _ _ y.1 in
      rw (s, b, x.1, own_is w.1, v.1)

  fresh_same : shaped r ≡ true → initialised_or_fresh (device_from r (units_at r)) ≡ (odd (marks_in (packed_at r)) || fresh_at r)
  unfolding initialised_or_fresh device_from
  fresh_same h =
      or_else (units_at r).initialised (units_fresh (units_at r) && addressing_fresh (device_from r (units_at r))) (fresh_at r)
      (λ i. same (units_fresh (units_at r) && addressing_fresh (device_from r (units_at r))) (fresh_at r) (fresh_state i h) fresh_bytes)
      ∙ ap (λ (x : Bool). x || fresh_at r) initialised_at_lem

  -- the units fit if their numbers do: the base has no more than 24 bits
  fit_same : field r 5 8 < 18446744073709551616 → cu_fits (form_of (form_is r)) (cu_of (cu_tag_in (packed_at r)) (word_of (packed_at r).cu)) ≡ true
      → ru_fits (ru_of (ru_tag_in (packed_at r)) (word_of (packed_at r).ru) (packed_at r).rest) ≡ true → units_fit (units_at r) ≡ true
  unfolding units_fit units_at units_by packed_at
  fit_same w c v =
      rw (
        lt-ltb (field r 5 8 / 1099511627776) 16777216 (omega arith),
        le-leb (form_of (form_is r)).length 6 (form_wide (form_is r)),
        c,
        v,
      )

  shape : front_is (field r 0 8) ≡ true → status_is (packed_at r).status ≡ true → settings_shaped (field r 240 1) ≡ true
      → cu_shaped (cu_tag_in (packed_at r)) (packed_at r).cu ≡ true → ru_shaped (ru_tag_in (packed_at r)) (packed_at r).ru (packed_at r).rest ≡ true
      → spare_zero r ≡ true → shaped r ≡ true
  unfolding shaped head_shaped units_shaped packed_at
  shape p q o c v z = rw (p, q, o, c, v, z)

  at_device : units_fit (units_at r) ≡ true → units_fit (device_from r (units_at r)).units ≡ true
  unfolding device_from
  at_device g = g

  -- all tests hold: the record is shaped, and its state in range
  pub tested_shaped : tested r ≡ true → field r 5 8 < 18446744073709551616 → imaged r ≡ true
  unfolding tested words_are cu_is ru_is range_from in_range
  tested_shaped e w =
      let k = packed_at r in
      let a = both (words_are (field r 0 8) (form_is r) k) _ e in
      let b = both (front_is (field r 0 8) && status_is k.status) _ a.0 in
      let f = both (front_is (field r 0 8)) (status_is k.status) b.0 in
      let u = both (cu_is (form_is r) (cu_tag_in k) k.cu) (ru_is (ru_tag_in k) k.ru k.rest) b.1 in
      let c = both (cu_shaped (cu_tag_in k) k.cu) (cu_fits (form_of (form_is r)) (cu_of (cu_tag_in k) (word_of k.cu))) u.0 in
      let v = both (ru_shaped (ru_tag_in k) k.ru k.rest) (ru_fits (ru_of (ru_tag_in k) (word_of k.ru) k.rest)) u.1 in
      let s = both (spare_zero r && settings_shaped (field r 240 1)) (odd (marks_in (packed_at r)) || fresh_at r) a.1 in
      let t = both (spare_zero r) (settings_shaped (field r 240 1)) s.0 in
      let h = shape f.0 f.1 t.1 c.0 v.0 t.0 in
      let g : units_fit (device_from r (units_at r)).units ≡ true = at_device (fit_same w c.1 v.1) in
      rw (h, g) (fresh_same h ∙ s.1)

  at_units : units_fit (device_from r (units_at r)).units ≡ true → units_fit (units_at r) ≡ true
  unfolding device_from
  at_units h = h

  parts : units_fit (units_at r) ≡ true
      → (cu_fits (form_of (form_is r)) (cu_of (cu_tag_in (packed_at r)) (word_of (packed_at r).cu)) ≡ true) × (ru_fits (ru_of (ru_tag_in (packed_at r)) (word_of (packed_at r).ru) (packed_at r).rest) ≡ true)
  unfolding units_fit units_at units_by
  parts h =
      let k = packed_at r in
      let c = cu_fits (form_of (form_is r)) (cu_of (cu_tag_in k) (word_of k.cu)) in
      let low = ltb (k.status / 1099511627776) 16777216 && leb (form_of (form_is r)).length 6 in
      let x = both (low && c) (ru_fits (ru_of (ru_tag_in k) (word_of k.ru) k.rest)) h in
      ((both low c x.0).1, x.1)

  pieces : shaped r ≡ true
      → (front_is (field r 0 8) ≡ true) × (status_is (packed_at r).status ≡ true) × (cu_shaped (cu_tag_in (packed_at r)) (packed_at r).cu ≡ true)
      × (ru_shaped (ru_tag_in (packed_at r)) (packed_at r).ru (packed_at r).rest ≡ true) × (spare_zero r ≡ true) × (settings_shaped (field r 240 1) ≡ true)
  unfolding shaped head_shaped units_shaped packed_at
  pieces h =
      let k = packed_at r in
      let x = both (head_shaped r && units_shaped r) (spare_zero r) h in
      let y = both (head_shaped r) (units_shaped r) x.0 in
      let z = both (front_is (field r 0 8) && status_is k.status) (settings_shaped (field r 240 1)) y.0 in
      let w = both (front_is (field r 0 8)) (status_is k.status) z.0 in
      let u = both (cu_shaped (cu_tag_in k) k.cu) (ru_shaped (ru_tag_in k) k.ru k.rest) y.1 in
      (w.0, w.1, u.0, u.1, x.1, z.1)

  pub shaped_tested : imaged r ≡ true → tested r ≡ true
  unfolding tested words_are cu_is ru_is range_from in_range
  shaped_tested e =
      let a = both (shaped r) (in_range (device_from r (units_at r))) e in
      let g = both (units_fit (device_from r (units_at r)).units) (initialised_or_fresh (device_from r (units_at r))) a.1 in
      let f = parts (at_units g.0) in
      let s = pieces a.0 in
      rw (s.0, s.1, s.2, f.0, s.3, f.1, s.4, s.5) (sym (fresh_same a.0) ∙ g.1)

  pub tested_is : field r 5 8 < 18446744073709551616 → tested r ≡ imaged r
  tested_is w = same (tested r) (imaged r) (λ e. tested_shaped e w) shaped_tested

  -- what each branch of the code's test comes to
  module _ (w : field r 5 8 < 18446744073709551616) where
    pub image_words : words_are (field r 0 8) (form_is r) (packed_at r) ≡ false → false ≡ imaged r
    unfolding tested
    image_words a = rw a at (tested_is w)

    module _ (a : words_are (field r 0 8) (form_is r) (packed_at r) ≡ true) where
      pub image_spare : (spare_zero r && settings_shaped (field r 240 1)) ≡ false → false ≡ imaged r
      unfolding tested
      image_spare b = rw (a, b) at (tested_is w)

      pub image_working : (spare_zero r && settings_shaped (field r 240 1)) ≡ true → odd (marks_in (packed_at r)) ≡ true → true ≡ imaged r
      unfolding tested
      image_working b i = rw (a, b, i) at (tested_is w)

      pub image_fresh : (spare_zero r && settings_shaped (field r 240 1)) ≡ true → odd (marks_in (packed_at r)) ≡ false → fresh_at r ≡ imaged r
      unfolding tested
      image_fresh b i = rw (a, b, i) at (tested_is w)

  -- ---- what is decoded

  pub decoded_units : length r ≡ 256 → imaged r ≡ true → Some (packed_at r) ≡ decoded_by (decode_of r)
  decoded_units l e =
      let t = both (shaped r) (range_from r (units_at r)) e in
      let q : decode_of r ≡ is.Units (units_at r) = sym (decode_full_lem r l) ∙ sym (full_taken r t.0 t.1) in
      rw (q, kept_same r t.0)

  pub decoded_foreign : length r ≡ 256 → imaged r ≡ false → None ≡ decoded_by (decode_of r)
  unfolding decode_of decode_full
  decoded_foreign l e = rw (eq-eqb (length r) 256 l, e)

  pub decoded_other : (length r ≡ 256 → ⊥) → None ≡ decoded_by (decode_of r)
  decoded_other h = rw (← decode_other r h)
