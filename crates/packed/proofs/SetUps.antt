-- What is read of a setup's bytes, and stores into them: each sets up what it is said to. Assumes nothing.
use mathlib.Core.Path.{◌≡◌, refl, sym, ap, ◌∙◌}
use mathlib.Core.List.{List, [], ◌∷◌, ◌++◌}
use Prim.Native.Nat.{ℕ, suc, ◌+◌, ◌/◌, ◌%◌, ◌≤◌, ◌<◌, ◌^◌}
use native.Mathlib.Nat.{div-one}
use native.Mathlib.Omega.{arith}
use lib.ListN.{length, get_or, set, take, drop, length-append, get_or-append}
use lib.Seq.{sets, sets-eq, drop_at, take_at, take-take}
use Rattle.memory.specs.Memory.{digits}
use Rattle.memory.proofs.Fields.{length_digits}
use Rattle.numerals.specs.Places.{bytes_from, field}
use Rattle.numerals.proofs.Laws as places
use Rattle.numerals.proofs.Laws.{fit, from_cons, whole, sets_whole}
use Rattle.scb.specs.Words.{one}
use Rattle.device.specs.Limits.{longest_address, filter_bits}
use Rattle.device.specs.declared.Settings.{Settings}
use Rattle.actions.specs.Setup.{Setup}
use Rattle.phases.specs.Fields.{odd}
use Rattle.phases.specs.Forms.{form_number, FormWide}
use Rattle.phases.proofs.Units.{one_below, one_back}
use Rattle.packed.specs.SetUp.{settings_byte, form_at, setup_bytes, filter_size, settings_at, minimum_at, own_at, filter_at, SetIs}

-- ---- the byte of settings

pub saves_in : (s : Settings) → odd (settings_byte s) ≡ s.savebad
saves_in s = let e : settings_byte s % 2 ≡ one s.savebad = omega (arith, one_below s.savebad) in rw e (one_back s.savebad)

pub promiscuous_in : (s : Settings) → odd (settings_byte s / 2) ≡ s.promiscuous
promiscuous_in s =
    let e : settings_byte s / 2 % 2 ≡ one s.promiscuous = omega (arith, one_below s.savebad, one_below s.promiscuous) in
    rw e (one_back s.promiscuous)

pub broadcast_in : (s : Settings) → odd (settings_byte s / 2 ^ 2) ≡ s.nobroadcast
broadcast_in s =
    let e : settings_byte s / 2 ^ 2 % 2 ≡ one s.nobroadcast = omega (arith, one_below s.savebad, one_below s.promiscuous, one_below s.nobroadcast) in
    rw e (one_back s.nobroadcast)

pub form_in_settings : (s : Settings) → form_at (settings_byte s) ≡ form_number s.form
form_in_settings s = omega (arith, one_below s.savebad, one_below s.promiscuous, one_below s.nobroadcast)

-- ---- what is read

module _ (s : Setup) (b : List ℕ) (h : SetIs s b) where
  pub byte_is : get_or b settings_at 0 ≡ settings_byte s.settings
  unfolding setup_bytes
  byte_is = rw h.bytes_are

  pub saves_is : odd (get_or b settings_at 0 / 1) ≡ s.settings.savebad
  saves_is = rw (byte_is, div-one (settings_byte s.settings)) (saves_in s.settings)

  pub promiscuous_is : odd (get_or b settings_at 0 / 2) ≡ s.settings.promiscuous
  promiscuous_is = rw byte_is (promiscuous_in s.settings)

  pub broadcast_is : odd (get_or b settings_at 0 / 2 ^ 2) ≡ s.settings.nobroadcast
  broadcast_is = rw byte_is (broadcast_in s.settings)

  pub form_is_lem : form_at (get_or b settings_at 0) ≡ form_number s.settings.form
  form_is_lem = rw byte_is (form_in_settings s.settings)

  pub minimum_is : get_or b minimum_at 0 ≡ s.settings.minimum
  unfolding setup_bytes
  minimum_is = rw h.bytes_are

  -- the own address, as a run and byte by byte
  pub own_is : take longest_address (drop own_at b) ≡ s.own
  unfolding setup_bytes
  own_is = rw h.bytes_are (take_at s.own (digits filter_size s.filter) longest_address h.own_wide)

  -- its first bytes
  pub own_first : (l : ℕ) → l ≤ longest_address → take l (drop own_at b) ≡ take l s.own
  own_first l g = sym (take-take l longest_address (drop own_at b) g) ∙ rw own_is

  pub own_byte : (k : ℕ) → k < longest_address → get_or b (suc (suc k)) 0 ≡ get_or s.own k 0
  unfolding setup_bytes
  own_byte k g = rw h.bytes_are (get_or-append s.own (digits filter_size s.filter) 0 k (omega (arith, h.own_wide)))

  -- the filter, as a number
  pub filter_is : field b filter_at filter_size ≡ s.filter
  unfolding setup_bytes field
  filter_is =
      let d = digits filter_size s.filter in
      let e : bytes_from (s.own ++ d) longest_address filter_size ≡ bytes_from d 0 filter_size = rw h.own_wide at (places.second_of s.own d 0 filter_size) in
      let w : bytes_from d 0 filter_size ≡ d = rw (length_digits filter_size s.filter) at (whole d) in
      rw (
        h.bytes_are,
        from_cons (settings_byte s.settings) (s.settings.minimum ∷ (s.own ++ d)) 7 filter_size,
        from_cons s.settings.minimum (s.own ++ d) 6 filter_size,
        e,
        w,
      ) (fit filter_size s.filter h.filter_wide)

-- ---- runs of bytes in a list with others before it

sets-cons : (x : ℕ) (d : List ℕ) (k : ℕ) (bs : List ℕ) → sets (x ∷ d) (suc k) bs ≡ x ∷ sets d k bs
sets-cons x d k [] = refl
sets-cons x d k (b ∷ bs) = sets-cons x (set d k b) (suc k) bs

sets_behind : (xs ys : List ℕ) (k : ℕ) (bs : List ℕ) → sets (xs ++ ys) (length xs + k) bs ≡ xs ++ sets ys k bs
sets_behind [] ys k bs = let z : 0 + k ≡ k = omega arith in rw z
sets_behind (x ∷ xs) ys k bs =
    let z : suc (length xs) + k ≡ suc (length xs + k) = omega arith in
    rw (z, sets-cons x (xs ++ ys) (length xs + k) bs) (ap (λ (l : List ℕ). x ∷ l) (sets_behind xs ys k bs))

-- the first of two, and the second
first_of : (xs ys bs : List ℕ) → length bs ≡ length xs → sets (xs ++ ys) 0 bs ≡ bs ++ ys
first_of xs ys bs e =
    let l : 0 + length bs ≡ length xs = omega arith in
    let r : 0 + length bs ≤ length (xs ++ ys) = omega (arith, length-append xs ys) in
    sets-eq bs (xs ++ ys) 0 r ∙ rw (l, drop_at xs ys (length xs) refl)

second_of : (xs ys : List ℕ) (n : ℕ) (bs : List ℕ) → length xs ≡ n → sets (xs ++ ys) n bs ≡ xs ++ sets ys 0 bs
second_of xs ys n bs e =
    let z : n ≡ length xs + 0 = omega arith in
    rw z (sets_behind xs ys 0 bs)

-- ---- what is stored

module _ (s : Setup) (b : List ℕ) (h : SetIs s b) where
  pub settings_set : (v w : ℕ) (new : Settings) → v ≡ settings_byte new → w ≡ new.minimum → w < 2 ^ 8 → FormWide new.form
      → SetIs (record { settings = new; own = s.own; filter = s.filter }) (set (set b settings_at v) minimum_at w)
  unfolding setup_bytes
  settings_set v w new p q l f =
      record {
        bytes_are = rw (h.bytes_are, p, q);
        minimum_wide = omega arith;
        form_wide = f;
        own_wide = h.own_wide;
        filter_wide = h.filter_wide;
      }

  -- the minimum length is not the settings
  pub minimum_stays : (v : ℕ) → get_or (set b settings_at v) minimum_at 0 ≡ s.settings.minimum
  unfolding setup_bytes
  minimum_stays v = rw h.bytes_are

  pub own_set : (bs : List ℕ) → length bs ≡ longest_address → SetIs (record { settings = s.settings; own = bs; filter = s.filter }) (sets b own_at bs)
  unfolding setup_bytes
  own_set bs e =
      let x = settings_byte s.settings in
      let y = s.settings.minimum in
      let d = digits filter_size s.filter in
      record {
        bytes_are =
            rw (
              h.bytes_are,
              sets-cons x (y ∷ (s.own ++ d)) 1 bs,
              sets-cons y (s.own ++ d) 0 bs,
              first_of s.own d bs (e ∙ sym h.own_wide),
            );
        minimum_wide = h.minimum_wide;
        form_wide = h.form_wide;
        own_wide = e;
        filter_wide = h.filter_wide;
      }

  pub filter-set : (filter : ℕ) → filter < 2 ^ filter_bits
      → SetIs (record { settings = s.settings; own = s.own; filter = filter }) (sets b filter_at (digits filter_size filter))
  unfolding setup_bytes
  filter-set filter g =
      let x = settings_byte s.settings in
      let y = s.settings.minimum in
      let d = digits filter_size s.filter in
      let new = digits filter_size filter in
      let e : length new ≡ length d = length_digits filter_size filter ∙ sym (length_digits filter_size s.filter) in
      record {
        bytes_are =
            rw (
              h.bytes_are,
              sets-cons x (y ∷ (s.own ++ d)) 7 new,
              sets-cons y (s.own ++ d) 6 new,
              second_of s.own d longest_address new h.own_wide,
              sets_whole d new e,
            );
        minimum_wide = h.minimum_wide;
        form_wide = h.form_wide;
        own_wide = h.own_wide;
        filter_wide = g;
      }
