-- What a Configure makes of the setup: 02, Wish 4: "Configure shall accept lengths 0 to 6 and address location 1 ... 7 and loopback still give 8000h".
-- Assumes nothing.
use mathlib.Core.Path.{◌≡◌, refl}
use mathlib.Core.Bool.{Bool, true, false, not, ◌&&◌, false≢true}
use mathlib.Core.List.{List}
use Prim.Native.Nat.{ℕ, ◌≤◌}
use borrow.Author.Tests.{leb-true, le-leb, not-true}
use lib.Dec.{leb}
use Rattle.memory.specs.declared.Offset.{Offset}
use Rattle.memory.specs.declared.RealAddress.{RealAddress}
use Rattle.scb.specs.Words.{bits_at, bit}
use Rattle.device.specs.declared.Action.TheVariants as action
use Rattle.actions.specs.Actions.{Acted, acceptable, byte_of, settings_by, act, done, failed}
use Rattle.actions.specs.Setup.{Setup}

-- ---- which byte 3 is taken, both ways

conjunct : (a b : Bool) → (a && b) ≡ true → (a ≡ true) × (b ≡ true)
conjunct true b e = (refl, e)
conjunct false b e = absurd (false≢true e)

pub accepted : (byte : ℕ) → acceptable byte ≡ true → (bits_at byte 0 3 ≤ 6) × (bit byte 6 ≡ false) × (bit byte 7 ≡ false)
accepted byte e =
    let x = conjunct (leb (bits_at byte 0 3) 6 && not (bit byte 6)) (not (bit byte 7)) e in
    let y = conjunct (leb (bits_at byte 0 3) 6) (not (bit byte 6)) x.0 in
    (leb-true _ _ y.0, not-true _ y.1, not-true _ x.1)

pub acceptable_is : (byte : ℕ) → bits_at byte 0 3 ≤ 6 → bit byte 6 ≡ false → bit byte 7 ≡ false → acceptable byte ≡ true
acceptable_is byte l p q = rw (le-leb (bits_at byte 0 3) 6 l, p, q)

-- ---- what it makes of the setup

module _ (base : RealAddress) (s : Setup) (block : Offset) (m : List ℕ) where
  abbrev pub configured : Acted
  configured = act action.Configure base s block m

  -- its length and location are in force from now on; own address and filter are as they were, with the bits that other lengths set
  pub taken : acceptable (byte_of base block m 3) ≡ true
      → let byte = byte_of base block m 3 in
      (configured.status ≡ done) × (configured.setup.settings.form ≡ record { length = bits_at byte 0 3; location = bit byte 3 })
      × (configured.setup.own ≡ s.own) × (configured.setup.filter ≡ s.filter)
  unfolding act settings_by
  taken e = rw e (refl, refl, refl, refl)

  -- 8000h, nothing changed
  pub not_taken : acceptable (byte_of base block m 3) ≡ false → (configured.status ≡ failed) × (configured.setup ≡ s)
  unfolding act
  not_taken e = rw e (refl, refl)
