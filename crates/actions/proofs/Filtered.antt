-- What an MC-Setup makes of the setup, and that no other action makes a new filter: 02, Wish 1. Assumes nothing.
use mathlib.Core.Path.{◌≡◌, refl}
use mathlib.Core.Bool.{Bool, true, false, true≢false}
use mathlib.Core.List.{List}
use Prim.Native.Nat.{ℕ, zero, suc, ◌+◌, ◌*◌, ◌≤◌, ◌<◌}
use native.Mathlib.Nat.{div-eq_of_lt, div-add-mod', mod-lt, zero-lt-suc, not-suc-le-zero}
use native.Mathlib.Omega.{arith}
use Rattle.memory.specs.Address.{place}
use Rattle.memory.specs.declared.Offset.{Offset}
use Rattle.memory.specs.declared.RealAddress.{RealAddress}
use Rattle.scb.specs.Words.{bit}
use Rattle.device.specs.declared.Action.{Action}
use Rattle.device.specs.declared.Action.TheVariants as action
use Rattle.actions.specs.Actions.{Acted, setting, acceptable, byte_of, count_of, groups_of, groups, filtering, act, done}
use Rattle.actions.specs.Block.{destination_at}
use Rattle.actions.specs.Filtered.{Falls, is_mc_setup}
use Rattle.actions.specs.Setup.{Setup}
use Rattle.actions.proofs.Laws.{set_falls, falls_set}

too_few_lem : (l count : ℕ) → count < l → groups_of l count ≡ 0
too_few_lem zero count h = refl
too_few_lem (suc l) count h = div-eq_of_lt h

-- whole addresses alone: as many as the count has room for, and no more
pub whole_addresses : (l count : ℕ) → 0 < l → (groups_of l count * l ≤ count) × (count < groups_of l count * l + l)
whole_addresses zero count h = absurd (not-suc-le-zero h)
whole_addresses (suc l) count h =
    let e = div-add-mod' count (suc l) in
    let r = mod-lt count (zero-lt-suc l) in
    (omega (arith, e), omega (arith, e, r))

module _ (base : RealAddress) (s : Setup) (block : Offset) (m : List ℕ) where
  abbrev pub grouped : Acted
  grouped = act action.McSetup base s block m

  -- the length of its addresses is the one in force
  abbrev pub length_of : ℕ
  length_of = s.settings.form.length

  -- its addresses: one falls on bit k
  abbrev pub ListedOn : ℕ → Type 0
  ListedOn k = Falls length_of m (place base block destination_at) (groups length_of base block m) k

  -- any count works
  pub always_done : grouped.status ≡ done
  unfolding act
  always_done = refl

  -- settings and own address are as they were
  pub settings_stay : grouped.setup.settings ≡ s.settings
  unfolding act
  settings_stay = refl

  pub own_stays : grouped.setup.own ≡ s.own
  unfolding act
  own_stays = refl

  -- a bit is set exactly if one of the addresses falls on it
  pub set : (k : ℕ) → ListedOn k → bit grouped.setup.filter k ≡ true
  unfolding act
  set k l = falls_set length_of m (place base block destination_at) (groups length_of base block m) k l

  pub only : (k : ℕ) → bit grouped.setup.filter k ≡ true → ListedOn k
  unfolding act
  only k e = set_falls length_of m (place base block destination_at) (groups length_of base block m) k e

  -- no address, an empty filter
  pub emptied_by_none : groups length_of base block m ≡ 0 → grouped.setup.filter ≡ 0
  unfolding act filtering
  emptied_by_none z = rw z

  -- a count of 0, or of fewer bytes than an address has, empties the filter
  pub emptied : count_of base block m < length_of → grouped.setup.filter ≡ 0
  unfolding act filtering
  emptied l = rw (too_few_lem length_of (count_of base block m) l)

  -- 02, Wish 4: "at 0 it empties the filter"
  pub emptied_at_none : length_of ≡ 0 → grouped.setup.filter ≡ 0
  unfolding act filtering
  emptied_at_none z = rw z

-- ---- the other actions leave the filter alone

either_keeps : (accepted : Bool) (s new : Setup) → new.filter ≡ s.filter → (setting accepted s new).setup.filter ≡ s.filter
either_keeps true s new e = e
either_keeps false s new e = refl

pub filter_stays : (a : Action) (base : RealAddress) (s : Setup) (block : Offset) (m : List ℕ) → is_mc_setup a ≡ false → (act a base s block m).setup.filter ≡ s.filter
unfolding act
filter_stays action.Nop base s block m e = refl
filter_stays action.IaSetup base s block m e = refl
filter_stays action.Configure base s block m e = either_keeps (acceptable (byte_of base block m 3)) s _ refl
filter_stays action.McSetup base s block m e = absurd (true≢false e)
filter_stays action.Tdr base s block m e = refl
filter_stays action.Dump base s block m e = refl
filter_stays action.Diagnose base s block m e = refl
