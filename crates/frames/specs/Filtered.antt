-- What an MC-Setup makes of the filter, and what every other call does: 02, Wish 1. Assumes nothing.
use Rattle.std.specs.Prelude.{◌≡◌, Bool, true, false, ◌&&◌, ℕ}
use Rattle.memory.specs.Address.{place}
use Rattle.scb.specs.Words.{bit, resets}
use Rattle.device.specs.State.{fresh}
use Rattle.device.specs.declared.Action.TheVariants as action
use Rattle.device.specs.declared.Begun.{Begun}
use Rattle.device.specs.declared.Cu.{Cu}
use Rattle.device.specs.declared.Cu.TheVariants as cu
use Rattle.actions.specs.Actions.{groups}
use Rattle.actions.specs.Block.{destination_at}
use Rattle.actions.specs.Filtered.{Falls, is_mc_setup}
use Rattle.chip.specs.Call.{Call, reset, attention, arrive, turn, ran}
use Rattle.chip.specs.Turn.{served_of, is_command}
use Rattle.chip.specs.World.{World}
use Rattle.frames.specs.Arrival.{settings_of, length_in}
use Rattle.frames.specs.Held.{command_of}
use Rattle.frames.specs.Setups.{left_by, EndsAction}

-- ---- a turn that ends an MC-Setup

-- the command unit is served, and an MC-Setup is begun
abbrev pub EndsMcSetup : World → Begun → Type 0
EndsMcSetup w b = EndsAction w b action.McSetup

-- one of the addresses in its block, of the length in force, falls on bit k
abbrev pub FallsIn : World → Begun → ℕ → Type 0
FallsIn w b k =
    let base = w.device.units.base in
    let l = length_in w in
    Falls l w.memory (place base b.block destination_at) (groups l base b.block w.memory) k

-- settings and own address are as they were; of the filter a bit is set exactly if an address falls on it, whatever the old one had
pub record SetUpBy (w : World) (b : Begun) (after : World) : Type 0 where
  pub settings : settings_of after ≡ settings_of w
  pub own : after.device.own ≡ w.device.own
  pub set : (k : ℕ) → FallsIn w b k → bit after.device.filter k ≡ true
  pub only : (k : ℕ) → bit after.device.filter k ≡ true → FallsIn w b k

-- ---- every call

abbrev pub acts_mc_setup : Cu → Bool
acts_mc_setup cu.Idle = false
acts_mc_setup (cu.Suspended o) = false
acts_mc_setup (cu.Waiting o) = false
acts_mc_setup (cu.Acting b a) = is_mc_setup a
acts_mc_setup (cu.Sending b w) = false
acts_mc_setup (cu.Ending b n) = false
acts_mc_setup (cu.Failing b) = false

-- the calls that make a new filter: a reset of either kind, and a turn that ends an MC-Setup
abbrev pub renews_filter : Call → World → Bool
renews_filter reset w = true
renews_filter attention w = w.device.units.initialised && resets (command_of w)
renews_filter (arrive f v) w = false
renews_filter (turn report) w = is_command (served_of w.device.units) && acts_mc_setup w.device.units.cu

-- what a call makes of the filter
pub data FilterAfter (w : World) : Call → Type 0 where
  kept : (c : Call) → renews_filter c w ≡ false → (ran c w).outcome.device.filter ≡ w.device.filter → FilterAfter w c
  by_reset : (ran reset w).outcome.device ≡ fresh → FilterAfter w reset
  by_resetting : renews_filter attention w ≡ true → (ran attention w).outcome.device ≡ fresh → FilterAfter w attention
  by_mc_setup : (report : ℕ) (b : Begun) → EndsMcSetup w b → SetUpBy w b (left_by w report) → FilterAfter w (turn report)
