-- What a call makes of what the commands set up: settings, own address and filter: 01, "Turns". Assumes nothing.
use Rattle.std.specs.Prelude.{◌≡◌, Bool, true, false, ◌&&◌, ℕ, Some}
use Rattle.scb.specs.Words.{resets}
use Rattle.device.specs.State.{fresh}
use Rattle.device.specs.declared.Action.{Action}
use Rattle.device.specs.declared.Begun.{Begun}
use Rattle.device.specs.declared.Cu.{Cu}
use Rattle.device.specs.declared.Cu.TheVariants as cu
use Rattle.actions.specs.Actions.{act}
use Rattle.actions.specs.Setup.{setup_of}
use Rattle.chip.specs.Call.{Call, reset, attention, arrive, turn, ran}
use Rattle.chip.specs.Turn.{served_of, is_command, turn_of}
use Rattle.chip.specs.World.{World, afterwards}
use Rattle.chip.specs.declared.Unit.TheVariants as unit
use Rattle.frames.specs.Held.{command_of}

-- what a turn leaves
abbrev pub left_by : World → ℕ → World
left_by w report = afterwards (turn_of w report)

-- the end of a command that is no Transmit is next
abbrev pub acts : Cu → Bool
acts cu.Idle = false
acts (cu.Suspended o) = false
acts (cu.Waiting o) = false
acts (cu.Acting b a) = true
acts (cu.Sending b w) = false
acts (cu.Ending b n) = false
acts (cu.Failing b) = false

-- the calls that set something up: a reset of either kind, and a turn that ends such a command
abbrev pub sets_up : Call → World → Bool
sets_up reset w = true
sets_up attention w = w.device.units.initialised && resets (command_of w)
sets_up (arrive f v) w = false
sets_up (turn report) w = is_command (served_of w.device.units) && acts w.device.units.cu

-- a turn that ends the command a, begun as b
pub record EndsAction (w : World) (b : Begun) (a : Action) : Type 0 where
  pub served : served_of w.device.units ≡ Some unit.Command
  pub begun : w.device.units.cu ≡ cu.Acting b a

-- what a call makes of the setup: nothing; or all is fresh; or what the action makes of it
pub data SetupAfter (w : World) : Call → Type 0 where
  kept : (c : Call) → sets_up c w ≡ false → setup_of (ran c w).outcome.device ≡ setup_of w.device → SetupAfter w c
  by_reset : (ran reset w).outcome.device ≡ fresh → SetupAfter w reset
  by_resetting : sets_up attention w ≡ true → (ran attention w).outcome.device ≡ fresh → SetupAfter w attention
  by_action : (report : ℕ) (b : Begun) (a : Action) → EndsAction w b a
      → setup_of (left_by w report).device ≡ (act a w.device.units.base (setup_of w.device) b.block w.memory).setup
      → SetupAfter w (turn report)
