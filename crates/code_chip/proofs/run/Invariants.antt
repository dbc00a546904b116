-- The loop of `code_chip::run`: so many turns are taken, and the rest of the run begins here.
use Rattle.device.specs.declared.Device.{Device}
use Rattle.chip.specs.World.{world_of}
use Rattle.chip.specs.Run.{run_of}
use Rattle.code_chip.specs.Does.{DeviceIs}
use Rattle.code_chip.proofs.Loop.{Going}
use Rattle.code_chip.proofs.run.Given as goal

abbrev pub invariant-loop-taken : goal.invariant-loop-taken
invariant-loop-taken l =
    (d : Device) → DeviceIs d l.fn.k l.fn.setup
    → Going (run_of l.budget (world_of d l.fn.memory l.holding l.fn.outgoing) l.report) l.report l.budget l.taken l.state l.memory l.holding l.outgoing l.setup
