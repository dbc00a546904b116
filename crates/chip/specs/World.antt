-- What a call is given and what it leaves. Assumes nothing.
use Rattle.std.specs.Prelude.{List, [], ℕ, false}
use Rattle.memory.specs.Memory.{Write, apply}
use Rattle.device.specs.State.{fresh}
use Rattle.device.specs.Answers.{answered, Outcome, outcome_of}
use Rattle.device.specs.declared.Device.{Device}

-- a device, and the three areas that are lent with it
pub record World : Type 0 where
  pub device : Device
  pub memory : List ℕ
  pub holding : List ℕ
  pub outgoing : List ℕ

abbrev pub world_of : Device → List ℕ → List ℕ → List ℕ → World
world_of d m h out = record { device = d; memory = m; holding = h; outgoing = out }

-- what a call leaves: its outcome and the three areas
pub record Ran : Type 0 where
  pub outcome : Outcome
  pub memory : List ℕ
  pub holding : List ℕ
  pub outgoing : List ℕ

-- a call that only writes memory
abbrev pub writing : World → List Write → Outcome → Ran
writing w writes o =
    record { outcome = o; memory = apply writes w.memory; holding = w.holding; outgoing = w.outgoing }

-- the world as a call left it
abbrev pub afterwards : Ran → World
afterwards r =
    record { device = r.outcome.device; memory = r.memory; holding = r.holding; outgoing = r.outgoing }

-- 01, "Calls, lent areas, refusals": reset takes the record alone, ignores its content and writes a fresh one
unfoldable pub reset_of : Outcome
reset_of = outcome_of fresh (answered 0 false) []
