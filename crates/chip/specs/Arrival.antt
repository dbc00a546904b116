-- Arrival of a frame: 01, "Arrival and storing". It raises nothing, so it reports no edge. Assumes nothing.
use Rattle.std.specs.Prelude.{List, [], ◌∷◌, ℕ}
use Rattle.memory.specs.Memory.{apply}
use Rattle.device.specs.Answers.{arrived, reason_of, Outcome, outcome_of}
use Rattle.device.specs.Change.{with_ru, with_units}
use Rattle.device.specs.declared.Device.{Device}
use Rattle.filter.specs.Match.{matches}
use Rattle.receive.specs.Arrival as receive
use Rattle.chip.specs.World.{World, Ran}

-- what an arrival comes to, besides the lent bytes: the arriving frame has its fate, and no other has one; 02, Wish 3: the answer says why it was
-- dropped, which follows from the fate as all else does
abbrev pub outcome_by : Device → receive.Arrival → Outcome
outcome_by d a = outcome_of (with_units d (with_ru d.units a.unit)) (arrived (reason_of a.fate)) (a.fate ∷ [])

-- f: the frame; v: the line side's verdict; m: memory; h: the holding area
unfoldable pub arrival : Device → List ℕ → ℕ → List ℕ → List ℕ → receive.Arrival
arrival d f v m h = receive.arrival d.units (matches d.units.settings d.own d.filter f) f v m h

abbrev pub arrived_by : World → receive.Arrival → Ran
arrived_by w a =
    record {
      outcome = outcome_by w.device a;
      memory = apply a.writes w.memory;
      holding = a.area;
      outgoing = w.outgoing;
    }

unfoldable pub arrival_of : World → List ℕ → ℕ → Ran
arrival_of w f v = arrived_by w (arrival w.device f v w.memory w.holding)
