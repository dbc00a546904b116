-- One service of the command unit: 01, "Turns": every command takes a begin turn, at most 64 buffer turns and an end turn. Assumes nothing.
use Rattle.std.specs.Prelude.{List, [], ℕ}
use Rattle.device.specs.declared.Cu.{Cu}
use Rattle.device.specs.declared.Cu.TheVariants as cu
use Rattle.command.specs.Part.{Part, Service, quietly}
use Rattle.command.specs.Begin.{begin}
use Rattle.command.specs.Buffer.{buffer}
use Rattle.actions.specs.Actions.{act, sent, not_sent}
use Rattle.command.specs.End.{end}

-- by the unit's phase; Idle and Suspended have no work
abbrev pub service_by : Cu → Part → List ℕ → ℕ → Service
service_by cu.Idle p m report = quietly p []
service_by (cu.Suspended block) p m report = quietly p []
service_by (cu.Waiting block) p m report = begin p block m
service_by (cu.Acting b a) p m report = end p b (act a p.base p.setup b.block m) m
service_by (cu.Sending b w) p m report = buffer p b w m
service_by (cu.Ending b filled) p m report = end p b (sent p.setup filled report) m
service_by (cu.Failing b) p m report = end p b (not_sent p.setup) m

unfoldable pub service : Part → List ℕ → ℕ → Service
service p m report = service_by p.unit p m report
