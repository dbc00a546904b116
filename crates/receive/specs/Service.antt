-- One service of the receive unit: 01, "Turns": every held frame takes a begin turn, at most 64 buffer turns and an end turn. Assumes nothing.
use Rattle.std.specs.Prelude.{List, [], ℕ}
use Rattle.device.specs.declared.Ru.{Ru}
use Rattle.device.specs.declared.Ru.TheVariants as ru
use Rattle.receive.specs.Part.{Part, Service, quietly}
use Rattle.receive.specs.Begin.{begin}
use Rattle.receive.specs.Buffer.{buffer}
use Rattle.receive.specs.End.{close, lack}

-- by the unit's phase; with no frame held there is no work
abbrev pub service_by : Ru → Part → List ℕ → Service
service_by ru.Idle p m = quietly p.unit []
service_by ru.NoResources p m = quietly p.unit []
service_by (ru.Suspended fd) p m = quietly p.unit []
service_by (ru.Ready fd) p m = quietly p.unit []
service_by (ru.Held fd f pausing) p m = begin p fd f pausing m
service_by (ru.Filling s w) p m = buffer p s w m
service_by (ru.Closing s free full) p m = close p s free full m
service_by (ru.Lacking s) p m = lack p s m

unfoldable pub service : Part → List ℕ → Service
service p m = service_by p.unit p m
