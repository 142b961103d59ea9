-- A stop as a disk keeps it.
use Rattle.std.specs.Prelude.{false, Option, Some, None}
use Rattle.ic_base.specs.declared.events.Stop.{Stop}
use Rattle.ic_disk.specs.declared.stop_image.Armed.{Armed}
use Rattle.ic_disk.specs.Stops.{Script}

-- the stop that is set
abbrev pub script_of : Option Armed → Option Script
script_of None = None
script_of (Some a) = Some (record { left = a.left; keep = a.keep; fill = a.fill; reached = a.reached })

-- a stop as it is set
abbrev pub set_by : Stop → Script
set_by stop = record { left = stop.call; keep = stop.keep; fill = stop.fill; reached = false }
