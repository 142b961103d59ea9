use Rattle.std.proofs.Common.{◌≡◌, ◌+◌, drop, length}
use Rattle.def_plain.specs.History.{entries_from}
use Rattle.def_run.specs.Reports.{logs_of}
use Rattle.ic_world.specs.Views.{world_of}
use Rattle.ic_world.proofs.world.World.history_len.Given as goal

abbrev pub invariant-loop-i : goal.invariant-loop-i
invariant-loop-i g l = l.n + length (entries_from l.i (drop l.i l.program.components) (drop l.i (logs_of (world_of l.self)))) ≡ length (entries_from 0 l.program.components (logs_of (world_of l.self)))
