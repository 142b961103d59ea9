use Rattle.std.specs.List.{AllByRecursion}
use Rattle.std.specs.Prelude.{◌≡◌, take}
use Rattle.ic_run.specs.Agendas.{MayCome}
use Rattle.ic_serve.specs.Worlds.{checkpoints_from}
use Rattle.ic_serve.proofs.ending.checkpoints.Given as goal

abbrev pub invariant-loop-i : goal.invariant-loop-i
invariant-loop-i l = AllByRecursion (MayCome l.program) l.events.items × (l.events.items ≡ checkpoints_from 0 (take l.i l.program.components))
