use Rattle.ic_settle.specs.Outstanding.{test_of}
use Rattle.ic_settle.proofs.Firsts.{FirstBehind}
use Rattle.ic_world.specs.Views.{world_of}
use Rattle.ic_settle.proofs.outstanding.lowest.Given as goal

abbrev pub invariant-loop-i : goal.invariant-loop-i
invariant-loop-i g l = FirstBehind (test_of (world_of l.world) l.what) (world_of l.world).nodes l.i
