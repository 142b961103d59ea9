use Rattle.std.proofs.Common.{◌≡◌, map, take}
use Rattle.def_run.specs.Reports.{stand_of}
use Rattle.ic_node.specs.Views.{node_of}
use Rattle.ic_world.proofs.world.World.states.Given as goal

abbrev pub invariant-loop-x : goal.invariant-loop-x
invariant-loop-x g l = l.states ≡ map (λ x. stand_of (node_of x)) (take l.x-index l.x-items)
