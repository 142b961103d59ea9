use Rattle.std.proofs.Common.{◌≡◌, map, take}
use Rattle.def_run.specs.Reports.{log_of_node}
use Rattle.ic_node.specs.Views.{node_of}
use Rattle.ic_world.proofs.world.World.logs.Given as goal

abbrev pub invariant-loop-x : goal.invariant-loop-x
invariant-loop-x g l = l.logs.items ≡ map (λ x. log_of_node (node_of x)) (take l.x-index l.x-items)
