use Rattle.std.proofs.Common.{◌≡◌, take}
use Rattle.ic_two_world.proofs.making.copy_of.Given as goal

abbrev pub invariant-loop-name : goal.invariant-loop-name
invariant-loop-name l = l.copy ≡ take l.name-index l.name-items
