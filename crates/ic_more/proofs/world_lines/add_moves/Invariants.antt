use Rattle.std.proofs.Common.{◌≡◌, ◌++◌}
use Rattle.std.specs.List.{flat_map, range_with_len}
use Rattle.def_two.specs.Printed.{move_line}
use Rattle.ic_script.specs.Reading.{the_script}
use Rattle.ic_two_world.specs.Views.{world_of}
use Rattle.ic_more.proofs.world_lines.add_moves.Given as goal

abbrev pub invariant-loop-i : goal.invariant-loop-i
invariant-loop-i g l =
    l.out.items ≡ l.fn.out.items ++ flat_map (move_line (the_script l.fn.script) (world_of l.fn.world)) (range_with_len 1 l.i)
