use Rattle.std.proofs.Common.{◌≡◌, drop, map}
use Rattle.std.specs.Prelude.{decimal}
use Rattle.def_two.specs.World.{book_at}
use Rattle.ic_report.specs.Said.{said}
use Rattle.ic_two_world.specs.Views.{openings_of, world_of}
use Rattle.ic_more.proofs.world_lines.add_values.Given as goal

abbrev pub invariant-loop-key : goal.invariant-loop-key
invariant-loop-key g l =
    said l.out.items (map decimal (drop l.key (book_at (openings_of l.fn.world) (world_of l.fn.world) l.fn.book).values))
    ≡ said l.fn.out.items (map decimal (book_at (openings_of l.fn.world) (world_of l.fn.world) l.fn.book).values)
