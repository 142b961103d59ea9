use Rattle.std.proofs.Common.{◌≡◌, ◌+◌, ◌++◌, drop}
use Rattle.def_two.specs.Printed.{book_lines}
use Rattle.ic_script.specs.Reading.{the_script}
use Rattle.ic_two_world.specs.Views.{world_of}
use Rattle.ic_more.proofs.world_lines.add_books.Given as goal

abbrev pub invariant-loop-i : goal.invariant-loop-i
invariant-loop-i g l =
    l.out.items ++ book_lines (the_script l.fn.script) (world_of l.fn.world) (l.i + 1) (drop l.i l.fn.script.books)
    ≡ l.fn.out.items ++ book_lines (the_script l.fn.script) (world_of l.fn.world) 1 l.fn.script.books
