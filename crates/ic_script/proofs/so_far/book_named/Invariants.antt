use Rattle.std.proofs.Common.{◌≡◌, ◌+◌, drop}
use Rattle.def_two.specs.Script.{named_from}
use Rattle.ic_script.proofs.so_far.book_named.Given as goal

abbrev pub invariant-loop-i : goal.invariant-loop-i
invariant-loop-i l = named_from 1 l.name l.books ≡ named_from (l.i + 1) l.name (drop l.i l.books)
