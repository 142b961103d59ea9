use Rattle.std.proofs.Common.{◌≡◌, ◌+◌, drop}
use Rattle.def_two.specs.Moves.{comes, amounts}
use Rattle.ic_moves.proofs.book.coming.Given as goal

abbrev pub invariant-loop-m : goal.invariant-loop-m
invariant-loop-m l = l.sum + amounts (comes l.book l.key) (drop l.m-index l.moves) ≡ amounts (comes l.book l.key) l.moves
