use Rattle.std.proofs.Common.{◌≡◌, ◌+◌, drop}
use Rattle.def_two.specs.Moves.{leaves, amounts}
use Rattle.ic_moves.proofs.book.leaving.Given as goal

abbrev pub invariant-loop-m : goal.invariant-loop-m
invariant-loop-m l = l.sum + amounts (leaves l.book l.key) (drop l.m-index l.moves) ≡ amounts (leaves l.book l.key) l.moves
