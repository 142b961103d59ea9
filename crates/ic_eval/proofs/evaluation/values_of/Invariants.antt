use Rattle.std.proofs.Common.{◌≡◌, map, take, []}
use Rattle.def_play.specs.Playing as playing
use Rattle.ic_eval.specs.Views.{seen}
use Rattle.ic_eval.proofs.evaluation.values_of.Given as goal

abbrev pub invariant-loop-o : goal.invariant-loop-o
invariant-loop-o l = l.values.items ≡ map (playing.operand_value l.args (seen l.course [])) (take l.o-index l.listed)
