use Rattle.std.proofs.Common.{◌≡◌, drop}
use Rattle.def_play.specs.Silent as silent
use Rattle.def_play.specs.Silent.{StaySilent}
use Rattle.ic_eval.proofs.silent.+silent.Given as goal

abbrev pub invariant-are_silent-loop-stmt : goal.invariant-are_silent-loop-stmt
invariant-are_silent-loop-stmt l = record {
  same : silent.are_silent (drop l.stmt-index l.stmts) ≡ silent.are_silent l.stmts;
  stays : StaySilent (drop l.stmt-index l.stmts) → StaySilent l.stmts;
}
