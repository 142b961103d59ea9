use Rattle.std.proofs.Common.{List, ℕ, length, ap, ◌∙◌, arith}
use Rattle.def_syntax.specs.Text.{numbered}
use Rattle.def_syntax.specs.Scenario.{checked}
use Rattle.ic_syntax.proofs.Walks.{checked_ok, checked_err, refuses}
use Rattle.ic_syntax.proofs.walk.walk.Goals as goal

pub returns-in-Err-clause-err : goal.returns-in-Err-clause-err
returns-in-Err-clause-err c last =
    refuses _ c.loop-line.number c.in-Err.fault.0 c.refused.result c.refused.ensures.memory c.refused.ensures.other
    (λ not. c.loop-line.invariant.goes_on last ∙ ap (λ (ls : List (List ℕ)). checked last c.loop-line.seen (numbered c.loop-line.number ls)) c.in-Some.ensures.line
    ∙ checked_err last c.loop-line.number _ _ _ _ (c.in-Err.ensures.err not))

pub loop-line-preserved : goal.loop-line-preserved
loop-line-preserved c = record {
  bounded = omega (arith, c.loop-line.invariant.bounded, c.in-Some.ensures.less);
  counted = omega (arith, c.loop-line.invariant.counted, ap length c.in-Some.ensures.line);
  goes_on = λ last.
      c.loop-line.invariant.goes_on last ∙ ap (λ (ls : List (List ℕ)). checked last c.loop-line.seen (numbered c.loop-line.number ls)) c.in-Some.ensures.line
      ∙ checked_ok last c.loop-line.number _ _ _ _ c.in-Ok.ensures.ok;
}
