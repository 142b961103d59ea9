use Rattle.std.proofs.Common.{◌≡◌, ◌+◌, ◌≤◌, ℕ, length}
use Rattle.def_syntax.specs.Text.{lines_of, numbered}
use Rattle.def_syntax.specs.Scenario.{checked}
use Rattle.ic_syntax.proofs.walk.walk.Given as goal

abbrev pub invariant-loop-line : goal.invariant-loop-line
invariant-loop-line l = record {
  bounded : l.number + length l.rest ≤ length l.text + 1;
  counted : l.number + length (lines_of l.rest) ≡ length (lines_of l.text) + 1;
  goes_on : (last : ℕ) → checked last l.fn.seen (numbered 1 (lines_of l.text)) ≡ checked last l.seen (numbered l.number (lines_of l.rest));
}

abbrev pub decreases-loop-line : goal.decreases-loop-line
decreases-loop-line l = length l.rest
