use Rattle.std.proofs.Common.{◌≡◌, ◌+◌, ◌≤◌, length, IsOk}
use Rattle.def_syntax.specs.Text.{lines_of, numbered}
use Rattle.def_syntax.specs.Scope.{empty_scope}
use Rattle.def_syntax.specs.Scenario.{checked, all_named}
use Rattle.ic_syntax.specs.Views.{builder_lines}
use Rattle.ic_syntax.specs.BuilderStates.{state_of}
use Rattle.ic_syntax.specs.Passes.{with_front}
use Rattle.ic_syntax.specs.Places.{LeadsTo}
use Rattle.ic_syntax.proofs.walk.second_pass.Given as goal

abbrev pub invariant-loop-line : goal.invariant-loop-line
invariant-loop-line l = record {
  bounded : l.number + length l.rest ≤ length l.text + 1;
  taken : IsOk (checked (length (lines_of l.text) + 1) l.seen (numbered l.number (lines_of l.rest)));
  spot : LeadsTo l.seen (state_of l.draft.place);
  goes_on : all_named l.all empty_scope (numbered 1 (lines_of l.text)) ≡ with_front (builder_lines l.draft) (all_named l.all l.seen (numbered l.number (lines_of l.rest)));
}

abbrev pub decreases-loop-line : goal.decreases-loop-line
decreases-loop-line l = length l.rest
