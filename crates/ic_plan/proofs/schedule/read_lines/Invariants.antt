use Rattle.std.proofs.Common.{◌+◌, ◌≤◌, length, false}
use Rattle.std.specs.List.{AllByRecursion}
use Rattle.def_syntax.specs.Text.{lines_of, numbered}
use Rattle.def_syntax.specs.Schedule.{all_events}
use Rattle.ic_plan.specs.Verbs.{forms_for}
use Rattle.def_syntax.specs.Allowed.{IsAllowed}
use Rattle.ic_plan.proofs.Lines.{IsRead}
use Rattle.ic_plan.proofs.schedule.read_lines.Given as goal

abbrev pub invariant-loop-line : goal.invariant-loop-line
invariant-loop-line l = record {
  near : l.number + length l.rest ≤ length l.bytes + 1;
  few : length l.events + 1 ≤ l.number;
  read : IsRead (all_events (forms_for l.inputs) l.program) l.halts l.events (numbered l.number (lines_of l.rest)) (all_events (forms_for l.inputs) l.program false (numbered 1 (lines_of l.bytes)));
  allowed : AllByRecursion (IsAllowed l.program) l.events;
}

abbrev pub decreases-loop-line : goal.decreases-loop-line
decreases-loop-line l = length l.rest
