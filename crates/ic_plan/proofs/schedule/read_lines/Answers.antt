use Rattle.std.proofs.Common.{ap, sym, subst, ◌∙◌, List, arith}
use Rattle.std.specs.List.{AllByRecursion}
use Rattle.ic_base.specs.declared.events.Event.{Event}
use Rattle.def_syntax.specs.Text.{numbered}
use Rattle.def_syntax.specs.Schedule.{all_events}
use Rattle.ic_plan.specs.Verbs.{forms_for}
use Rattle.def_syntax.specs.Allowed.{IsAllowed}
use Rattle.ic_plan.proofs.Lines.{in_front, event_lines, read_more, read_all, read_refused, all_with, one_more}
use Rattle.ic_plan.proofs.schedule.read_lines.Goals as goal

pub returns-in-Err-clause-refused : goal.returns-in-Err-clause-refused
returns-in-Err-clause-refused c =
    let p = c.args.program.now in
    let read = c.loop-line.invariant.read ∙ ap (λ ls. in_front c.loop-line.events (all_events (forms_for c.args.inputs) p c.loop-line.halts (numbered c.loop-line.number ls))) c.in-Some.ensures.line in
    rw (c.refused_at.ensures.line, c.refused_at.ensures.cause) (read_refused (event_lines (forms_for c.args.inputs) p) c.loop-line.halts c.loop-line.number _ _ c.loop-line.events c.in-Err.cause _ c.in-Err.ensures.found read)

pub loop-line-preserved : goal.loop-line-preserved
loop-line-preserved c =
    let p = c.args.program.now in
    let read = c.loop-line.invariant.read ∙ ap (λ ls. in_front c.loop-line.events (all_events (forms_for c.args.inputs) p c.loop-line.halts (numbered c.loop-line.number ls))) c.in-Some.ensures.line in
    let all : List Event → Type 0 = AllByRecursion (IsAllowed p) in
    record {
      near = omega (arith, c.loop-line.invariant.near, c.in-Some.ensures.less);
      few = one_more c.loop-line.events _ c.in-Ok.event c.loop-line.number c.in-Ok-add.ensures c.loop-line.invariant.few;
      read = rw c.in-Ok-add.ensures (read_more (event_lines (forms_for c.args.inputs) p) c.loop-line.halts c.loop-line.number _ _ c.loop-line.events _ c.in-Ok.halted _ c.in-Ok.ensures.found read);
      allowed = subst all (sym c.in-Ok-add.ensures) (all_with (IsAllowed p) c.loop-line.events c.in-Ok.event c.loop-line.invariant.allowed c.in-Ok.ensures.there);
    }

pub returns-clause-accepted : goal.returns-clause-accepted
returns-clause-accepted c =
    let p = c.args.program.now in
    read_all (event_lines (forms_for c.args.inputs) p) c.loop-line.halts c.loop-line.events _
    (c.loop-line.invariant.read ∙ ap (λ ls. in_front c.loop-line.events (all_events (forms_for c.args.inputs) c.args.program.now c.loop-line.halts (numbered c.loop-line.number ls))) c.in_default.ensures.line)
