use Rattle.std.proofs.Common.{◌∙◌, subst, List, ℕ, rules, arith}
use Rattle.ic_report.specs.Outputs.{Puts, FailsToPut}
use Rattle.ic_world.specs.Views.{world_of}
use Rattle.ic_threads.proofs.Concluded.{report-pieces}
use Rattle.ic_threads.proofs.concluding.conclude.Goals as goal

pub returns-in-Ok-clause-printed : goal.returns-in-Ok-clause-printed
returns-in-Ok-clause-printed g c =
    let P : List (List ℕ) → Type 0 = λ ps. Puts g.K.Sink ps c.args.out.now c.print_both.new.out in
    subst P
    (report-pieces c.args.program.now c.args.level c.args.tally c.args.shown.now (world_of c.args.world.now) c.in_ok-outputs.outputs c.in-Some.played _ c.in_ok-summary.summary c.as_slice.result.now c.as_slice-2.result.now c.as_slice.ensures.value c.in_ok-outputs.ensures c.in_ok-summary.ensures
    (c.as_slice-2.ensures ∙ c.in_ok-lines.ensures.lines) (search (rules, arith)))
    c.in-Ok.ensures.printed

pub returns-clause-refused : goal.returns-clause-refused
returns-clause-refused g c =
    let P : List (List ℕ) → Type 0 = λ ps. FailsToPut g.K.Sink ps c.args.out.now c.print_both.new.out in
    subst P
    (report-pieces c.args.program.now c.args.level c.args.tally c.args.shown.now (world_of c.args.world.now) c.in_ok-outputs.outputs c.in-Some.played _ c.in_ok-summary.summary c.as_slice.result.now c.as_slice-2.result.now c.as_slice.ensures.value c.in_ok-outputs.ensures c.in_ok-summary.ensures
    (c.as_slice-2.ensures ∙ c.in_ok-lines.ensures.lines) (search (rules, arith)))
    c.in-Err.ensures.failed
