use Rattle.std.proofs.Common.{◌∙◌}
use Rattle.def_syntax.specs.Large.{large_scenario, large_schedule}
use Rattle.ic_plan.proofs.SameTexts.{say-same, refuse-same}
use Rattle.ic_plan.proofs.large_run.large_texts.Goals as goal

pub returns-in-Ok-clause-says : goal.returns-in-Ok-clause-says
returns-in-Ok-clause-says c =
    say-same c.run_in.result c.as_slice.result.now c.as_slice-in-Ok.result.now large_scenario (large_schedule c.args.number) (c.as_slice.ensures ∙ (c.in-Ok.ensures {u = tt}).scenario)
    (c.as_slice-in-Ok.ensures ∙ (c.in-Ok.ensures {u = tt}).schedule) c.run_in.ensures.says

pub returns-in-Ok-clause-refused : goal.returns-in-Ok-clause-refused
returns-in-Ok-clause-refused c =
    refuse-same c.run_in.result c.as_slice.result.now c.as_slice-in-Ok.result.now large_scenario (large_schedule c.args.number) (c.as_slice.ensures ∙ (c.in-Ok.ensures {u = tt}).scenario)
    (c.as_slice-in-Ok.ensures ∙ (c.in-Ok.ensures {u = tt}).schedule) c.run_in.ensures.refused
