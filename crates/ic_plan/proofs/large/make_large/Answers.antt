use Rattle.std.specs.Prelude.{◌++◌}
use Rattle.std.proofs.Common.{ap, ◌∙◌}
use Rattle.ic_plan.proofs.large.make_large.Goals as goal

pub returns-clause-scenario : goal.returns-clause-scenario
returns-clause-scenario c =
    c.from_vec.ensures ∙ c.in_ok-extend_from_slice.ensures.items ∙ ap (λ k. k ++ c.scenario.result.now) c.new-held.ensures.items ∙ c.scenario.ensures

pub returns-clause-schedule : goal.returns-clause-schedule
returns-clause-schedule c = c.from_vec-2.ensures ∙ c.in_ok-schedule.ensures
