use Rattle.std.proofs.Common.{◌∙◌, ap, sym}
use Rattle.def_step.specs.World.{World}
use Rattle.ic_world.specs.Tasks.{task_of, oldest_delivered, oldest_lost}
use Rattle.ic_world.specs.Working.{with_network}
use Rattle.ic_world.proofs.task.task_of.Goals as goal

pub returns-in-Some-clause-task : goal.returns-in-Some-clause-task
returns-in-Some-clause-task c = λ nodes showings.
    let w : World = with_network nodes showings c.args.network.now.network in
    ap (task_of w) c.in-Deliver.is ∙ ap (oldest_delivered w) (sym c.oldest_of.ensures ∙ c.in-Some.is) ∙ c.delivered.ensures.task nodes showings

pub returns-in-None-clause-task : goal.returns-in-None-clause-task
returns-in-None-clause-task c = λ nodes showings.
    let w : World = with_network nodes showings c.args.network.now.network in
    ap (task_of w) c.in-Deliver.is ∙ ap (oldest_delivered w) (sym c.oldest_of.ensures ∙ c.in-None.is)

pub returns-in-Some-oldest_of-clause-task : goal.returns-in-Some-oldest_of-clause-task
returns-in-Some-oldest_of-clause-task c = λ nodes showings.
    let w : World = with_network nodes showings c.args.network.now.network in
    ap (task_of w) c.in-Lose.is ∙ ap (oldest_lost w) (sym c.oldest_of-in-Lose.ensures ∙ c.in-Some-oldest_of.is) ∙ c.lost.ensures.task nodes showings

pub returns-in-None-oldest_of-clause-task : goal.returns-in-None-oldest_of-clause-task
returns-in-None-oldest_of-clause-task c = λ nodes showings.
    let w : World = with_network nodes showings c.args.network.now.network in
    ap (task_of w) c.in-Lose.is ∙ ap (oldest_lost w) (sym c.oldest_of-in-Lose.ensures ∙ c.in-None-oldest_of.is)
