use Rattle.law_tail.proofs.Wholes.{steps-same, comes-up-same}
use Rattle.law_tail.proofs.tails_take_the_same_steps.Goals as goal

pub returns-clause-steps : goal.returns-clause-steps
returns-clause-steps c = steps-same

pub returns-clause-comes_up : goal.returns-clause-comes_up
returns-clause-comes_up c = comes-up-same
