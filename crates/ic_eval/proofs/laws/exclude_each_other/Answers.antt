use Rattle.ic_eval.proofs.laws.exclude_each_other.Goals as goal

pub returns : goal.returns
returns c r t u q line vars sends outs = (λ a b. absurd (cc), λ a b. absurd (cc), λ a b. absurd (cc), λ a b. absurd (cc), λ a b. absurd (cc), λ a b. absurd (cc))
