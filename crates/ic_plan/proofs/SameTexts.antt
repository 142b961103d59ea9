-- What equal texts say, and are refused for.
use Rattle.std.proofs.Common.{◌≡◌, subst, ℕ, List, IfOk, IfErr, Result}
use Rattle.ic_plan.specs.Large.{SayRun, RefuseRun}
use Rattle.ic_plan.specs.declared.run_texts.RunTexts.{RunTexts}
use Rattle.ic_plan.specs.declared.run_texts.TextsRefused.{TextsRefused}

pub say-same : (r : Result RunTexts TextsRefused) (a b s t : List ℕ) → a ≡ s → b ≡ t → IfOk r (SayRun a b) → IfOk r (SayRun s t)
say-same r a b s t e f h = subst (λ y. IfOk r (SayRun s y)) f (subst (λ x. IfOk r (SayRun x b)) e h)

pub refuse-same : (r : Result RunTexts TextsRefused) (a b s t : List ℕ) → a ≡ s → b ≡ t → IfErr r (RefuseRun a b) → IfErr r (RefuseRun s t)
refuse-same r a b s t e f h = subst (λ y. IfErr r (RefuseRun s y)) f (subst (λ x. IfErr r (RefuseRun x b)) e h)
