-- The names that are asked for: the scenario's first, and then those of the schedule and the policy.
use Rattle.std.proofs.Common.{◌≡◌, ◌∙◌, ap, ℕ, suc, List, [], ◌∷◌, ◌++◌, take}
use Rattle.std.proofs.lemmas.List.{append_assoc}
use Rattle.def_syntax.specs.Commands.{TextNames}
use Rattle.ic_plan.proofs.Asked.{asked-one}
use Rattle.ic_plan.specs.Keeping.{each_name, if_named, AskFor}

pub asked_scene : (names : TextNames) (old one : List (List ℕ)) → one ≡ old ++ names.scenario ∷ [] → AskFor (each_name names) old one
asked_scene names old one e = asked-one names old one e

pub asked_rest : (names : TextNames) (old one new : List (List ℕ)) → one ≡ old ++ names.scenario ∷ [] → AskFor (names.schedule ∷ if_named names.policy) one new → AskFor (each_name names) old new
asked_rest names old one new e a = record { count = suc a.count; asked = a.asked ∙ ap (λ l. l ++ take a.count (names.schedule ∷ if_named names.policy)) e ∙ append_assoc old (names.scenario ∷ []) (take a.count (names.schedule ∷ if_named names.policy)) }
