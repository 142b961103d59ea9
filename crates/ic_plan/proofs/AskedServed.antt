-- Which texts were asked for, of a run that serves lines.
use native.Mathlib.Omega.{arith}
use Rattle.std.proofs.Common.{◌≡◌, ◌∙◌, ap, sym, ℕ, List, [], ◌∷◌, ◌++◌, length, append_assoc}
use Rattle.std.specs.Prelude.{Option, Some, None}
use Rattle.std.proofs.lemmas.List.{take_all}
use Rattle.ic_plan.specs.Keeping.{served_names, AskFor}

-- without a policy
pub all-of-one : (scenario : List ℕ) (policy : Option (List ℕ)) (old one : List (List ℕ)) → policy ≡ None → one ≡ old ++ scenario ∷ [] → one ≡ old ++ served_names scenario policy
all-of-one scenario policy old one none first = rw none first

-- with a policy
pub all-served : (scenario name : List ℕ) (policy : Option (List ℕ)) (old one two : List (List ℕ)) → policy ≡ Some name → one ≡ old ++ scenario ∷ [] → two ≡ one ++ name ∷ [] → two ≡ old ++ served_names scenario policy
all-served scenario name policy old one two is first second =
    rw is (second ∙ ap (λ (l : List (List ℕ)). l ++ name ∷ []) first ∙ append_assoc old (scenario ∷ []) (name ∷ []))

pub asked-served : (scenario : List ℕ) (policy : Option (List ℕ)) (old new : List (List ℕ)) → new ≡ old ++ served_names scenario policy → AskFor (served_names scenario policy) old new
asked-served scenario policy old new is = record {
  count = length (served_names scenario policy);
  asked = is ∙ ap (λ (l : List (List ℕ)). old ++ l) (sym (take_all (length (served_names scenario policy)) (served_names scenario policy) (omega arith)));
}
