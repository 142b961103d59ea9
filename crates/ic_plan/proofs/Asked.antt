-- Which texts were asked for.
use native.Mathlib.Omega.{arith}
use Rattle.std.proofs.Common.{◌≡◌, ◌∙◌, ap, sym, ℕ, List, [], ◌∷◌, ◌++◌, length, append_assoc}
use Rattle.std.specs.Prelude.{Some, None}
use Rattle.std.proofs.lemmas.List.{take_all}
use Rattle.def_syntax.specs.Commands.{TextNames}
use Rattle.ic_plan.specs.Keeping.{each_name, AskFor}

pub asked-one : (names : TextNames) (old one : List (List ℕ)) → one ≡ old ++ names.scenario ∷ [] → AskFor (each_name names) old one
asked-one names old one first = record { count = 1; asked = first }

behind : (old one two : List (List ℕ)) (first second : List (List ℕ)) → one ≡ old ++ first → two ≡ one ++ second → two ≡ old ++ (first ++ second)
behind old one two first second is then = then ∙ ap (λ (l : List (List ℕ)). l ++ second) is ∙ append_assoc old first second

pub asked-two : (names : TextNames) (old one two : List (List ℕ)) → one ≡ old ++ names.scenario ∷ [] → two ≡ one ++ names.schedule ∷ [] → AskFor (each_name names) old two
asked-two names old one two first second = record { count = 2; asked = behind old one two (names.scenario ∷ []) (names.schedule ∷ []) first second }

-- without a policy
pub all-of-two : (names : TextNames) (old one two : List (List ℕ)) → names.policy ≡ None → one ≡ old ++ names.scenario ∷ [] → two ≡ one ++ names.schedule ∷ [] → two ≡ old ++ each_name names
all-of-two names old one two none first second = rw none (behind old one two (names.scenario ∷ []) (names.schedule ∷ []) first second)

-- with a policy
pub all-of-three : (names : TextNames) (policy : List ℕ) (old one two three : List (List ℕ)) → names.policy ≡ Some policy
    → one ≡ old ++ names.scenario ∷ [] → two ≡ one ++ names.schedule ∷ [] → three ≡ two ++ policy ∷ [] → three ≡ old ++ each_name names
all-of-three names policy old one two three is first second third = rw is
    (behind old two three (names.scenario ∷ names.schedule ∷ []) (policy ∷ []) (behind old one two (names.scenario ∷ []) (names.schedule ∷ []) first second) third)

pub asked-all : (names : TextNames) (old new : List (List ℕ)) → new ≡ old ++ each_name names → AskFor (each_name names) old new
asked-all names old new is = record { count = length (each_name names); asked = is ∙ ap (λ (l : List (List ℕ)). old ++ l) (sym (take_all (length (each_name names)) (each_name names) (omega arith))) }
