-- The components that have logs, one after the other.
use Rattle.std.proofs.Common.{◌≡◌, ◌∙◌, ap, sym, refl, ℕ, ◌+◌, ◌≤◌, Bool, true, false, cond, List, [], ◌∷◌, ◌++◌, length, drop, append_assoc}
use Rattle.std.proofs.lemmas.List.{append-nil, drop_all}
use Rattle.ic_base.specs.declared.messages.ComId.{ComId}
use Rattle.ic_base.specs.declared.scenario.Component.{Component}
use Rattle.ic_migrate.specs.Logged.{has_log, with_logged, logged}

-- one more
pub one_more : (coms : List ComId) (i : ℕ) (x : Component) (xs : List Component) → coms ++ logged i (x ∷ xs) ≡ with_logged x.kind (record { 0 = i }) coms ++ logged (i + 1) xs
one_more coms i x xs = at (has_log x.kind)
  where
    c : ComId
    c = record { 0 = i }

    rest : List ComId
    rest = logged (i + 1) xs

    at : (t : Bool) → coms ++ cond t (c ∷ rest) rest ≡ cond t (coms ++ c ∷ []) coms ++ rest
    at true = sym (append_assoc coms (c ∷ []) rest)
    at false = refl

-- and all
pub no_more : (coms : List ComId) (i : ℕ) (xs : List Component) → length xs ≤ i → coms ++ logged i (drop i xs) ≡ coms
no_more coms i xs le = ap (λ (l : List Component). coms ++ logged i l) (drop_all i xs le) ∙ append-nil coms
