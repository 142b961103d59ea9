-- Results of transactions, one behind the other.
use Rattle.std.proofs.Common.{◌≡◌, sym, subst, ℕ, ℤ, List, [], ◌∷◌, ◌++◌, ◌⊎◌, inl, inr}
use Rattle.ic_base.specs.declared.messages.ComId.{ComId}
use Rattle.ic_base.specs.declared.messages.Done.{Done}
use Rattle.ic_base.specs.declared.scenario.Program.{Program}
use Rattle.def_facts.specs.Playable.{IsResult, AreResults}
use Rattle.law_replay.proofs.Members.{append-cons, last-or-before}

pub no-results : (program : Program) (c : ComId) (handler : ℕ) (vars args : List ℤ) → AreResults program c handler vars args []
no-results program c handler vars args pre post d e = append-cons pre d post (sym e)

pub more-results : (program : Program) (c : ComId) (handler : ℕ) (vars args : List ℤ) (done : List Done) (x : Done) → AreResults program c handler vars args done → IsResult program c handler vars args done x → AreResults program c handler vars args (done ++ x ∷ [])
more-results program c handler vars args done x are here pre post d e = at (last-or-before done pre post x d e)
  where
    at : ((pre ≡ done) × (d ≡ x)) ⊎ ((more : List Done) × (done ≡ pre ++ d ∷ more)) → IsResult program c handler vars args pre d
    at (inl z) = subst (λ y. IsResult program c handler vars args y d) (sym z.0) (subst (λ y. IsResult program c handler vars args done y) (sym z.1) here)
    at (inr z) = are pre z.0 d z.1
