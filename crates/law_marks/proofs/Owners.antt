-- The log of a component is loaded by its scenario and its number.
use Rattle.std.proofs.Common.{◌≡◌, refl, ◌∙◌, ap, ℕ, Bool, true, false, cond, List, arith}
use Rattle.std.specs.Prelude.{Result, Ok, Err, ◌&&◌, not, ◌==◌}
use Rattle.std.proofs.lemmas.Bool.Decides.{nat_tests}
use Rattle.ic_base.specs.declared.record.Batch.{Batch}
use Rattle.def_log.specs.Frame.{owner_in}
use Rattle.def_log.specs.Loads.{is_well_formed, of_owner}

pub owned : (owner : ℕ) (bytes : List ℕ) (behind : Result (List Batch) ℕ) → owner_in bytes ≡ owner → of_owner owner bytes behind ≡ behind
owned owner bytes behind e =
    let same : (owner_in bytes == owner) ≡ true = grind (arith, nat_tests) in
    ap (λ t. cond (is_well_formed bytes && not t) (Err 40) behind) same ∙ at (is_well_formed bytes)
  where
    at : (t : Bool) → cond (t && false) (Err 40) behind ≡ behind
    at true = refl
    at false = refl
