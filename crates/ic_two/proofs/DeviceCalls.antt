-- The device calls by which a record is forced.
use Rattle.std.proofs.Common.{◌≡◌, ◌∙◌, ap, ℕ, Bool, false, cond, List, [], ◌++◌}
use Rattle.std.specs.Prelude.{Result, Err}
use Rattle.ic_gate.specs.Calls.{gated_calls, force_writes}

-- those of a log to which bytes are added alone
pub same_force : (closed : Bool) (size now : ℕ) (buffered before bytes : List ℕ) → closed ≡ false → size ≡ now → buffered ≡ before ++ bytes → before ≡ [] → cond closed [] (gated_calls (force_writes size buffered)) ≡ gated_calls (force_writes now bytes)
same_force closed size now buffered before bytes is_open same added none =
    ap (λ b. cond b [] (gated_calls (force_writes size buffered))) is_open ∙ ap (λ n. gated_calls (force_writes n buffered)) same ∙ ap (λ l. gated_calls (force_writes now l)) (added ∙ ap (λ l. l ++ bytes) none)

-- a refusal that is handed on
pub err_again : {S T E : Type 0} (why failed : E) → ◌≡◌ {A = Result S E} (Err why) (Err failed) → ◌≡◌ {A = Result T E} (Err why) (Err failed)
err_again why failed is = let same : why ≡ failed = cc in ap Err same
