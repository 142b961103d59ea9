-- The lines of a migration, one after the other.
use Rattle.std.proofs.Common.{◌≡◌, ◌∙◌, ap, sym, ℕ, ◌+◌, ◌<◌, ◌≤◌, List, ◌∷◌, ◌++◌, length, get_or, drop, append_assoc}
use Rattle.std.proofs.lemmas.List.{append-nil, drop_all, drop_more}
use Rattle.ic_base.specs.declared.messages.ComId.{ComId}
use Rattle.ic_base.specs.declared.scenario.Program.{Program}
use Rattle.ic_report.specs.Migrated.{migrated_line, migrated_lines}

module _ (program : Program) (coms : List ComId) (logs : List (List ℕ)) where
  -- one line more
  pub migrated-on : (i : ℕ) (dc : ComId) (dl log out new all : List ℕ) → i < length coms → i < length logs → log ≡ get_or logs i dl → new ≡ out ++ migrated_line program (get_or coms i dc) log
      → out ++ migrated_lines program (drop i coms) (drop i logs) ≡ all → new ++ migrated_lines program (drop (i + 1) coms) (drop (i + 1) logs) ≡ all
  migrated-on i dc dl log out new all in_coms in_logs is added so_far =
      let c : ComId = get_or coms i dc in
      let rest : List ℕ = migrated_lines program (drop (i + 1) coms) (drop (i + 1) logs) in
      ap (λ (t : List ℕ). t ++ rest) added
      ∙ append_assoc out (migrated_line program c log) rest
      ∙ ap (λ (l : List ℕ). out ++ (migrated_line program c l ++ rest)) is
      ∙ sym (ap (λ (cs : List ComId). out ++ migrated_lines program cs (get_or logs i dl ∷ drop (i + 1) logs)) (drop_more coms i dc in_coms))
      ∙ sym (ap (λ (ls : List (List ℕ)). out ++ migrated_lines program (drop i coms) ls) (drop_more logs i dl in_logs))
      ∙ so_far

  -- and all
  pub migrated-end : (i : ℕ) (out all : List ℕ) → length coms ≤ i → out ++ migrated_lines program (drop i coms) (drop i logs) ≡ all → out ≡ all
  migrated-end i out all le so_far =
      sym (append-nil out) ∙ sym (ap (λ (cs : List ComId). out ++ migrated_lines program cs (drop i logs)) (drop_all i coms le)) ∙ so_far
