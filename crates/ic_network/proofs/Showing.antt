-- One more output is shown.
use Rattle.std.proofs.Common.{◌≡◌, ◌∙◌, ap, sym, refl, ℕ, ◌==◌, Bool, true, false, cond, ◌⊎◌, inl, inr, List, [], ◌∷◌, ◌++◌}
use Rattle.std.specs.Prelude.{◌&&◌, ◌||◌}
use Rattle.std.specs.List.{list_any}
use Rattle.std.proofs.lemmas.Bool.{cases_eq, eq-eqb, ne_eqb}
use Rattle.std.proofs.lemmas.List.Folds.{list_any-append}
use Rattle.ic_base.specs.declared.messages.ComId.{ComId}
use Rattle.ic_base.specs.declared.messages.Output.{Output}
use Rattle.def_step.specs.World.{same_showing}
use Rattle.ic_network.specs.Showings.{same_key}

eqb-turned : (a b : ℕ) → (a == b) ≡ (b == a)
eqb-turned a b = by (cases_eq a b)
  where
    by : (a ≡ b) ⊎ (a ≡ b → ⊥) → (a == b) ≡ (b == a)
    by (inl e) = eq-eqb a b e ∙ sym (eq-eqb b a (sym e))
    by (inr d) = ne_eqb a b d ∙ sym (ne_eqb b a (λ z. d (sym z)))

either-way : (b other : Bool) → cond b true other ≡ (other || (b || false))
either-way true true = refl
either-way true false = refl
either-way false true = refl
either-way false false = refl

pub any-added : (showings : List (ComId × Output)) (c : ComId) (output : Output) (d : ComId) (m : ℕ) → cond (same_key (c.0, output.m) (d.0, m)) true (list_any (same_showing d m) showings) ≡ list_any (same_showing d m) (showings ++ (c, output) ∷ [])
any-added showings c output d m =
    ap (λ b. cond (b && (output.m == m)) true (list_any (same_showing d m) showings)) (eqb-turned c.0 d.0)
    ∙ ap (λ b. cond ((d.0 == c.0) && b) true (list_any (same_showing d m) showings)) (eqb-turned output.m m)
    ∙ either-way ((d.0 == c.0) && (m == output.m)) (list_any (same_showing d m) showings)
    ∙ sym (list_any-append (same_showing d m) showings ((c, output) ∷ []))
