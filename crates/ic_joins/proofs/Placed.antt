-- All components of a program, made one after another of those that have a disk.
use Rattle.std.proofs.Common.{◌≡◌, ◌∙◌, sym, ap, subst, refl, ℕ, suc, ◌+◌, ◌<◌, Bool, true, false, cond, inl, inr, ⊎_elim, List, [], ◌∷◌, ◌++◌, length, drop, filter, arith, Some}
use Rattle.std.specs.Prelude.{slice_get}
use Rattle.std.proofs.lemmas.List.{length-append}
use Rattle.ic_base.specs.declared.messages.ComId.{ComId}
use Rattle.ic_base.specs.declared.scenario.Component.{Component as Declared}
use Rattle.ic_base.specs.declared.scenario.Program.{Program}
use Rattle.def_run.specs.SystemStates.{has_disk}
use Rattle.def_live.specs.Turns.{coms_from}
use Rattle.ic_disk.specs.declared.disk.Disk.{Ghosts}
use Rattle.ic_node.specs.declared.component.Component.{Component}
use Rattle.ic_live.specs.Berthed.{berthed}
use Rattle.ic_world.proofs.Lists.{get-there, get-within}
use Rattle.ic_world.proofs.Places.{from-drop, next-drop, at-drop}
use Rattle.ic_turn.proofs.Places.{get_more}
use Rattle.ic_joins.specs.Placing.{IsNext, IsPlaced, ArePlaced}

module _ {D : Type 0} {d : Ghosts D} (program : Program) (inside : List (Component D d)) where
  -- as far as a loop has come: the next of those that have a disk is that of the next component that has one
  pub record PlacedTo (i : ℕ) (all rest : List (Component D d)) : Type 0 where
    pub count : length all ≡ i
    pub each : (c : ComId) (x : Component D d) → slice_get all c.0 ≡ Some x → IsPlaced program inside c x
    pub at : ℕ
    pub left : rest ≡ drop at inside
    pub coms : filter (has_disk program) (coms_from i (drop i program.components)) ≡ drop at (berthed program)

  pub placed-none : (all rest : List (Component D d)) → all ≡ [] → rest ≡ inside → PlacedTo 0 all rest
  placed-none all rest a r = record {
    count = ap (λ (l : List (Component D d)). length l) a;
    each = λ c x e. let h : slice_get [] c.0 ≡ Some x = ap (λ l. slice_get l c.0) (sym a) ∙ e in absurd (cc h);
    at = 0;
    left = r;
    coms = refl;
  }

  module _ (i : ℕ) (c : ComId) (is : c.0 ≡ i) (all rest : List (Component D d)) (p : PlacedTo i all rest) (small : i < length program.components) where
    here : (x : Declared) × (drop i program.components ≡ x ∷ drop (i + 1) program.components)
    here = let x = get-there program.components i small in (x.0, at-drop program.components i x.0 x.1)

    same : record { 0 = i } ≡ c
    same = let P : ℕ → ComId = λ n. record { 0 = n } in ap P (sym is)

    split : (b : Bool) → has_disk program c ≡ b → drop p.at (berthed program) ≡ cond b (c ∷ filter (has_disk program) (coms_from (i + 1) (drop (i + 1) program.components))) (filter (has_disk program) (coms_from (i + 1) (drop (i + 1) program.components)))
    split b has =
        sym p.coms ∙ ap (λ l. filter (has_disk program) (coms_from i l)) here.1
        ∙ ap (λ z. cond (has_disk program z) (z ∷ filter (has_disk program) (coms_from (i + 1) (drop (i + 1) program.components))) (filter (has_disk program) (coms_from (i + 1) (drop (i + 1) program.components)))) same
        ∙ ap (λ t. cond t (c ∷ filter (has_disk program) (coms_from (i + 1) (drop (i + 1) program.components))) (filter (has_disk program) (coms_from (i + 1) (drop (i + 1) program.components)))) has

    -- one is there where it is wanted
    pub next-there : length inside ≡ length (berthed program) → has_disk program c ≡ true → 0 < length rest
    next-there n has =
        let at = from-drop (berthed program) p.at c (filter (has_disk program) (coms_from (i + 1) (drop (i + 1) program.components))) (split true has) in
        let x = get-there inside p.at (let l = get-within (berthed program) p.at c at in omega (arith, l, n)) in
        let e : length rest ≡ suc (length (drop (p.at + 1) inside)) = ap (λ (l : List (Component D d)). length l) (p.left ∙ at-drop inside p.at x.0 x.1) in
        omega (arith, e)

    pub placed-next : (news more : List (Component D d)) (x : Component D d) → IsNext program c rest more x → news ≡ all ++ x ∷ [] → PlacedTo (i + 1) news more
    placed-next news more x next added = by next
      where
        count-so : length news ≡ i + 1
        count-so = let h : length (all ++ x ∷ []) ≡ length all + 1 = length-append all (x ∷ []) in let e = ap (λ (l : List (Component D d)). length l) added in omega (arith, h, e, p.count)

        each-so : IsPlaced program inside c x → (b : ComId) (y : Component D d) → slice_get news b.0 ≡ Some y → IsPlaced program inside b y
        each-so here b y e = ⊎_elim
            (λ (h : (b.0 ≡ length all) × (y ≡ x)).
            let P : ℕ → ComId = λ n. record { 0 = n } in
            let at : c ≡ b = ap P (is ∙ sym p.count ∙ sym h.0) in
            let Q : ComId × Component D d → Type 0 = λ z. IsPlaced program inside z.0 z.1 in
            subst Q (λ j. (at j, sym h.1 j)) here)
            (λ (h : (b.0 < length all) × (slice_get all b.0 ≡ Some y)). p.each b y h.1)
            (get_more all x y b.0 (ap (λ l. slice_get l b.0) (sym added) ∙ e))

        by : IsNext program c rest more x → PlacedTo (i + 1) news more
        by (inl h) =
            let after : drop p.at inside ≡ x ∷ more = sym p.left ∙ h.1 in
            let coms = split true h.0 in
            record {
              count = count-so;
              each = each-so (inl (p.at, from-drop (berthed program) p.at c _ coms, from-drop inside p.at x more after));
              at = p.at + 1;
              left = sym (next-drop inside p.at x more after);
              coms = sym (next-drop (berthed program) p.at c _ coms);
            }
        by (inr h) = record {
          count = count-so;
          each = each-so (inr (h.0, h.2));
          at = p.at;
          left = sym h.1 ∙ p.left;
          coms = sym (split false h.0);
        }

  pub placed-all : (i : ℕ) (all rest : List (Component D d)) → length program.components ≡ i → PlacedTo i all rest → ArePlaced program inside all
  placed-all i all rest e p = record { count = p.count ∙ sym e; each = p.each }
