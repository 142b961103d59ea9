-- Something is done to several disks, one after the other.
use Rattle.std.proofs.Common.{◌≡◌, ◌∙◌, ap, sym, subst, refl, ◌⊎◌, inl, inr, ℕ, zero, suc, ◌+◌, ◌<◌, ◌≤◌, List, [], ◌∷◌, length, get_or, Some, arith}
use Rattle.std.specs.Prelude.{slice_get, slice_set}
use Rattle.std.proofs.lemmas.Bool.{cases_eq, cases_lt}
use Rattle.std.proofs.lemmas.List.{length-set}
use Rattle.std.proofs.lemmas.Option.{slice_get-get_or, slice_get_within}
use Rattle.ic_opening.specs.Disks.{EachMeets}

module _ {X : Type 0} where
  pub same_item : (a b : X) → Some a ≡ Some b → a ≡ b
  same_item a b e = cc

  set_same : (xs : List X) (i : ℕ) (y : X) → i < length xs → slice_get (slice_set xs i y) i ≡ Some y
  set_same [] i y lt = absurd (omega (arith, lt))
  set_same (x ∷ xs) zero y lt = refl
  set_same (x ∷ xs) (suc i) y lt = set_same xs i y (omega (arith, lt))

  set_other : (xs : List X) (i j : ℕ) (y : X) → (j ≡ i → ⊥) → slice_get (slice_set xs i y) j ≡ slice_get xs j
  set_other [] i j y other = refl
  set_other (x ∷ xs) zero zero y other = absurd (other refl)
  set_other (x ∷ xs) zero (suc j) y other = refl
  set_other (x ∷ xs) (suc i) zero y other = refl
  set_other (x ∷ xs) (suc i) (suc j) y other = set_other xs i j y (λ e. other (ap suc e))

module _ {D : Type 0} where
  -- it was done to the disks below this place, and the others stand
  pub record DoneTo (P : ℕ → D → D → Type 0) (i : ℕ) (olds now : List D) : Type 0 where
    pub long : length now ≡ length olds
    pub done : (j : ℕ) (old : D) → j < i → slice_get olds j ≡ Some old → (new : D) × (slice_get now j ≡ Some new) × P j old new
    pub later : (j : ℕ) → i ≤ j → slice_get now j ≡ slice_get olds j

  pub nothing_done : (P : ℕ → D → D → Type 0) (olds : List D) → DoneTo P 0 olds olds
  nothing_done P olds = record { long = refl; done = λ j old lt e. absurd (omega (arith, lt)); later = λ j le. refl }

  -- to all of them, and so what follows
  pub all_done : (P Q : ℕ → D → D → Type 0) → ((j : ℕ) (old new : D) → P j old new → Q j old new) → (i : ℕ) (olds now : List D) → length olds ≤ i → DoneTo P i olds now → EachMeets Q olds now
  all_done P Q follows i olds now le s = record {
    long = s.long;
    each = λ j old e. let one = s.done j old (omega (arith, slice_get_within olds j old e, le)) e in (one.0, one.1, follows j old one.0 one.2);
  }

  -- the next one stands as it was
  pub was_there : (P : ℕ → D → D → Type 0) (i : ℕ) (olds now : List D) → DoneTo P i olds now → (other : D) → i < length now → slice_get olds i ≡ Some (get_or now i other)
  was_there P i olds now s other lt = sym (s.later i (omega arith)) ∙ slice_get-get_or now i other lt

  module _ (P : ℕ → D → D → Type 0) (i : ℕ) (olds now : List D) (s : DoneTo P i olds now) (other new : D) (lt : i < length now) where
    abbrev old : D
    old = get_or now i other

    was : slice_get olds i ≡ Some old
    was = was_there P i olds now s other lt

    pub is_now : slice_get (slice_set now i new) i ≡ Some new
    is_now = set_same now i new lt

    -- to the next one
    pub go_on : P i old new → DoneTo P (i + 1) olds (slice_set now i new)
    go_on p = record {
      long = length-set now i new ∙ s.long;
      done = λ j x le e. at j x le e (cases_eq j i);
      later = λ j le. set_other now i j new (λ e. omega (arith, e, le)) ∙ s.later j (omega (arith, le));
    }
      where
        at : (j : ℕ) (x : D) → j < i + 1 → slice_get olds j ≡ Some x → (j ≡ i) ⊎ (j ≡ i → ⊥) → (y : D) × (slice_get (slice_set now i new) j ≡ Some y) × P j x y
        at j x le e (inl same) =
            let is : old ≡ x = same_item old x (sym was ∙ ap (slice_get olds) (sym same) ∙ e) in
            (new, ap (slice_get (slice_set now i new)) same ∙ is_now, subst (λ (k : ℕ). P k x new) (sym same) (subst (λ (z : D). P i z new) is p))
        at j x le e (inr differs) =
            let one = s.done j x (omega (arith, le, differs)) e in
            (one.0, set_other now i j new differs ∙ one.1, one.2)

    -- something is done to this one, and nothing more
    pub cut : (A : ℕ → D → D → Type 0) → ((j : ℕ) (x y : D) → P j x y → A j x y) → ((j : ℕ) (x : D) → slice_get olds j ≡ Some x → A j x x) → A i old new → EachMeets A olds (slice_set now i new)
    cut A follows stays a = record {
      long = length-set now i new ∙ s.long;
      each = λ j x e. at j x e (cases_eq j i);
    }
      where
        below : (j : ℕ) (x : D) → slice_get olds j ≡ Some x → (j ≡ i → ⊥) → (j < i) ⊎ (i ≤ j) → (y : D) × (slice_get (slice_set now i new) j ≡ Some y) × A j x y
        below j x e differs (inl less) = let one = s.done j x less e in (one.0, set_other now i j new differs ∙ one.1, follows j x one.0 one.2)
        below j x e differs (inr more) = (x, set_other now i j new differs ∙ s.later j more ∙ e, stays j x e)

        at : (j : ℕ) (x : D) → slice_get olds j ≡ Some x → (j ≡ i) ⊎ (j ≡ i → ⊥) → (y : D) × (slice_get (slice_set now i new) j ≡ Some y) × A j x y
        at j x e (inl same) =
            let is : old ≡ x = same_item old x (sym was ∙ ap (slice_get olds) (sym same) ∙ e) in
            (new, ap (slice_get (slice_set now i new)) same ∙ is_now, subst (λ (k : ℕ). A k x new) (sym same) (subst (λ (z : D). A i z new) is a))
        at j x e (inr differs) = below j x e differs (cases_lt j i)

  -- one thing to each, and then another
  pub then_each : (P Q R : ℕ → D → D → Type 0) (xs ys zs : List D) → EachMeets P xs ys → EachMeets Q ys zs → ((i : ℕ) (x y z : D) → slice_get xs i ≡ Some x → P i x y → Q i y z → R i x z) → EachMeets R xs zs
  then_each P Q R xs ys zs first second both = record {
    long = second.long ∙ first.long;
    each = λ i x e. let one = first.each i x e in let two = second.each i one.0 one.1 in (two.0, two.1, both i x one.0 two.0 e one.2 two.2);
  }

  -- both of two things
  pub both_each : (P Q : ℕ → D → D → Type 0) (xs ys : List D) → EachMeets P xs ys → EachMeets Q xs ys → EachMeets (λ i x y. P i x y × Q i x y) xs ys
  both_each P Q xs ys first second = record {
    long = first.long;
    each = λ i x e.
        let one = first.each i x e in
        let two = second.each i x e in
        let same : two.0 ≡ one.0 = same_item two.0 one.0 (sym two.1 ∙ one.1) in
        (one.0, one.1, (one.2, subst (λ (y : D). Q i x y) same two.2));
  }

  -- what was done to a disk that is there now
  pub back_each : (P : ℕ → D → D → Type 0) (olds news : List D) → EachMeets P olds news → (i : ℕ) (new : D) → slice_get news i ≡ Some new → (old : D) × (slice_get olds i ≡ Some old) × P i old new
  back_each P olds news each i new there =
      let old : D = get_or olds i new in
      let was_there : slice_get olds i ≡ Some old = slice_get-get_or olds i new (omega (arith, slice_get_within news i new there, each.long)) in
      let one = each.each i old was_there in
      (old, was_there, subst (λ (y : D). P i old y) (same_item one.0 new (sym one.1 ∙ there)) one.2)
