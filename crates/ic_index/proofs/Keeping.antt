-- What is kept under an identity behind an edit.
use Rattle.std.proofs.Common.{◌≡◌, ◌∙◌, sym, ap, refl, Bool, true, false, cond, List, [], ◌∷◌, Some, None}
use Rattle.std.proofs.lemmas.Bool.{cond_both, and_parts}
use Rattle.def_state.specs.Names.{Identity, same_identity}
use Rattle.def_state.specs.Inbox.{comes_before}
use Rattle.ic_index.specs.declared.sorted.Entry.{Entry}
use Rattle.ic_index.specs.Entries.{name_of, value_of, put_entry, without, is_in_order}
use Rattle.ic_index.proofs.Identities.{same-refl, same-is}
use Rattle.ic_index.proofs.Searching.{stands_behind, none-behind}

module _ {T : Type 0} where
  pub value_of-put : (f : Entry T) (es : List (Entry T)) → value_of (put_entry f es) (name_of f) ≡ Some f.value
  value_of-put f [] = ap (λ b. cond b (Some f.value) None) (same-refl (name_of f))
  value_of-put f (y ∷ ys) =
      let first : (l : List (Entry T)) → value_of (f ∷ l) (name_of f) ≡ Some f.value = λ l. ap (λ b. cond b (Some f.value) (value_of l (name_of f))) (same-refl (name_of f)) in
      by (same_identity (name_of f) (name_of y)) refl first (value_of-put f ys)
    where
      by : (b : Bool) → same_identity (name_of f) (name_of y) ≡ b → ((l : List (Entry T)) → value_of (f ∷ l) (name_of f) ≡ Some f.value) → value_of (put_entry f ys) (name_of f) ≡ Some f.value → value_of (cond b (f ∷ ys) (cond (comes_before (name_of f) (name_of y)) (f ∷ y ∷ ys) (y ∷ put_entry f ys))) (name_of f) ≡ Some f.value
      by true e first rest = first ys
      by false e first rest =
          cond_both (comes_before (name_of f) (name_of y)) (f ∷ y ∷ ys) (y ∷ put_entry f ys) (λ l. value_of l (name_of f) ≡ Some f.value)
          (λ _. first (y ∷ ys))
          (λ _. ap (λ b. cond b (Some y.value) (value_of (put_entry f ys) (name_of f))) e ∙ rest)

  pub value_of-put_other : (x : Identity) (f : Entry T) (es : List (Entry T)) → same_identity x (name_of f) ≡ false → value_of (put_entry f es) x ≡ value_of es x
  value_of-put_other x f [] o = ap (λ b. cond b (Some f.value) None) o
  value_of-put_other x f (y ∷ ys) o =
      let P : List (Entry T) → Type 0 = λ l. value_of l x ≡ value_of (y ∷ ys) x in
      let passed : (l : List (Entry T)) → value_of (f ∷ l) x ≡ value_of l x = λ l. ap (λ b. cond b (Some f.value) (value_of l x)) o in
      cond_both (same_identity (name_of f) (name_of y)) (f ∷ ys) _ P
      (λ same. passed ys ∙ sym (ap (λ b. cond b (Some y.value) (value_of ys x)) (ap (same_identity x) (sym (same-is (name_of f) (name_of y) same)) ∙ o)))
      (λ _. cond_both (comes_before (name_of f) (name_of y)) (f ∷ y ∷ ys) (y ∷ put_entry f ys) P
      (λ _. passed (y ∷ ys))
      (λ _. ap (λ v. cond (same_identity x (name_of y)) (Some y.value) v) (value_of-put_other x f ys o)))

  pub value_of-without : (x y : Identity) (es : List (Entry T)) → same_identity x y ≡ false → value_of (without y es) x ≡ value_of es x
  value_of-without x y [] o = refl
  value_of-without x y (e ∷ es) o =
      cond_both (same_identity y (name_of e)) es (e ∷ without y es) (λ l. value_of l x ≡ value_of (e ∷ es) x)
      (λ same. sym (ap (λ b. cond b (Some e.value) (value_of es x)) (ap (same_identity x) (sym (same-is y (name_of e) same)) ∙ o)))
      (λ _. ap (λ v. cond (same_identity x (name_of e)) (Some e.value) v) (value_of-without x y es o))

  pub value_of-without_same : (x : Identity) (es : List (Entry T)) → is_in_order es ≡ true → value_of (without x es) x ≡ None
  value_of-without_same x [] o = refl
  value_of-without_same x (e ∷ es) o =
      let parts = and_parts (stands_behind (name_of e) es) (is_in_order es) o in
      by (same_identity x (name_of e)) refl parts.0 (value_of-without_same x es parts.1)
    where
      by : (b : Bool) → same_identity x (name_of e) ≡ b → stands_behind (name_of e) es ≡ true → value_of (without x es) x ≡ None → value_of (cond b es (e ∷ without x es)) x ≡ None
      by true s behind rest = none-behind x es (ap (λ z. stands_behind z es) (same-is x (name_of e) s) ∙ behind)
      by false s behind rest = ap (λ b. cond b (Some e.value) (value_of (without x es) x)) s ∙ rest
