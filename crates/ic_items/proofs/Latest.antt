-- The component that was declared last, and one that is found by its name.
use Rattle.std.proofs.Common.{◌≡◌, ◌+◌, ◌-◌, ◌≤◌, ◌<◌, ◌++◌, ◌∷◌, [], ◌∙◌, ℕ, zero, suc, List, Bool, true, false, Some, None, map, length, reverse, ap, refl, sym, cond, add-one, arith, slice_get}
use Rattle.std.specs.Prelude.{bytes_eq, All, if◌then◌else◌}
use Rattle.std.specs.List.{position_from}
use Rattle.std.specs.Option.{option_map}
use Rattle.std.specs.declared.vec.Vec.{Vec}
use Rattle.std.specs.Map.{values_of}
use Rattle.std.proofs.lemmas.List.{map-append, reverse-append, length-map}
use Rattle.std.proofs.lemmas.Iterator.Adapters.{position_from-zero}
use Rattle.std.proofs.lemmas.Slice.Eq.{bytes_eq-Decides}
use Rattle.indexmap.specs.Layout.{set_value_at, length-set_value_at}
use Rattle.ic_base.specs.declared.messages.Kind.{Kind}
use Rattle.def_syntax.specs.Scope.{Declared, with_latest, nobody, names}
use Rattle.def_syntax.specs.Names.{is_kind, place_of, found, found_from}
use Rattle.def_syntax.specs.Text.{look_up}
use Rattle.ic_items.specs.Contents.{Content, content_of, declared_seen, last_of}
use Rattle.ic_items.specs.Tables.{entries_seen}

reverse_last : {X Y : Type 0} (g : X → Y) (xs : List X) (x : X) → reverse (map g (xs ++ x ∷ [])) ≡ g x ∷ reverse (map g xs)
reverse_last g xs x = ap reverse (map-append g xs (x ∷ [])) ∙ reverse-append (map g xs) (g x ∷ [])

-- the item at the last place ends the list
last_item : {X : Type 0} (xs : List X) (i : ℕ) (x : X) → slice_get xs i ≡ Some x → i + 1 ≡ length xs → (ys : List X) × (xs ≡ ys ++ x ∷ [])
last_item [] i x h l = absurd (omega arith)
last_item (y ∷ []) zero x h l = ([], let e : y ≡ x = cc in ap (λ z. z ∷ []) e)
last_item (y ∷ z ∷ zs) zero x h l = absurd (omega arith)
last_item (y ∷ ys) (suc i) x h l = let r = last_item ys i x h (omega arith) in (y ∷ r.0, ap (λ zs. y ∷ zs) r.1)

place_last : {X : Type 0} (xs : List X) (x : X) → slice_get xs (length xs - 1) ≡ Some x → length xs - 1 + 1 ≡ length xs
place_last [] x h = absurd (cc)
place_last (y ∷ ys) x h = omega arith

item_last : {X : Type 0} (xs : List X) (x : X) → slice_get xs (length xs - 1) ≡ Some x → (ys : List X) × (xs ≡ ys ++ x ∷ [])
item_last xs x h = last_item xs (length xs - 1) x h (place_last xs x h)

set_last : {K V : Type 0} (es : List (K × V)) (k : K) (d w : V) (i : ℕ) → i ≡ length es → set_value_at (es ++ (k, d) ∷ []) i w ≡ es ++ (k, w) ∷ []
set_last [] k d w zero h = refl
set_last [] k d w (suc i) h = absurd (omega arith)
set_last (e ∷ es) k d w zero h = absurd (omega arith)
set_last (e ∷ es) k d w (suc i) h = ap (λ xs. e ∷ xs) (set_last es k d w i (omega arith))

module _ {A : Type 0} where
  -- the components for which the entries stand
  abbrev pub components_in : List (Vec ℕ A × Content) → List Declared
  components_in es = map declared_seen (entries_seen es)

  components_last : (es : List (Vec ℕ A × Content)) (k : Vec ℕ A) (d : Content) → reverse (components_in (es ++ (k, d) ∷ [])) ≡ declared_seen (k.items, d) ∷ reverse (components_in es)
  components_last es k d =
      ap (λ xs. reverse (map declared_seen xs)) (map-append (λ (e : Vec ℕ A × Content). (e.0.items, e.1)) es ((k, d) ∷ [])) ∙ reverse_last declared_seen (entries_seen es) (k.items, d)

  -- what is at the last place
  record Ends (es : List (Vec ℕ A × Content)) (i : ℕ) (d : Content) : Type 0 where
    front : List (Vec ℕ A × Content)
    key : Vec ℕ A
    is : es ≡ front ++ (key, d) ∷ []
    place : i ≡ length front

  ends_at : (es : List (Vec ℕ A × Content)) (i : ℕ) (d : Content) → i + 1 ≡ length es → slice_get (values_of es) i ≡ Some d → Ends es i d
  ends_at [] i d l h = absurd (omega arith)
  ends_at (e ∷ []) zero d l h = record { front = []; key = e.0; is = let v : e.1 ≡ d = cc in ap (λ (x : Content). (e.0, x) ∷ []) v; place = refl }
  ends_at (e ∷ f ∷ fs) zero d l h = absurd (omega arith)
  ends_at (e ∷ es) (suc i) d l h = let r = ends_at es i d (omega arith) h in record { front = e ∷ r.front; key = r.key; is = ap (λ xs. e ∷ xs) r.is; place = ap suc r.place }

  ends : (es : List (Vec ℕ A × Content)) (d : Content) → slice_get (values_of es) (length es - 1) ≡ Some d → Ends es (length es - 1) d
  ends [] d h = absurd (cc)
  ends (e ∷ es) d h = ends_at (e ∷ es) (length (e ∷ es) - 1) d (omega arith) h

  module _ (es : List (Vec ℕ A × Content)) (d : Content) (h : slice_get (values_of es) (length es - 1) ≡ Some d) (cs : List Declared) (v : components_in es ≡ cs) where
    stands : (r : Ends es (length es - 1) d) → reverse cs ≡ declared_seen (r.key.items, d) ∷ reverse (components_in r.front)
    stands r = ap reverse (sym v) ∙ ap (λ xs. reverse (components_in xs)) r.is ∙ components_last r.front r.key d

    -- the latest component declares what is at the last place
    pub latest_is : content_of (last_of cs) ≡ d
    latest_is = let r = ends es d h in ap (λ xs. content_of (elim xs [ [] ↦ nobody | c ∷ cs ↦ c ])) (stands r)

    written : (r : Ends es (length es - 1) d) (w : Content) → reverse (components_in (set_value_at es (length es - 1) w)) ≡ declared_seen (r.key.items, w) ∷ reverse (components_in r.front)
    written r w =
        ap (λ xs. reverse (components_in (set_value_at xs (length es - 1) w))) r.is ∙ ap (λ xs. reverse (components_in xs)) (set_last r.front r.key d w (length es - 1) r.place) ∙ components_last r.front r.key w

    -- a change at the last place is one of the latest component
    pub latest_changed : (f : Declared → Declared) (w : Content) → ((n : List ℕ) → f (declared_seen (n, d)) ≡ declared_seen (n, w)) → reverse (components_in (set_value_at es (length es - 1) w)) ≡ with_latest f (reverse cs)
    latest_changed f w g = let r = ends es d h in written r w ∙ ap (λ c. c ∷ reverse (components_in r.front)) (sym (g r.key.items)) ∙ sym (ap (with_latest f) (stands r))

    -- with what was there, all stays
    pub latest_kept : (w : Content) → w ≡ d → components_in (set_value_at es (length es - 1) w) ≡ cs
    latest_kept w e =
        let r = ends es d h in
        ap (λ x. components_in (set_value_at es (length es - 1) x)) e ∙ ap (λ xs. components_in (set_value_at xs (length es - 1) d)) r.is
        ∙ ap components_in (set_last r.front r.key d d (length es - 1) r.place) ∙ ap components_in (sym r.is) ∙ v

  -- a write leaves the length
  pub length_kept : (es : List (Vec ℕ A × Content)) (i : ℕ) (w : Content) → length (entries_seen (set_value_at es i w)) ≡ length (entries_seen es)
  length_kept es i w = length-map (set_value_at es i w) (λ (e : Vec ℕ A × Content). (e.0.items, e.1)) ∙ length-set_value_at es i w ∙ sym (length-map es (λ (e : Vec ℕ A × Content). (e.0.items, e.1)))

-- the names of the components of a table
pub names_in : (xs : List (List ℕ × Content)) → map (λ (c : Declared). c.name) (map declared_seen xs) ≡ names xs
names_in [] = refl
names_in (x ∷ xs) = ap (λ ns. x.0 ∷ ns) (names_in xs)

none_at : {X : Type 0} (xs : List X) (i : ℕ) → i < length xs → slice_get xs i ≡ None → ⊥
none_at [] i l h = absurd (omega arith)
none_at (x ∷ xs) zero l h = absurd (cc)
none_at (x ∷ xs) (suc i) l h = none_at xs i (omega arith) h

none_last : {X : Type 0} (xs : List X) → slice_get xs (length xs - 1) ≡ None → xs ≡ []
none_last [] h = refl
none_last (x ∷ xs) h = absurd (none_at (x ∷ xs) (length (x ∷ xs) - 1) (omega arith) h)

module _ (xs : List (List ℕ × Content)) (cs : List Declared) (v : map declared_seen xs ≡ cs) where
  -- the component at the last place of a table is the latest
  pub table_last : (x : List ℕ × Content) → slice_get xs (length xs - 1) ≡ Some x → last_of cs ≡ declared_seen x
  table_last x h =
      let r = item_last xs x h in
      ap (λ es. elim es [ [] ↦ nobody | c ∷ ds ↦ c ]) (ap reverse (sym v) ∙ ap (λ ys. reverse (map declared_seen ys)) r.1 ∙ reverse_last declared_seen r.0 x)

  -- a table without a last place is empty
  pub table_empty : slice_get xs (length xs - 1) ≡ None → last_of cs ≡ nobody
  table_empty h = ap last_of (sym v ∙ ap (map declared_seen) (none_last xs h))

found_at : (i p : ℕ) (kind : Kind) (n : List ℕ) (xs : List (List ℕ × Content)) (d : Content) → position_from (bytes_eq n) i (names xs) ≡ Some p → look_up n xs ≡ Some d
    → found_from i kind n (map declared_seen xs) ≡ (if is_kind kind d.kind then Some (p, declared_seen (n, d)) else None)
found_at i p kind n [] d h l = absurd (cc)
found_at i p kind n (x ∷ xs) d h l = by (bytes_eq n x.0) refl h l (found_at (suc i) p kind n xs d)
  where
    by : (b : Bool) → bytes_eq n x.0 ≡ b → cond b (Some i) (position_from (bytes_eq n) (i + 1) (names xs)) ≡ Some p → cond b (Some x.1) (look_up n xs) ≡ Some d
        → (position_from (bytes_eq n) (suc i) (names xs) ≡ Some p → look_up n xs ≡ Some d → found_from (suc i) kind n (map declared_seen xs) ≡ (if is_kind kind d.kind then Some (p, declared_seen (n, d)) else None))
        → found_from i kind n (map declared_seen (x ∷ xs)) ≡ (if is_kind kind d.kind then Some (p, declared_seen (n, d)) else None)
    by true e here value rest =
        let name : n ≡ x.0 = (bytes_eq-Decides n x.0).0 e in
        let place : i ≡ p = cc in
        let what : x.1 ≡ d = cc in
        ap (λ b. if b then (if is_kind kind x.1.kind then Some (i, declared_seen x) else None) else found_from (suc i) kind n (map declared_seen xs)) e
        ∙ ap (λ m. if is_kind kind x.1.kind then Some (i, declared_seen (m, x.1)) else None) (sym name)
        ∙ ap (λ j. if is_kind kind x.1.kind then Some (j, declared_seen (n, x.1)) else None) place
        ∙ ap (λ c. if is_kind kind c.kind then Some (p, declared_seen (n, c)) else None) what
    by false e behind value rest =
        ap (λ b. if b then (if is_kind kind x.1.kind then Some (i, declared_seen x) else None) else found_from (suc i) kind n (map declared_seen xs)) e
        ∙ rest (ap (λ j. position_from (bytes_eq n) j (names xs)) (sym (add-one i)) ∙ behind) value

found_nowhere : (i : ℕ) (kind : Kind) (n : List ℕ) (xs : List (List ℕ × Content)) → look_up n xs ≡ None → found_from i kind n (map declared_seen xs) ≡ None
found_nowhere i kind n [] l = refl
found_nowhere i kind n (x ∷ xs) l =
    elim (bytes_eq n x.0) as (λ b. cond b (Some x.1) (look_up n xs) ≡ None → (if b then (if is_kind kind x.1.kind then Some (i, declared_seen x) else None) else found_from (suc i) kind n (map declared_seen xs)) ≡ None)
    [ true ↦ λ e. absurd (cc) | false ↦ λ e. found_nowhere (suc i) kind n xs e ] l

module _ (kind : Kind) (n : List ℕ) (xs : List (List ℕ × Content)) (cs : List Declared) (v : map declared_seen xs ≡ cs) where
  -- what a table has at a name is what is found by it, where it is of the kind
  pub found_there : (p : ℕ) (d : Content) (b : Bool) → place_of n (names xs) ≡ Some p → look_up n xs ≡ Some d → is_kind kind d.kind ≡ b → found kind n cs ≡ (if b then Some (p, declared_seen (n, d)) else None)
  found_there p d b h l k =
      ap (found kind n) (sym v) ∙ found_at 0 p kind n xs d (sym (position_from-zero (bytes_eq n) (names xs)) ∙ h) l ∙ ap (λ x. if x then Some (p, declared_seen (n, d)) else None) k

  pub found_none : look_up n xs ≡ None → found kind n cs ≡ None
  found_none l = ap (found kind n) (sym v) ∙ found_nowhere 0 kind n xs l

-- a fact of each number holds of one that is looked up
pub looked_up : (n : List ℕ) (hs : List (List ℕ × ℕ)) (p : ℕ) → All (λ (h : List ℕ × ℕ). h.1 ≤ 8) hs → look_up n hs ≡ Some p → p ≤ 8
looked_up n [] p a l = absurd (cc)
looked_up n (x ∷ xs) p a l =
    elim (bytes_eq n x.0) as (λ b. cond b (Some x.1) (look_up n xs) ≡ Some p → p ≤ 8)
    [ true ↦ λ e. (let first : x.1 ≤ 8 = a 0 x (omega arith) in let same : x.1 ≡ p = cc in omega arith) | false ↦ λ e. looked_up n xs p (λ k d h. a (suc k) d (omega arith)) e ] l
