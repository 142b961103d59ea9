-- Names are found in a table as they stand in the list.
use Rattle.std.proofs.Common.{◌≡◌, ◌++◌, ◌∷◌, [], ◌∙◌, ℕ, List, Bool, true, false, Some, map, length, ap, refl, sym, cond, arith}
use Rattle.std.specs.Prelude.{position, ◌||◌, not, bytes_eq, if◌then◌else◌}
use Rattle.std.specs.List.{list_any, prefix_len}
use Rattle.std.specs.declared.vec.Vec.{Vec}
use Rattle.std.proofs.lemmas.List.{length-map, map-append}
use Rattle.std.specs.Map.{keys_of, lookup}
use Rattle.indexmap.specs.IndexMap.{insert_entry}
use Rattle.indexmap.specs.IndexSet.{insert_key}
use Rattle.def_syntax.specs.Scope.{is_in, names}
use Rattle.def_syntax.specs.Names.{place_of}
use Rattle.def_syntax.specs.Text.{look_up}
use Rattle.ic_items.specs.Tables.{names_seen, entries_seen}

pub list_any-map : {X Y : Type 0} (p : Y → Bool) (f : X → Y) (xs : List X) → list_any p (map f xs) ≡ list_any (λ x. p (f x)) xs
list_any-map p f [] = refl
list_any-map p f (x ∷ xs) = ap (λ b. p (f x) || b) (list_any-map p f xs)

prefix_len-map : {X Y : Type 0} (p : Y → Bool) (f : X → Y) (xs : List X) → prefix_len p (map f xs) ≡ prefix_len (λ x. p (f x)) xs
prefix_len-map p f [] = refl
prefix_len-map p f (x ∷ xs) = grind (arith, prefix_len-map p f xs)

position-map : {X Y : Type 0} (p : Y → Bool) (f : X → Y) (xs : List X) → position p (map f xs) ≡ position (λ x. p (f x)) xs
position-map p f xs = let e : prefix_len (λ y. not (p y)) (map f xs) ≡ prefix_len (λ x. not (p (f x))) xs = prefix_len-map (λ y. not (p y)) f xs in let l : length (map f xs) ≡ length xs = length-map xs f in cc

module _ {A : Type 0} where
  -- a name among the keys
  pub contains_seen : (n m : List ℕ) (ks : List (Vec ℕ A)) (ns : List (List ℕ)) → m ≡ n → names_seen ks ≡ ns → list_any (λ (k : Vec ℕ A). bytes_eq m k.items) ks ≡ is_in n ns
  contains_seen n m ks ns e v = sym (list_any-map (λ k. bytes_eq m k) (λ (k : Vec ℕ A). k.items) ks) ∙ ap (λ xs. is_in m xs) v ∙ ap (λ x. is_in x ns) e

  -- the place of a name among the keys
  pub place_seen : (n m : List ℕ) (ks : List (Vec ℕ A)) (ns : List (List ℕ)) → m ≡ n → names_seen ks ≡ ns → position (λ (k : Vec ℕ A). bytes_eq m k.items) ks ≡ place_of n ns
  place_seen n m ks ns e v = sym (position-map (λ k. bytes_eq m k) (λ (k : Vec ℕ A). k.items) ks) ∙ ap (λ xs. place_of m xs) v ∙ ap (λ x. place_of x ns) e

  abbrev pub same_vec : Vec ℕ A → Vec ℕ A → Bool
  same_vec x y = bytes_eq x.items y.items

  -- a new name goes last
  pub added_seen : (n : List ℕ) (k : Vec ℕ A) (ks new : List (Vec ℕ A)) (ns : List (List ℕ)) → k.items ≡ n → names_seen ks ≡ ns → is_in n ns ≡ false → new ≡ insert_key same_vec ks k → names_seen new ≡ ns ++ n ∷ []
  added_seen n k ks new ns e v h i =
      let absent : list_any (same_vec k) ks ≡ false = contains_seen n k.items ks ns e v ∙ h in
      let last : new ≡ ks ++ k ∷ [] = i ∙ ap (λ b. if b then ks else ks ++ k ∷ []) absent in
      ap names_seen last ∙ map-append (λ (x : Vec ℕ A). x.items) ks (k ∷ []) ∙ ap (λ xs. xs ++ k.items ∷ []) v ∙ ap (λ x. ns ++ x ∷ []) e

  module _ {V : Type 0} where
    names-entries_seen : (es : List (Vec ℕ A × V)) → names_seen (keys_of es) ≡ names (entries_seen es)
    names-entries_seen [] = refl
    names-entries_seen (e ∷ es) = ap (λ ns. e.0.items ∷ ns) (names-entries_seen es)

    look_up-entries_seen : (m : List ℕ) (es : List (Vec ℕ A × V)) → lookup (λ (k : Vec ℕ A). bytes_eq m k.items) es ≡ look_up m (entries_seen es)
    look_up-entries_seen m [] = refl
    look_up-entries_seen m (e ∷ es) = ap (λ r. cond (bytes_eq m e.0.items) (Some e.1) r) (look_up-entries_seen m es)

    -- the value of a name among the entries
    pub value_seen : (n m : List ℕ) (es : List (Vec ℕ A × V)) (xs : List (List ℕ × V)) → m ≡ n → entries_seen es ≡ xs → lookup (λ (k : Vec ℕ A). bytes_eq m k.items) es ≡ look_up n xs
    value_seen n m es xs e v = look_up-entries_seen m es ∙ ap (λ ys. look_up m ys) v ∙ ap (λ x. look_up x xs) e

    -- the place of a name among them
    pub entry_place_seen : (n m : List ℕ) (es : List (Vec ℕ A × V)) (xs : List (List ℕ × V)) → m ≡ n → entries_seen es ≡ xs → position (λ (k : Vec ℕ A). bytes_eq m k.items) (keys_of es) ≡ place_of n (names xs)
    entry_place_seen n m es xs e v = place_seen n m (keys_of es) (names xs) e (names-entries_seen es ∙ ap names v)

    insert_entry-new : (k : Vec ℕ A) (x : V) (es : List (Vec ℕ A × V)) → is_in k.items (names (entries_seen es)) ≡ false → entries_seen (insert_entry same_vec es k x) ≡ entries_seen es ++ (k.items, x) ∷ []
    insert_entry-new k x [] h = refl
    insert_entry-new k x (e ∷ es) h =
        elim (bytes_eq k.items e.0.items) as (λ b. (b || is_in k.items (names (entries_seen es))) ≡ false → entries_seen (if b then (e.0, x) ∷ es else e ∷ insert_entry same_vec es k x) ≡ entries_seen (e ∷ es) ++ (k.items, x) ∷ [])
        [ true ↦ λ f. cc | false ↦ λ f. ap (λ ys. (e.0.items, e.1) ∷ ys) (insert_entry-new k x es f) ] h

    -- a new name goes last with its value
    pub entry_added_seen : (n : List ℕ) (x : V) (k : Vec ℕ A) (es new : List (Vec ℕ A × V)) (xs : List (List ℕ × V)) → k.items ≡ n → entries_seen es ≡ xs → is_in n (names xs) ≡ false → new ≡ insert_entry same_vec es k x → entries_seen new ≡ xs ++ (n, x) ∷ []
    entry_added_seen n x k es new xs e v h i =
        let absent : is_in k.items (names (entries_seen es)) ≡ false = ap (λ m. is_in m (names (entries_seen es))) e ∙ ap (λ ys. is_in n (names ys)) v ∙ h in
        ap entries_seen i ∙ insert_entry-new k x es absent ∙ ap (λ ys. ys ++ (k.items, x) ∷ []) v ∙ ap (λ m. xs ++ (m, x) ∷ []) e
