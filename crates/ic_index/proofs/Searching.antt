-- What a binary search finds in entries that stand in order.
use Rattle.std.proofs.Common.{◌≡◌, ◌∙◌, sym, ap, refl, ℕ, zero, suc, ◌+◌, ◌<◌, ◌≤◌, Bool, true, false, cond, List, [], ◌∷◌, length, get_or, arith, Some, None}
use Rattle.std.specs.Prelude.{◌||◌, slice_set, slice_get, option_to_list, is_some, option_map}
use Rattle.std.specs.List.{prefix_len, insert, remove, list_any, list_all}
use Rattle.std.specs.List.Sorted.{IsPartitionPoint}
use Rattle.std.proofs.lemmas.List.Sums.{prefix_len_is}
use Rattle.std.proofs.lemmas.Bool.{and_parts, and_from, cond_both}
use Rattle.def_state.specs.Names.{Identity, same_identity}
use Rattle.def_state.specs.Inbox.{comes_before}
use Rattle.ic_index.specs.declared.sorted.Entry.{Entry}
use Rattle.ic_index.specs.Entries.{name_of, value_of, put_entry, without, is_in_order, count_before}
use Rattle.ic_index.proofs.Identities.{before-other, behind-other, other-sym, before-not_back, before-else, before-trans, same-is}

abbrev pub is_named : {T : Type 0} → Identity → Entry T → Bool
is_named x e = same_identity x (name_of e)

abbrev pub stands_at : {T : Type 0} → List (Entry T) → ℕ → Identity → Bool
stands_at es i x = list_any (is_named x) (option_to_list (slice_get es i))

abbrev pub stands_behind : {T : Type 0} → Identity → List (Entry T) → Bool
stands_behind x es = list_all (λ f. comes_before x (name_of f)) es

-- what stands behind an identity isn't it
pub none-behind : {T : Type 0} (x : Identity) (es : List (Entry T)) → stands_behind x es ≡ true → value_of es x ≡ None
none-behind x [] h = refl
none-behind x (e ∷ es) h =
    let parts = and_parts (comes_before x (name_of e)) (stands_behind x es) h in
    let other = behind-other (name_of e) x parts.0 in
    let rest = none-behind x es parts.1 in
    ap (λ b. cond b (Some e.value) (value_of es x)) other ∙ rest

without-behind : {T : Type 0} (x : Identity) (es : List (Entry T)) → stands_behind x es ≡ true → without x es ≡ es
without-behind x [] h = refl
without-behind x (e ∷ es) h =
    let parts = and_parts (comes_before x (name_of e)) (stands_behind x es) h in
    let other = behind-other (name_of e) x parts.0 in
    ap (λ b. cond b es (e ∷ without x es)) other ∙ ap (λ l. e ∷ l) (without-behind x es parts.1)

behind-more : {T : Type 0} (x y : Identity) (es : List (Entry T)) → comes_before x y ≡ true → stands_behind y es ≡ true → stands_behind x es ≡ true
behind-more x y [] b h = refl
behind-more x y (e ∷ es) b h =
    let parts = and_parts (comes_before y (name_of e)) (stands_behind y es) h in
    and_from (comes_before x (name_of e)) (stands_behind x es) (before-trans x y (name_of e) b parts.0) (behind-more x y es b parts.1)

-- the entries at and behind the place of x are x, or behind it
from-place : {T : Type 0} (x : Identity) (e : Entry T) (es : List (Entry T)) → comes_before (name_of e) x ≡ false → is_named x e ≡ false → stands_behind (name_of e) es ≡ true → stands_behind x (e ∷ es) ≡ true
from-place x e es b n h =
    let here = before-else x (name_of e) b n in
    and_from (comes_before x (name_of e)) (stands_behind x es) here (behind-more x (name_of e) es here h)

pub stands-within : {T : Type 0} (x : Identity) (es : List (Entry T)) (i : ℕ) → stands_at es i x ≡ true → i < length es
stands-within x [] i h = absurd (cc)
stands-within x (y ∷ ys) zero h = omega arith
stands-within x (y ∷ ys) (suc i) h = omega (arith, stands-within x ys i h)

-- the place is the first, or one further than among the rest
at_first : (b : Bool) (n : ℕ) → 0 ≡ cond b (1 + n) 0 → b ≡ false
at_first true n e = absurd (omega arith)
at_first false n e = refl

at_later : (b : Bool) (n i : ℕ) → suc i ≡ cond b (1 + n) 0 → (b ≡ true) × (i ≡ n)
at_later true n i e = (refl, omega arith)
at_later false n i e = absurd (omega arith)

or-nothing : (b : Bool) → (b || false) ≡ b
or-nothing true = refl
or-nothing false = refl

module _ {T : Type 0} (x : Identity) where
  first-not_before : (y : Entry T) (ys : List (Entry T)) → 0 ≡ count_before x (y ∷ ys) → comes_before (name_of y) x ≡ false
  first-not_before y ys e = at_first (comes_before (name_of y) x) (count_before x ys) e

  later-before : (y : Entry T) (ys : List (Entry T)) (i : ℕ) → suc i ≡ count_before x (y ∷ ys) → (comes_before (name_of y) x ≡ true) × (i ≡ count_before x ys)
  later-before y ys i e = at_later (comes_before (name_of y) x) (count_before x ys) i e

  in-order : (y : Entry T) (ys : List (Entry T)) → is_in_order (y ∷ ys) ≡ true → (stands_behind (name_of y) ys ≡ true) × (is_in_order ys ≡ true)
  in-order y ys o = and_parts (stands_behind (name_of y) ys) (is_in_order ys) o

  -- x stands at its place, or nowhere
  pub value-at_place : (es : List (Entry T)) (i : ℕ) → i ≡ count_before x es → stands_at es i x ≡ true → value_of es x ≡ option_map (λ e. e.value) (slice_get es i)
  value-at_place [] i e h = absurd (cc)
  value-at_place (y ∷ ys) zero e h =
      let named : is_named x y ≡ true = sym (or-nothing (is_named x y)) ∙ h in
      ap (λ b. cond b (Some y.value) (value_of ys x)) named
  value-at_place (y ∷ ys) (suc i) e h =
      let before = later-before y ys i e in
      ap (λ b. cond b (Some y.value) (value_of ys x)) (before-other x (name_of y) before.0)
      ∙ value-at_place ys i before.1 h

  -- where x stands at its place, a value is kept under it
  pub value-there : (es : List (Entry T)) (i : ℕ) → i ≡ count_before x es → stands_at es i x ≡ true → is_some (value_of es x) ≡ true
  value-there [] i e h = absurd (cc)
  value-there (y ∷ ys) zero e h =
      let named : is_named x y ≡ true = sym (or-nothing (is_named x y)) ∙ h in
      ap (λ b. is_some (cond b (Some y.value) (value_of ys x))) named
  value-there (y ∷ ys) (suc i) e h =
      let before = later-before y ys i e in
      ap (λ b. is_some (cond b (Some y.value) (value_of ys x))) (before-other x (name_of y) before.0)
      ∙ value-there ys i before.1 h

  pub value-nowhere : (es : List (Entry T)) (i : ℕ) → is_in_order es ≡ true → i ≡ count_before x es → stands_at es i x ≡ false → value_of es x ≡ None
  value-nowhere [] i o e h = refl
  value-nowhere (y ∷ ys) zero o e h =
      let named : is_named x y ≡ false = sym (or-nothing (is_named x y)) ∙ h in
      none-behind x (y ∷ ys) (from-place x y ys (first-not_before y ys e) named (in-order y ys o).0)
  value-nowhere (y ∷ ys) (suc i) o e h =
      let before = later-before y ys i e in
      ap (λ b. cond b (Some y.value) (value_of ys x)) (before-other x (name_of y) before.0)
      ∙ value-nowhere ys i (in-order y ys o).1 before.1 h

  pub without-at_place : (es : List (Entry T)) (i : ℕ) → i ≡ count_before x es → stands_at es i x ≡ true → remove es i ≡ without x es
  without-at_place [] i e h = absurd (cc)
  without-at_place (y ∷ ys) zero e h =
      let named : is_named x y ≡ true = sym (or-nothing (is_named x y)) ∙ h in
      sym (ap (λ b. cond b ys (y ∷ without x ys)) named)
  without-at_place (y ∷ ys) (suc i) e h =
      let before = later-before y ys i e in
      ap (λ l. y ∷ l) (without-at_place ys i before.1 h)
      ∙ sym (ap (λ b. cond b ys (y ∷ without x ys)) (before-other x (name_of y) before.0))

  pub without-nowhere : (es : List (Entry T)) (i : ℕ) → is_in_order es ≡ true → i ≡ count_before x es → stands_at es i x ≡ false → without x es ≡ es
  without-nowhere [] i o e h = refl
  without-nowhere (y ∷ ys) zero o e h =
      let named : is_named x y ≡ false = sym (or-nothing (is_named x y)) ∙ h in
      without-behind x (y ∷ ys) (from-place x y ys (first-not_before y ys e) named (in-order y ys o).0)
  without-nowhere (y ∷ ys) (suc i) o e h =
      let before = later-before y ys i e in
      ap (λ b. cond b ys (y ∷ without x ys)) (before-other x (name_of y) before.0)
      ∙ ap (λ l. y ∷ l) (without-nowhere ys i (in-order y ys o).1 before.1 h)

module _ {T : Type 0} (f : Entry T) where
  put-passes : (y : Entry T) (ys : List (Entry T)) → comes_before (name_of y) (name_of f) ≡ true → put_entry f (y ∷ ys) ≡ y ∷ put_entry f ys
  put-passes y ys b =
      ap (λ b. cond b (f ∷ ys) (cond (comes_before (name_of f) (name_of y)) (f ∷ y ∷ ys) (y ∷ put_entry f ys))) (before-other (name_of f) (name_of y) b)
      ∙ ap (λ b. cond b (f ∷ y ∷ ys) (y ∷ put_entry f ys)) (before-not_back (name_of f) (name_of y) b)

  pub put-at_place : (es : List (Entry T)) (i : ℕ) → i ≡ count_before (name_of f) es → stands_at es i (name_of f) ≡ true → slice_set es i f ≡ put_entry f es
  put-at_place [] i e h = absurd (cc)
  put-at_place (y ∷ ys) zero e h =
      let named : is_named (name_of f) y ≡ true = sym (or-nothing (is_named (name_of f) y)) ∙ h in
      sym (ap (λ b. cond b (f ∷ ys) (cond (comes_before (name_of f) (name_of y)) (f ∷ y ∷ ys) (y ∷ put_entry f ys))) named)
  put-at_place (y ∷ ys) (suc i) e h =
      let before = later-before (name_of f) y ys i e in
      ap (λ l. y ∷ l) (put-at_place ys i before.1 h) ∙ sym (put-passes y ys before.0)

  pub put-between : (es : List (Entry T)) (i : ℕ) → i ≡ count_before (name_of f) es → stands_at es i (name_of f) ≡ false → insert es i f ≡ put_entry f es
  put-between [] zero e h = refl
  put-between [] (suc i) e h = absurd (omega arith)
  put-between (y ∷ ys) zero e h =
      let named : is_named (name_of f) y ≡ false = sym (or-nothing (is_named (name_of f) y)) ∙ h in
      let behind = before-else (name_of f) (name_of y) (first-not_before (name_of f) y ys e) named in
      sym (
      ap (λ b. cond b (f ∷ ys) (cond (comes_before (name_of f) (name_of y)) (f ∷ y ∷ ys) (y ∷ put_entry f ys))) named
      ∙ ap (λ b. cond b (f ∷ y ∷ ys) (y ∷ put_entry f ys)) behind
      )
  put-between (y ∷ ys) (suc i) e h =
      let before = later-before (name_of f) y ys i e in
      ap (λ l. y ∷ l) (put-between ys i before.1 h) ∙ sym (put-passes y ys before.0)

-- the edits keep the order
module _ {T : Type 0} where
  behind-put : (x : Identity) (f : Entry T) (es : List (Entry T)) → comes_before x (name_of f) ≡ true → stands_behind x es ≡ true → stands_behind x (put_entry f es) ≡ true
  behind-put x f [] b h = and_from (comes_before x (name_of f)) true b refl
  behind-put x f (y ∷ ys) b h =
      let P : List (Entry T) → Type 0 = λ l. stands_behind x l ≡ true in
      let parts = and_parts (comes_before x (name_of y)) (stands_behind x ys) h in
      cond_both (same_identity (name_of f) (name_of y)) (f ∷ ys) _ P
      (λ _. and_from (comes_before x (name_of f)) (stands_behind x ys) b parts.1)
      (λ _. cond_both (comes_before (name_of f) (name_of y)) (f ∷ y ∷ ys) (y ∷ put_entry f ys) P
      (λ _. and_from (comes_before x (name_of f)) (stands_behind x (y ∷ ys)) b h)
      (λ _. and_from (comes_before x (name_of y)) (stands_behind x (put_entry f ys)) parts.0 (behind-put x f ys b parts.1)))

  pub in_order-put : (f : Entry T) (es : List (Entry T)) → is_in_order es ≡ true → is_in_order (put_entry f es) ≡ true
  in_order-put f [] o = refl
  in_order-put f (y ∷ ys) o =
      let P : List (Entry T) → Type 0 = λ l. is_in_order l ≡ true in
      let parts = and_parts (stands_behind (name_of y) ys) (is_in_order ys) o in
      cond_both (same_identity (name_of f) (name_of y)) (f ∷ ys) _ P
      (λ same. and_from (stands_behind (name_of f) ys) (is_in_order ys) (ap (λ z. stands_behind z ys) (same-is (name_of f) (name_of y) same) ∙ parts.0) parts.1)
      (λ other. cond_both (comes_before (name_of f) (name_of y)) (f ∷ y ∷ ys) (y ∷ put_entry f ys) P
      (λ before. and_from (stands_behind (name_of f) (y ∷ ys)) (is_in_order (y ∷ ys)) (and_from (comes_before (name_of f) (name_of y)) (stands_behind (name_of f) ys) before (behind-more (name_of f) (name_of y) ys before parts.0)) o)
      (λ behind. and_from (stands_behind (name_of y) (put_entry f ys)) (is_in_order (put_entry f ys)) (behind-put (name_of y) f ys (before-else (name_of y) (name_of f) behind (other-sym (name_of f) (name_of y) other)) parts.0) (in_order-put f ys parts.1)))

  behind-without : (x y : Identity) (es : List (Entry T)) → stands_behind x es ≡ true → stands_behind x (without y es) ≡ true
  behind-without x y [] h = refl
  behind-without x y (e ∷ es) h =
      let P : List (Entry T) → Type 0 = λ l. stands_behind x l ≡ true in
      let parts = and_parts (comes_before x (name_of e)) (stands_behind x es) h in
      cond_both (same_identity y (name_of e)) es (e ∷ without y es) P
      (λ _. parts.1)
      (λ _. and_from (comes_before x (name_of e)) (stands_behind x (without y es)) parts.0 (behind-without x y es parts.1))

  pub in_order-without : (x : Identity) (es : List (Entry T)) → is_in_order es ≡ true → is_in_order (without x es) ≡ true
  in_order-without x [] o = refl
  in_order-without x (e ∷ es) o =
      let P : List (Entry T) → Type 0 = λ l. is_in_order l ≡ true in
      let parts = and_parts (stands_behind (name_of e) es) (is_in_order es) o in
      cond_both (same_identity x (name_of e)) es (e ∷ without x es) P
      (λ _. parts.1)
      (λ _. and_from (stands_behind (name_of e) (without x es)) (is_in_order (without x es)) (behind-without (name_of e) x es parts.0) (in_order-without x es parts.1))

  behind-at : (x : Identity) (es : List (Entry T)) (j : ℕ) (d : Entry T) → stands_behind x es ≡ true → j < length es → comes_before x (name_of (get_or es j d)) ≡ true
  behind-at x [] j d h l = absurd (omega arith)
  behind-at x (e ∷ es) zero d h l = (and_parts (comes_before x (name_of e)) (stands_behind x es) h).0
  behind-at x (e ∷ es) (suc j) d h l = behind-at x es j d (and_parts (comes_before x (name_of e)) (stands_behind x es) h).1 (omega arith)

  -- so the entries are parted by what comes before an identity
  pub in-parts : (x : Identity) (es : List (Entry T)) → is_in_order es ≡ true → (i j : ℕ) (d : Entry T) → i ≤ j → j < length es → comes_before (name_of (get_or es j d)) x ≡ true → comes_before (name_of (get_or es i d)) x ≡ true
  in-parts x [] o i j d le l b = absurd (omega arith)
  in-parts x (e ∷ es) o zero zero d le l b = b
  in-parts x (e ∷ es) o zero (suc j) d le l b =
      let parts = and_parts (stands_behind (name_of e) es) (is_in_order es) o in
      before-trans (name_of e) (name_of (get_or es j d)) x (behind-at (name_of e) es j d parts.0 (omega arith)) b
  in-parts x (e ∷ es) o (suc i) zero d le l b = absurd (omega arith)
  in-parts x (e ∷ es) o (suc i) (suc j) d le l b = in-parts x es (and_parts (stands_behind (name_of e) es) (is_in_order es) o).1 i j d (omega arith) (omega arith) b

-- a point with what passes before it and what fails from it on is the length of the prefix that passes
pub prefix-from_point : {X : Type 0} (p : X → Bool) (xs : List X) (i : ℕ) → i ≤ length xs → IsPartitionPoint (λ y. p y ≡ true) (λ y. p y ≡ false) xs i → i ≡ prefix_len p xs
prefix-from_point p [] i le point = omega arith
prefix-from_point p (x ∷ xs) i le point = sym (prefix_len_is p (x ∷ xs) i x le (λ k l. point.0 k x (omega arith) l) (λ l. point.1 i x (omega arith) l))
