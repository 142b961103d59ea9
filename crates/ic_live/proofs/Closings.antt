-- The closing of all lanes.
use Rattle.std.proofs.Common.{◌≡◌, ◌≢◌, ℕ, zero, suc, ◌<◌, List, [], ◌∷◌, ◌++◌, map, length, option_map, sym, refl, ap, ◌∙◌, subst, ⊎_elim, inl, inr, true≢false, arith, length-append}
use Rattle.std.specs.Prelude.{slice_get, slice_set, Option, Some, None, IsSome, is_some, ◌↔◌, ◌⊎◌}
use Rattle.std.proofs.lemmas.List.{length-set, length-map}
use Rattle.std.proofs.lemmas.Option.{slice_get_within, slice_get-map}
use Rattle.ic_lane.specs.Lanes.{Out, In}
use Rattle.ic_live.specs.Grids.{placed, SameLane, InOrder, Paired, IsSquare, FitsRow, Peels}
use Rattle.ic_turn.proofs.Places.{get_set, there, get_more}
use Rattle.std.proofs.lemmas.Option.{same_Some}

abbrev last_or : {A : Type 0} → A → List A → A
last_or d [] = d
last_or d (x ∷ xs) = last_or x xs

last_more : {A : Type 0} (d : A) (xs : List A) (x : A) → last_or d (xs ++ x ∷ []) ≡ x
last_more d [] x = refl
last_more d (y ∷ xs) x = last_more y xs x

pub last_same : {A : Type 0} (xs ys : List A) (x y : A) → xs ++ x ∷ [] ≡ ys ++ y ∷ [] → x ≡ y
last_same xs ys x y e = sym (last_more x xs x) ∙ ap (last_or x) e ∙ last_more x ys y

-- a list that isn't empty ends
pub ends_with : {A : Type 0} (n : ℕ) (xs : List A) → length xs ≡ suc n → (ys : List A) × (y : A) × (xs ≡ ys ++ y ∷ []) × (length ys ≡ n)
ends_with n [] e = absurd (omega (arith, e))
ends_with zero (x ∷ []) e = ([], x, refl, refl)
ends_with zero (x ∷ (z ∷ zs)) e = absurd (omega (arith, e))
ends_with (suc n) (x ∷ xs) e = let h = ends_with n xs (omega (arith, e)) in (x ∷ h.0, h.1, ap (λ l. x ∷ l) h.2, ap suc h.3)

pub get_front : {A : Type 0} (xs ys : List A) (z : A) (k : ℕ) → slice_get xs k ≡ Some z → slice_get (xs ++ ys) k ≡ Some z
get_front [] ys z k e = absurd (grind (arith, e))
get_front (x ∷ xs) ys z zero e = e
get_front (x ∷ xs) ys z (suc k) e = get_front xs ys z k e

pub get_last : {A : Type 0} (xs : List A) (y : A) → slice_get (xs ++ y ∷ []) (length xs) ≡ Some y
get_last [] y = refl
get_last (x ∷ xs) y = get_last xs y

-- of a list of parts the one in a place, and the whole that it is of
pub part-of : {A B : Type 0} (f : A → B) (xs : List A) (ys : List B) (k : ℕ) (y : B) → ys ≡ map f xs → slice_get ys k ≡ Some y → (x : A) × (slice_get xs k ≡ Some x) × (y ≡ f x)
part-of f xs ys k y is at =
    let x = there xs ys k y (ap (λ (l : List _). length l) is ∙ length-map xs f) at in
    (x.0, x.1, same_Some y (f x.0) (sym at ∙ ap (λ l. slice_get l k) is ∙ slice_get-map f xs k ∙ ap (option_map f) x.1))

pub part-at : {A B : Type 0} (f : A → B) (xs : List A) (ys : List B) (k : ℕ) (x : A) → ys ≡ map f xs → slice_get xs k ≡ Some x → slice_get ys k ≡ Some (f x)
part-at f xs ys k x is at = ap (λ l. slice_get l k) is ∙ slice_get-map f xs k ∙ ap (option_map f) at

pub set_same : {A : Type 0} (xs : List A) (i : ℕ) (y : A) → i < length xs → slice_get (slice_set xs i y) i ≡ Some y
set_same [] i y small = absurd (omega (arith, small))
set_same (x ∷ xs) zero y small = refl
set_same (x ∷ xs) (suc i) y small = set_same xs i y (omega (arith, small))

pub set_other : {A : Type 0} (xs : List A) (i k : ℕ) (y z : A) → k ≢ i → slice_get xs k ≡ Some z → slice_get (slice_set xs i y) k ≡ Some z
set_other [] i k y z other e = e
set_other (x ∷ xs) zero zero y z other e = absurd (other refl)
set_other (x ∷ xs) zero (suc k) y z other e = e
set_other (x ∷ xs) (suc i) zero y z other e = e
set_other (x ∷ xs) (suc i) (suc k) y z other e = set_other xs i k y z (λ q. other (ap suc q)) e

-- one row

pub get_placed : (olds : List (List In)) (at k : ℕ) (ends is : List In) → slice_get (placed olds at ends) k ≡ Some is → ((k ≡ at) × (is ≡ ends)) ⊎ ((k ≢ at) × (slice_get olds k ≡ Some is))
get_placed olds at k ends is e = ⊎_elim (λ h. inl h) (λ (h : (k ≢ at) × (slice_get (slice_set olds at []) k ≡ Some is)). ⊎_elim (λ q. absurd (h.0 q.0)) (λ q. inr q) (get_set olds at k [] is h.1)) (get_set (slice_set olds at []) at k ends is e)

pub length_placed : (olds : List (List In)) (at : ℕ) (ends : List In) → length (placed olds at ends) ≡ length olds
length_placed olds at ends = length-set (slice_set olds at []) at ends ∙ length-set olds at []

pub fits_rest : (row : List Out) (o : Out) (olds : List (List In)) (ends : List In) → FitsRow (row ++ o ∷ []) olds → FitsRow row (placed olds (length row) ends)
fits_rest row o olds ends f = (
  omega (arith, f.0, length-append row (o ∷ []), length_placed olds (length row) ends),
  λ j p is at_p at_is. f.1 j p is (get_front row (o ∷ []) p j at_p) (⊎_elim (λ h. absurd (omega (arith, h.0, slice_get_within row j p at_p))) (λ h. h.1) (get_placed olds (length row) j ends is at_is)),
)

pub peels_none : (olds : List (List In)) → Peels [] olds olds
peels_none olds = (refl, λ j is rest at_is at_rest. ((λ o at_o. absurd (grind (arith, at_o))), λ _. same_Some rest is (sym at_rest ∙ at_is)))

pub peels_more : (row : List Out) (o : Out) (olds news : List (List In)) (ends rest : List In) (x : In) → length row < length olds → slice_get olds (length row) ≡ Some ends → ends ≡ rest ++ x ∷ [] → InOrder o x
    → Peels row (placed olds (length row) rest) news → Peels (row ++ o ∷ []) olds news
peels_more row o olds news ends rest x small at_ends is order p = (
  p.0 ∙ length_placed olds (length row) rest,
  λ j js left at_js at_left. (
    (λ q at_q. ⊎_elim
        (λ (h : (j ≡ length row) × (q ≡ o)).
        let here : slice_get (placed olds (length row) rest) j ≡ Some rest = subst (λ (k : ℕ). slice_get (placed olds (length row) rest) k ≡ Some rest) (sym h.0)
        (set_same (slice_set olds (length row) []) (length row) rest (omega (arith, small, length-set olds (length row) []))) in
        let same : left ≡ rest = (p.1 j rest left here at_left).1 (omega (arith, h.0)) in
        let old : js ≡ ends = same_Some js ends (sym at_js ∙ subst (λ (k : ℕ). slice_get olds k ≡ Some ends) (sym h.0) at_ends) in
        (x, old ∙ is ∙ ap (λ l. l ++ x ∷ []) (sym same), subst (λ (w : Out). InOrder w x) (sym h.1) order))
        (λ (h : (j < length row) × (slice_get row j ≡ Some q)). (p.1 j js left (kept j js (λ e. omega (arith, h.0, e)) at_js) at_left).0 q h.1)
        (get_more row o q j at_q)),
    λ far. let apart : length row < j = omega (arith, far, length-append row (o ∷ [])) in (p.1 j js left (kept j js (λ e. omega (arith, apart, e)) at_js) at_left).1 (omega (arith, apart)),
  ),
)
  where
    kept : (j : ℕ) (js : List In) → j ≢ length row → slice_get olds j ≡ Some js → slice_get (placed olds (length row) rest) j ≡ Some js
    kept j js other e = set_other (slice_set olds (length row) []) (length row) j rest js other (set_other olds (length row) j [] js other e)

-- all rows

pub fits_last : (outs : List (List Out)) (row : List Out) (ins : List (List In)) → IsSquare (outs ++ row ∷ []) ins → Paired SameLane (outs ++ row ∷ []) ins → FitsRow row ins
fits_last outs row ins sq lanes = (
  omega (arith, sq.0 (length outs) row (get_last outs row)),
  λ j o is at_o at_is.
      let e = ends_with (length outs) is (omega (arith, sq.1 j is at_is, length-append outs (row ∷ []))) in
      let at_x : slice_get is (length outs) ≡ Some e.1 = subst (λ (l : List In). slice_get l (length outs) ≡ Some e.1) (sym e.2) (subst (λ (n : ℕ). slice_get (e.0 ++ e.1 ∷ []) n ≡ Some e.1) e.3 (get_last e.0 e.1)) in
      (e.0, e.1, e.2, lanes (length outs) j row o is e.1 (get_last outs row) at_o at_is at_x),
)

-- the end that was on the row of the last sender
peeled : (outs : List (List Out)) (row : List Out) (ins news : List (List In)) → IsSquare (outs ++ row ∷ []) ins → Peels row ins news → (j : ℕ) (is rest : List In) → slice_get ins j ≡ Some is → slice_get news j ≡ Some rest
    → (o : Out) × (x : In) × (slice_get row j ≡ Some o) × (is ≡ rest ++ x ∷ []) × InOrder o x
peeled outs row ins news sq p j is rest at_is at_rest =
    let o = there row ins j is (sym (sq.0 (length outs) row (get_last outs row))) at_is in
    let h = (p.1 j is rest at_is at_rest).0 o.0 o.1 in
    (o.0, h.0, o.1, h.1, h.2)

pub square_rest : (outs : List (List Out)) (row : List Out) (ins news : List (List In)) → IsSquare (outs ++ row ∷ []) ins → Peels row ins news → IsSquare outs news
square_rest outs row ins news sq p = (
  (λ i os at. sq.0 i os (get_front outs (row ∷ []) os i at) ∙ sym p.0),
  λ j rest at_rest. let is = there ins news j rest p.0 at_rest in let h = peeled outs row ins news sq p j is.0 rest is.1 at_rest in
      omega (arith, sq.1 j is.0 is.1, length-append outs (row ∷ []), ap (λ (l : List In). length l) h.3, length-append rest (h.1 ∷ [])),
)

pub lanes_rest : (outs : List (List Out)) (row : List Out) (ins news : List (List In)) → IsSquare (outs ++ row ∷ []) ins → Peels row ins news → Paired SameLane (outs ++ row ∷ []) ins → Paired SameLane outs news
lanes_rest outs row ins news sq p lanes i j os o rest x at_os at_o at_rest at_x =
    let is = there ins news j rest p.0 at_rest in let h = peeled outs row ins news sq p j is.0 rest is.1 at_rest in
    lanes i j os o is.0 x (get_front outs (row ∷ []) os i at_os) at_o is.1 (subst (λ (l : List In). slice_get l i ≡ Some x) (sym h.3) (get_front rest (h.1 ∷ []) x i at_x))

pub paired_none : (ins : List (List In)) → Paired InOrder [] ins
paired_none ins i j os o is x at_os at_o at_is at_x = absurd (grind (arith, at_os))

pub paired_more : (outs : List (List Out)) (row : List Out) (ins news : List (List In)) → IsSquare (outs ++ row ∷ []) ins → Peels row ins news → Paired InOrder outs news → Paired InOrder (outs ++ row ∷ []) ins
paired_more outs row ins news sq p order i j os o is x at_os at_o at_is at_x =
    let rest = there news ins j is (sym p.0) at_is in
    let h = peeled outs row ins news sq p j is rest.0 at_is rest.1 in
    let long : length rest.0 ≡ length outs = omega (arith, (square_rest outs row ins news sq p).1 j rest.0 rest.1) in
    let at_x' : slice_get (rest.0 ++ h.1 ∷ []) i ≡ Some x = subst (λ (l : List In). slice_get l i ≡ Some x) h.3 at_x in
    ⊎_elim
    (λ (q : (i ≡ length outs) × (os ≡ row)).
    let is_o : o ≡ h.0 = same_Some o h.0 (sym at_o ∙ subst (λ (l : List Out). slice_get l j ≡ Some h.0) (sym q.1) h.2) in
    let is_x : x ≡ h.1 = ⊎_elim (λ w. w.1) (λ w. absurd (omega (arith, q.0, long, w.0))) (get_more rest.0 h.1 x i at_x') in
    subst (λ (t : Out × In). InOrder t.0 t.1) (λ k. (sym is_o k, sym is_x k)) h.4)
    (λ (q : (i < length outs) × (slice_get outs i ≡ Some os)).
    order i j os o rest.0 x q.1 at_o rest.1 (⊎_elim (λ w. absurd (omega (arith, q.0, long, w.0))) (λ w. w.1) (get_more rest.0 h.1 x i at_x')))
    (get_more outs row os i at_os)

-- for the two loops

pub none_left : {A : Type 0} (r : Option A) (xs : List A) → r ≡ None → (IsSome r ↔ (0 < length xs)) → xs ≡ []
none_left r [] e some = refl
none_left r (x ∷ xs) e some = absurd (true≢false (sym (some.1 (omega arith)) ∙ ap is_some e))

pub row_step : (row rest : List Out) (o : Out) (olds mids news : List (List In)) (ends blank left : List In) (at : ℕ) → row ≡ rest ++ o ∷ [] → at ≡ length rest → slice_get olds at ≡ Some ends → blank ≡ [] → mids ≡ slice_set olds at blank → news ≡ slice_set mids at left
    → ((x : In) × (ends ≡ left ++ x ∷ []) × InOrder o x) → FitsRow row olds → FitsRow rest news × ((last : List (List In)) → Peels rest news last → Peels row olds last)
row_step row rest o olds mids news ends blank left at is_row is_at at_ends is_blank is_mids is_news last f = (
  subst (FitsRow rest) (sym is) (fits_rest rest o olds left fits),
  λ final p. subst (λ (l : List Out). Peels l olds final) (sym is_row)
      (peels_more rest o olds final ends left last.0 small (subst (λ (k : ℕ). slice_get olds k ≡ Some ends) is_at at_ends) last.1 last.2 (subst (λ (l : List (List In)). Peels rest l final) is p)),
)
  where
    is : news ≡ placed olds (length rest) left
    is = is_news ∙ ap (λ (l : List (List In)). slice_set l at left) (is_mids ∙ ap (slice_set olds at) is_blank) ∙ ap (λ (k : ℕ). placed olds k left) is_at

    fits : FitsRow (rest ++ o ∷ []) olds
    fits = subst (λ (l : List Out). FitsRow l olds) is_row f

    small : length rest < length olds
    small = omega (arith, fits.0, length-append rest (o ∷ []))

pub row_end : (row : List Out) (olds : List (List In)) → row ≡ [] → Peels row olds olds
row_end row olds e = subst (λ (l : List Out). Peels l olds olds) (sym e) (peels_none olds)

pub all_step : (outs rest : List (List Out)) (row : List Out) (ins news : List (List In)) → outs ≡ rest ++ row ∷ [] → IsSquare outs ins → Paired SameLane outs ins → Peels row ins news
    → IsSquare rest news × Paired SameLane rest news × (Paired InOrder rest news → Paired InOrder outs ins)
all_step outs rest row ins news e sq lanes p =
    let sq' : IsSquare (rest ++ row ∷ []) ins = subst (λ (l : List (List Out)). IsSquare l ins) e sq in
    let lanes' : Paired SameLane (rest ++ row ∷ []) ins = subst (λ (l : List (List Out)). Paired SameLane l ins) e lanes in (
      square_rest rest row ins news sq' p,
      lanes_rest rest row ins news sq' p lanes',
      λ order. subst (λ (l : List (List Out)). Paired InOrder l ins) (sym e) (paired_more rest row ins news sq' p order),
    )

pub all_fits : (outs rest : List (List Out)) (row : List Out) (ins : List (List In)) → outs ≡ rest ++ row ∷ [] → IsSquare outs ins → Paired SameLane outs ins → FitsRow row ins
all_fits outs rest row ins e sq lanes = fits_last rest row ins (subst (λ (l : List (List Out)). IsSquare l ins) e sq) (subst (λ (l : List (List Out)). Paired SameLane l ins) e lanes)

pub all_end : (outs : List (List Out)) (ins : List (List In)) → outs ≡ [] → Paired InOrder outs ins
all_end outs ins e = subst (λ (l : List (List Out)). Paired InOrder l ins) (sym e) (paired_none ins)
