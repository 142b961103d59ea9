-- Lists with the latest first, and pairs in lists of lists.
use Rattle.std.proofs.Common.{◌≡◌, ◌<◌, ◌+◌, ◌-◌, ℕ, List, [], ◌∷◌, ◌++◌, true, false, Bool, Some, None, Option, length, drop, reverse, get_or, sym, ap, ◌∙◌, refl, arith, cond}
use Rattle.std.specs.Prelude.{bytes_eq, ◌||◌}
use Rattle.std.proofs.lemmas.List.Folds.{list_any-append}
use Rattle.std.specs.Option.{is_some}
use Rattle.def_syntax.specs.Scope.{Frame, is_in, names}
use Rattle.std.proofs.lemmas.List.{drop_more, get_or-reverse, length-reverse}
use Rattle.def_syntax.specs.Text.{look_up}
use Rattle.ic_items.specs.Views.{locals_in}

-- the i-th from the latest
pub at_latest : {A : Type 0} (xs : List A) (i : ℕ) (d : A) → i < length xs → drop i (reverse xs) ≡ get_or xs (length xs - 1 - i) d ∷ drop (i + 1) (reverse xs)
at_latest xs i d h =
    let k : i < length (reverse xs) = omega (arith, length-reverse xs) in
    drop_more (reverse xs) i d k ∙ ap (λ x. x ∷ drop (i + 1) (reverse xs)) (get_or-reverse xs i d h)

pub look_up-append : {X : Type 0} (n : List ℕ) (xs ys : List (List ℕ × X)) → look_up n xs ≡ None → look_up n (xs ++ ys) ≡ look_up n ys
look_up-append n [] ys h = refl
look_up-append n (x ∷ xs) ys h = elim (bytes_eq n x.0) as (λ b. cond b (Some x.1) (look_up n xs) ≡ None → cond b (Some x.1) (look_up n (xs ++ ys)) ≡ look_up n ys) [ true ↦ λ e. cc | false ↦ λ e. look_up-append n xs ys e ] h

pub look_up-found : {X : Type 0} (n : List ℕ) (xs ys : List (List ℕ × X)) (x : X) → look_up n xs ≡ Some x → look_up n (xs ++ ys) ≡ Some x
look_up-found n [] ys y h = cc
look_up-found n (x ∷ xs) ys y h = elim (bytes_eq n x.0) as (λ b. cond b (Some x.1) (look_up n xs) ≡ Some y → cond b (Some x.1) (look_up n (xs ++ ys)) ≡ Some y) [ true ↦ λ e. e | false ↦ λ e. look_up-found n xs ys y e ] h

-- a local of the innermost block that has it
pub local_here : (n : List ℕ) (f : Frame) (fs gs : List Frame) (o : Option ℕ) → gs ≡ f ∷ fs → look_up n f.locals ≡ o → is_some o ≡ true → look_up n (locals_in gs) ≡ o
local_here n f fs gs None e h s = cc
local_here n f fs gs (Some x) e h s = rw e (look_up-found n f.locals (locals_in fs) x h)

pub local_behind : (n : List ℕ) (f : Frame) (fs gs : List Frame) (o : Option ℕ) → gs ≡ f ∷ fs → look_up n f.locals ≡ o → is_some o ≡ false → look_up n (locals_in fs) ≡ look_up n (locals_in gs)
local_behind n f fs gs (Some x) e h s = cc
local_behind n f fs gs None e h s = rw e (sym (look_up-append n f.locals (locals_in fs) h))

-- a name stands beside some number
pub is_in-names : {X : Type 0} (n : List ℕ) (xs : List (List ℕ × X)) → is_in n (names xs) ≡ is_some (look_up n xs)
is_in-names n [] = refl
is_in-names n (x ∷ xs) = elim (bytes_eq n x.0) as (λ b. (b || is_in n (names xs)) ≡ is_some (cond b (Some x.1) (look_up n xs))) [ true ↦ refl | false ↦ is_in-names n xs ]

pub is_in-append : (n : List ℕ) (xs ys : List (List ℕ)) → is_in n xs ≡ false → is_in n (xs ++ ys) ≡ is_in n ys
is_in-append n xs ys h = list_any-append (λ m. bytes_eq n m) xs ys ∙ ap (λ b. b || is_in n ys) h
