-- The places of the lists of a state.
use Rattle.std.proofs.Common.{◌≡◌, ◌∙◌, sym, ap, refl, ℕ, zero, suc, ◌+◌, ◌-◌, ◌<◌, ◌≤◌, List, [], ◌∷◌, ◌++◌, length, map, take, get_or, arith, Some, None, option_map}
use Rattle.std.proofs.Math.Seq.{take-length}
use Rattle.std.proofs.lemmas.Grind.{take_at_read}
use Rattle.std.proofs.lemmas.List.{map-append}
use Rattle.std.specs.Prelude.{slice_get, slice_set, drop}
use Rattle.ic_base.specs.declared.messages.ComId.{ComId}

pub get-within : {X : Type 0} (xs : List X) (i : ℕ) (x : X) → slice_get xs i ≡ Some x → i < length xs
get-within [] i x e = absurd (cc)
get-within (y ∷ ys) zero x e = omega arith
get-within (y ∷ ys) (suc i) x e = omega (arith, get-within ys i x e)

pub get-set_same : {X : Type 0} (xs : List X) (i : ℕ) (y : X) → i < length xs → slice_get (slice_set xs i y) i ≡ Some y
get-set_same [] i y l = absurd (omega arith)
get-set_same (x ∷ xs) zero y l = refl
get-set_same (x ∷ xs) (suc i) y l = get-set_same xs i y (omega arith)

pub get-set_other : {X : Type 0} (xs : List X) (i j : ℕ) (y : X) → (j ≡ i → ⊥) → slice_get (slice_set xs i y) j ≡ slice_get xs j
get-set_other [] i j y d = refl
get-set_other (x ∷ xs) zero zero y d = absurd (d refl)
get-set_other (x ∷ xs) zero (suc j) y d = refl
get-set_other (x ∷ xs) (suc i) zero y d = refl
get-set_other (x ∷ xs) (suc i) (suc j) y d = get-set_other xs i j y (λ e. d (omega arith))

pub get-map : {X Y : Type 0} (f : X → Y) (xs : List X) (i : ℕ) → slice_get (map f xs) i ≡ option_map f (slice_get xs i)
get-map f [] i = refl
get-map f (x ∷ xs) zero = refl
get-map f (x ∷ xs) (suc i) = get-map f xs i

-- a component by its number
pub same-com : (c d : ComId) → c.0 ≡ d.0 → c ≡ d
same-com c d e = let P : ℕ → ComId = λ n. record { 0 = n } in ap P e

pub nil-of : {X : Type 0} (xs : List X) → length xs ≡ 0 → xs ≡ []
nil-of [] e = refl
nil-of (x ∷ xs) e = absurd (omega (arith, e))

pub get-there : {X : Type 0} (xs : List X) (k : ℕ) → k < length xs → (x : X) × (slice_get xs k ≡ Some x)
get-there [] k l = absurd (omega arith)
get-there (x ∷ xs) zero l = (x, refl)
get-there (x ∷ xs) (suc k) l = get-there xs k (omega arith)

pub get-behind : {X : Type 0} (xs : List X) (x : X) (ys : List X) → slice_get (xs ++ x ∷ ys) (length xs) ≡ Some x
get-behind [] x ys = refl
get-behind (y ∷ xs) x ys = get-behind xs x ys

pub map-same : {X Y Z : Type 0} (f : X → Z) (g : Y → Z) (xs : List X) (ys : List Y) → length xs ≡ length ys → ((k : ℕ) (x : X) (y : Y) → slice_get xs k ≡ Some x → slice_get ys k ≡ Some y → f x ≡ g y) → map f xs ≡ map g ys
map-same f g [] [] l same = refl
map-same f g (x ∷ xs) (y ∷ ys) l same =
    ap (λ z. z ∷ map f xs) (same 0 x y refl refl) ∙ ap (λ zs. g y ∷ zs) (map-same f g xs ys (omega (arith, l)) (λ k. same (suc k)))
map-same f g [] (y ∷ ys) l same = absurd (omega (arith, l))
map-same f g (x ∷ xs) [] l same = absurd (omega (arith, l))

pub none-past : {X : Type 0} (xs : List X) (k : ℕ) → slice_get xs k ≡ None → length xs ≤ k
none-past [] k e = omega arith
none-past (x ∷ xs) zero e = absurd (cc)
none-past (x ∷ xs) (suc k) e = omega (arith, none-past xs k e)

pub get-drop : {X : Type 0} (xs : List X) (n j : ℕ) → slice_get (drop n xs) j ≡ slice_get xs (n + j)
get-drop [] zero j = refl
get-drop [] (suc n) j = refl
get-drop (x ∷ xs) zero j = let none : j ≡ 0 + j = omega arith in ap (slice_get (x ∷ xs)) none
get-drop (x ∷ xs) (suc n) j = let one : suc (n + j) ≡ suc n + j = omega arith in get-drop xs n j ∙ ap (slice_get (x ∷ xs)) one

pub get-first : {X : Type 0} (xs ys : List X) (k : ℕ) → k < length xs → slice_get (xs ++ ys) k ≡ slice_get xs k
get-first [] ys k l = absurd (omega arith)
get-first (x ∷ xs) ys zero l = refl
get-first (x ∷ xs) ys (suc k) l = get-first xs ys k (omega arith)

-- two lists that are the same from here on
pub get-past : {X : Type 0} (xs ys : List X) (n k : ℕ) → drop n xs ≡ drop n ys → n ≤ k → slice_get xs k ≡ slice_get ys k
get-past xs ys n k same l =
    let place : n + (k - n) ≡ k = omega arith in
    ap (slice_get xs) (sym place) ∙ sym (get-drop xs n (k - n)) ∙ ap (λ zs. slice_get zs (k - n)) same ∙ get-drop ys n (k - n) ∙ ap (slice_get ys) place

pub drop-set : {X : Type 0} (xs : List X) (n : ℕ) (y : X) → drop (n + 1) (slice_set xs n y) ≡ drop (n + 1) xs
drop-set [] n y = refl
drop-set (x ∷ xs) zero y = refl
drop-set (x ∷ xs) (suc n) y = let one : suc n + 1 ≡ suc (n + 1) = omega arith in ap (λ m. drop m (slice_set (x ∷ xs) (suc n) y)) one ∙ drop-set xs n y ∙ ap (λ m. drop m (x ∷ xs)) (sym one)

-- as far as a loop has come
pub map-map : {X Y Z : Type 0} (f : Y → Z) (g : X → Y) (xs : List X) → map (λ x. f (g x)) xs ≡ map f (map g xs)
map-map f g [] = refl
map-map f g (x ∷ xs) = ap (λ l. f (g x) ∷ l) (map-map f g xs)

pub all-taken : {X : Type 0} (xs : List X) (i : ℕ) → i ≤ length xs → length xs ≤ i → take i xs ≡ xs
all-taken xs i a b = let e : i ≡ length xs = omega arith in ap (λ n. take n xs) e ∙ take-length xs

pub one-mapped : {X Y : Type 0} (f : X → Y) (xs : List X) (i : ℕ) (x : X) (logs new : List Y) (y : Y) → i < length xs → x ≡ get_or xs i x → logs ≡ map f (take i xs) → y ≡ f x → new ≡ logs ++ y ∷ [] → new ≡ map f (take (i + 1) xs)
one-mapped f xs i x logs new y l e inv is added =
    added ∙ ap (λ z. logs ++ z ∷ []) is ∙ ap (λ z. z ++ f x ∷ []) inv ∙ sym (map-append f (take i xs) (x ∷ [])) ∙ ap (λ z. map f (take i xs ++ z ∷ [])) e ∙ ap (map f) (sym (take_at_read xs i x l).1)
