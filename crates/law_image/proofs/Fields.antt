-- Reading field after field, each tested before the next is read.
use Rattle.std.proofs.Common.{◌≡◌, ℕ, zero, suc, Bool, true, false, cond, List, [], ◌∷◌, Option, Some, None, refl, ap, sym, subst, ◌∙◌}
use Rattle.std.specs.Prelude.{◌&&◌, Result, Ok, Err, option_and_then}
use Rattle.std.proofs.lemmas.Bool.{and_parts}
use Rattle.def_log.proofs.Takes.{came as some_came}
use Rattle.def_log.proofs.Again.{goes_on as some_goes_on}
use Rattle.def_state.specs.Image.{many_at}
use Rattle.def_state.specs.ImagePlaces.{Reading, ◌>>=◌, tested, field, items}

abbrev ok : {A : Type 0} → A → List ℕ → Reading A
ok x rest = Ok (x, rest)

-- a step that came to something
pub came : {A B : Type 0} (r : Reading A) (f : A × List ℕ → Reading B) (y : B × List ℕ) → (r >>= f) ≡ Ok y → (x : A × List ℕ) × (r ≡ Ok x) × (f x ≡ Ok y)
came (Ok x) f y e = (x, refl, e)
came (Err bytes) f y e = absurd cc

-- a step that comes to something goes on with it
pub goes_on : {A B : Type 0} (f : A × List ℕ → Reading B) (r : Reading A) (x : A × List ℕ) → r ≡ Ok x → (r >>= f) ≡ f x
goes_on f r x e = ap (λ z. z >>= f) e

-- a field that was read, with its test
pub record IsTested {A : Type 0} (read : List ℕ → Option (A × List ℕ)) (test : A → Bool) (bytes : List ℕ) (x : A × List ℕ) : Type 0 where
  pub read_is : read bytes ≡ Some x
  pub test_is : test x.0 ≡ true

pub field_came : {A : Type 0} (read : List ℕ → Option (A × List ℕ)) (test : A → Bool) (bytes : List ℕ) (x : A × List ℕ) → field read test bytes ≡ Ok x → IsTested read test bytes x
field_came {A} read test bytes x e = by (read bytes) refl e
  where
    passed : (y : A × List ℕ) (b : Bool) → test y.0 ≡ b → read bytes ≡ Some y → cond b (Ok y) (Err bytes) ≡ ok x.0 x.1 → IsTested read test bytes x
    passed y true t s e =
        let same : y ≡ x = cc in
        record { read_is = s ∙ ap (λ z. Some z) same; test_is = ap (λ (z : A × List ℕ). test z.0) (sym same) ∙ t }
    passed y false t s e = absurd cc

    by : (o : Option (A × List ℕ)) → read bytes ≡ o → tested test bytes o ≡ ok x.0 x.1 → IsTested read test bytes x
    by None s e = absurd cc
    by (Some y) s e = passed y (test y.0) refl s e

pub field_is : {A : Type 0} (read : List ℕ → Option (A × List ℕ)) (test : A → Bool) (bytes : List ℕ) (x : A × List ℕ) → read bytes ≡ Some x → test x.0 ≡ true → field read test bytes ≡ Ok x
field_is read test bytes x s t = ap (tested test bytes) s ∙ ap (λ b. cond b (ok x.0 x.1) (Err bytes)) t

-- so many items -----------------------------------------------------------------------------

-- each item passes its test behind what those before it came to
abbrev pub all_pass : {A B : Type 0} → (A → B → Bool) → (A → B → A) → A → List B → Bool
all_pass test next a [] = true
all_pass test next a (b ∷ bs) = test a b && all_pass test next (next a b) bs

abbrev pub behind : {A B : Type 0} → (A → B → A) → A → List B → A
behind next a [] = a
behind next a (b ∷ bs) = behind next (next a b) bs

-- a step reads an item and tests it
pub record Walks {A B : Type 0} (step : A → List ℕ → Reading A) (read : List ℕ → Option (B × List ℕ)) (test : A → B → Bool) (next : A → B → A) : Type 0 where
  pub came : (a : A) (bytes : List ℕ) (y : A × List ℕ) → step a bytes ≡ Ok y → (x : B × List ℕ) × (read bytes ≡ Some x) × (test a x.0 ≡ true) × (y ≡ (next a x.0, x.1))
  pub goes : (a : A) (bytes : List ℕ) (x : B × List ℕ) → read bytes ≡ Some x → test a x.0 ≡ true → step a bytes ≡ Ok (next a x.0, x.1)

pub items_came : {A B : Type 0} {step : A → List ℕ → Reading A} {read : List ℕ → Option (B × List ℕ)} {test : A → B → Bool} {next : A → B → A} → Walks step read test next → (n : ℕ) (a : A) (bytes : List ℕ) (y : A × List ℕ) → items step n a bytes ≡ Ok y
    → (xs : List B × List ℕ) × (many_at read n bytes ≡ Some xs) × (all_pass test next a xs.0 ≡ true) × (y ≡ (behind next a xs.0, xs.1))
unfolding many_at
items_came {A} {B} w zero a bytes y e = let none : List B = [] in let same : y ≡ (a, bytes) = cc in ((none, bytes), refl, refl, same)
items_came {A} {B} {step} {read} {test} {next} w (suc n) a bytes y e =
    let one = came (step a bytes) (λ x. items step n x.0 x.1) y e in
    let x = w.came a bytes one.0 one.1 in
    let rest : items step n (next a x.0.0) x.0.1 ≡ Ok y = subst (λ z. items step n z.0 z.1 ≡ Ok y) x.3 one.2 in
    let xs = items_came w n (next a x.0.0) x.0.1 y rest in
    ((x.0.0 ∷ xs.0.0, xs.0.1), some_goes_on _ (read bytes) x.0 x.1 ∙ some_goes_on _ (many_at read n x.0.1) xs.0 xs.1, rw (x.2) xs.2, xs.3)

pub items_goes : {A B : Type 0} {step : A → List ℕ → Reading A} {read : List ℕ → Option (B × List ℕ)} {test : A → B → Bool} {next : A → B → A} → Walks step read test next → (n : ℕ) (a : A) (bytes : List ℕ) (xs : List B × List ℕ) → many_at read n bytes ≡ Some xs → all_pass test next a xs.0 ≡ true
    → items step n a bytes ≡ Ok (behind next a xs.0, xs.1)
unfolding many_at
items_goes {A} {B} {step} {read} {test} {next} w zero a bytes xs e p = subst (λ (z : List B × List ℕ). ok a bytes ≡ ok (behind next a z.0) z.1) (some_is ([], bytes) xs e) refl
  where
    some_is : (x y : List B × List ℕ) → Some x ≡ Some y → x ≡ y
    some_is x y e = cc
items_goes {A} {B} {step} {read} {test} {next} w (suc n) a bytes xs e p =
    let x = some_came _ (read bytes) xs e in
    let ys = some_came _ (many_at read n x.0.1) xs x.2 in
    let whole : List B × List ℕ = (x.0.0 ∷ ys.0.0, ys.0.1) in
    let same : whole ≡ xs = some_is (x.0.0 ∷ ys.0.0, ys.0.1) xs ys.2 in
    let passes : all_pass test next a (x.0.0 ∷ ys.0.0) ≡ true = ap (λ (z : List B × List ℕ). all_pass test next a z.0) same ∙ p in
    let parts = and_parts (test a x.0.0) (all_pass test next (next a x.0.0) ys.0.0) passes in
    goes_on (λ x. items step n x.0 x.1) (step a bytes) (next a x.0.0, x.0.1) (w.goes a bytes x.0 x.1 parts.0)
    ∙ items_goes w n (next a x.0.0) x.0.1 ys.0 ys.1 parts.1
    ∙ ap (λ (z : List B × List ℕ). ok (behind next a z.0) z.1) same
  where
    some_is : (x y : List B × List ℕ) → Some x ≡ Some y → x ≡ y
    some_is x y e = cc
