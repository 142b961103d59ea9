-- What a result is, by what it was before; and a list cut at one of its members.
use Rattle.std.proofs.Common.{◌≡◌, refl, ap, ℕ, zero, suc, ◌<◌, arith, List, [], ◌∷◌, ◌++◌, map, take, drop, get_or, length, IfOk, IfErr, OnOk}
use Rattle.std.specs.Prelude.{Result, Ok, Err}

pub on-ok : {T E : Type 0} {P Q : T → Type 0} (r : Result T E) → IfOk r P → ((x : T) → P x → Q x) → IfOk r Q
on-ok (Ok x) p f = f x p
on-ok (Err e) p f = tt

pub on-ok-each : {T E : Type 0} {P Q S : T → Type 0} {R : Type 0} (r : Result T E) → IfOk r P → IfOk r Q → OnOk r R → ((x : T) → P x → Q x → R → S x) → IfOk r S
on-ok-each (Ok x) p q s f = f x p q s
on-ok-each (Err e) p q s f = tt

pub on-err : {T E : Type 0} {P Q : E → Type 0} (r : Result T E) → IfErr r P → ((e : E) → P e → Q e) → IfErr r Q
on-err (Ok x) p f = tt
on-err (Err e) p f = f e p

pub cut-map : {A B : Type 0} (f : A → B) (xs : List A) (i : ℕ) (d : A) → i < length xs → map f xs ≡ map f (take i xs) ++ f (get_or xs i d) ∷ map f (drop (suc i) xs)
cut-map f [] i d l = absurd (omega (arith, l))
cut-map f (x ∷ xs) zero d l = refl
cut-map f (x ∷ xs) (suc i) d l = ap (λ ys. f x ∷ ys) (cut-map f xs i d (omega (arith, l)))
