-- The events of a list that are left.
use Rattle.std.proofs.Common.{◌≡◌, refl, ap, ◌∙◌, ℕ, zero, suc, ◌+◌, List, [], ◌∷◌, ◌++◌, length, drop, arith, Some, None}
use Rattle.std.specs.Prelude.{slice_get}
use Rattle.std.proofs.lemmas.List.{length-append}
use Rattle.std.proofs.lemmas.Option.{same_Some}
use Rattle.ic_base.specs.declared.events.Answer.{Answer}
use Rattle.ic_base.specs.declared.events.Event.{Event}
use Rattle.def_live.specs.Turns.{left_behind, Lists}

-- the first of these is the one in the place
pub next-is : {A : Type 0} (xs : List A) (n : ℕ) (x : A) → slice_get xs n ≡ Some x → (rest : List A) × (drop n xs ≡ x ∷ rest)
next-is [] n x e = absurd (cc e)
next-is (y ∷ xs) zero x e = (xs, ap (λ z. z ∷ xs) (same_Some y x e))
next-is (y ∷ xs) (suc n) x e = next-is xs n x e

pub next-none : {A : Type 0} (xs : List A) (n : ℕ) → slice_get xs n ≡ None → drop n xs ≡ []
next-none [] zero e = refl
next-none [] (suc n) e = refl
next-none (y ∷ xs) zero e = absurd (cc e)
next-none (y ∷ xs) (suc n) e = next-none xs n e

-- one event is done
pub one-less : (e : Event) (n : ℕ) (xs : List Event) → drop (suc n) xs ≡ left_behind (Lists e) (drop n xs)
one-less e zero [] = refl
one-less e zero (x ∷ xs) = refl
one-less e (suc n) [] = refl
one-less e (suc n) (x ∷ xs) = one-less e n xs

pub left-less : (e : Event) (answers : List Answer) (a : Answer) (xs : List Event) → drop (length (answers ++ a ∷ [])) xs ≡ left_behind (Lists e) (drop (length answers) xs)
left-less e answers a xs =
    let l = length-append answers (a ∷ []) in
    let n : length (answers ++ a ∷ []) ≡ suc (length answers) = omega (arith, l) in
    ap (λ k. drop k xs) n ∙ one-less e (length answers) xs
