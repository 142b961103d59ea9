-- A list that is looked through from its front.
use Rattle.std.proofs.Common.{◌≡◌, ◌∙◌, sym, ap, refl, ℕ, zero, suc, ◌+◌, ◌≤◌, Bool, true, false, List, [], ◌∷◌, length, drop, arith, Some, None}
use Rattle.std.specs.Prelude.{slice_get, ◌||◌, not, filter}
use Rattle.std.specs.List.{list_any}
use Rattle.std.proofs.lemmas.List.{length-map}
use Rattle.std.proofs.lemmas.List.Filters.{length-filter_both}
use Rattle.def_state.specs.Outbox.{Outbox, Held, is_unstable, unstable}

-- none of the first i passes
abbrev pub NoneOf : {A : Type 0} → (A → Bool) → List A → ℕ → Type 0
NoneOf test xs i = list_any test xs ≡ list_any test (drop i xs)

drop-suc : {A : Type 0} (xs : List A) (i : ℕ) (x : A) → slice_get xs i ≡ Some x → drop i xs ≡ x ∷ drop (suc i) xs
drop-suc [] i x e = absurd (cc)
drop-suc (y ∷ ys) zero x e = let same : y ≡ x = cc in ap (λ z. z ∷ ys) same
drop-suc (y ∷ ys) (suc i) x e = drop-suc ys i x e

-- what is left behind an item that is there
pub drop-at : {A : Type 0} (xs : List A) (i : ℕ) (x : A) → slice_get xs i ≡ Some x → drop i xs ≡ x ∷ drop (i + 1) xs
drop-at xs i x e = let on : suc i ≡ i + 1 = omega arith in drop-suc xs i x e ∙ ap (λ n. x ∷ drop n xs) on

drop-past : {A : Type 0} (xs : List A) (i : ℕ) → slice_get xs i ≡ None → drop i xs ≡ []
drop-past [] zero e = refl
drop-past [] (suc i) e = refl
drop-past (x ∷ xs) zero e = absurd (cc)
drop-past (x ∷ xs) (suc i) e = drop-past xs i e

pub none-more : {A : Type 0} (test : A → Bool) (xs : List A) (i : ℕ) (x : A) → NoneOf test xs i → slice_get xs i ≡ Some x → test x ≡ false → NoneOf test xs (i + 1)
none-more test xs i x so at not = so ∙ ap (list_any test) (drop-at xs i x at) ∙ ap (λ b. b || list_any test (drop (i + 1) xs)) not

pub one-found : {A : Type 0} (test : A → Bool) (xs : List A) (i : ℕ) (x : A) → NoneOf test xs i → slice_get xs i ≡ Some x → test x ≡ true → true ≡ list_any test xs
one-found test xs i x so at passes = sym (so ∙ ap (list_any test) (drop-at xs i x at) ∙ ap (λ b. b || list_any test (drop (i + 1) xs)) passes)

pub none-found : {A : Type 0} (test : A → Bool) (xs : List A) (i : ℕ) → NoneOf test xs i → slice_get xs i ≡ None → false ≡ list_any test xs
none-found test xs i so past = sym (so ∙ ap (list_any test) (drop-past xs i past))

-- nothing is left behind the end
pub drop-all : {A : Type 0} (xs : List A) (i : ℕ) → length xs ≤ i → drop i xs ≡ []
drop-all [] zero l = refl
drop-all [] (suc i) l = refl
drop-all (x ∷ xs) zero l = absurd (omega arith)
drop-all (x ∷ xs) (suc i) l = drop-all xs i (omega arith)

pub none-behind : {A : Type 0} (test : A → Bool) (xs : List A) (i : ℕ) → NoneOf test xs i → length xs ≤ i → false ≡ list_any test xs
none-behind test xs i so past = sym (so ∙ ap (list_any test) (drop-all xs i past))

-- the messages that are due without a stable mark are no more than those that are held
pub unstable-few : (o : Outbox) (forced : ℕ) → length (unstable o forced) ≤ length o.held
unstable-few o forced =
    let both = length-filter_both (is_unstable forced) (λ h. not (is_unstable forced h)) (λ h. refl) o.held in
    let same = length-map (filter (is_unstable forced) o.held) (λ (h : Held). h.msg) in
    omega (arith, both, same)
