-- What a loop over a list has spelled so far, and that each item fits.
use Rattle.std.proofs.Common.{◌≡◌, ℕ, suc, ◌+◌, ◌<◌, ◌^◌, List, [], ◌∷◌, ◌++◌, get_or, take, sym, ap, ◌∙◌, append_assoc, arith, Some}
use Rattle.std.specs.Prelude.{slice_get}
use Rattle.std.specs.List.{AllByRecursion, flat_map}
use Rattle.std.proofs.Math.Seq.{take-suc}
use Rattle.std.proofs.lemmas.List.{append-nil}
use Rattle.std.proofs.lemmas.Option.{slice_get_within, get_or_from_slice_get}

pub all_bytes : (bytes : List ℕ) → ((i : ℕ) → get_or bytes i 0 < 256) → AllByRecursion (λ b. b < 2 ^ 8) bytes
all_bytes [] fits = tt
all_bytes (b ∷ bytes) fits = (omega (arith, fits 0), all_bytes bytes (λ i. fits (suc i)))

pub all_push : {X : Type 0} (P : X → Type 0) (xs : List X) (x : X) → AllByRecursion P xs → P x → AllByRecursion P (xs ++ x ∷ [])
all_push P [] x h p = (p, tt)
all_push P (y ∷ ys) x h p = (h.0, all_push P ys x h.1 p)

flat_push : {X : Type 0} (f : X → List ℕ) (xs : List X) (x : X) → flat_map f (xs ++ x ∷ []) ≡ flat_map f xs ++ f x
flat_push f [] x = append-nil (f x)
flat_push f (y ∷ ys) x = ap (λ (l : List ℕ). f y ++ l) (flat_push f ys x) ∙ sym (append_assoc (f y) (flat_map f ys) (f x))

-- the items before an index, and the one at it
one_more : {X : Type 0} (xs : List X) (i : ℕ) (x : X) → slice_get xs i ≡ Some x → take (i + 1) xs ≡ take i xs ++ x ∷ []
one_more xs i x h =
    let one : i + 1 ≡ suc i = omega arith in
    ap (λ k. take k xs) one ∙ take-suc xs i x (slice_get_within xs i x h) ∙ ap (λ y. take i xs ++ y ∷ []) (get_or_from_slice_get xs i x x h)

pub spells_on : {X : Type 0} (f : X → List ℕ) (old front now : List ℕ) (xs : List X) (i : ℕ) (x : X) → slice_get xs i ≡ Some x → front ≡ old ++ flat_map f (take i xs) → now ≡ front ++ f x → now ≡ old ++ flat_map f (take (i + 1) xs)
spells_on f old front now xs i x h so_far e =
    e ∙ ap (λ (l : List ℕ). l ++ f x) so_far ∙ append_assoc old (flat_map f (take i xs)) (f x)
    ∙ ap (λ (l : List ℕ). old ++ l) (sym (flat_push f (take i xs) x) ∙ ap (flat_map f) (sym (one_more xs i x h)))

pub fits_on : {X : Type 0} (P : X → Type 0) (xs : List X) (i : ℕ) (x : X) → slice_get xs i ≡ Some x → AllByRecursion P (take i xs) → P x → AllByRecursion P (take (i + 1) xs)
fits_on P xs i x h so_far p = rw (one_more xs i x h) (all_push P (take i xs) x so_far p)

-- two texts behind one another
pub two : (old a b first now : List ℕ) → first ≡ old ++ a → now ≡ first ++ b → now ≡ old ++ (a ++ b)
two old a b first now e f = f ∙ ap (λ (l : List ℕ). l ++ b) e ∙ append_assoc old a b
