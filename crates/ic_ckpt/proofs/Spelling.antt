-- What a loop over a table has spelled so far.
use Rattle.std.proofs.Common.{◌≡◌, ◌∙◌, refl, sym, ap, ℕ, zero, suc, ◌+◌, ◌≤◌, List, [], ◌∷◌, ◌++◌, length, map, take, Option, Some, None, arith}
use Rattle.std.specs.Prelude.{Bool, true, false, cond, slice_get, option_map, filter, nat_lt, IfSome}
use Rattle.std.specs.List.{All, flat_map, range_with_len}
use Rattle.std.specs.Int.{w32, to_be_bytes}
use Rattle.std.proofs.lemmas.Option.{slice_get_within, slice_get-map}
use Rattle.def_log.specs.Spelling.{number}
use Rattle.def_log.proofs.Takes.{some_is}
use Rattle.def_state.specs.Inbox.{Inbox}
use Rattle.def_state.specs.Image.{listed, senders_of, taken_from, run_from, sender_bytes}
use Rattle.ic_in.specs.Senders.{above_bound, number_above, with_bound}
use Rattle.ic_wire.proofs.Ranges.{spells_on, two}
use Rattle.law_image.proofs.Exact.{flat_mapped, length_mapped}

pub record SoFar {X : Type 0} (f : X → List ℕ) (xs : List X) (i : ℕ) (body : List ℕ) : Type 0 where
  pub within : i ≤ length xs
  pub spelled : body ≡ flat_map f (take i xs)

pub none-yet : {X : Type 0} (f : X → List ℕ) (xs : List X) → SoFar f xs 0 []
none-yet f [] = record { within = omega arith; spelled = refl }
none-yet f (x ∷ xs) = record { within = omega arith; spelled = refl }

pub one-more : {X : Type 0} (f : X → List ℕ) (xs : List X) (i : ℕ) (body now : List ℕ) (x : X) → SoFar f xs i body → slice_get xs i ≡ Some x → now ≡ body ++ f x → SoFar f xs (i + 1) now
one-more f xs i body now x h at e =
    let lt = slice_get_within xs i x at in
    record { within = omega (arith, lt); spelled = spells_on f [] body now xs i x at h.spelled e }

past-end : {X : Type 0} (xs : List X) (i : ℕ) → slice_get xs i ≡ None → i ≤ length xs → (take i xs ≡ xs) × (i ≡ length xs)
past-end [] zero e l = (refl, refl)
past-end [] (suc i) e l = absurd (omega arith)
past-end (x ∷ xs) zero e l = absurd cc
past-end (x ∷ xs) (suc i) e l = let rest = past-end xs i e (omega arith) in (ap (λ l. x ∷ l) rest.0, ap suc rest.1)

pub all-done : {X : Type 0} (f : X → List ℕ) (xs : List X) (i : ℕ) (body : List ℕ) → SoFar f xs i body → slice_get xs i ≡ None → (body ≡ flat_map f xs) × (i ≡ length xs)
all-done f xs i body h e = let p = past-end xs i e h.within in (h.spelled ∙ ap (flat_map f) p.0, p.1)

-- what a table tells of its i-th item
pub told-some : {A X : Type 0} (g : A → X) (xs : List A) (i : ℕ) (x : X) → Some x ≡ option_map g (slice_get xs i) → slice_get (map g xs) i ≡ Some x
told-some g xs i x e = slice_get-map g xs i ∙ sym e

pub told-none : {A X : Type 0} (g : A → X) (xs : List A) (i : ℕ) → None ≡ option_map g (slice_get xs i) → slice_get (map g xs) i ≡ None
told-none g xs i e = slice_get-map g xs i ∙ sym e

-- the count in four bytes, and the items
pub listed-is : {X : Type 0} (f : X → List ℕ) (xs : List X) (i : ℕ) (old body counted now : List ℕ) → SoFar f xs i body → slice_get xs i ≡ None → counted ≡ old ++ to_be_bytes w32 i → now ≡ counted ++ body → now ≡ old ++ listed f xs
listed-is f xs i old body counted now h e a b =
    let d = all-done f xs i body h e in
    two old (to_be_bytes w32 i) body counted now a b
    ∙ ap (λ (n : ℕ). old ++ (to_be_bytes w32 n ++ body)) d.1
    ∙ ap (λ (l : List ℕ). old ++ (to_be_bytes w32 (length xs) ++ l)) d.0

-- the count in a byte, and the items
pub counted-is : {X : Type 0} (f : X → List ℕ) (xs : List X) (i : ℕ) (old body counted now : List ℕ) → SoFar f xs i body → slice_get xs i ≡ None → counted ≡ old ++ i ∷ [] → now ≡ counted ++ body → now ≡ old ++ (length xs ∷ flat_map f xs)
counted-is f xs i old body counted now h e a b =
    let d = all-done f xs i body h e in
    two old (i ∷ []) body counted now a b
    ∙ ap (λ (n : ℕ). old ++ n ∷ body) d.1
    ∙ ap (λ (l : List ℕ). old ++ length xs ∷ l) d.0

pub listed-mapped : {A X : Type 0} (f : X → List ℕ) (g : A → X) (xs : List A) → listed f (map g xs) ≡ listed (λ x. f (g x)) xs
listed-mapped f g xs = ap (λ n. to_be_bytes w32 n ++ flat_map f (map g xs)) (length_mapped g xs) ∙ ap (λ l. to_be_bytes w32 (length xs) ++ l) (flat_mapped f g xs)

-- the numbers above a sender's bound, none where there is no sender
abbrev pub numbers_of : Option (ℕ × List ℕ) → List ℕ
numbers_of None = []
numbers_of (Some x) = above_bound x.1

pub numbers-at : (o : Option (ℕ × List ℕ)) (j : ℕ) → slice_get (numbers_of o) j ≡ number_above o j
numbers-at None j = refl
numbers-at (Some x) j = refl

pub listed-above : (o : Option (ℕ × List ℕ)) (old now : List ℕ) → now ≡ old ++ listed number (numbers_of o) → IfSome o (λ x. now ≡ old ++ listed number (above_bound x.1))
listed-above None old now e = tt
listed-above (Some x) old now e = e

-- what holds of all holds of the i-th
pub all-at : {X : Type 0} (P : X → Type 0) (xs : List X) (i : ℕ) → All P xs → IfSome (slice_get xs i) P
all-at P [] i h = tt
all-at P (x ∷ xs) zero h = h 0 x (omega arith)
all-at P (x ∷ xs) (suc i) h = all-at P xs i (λ k d l. h (suc k) d (omega arith))

-- one sender more
pub sender-more : (o : Option (ℕ × List ℕ)) (from w : ℕ) (b0 b1 b2 b3 : List ℕ) → Some (from, w) ≡ with_bound o → b1 ≡ b0 ++ from ∷ [] → b2 ≡ b1 ++ number w → IfSome o (λ x. b3 ≡ b2 ++ listed number (above_bound x.1)) → (s : ℕ × List ℕ) × (o ≡ Some s) × (b3 ≡ b0 ++ sender_bytes s)
sender-more None from w b0 b1 b2 b3 e p q r = absurd cc
sender-more (Some s) from w b0 b1 b2 b3 e p q r =
    let pair : (from, w) ≡ (s.0, run_from 0 s.1) = some_is (from, w) (s.0, run_from 0 s.1) e in
    let c : from ≡ s.0 = ap (λ (z : ℕ × ℕ). z.0) pair in
    let n : w ≡ run_from 0 s.1 = ap (λ (z : ℕ × ℕ). z.1) pair in
    let front : b2 ≡ b0 ++ (from ∷ number w) = two b0 (from ∷ []) (number w) b1 b2 p q in
    let whole : b3 ≡ b0 ++ (from ∷ (number w ++ listed number (above_bound s.1))) = two b0 (from ∷ number w) (listed number (above_bound s.1)) b2 b3 front r in
    (s, refl, whole ∙ ap (λ (z : ℕ). b0 ++ (z ∷ (number w ++ listed number (above_bound s.1)))) c ∙ ap (λ (z : ℕ). b0 ++ (s.0 ∷ (number z ++ listed number (above_bound s.1)))) n)

pub no-sender : (o : Option (ℕ × List ℕ)) → None ≡ with_bound o → o ≡ None
no-sender None e = refl
no-sender (Some s) e = absurd cc
