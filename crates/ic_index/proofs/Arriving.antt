-- Identities in order of arrival: where one stands, and what an edit leaves.
use Rattle.std.proofs.Common.{◌≡◌, ◌∙◌, sym, ap, subst, refl, ℕ, zero, suc, ◌+◌, ◌<◌, ◌≤◌, Bool, true, false, cond, List, [], ◌∷◌, length, map, get_or, arith, Option, Some, None}
use Rattle.std.specs.Prelude.{nat_lt, ◌&&◌, ◌||◌, slice_get, option_to_list}
use Rattle.std.specs.List.{prefix_len, list_any, list_all}
use Rattle.std.proofs.lemmas.Bool.{and_parts, and_from, ltb-true, lt-ltb, le-ltb, eqb-true, eq-eqb}
use Rattle.def_state.specs.Names.{Identity, same_identity}
use Rattle.def_state.specs.Fits.{is_number_of}
use Rattle.ic_index.specs.declared.arrivals.Arrival.{Arrival}
use Rattle.ic_index.specs.Rows.{arrived, are_numbered, are_indexed}
use Rattle.ic_index.proofs.Identities.{same-refl}

abbrev pub is_below : ℕ → Arrival → Bool
is_below n a = nat_lt a.number n

abbrev pub above_all : ℕ → List Arrival → Bool
above_all n rows = list_all (λ b. nat_lt n b.number) rows

pub number-is : (o : Option ℕ) (n : ℕ) → is_number_of o n ≡ true → o ≡ Some n
number-is None n h = absurd (cc)
number-is (Some m) n h = ap (λ k. Some k) (eqb-true m n h)

pub number-from : (o : Option ℕ) (n : ℕ) → o ≡ Some n → is_number_of o n ≡ true
number-from o n e = ap (λ p. is_number_of p n) e ∙ eq-eqb n n refl

-- who stands at a place of the identities
pub stood-by : (rows : List Arrival) (i : ℕ) (x : Identity) → slice_get (map arrived rows) i ≡ Some x → (a : Arrival) × ((slice_get rows i ≡ Some a) × (arrived a ≡ x))
stood-by [] i x h = absurd (cc)
stood-by (a ∷ rows) zero x h = (a, (refl, cc))
stood-by (a ∷ rows) (suc i) x h = stood-by rows i x h

-- its number is kept
pub number-at : (look : Identity → Option ℕ) (rows : List Arrival) (i : ℕ) (a : Arrival) → are_indexed look rows ≡ true → slice_get rows i ≡ Some a → look (arrived a) ≡ Some a.number
number-at look [] i a h s = absurd (cc)
number-at look (b ∷ bs) zero a h s =
    let here = (and_parts (is_number_of (look (arrived b)) b.number) (are_indexed look bs) h).0 in
    let same : b ≡ a = cc in
    let P : Arrival → Type 0 = λ z. look (arrived z) ≡ Some z.number in
    subst P same (number-is (look (arrived b)) b.number here)
number-at look (b ∷ bs) (suc i) a h s = number-at look bs i a (and_parts (is_number_of (look (arrived b)) b.number) (are_indexed look bs) h).1 s

pub above-at : (n : ℕ) (rows : List Arrival) (i : ℕ) (a : Arrival) → above_all n rows ≡ true → slice_get rows i ≡ Some a → nat_lt n a.number ≡ true
above-at n [] i a h s = absurd (cc)
above-at n (b ∷ bs) zero a h s = let same : b ≡ a = cc in ap (λ z. nat_lt n z.number) (sym same) ∙ (and_parts (nat_lt n b.number) (above_all n bs) h).0
above-at n (b ∷ bs) (suc i) a h s = above-at n bs i a (and_parts (nat_lt n b.number) (above_all n bs) h).1 s

pub numbered : (next : ℕ) (b : Arrival) (bs : List Arrival) → are_numbered next (b ∷ bs) ≡ true → (nat_lt b.number next ≡ true) × ((above_all b.number bs ≡ true) × (are_numbered next bs ≡ true))
numbered next b bs h =
    let parts = and_parts (nat_lt b.number next && above_all b.number bs) (are_numbered next bs) h in
    let first = and_parts (nat_lt b.number next) (above_all b.number bs) parts.0 in
    (first.0, (first.1, parts.1))

pub numbered-from : (next : ℕ) (b : Arrival) (bs : List Arrival) → nat_lt b.number next ≡ true → above_all b.number bs ≡ true → are_numbered next bs ≡ true → are_numbered next (b ∷ bs) ≡ true
numbered-from next b bs l h r = and_from (nat_lt b.number next && above_all b.number bs) (are_numbered next bs) (and_from (nat_lt b.number next) (above_all b.number bs) l h) r

-- so many have a number below that of the one at place i
pub below-at : (next : ℕ) (rows : List Arrival) (i : ℕ) (a : Arrival) → are_numbered next rows ≡ true → slice_get rows i ≡ Some a → prefix_len (is_below a.number) rows ≡ i
below-at next [] i a h s = absurd (cc)
below-at next (b ∷ bs) zero a h s =
    let same : b ≡ a = cc in
    ap (λ z. cond (nat_lt z.number a.number) (1 + prefix_len (is_below a.number) bs) 0) same
    ∙ ap (λ t. cond t (1 + prefix_len (is_below a.number) bs) 0) (le-ltb a.number a.number (omega arith))
below-at next (b ∷ bs) (suc i) a h s =
    let parts = numbered next b bs h in
    let here = above-at b.number bs i a parts.1.0 s in
    let rest = below-at next bs i a parts.1.1 s in
    ap (λ t. cond t (1 + prefix_len (is_below a.number) bs) 0) here ∙ omega arith

above-get : (n : ℕ) (rows : List Arrival) (j : ℕ) (d : Arrival) → above_all n rows ≡ true → j < length rows → n < (get_or rows j d).number
above-get n [] j d h l = absurd (omega arith)
above-get n (b ∷ bs) zero d h l = ltb-true n b.number (and_parts (nat_lt n b.number) (above_all n bs) h).0
above-get n (b ∷ bs) (suc j) d h l = above-get n bs j d (and_parts (nat_lt n b.number) (above_all n bs) h).1 (omega arith)

-- the arrivals are parted by what is below a number
pub numbers-parted : (next n : ℕ) (rows : List Arrival) → are_numbered next rows ≡ true → (i j : ℕ) (d : Arrival) → i ≤ j → j < length rows → is_below n (get_or rows j d) ≡ true → is_below n (get_or rows i d) ≡ true
numbers-parted next n [] h i j d le l b = absurd (omega arith)
numbers-parted next n (x ∷ xs) h zero zero d le l b = b
numbers-parted next n (x ∷ xs) h zero (suc j) d le l b =
    let up = above-get x.number xs j d (numbered next x xs h).1.0 (omega arith) in
    let down = ltb-true (get_or xs j d).number n b in
    lt-ltb x.number n (omega arith)
numbers-parted next n (x ∷ xs) h (suc i) zero d le l b = absurd (omega arith)
numbers-parted next n (x ∷ xs) h (suc i) (suc j) d le l b = numbers-parted next n xs (numbered next x xs h).1.1 i j d (omega arith) (omega arith) b

-- one for which no number is kept stands nowhere
pub stands-nowhere : (look : Identity → Option ℕ) (rows : List Arrival) (i : ℕ) (x : Identity) → are_indexed look rows ≡ true → look x ≡ None → slice_get (map arrived rows) i ≡ Some x → ⊥
stands-nowhere look rows i x h none s =
    let stood = stood-by rows i x s in
    let number = number-at look rows i stood.0 h stood.1.0 in
    let kept : look x ≡ Some stood.0.number = ap look (sym stood.1.1) ∙ number in
    cc

-- one for which this number is kept stands at the place of the number
pub stands-at_number : (next : ℕ) (look : Identity → Option ℕ) (rows : List Arrival) (i n : ℕ) (x : Identity) → are_numbered next rows ≡ true → are_indexed look rows ≡ true → look x ≡ Some n → slice_get (map arrived rows) i ≡ Some x → prefix_len (is_below n) rows ≡ i
stands-at_number next look rows i n x numbers h is s =
    let stood = stood-by rows i x s in
    let number = number-at look rows i stood.0 h stood.1.0 in
    let kept : look x ≡ Some stood.0.number = ap look (sym stood.1.1) ∙ number in
    let same : n ≡ stood.0.number = cc in
    ap (λ m. prefix_len (is_below m) rows) same ∙ below-at next rows i stood.0 numbers stood.1.0

-- who stands there is found there
pub is-at : (xs : List Identity) (i j : ℕ) (x : Identity) → slice_get xs i ≡ Some x → j ≡ i → list_any (same_identity x) (option_to_list (slice_get xs j)) ≡ true
is-at xs i j x h e =
    ap (λ k. list_any (same_identity x) (option_to_list (slice_get xs k))) e
    ∙ ap (λ o. list_any (same_identity x) (option_to_list o)) h
    ∙ ap (λ b. b || false) (same-refl x)
