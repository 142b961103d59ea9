-- The numbers and the index of arrivals behind a push and a removal.
use Rattle.std.proofs.Common.{◌≡◌, ◌∙◌, sym, ap, refl, ℕ, zero, suc, ◌+◌, ◌<◌, Bool, true, false, List, [], ◌∷◌, ◌++◌, map, arith, Option, Some, None, ◌⊎◌, inl, inr}
use Rattle.std.specs.Prelude.{nat_lt, ◌||◌, slice_get, Result, Ok, Err, OnOk, is_ok}
use Rattle.std.specs.List.{remove, list_any}
use Rattle.std.proofs.lemmas.Bool.{and_parts, and_from, or_parts, ltb-true, lt-ltb, cases_Bool}
use Rattle.def_state.specs.Names.{Identity, same_identity}
use Rattle.def_state.specs.Fits.{is_number_of}
use Rattle.ic_index.specs.declared.arrivals.Arrival.{Arrival}
use Rattle.ic_index.specs.Rows.{arrived, are_numbered, are_indexed, KeepsNoOther}
use Rattle.ic_index.proofs.Identities.{same-is, same-sym, other-sym}
use Rattle.ic_index.proofs.Arriving.{above_all, above-at, number-is, number-from, numbered, numbered-from}

-- a push ---------------------------------------------------------------------------------

above-push : (n : ℕ) (rows : List Arrival) (a : Arrival) → above_all n rows ≡ true → n < a.number → above_all n (rows ++ a ∷ []) ≡ true
above-push n [] a h l = and_from (nat_lt n a.number) true (lt-ltb n a.number l) refl
above-push n (b ∷ bs) a h l =
    let parts = and_parts (nat_lt n b.number) (above_all n bs) h in
    and_from (nat_lt n b.number) (above_all n (bs ++ a ∷ [])) parts.0 (above-push n bs a parts.1 l)

pub numbered-push : (next : ℕ) (rows : List Arrival) (a : Arrival) → are_numbered next rows ≡ true → a.number ≡ next → are_numbered (next + 1) (rows ++ a ∷ []) ≡ true
numbered-push next [] a h e = numbered-from (next + 1) a [] (lt-ltb a.number (next + 1) (omega arith)) refl refl
numbered-push next (b ∷ bs) a h e =
    let parts = numbered next b bs h in
    let below = ltb-true b.number next parts.0 in
    numbered-from (next + 1) b (bs ++ a ∷ []) (lt-ltb b.number (next + 1) (omega arith)) (above-push b.number bs a parts.1.0 (omega arith)) (numbered-push next bs a parts.1.1 e)

or-true : (b : Bool) → (b || true) ≡ true
or-true true = refl
or-true false = refl

-- the number of x is kept, and each other one's as before
abbrev pub Keeps : (Identity → Option ℕ) → (Identity → Option ℕ) → Identity → ℕ → Type 0
Keeps look now x n = (now x ≡ Some n) × ((y : Identity) → same_identity x y ≡ false → now y ≡ look y)

pub indexed-push : (look now : Identity → Option ℕ) (rows : List Arrival) (a : Arrival) → are_indexed look rows ≡ true → list_any (same_identity (arrived a)) (map arrived rows) ≡ false → Keeps look now (arrived a) a.number → are_indexed now (rows ++ a ∷ []) ≡ true
indexed-push look now [] a h new kept = and_from (is_number_of (now (arrived a)) a.number) true (number-from (now (arrived a)) a.number kept.0) refl
indexed-push look now (b ∷ bs) a h new kept =
    let parts = and_parts (is_number_of (look (arrived b)) b.number) (are_indexed look bs) h in
    let news = or_parts (same_identity (arrived a) (arrived b)) (list_any (same_identity (arrived a)) (map arrived bs)) new in
    let here = ap (λ o. is_number_of o b.number) (kept.1 (arrived b) news.0) ∙ parts.0 in
    and_from (is_number_of (now (arrived b)) b.number) (are_indexed now (bs ++ a ∷ [])) here (indexed-push look now bs a parts.1 news.1 kept)

-- an identity that is the first, or one of the others
among : (x : Identity) (b : Arrival) (bs : List Arrival) → list_any (same_identity x) (map arrived bs) ≡ true → list_any (same_identity x) (map arrived (b ∷ bs)) ≡ true
among x b bs h = ap (λ t. same_identity x (arrived b) || t) h ∙ or-true (same_identity x (arrived b))

among-push : (x : Identity) (rows : List Arrival) (a : Arrival) → list_any (same_identity x) (map arrived rows) ≡ true → list_any (same_identity x) (map arrived (rows ++ a ∷ [])) ≡ true
among-push x [] a h = absurd (cc)
among-push x (b ∷ bs) a h = by (same_identity x (arrived b)) refl (λ behind. among-push x bs a behind)
  where
    by : (t : Bool) → same_identity x (arrived b) ≡ t → (list_any (same_identity x) (map arrived bs) ≡ true → list_any (same_identity x) (map arrived (bs ++ a ∷ [])) ≡ true) → list_any (same_identity x) (map arrived (b ∷ (bs ++ a ∷ []))) ≡ true
    by true e rest = ap (λ t. t || list_any (same_identity x) (map arrived (bs ++ a ∷ []))) e
    by false e rest = among x b (bs ++ a ∷ []) (rest (sym (ap (λ t. t || list_any (same_identity x) (map arrived bs)) e) ∙ h))

among-last : (x : Identity) (rows : List Arrival) (a : Arrival) → same_identity x (arrived a) ≡ true → list_any (same_identity x) (map arrived (rows ++ a ∷ [])) ≡ true
among-last x [] a h = ap (λ t. t || false) h
among-last x (b ∷ bs) a h = among x b (bs ++ a ∷ []) (among-last x bs a h)

pub no_other-push : (look now : Identity → Option ℕ) (rows : List Arrival) (a : Arrival) → KeepsNoOther look rows → Keeps look now (arrived a) a.number → KeepsNoOther now (rows ++ a ∷ [])
no_other-push look now rows a h kept x n e = by (cases_Bool (same_identity (arrived a) x))
  where
    by : (same_identity (arrived a) x ≡ true) ⊎ (same_identity (arrived a) x ≡ false) → list_any (same_identity x) (map arrived (rows ++ a ∷ [])) ≡ true
    by (inl same) = among-last x rows a (same-sym (arrived a) x same)
    by (inr apart) = among-push x rows a (h x n (sym (kept.1 x apart) ∙ e))

-- a removal ------------------------------------------------------------------------------

above-remove : (n : ℕ) (rows : List Arrival) (i : ℕ) → above_all n rows ≡ true → above_all n (remove rows i) ≡ true
above-remove n [] zero h = refl
above-remove n [] (suc i) h = refl
above-remove n (b ∷ bs) zero h = (and_parts (nat_lt n b.number) (above_all n bs) h).1
above-remove n (b ∷ bs) (suc i) h =
    let parts = and_parts (nat_lt n b.number) (above_all n bs) h in
    and_from (nat_lt n b.number) (above_all n (remove bs i)) parts.0 (above-remove n bs i parts.1)

pub numbered-remove : (next : ℕ) (rows : List Arrival) (i : ℕ) → are_numbered next rows ≡ true → are_numbered next (remove rows i) ≡ true
numbered-remove next [] zero h = refl
numbered-remove next [] (suc i) h = refl
numbered-remove next (b ∷ bs) zero h = (numbered next b bs h).1.1
numbered-remove next (b ∷ bs) (suc i) h =
    let parts = numbered next b bs h in
    numbered-from next b (remove bs i) parts.0 (above-remove b.number bs i parts.1.0) (numbered-remove next bs i parts.1.1)

-- none but x is forgotten
abbrev pub ForgetsOnly : (Identity → Option ℕ) → (Identity → Option ℕ) → Identity → Type 0
ForgetsOnly look now x = (y : Identity) → same_identity x y ≡ false → now y ≡ look y

-- one with another number stays when x is forgotten
stays : (look now : Identity → Option ℕ) (x : Identity) (n : ℕ) (b : Arrival) → ForgetsOnly look now x → look x ≡ Some n → (b.number ≡ n → ⊥) → is_number_of (look (arrived b)) b.number ≡ true → is_number_of (now (arrived b)) b.number ≡ true
stays look now x n b only is other h = by (cases_Bool (same_identity x (arrived b)))
  where
    by : (same_identity x (arrived b) ≡ true) ⊎ (same_identity x (arrived b) ≡ false) → is_number_of (now (arrived b)) b.number ≡ true
    by (inl same) =
        let at = number-is (look (arrived b)) b.number h in
        let there : look x ≡ Some b.number = ap look (same-is x (arrived b) same) ∙ at in
        let equal : b.number ≡ n = cc in
        absurd (other equal)
    by (inr apart) = ap (λ o. is_number_of o b.number) (only (arrived b) apart) ∙ h

all-stay : (look now : Identity → Option ℕ) (x : Identity) (n : ℕ) (rows : List Arrival) → ForgetsOnly look now x → look x ≡ Some n → above_all n rows ≡ true → are_indexed look rows ≡ true → are_indexed now rows ≡ true
all-stay look now x n [] only is up h = refl
all-stay look now x n (b ∷ bs) only is up h =
    let parts = and_parts (is_number_of (look (arrived b)) b.number) (are_indexed look bs) h in
    let ups = and_parts (nat_lt n b.number) (above_all n bs) up in
    let above = ltb-true n b.number ups.0 in
    and_from (is_number_of (now (arrived b)) b.number) (are_indexed now bs) (stays look now x n b only is (λ e. omega arith) parts.0) (all-stay look now x n bs only is ups.1 parts.1)

pub indexed-remove : (next : ℕ) (look now : Identity → Option ℕ) (rows : List Arrival) (i : ℕ) (a : Arrival) → ForgetsOnly look now (arrived a) → are_numbered next rows ≡ true → slice_get rows i ≡ Some a → look (arrived a) ≡ Some a.number → are_indexed look rows ≡ true → are_indexed now (remove rows i) ≡ true
indexed-remove next look now [] i a only numbers s is h = absurd (cc)
indexed-remove next look now (b ∷ bs) zero a only numbers s is h =
    let same : b ≡ a = cc in
    let up : above_all a.number bs ≡ true = ap (λ z. above_all z.number bs) (sym same) ∙ (numbered next b bs numbers).1.0 in
    all-stay look now (arrived a) a.number bs only is up (and_parts (is_number_of (look (arrived b)) b.number) (are_indexed look bs) h).1
indexed-remove next look now (b ∷ bs) (suc i) a only numbers s is h =
    let parts = and_parts (is_number_of (look (arrived b)) b.number) (are_indexed look bs) h in
    let number = numbered next b bs numbers in
    let below = ltb-true b.number a.number (above-at b.number bs i a number.1.0 s) in
    and_from (is_number_of (now (arrived b)) b.number) (are_indexed now (remove bs i)) (stays look now (arrived a) a.number b only is (λ e. omega arith) parts.0) (indexed-remove next look now bs i a only number.1.1 s is parts.1)

pub arrived-remove : (rows : List Arrival) (i : ℕ) → map arrived (remove rows i) ≡ remove (map arrived rows) i
arrived-remove [] zero = refl
arrived-remove [] (suc i) = refl
arrived-remove (b ∷ bs) zero = refl
arrived-remove (b ∷ bs) (suc i) = ap (λ l. arrived b ∷ l) (arrived-remove bs i)

-- one that is another than the one at place i is still there behind its removal
among-remove : (x : Identity) (rows : List Arrival) (i : ℕ) (a : Arrival) → slice_get rows i ≡ Some a → same_identity x (arrived a) ≡ false → list_any (same_identity x) (map arrived rows) ≡ true → list_any (same_identity x) (map arrived (remove rows i)) ≡ true
among-remove x [] i a s apart h = absurd (cc)
among-remove x (b ∷ bs) zero a s apart h =
    let same : b ≡ a = cc in
    sym (ap (λ t. t || list_any (same_identity x) (map arrived bs)) (ap (λ z. same_identity x (arrived z)) same ∙ apart)) ∙ h
among-remove x (b ∷ bs) (suc i) a s apart h = by (same_identity x (arrived b)) refl (λ behind. among-remove x bs i a s apart behind)
  where
    by : (t : Bool) → same_identity x (arrived b) ≡ t → (list_any (same_identity x) (map arrived bs) ≡ true → list_any (same_identity x) (map arrived (remove bs i)) ≡ true) → list_any (same_identity x) (map arrived (b ∷ remove bs i)) ≡ true
    by true e rest = ap (λ t. t || list_any (same_identity x) (map arrived (remove bs i))) e
    by false e rest = among x b (remove bs i) (rest (sym (ap (λ t. t || list_any (same_identity x) (map arrived bs)) e) ∙ h))

pub no_other-remove : (look now : Identity → Option ℕ) (rows : List Arrival) (i : ℕ) (a : Arrival) → now (arrived a) ≡ None → ForgetsOnly look now (arrived a) → slice_get rows i ≡ Some a → KeepsNoOther look rows → KeepsNoOther now (remove rows i)
no_other-remove look now rows i a gone only s h x n e = by (cases_Bool (same_identity (arrived a) x))
  where
    by : (same_identity (arrived a) x ≡ true) ⊎ (same_identity (arrived a) x ≡ false) → list_any (same_identity x) (map arrived (remove rows i)) ≡ true
    by (inl same) = let none : now x ≡ None = ap now (sym (same-is (arrived a) x same)) ∙ gone in absurd (cc)
    by (inr apart) = among-remove x rows i a s (other-sym (arrived a) x apart) (h x n (sym (only x apart) ∙ e))

pub no_other-same : (look now : Identity → Option ℕ) (rows : List Arrival) → ((x : Identity) → now x ≡ look x) → KeepsNoOther look rows → KeepsNoOther now rows
no_other-same look now rows same h x n e = h x n (sym (same x) ∙ e)

-- the numbers that are kept stay
pub indexed-same : (look now : Identity → Option ℕ) (rows : List Arrival) → ((x : Identity) → now x ≡ look x) → are_indexed look rows ≡ true → are_indexed now rows ≡ true
indexed-same look now [] same h = refl
indexed-same look now (b ∷ bs) same h =
    let parts = and_parts (is_number_of (look (arrived b)) b.number) (are_indexed look bs) h in
    and_from (is_number_of (now (arrived b)) b.number) (are_indexed now bs) (ap (λ o. is_number_of o b.number) (same (arrived b)) ∙ parts.0) (indexed-same look now bs same parts.1)

-- what holds where there is a value
pub on-ok : {T E P : Type 0} (r : Result T E) → is_ok r ≡ true → OnOk r P → P
on-ok (Ok x) is p = p
on-ok (Err e) is p = absurd (cc)
