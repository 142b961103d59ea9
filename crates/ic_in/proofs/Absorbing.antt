-- One number more is taken out of those above a bound.
use Rattle.std.proofs.Common.{◌≡◌, ◌∙◌, sym, ap, subst, refl, ℕ, ◌+◌, ◌<◌, ◌≤◌, Bool, true, false, cond, List, [], ◌∷◌, arith, Option, Some, None, ◌⊎◌, inl, inr}
use Rattle.std.specs.Prelude.{◌&&◌, not, nat_lt, nat_le, is_some}
use Rattle.std.proofs.lemmas.Bool.{cases_Bool, cases_lt, and_parts}
use Rattle.std.proofs.lemmas.Bool.Decides.{nat_tests}
use Rattle.ic_base.specs.declared.messages.ComId.{ComId}
use Rattle.ic_base.specs.Programs.{same_com}
use Rattle.def_state.specs.Names.{Identity, same_identity}
use Rattle.ic_index.specs.declared.sorted.Entry.{Entry}
use Rattle.ic_index.specs.Entries.{name_of, value_of, without, is_in_order}
use Rattle.ic_index.proofs.Identities.{same-is}
use Rattle.ic_index.proofs.Keeping.{value_of-without, value_of-without_same}

abbrev pub Above : Type 0
Above = List (Entry (Unit {0}))

abbrev pub is_within : ComId → ℕ → ℕ → Identity → Bool
is_within c bound end y = same_com y.peer c && (nat_lt bound y.k && nat_le y.k end)

-- what is left of those above, from a bound to an end
abbrev pub AreLeft : Above → Above → ComId → ℕ → ℕ → Type 0
AreLeft old new c bound end = (y : Identity) → is_some (value_of new y) ≡ (is_some (value_of old y) && not (is_within c bound end y))

none-is : {A : Type 0} (o : Option A) → is_some o ≡ false → o ≡ None
none-is None e = refl
none-is (Some x) e = absurd (cc)

without-none : (x : Identity) (es : Above) → value_of es x ≡ None → without x es ≡ es
without-none x [] h = refl
without-none x (e ∷ es) h = by (same_identity x (name_of e)) h (without-none x es)
  where
    by : (b : Bool) → cond b (Some e.value) (value_of es x) ≡ None → (value_of es x ≡ None → without x es ≡ es) → cond b es (e ∷ without x es) ≡ e ∷ es
    by true h rest = absurd (cc)
    by false h rest = ap (λ l. e ∷ l) (rest h)

pub nothing-removed : (x : Identity) (es : Above) → is_some (value_of es x) ≡ false → without x es ≡ es
nothing-removed x es h = without-none x es (none-is (value_of es x) h)

pub still-none : (x : Identity) (es : Above) → is_some (value_of es x) ≡ false → value_of (without x es) x ≡ None
still-none x es h = ap (λ l. value_of l x) (nothing-removed x es h) ∙ none-is (value_of es x) h

within-next : (c : ComId) (bound end : ℕ) (y : Identity) → same_identity y (record { peer = c; k = end + 1 }) ≡ false → is_within c bound (end + 1) y ≡ is_within c bound end y
within-next c bound end y other = grind (arith, nat_tests)

within-last : (c : ComId) (bound end : ℕ) → bound ≤ end → is_within c bound (end + 1) (record { peer = c; k = end + 1 }) ≡ true
within-last c bound end l = grind (arith, nat_tests)

and-not_true : (a : Bool) → (a && not true) ≡ false
and-not_true true = refl
and-not_true false = refl

pub left-next : (old new : Above) (c : ComId) (bound end : ℕ) → bound ≤ end → is_in_order new ≡ true → AreLeft old new c bound end → AreLeft old (without (record { peer = c; k = end + 1 }) new) c bound (end + 1)
left-next old new c bound end l order left y =
    by (cases_Bool (same_identity y (record { peer = c; k = end + 1 })))
  where
    by : (same_identity y (record { peer = c; k = end + 1 }) ≡ true) ⊎ (same_identity y (record { peer = c; k = end + 1 }) ≡ false) → is_some (value_of (without (record { peer = c; k = end + 1 }) new) y) ≡ (is_some (value_of old y) && not (is_within c bound (end + 1) y))
    by (inl same) =
        let x : Identity = record { peer = c; k = end + 1 } in
        let is = same-is y x same in
        let P : Identity → Type 0 = λ z. is_some (value_of (without x new) z) ≡ (is_some (value_of old z) && not (is_within c bound (end + 1) z)) in
        subst P (sym is) (
        ap is_some (value_of-without_same x new order)
        ∙ sym (ap (λ b. is_some (value_of old x) && not b) (within-last c bound end l) ∙ and-not_true (is_some (value_of old x)))
        )
    by (inr other) =
        ap is_some (value_of-without y (record { peer = c; k = end + 1 }) new other)
        ∙ left y
        ∙ ap (λ b. is_some (value_of old y) && not b) (sym (within-next c bound end y other))

pub was-there : (old new : Above) (c : ComId) (bound end : ℕ) (y : Identity) → AreLeft old new c bound end → is_some (value_of new y) ≡ true → is_some (value_of old y) ≡ true
was-there old new c bound end y left there = (and_parts (is_some (value_of old y)) (not (is_within c bound end y)) (sym (left y) ∙ there)).0

pub absorbed-next : (old : Above) (c : ComId) (bound end : ℕ) → ((k : ℕ) → bound < k → k ≤ end → is_some (value_of old (record { peer = c; k = k })) ≡ true) → is_some (value_of old (record { peer = c; k = end + 1 })) ≡ true → (k : ℕ) → bound < k → k ≤ end + 1 → is_some (value_of old (record { peer = c; k = k })) ≡ true
absorbed-next old c bound end h last k a b = by (cases_lt end k)
  where
    by : (end < k) ⊎ (k ≤ end) → is_some (value_of old (record { peer = c; k = k })) ≡ true
    by (inl above) = let e : k ≡ end + 1 = omega arith in ap (λ n. is_some (value_of old (record { peer = c; k = n }))) e ∙ last
    by (inr below) = h k a below
