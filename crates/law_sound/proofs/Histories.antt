-- Which entries the merged history has.
use Rattle.std.proofs.Common.{◌≡◌, refl, ◌∙◌, ap, sym, subst, ℕ, zero, suc, ◌+◌, Bool, true, false, cond, List, [], ◌∷◌, slice_get, unwrap_or, Option, Some, None, arith, ◌⊎◌, inl, inr}
use Rattle.std.specs.Prelude.{Contains}
use Rattle.std.proofs.lemmas.List.Elements.{Contains-append_left, Contains-append_right, Contains-append_cases}
use Rattle.std.proofs.lemmas.Option.{same_Some}
use Rattle.ic_base.specs.declared.messages.Entry.{Entry}
use Rattle.ic_base.specs.declared.scenario.Component.{Component}
use Rattle.ic_base.specs.declared.record.Record.{Record}
use Rattle.def_plain.specs.History.{entry_of, log_entries, entries_from, placed, in_order, is_before}
use Rattle.def_facts.specs.Logs.{Logs}
use Rattle.law_replay.proofs.Lists.{none-some, in-head, in-tail, head-or-tail, empty}
use Rattle.law_sound.specs.Order.{HistoryHasEntries, EntriesAreInHistory}
use Rattle.law_replay.proofs.Members.{mapped-has, mapped-keeps}

-- order -------------------------------------------------------------------------------------------

pub placed-has : {A : Type 0} (lt : A → A → Bool) (e x : A) (xs : List A) → Contains (placed lt e xs) x → (e ≡ x) ⊎ Contains xs x
placed-has lt e x [] h = head-or-tail e x [] h
placed-has lt e x (y ∷ ys) h = at (lt y e) h (placed-has lt e x ys)
  where
    tail : (e ≡ x) ⊎ Contains ys x → (e ≡ x) ⊎ Contains (y ∷ ys) x
    tail (inl a) = inl a
    tail (inr b) = inr (in-tail y x ys b)

    by : (y ≡ x) ⊎ Contains (placed lt e ys) x → (Contains (placed lt e ys) x → (e ≡ x) ⊎ Contains ys x) → (e ≡ x) ⊎ Contains (y ∷ ys) x
    by (inl a) more = inr (subst (Contains (y ∷ ys)) a (in-head y ys))
    by (inr b) more = tail (more b)

    at : (b : Bool) → Contains (cond b (y ∷ placed lt e ys) (e ∷ y ∷ ys)) x → (Contains (placed lt e ys) x → (e ≡ x) ⊎ Contains ys x) → (e ≡ x) ⊎ Contains (y ∷ ys) x
    at true g more = by (head-or-tail y x (placed lt e ys) g) more
    at false g more = head-or-tail e x (y ∷ ys) g

placed-keeps : {A : Type 0} (lt : A → A → Bool) (e x : A) (xs : List A) → (e ≡ x) ⊎ Contains xs x → Contains (placed lt e xs) x
placed-keeps lt e x [] (inl a) = subst (Contains (e ∷ [])) a (in-head e [])
placed-keeps lt e x [] (inr b) = empty x b
placed-keeps lt e x (y ∷ ys) h = at (lt y e) h (placed-keeps lt e x ys)
  where
    by : (y ≡ x) ⊎ Contains ys x → ((e ≡ x) ⊎ Contains ys x → Contains (placed lt e ys) x) → Contains (y ∷ placed lt e ys) x
    by (inl a) more = subst (Contains (y ∷ placed lt e ys)) a (in-head y (placed lt e ys))
    by (inr b) more = in-tail y x (placed lt e ys) (more (inr b))

    at : (b : Bool) → (e ≡ x) ⊎ Contains (y ∷ ys) x → ((e ≡ x) ⊎ Contains ys x → Contains (placed lt e ys) x) → Contains (cond b (y ∷ placed lt e ys) (e ∷ y ∷ ys)) x
    at true (inl a) more = in-tail y x (placed lt e ys) (more (inl a))
    at true (inr b) more = by (head-or-tail y x ys b) more
    at false (inl a) more = subst (Contains (e ∷ y ∷ ys)) a (in-head e (y ∷ ys))
    at false (inr b) more = in-tail e x (y ∷ ys) b

pub in-order-has : {A : Type 0} (lt : A → A → Bool) (x : A) (xs : List A) → Contains (in_order lt xs) x → Contains xs x
in-order-has lt x [] h = h
in-order-has lt x (e ∷ es) h = at (placed-has lt e x (in_order lt es) h) (in-order-has lt x es)
  where
    at : (e ≡ x) ⊎ Contains (in_order lt es) x → (Contains (in_order lt es) x → Contains es x) → Contains (e ∷ es) x
    at (inl a) more = subst (Contains (e ∷ es)) a (in-head e es)
    at (inr b) more = in-tail e x es (more b)

in-order-keeps : {A : Type 0} (lt : A → A → Bool) (x : A) (xs : List A) → Contains xs x → Contains (in_order lt xs) x
in-order-keeps lt x [] h = h
in-order-keeps lt x (e ∷ es) h = at (head-or-tail e x es h) (in-order-keeps lt x es)
  where
    at : (e ≡ x) ⊎ Contains es x → (Contains es x → Contains (in_order lt es) x) → Contains (placed lt e (in_order lt es)) x
    at (inl a) more = placed-keeps lt e x (in_order lt es) (inl a)
    at (inr b) more = placed-keeps lt e x (in_order lt es) (inr (more b))

-- entries -----------------------------------------------------------------------------------------

-- an entry of the component in place j, the first of the list having number i
abbrev pub At : ℕ → List Component → Logs → Entry → Type 0
At i xs logs e = (j : ℕ) × (x : Component) × (log : List Record) × (r : Record) × (slice_get xs j ≡ Some x) × (slice_get logs j ≡ Some log) × Contains log r × (entry_of x.kind (record { 0 = i + j }) r ≡ Some e)

pub plus-zero : (i : ℕ) → i ≡ i + 0
plus-zero i = omega arith

pub plus-suc : (i j : ℕ) → (i + 1) + j ≡ i + suc j
plus-suc i j = omega arith

pub from-has : (i : ℕ) (xs : List Component) (logs : Logs) (e : Entry) → Contains (entries_from i xs logs) e → At i xs logs e
from-has i [] logs e h = empty e h
from-has i (x ∷ xs) [] e h = empty e h
from-has i (x ∷ xs) (log ∷ logs) e h = at (Contains-append_cases (log_entries x.kind (record { 0 = i }) log) (entries_from (i + 1) xs logs) e h) (from-has (i + 1) xs logs e)
  where
    one : (r : Record) × Contains log r × (entry_of x.kind (record { 0 = i }) r ≡ Some e) → At i (x ∷ xs) (log ∷ logs) e
    one z = (0, x, log, z.0, refl, refl, z.1, ap (λ k. entry_of x.kind (record { 0 = k }) z.0) (sym (plus-zero i)) ∙ z.2)

    next : At (i + 1) xs logs e → At i (x ∷ xs) (log ∷ logs) e
    next z = (suc z.0, z.1, z.2, z.3, z.4, z.5, z.6, ap (λ k. entry_of z.1.kind (record { 0 = k }) z.3) (sym (plus-suc i z.0)) ∙ z.7)

    at : Contains (log_entries x.kind (record { 0 = i }) log) e ⊎ Contains (entries_from (i + 1) xs logs) e → (Contains (entries_from (i + 1) xs logs) e → At (i + 1) xs logs e) → At i (x ∷ xs) (log ∷ logs) e
    at (inl a) more = one (mapped-has (entry_of x.kind (record { 0 = i })) log e a)
    at (inr b) more = next (more b)

from-keeps : (i : ℕ) (xs : List Component) (logs : Logs) (e : Entry) (j : ℕ) (x : Component) (log : List Record) (r : Record) → slice_get xs j ≡ Some x → slice_get logs j ≡ Some log → Contains log r → entry_of x.kind (record { 0 = i + j }) r ≡ Some e → Contains (entries_from i xs logs) e
from-keeps i [] logs e j x log r a b h is = none-some x a
from-keeps i (y ∷ xs) [] e j x log r a b h is = none-some log b
from-keeps i (y ∷ xs) (l ∷ logs) e zero x log r a b h is =
    Contains-append_left (log_entries y.kind (record { 0 = i }) l) (entries_from (i + 1) xs logs) e
    (mapped-keeps (entry_of y.kind (record { 0 = i })) l r e (subst (λ z. Contains z r) (sym (same_Some l log b)) h)
    (ap (λ (z : Component). entry_of z.kind (record { 0 = i }) r) (same_Some y x a) ∙ ap (λ k. entry_of x.kind (record { 0 = k }) r) (plus-zero i) ∙ is))
from-keeps i (y ∷ xs) (l ∷ logs) e (suc j) x log r a b h is =
    Contains-append_right (log_entries y.kind (record { 0 = i }) l) (entries_from (i + 1) xs logs) e
    (from-keeps (i + 1) xs logs e j x log r a b h (ap (λ k. entry_of x.kind (record { 0 = k }) r) (plus-suc i j) ∙ is))

zero-plus : (j : ℕ) → 0 + j ≡ j
zero-plus j = omega arith

pub history_has_entries : HistoryHasEntries
history_has_entries program logs e h =
    let z = from-has 0 program.components logs e (in-order-has is_before e (entries_from 0 program.components logs) h) in
    (record { 0 = z.0 }, z.1, z.3, z.4, subst (λ l. Contains l z.3) (sym (ap (λ o. unwrap_or o []) z.5)) z.6, ap (λ k. entry_of z.1.kind (record { 0 = k }) z.3) (sym (zero-plus z.0)) ∙ z.7)

pub entries_are_in_history : EntriesAreInHistory
entries_are_in_history program logs e c x r is h entry =
    in-order-keeps is_before e (entries_from 0 program.components logs) (at (slice_get logs c.0) refl h)
  where
    at : (o : Option (List Record)) → slice_get logs c.0 ≡ o → Contains (unwrap_or o []) r → Contains (entries_from 0 program.components logs) e
    at None was g = empty r g
    at (Some log) was g = from-keeps 0 program.components logs e c.0 x log r is was g (ap (λ k. entry_of x.kind (record { 0 = k }) r) (zero-plus c.0) ∙ entry)
