-- How each edit leaves the rows of an inbox.
use Rattle.std.proofs.Common.{◌≡◌, ◌∙◌, sym, ap, subst, refl, ℕ, zero, suc, ◌-◌, ◌<◌, ◌≤◌, Bool, true, false, cond, List, [], ◌∷◌, ◌++◌, length, map, get_or, arith, Option, Some, None, min, ◌⊎◌, inl, inr}
use Rattle.std.specs.Prelude.{nat_lt, slice_get, slice_set, option_map}
use Rattle.std.specs.List.{remove, list_any, All, AllWithin}
use Rattle.std.proofs.lemmas.Grind.{common_steps, elements}
use Rattle.std.proofs.lemmas.List.{map-append, length-set, get_or-set_same, get_or-set_other}
use Rattle.std.proofs.lemmas.Bool.{false_from_ne_true, or_from, ltb-true, ltb-false, cases_eq, both_ways}
use Rattle.std.proofs.lemmas.List.Edits.{length-remove}
use Rattle.std.proofs.lemmas.List.Elements.{All-append, All-weaker, All-set}
use Rattle.std.proofs.lemmas.Option.{slice_get-map}
use Rattle.def_state.specs.Names.{Identity, same_identity}
use Rattle.def_state.specs.Inbox.{cover_one}
use Rattle.ic_index.specs.Alone.{StandsAlone}
use Rattle.ic_index.proofs.Identities.{same-is}
use Rattle.ic_index.proofs.Alone.{alone-by_name, none-by_name}
use Rattle.ic_index.proofs.Reading.{All-one, get-read, got-within, got-read, map-remove, front-remove, all-remove}
use Rattle.ic_in.specs.declared.inbox.Row.{Row}
use Rattle.ic_in.specs.Views.{name_of, receipt_of, is_waiting, covered_row, IsTold, IsKept}

-- the same of parts that are equal
pub kept-same : (taken as_taken : List Identity) (rows as_rows : List Row) (names as_names : List Identity) (first as_first quiet as_quiet : ℕ) → as_taken ≡ taken → as_rows ≡ rows → as_names ≡ names → as_first ≡ first → as_quiet ≡ quiet → IsKept taken rows names first quiet → IsKept as_taken as_rows as_names as_first as_quiet
kept-same taken as_taken rows as_rows names as_names first as_first quiet as_quiet t r n f q h =
    let A : List Identity → Type 0 = λ z. IsKept z as_rows as_names as_first as_quiet in
    let B : List Row → Type 0 = λ z. IsKept taken z as_names as_first as_quiet in
    let C : List Identity → Type 0 = λ z. IsKept taken rows z as_first as_quiet in
    let D : ℕ → Type 0 = λ z. IsKept taken rows names z as_quiet in
    let E : ℕ → Type 0 = λ z. IsKept taken rows names first z in
    subst A (sym t) (subst B (sym r) (subst C (sym n) (subst D (sym f) (subst E (sym q) h))))

-- one that isn't taken has no open receipt
pub new-name : (taken : List Identity) (rows : List Row) (x : Identity) → All (λ r. list_any (same_identity (name_of r)) taken ≡ true) rows → list_any (same_identity x) taken ≡ false → list_any (same_identity x) (map name_of rows) ≡ false
new-name taken [] x h n = refl
new-name taken (r ∷ rows) x h n =
    let here : list_any (same_identity (name_of r)) taken ≡ true = h 0 r (omega arith) in
    let other = false_from_ne_true (same_identity x (name_of r)) (λ e. both_ways (list_any (same_identity x) taken) n (ap (λ z. list_any (same_identity z) taken) (same-is x (name_of r) e) ∙ here)) in
    or_from (same_identity x (name_of r)) (list_any (same_identity x) (map name_of rows)) other (new-name taken rows x (λ k d b. h (suc k) d (omega arith)) n)

pub kept-took : (taken new_taken : List Identity) (rows : List Row) (names : List Identity) (first quiet : ℕ) (r : Row) → IsKept taken rows names first quiet → list_any (same_identity (name_of r)) new_taken ≡ true → ((z : Identity) → list_any (same_identity z) taken ≡ true → list_any (same_identity z) new_taken ≡ true) → IsKept new_taken (rows ++ r ∷ []) (names ++ name_of r ∷ []) first (min quiet r.at)
kept-took taken new_taken rows names first quiet r h there more =
    let P : Row → Type 0 = λ z. list_any (same_identity (name_of z)) taken ≡ true in
    let Q : Row → Type 0 = λ z. list_any (same_identity (name_of z)) new_taken ≡ true in
    record {
      named = map-append name_of rows (r ∷ []) ∙ ap (λ l. l ++ name_of r ∷ []) h.named;
      recorded = All-append Q rows (r ∷ []) (All-weaker P Q (λ z e. more (name_of z) e) rows h.recorded) (All-one Q r there);
      within = grind (arith, common_steps, h.within);
      told = λ k d a b. grind (arith, elements, h.told k d, h.within);
      later = λ k d b w. grind (arith, elements, h.later k d);
    }

-- a row that is told -------------------------------------------------------------------

named-set : (rows : List Row) (i : ℕ) (r new : Row) → slice_get rows i ≡ Some r → name_of new ≡ name_of r → map name_of (slice_set rows i new) ≡ map name_of rows
named-set [] i r new g e = absurd (cc)
named-set (y ∷ ys) zero r new g e = let same : y ≡ r = cc in ap (λ n. n ∷ map name_of ys) (e ∙ ap name_of (sym same))
named-set (y ∷ ys) (suc i) r new g e = ap (λ l. name_of y ∷ l) (named-set ys i r new g e)

told-row : (rows : List Row) (i : ℕ) (new : Row) → IsTold (slice_get (map receipt_of rows) i) (receipt_of new) → (r : Row) × ((slice_get rows i ≡ Some r) × ((name_of new ≡ name_of r) × (is_waiting (receipt_of new) ≡ false)))
told-row [] i new m = absurd m
told-row (r ∷ rows) zero new m = (r, (refl, (m.name, m.told)))
told-row (r ∷ rows) (suc i) new m = told-row rows i new m

pub kept-told : (taken : List Identity) (rows : List Row) (names : List Identity) (first quiet i : ℕ) (new : Row) → IsKept taken rows names first quiet → IsTold (slice_get (map receipt_of rows) i) (receipt_of new) → IsKept taken (slice_set rows i new) names first quiet
kept-told taken rows names first quiet i new h m =
    let row = told-row rows i new m in
    let within = got-within rows i row.0 row.1.0 in
    let same : name_of new ≡ name_of (get_or rows i new) = row.1.1.0 ∙ ap name_of (sym (got-read rows i row.0 row.1.0 new)) in
    let P : Identity → Type 0 = λ z. list_any (same_identity z) taken ≡ true in
    record {
      named = named-set rows i row.0 new row.1.0 row.1.1.0 ∙ h.named;
      recorded = All-set (λ z. list_any (same_identity (name_of z)) taken ≡ true) rows i new (subst P (sym same) (h.recorded i new within)) h.recorded;
      within = grind (arith, common_steps, h.within);
      told = λ k d a b. told k d (cases_eq k i) within row.1.1.1 (h.told k d a b);
      later = λ k d b w. later k d (cases_eq k i) within row.1.1.1 w (h.later k d (omega (arith, length-set rows i new)));
    }
  where
    told : (k : ℕ) (d : Row) → (k ≡ i) ⊎ (k ≡ i → ⊥) → i < length rows → is_waiting (receipt_of new) ≡ false → is_waiting (receipt_of (get_or rows k d)) ≡ false → is_waiting (receipt_of (get_or (slice_set rows i new) k d)) ≡ false
    told k d (inl e) within n old = ap (λ j. is_waiting (receipt_of (get_or (slice_set rows i new) j d))) e ∙ ap (λ z. is_waiting (receipt_of z)) (get_or-set_same rows i new d within) ∙ n
    told k d (inr o) within n old = ap (λ z. is_waiting (receipt_of z)) (get_or-set_other rows i k new d o) ∙ old

    later : (k : ℕ) (d : Row) → (k ≡ i) ⊎ (k ≡ i → ⊥) → i < length rows → is_waiting (receipt_of new) ≡ false → is_waiting (receipt_of (get_or (slice_set rows i new) k d)) ≡ true → (is_waiting (receipt_of (get_or rows k d)) ≡ true → quiet ≤ (get_or rows k d).at) → quiet ≤ (get_or (slice_set rows i new) k d).at
    later k d (inl e) within n w old =
        let not_waiting = ap (λ j. is_waiting (receipt_of (get_or (slice_set rows i new) j d))) e ∙ ap (λ z. is_waiting (receipt_of z)) (get_or-set_same rows i new d within) ∙ n in
        absurd (both_ways (is_waiting (receipt_of (get_or (slice_set rows i new) k d))) not_waiting w)
    later k d (inr o) within n w old =
        let same = get_or-set_other rows i k new d o in
        let bound = old (ap (λ z. is_waiting (receipt_of z)) (sym same) ∙ w) in
        let ats = ap (λ z. z.at) same in
        omega arith

-- the first rows that have nothing more to tell are passed
pub kept-passed : (taken : List Identity) (rows : List Row) (names : List Identity) (first quiet next : ℕ) → IsKept taken rows names first quiet → next ≤ length rows → AllWithin (λ r. is_waiting (receipt_of r) ≡ false) rows 0 next → IsKept taken rows names next quiet
kept-passed taken rows names first quiet next h l t = record { named = h.named; recorded = h.recorded; within = l; told = t; later = h.later }

pub kept-quiet : (taken : List Identity) (rows : List Row) (names : List Identity) (first quiet later : ℕ) → IsKept taken rows names first quiet → All (λ r. is_waiting (receipt_of r) ≡ true → later ≤ r.at) rows → IsKept taken rows names first later
kept-quiet taken rows names first quiet later h l = record { named = h.named; recorded = h.recorded; within = h.within; told = h.told; later = l }

-- a removal ----------------------------------------------------------------------------

pub kept-remove : (taken : List Identity) (rows : List Row) (names : List Identity) (first quiet i : ℕ) → IsKept taken rows names first quiet → i < length rows → IsKept taken (remove rows i) (remove names i) (cond (nat_lt i first) (first - 1) first) quiet
kept-remove taken rows names first quiet i h l = record {
  named = map-remove name_of rows i ∙ ap (λ ns. remove ns i) h.named;
  recorded = all-remove (λ r. list_any (same_identity (name_of r)) taken ≡ true) rows i l h.recorded;
  within = by (nat_lt i first) refl;
  told = front-remove (λ r. is_waiting (receipt_of r) ≡ false) rows first i l h.told;
  later = all-remove (λ r. is_waiting (receipt_of r) ≡ true → quiet ≤ r.at) rows i l h.later;
}
  where
    by : (b : Bool) → nat_lt i first ≡ b → cond b (first - 1) first ≤ length (remove rows i)
    by true e = let below = ltb-true i first e in let short = length-remove rows i l in let within = h.within in omega arith
    by false e = let above = ltb-false i first e in let short = length-remove rows i l in omega arith

-- every receipt up to a position is covered --------------------------------------------

names-covered : (at : ℕ) (rows : List Row) → map name_of (map (covered_row at) rows) ≡ map name_of rows
names-covered at [] = refl
names-covered at (r ∷ rows) = ap (λ l. name_of r ∷ l) (names-covered at rows)

pub receipts-covered : (at : ℕ) (rows : List Row) → map receipt_of (map (covered_row at) rows) ≡ map (cover_one at) (map receipt_of rows)
receipts-covered at [] = refl
receipts-covered at (r ∷ rows) = ap (λ l. receipt_of (covered_row at r) ∷ l) (receipts-covered at rows)

recorded-covered : (taken : List Identity) (at : ℕ) (rows : List Row) → All (λ r. list_any (same_identity (name_of r)) taken ≡ true) rows → All (λ r. list_any (same_identity (name_of r)) taken ≡ true) (map (covered_row at) rows)
recorded-covered taken at [] h k d b = absurd (omega arith)
recorded-covered taken at (r ∷ rows) h zero d b = h 0 r (omega arith)
recorded-covered taken at (r ∷ rows) h (suc k) d b = recorded-covered taken at rows (λ j e l. h (suc j) e (omega arith)) k d (omega arith)

pub kept-covered : (taken : List Identity) (rows : List Row) (names : List Identity) (first quiet at : ℕ) → IsKept taken rows names first quiet → IsKept taken (map (covered_row at) rows) names 0 0
kept-covered taken rows names first quiet at h = record {
  named = names-covered at rows ∙ h.named;
  recorded = recorded-covered taken at rows h.recorded;
  within = omega arith;
  told = λ k d a b. absurd (omega arith);
  later = λ k d b w. omega arith;
}

-- found by its identity ----------------------------------------------------------------

names-of_receipts : (rows : List Row) → map (λ r. r.name) (map receipt_of rows) ≡ map name_of rows
names-of_receipts [] = refl
names-of_receipts (r ∷ rows) = ap (λ l. name_of r ∷ l) (names-of_receipts rows)

pub found-alone : (rows : List Row) (names : List Identity) (x : Identity) (i : ℕ) (r : Row) → map name_of rows ≡ names → slice_get names i ≡ Some x → ((j : ℕ) → slice_get names j ≡ Some x → Some i ≡ Some j) → i < length rows → r ≡ get_or rows i r → StandsAlone (λ z. same_identity x z.name) (map receipt_of rows) i (receipt_of r)
found-alone rows names x i r named found once l read =
    let N = names-of_receipts rows ∙ named in
    let there = slice_get-map receipt_of rows i ∙ ap (option_map receipt_of) (get-read rows i r l read) in
    alone-by_name (λ z. z.name) (map receipt_of rows) x i (receipt_of r) (ap (λ l. slice_get l i) N ∙ found) (λ j s. once j (ap (λ l. slice_get l j) (sym N) ∙ s)) there

pub found-none : (rows : List Row) (names : List Identity) (x : Identity) (o : Option ℕ) → map name_of rows ≡ names → o ≡ None → ((j : ℕ) → slice_get names j ≡ Some x → o ≡ Some j) → list_any (λ z. same_identity x z.name) (map receipt_of rows) ≡ false
found-none rows names x o named none once =
    let N = names-of_receipts rows ∙ named in
    none-by_name (λ z. z.name) (map receipt_of rows) x o none (λ j s. once j (ap (λ l. slice_get l j) (sym N) ∙ s))
