-- How each edit leaves the rows of an outbox.
use Rattle.std.proofs.Common.{◌≡◌, ◌∙◌, sym, ap, subst, refl, ℕ, zero, suc, ◌+◌, ◌-◌, ◌<◌, ◌≤◌, Bool, true, false, cond, List, [], ◌∷◌, ◌++◌, length, map, get_or, arith, Some, min, ◌⊎◌, inl, inr}
use Rattle.std.specs.Prelude.{nat_lt, slice_get, slice_set}
use Rattle.std.specs.List.{remove, list_any, All, AllWithin}
use Rattle.std.proofs.lemmas.Grind.{common_steps, elements}
use Rattle.std.proofs.lemmas.List.{map-append, length-set, length-map, get_or-set_same, get_or-set_other}
use Rattle.std.proofs.lemmas.Bool.{false_from_ne_true, or_from, ltb-true, ltb-false, cases_eq, both_ways}
use Rattle.std.proofs.lemmas.List.Elements.{All-append, All-weaker, All-set}
use Rattle.ic_base.specs.declared.messages.Msg.{Msg}
use Rattle.def_state.specs.Names.{Identity, same_identity, Numbers, number_of, put_number}
use Rattle.def_state.specs.Vol.{with_put_mark}
use Rattle.ic_index.proofs.Identities.{same-is}
use Rattle.ic_index.proofs.Counting.{number-put_same, number-put_grows}
use Rattle.ic_index.proofs.Reading.{All-one, got-within, got-read, map-remove}
use Rattle.ic_out.specs.declared.outbox.Row.{Row}
use Rattle.ic_out.specs.Views.{name_of, held_of, put_row, IsKept}

-- an identity with a number that wasn't sent is new
pub new-name : (rows : List Row) (links : Numbers) (x : Identity) → All (λ r. r.msg.k ≤ number_of 0 links r.msg.to) rows → number_of 0 links x.peer < x.k → list_any (same_identity x) (map name_of rows) ≡ false
new-name [] links x h l = refl
new-name (r ∷ rows) links x h l =
    let here : r.msg.k ≤ number_of 0 links r.msg.to = h 0 r (omega arith) in
    let other = false_from_ne_true (same_identity x (name_of r)) (λ e. let same = same-is x (name_of r) e in let sent = ap (λ y. number_of 0 links y.peer) same in let number = ap (λ y. y.k) same in omega arith) in
    or_from (same_identity x (name_of r)) (list_any (same_identity x) (map name_of rows)) other (new-name rows links x (λ k d b. h (suc k) d (omega arith)) l)

-- the same of parts that are equal
pub kept-same : (rows as_rows : List Row) (names as_names : List Identity) (links as_links : Numbers) (first as_first quiet as_quiet : ℕ) → as_rows ≡ rows → as_names ≡ names → as_links ≡ links → as_first ≡ first → as_quiet ≡ quiet → IsKept rows names links first quiet → IsKept as_rows as_names as_links as_first as_quiet
kept-same rows as_rows names as_names links as_links first as_first quiet as_quiet r n l f q h =
    let A : List Row → Type 0 = λ z. IsKept z as_names as_links as_first as_quiet in
    let B : List Identity → Type 0 = λ z. IsKept rows z as_links as_first as_quiet in
    let C : Numbers → Type 0 = λ z. IsKept rows names z as_first as_quiet in
    let D : ℕ → Type 0 = λ z. IsKept rows names links z as_quiet in
    let E : ℕ → Type 0 = λ z. IsKept rows names links first z in
    subst A (sym r) (subst B (sym n) (subst C (sym l) (subst D (sym f) (subst E (sym q) h))))

-- a push ------------------------------------------------------------------------------

pub kept-push : (rows : List Row) (names : List Identity) (links : Numbers) (first quiet : ℕ) (r : Row) → IsKept rows names links first quiet → r.put ≡ false → r.msg.k ≡ number_of 0 links r.msg.to + 1 → IsKept (rows ++ r ∷ []) (names ++ name_of r ∷ []) (put_number r.msg.to r.msg.k links) first (min quiet r.at)
kept-push rows names links first quiet r h p e =
    let P : Row → Type 0 = λ z. z.msg.k ≤ number_of 0 links z.msg.to in
    let Q : Row → Type 0 = λ z. z.msg.k ≤ number_of 0 (put_number r.msg.to r.msg.k links) z.msg.to in
    let grows : (z : Row) → P z → Q z = λ z o. let up = number-put_grows r.msg.to z.msg.to r.msg.k links (omega arith) in omega arith in
    let last : Q r = let same = number-put_same r.msg.to r.msg.k links in omega arith in
    record {
      named = map-append name_of rows (r ∷ []) ∙ ap (λ l. l ++ name_of r ∷ []) h.named;
      sent = All-append Q rows (r ∷ []) (All-weaker P Q grows rows h.sent) (All-one Q r last);
      within = grind (arith, common_steps, h.within);
      put = λ k d a b. grind (arith, elements, h.put k d, h.within);
      later = λ k d b n. grind (arith, elements, h.later k d);
    }

-- a mark ------------------------------------------------------------------------------

-- the i-th row is written again with its message and position; it keeps its put mark, or gets it
pub record IsRowMarked (r new : Row) : Type 0 where
  pub msg : new.msg ≡ r.msg
  pub at : new.at ≡ r.at
  pub put : r.put ≡ true → new.put ≡ true
  pub unput : new.put ≡ false → r.put ≡ false

named-set : (rows : List Row) (i : ℕ) (r new : Row) → slice_get rows i ≡ Some r → new.msg ≡ r.msg → map name_of (slice_set rows i new) ≡ map name_of rows
named-set [] i r new g e = absurd (cc)
named-set (y ∷ ys) zero r new g e = let same : y ≡ r = cc in let msgs : new.msg ≡ y.msg = e ∙ ap (λ z. z.msg) (sym same) in ap (λ m. record { peer = m.to; k = m.k } ∷ map name_of ys) msgs
named-set (y ∷ ys) (suc i) r new g e = ap (λ l. name_of y ∷ l) (named-set ys i r new g e)

pub kept-mark : (rows : List Row) (names : List Identity) (links : Numbers) (first quiet i : ℕ) (r new : Row) → IsKept rows names links first quiet → slice_get rows i ≡ Some r → IsRowMarked r new → IsKept (slice_set rows i new) names links first quiet
kept-mark rows names links first quiet i r new h g m =
    let within = got-within rows i r g in
    let read = got-read rows i r g in
    let same : new.msg ≡ (get_or rows i r).msg = m.msg ∙ ap (λ z. z.msg) (sym (read r)) in
    let P : Msg → Type 0 = λ z. z.k ≤ number_of 0 links z.to in
    record {
      named = named-set rows i r new g m.msg ∙ h.named;
      sent = All-set (λ z. z.msg.k ≤ number_of 0 links z.msg.to) rows i new (subst P (sym same) (h.sent i r within)) h.sent;
      within = grind (arith, common_steps, h.within);
      put = λ k d a b. marked-put rows i r new within read m k d (h.put k d a b);
      later = λ k d b n. marked-later rows i r new quiet within read m k d (h.later k d (omega (arith, length-set rows i new))) n;
    }
  where
    marked-put : (rows : List Row) (i : ℕ) (r new : Row) → i < length rows → ((d : Row) → get_or rows i d ≡ r) → IsRowMarked r new → (k : ℕ) (d : Row) → (get_or rows k d).put ≡ true → (get_or (slice_set rows i new) k d).put ≡ true
    marked-put rows i r new within read m k d p = by (cases_eq k i)
      where
        by : (k ≡ i) ⊎ (k ≡ i → ⊥) → (get_or (slice_set rows i new) k d).put ≡ true
        by (inl e) =
            ap (λ n. (get_or (slice_set rows i new) n d).put) e
            ∙ ap (λ z. z.put) (get_or-set_same rows i new d within)
            ∙ m.put (ap (λ z. z.put) (sym (read d)) ∙ ap (λ n. (get_or rows n d).put) (sym e) ∙ p)
        by (inr n) = ap (λ z. z.put) (get_or-set_other rows i k new d n) ∙ p

    marked-later : (rows : List Row) (i : ℕ) (r new : Row) (quiet : ℕ) → i < length rows → ((d : Row) → get_or rows i d ≡ r) → IsRowMarked r new → (k : ℕ) (d : Row) → ((get_or rows k d).put ≡ false → quiet ≤ (get_or rows k d).at) → (get_or (slice_set rows i new) k d).put ≡ false → quiet ≤ (get_or (slice_set rows i new) k d).at
    marked-later rows i r new quiet within read m k d p u = by (cases_eq k i)
      where
        by : (k ≡ i) ⊎ (k ≡ i → ⊥) → quiet ≤ (get_or (slice_set rows i new) k d).at
        by (inl e) =
            let now : get_or (slice_set rows i new) k d ≡ new = ap (λ n. get_or (slice_set rows i new) n d) e ∙ get_or-set_same rows i new d within in
            let was : get_or rows k d ≡ r = ap (λ n. get_or rows n d) e ∙ read d in
            let unput = m.unput (ap (λ z. z.put) (sym now) ∙ u) in
            let bound = p (ap (λ z. z.put) was ∙ unput) in
            let ats : (get_or (slice_set rows i new) k d).at ≡ (get_or rows k d).at = ap (λ z. z.at) now ∙ m.at ∙ ap (λ z. z.at) (sym was) in
            omega arith
        by (inr n) =
            let same : get_or (slice_set rows i new) k d ≡ get_or rows k d = get_or-set_other rows i k new d n in
            let bound = p (ap (λ z. z.put) (sym same) ∙ u) in
            let ats = ap (λ z. z.at) same in
            omega arith

-- the first rows that have their put mark are passed
pub kept-passed : (rows : List Row) (names : List Identity) (links : Numbers) (first quiet next : ℕ) → IsKept rows names links first quiet → next ≤ length rows → AllWithin (λ r. r.put ≡ true) rows 0 next → IsKept rows names links next quiet
kept-passed rows names links first quiet next h l p = record { named = h.named; sent = h.sent; within = l; put = p; later = h.later }

-- nothing without its put mark is due up to a position, so it isn't below the next one
pub kept-quiet : (rows : List Row) (names : List Identity) (links : Numbers) (first quiet later : ℕ) → IsKept rows names links first quiet → All (λ r. r.put ≡ false → later ≤ r.at) rows → IsKept rows names links first later
kept-quiet rows names links first quiet later h l = record { named = h.named; sent = h.sent; within = h.within; put = h.put; later = l }

-- a removal ---------------------------------------------------------------------------

pub kept-remove : (rows : List Row) (names : List Identity) (links : Numbers) (first quiet i : ℕ) → IsKept rows names links first quiet → i < length rows → IsKept (remove rows i) (remove names i) links (cond (nat_lt i first) (first - 1) first) quiet
kept-remove rows names links first quiet i h l = record {
  named = map-remove name_of rows i ∙ ap (λ ns. remove ns i) h.named;
  sent = λ k d b. grind (arith, elements, h.sent k d, h.sent (k + 1) d);
  within = by (nat_lt i first) refl;
  put = λ k d a b. put (nat_lt i first) refl k d b;
  later = λ k d b n. grind (arith, elements, h.later k d, h.later (k + 1) d);
}
  where
    by : (b : Bool) → nat_lt i first ≡ b → cond b (first - 1) first ≤ length (remove rows i)
    by true e = let below = ltb-true i first e in grind (arith, common_steps, elements, h.within)
    by false e = let above = ltb-false i first e in grind (arith, common_steps, elements, h.within)

    put : (b : Bool) → nat_lt i first ≡ b → (k : ℕ) (d : Row) → k < cond b (first - 1) first → (get_or (remove rows i) k d).put ≡ true
    put true e k d below = let under = ltb-true i first e in grind (arith, elements, h.put k d, h.put (k + 1) d, h.within)
    put false e k d below = let above = ltb-false i first e in grind (arith, elements, h.put k d, h.within)

-- every row gets its put mark -----------------------------------------------------------

names-put : (rows : List Row) → map name_of (map put_row rows) ≡ map name_of rows
names-put [] = refl
names-put (r ∷ rows) = ap (λ l. name_of r ∷ l) (names-put rows)

pub held-put : (rows : List Row) → map held_of (map put_row rows) ≡ map with_put_mark (map held_of rows)
held-put [] = refl
held-put (r ∷ rows) = ap (λ l. held_of (put_row r) ∷ l) (held-put rows)

all-put : (P : Row → Type 0) → ((r : Row) → P r → P (put_row r)) → (rows : List Row) → All P rows → All P (map put_row rows)
all-put P keeps [] h k d b = absurd (omega arith)
all-put P keeps (r ∷ rows) h zero d b = keeps r (h 0 r (omega arith))
all-put P keeps (r ∷ rows) h (suc k) d b = all-put P keeps rows (λ j e l. h (suc j) e (omega arith)) k d (omega arith)

put-at : (rows : List Row) (k : ℕ) (d : Row) → k < length rows → (get_or (map put_row rows) k d).put ≡ true
put-at [] k d l = absurd (omega arith)
put-at (r ∷ rows) zero d l = refl
put-at (r ∷ rows) (suc k) d l = put-at rows k d (omega arith)

pub kept-put : (rows : List Row) (names : List Identity) (links : Numbers) (first quiet : ℕ) → IsKept rows names links first quiet → IsKept (map put_row rows) names links (length rows) quiet
kept-put rows names links first quiet h = record {
  named = names-put rows ∙ h.named;
  sent = all-put (λ r. r.msg.k ≤ number_of 0 links r.msg.to) (λ r e. e) rows h.sent;
  within = omega (arith, length-map rows put_row);
  put = λ k d a b. put-at rows k d b;
  later = λ k d b u. absurd (both_ways (get_or (map put_row rows) k d).put u (put-at rows k d (omega (arith, length-map rows put_row))));
}
