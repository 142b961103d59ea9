-- Where the first message stands that is due.
use Rattle.std.proofs.Common.{◌≡◌, ◌∙◌, sym, ap, refl, ℕ, zero, suc, ◌+◌, ◌<◌, ◌≤◌, Bool, true, false, cond, List, [], ◌∷◌, length, map, get_or, arith, Some, None}
use Rattle.std.specs.Prelude.{◌&&◌, not, nat_le, slice_get, slice_set, find, filter}
use Rattle.std.specs.List.{All, AllWithin, position_or_len}
use Rattle.std.proofs.lemmas.Bool.{and_from, and_left, and_right, and_parts, le-leb, lt-leb, leb-false}
use Rattle.std.proofs.lemmas.List.{get_or_default}
use Rattle.def_state.specs.Outbox.{Held, is_due, put_first}
use Rattle.ic_index.proofs.Passing.{passing-behind, passing-fewer}
use Rattle.ic_out.specs.declared.outbox.Row.{Row}
use Rattle.ic_out.specs.Views.{held_of, is_unput}

not-both : (a b : Bool) → (a && b) ≡ false → a ≡ true → b ≡ false
not-both true b e t = e
not-both false b e t = absurd (cc)

-- none before the i-th is due, and the i-th is, if there is one
pub first-due : (forced : ℕ) (rows : List Row) (i : ℕ) → i ≤ length rows → AllWithin (λ r. is_due forced (held_of r) ≡ false) rows 0 i → ((d : Row) → i < length rows → is_due forced (held_of (get_or rows i d)) ≡ true) → i ≡ position_or_len (is_due forced) (map held_of rows)
first-due forced [] i l before at = omega arith
first-due forced (r ∷ rows) zero l before at = sym (ap (λ b. cond (not b) (1 + position_or_len (is_due forced) (map held_of rows)) 0) (at r (omega arith)))
first-due forced (r ∷ rows) (suc i) l before at =
    let here = before 0 r (omega arith) (omega arith) in
    let rest = first-due forced rows i (omega arith) (λ k d a b. before (suc k) d (omega arith) (omega arith)) (λ d b. at d (omega arith)) in
    omega (arith, ap (λ b. cond (not b) (1 + position_or_len (is_due forced) (map held_of rows)) 0) here)

-- a row that is read, has no put mark and is forced, is due
pub due-read : (forced : ℕ) (rows : List Row) (i : ℕ) (r : Row) → i < length rows → r ≡ get_or rows i r → not r.put ≡ true → r.at ≤ forced → (d : Row) → is_due forced (held_of (get_or rows i d)) ≡ true
due-read forced rows i r l read unput le d =
    ap (λ z. is_due forced (held_of z)) (get_or_default rows i d r l ∙ sym read)
    ∙ and_from (not r.put) (nat_le r.at forced) unput (le-leb r.at forced le)

-- none is due
pub none-due : (forced : ℕ) (hs : List Held) → position_or_len (is_due forced) hs ≡ length hs → (find (is_due forced) hs ≡ None) × (put_first forced hs ≡ hs)
none-due forced [] e = (refl, refl)
none-due forced (h ∷ hs) e = by (is_due forced h) refl e (none-due forced hs)
  where
    by : (b : Bool) → is_due forced h ≡ b → cond (not b) (1 + position_or_len (is_due forced) hs) 0 ≡ suc (length hs) → (position_or_len (is_due forced) hs ≡ length hs → (find (is_due forced) hs ≡ None) × (put_first forced hs ≡ hs)) → (cond b (Some h) (find (is_due forced) hs) ≡ None) × (cond b (record h { put = true } ∷ hs) (h ∷ put_first forced hs) ≡ h ∷ hs)
    by true is e rest = absurd (omega arith)
    by false is e rest = let both = rest (omega arith) in (both.0, ap (λ l. h ∷ l) both.1)

-- one is, at the place where the first stands
pub one-due : (forced : ℕ) (hs : List Held) (i : ℕ) (h : Held) → i ≡ position_or_len (is_due forced) hs → slice_get hs i ≡ Some h → (find (is_due forced) hs ≡ Some h) × (put_first forced hs ≡ slice_set hs i (record h { put = true }))
one-due forced [] i h e s = absurd (cc)
one-due forced (y ∷ ys) i h e s = by (is_due forced y) i refl e s (λ j f g. one-due forced ys j h f g)
  where
    by : (b : Bool) (i : ℕ) → is_due forced y ≡ b → i ≡ cond (not b) (1 + position_or_len (is_due forced) ys) 0 → slice_get (y ∷ ys) i ≡ Some h → ((j : ℕ) → j ≡ position_or_len (is_due forced) ys → slice_get ys j ≡ Some h → (find (is_due forced) ys ≡ Some h) × (put_first forced ys ≡ slice_set ys j (record h { put = true }))) → (cond b (Some y) (find (is_due forced) ys) ≡ Some h) × (cond b (record y { put = true } ∷ ys) (y ∷ put_first forced ys) ≡ slice_set (y ∷ ys) i (record h { put = true }))
    by true zero is e s rest = let same : y ≡ h = cc in let P : Held → List Held = λ z. record z { put = true } ∷ ys in (s, ap P same)
    by true (suc i) is e s rest = absurd (omega arith)
    by false zero is e s rest = absurd (omega arith)
    by false (suc i) is e s rest = let both = rest i (omega arith) s in (both.0, ap (λ l. y ∷ l) both.1)

-- a message with its put mark isn't due
pub put-row : (forced : ℕ) (r : Row) → r.put ≡ true → is_due forced (held_of r) ≡ false
put-row forced r e = and_left (not r.put) (nat_le r.at forced) (ap not e)

-- nor is one that may not leave yet
pub not-due : (forced quiet : ℕ) (r : Row) → forced < quiet → (r.put ≡ false → quiet ≤ r.at) → is_due forced (held_of r) ≡ false
not-due forced quiet r l h = by r.put refl
  where
    by : (b : Bool) → r.put ≡ b → is_due forced (held_of r) ≡ false
    by true e = put-row forced r e
    by false e = let up = h e in and_right (not r.put) (nat_le r.at forced) (lt-leb r.at forced (omega arith))

-- where nothing without its put mark stands up to a position, none is due
pub quiet-due : (forced quiet : ℕ) (rows : List Row) → forced < quiet → All (λ r. r.put ≡ false → quiet ≤ r.at) rows → position_or_len (is_due forced) (map held_of rows) ≡ length (map held_of rows)
quiet-due forced quiet [] l h = refl
quiet-due forced quiet (r ∷ rows) l h =
    let rest = quiet-due forced quiet rows l (λ k d b. h (suc k) d (omega arith)) in
    let here = not-due forced quiet r l (h 0 r (omega arith)) in
    ap (λ b. cond (not b) (1 + position_or_len (is_due forced) (map held_of rows)) 0) here ∙ omega arith

-- where none is due up to a position, those without a put mark stand behind it
pub behind-forced : (forced : ℕ) (rows : List Row) → position_or_len (is_due forced) (map held_of rows) ≡ length rows → All (λ r. r.put ≡ false → forced < r.at) rows
behind-forced forced [] e = λ k d b. absurd (omega arith)
behind-forced forced (r ∷ rows) e = by (is_due forced (held_of r)) refl e (behind-forced forced rows)
  where
    by : (b : Bool) → is_due forced (held_of r) ≡ b → cond (not b) (1 + position_or_len (is_due forced) (map held_of rows)) 0 ≡ suc (length rows) → (position_or_len (is_due forced) (map held_of rows) ≡ length rows → All (λ z. z.put ≡ false → forced < z.at) rows) → All (λ z. z.put ≡ false → forced < z.at) (r ∷ rows)
    by true is e rest = absurd (omega arith)
    by false is e rest = λ k d b. each k d b
      where
        here : r.put ≡ false → forced < r.at
        here u = leb-false r.at forced (not-both (not r.put) (nat_le r.at forced) is (ap not u))

        each : (k : ℕ) (d : Row) → k < suc (length rows) → (get_or (r ∷ rows) k d).put ≡ false → forced < (get_or (r ∷ rows) k d).at
        each zero d b u = here u
        each (suc k) d b u = rest (omega arith) k d (omega arith) u

-- no message is due
pub none-passes : (forced quiet : ℕ) (rows : List Row) → forced < quiet → All (λ r. r.put ≡ false → quiet ≤ r.at) rows → length (filter (is_due forced) (map held_of rows)) ≤ 0
none-passes forced quiet rows l h =
    omega (arith, passing-behind held_of (is_due forced) rows (length rows) (omega arith) (λ k d low high. not-due forced quiet (get_or rows k d) l (h k d high)))

-- those that are due have no put mark
pub due-unput : (forced : ℕ) (h : Held) → is_due forced h ≡ true → is_unput h ≡ true
due-unput forced h due = (and_parts (is_unput h) (nat_le h.at forced) due).0

pub due-few : (forced : ℕ) (hs : List Held) → length (filter (is_due forced) hs) ≤ length (filter is_unput hs)
due-few forced hs = passing-fewer (is_due forced) is_unput (due-unput forced) hs
