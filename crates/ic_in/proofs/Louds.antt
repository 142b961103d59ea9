-- Where the first receipt stands that has something to tell, and what is left once it is told.
use Rattle.std.proofs.Common.{◌≡◌, ◌∙◌, sym, ap, refl, ℕ, zero, suc, ◌+◌, ◌<◌, ◌≤◌, Bool, true, false, cond, List, [], ◌∷◌, ◌++◌, length, map, get_or, take, drop, arith, Option, Some, None}
use Rattle.std.specs.Prelude.{◌&&◌, not, nat_lt, nat_le, slice_get, slice_set, find, filter, option_map}
use Rattle.std.specs.List.{All, AllWithin, position_or_len, remove}
use Rattle.std.proofs.lemmas.Bool.{and_from, and_left, and_right, and_parts, le-leb, lt-leb, leb-false}
use Rattle.std.proofs.lemmas.List.{get_or_default}
use Rattle.ic_base.specs.declared.messages.Level.{Level}
use Rattle.ic_base.specs.declared.messages.Level.TheVariants.{Taken, Stable, Installed}
use Rattle.def_state.specs.Inbox.{Receipt, rank, level_of, is_loud, told_as, after_ack, keep_if_open, tell_first, ack_of}
use Rattle.ic_index.proofs.Passing.{passing-behind, passing-fewer}
use Rattle.ic_in.specs.declared.inbox.Row.{Row}
use Rattle.ic_in.specs.Views.{receipt_of, is_waiting}

-- loud is forced and waiting
pub loud-is : (forced : ℕ) (r : Receipt) → is_loud forced r ≡ (nat_le r.at forced && is_waiting r)
loud-is forced r = by (nat_le r.at forced) r.covered
  where
    by : (f c : Bool) → (nat_le 2 (rank (cond f (cond c Installed Stable) Taken)) && nat_lt (rank r.told) (rank (cond f (cond c Installed Stable) Taken))) ≡ (f && nat_lt (rank r.told) (cond c 3 2))
    by true true = refl
    by true false = refl
    by false c = refl

not-both : (a b : Bool) → (a && b) ≡ false → a ≡ true → b ≡ false
not-both true b e t = e
not-both false b e t = absurd (cc)

-- none before the i-th is loud, and the i-th is, if there is one
pub first-loud : (forced : ℕ) (rows : List Row) (i : ℕ) → i ≤ length rows → AllWithin (λ r. is_loud forced (receipt_of r) ≡ false) rows 0 i → ((d : Row) → i < length rows → is_loud forced (receipt_of (get_or rows i d)) ≡ true) → i ≡ position_or_len (is_loud forced) (map receipt_of rows)
first-loud forced [] i l before at = omega arith
first-loud forced (r ∷ rows) zero l before at = sym (ap (λ b. cond (not b) (1 + position_or_len (is_loud forced) (map receipt_of rows)) 0) (at r (omega arith)))
first-loud forced (r ∷ rows) (suc i) l before at =
    let here = before 0 r (omega arith) (omega arith) in
    let rest = first-loud forced rows i (omega arith) (λ k d a b. before (suc k) d (omega arith) (omega arith)) (λ d b. at d (omega arith)) in
    omega (arith, ap (λ b. cond (not b) (1 + position_or_len (is_loud forced) (map receipt_of rows)) 0) here)

pub loud-read : (forced : ℕ) (rows : List Row) (i : ℕ) (r : Row) → i < length rows → r ≡ get_or rows i r → r.at ≤ forced → is_waiting (receipt_of r) ≡ true → (d : Row) → is_loud forced (receipt_of (get_or rows i d)) ≡ true
loud-read forced rows i r l read le w d =
    ap (λ z. is_loud forced (receipt_of z)) (get_or_default rows i d r l ∙ sym read)
    ∙ loud-is forced (receipt_of r)
    ∙ and_from (nat_le r.at forced) (is_waiting (receipt_of r)) (le-leb r.at forced le) w

-- a row that isn't waiting, or isn't forced, isn't loud
pub quiet-row : (forced : ℕ) (r : Row) → is_waiting (receipt_of r) ≡ false → is_loud forced (receipt_of r) ≡ false
quiet-row forced r e = loud-is forced (receipt_of r) ∙ and_right (nat_le r.at forced) (is_waiting (receipt_of r)) e

pub later-row : (forced : ℕ) (r : Row) → forced < r.at → is_loud forced (receipt_of r) ≡ false
later-row forced r l = loud-is forced (receipt_of r) ∙ and_left (nat_le r.at forced) (is_waiting (receipt_of r)) (lt-leb r.at forced l)

-- none is loud
pub none-loud : (forced : ℕ) (rs : List Receipt) → position_or_len (is_loud forced) rs ≡ length rs → (find (is_loud forced) rs ≡ None) × (tell_first forced rs ≡ rs)
none-loud forced [] e = (refl, refl)
none-loud forced (r ∷ rs) e = by (is_loud forced r) refl e (none-loud forced rs)
  where
    by : (b : Bool) → is_loud forced r ≡ b → cond (not b) (1 + position_or_len (is_loud forced) rs) 0 ≡ suc (length rs) → (position_or_len (is_loud forced) rs ≡ length rs → (find (is_loud forced) rs ≡ None) × (tell_first forced rs ≡ rs)) → (cond b (Some r) (find (is_loud forced) rs) ≡ None) × (cond b (keep_if_open (after_ack forced r) rs) (r ∷ tell_first forced rs) ≡ r ∷ rs)
    by true is e rest = absurd (omega arith)
    by false is e rest = let both = rest (omega arith) in (both.0, ap (λ l. r ∷ l) both.1)

-- one is, at the place where the first stands
pub one-loud : (forced : ℕ) (rs : List Receipt) (i : ℕ) (r : Receipt) → i ≡ position_or_len (is_loud forced) rs → slice_get rs i ≡ Some r → (find (is_loud forced) rs ≡ Some r) × ((is_loud forced r ≡ true) × (tell_first forced rs ≡ take i rs ++ keep_if_open (after_ack forced r) (drop (suc i) rs)))
one-loud forced [] i r e s = absurd (cc)
one-loud forced (y ∷ ys) i r e s = by (is_loud forced y) i refl e s (λ j f g. one-loud forced ys j r f g)
  where
    by : (b : Bool) (i : ℕ) → is_loud forced y ≡ b → i ≡ cond (not b) (1 + position_or_len (is_loud forced) ys) 0 → slice_get (y ∷ ys) i ≡ Some r → ((j : ℕ) → j ≡ position_or_len (is_loud forced) ys → slice_get ys j ≡ Some r → (find (is_loud forced) ys ≡ Some r) × ((is_loud forced r ≡ true) × (tell_first forced ys ≡ take j ys ++ keep_if_open (after_ack forced r) (drop (suc j) ys)))) → (cond b (Some y) (find (is_loud forced) ys) ≡ Some r) × ((is_loud forced r ≡ true) × (cond b (keep_if_open (after_ack forced y) ys) (y ∷ tell_first forced ys) ≡ take i (y ∷ ys) ++ keep_if_open (after_ack forced r) (drop (suc i) (y ∷ ys))))
    by true zero is e s rest = let same : y ≡ r = cc in (s, (ap (is_loud forced) (sym same) ∙ is, ap (λ z. keep_if_open (after_ack forced z) ys) same))
    by true (suc i) is e s rest = absurd (omega arith)
    by false zero is e s rest = absurd (omega arith)
    by false (suc i) is e s rest = let both = rest i (omega arith) s in (both.0, (both.1.0, ap (λ l. y ∷ l) both.1.1))

-- the level of a loud receipt, and what is left of it
pub loud-level : (forced : ℕ) (r : Receipt) → is_loud forced r ≡ true → level_of forced r ≡ cond r.covered Installed Stable
loud-level forced r e =
    let parts = and_parts (nat_le r.at forced) (is_waiting r) (sym (loud-is forced r) ∙ e) in
    ap (λ b. cond b (cond r.covered Installed Stable) Taken) parts.0

pub after-loud : (forced : ℕ) (r : Receipt) → is_loud forced r ≡ true → after_ack forced r ≡ cond r.covered None (Some (record r { told = Stable }))
after-loud forced r e =
    ap (λ b. cond b (told_as r (level_of forced r)) (Some r)) e
    ∙ ap (told_as r) (loud-level forced r e)
    ∙ by r.covered
  where
    by : (b : Bool) → told_as r (cond b Installed Stable) ≡ cond b None (Some (record r { told = Stable }))
    by true = refl
    by false = refl

set-there : (rs : List Receipt) (i : ℕ) (r new : Receipt) → slice_get rs i ≡ Some r → take i rs ++ new ∷ drop (suc i) rs ≡ slice_set rs i new
set-there [] i r new s = absurd (cc)
set-there (y ∷ ys) zero r new s = refl
set-there (y ∷ ys) (suc i) r new s = ap (λ l. y ∷ l) (set-there ys i r new s)

-- the receipts once the first that has something to tell is told
pub told-first : (forced : ℕ) (rs : List Receipt) (i : ℕ) (r : Receipt) → i ≡ position_or_len (is_loud forced) rs → slice_get rs i ≡ Some r → tell_first forced rs ≡ cond r.covered (remove rs i) (slice_set rs i (record r { told = Stable }))
told-first forced rs i r e s =
    let one = one-loud forced rs i r e s in
    one.1.1
    ∙ ap (λ o. take i rs ++ keep_if_open o (drop (suc i) rs)) (after-loud forced r one.1.0)
    ∙ by r.covered
  where
    by : (b : Bool) → take i rs ++ keep_if_open (cond b None (Some (record r { told = Stable }))) (drop (suc i) rs) ≡ cond b (remove rs i) (slice_set rs i (record r { told = Stable }))
    by true = refl
    by false = set-there rs i r (record r { told = Stable }) s

pub acked-first : (forced : ℕ) (rs : List Receipt) (i : ℕ) (r : Receipt) → i ≡ position_or_len (is_loud forced) rs → slice_get rs i ≡ Some r → option_map (ack_of forced) (find (is_loud forced) rs) ≡ Some (record { name = r.name; level = cond r.covered Installed Stable })
acked-first forced rs i r e s =
    let one = one-loud forced rs i r e s in
    let P : Level → Option _ = λ l. Some (record { name = r.name; level = l }) in
    ap (option_map (ack_of forced)) one.0 ∙ ap P (loud-level forced r one.1.0)

-- a receipt that may not be told yet isn't loud
pub not-loud : (forced quiet : ℕ) (r : Row) → forced < quiet → (is_waiting (receipt_of r) ≡ true → quiet ≤ r.at) → is_loud forced (receipt_of r) ≡ false
not-loud forced quiet r l h = by (is_waiting (receipt_of r)) refl
  where
    by : (b : Bool) → is_waiting (receipt_of r) ≡ b → is_loud forced (receipt_of r) ≡ false
    by true e = let up = h e in later-row forced r (omega arith)
    by false e = quiet-row forced r e

-- where nothing waiting stands up to a position, none is loud
pub quiet-loud : (forced quiet : ℕ) (rows : List Row) → forced < quiet → All (λ r. is_waiting (receipt_of r) ≡ true → quiet ≤ r.at) rows → position_or_len (is_loud forced) (map receipt_of rows) ≡ length (map receipt_of rows)
quiet-loud forced quiet [] l h = refl
quiet-loud forced quiet (r ∷ rows) l h =
    let rest = quiet-loud forced quiet rows l (λ k d b. h (suc k) d (omega arith)) in
    let here = not-loud forced quiet r l (h 0 r (omega arith)) in
    ap (λ b. cond (not b) (1 + position_or_len (is_loud forced) (map receipt_of rows)) 0) here ∙ omega arith

-- where none is loud up to a position, those that wait stand behind it
pub behind-forced : (forced : ℕ) (rows : List Row) → position_or_len (is_loud forced) (map receipt_of rows) ≡ length rows → All (λ r. is_waiting (receipt_of r) ≡ true → forced < r.at) rows
behind-forced forced [] e = λ k d b. absurd (omega arith)
behind-forced forced (r ∷ rows) e = by (is_loud forced (receipt_of r)) refl e (behind-forced forced rows)
  where
    flip : (a b : Bool) → (a && b) ≡ false → b ≡ true → a ≡ false
    flip true b e t = absurd (cc)
    flip false b e t = refl

    by : (b : Bool) → is_loud forced (receipt_of r) ≡ b → cond (not b) (1 + position_or_len (is_loud forced) (map receipt_of rows)) 0 ≡ suc (length rows) → (position_or_len (is_loud forced) (map receipt_of rows) ≡ length rows → All (λ z. is_waiting (receipt_of z) ≡ true → forced < z.at) rows) → All (λ z. is_waiting (receipt_of z) ≡ true → forced < z.at) (r ∷ rows)
    by true is e rest = absurd (omega arith)
    by false is e rest = λ k d b. each k d b
      where
        each : (k : ℕ) (d : Row) → k < suc (length rows) → is_waiting (receipt_of (get_or (r ∷ rows) k d)) ≡ true → forced < (get_or (r ∷ rows) k d).at
        each zero d b w = leb-false r.at forced (flip (nat_le r.at forced) (is_waiting (receipt_of r)) (sym (loud-is forced (receipt_of r)) ∙ is) w)
        each (suc k) d b w = rest (omega arith) k d (omega arith) w

-- no receipt is loud
pub none-passes : (forced quiet : ℕ) (rows : List Row) → forced < quiet → All (λ r. is_waiting (receipt_of r) ≡ true → quiet ≤ r.at) rows → length (filter (is_loud forced) (map receipt_of rows)) ≤ 0
none-passes forced quiet rows l h =
    omega (arith, passing-behind receipt_of (is_loud forced) rows (length rows) (omega arith) (λ k d low high. not-loud forced quiet (get_or rows k d) l (h k d high)))

-- those that are loud wait
pub loud-waits : (forced : ℕ) (r : Receipt) → is_loud forced r ≡ true → is_waiting r ≡ true
loud-waits forced r loud = (and_parts (nat_le r.at forced) (is_waiting r) (sym (loud-is forced r) ∙ loud)).1

pub loud-few : (forced : ℕ) (rs : List Receipt) → length (filter (is_loud forced) rs) ≤ length (filter is_waiting rs)
loud-few forced rs = passing-fewer (is_loud forced) is_waiting (loud-waits forced) rs
