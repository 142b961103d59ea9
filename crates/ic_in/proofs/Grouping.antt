-- The senders of the taken messages with their numbers, as an image has them.
use Rattle.std.proofs.Common.{◌≡◌, ◌∙◌, sym, ap, subst, refl, ℕ, zero, suc, ◌+◌, ◌<◌, ◌≤◌, Bool, true, false, cond, List, [], ◌∷◌, ◌++◌, length, map, get_or, arith, Option, Some, None, ◌⊎◌, inl, inr}
use Rattle.std.specs.Prelude.{◌&&◌, ◌==◌, nat_lt, nat_le, filter, is_some, slice_get, option_map}
use Rattle.std.specs.List.{All, list_any, list_all, range_with_len}
use Rattle.std.proofs.lemmas.Bool.{and_parts, and_from, or_parts, or_from, or_cases, cases_eq, ltb-true, lt-ltb, le-ltb, le-leb, leb-true, eq-eqb, ne_eqb}
use Rattle.std.proofs.lemmas.List.{map-append, append-nil}
use Rattle.std.proofs.lemmas.Option.{slice_get-map}
use Rattle.ic_base.specs.declared.messages.ComId.{ComId}
use Rattle.ic_base.specs.Programs.{same_com}
use Rattle.def_state.specs.Names.{Identity, Numbers, number_of}
use Rattle.def_state.specs.Image.{identities, is_rising, senders_of, run_from}
use Rattle.ic_index.specs.declared.sorted.Entry.{Entry}
use Rattle.ic_index.specs.Entries.{name_of, value_of, is_in_order, count_before}
use Rattle.def_state.specs.Inbox.{comes_before}
use Rattle.ic_index.proofs.Searching.{stands_behind}
use Rattle.std.proofs.lemmas.Bool.Decides.{nat_tests}
use Rattle.ic_in.specs.Taken.{numbers_above, taken_of, is_recorded, IsTaken}
use Rattle.ic_in.specs.Senders.{are_components, only_taken, sender_of, with_bound, with_number, above_bound, number_above}
use Rattle.ic_in.proofs.Absorbing.{Above}
use Rattle.ic_in.proofs.Recorded.{are_higher, any-above}
use Rattle.ic_in.proofs.Ordering.{numbers-all, bounds-all}

-- the numbers of a sender
abbrev pub numbers_of : Above → ComId × ℕ → List ℕ
numbers_of above s = range_with_len 1 s.1 ++ numbers_above above s.0

-- a sender of an image
abbrev pub part_of : Above → ComId × ℕ → ℕ × List ℕ
part_of above s = (s.0.0, numbers_of above s)

-- from one sender's identities -----------------------------------------------------------

filter-append : {X : Type 0} (p : X → Bool) (xs ys : List X) → filter p (xs ++ ys) ≡ filter p xs ++ filter p ys
filter-append p [] ys = refl
filter-append p (x ∷ xs) ys = by (p x) (filter-append p xs ys)
  where
    by : (b : Bool) → filter p (xs ++ ys) ≡ filter p xs ++ filter p ys → cond b (x ∷ filter p (xs ++ ys)) (filter p (xs ++ ys)) ≡ cond b (x ∷ filter p xs) (filter p xs) ++ filter p ys
    by true e = ap (λ l. x ∷ l) e
    by false e = e

own-numbers : (c : ℕ) (d : ComId) (ns : List ℕ) → (d.0 == c) ≡ true → map (λ (x : Identity). x.k) (filter (λ x. x.peer.0 == c) (map (λ k. record { peer = d; k = k }) ns)) ≡ ns
own-numbers c d [] e = refl
own-numbers c d (n ∷ ns) e =
    ap (λ b. map (λ (x : Identity). x.k) (cond b (record { peer = d; k = n } ∷ filter (λ x. x.peer.0 == c) (map (λ k. record { peer = d; k = k }) ns)) (filter (λ x. x.peer.0 == c) (map (λ k. record { peer = d; k = k }) ns)))) e
    ∙ ap (λ l. n ∷ l) (own-numbers c d ns e)

no-numbers : (c : ℕ) (d : ComId) (ns : List ℕ) → (d.0 == c) ≡ false → map (λ (x : Identity). x.k) (filter (λ x. x.peer.0 == c) (map (λ k. record { peer = d; k = k }) ns)) ≡ []
no-numbers c d [] e = refl
no-numbers c d (n ∷ ns) e =
    ap (λ b. map (λ (x : Identity). x.k) (cond b (record { peer = d; k = n } ∷ filter (λ x. x.peer.0 == c) (map (λ k. record { peer = d; k = k }) ns)) (filter (λ x. x.peer.0 == c) (map (λ k. record { peer = d; k = k }) ns)))) e
    ∙ no-numbers c d ns e

-- the numbers that a component has among the taken identities
abbrev pub numbers_from : List Identity → ℕ → List ℕ
numbers_from taken c = map (λ (x : Identity). x.k) (filter (λ x. x.peer.0 == c) taken)

from-chunk : (c : ℕ) (s : ComId × ℕ) (ss : Numbers) (above : Above) (b : Bool) → (s.0.0 == c) ≡ b → numbers_from (taken_of (s ∷ ss) above) c ≡ cond b (numbers_of above s ++ numbers_from (taken_of ss above) c) (numbers_from (taken_of ss above) c)
from-chunk c s ss above true e =
    ap (map (λ (x : Identity). x.k)) (filter-append (λ (x : Identity). x.peer.0 == c) (identities s.0 s.1 (numbers_above above s.0)) (taken_of ss above))
    ∙ map-append (λ (x : Identity). x.k) (filter (λ x. x.peer.0 == c) (identities s.0 s.1 (numbers_above above s.0))) (filter (λ x. x.peer.0 == c) (taken_of ss above))
    ∙ ap (λ l. l ++ numbers_from (taken_of ss above) c) (own-numbers c s.0 (numbers_of above s) e)
from-chunk c s ss above false e =
    ap (map (λ (x : Identity). x.k)) (filter-append (λ (x : Identity). x.peer.0 == c) (identities s.0 s.1 (numbers_above above s.0)) (taken_of ss above))
    ∙ map-append (λ (x : Identity). x.k) (filter (λ x. x.peer.0 == c) (identities s.0 s.1 (numbers_above above s.0))) (filter (λ x. x.peer.0 == c) (taken_of ss above))
    ∙ ap (λ l. l ++ numbers_from (taken_of ss above) c) (no-numbers c s.0 (numbers_of above s) e)

-- none of a component that is no sender
from-none : (c : ℕ) (ss : Numbers) (above : Above) → list_any (λ (s : ComId × ℕ). s.0.0 == c) ss ≡ false → numbers_from (taken_of ss above) c ≡ []
from-none c [] above h = refl
from-none c (s ∷ ss) above h =
    let parts = or_parts (s.0.0 == c) (list_any (λ (s : ComId × ℕ). s.0.0 == c) ss) h in
    from-chunk c s ss above false parts.0 ∙ from-none c ss above parts.1

higher-none : (c : ComId) (ss : Numbers) → are_higher c ss ≡ true → list_any (λ (s : ComId × ℕ). s.0.0 == c.0) ss ≡ false
higher-none c [] h = refl
higher-none c (s ∷ ss) h =
    let parts = and_parts (nat_lt c.0 s.0.0) (are_higher c ss) h in
    or_from (s.0.0 == c.0) (list_any (λ (s : ComId × ℕ). s.0.0 == c.0) ss) (ne_eqb s.0.0 c.0 (λ e. let l = ltb-true c.0 s.0.0 parts.0 in omega arith)) (higher-none c ss parts.1)

higher-get : (c : ComId) (ss : Numbers) → are_higher c ss ≡ true → (k : ℕ) (d : ComId × ℕ) → k < length ss → c.0 < (get_or ss k d).0.0
higher-get c [] h k d l = absurd (omega arith)
higher-get c (s ∷ ss) h zero d l = ltb-true c.0 s.0.0 (and_parts (nat_lt c.0 s.0.0) (are_higher c ss) h).0
higher-get c (s ∷ ss) h (suc k) d l = higher-get c ss (and_parts (nat_lt c.0 s.0.0) (are_higher c ss) h).1 k d (omega arith)

all-parts : {X : Type 0} (p : X → Bool) (xs ys : List X) → list_all p (xs ++ ys) ≡ true → (list_all p xs ≡ true) × (list_all p ys ≡ true)
all-parts p [] ys h = (refl, h)
all-parts p (x ∷ xs) ys h =
    let parts = and_parts (p x) (list_all p (xs ++ ys)) h in
    let rest = all-parts p xs ys parts.1 in
    (and_from (p x) (list_all p xs) parts.0 rest.0, rest.1)

-- the senders that have a number, among n components from a on ------------------------------

abbrev pub has_some : ℕ × List ℕ → Bool
has_some x = nat_lt 0 (length x.1)

-- all of them stand among these components
abbrev pub are_among : ℕ → ℕ → Numbers → Bool
are_among a n ss = list_all (λ (s : ComId × ℕ). nat_le a s.0.0 && nat_lt s.0.0 (a + n)) ss

among-higher : (c : ComId) (a n : ℕ) (ss : Numbers) → a ≤ c.0 → are_higher c ss ≡ true → are_among a (suc n) ss ≡ true → are_among (a + 1) n ss ≡ true
among-higher c a n [] l h m = refl
among-higher c a n (s ∷ ss) l h m =
    let hp = and_parts (nat_lt c.0 s.0.0) (are_higher c ss) h in
    let mp = and_parts (nat_le a s.0.0 && nat_lt s.0.0 (a + suc n)) (are_among a (suc n) ss) m in
    let up = ltb-true c.0 s.0.0 hp.0 in
    let high = ltb-true s.0.0 (a + suc n) (and_parts (nat_le a s.0.0) (nat_lt s.0.0 (a + suc n)) mp.0).1 in
    and_from (nat_le (a + 1) s.0.0 && nat_lt s.0.0 (a + 1 + n)) (are_among (a + 1) n ss) (and_from (nat_le (a + 1) s.0.0) (nat_lt s.0.0 (a + 1 + n)) (le-leb (a + 1) s.0.0 (omega arith)) (lt-ltb s.0.0 (a + 1 + n) (omega arith))) (among-higher c a n ss l hp.1 mp.1)

among-not : (a n : ℕ) (ss : Numbers) → are_among (a + 1) n ss ≡ true → list_any (λ (s : ComId × ℕ). s.0.0 == a) ss ≡ false
among-not a n [] m = refl
among-not a n (s ∷ ss) m =
    let mp = and_parts (nat_le (a + 1) s.0.0 && nat_lt s.0.0 (a + 1 + n)) (are_among (a + 1) n ss) m in
    let low = leb-true (a + 1) s.0.0 (and_parts (nat_le (a + 1) s.0.0) (nat_lt s.0.0 (a + 1 + n)) mp.0).0 in
    or_from (s.0.0 == a) (list_any (λ (s : ComId × ℕ). s.0.0 == a) ss) (ne_eqb s.0.0 a (λ e. omega arith)) (among-not a n ss mp.1)

collected : (above : Above) (f : ℕ → List ℕ) (a n : ℕ) (ss : Numbers) → is_rising (map (λ s. s.0.0) ss) ≡ true → are_among a n ss ≡ true → All (λ s. f s.0.0 ≡ numbers_of above s) ss → All (λ s. nat_lt 0 (length (numbers_of above s)) ≡ true) ss → ((c : ℕ) → a ≤ c → list_any (λ (s : ComId × ℕ). s.0.0 == c) ss ≡ false → f c ≡ []) → filter has_some (map (λ c. (c, f c)) (range_with_len a n)) ≡ map (part_of above) ss
collected above f a zero [] r m own some none = refl
collected above f a zero (s ∷ ss) r m own some none =
    let parts = and_parts (nat_le a s.0.0 && nat_lt s.0.0 (a + 0)) (are_among a 0 ss) m in
    let both = and_parts (nat_le a s.0.0) (nat_lt s.0.0 (a + 0)) parts.0 in
    let low = leb-true a s.0.0 both.0 in
    let high = ltb-true s.0.0 (a + 0) both.1 in
    absurd (omega arith)
collected above f a (suc n) [] r m own some none =
    ap (λ l. cond (nat_lt 0 (length l)) ((a, l) ∷ filter has_some (map (λ c. (c, f c)) (range_with_len (a + 1) n))) (filter has_some (map (λ c. (c, f c)) (range_with_len (a + 1) n)))) (none a (omega arith) refl)
    ∙ collected above f (a + 1) n [] refl refl (λ k d b. absurd (omega arith)) (λ k d b. absurd (omega arith)) (λ c l h. none c (omega arith) h)
collected above f a (suc n) (s ∷ ss) r m own some none =
    let rp = and_parts (are_higher s.0 ss) (is_rising (map (λ s. s.0.0) ss)) r in
    let mp = and_parts (nat_le a s.0.0 && nat_lt s.0.0 (a + suc n)) (are_among a (suc n) ss) m in
    let both = and_parts (nat_le a s.0.0) (nat_lt s.0.0 (a + suc n)) mp.0 in
    let low = leb-true a s.0.0 both.0 in
    let high = ltb-true s.0.0 (a + suc n) both.1 in
    let among = among-higher s.0 a n ss low rp.0 mp.1 in
    by (cases_eq s.0.0 a) low high rp.0 among
    (λ e. collected above f (a + 1) n ss rp.1 among (λ k d b. own (suc k) d (omega arith)) (λ k d b. some (suc k) d (omega arith)) (λ c l h. none c (omega arith) (or_from (s.0.0 == c) (list_any (λ (s : ComId × ℕ). s.0.0 == c) ss) (ne_eqb s.0.0 c (λ q. omega arith)) h)))
    (λ m. collected above f (a + 1) n (s ∷ ss) r m own some (λ c l h. none c (omega arith) h))
  where
    by : (s.0.0 ≡ a) ⊎ (s.0.0 ≡ a → ⊥) → a ≤ s.0.0 → s.0.0 < a + suc n → are_higher s.0 ss ≡ true → are_among (a + 1) n ss ≡ true → (s.0.0 ≡ a → filter has_some (map (λ c. (c, f c)) (range_with_len (a + 1) n)) ≡ map (part_of above) ss) → (are_among (a + 1) n (s ∷ ss) ≡ true → filter has_some (map (λ c. (c, f c)) (range_with_len (a + 1) n)) ≡ part_of above s ∷ map (part_of above) ss) → cond (nat_lt 0 (length (f a))) ((a, f a) ∷ filter has_some (map (λ c. (c, f c)) (range_with_len (a + 1) n))) (filter has_some (map (λ c. (c, f c)) (range_with_len (a + 1) n))) ≡ part_of above s ∷ map (part_of above) ss
    by (inl e) low high up among tail same =
        let tail_is = tail e in
        let here : f a ≡ numbers_of above s = ap f (sym e) ∙ own 0 s (omega arith) in
        let P : ℕ → List ℕ → ℕ × List ℕ = λ c l. (c, l) in
        ap (λ l. cond (nat_lt 0 (length l)) (P a l ∷ filter has_some (map (λ c. (c, f c)) (range_with_len (a + 1) n))) (filter has_some (map (λ c. (c, f c)) (range_with_len (a + 1) n)))) here
        ∙ ap (λ b. cond b (P a (numbers_of above s) ∷ filter has_some (map (λ c. (c, f c)) (range_with_len (a + 1) n))) (filter has_some (map (λ c. (c, f c)) (range_with_len (a + 1) n)))) (some 0 s (omega arith))
        ∙ ap (λ l. P a (numbers_of above s) ∷ l) tail_is
        ∙ ap (λ c. P c (numbers_of above s) ∷ map (part_of above) ss) (sym e)
    by (inr o) low high up among tail same =
        let first = and_from (nat_le (a + 1) s.0.0) (nat_lt s.0.0 (a + 1 + n)) (le-leb (a + 1) s.0.0 (omega arith)) (lt-ltb s.0.0 (a + 1 + n) (omega arith)) in
        let all = and_from (nat_le (a + 1) s.0.0 && nat_lt s.0.0 (a + 1 + n)) (are_among (a + 1) n ss) first among in
        let nothing = none a (omega arith) (among-not a n (s ∷ ss) all) in
        let P : ℕ → List ℕ → ℕ × List ℕ = λ c l. (c, l) in
        ap (λ l. cond (nat_lt 0 (length l)) (P a l ∷ filter has_some (map (λ c. (c, f c)) (range_with_len (a + 1) n))) (filter has_some (map (λ c. (c, f c)) (range_with_len (a + 1) n)))) nothing
        ∙ same all

-- the least number above a bound ------------------------------------------------------------

run-range : (a w : ℕ) (ns : List ℕ) → list_all (λ n. nat_lt (a + w + 1) n) ns ≡ true → run_from a (range_with_len (a + 1) w ++ ns) ≡ a + w
run-range a zero [] h = omega arith
run-range a zero (n ∷ ns) h =
    let parts = and_parts (nat_lt (a + 0 + 1) n) (list_all (λ n. nat_lt (a + 0 + 1) n) ns) h in
    let up = ltb-true (a + 0 + 1) n parts.0 in
    ap (λ b. cond b (run_from n ns) a) (ne_eqb n (a + 1) (λ e. omega arith)) ∙ omega arith
run-range a (suc w) ns h =
    let P : ℕ → Type 0 = λ m. list_all (λ n. nat_lt m n) ns ≡ true in
    let same : a + suc w + 1 ≡ a + 1 + w + 1 = omega arith in
    ap (λ b. cond b (run_from (a + 1) (range_with_len (a + 1 + 1) w ++ ns)) a) (eq-eqb (a + 1) (a + 1) refl)
    ∙ run-range (a + 1) w ns (subst P same h)
    ∙ omega arith

filter-all : (q : ℕ → Bool) (ns : List ℕ) → list_all q ns ≡ true → filter q ns ≡ ns
filter-all q [] h = refl
filter-all q (n ∷ ns) h = let parts = and_parts (q n) (list_all q ns) h in ap (λ b. cond b (n ∷ filter q ns) (filter q ns)) parts.0 ∙ ap (λ l. n ∷ l) (filter-all q ns parts.1)

filter-range : (b a w : ℕ) → a + w ≤ b + 1 → filter (λ k. nat_lt b k) (range_with_len a w) ≡ []
filter-range b a zero l = refl
filter-range b a (suc w) l = ap (λ t. cond t (a ∷ filter (λ k. nat_lt b k) (range_with_len (a + 1) w)) (filter (λ k. nat_lt b k) (range_with_len (a + 1) w))) (le-ltb b a (omega arith)) ∙ filter-range b (a + 1) w (omega arith)

all-weaker : (p q : ℕ → Bool) → ((n : ℕ) → p n ≡ true → q n ≡ true) → (ns : List ℕ) → list_all p ns ≡ true → list_all q ns ≡ true
all-weaker p q w [] h = refl
all-weaker p q w (n ∷ ns) h = let parts = and_parts (p n) (list_all p ns) h in and_from (q n) (list_all q ns) (w n parts.0) (all-weaker p q w ns parts.1)

-- the bound of a sender, and its numbers above it
pub bound-is : (w : ℕ) (ns : List ℕ) → list_all (λ n. nat_lt (w + 1) n) ns ≡ true → run_from 0 (range_with_len 1 w ++ ns) ≡ w
bound-is w ns h =
    let P : ℕ → Type 0 = λ m. list_all (λ n. nat_lt m n) ns ≡ true in
    let same : w + 1 ≡ 0 + w + 1 = omega arith in
    run-range 0 w ns (subst P same h) ∙ omega arith

pub above-is : (w : ℕ) (ns : List ℕ) → list_all (λ n. nat_lt (w + 1) n) ns ≡ true → above_bound (range_with_len 1 w ++ ns) ≡ ns
above-is w ns h =
    ap (λ b. filter (λ k. nat_lt b k) (range_with_len 1 w ++ ns)) (bound-is w ns h)
    ∙ filter-append (λ k. nat_lt w k) (range_with_len 1 w) ns
    ∙ ap (λ l. l ++ filter (λ k. nat_lt w k) ns) (filter-range w 1 w (omega arith))
    ∙ filter-all (λ k. nat_lt w k) ns (all-weaker (λ n. nat_lt (w + 1) n) (λ n. nat_lt w n) (λ n l. let m = ltb-true (w + 1) n l in lt-ltb w n (omega arith)) ns h)

-- the senders of an inbox ---------------------------------------------------------------------

-- one that is kept has its number among the numbers above
some-above : (ns : List ℕ) (k : ℕ) → list_any (λ n. k == n) ns ≡ true → nat_lt 0 (length ns) ≡ true
some-above [] k h = absurd (cc)
some-above (n ∷ ns) k h = lt-ltb 0 (suc (length ns)) (omega arith)

range-some : (w : ℕ) (ns : List ℕ) → 1 ≤ w → nat_lt 0 (length (range_with_len 1 w ++ ns)) ≡ true
range-some zero ns l = absurd (omega arith)
range-some (suc w) ns l = lt-ltb 0 (suc (length (range_with_len 2 w ++ ns))) (omega arith)

behind-some : (w : ℕ) (ns : List ℕ) → nat_lt 0 (length ns) ≡ true → nat_lt 0 (length (range_with_len 1 w ++ ns)) ≡ true
behind-some zero ns h = h
behind-some (suc w) ns h = lt-ltb 0 (suc (length (range_with_len 2 w ++ ns))) (omega arith)

some-of : (bounds : Numbers) (above : Above) (c : ComId) → (k : ℕ) × (is_recorded bounds above (record { peer = c; k = k }) ≡ true) → nat_lt 0 (length (range_with_len 1 (number_of 0 bounds c) ++ numbers_above above c)) ≡ true
some-of bounds above c some = by (or_cases (nat_le 1 some.0 && nat_le some.0 (number_of 0 bounds c)) (is_some (value_of above (record { peer = c; k = some.0 }))) some.1)
  where
    by : ((nat_le 1 some.0 && nat_le some.0 (number_of 0 bounds c)) ≡ true) ⊎ (is_some (value_of above (record { peer = c; k = some.0 })) ≡ true) → nat_lt 0 (length (range_with_len 1 (number_of 0 bounds c) ++ numbers_above above c)) ≡ true
    by (inl low) =
        let parts = and_parts (nat_le 1 some.0) (nat_le some.0 (number_of 0 bounds c)) low in
        let least = leb-true 1 some.0 parts.0 in
        let most = leb-true some.0 (number_of 0 bounds c) parts.1 in
        range-some (number_of 0 bounds c) (numbers_above above c) (omega arith)
    by (inr kept) = behind-some (number_of 0 bounds c) (numbers_above above c) (some-above (numbers_above above c) some.0 (any-above above c some.0 ∙ kept))

from-all : (p : ComId × ℕ → Bool) (ss : Numbers) → list_all p ss ≡ true → All (λ s. p s ≡ true) ss
from-all p [] h k d b = absurd (omega arith)
from-all p (s ∷ ss) h zero d b = (and_parts (p s) (list_all p ss) h).0
from-all p (s ∷ ss) h (suc k) d b = from-all p ss (and_parts (p s) (list_all p ss) h).1 k d (omega arith)

-- each sender's numbers among those taken
own-all : (ss : Numbers) (above : Above) → is_rising (map (λ s. s.0.0) ss) ≡ true → All (λ s. numbers_from (taken_of ss above) s.0.0 ≡ numbers_of above s) ss
own-all [] above r k d b = absurd (omega arith)
own-all (s ∷ ss) above r zero d b =
    let rp = and_parts (are_higher s.0 ss) (is_rising (map (λ s. s.0.0) ss)) r in
    from-chunk s.0.0 s ss above true (eq-eqb s.0.0 s.0.0 refl)
    ∙ ap (λ l. numbers_of above s ++ l) (from-none s.0.0 ss above (higher-none s.0 ss rp.0))
    ∙ append-nil (numbers_of above s)
own-all (s ∷ ss) above r (suc k) d b =
    let rp = and_parts (are_higher s.0 ss) (is_rising (map (λ s. s.0.0) ss)) r in
    let up = higher-get s.0 ss rp.0 k d (omega arith) in
    from-chunk (get_or ss k d).0.0 s ss above false (ne_eqb s.0.0 (get_or ss k d).0.0 (λ e. omega arith))
    ∙ own-all ss above rp.1 k d (omega arith)

-- the taken identities are of components, so the senders are
peers-among : (ss : Numbers) (above : Above) → are_components (taken_of ss above) ≡ true → All (λ s. nat_lt 0 (length (numbers_of above s)) ≡ true) ss → are_among 0 32 ss ≡ true
peers-among [] above h some = refl
peers-among (s ∷ ss) above h some =
    let parts = all-parts (λ (x : Identity). nat_lt x.peer.0 32) (identities s.0 s.1 (numbers_above above s.0)) (taken_of ss above) h in
    let here = first-peer s.0 (numbers_of above s) (some 0 s (omega arith)) parts.0 in
    and_from (nat_le 0 s.0.0 && nat_lt s.0.0 (0 + 32)) (are_among 0 32 ss) (and_from (nat_le 0 s.0.0) (nat_lt s.0.0 (0 + 32)) (le-leb 0 s.0.0 (omega arith)) here) (peers-among ss above parts.1 (λ k d b. some (suc k) d (omega arith)))
  where
    first-peer : (c : ComId) (ns : List ℕ) → nat_lt 0 (length ns) ≡ true → list_all (λ (x : Identity). nat_lt x.peer.0 32) (map (λ k. record { peer = c; k = k }) ns) ≡ true → nat_lt c.0 32 ≡ true
    first-peer c [] l h = absurd (let no = ltb-true 0 0 l in omega arith)
    first-peer c (n ∷ ns) l h = (and_parts (nat_lt c.0 32) (list_all (λ (x : Identity). nat_lt x.peer.0 32) (map (λ k. record { peer = c; k = k }) ns)) h).0

some-all : (bounds : Numbers) (above : Above) → IsTaken bounds above → All (λ s. nat_lt 0 (length (numbers_of above s)) ≡ true) bounds
some-all bounds above h = from-all (λ s. nat_lt 0 (length (numbers_of above s))) bounds (bounds-all (λ c w. nat_lt 0 (length (range_with_len 1 w ++ numbers_above above c))) bounds h.senders (λ c e. some-of bounds above c (h.filled c e)))

pub senders-are : (bounds : Numbers) (above : Above) → IsTaken bounds above → are_components (taken_of bounds above) ≡ true → senders_of (only_taken (taken_of bounds above)) ≡ map (part_of above) bounds
senders-are bounds above h c =
    let some = some-all bounds above h in
    collected above (numbers_from (taken_of bounds above)) 0 32 bounds h.senders (peers-among bounds above c some) (own-all bounds above h.senders) some (λ n l e. from-none n bounds above e)

pub sender-at : (bounds : Numbers) (above : Above) (i : ℕ) → IsTaken bounds above → are_components (taken_of bounds above) ≡ true → sender_of (taken_of bounds above) i ≡ option_map (part_of above) (slice_get bounds i)
unfolding sender_of
sender-at bounds above i h c = ap (λ l. slice_get l i) (senders-are bounds above h c) ∙ slice_get-map (part_of above) bounds i

from-get : {X : Type 0} (p : X → Bool) (xs : List X) (i : ℕ) (x : X) → list_all p xs ≡ true → slice_get xs i ≡ Some x → p x ≡ true
from-get p [] i x h s = absurd (cc)
from-get p (y ∷ ys) zero x h s = let same : y ≡ x = cc in ap p (sym same) ∙ (and_parts (p y) (list_all p ys) h).0
from-get p (y ∷ ys) (suc i) x h s = from-get p ys i x (and_parts (p y) (list_all p ys) h).1 s

-- the numbers above a sender's bound stand behind the one that is missing
numbers-high : (bounds : Numbers) (above : Above) (i : ℕ) (s : ComId × ℕ) → IsTaken bounds above → slice_get bounds i ≡ Some s → list_all (λ n. nat_lt (s.1 + 1) n) (numbers_above above s.0) ≡ true
numbers-high bounds above i s h at =
    from-get (λ (s : ComId × ℕ). list_all (λ n. nat_lt (s.1 + 1) n) (numbers_above above s.0)) bounds i s (
    bounds-all (λ c w. list_all (λ n. nat_lt (w + 1) n) (numbers_above above c)) bounds h.senders (λ c _.
    numbers-all (λ n. nat_lt (number_of 0 bounds c + 1) n) c above (λ k e. lt-ltb (number_of 0 bounds c + 1) k (h.higher (record { peer = c; k = k }) e)))
    ) at

-- a sender with its bound
pub bound-at : (bounds : Numbers) (above : Above) (i : ℕ) (o : Option (ComId × ℕ)) → o ≡ slice_get bounds i → IsTaken bounds above → are_components (taken_of bounds above) ≡ true → with_number o ≡ with_bound (sender_of (taken_of bounds above) i)
bound-at bounds above i None e h c = sym (ap with_bound (sender-at bounds above i h c ∙ ap (option_map (part_of above)) (sym e)))
bound-at bounds above i (Some s) e h c =
    let P : ℕ → Option (ℕ × ℕ) = λ w. Some (s.0.0, w) in
    ap P (sym (bound-is s.1 (numbers_above above s.0) (numbers-high bounds above i s h (sym e))))
    ∙ sym (ap with_bound (sender-at bounds above i h c ∙ ap (option_map (part_of above)) (sym e)))

-- a number above it
pub above-none : (bounds : Numbers) (above : Above) (i j : ℕ) → None ≡ slice_get bounds i → IsTaken bounds above → are_components (taken_of bounds above) ≡ true → None ≡ number_above (sender_of (taken_of bounds above) i) j
above-none bounds above i j e h c = sym (ap (λ o. number_above o j) (sender-at bounds above i h c ∙ ap (option_map (part_of above)) (sym e)))

pub above-some : (bounds : Numbers) (above : Above) (i j : ℕ) (s : ComId × ℕ) → Some s ≡ slice_get bounds i → IsTaken bounds above → are_components (taken_of bounds above) ≡ true → number_above (sender_of (taken_of bounds above) i) j ≡ slice_get (numbers_above above s.0) j
above-some bounds above i j s e h c =
    ap (λ o. number_above o j) (sender-at bounds above i h c ∙ ap (option_map (part_of above)) (sym e))
    ∙ ap (λ l. slice_get l j) (above-is s.1 (numbers_above above s.0) (numbers-high bounds above i s h (sym e)))

-- it stands so many places behind the first entry of the sender
abbrev pub number_if : ComId → Option (Entry (Unit {0})) → Option ℕ
number_if c None = None
number_if c (Some e) = cond (same_com c e.peer) (Some e.k) None

-- behind an entry of the sender's all are its numbers, until they are another's
numbers-from_here : (c : ComId) (es : Above) (j : ℕ) → is_in_order es ≡ true → list_all (λ (e : Entry (Unit {0})). nat_le c.0 e.peer.0) es ≡ true → slice_get (numbers_above es c) j ≡ number_if c (slice_get es j)
numbers-from_here c [] j o h = refl
numbers-from_here c (e ∷ es) j o h =
    let op = and_parts (stands_behind (name_of e) es) (is_in_order es) o in
    let hp = and_parts (nat_le c.0 e.peer.0) (list_all (λ (e : Entry (Unit {0})). nat_le c.0 e.peer.0) es) h in
    by (same_com c e.peer) j refl op.0 hp.0 (λ i. numbers-from_here c es i op.1 hp.1)
  where
    higher : (e f : Entry (Unit {0})) → comes_before (name_of e) (name_of f) ≡ true → nat_lt c.0 e.peer.0 ≡ true → same_com c f.peer ≡ false
    higher e f b l = grind (arith, nat_tests)

    nothing : (fs : Above) (i : ℕ) → nat_lt c.0 e.peer.0 ≡ true → stands_behind (name_of e) fs ≡ true → (slice_get (numbers_above fs c) i ≡ None) × (number_if c (slice_get fs i) ≡ None)
    nothing [] i l h = (refl, refl)
    nothing (f ∷ fs) i l h =
        let parts = and_parts (comes_before (name_of e) (name_of f)) (stands_behind (name_of e) fs) h in
        let other = higher e f parts.0 l in
        (ap (λ b. slice_get (map (λ z. z.k) (cond b (f ∷ filter (λ z. same_com c z.peer) fs) (filter (λ z. same_com c z.peer) fs))) i) other ∙ (nothing fs i l parts.1).0, at i other (λ n. (nothing fs n l parts.1).1))
      where
        at : (i : ℕ) → same_com c f.peer ≡ false → ((n : ℕ) → number_if c (slice_get fs n) ≡ None) → number_if c (slice_get (f ∷ fs) i) ≡ None
        at zero other rest = ap (λ b. cond b (Some f.k) None) other
        at (suc i) other rest = rest i

    above_it : (a b : ℕ) → (a == b) ≡ false → nat_le a b ≡ true → nat_lt a b ≡ true
    above_it a b n l = grind (arith, nat_tests)

    by : (b : Bool) (j : ℕ) → same_com c e.peer ≡ b → stands_behind (name_of e) es ≡ true → nat_le c.0 e.peer.0 ≡ true → ((i : ℕ) → slice_get (numbers_above es c) i ≡ number_if c (slice_get es i)) → slice_get (map (λ z. z.k) (cond b (e ∷ filter (λ z. same_com c z.peer) es) (filter (λ z. same_com c z.peer) es))) j ≡ number_if c (slice_get (e ∷ es) j)
    by true zero s up le rest = sym (ap (λ b. cond b (Some e.k) None) s)
    by true (suc j) s up le rest = rest j
    by false zero s up le rest = (nothing es 0 (above_it c.0 e.peer.0 s le) up).0 ∙ sym (ap (λ b. cond b (Some e.k) None) s)
    by false (suc j) s up le rest = (nothing es (suc j) (above_it c.0 e.peer.0 s le) up).0 ∙ sym (nothing es j (above_it c.0 e.peer.0 s le) up).1

pub number-at : (c : ComId) (es : Above) (first j : ℕ) → is_in_order es ≡ true → first ≡ count_before (record { peer = c; k = 0 }) es → slice_get (numbers_above es c) j ≡ number_if c (slice_get es (first + j))
number-at c [] first j o e = refl
number-at c (f ∷ es) zero j o e =
    let P : ℕ → Type 0 = λ n. slice_get (numbers_above (f ∷ es) c) j ≡ number_if c (slice_get (f ∷ es) n) in
    let same : j ≡ 0 + j = omega arith in
    subst P same (numbers-from_here c (f ∷ es) j o (all-from_first f es o (first-not f es e)))
  where
    first-not : (f : Entry (Unit {0})) (es : Above) → 0 ≡ count_before (record { peer = c; k = 0 }) (f ∷ es) → nat_le c.0 f.peer.0 ≡ true
    first-not f es e = by (comes_before (name_of f) (record { peer = c; k = 0 })) refl e
      where
        not_lower : (f : Entry (Unit {0})) → comes_before (name_of f) (record { peer = c; k = 0 }) ≡ false → nat_le c.0 f.peer.0 ≡ true
        not_lower f n = grind (arith, nat_tests)

        by : (b : Bool) → comes_before (name_of f) (record { peer = c; k = 0 }) ≡ b → 0 ≡ cond b (1 + count_before (record { peer = c; k = 0 }) es) 0 → nat_le c.0 f.peer.0 ≡ true
        by true is e = absurd (omega arith)
        by false is e = not_lower f is

    behind-le : (f g : Entry (Unit {0})) → nat_le c.0 f.peer.0 ≡ true → comes_before (name_of f) (name_of g) ≡ true → nat_le c.0 g.peer.0 ≡ true
    behind-le f g l b = grind (arith, nat_tests)

    all-behind_le : (f : Entry (Unit {0})) (gs : Above) → nat_le c.0 f.peer.0 ≡ true → stands_behind (name_of f) gs ≡ true → list_all (λ (e : Entry (Unit {0})). nat_le c.0 e.peer.0) gs ≡ true
    all-behind_le f [] l h = refl
    all-behind_le f (g ∷ gs) l h =
        let parts = and_parts (comes_before (name_of f) (name_of g)) (stands_behind (name_of f) gs) h in
        and_from (nat_le c.0 g.peer.0) (list_all (λ (e : Entry (Unit {0})). nat_le c.0 e.peer.0) gs) (behind-le f g l parts.0) (all-behind_le f gs l parts.1)

    all-from_first : (f : Entry (Unit {0})) (es : Above) → is_in_order (f ∷ es) ≡ true → nat_le c.0 f.peer.0 ≡ true → list_all (λ (e : Entry (Unit {0})). nat_le c.0 e.peer.0) (f ∷ es) ≡ true
    all-from_first f es o l = and_from (nat_le c.0 f.peer.0) (list_all (λ (e : Entry (Unit {0})). nat_le c.0 e.peer.0) es) l (all-behind_le f es l (and_parts (stands_behind (name_of f) es) (is_in_order es) o).0)
number-at c (f ∷ es) (suc first) j o e =
    let op = and_parts (stands_behind (name_of f) es) (is_in_order es) o in
    by (comes_before (name_of f) (record { peer = c; k = 0 })) refl e (number-at c es first j op.1)
  where
    lower : (f : Entry (Unit {0})) → comes_before (name_of f) (record { peer = c; k = 0 }) ≡ true → same_com c f.peer ≡ false
    lower f b = grind (arith, nat_tests)

    by : (b : Bool) → comes_before (name_of f) (record { peer = c; k = 0 }) ≡ b → suc first ≡ cond b (1 + count_before (record { peer = c; k = 0 }) es) 0 → (first ≡ count_before (record { peer = c; k = 0 }) es → slice_get (numbers_above es c) j ≡ number_if c (slice_get es (first + j))) → slice_get (numbers_above (f ∷ es) c) j ≡ number_if c (slice_get (f ∷ es) (suc first + j))
    by true is e rest =
        let P : ℕ → Option ℕ = λ n. number_if c (slice_get (f ∷ es) n) in
        let next : suc (first + j) ≡ suc first + j = omega arith in
        ap (λ b. slice_get (map (λ z. z.k) (cond b (f ∷ filter (λ z. same_com c z.peer) es) (filter (λ z. same_com c z.peer) es))) j) (lower f is) ∙ rest (omega arith) ∙ ap P next
    by false is e rest = absurd (omega arith)

pub above-at : (bounds : Numbers) (above : Above) (i j first : ℕ) (s : ComId × ℕ) → Some s ≡ slice_get bounds i → IsTaken bounds above → first ≡ count_before (record { peer = s.0; k = 0 }) above → are_components (taken_of bounds above) ≡ true → number_above (sender_of (taken_of bounds above) i) j ≡ number_if s.0 (slice_get above (first + j))
above-at bounds above i j first s e h f c = above-some bounds above i j s e h c ∙ number-at s.0 above first j h.ordered f
