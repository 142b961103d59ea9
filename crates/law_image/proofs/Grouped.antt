-- The senders of an inbox, with the numbers taken from each.
use Rattle.std.proofs.Common.{◌≡◌, ◌∙◌, sym, ap, subst, refl, ℕ, zero, suc, ◌+◌, ◌<◌, ◌≤◌, Bool, true, false, cond, List, [], ◌∷◌, ◌++◌, length, map, arith, ◌⊎◌, inl, inr}
use Rattle.std.specs.Prelude.{◌&&◌, ◌||◌, ◌==◌, nat_lt, nat_le, filter}
use Rattle.std.specs.List.{list_any, list_all, range_with_len, flat_map}
use Rattle.std.proofs.lemmas.Bool.{and_parts, and_from, or_parts, or_from, cases_eq, ltb-true, lt-ltb, le-ltb, le-leb, leb-true, eq-eqb, ne_eqb}
use Rattle.std.proofs.lemmas.List.{map-append, append-nil}
use Rattle.ic_base.specs.declared.messages.ComId.{ComId}
use Rattle.def_state.specs.Names.{Identity}
use Rattle.def_state.specs.Inbox.{Inbox}
use Rattle.def_state.specs.Image.{identities, is_rising, rises_above, senders_of, taken_from, run_from, sender_bytes, counted}
use Rattle.law_image.proofs.Items.{Part, are_numbers}
use Rattle.law_image.proofs.Places.{Parts}
use Rattle.law_image.proofs.Whole.{taken_by, all_rise}
use Rattle.law_image.proofs.Tests.{rises_parts}
use Rattle.law_image.proofs.Spelled.{part_bytes}

abbrev pub numbers_of : Part → List ℕ
numbers_of s = range_with_len 1 s.1 ++ s.2

abbrev pub group_of : Part → ℕ × List ℕ
group_of s = (s.0.0, numbers_of s)

abbrev pub taken_in : List Part → List Identity
taken_in ps = flat_map taken_by ps

abbrev named : ComId → List ℕ → List Identity
named c ns = map (λ k. record { peer = c; k = k }) ns

abbrev from_com : ℕ → Identity → Bool
from_com c x = x.peer.0 == c

-- the numbers that a component has among the taken identities
abbrev pub numbers_from : List Identity → ℕ → List ℕ
numbers_from taken c = map (λ (x : Identity). x.k) (filter (from_com c) taken)

filter_append : {X : Type 0} (p : X → Bool) (xs ys : List X) → filter p (xs ++ ys) ≡ filter p xs ++ filter p ys
filter_append p [] ys = refl
filter_append p (x ∷ xs) ys = by (p x) (filter_append p xs ys)
  where
    by : (b : Bool) → filter p (xs ++ ys) ≡ filter p xs ++ filter p ys → cond b (x ∷ filter p (xs ++ ys)) (filter p (xs ++ ys)) ≡ cond b (x ∷ filter p xs) (filter p xs) ++ filter p ys
    by true e = ap (λ l. x ∷ l) e
    by false e = e

own_numbers : (c : ℕ) (d : ComId) (ns : List ℕ) → (d.0 == c) ≡ true → numbers_from (named d ns) c ≡ ns
own_numbers c d [] e = refl
own_numbers c d (n ∷ ns) e =
    ap (λ b. map (λ (x : Identity). x.k) (cond b (record { peer = d; k = n } ∷ filter (from_com c) (named d ns)) (filter (from_com c) (named d ns)))) e
    ∙ ap (λ l. n ∷ l) (own_numbers c d ns e)

no_numbers : (c : ℕ) (d : ComId) (ns : List ℕ) → (d.0 == c) ≡ false → numbers_from (named d ns) c ≡ []
no_numbers c d [] e = refl
no_numbers c d (n ∷ ns) e =
    ap (λ b. map (λ (x : Identity). x.k) (cond b (record { peer = d; k = n } ∷ filter (from_com c) (named d ns)) (filter (from_com c) (named d ns)))) e
    ∙ no_numbers c d ns e

from_append : (c : ℕ) (xs ys : List Identity) → numbers_from (xs ++ ys) c ≡ numbers_from xs c ++ numbers_from ys c
from_append c xs ys = ap (map (λ (x : Identity). x.k)) (filter_append (from_com c) xs ys) ∙ map-append (λ (x : Identity). x.k) (filter (from_com c) xs) (filter (from_com c) ys)

from_here : (c : ℕ) (s : Part) (ss : List Part) → (s.0.0 == c) ≡ true → numbers_from (taken_in (s ∷ ss)) c ≡ numbers_of s ++ numbers_from (taken_in ss) c
from_here c s ss e = from_append c (taken_by s) (taken_in ss) ∙ ap (λ l. l ++ numbers_from (taken_in ss) c) (own_numbers c s.0 (numbers_of s) e)

from_elsewhere : (c : ℕ) (s : Part) (ss : List Part) → (s.0.0 == c) ≡ false → numbers_from (taken_in (s ∷ ss)) c ≡ numbers_from (taken_in ss) c
from_elsewhere c s ss e = from_append c (taken_by s) (taken_in ss) ∙ ap (λ l. l ++ numbers_from (taken_in ss) c) (no_numbers c s.0 (numbers_of s) e)

-- none of a component below all senders
from_none : (c : ℕ) (ss : List Part) → list_all (λ (s : Part). nat_lt c s.0.0) ss ≡ true → numbers_from (taken_in ss) c ≡ []
from_none c [] h = refl
from_none c (s ∷ ss) h =
    let parts = and_parts (nat_lt c s.0.0) (list_all (λ (s : Part). nat_lt c s.0.0) ss) h in
    from_elsewhere c s ss (ne_eqb s.0.0 c (λ e. let l = ltb-true c s.0.0 parts.0 in omega arith)) ∙ from_none c ss parts.1

-- the senders that have a number, among n components from a on ------------------------------------------

abbrev has_some : ℕ × List ℕ → Bool
has_some x = nat_lt 0 (length x.1)

abbrev pub is_filled : Part → Bool
is_filled s = nat_lt 0 (length (numbers_of s))

abbrev are_among : ℕ → ℕ → List Part → Bool
are_among a n ss = list_all (λ (s : Part). nat_le a s.0.0 && nat_lt s.0.0 (a + n)) ss

abbrev are_higher : ℕ → List Part → Bool
are_higher a ss = list_all (λ (s : Part). nat_lt a s.0.0) ss

higher_is : (a : ℕ) (ss : List Part) → list_all (λ n. nat_lt a n) (map (λ (s : Part). s.0.0) ss) ≡ are_higher a ss
higher_is a [] = refl
higher_is a (s ∷ ss) = ap (λ b. nat_lt a s.0.0 && b) (higher_is a ss)

among_higher : (a n : ℕ) (ss : List Part) → are_higher a ss ≡ true → are_among a (suc n) ss ≡ true → are_among (a + 1) n ss ≡ true
among_higher a n [] h m = refl
among_higher a n (s ∷ ss) h m =
    let hp = and_parts (nat_lt a s.0.0) (are_higher a ss) h in
    let mp = and_parts (nat_le a s.0.0 && nat_lt s.0.0 (a + suc n)) (are_among a (suc n) ss) m in
    let up = ltb-true a s.0.0 hp.0 in
    let high = ltb-true s.0.0 (a + suc n) (and_parts (nat_le a s.0.0) (nat_lt s.0.0 (a + suc n)) mp.0).1 in
    and_from (nat_le (a + 1) s.0.0 && nat_lt s.0.0 (a + 1 + n)) (are_among (a + 1) n ss) (and_from (nat_le (a + 1) s.0.0) (nat_lt s.0.0 (a + 1 + n)) (le-leb (a + 1) s.0.0 (omega arith)) (lt-ltb s.0.0 (a + 1 + n) (omega arith))) (among_higher a n ss hp.1 mp.1)

-- those behind a rising first one are higher than all below it
higher_behind : (a : ℕ) (s : Part) (ss : List Part) → a < s.0.0 → are_higher s.0.0 ss ≡ true → are_higher a ss ≡ true
higher_behind a s [] l h = refl
higher_behind a s (t ∷ ss) l h =
    let hp = and_parts (nat_lt s.0.0 t.0.0) (are_higher s.0.0 ss) h in
    let up = ltb-true s.0.0 t.0.0 hp.0 in
    and_from (nat_lt a t.0.0) (are_higher a ss) (lt-ltb a t.0.0 (omega arith)) (higher_behind a s ss l hp.1)

-- beside components that have none of these, each sender stands with its numbers
collected : (f : ℕ → List ℕ) (a n : ℕ) (ss : List Part) → is_rising (map (λ s. s.0.0) ss) ≡ true → are_among a n ss ≡ true → list_all is_filled ss ≡ true → ((c : ℕ) → a ≤ c → f c ≡ numbers_from (taken_in ss) c) → filter has_some (map (λ c. (c, f c)) (range_with_len a n)) ≡ map group_of ss
collected f a zero [] r m some is = refl
collected f a zero (s ∷ ss) r m some is =
    let parts = and_parts (nat_le a s.0.0 && nat_lt s.0.0 (a + 0)) (are_among a 0 ss) m in
    let both = and_parts (nat_le a s.0.0) (nat_lt s.0.0 (a + 0)) parts.0 in
    let low = leb-true a s.0.0 both.0 in
    let high = ltb-true s.0.0 (a + 0) both.1 in
    absurd (omega arith)
collected f a (suc n) [] r m some is =
    ap (λ l. cond (nat_lt 0 (length l)) ((a, l) ∷ filter has_some (map (λ c. (c, f c)) (range_with_len (a + 1) n))) (filter has_some (map (λ c. (c, f c)) (range_with_len (a + 1) n)))) (is a (omega arith))
    ∙ collected f (a + 1) n [] refl refl refl (λ c l. is c (omega arith))
collected f a (suc n) (s ∷ ss) r m some is =
    let rp = and_parts (list_all (λ n. nat_lt s.0.0 n) (map (λ s. s.0.0) ss)) (is_rising (map (λ s. s.0.0) ss)) r in
    let higher : are_higher s.0.0 ss ≡ true = sym (higher_is s.0.0 ss) ∙ rp.0 in
    let mp = and_parts (nat_le a s.0.0 && nat_lt s.0.0 (a + suc n)) (are_among a (suc n) ss) m in
    let both = and_parts (nat_le a s.0.0) (nat_lt s.0.0 (a + suc n)) mp.0 in
    let sp = and_parts (is_filled s) (list_all is_filled ss) some in
    by (cases_eq s.0.0 a) higher (leb-true a s.0.0 both.0) (ltb-true s.0.0 (a + suc n) both.1) sp.0
    (λ e. collected f (a + 1) n ss rp.1 (among_higher a n ss (ap (λ z. are_higher z ss) (sym e) ∙ higher) mp.1) sp.1 (λ c l. is c (omega arith) ∙ from_elsewhere c s ss (ne_eqb s.0.0 c (λ q. omega arith))))
    (λ up. collected f (a + 1) n (s ∷ ss) r (among_higher a n (s ∷ ss) (and_from (nat_lt a s.0.0) (are_higher a ss) (lt-ltb a s.0.0 up) (higher_behind a s ss up higher)) m) some (λ c l. is c (omega arith)))
  where
    by : (s.0.0 ≡ a) ⊎ (s.0.0 ≡ a → ⊥) → are_higher s.0.0 ss ≡ true → a ≤ s.0.0 → s.0.0 < a + suc n → is_filled s ≡ true → (s.0.0 ≡ a → filter has_some (map (λ c. (c, f c)) (range_with_len (a + 1) n)) ≡ map group_of ss) → (a < s.0.0 → filter has_some (map (λ c. (c, f c)) (range_with_len (a + 1) n)) ≡ group_of s ∷ map group_of ss)
        → cond (nat_lt 0 (length (f a))) ((a, f a) ∷ filter has_some (map (λ c. (c, f c)) (range_with_len (a + 1) n))) (filter has_some (map (λ c. (c, f c)) (range_with_len (a + 1) n))) ≡ group_of s ∷ map group_of ss
    by (inl e) higher low high filled tail same =
        let P : ℕ → List ℕ → ℕ × List ℕ = λ c l. (c, l) in
        let nothing : numbers_from (taken_in ss) a ≡ [] = ap (numbers_from (taken_in ss)) (sym e) ∙ from_none s.0.0 ss higher in
        let here : f a ≡ numbers_of s = is a (omega arith) ∙ from_here a s ss (eq-eqb s.0.0 a e) ∙ ap (λ l. numbers_of s ++ l) nothing ∙ append-nil (numbers_of s) in
        ap (λ l. cond (nat_lt 0 (length l)) (P a l ∷ filter has_some (map (λ c. (c, f c)) (range_with_len (a + 1) n))) (filter has_some (map (λ c. (c, f c)) (range_with_len (a + 1) n)))) here
        ∙ ap (λ b. cond b (P a (numbers_of s) ∷ filter has_some (map (λ c. (c, f c)) (range_with_len (a + 1) n))) (filter has_some (map (λ c. (c, f c)) (range_with_len (a + 1) n)))) filled
        ∙ ap (λ l. P a (numbers_of s) ∷ l) (tail e)
        ∙ ap (λ c. P c (numbers_of s) ∷ map group_of ss) (sym e)
    by (inr o) higher low high filled tail same =
        let P : ℕ → List ℕ → ℕ × List ℕ = λ c l. (c, l) in
        let up : a < s.0.0 = omega (arith, o) in
        let nothing : f a ≡ [] = is a (omega arith) ∙ from_none a (s ∷ ss) (and_from (nat_lt a s.0.0) (are_higher a ss) (lt-ltb a s.0.0 up) (higher_behind a s ss up higher)) in
        ap (λ l. cond (nat_lt 0 (length l)) (P a l ∷ filter has_some (map (λ c. (c, f c)) (range_with_len (a + 1) n))) (filter has_some (map (λ c. (c, f c)) (range_with_len (a + 1) n)))) nothing
        ∙ same up

abbrev pub only_taken : List Identity → Inbox
only_taken taken = record { taken = taken; receipts = [] }

-- the components are among those that a scenario may have
abbrev pub are_coms : List Part → Bool
are_coms ss = list_all (λ (s : Part). nat_lt s.0.0 32) ss

coms_among : (ss : List Part) → are_coms ss ≡ true → are_among 0 32 ss ≡ true
coms_among [] h = refl
coms_among (s ∷ ss) h =
    let parts = and_parts (nat_lt s.0.0 32) (are_coms ss) h in
    and_from (nat_le 0 s.0.0 && nat_lt s.0.0 (0 + 32)) (are_among 0 32 ss) (and_from (nat_le 0 s.0.0) (nat_lt s.0.0 32) (le-leb 0 s.0.0 (omega arith)) parts.0) (coms_among ss parts.1)

-- the senders of the messages that parts in order give
pub senders_are : (ss : List Part) → is_rising (map (λ s. s.0.0) ss) ≡ true → are_coms ss ≡ true → list_all is_filled ss ≡ true → senders_of (only_taken (taken_in ss)) ≡ map group_of ss
senders_are ss r m some = collected (numbers_from (taken_in ss)) 0 32 ss r (coms_among ss m) some (λ c l. refl)

-- a sender's bound, and its numbers above it ---------------------------------------------------------------

run_range : (a w : ℕ) (ns : List ℕ) → list_all (λ n. nat_lt (a + w + 1) n) ns ≡ true → run_from a (range_with_len (a + 1) w ++ ns) ≡ a + w
run_range a zero [] h = omega arith
run_range a zero (n ∷ ns) h =
    let parts = and_parts (nat_lt (a + 0 + 1) n) (list_all (λ n. nat_lt (a + 0 + 1) n) ns) h in
    let up = ltb-true (a + 0 + 1) n parts.0 in
    ap (λ b. cond b (run_from n ns) a) (ne_eqb n (a + 1) (λ e. omega arith)) ∙ omega arith
run_range a (suc w) ns h =
    let P : ℕ → Type 0 = λ m. list_all (λ n. nat_lt m n) ns ≡ true in
    let same : a + suc w + 1 ≡ a + 1 + w + 1 = omega arith in
    ap (λ b. cond b (run_from (a + 1) (range_with_len (a + 1 + 1) w ++ ns)) a) (eq-eqb (a + 1) (a + 1) refl)
    ∙ run_range (a + 1) w ns (subst P same h)
    ∙ omega arith

filter_all : (q : ℕ → Bool) (ns : List ℕ) → list_all q ns ≡ true → filter q ns ≡ ns
filter_all q [] h = refl
filter_all q (n ∷ ns) h = let parts = and_parts (q n) (list_all q ns) h in ap (λ b. cond b (n ∷ filter q ns) (filter q ns)) parts.0 ∙ ap (λ l. n ∷ l) (filter_all q ns parts.1)

filter_range : (b a w : ℕ) → a + w ≤ b + 1 → filter (λ k. nat_lt b k) (range_with_len a w) ≡ []
filter_range b a zero l = refl
filter_range b a (suc w) l = ap (λ t. cond t (a ∷ filter (λ k. nat_lt b k) (range_with_len (a + 1) w)) (filter (λ k. nat_lt b k) (range_with_len (a + 1) w))) (le-ltb b a (omega arith)) ∙ filter_range b (a + 1) w (omega arith)

above_weaker : (w : ℕ) (ns : List ℕ) → list_all (λ n. nat_lt (w + 1) n) ns ≡ true → list_all (λ n. nat_lt w n) ns ≡ true
above_weaker w [] h = refl
above_weaker w (n ∷ ns) h =
    let parts = and_parts (nat_lt (w + 1) n) (list_all (λ n. nat_lt (w + 1) n) ns) h in
    let m = ltb-true (w + 1) n parts.0 in
    and_from (nat_lt w n) (list_all (λ n. nat_lt w n) ns) (lt-ltb w n (omega arith)) (above_weaker w ns parts.1)

bound_is : (w : ℕ) (ns : List ℕ) → list_all (λ n. nat_lt (w + 1) n) ns ≡ true → run_from 0 (range_with_len 1 w ++ ns) ≡ w
bound_is w ns h =
    let P : ℕ → Type 0 = λ m. list_all (λ n. nat_lt m n) ns ≡ true in
    let same : w + 1 ≡ 0 + w + 1 = omega arith in
    run_range 0 w ns (subst P same h) ∙ omega arith

above_is : (w : ℕ) (ns : List ℕ) → list_all (λ n. nat_lt (w + 1) n) ns ≡ true → filter (λ k. nat_lt w k) (range_with_len 1 w ++ ns) ≡ ns
above_is w ns h =
    filter_append (λ k. nat_lt w k) (range_with_len 1 w) ns
    ∙ ap (λ l. l ++ filter (λ k. nat_lt w k) ns) (filter_range w 1 w (omega arith))
    ∙ filter_all (λ k. nat_lt w k) ns (above_weaker w ns h)

-- what an image has of a sender
abbrev pub part_of : ℕ × List ℕ → Part
part_of x = (record { 0 = x.0 }, run_from 0 x.1, filter (λ k. nat_lt (run_from 0 x.1) k) x.1)

pub part_again : (s : Part) → rises_above (s.1 + 1) s.2 ≡ true → part_of (group_of s) ≡ s
part_again s h =
    let above = (rises_parts (s.1 + 1) s.2 h).0 in
    let bound = bound_is s.1 s.2 above in
    ap (λ w. part s.0 w (filter (λ k. nat_lt w k) (numbers_of s))) bound ∙ ap (λ l. part s.0 s.1 l) (above_is s.1 s.2 above)
  where
    part : ComId → ℕ → List ℕ → Part
    part c w ks = (c, w, ks)

pub parts_again : (ss : List Part) → all_rise ss ≡ true → map part_of (map group_of ss) ≡ ss
parts_again [] h = refl
parts_again (s ∷ ss) h =
    let parts = and_parts (rises_above (s.1 + 1) s.2) (all_rise ss) h in
    ap (λ x. x ∷ map part_of (map group_of ss)) (part_again s parts.0) ∙ ap (λ l. s ∷ l) (parts_again ss parts.1)

-- a part with a number is filled
pub filled_is : (s : Part) → (nat_lt 0 s.1 || nat_lt 0 (length s.2)) ≡ true → is_filled s ≡ true
filled_is s h = by s.1 s.2 h
  where
    by : (w : ℕ) (ks : List ℕ) → (nat_lt 0 w || nat_lt 0 (length ks)) ≡ true → nat_lt 0 (length (range_with_len 1 w ++ ks)) ≡ true
    by zero ks h = h
    by (suc w) ks h = lt-ltb 0 (suc (length (range_with_len 2 w ++ ks))) (omega arith)
