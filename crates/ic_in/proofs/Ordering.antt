-- Identities in order: two lists that rise and have the same members are one.
use Rattle.std.proofs.Common.{◌≡◌, ◌∙◌, sym, ap, refl, ℕ, zero, suc, ◌+◌, ◌<◌, Bool, true, false, cond, List, [], ◌∷◌, ◌++◌, map, arith, Some}
use Rattle.std.specs.Prelude.{◌&&◌, ◌||◌, ◌==◌, nat_lt, filter, is_some}
use Rattle.std.specs.List.{list_any, list_all, range_with_len}
use Rattle.std.proofs.lemmas.Bool.{and_parts, and_from, or_parts, or_from, ltb-true, lt-ltb, eq-eqb, cond_both, both_ways, true_from_ne_false, false_from_ne_true}
use Rattle.std.proofs.lemmas.Bool.Decides.{nat_tests}
use Rattle.ic_base.specs.declared.messages.ComId.{ComId}
use Rattle.ic_base.specs.Programs.{same_com}
use Rattle.def_state.specs.Names.{Identity, Numbers, number_of, same_identity}
use Rattle.def_state.specs.Inbox.{comes_before, insert_identity}
use Rattle.def_state.specs.Image.{identities, is_rising}
use Rattle.ic_index.specs.declared.sorted.Entry.{Entry}
use Rattle.ic_index.specs.Entries.{name_of, value_of, is_in_order}
use Rattle.ic_index.proofs.Identities.{behind-other, other-sym, before-else, before-trans, same-is, same-refl}
use Rattle.ic_index.proofs.Searching.{stands_behind}
use Rattle.ic_in.specs.Taken.{numbers_above, taken_of, is_sender, IsTaken}
use Rattle.ic_in.proofs.Absorbing.{Above}
use Rattle.ic_in.proofs.Recorded.{are_higher, not-behind, com-is}

abbrev pub all_behind : Identity → List Identity → Bool
all_behind x ys = list_all (comes_before x) ys

-- each identity comes before those behind it
abbrev pub rises : List Identity → Bool
rises [] = true
rises (x ∷ xs) = all_behind x xs && rises xs

-- x isn't among those behind it
not-among : (x : Identity) (ys : List Identity) → all_behind x ys ≡ true → list_any (same_identity x) ys ≡ false
not-among x [] h = refl
not-among x (y ∷ ys) h =
    let parts = and_parts (comes_before x y) (all_behind x ys) h in
    or_from (same_identity x y) (list_any (same_identity x) ys) (behind-other y x parts.0) (not-among x ys parts.1)

behind-all : (x y : Identity) (zs : List Identity) → comes_before x y ≡ true → all_behind y zs ≡ true → all_behind x zs ≡ true
behind-all x y [] b h = refl
behind-all x y (z ∷ zs) b h =
    let parts = and_parts (comes_before y z) (all_behind y zs) h in
    and_from (comes_before x z) (all_behind x zs) (before-trans x y z b parts.0) (behind-all x y zs b parts.1)

-- the first of one list stands first in the other
first-same : (x y : Identity) (xs ys : List Identity) → rises (y ∷ ys) ≡ true → list_any (same_identity x) (y ∷ ys) ≡ true → comes_before x y ≡ false
first-same x y xs ys r there = false_from_ne_true (comes_before x y) (λ b.
    let parts = and_parts (all_behind y ys) (rises ys) r in
    let nowhere = not-among x (y ∷ ys) (and_from (comes_before x y) (all_behind x ys) b (behind-all x y ys b parts.0)) in
    both_ways (list_any (same_identity x) (y ∷ ys)) nowhere there)

pub same-rising : (xs ys : List Identity) → rises xs ≡ true → rises ys ≡ true → ((z : Identity) → list_any (same_identity z) xs ≡ list_any (same_identity z) ys) → xs ≡ ys
same-rising [] [] r s h = refl
same-rising [] (y ∷ ys) r s h = absurd (both_ways true (sym (h y ∙ ap (λ b. b || list_any (same_identity y) ys) (same-refl y))) refl)
same-rising (x ∷ xs) [] r s h = absurd (both_ways true (sym (ap (λ b. b || list_any (same_identity x) xs) (same-refl x)) ∙ h x) refl)
same-rising (x ∷ xs) (y ∷ ys) r s h =
    let x-there : list_any (same_identity x) (y ∷ ys) ≡ true = sym (h x) ∙ ap (λ b. b || list_any (same_identity x) xs) (same-refl x) in
    let y-there : list_any (same_identity y) (x ∷ xs) ≡ true = h y ∙ ap (λ b. b || list_any (same_identity y) ys) (same-refl y) in
    let x-not = first-same x y xs ys s x-there in
    let y-not = first-same y x ys xs r y-there in
    let same = true_from_ne_false (same_identity y x) (λ e. both_ways (comes_before y x) y-not (before-else y x x-not e)) in
    let is = same-is y x same in
    let rp = and_parts (all_behind x xs) (rises xs) r in
    let sp = and_parts (all_behind y ys) (rises ys) s in
    let rest = same-rising xs ys rp.1 sp.1 (λ z. tails z (same_identity z x) refl (h z) rp.0 (ap (λ u. all_behind u ys) (sym is) ∙ sp.0) is) in
    ap (λ u. u ∷ xs) (sym is) ∙ ap (λ l. y ∷ l) rest
  where
    tails : (z : Identity) (b : Bool) → same_identity z x ≡ b → (same_identity z x || list_any (same_identity z) xs) ≡ (same_identity z y || list_any (same_identity z) ys) → all_behind x xs ≡ true → all_behind x ys ≡ true → y ≡ x → list_any (same_identity z) xs ≡ list_any (same_identity z) ys
    tails z true e h bx by is =
        let at = same-is z x e in
        ap (λ u. list_any (same_identity u) xs) at ∙ not-among x xs bx ∙ sym (ap (λ u. list_any (same_identity u) ys) at ∙ not-among x ys by)
    tails z false e h bx by is =
        sym (ap (λ b. b || list_any (same_identity z) xs) e) ∙ h ∙ ap (λ u. same_identity z u || list_any (same_identity z) ys) is ∙ ap (λ b. b || list_any (same_identity z) ys) e

-- an insertion ------------------------------------------------------------------------

behind-insert : (z x : Identity) (ys : List Identity) → comes_before z x ≡ true → all_behind z ys ≡ true → all_behind z (insert_identity x ys) ≡ true
behind-insert z x [] b h = and_from (comes_before z x) true b refl
behind-insert z x (y ∷ ys) b h =
    let parts = and_parts (comes_before z y) (all_behind z ys) h in
    cond_both (comes_before x y) (x ∷ y ∷ ys) (y ∷ insert_identity x ys) (λ l. all_behind z l ≡ true)
    (λ _. and_from (comes_before z x) (all_behind z (y ∷ ys)) b h)
    (λ _. and_from (comes_before z y) (all_behind z (insert_identity x ys)) parts.0 (behind-insert z x ys b parts.1))

pub rises-insert : (x : Identity) (ys : List Identity) → rises ys ≡ true → list_any (same_identity x) ys ≡ false → rises (insert_identity x ys) ≡ true
rises-insert x [] r n = refl
rises-insert x (y ∷ ys) r n =
    let parts = and_parts (all_behind y ys) (rises ys) r in
    let news = or_parts (same_identity x y) (list_any (same_identity x) ys) n in
    cond_both (comes_before x y) (x ∷ y ∷ ys) (y ∷ insert_identity x ys) (λ l. rises l ≡ true)
    (λ b. and_from (all_behind x (y ∷ ys)) (rises (y ∷ ys)) (and_from (comes_before x y) (all_behind x ys) b (behind-all x y ys b parts.0)) r)
    (λ b. and_from (all_behind y (insert_identity x ys)) (rises (insert_identity x ys)) (behind-insert y x ys (before-else y x b (other-sym x y news.0)) parts.0) (rises-insert x ys parts.1 news.1))

pub insert-any : (z x : Identity) (ys : List Identity) → list_any (same_identity z) (insert_identity x ys) ≡ (same_identity z x || list_any (same_identity z) ys)
insert-any z x [] = refl
insert-any z x (y ∷ ys) =
    cond_both (comes_before x y) (x ∷ y ∷ ys) (y ∷ insert_identity x ys) (λ l. list_any (same_identity z) l ≡ (same_identity z x || (same_identity z y || list_any (same_identity z) ys)))
    (λ _. refl)
    (λ _. ap (λ b. same_identity z y || b) (insert-any z x ys) ∙ swap (same_identity z y) (same_identity z x) (list_any (same_identity z) ys))
  where
    swap : (a b c : Bool) → (a || (b || c)) ≡ (b || (a || c))
    swap true true c = refl
    swap true false c = refl
    swap false true c = refl
    swap false false c = refl

-- the taken ones rise -----------------------------------------------------------------

all-append : {X : Type 0} (p : X → Bool) (xs ys : List X) → list_all p xs ≡ true → list_all p ys ≡ true → list_all p (xs ++ ys) ≡ true
all-append p [] ys h g = g
all-append p (x ∷ xs) ys h g = let parts = and_parts (p x) (list_all p xs) h in and_from (p x) (list_all p (xs ++ ys)) parts.0 (all-append p xs ys parts.1 g)

-- p holds of each of the first with each of the second
abbrev pub each_before : List Identity → List Identity → Bool
each_before xs ys = list_all (λ x. all_behind x ys) xs

rises-append : (xs ys : List Identity) → rises xs ≡ true → rises ys ≡ true → each_before xs ys ≡ true → rises (xs ++ ys) ≡ true
rises-append [] ys r s h = s
rises-append (x ∷ xs) ys r s h =
    let rp = and_parts (all_behind x xs) (rises xs) r in
    let hp = and_parts (all_behind x ys) (each_before xs ys) h in
    and_from (all_behind x (xs ++ ys)) (rises (xs ++ ys)) (all-append (comes_before x) xs ys rp.0 hp.0) (rises-append xs ys rp.1 s hp.1)

named-behind : (c : ComId) (k : ℕ) (ns : List ℕ) → list_all (λ n. nat_lt k n) ns ≡ true → all_behind (record { peer = c; k = k }) (map (λ n. record { peer = c; k = n }) ns) ≡ true
named-behind c k [] h = refl
named-behind c k (n ∷ ns) h =
    let parts = and_parts (nat_lt k n) (list_all (λ n. nat_lt k n) ns) h in
    and_from (comes_before (record { peer = c; k = k }) (record { peer = c; k = n })) (all_behind (record { peer = c; k = k }) (map (λ n. record { peer = c; k = n }) ns)) (first c k n parts.0) (named-behind c k ns parts.1)
  where
    first : (c : ComId) (k n : ℕ) → nat_lt k n ≡ true → comes_before (record { peer = c; k = k }) (record { peer = c; k = n }) ≡ true
    first c k n h = grind (arith, nat_tests)

pub named-rises : (c : ComId) (ns : List ℕ) → is_rising ns ≡ true → rises (map (λ n. record { peer = c; k = n }) ns) ≡ true
named-rises c [] h = refl
named-rises c (n ∷ ns) h =
    let parts = and_parts (list_all (λ m. nat_lt n m) ns) (is_rising ns) h in
    and_from (all_behind (record { peer = c; k = n }) (map (λ n. record { peer = c; k = n }) ns)) (rises (map (λ n. record { peer = c; k = n }) ns)) (named-behind c n ns parts.0) (named-rises c ns parts.1)

range-above : (b a n : ℕ) → b < a → list_all (λ m. nat_lt b m) (range_with_len a n) ≡ true
range-above b a zero l = refl
range-above b a (suc n) l = and_from (nat_lt b a) (list_all (λ m. nat_lt b m) (range_with_len (a + 1) n)) (lt-ltb b a l) (range-above b (a + 1) n (omega arith))

all-weaker : {X : Type 0} (p q : X → Bool) → ((x : X) → p x ≡ true → q x ≡ true) → (xs : List X) → list_all p xs ≡ true → list_all q xs ≡ true
all-weaker p q w [] h = refl
all-weaker p q w (x ∷ xs) h = let parts = and_parts (p x) (list_all p xs) h in and_from (q x) (list_all q xs) (w x parts.0) (all-weaker p q w xs parts.1)

-- the numbers up to a bound, and rising ones above it
pub range-rises : (a w : ℕ) (ns : List ℕ) → list_all (λ n. nat_lt (a + w) (n + 1)) ns ≡ true → is_rising ns ≡ true → is_rising (range_with_len a w ++ ns) ≡ true
range-rises a zero ns h r = r
range-rises a (suc w) ns h r =
    let up : list_all (λ n. nat_lt a n) ns ≡ true = all-weaker (λ n. nat_lt (a + suc w) (n + 1)) (λ n. nat_lt a n) (λ n l. let m = ltb-true (a + suc w) (n + 1) l in lt-ltb a n (omega arith)) ns h in
    let same : list_all (λ n. nat_lt (a + 1 + w) (n + 1)) ns ≡ true = all-weaker (λ n. nat_lt (a + suc w) (n + 1)) (λ n. nat_lt (a + 1 + w) (n + 1)) (λ n l. let m = ltb-true (a + suc w) (n + 1) l in lt-ltb (a + 1 + w) (n + 1) (omega arith)) ns h in
    and_from (list_all (λ m. nat_lt a m) (range_with_len (a + 1) w ++ ns)) (is_rising (range_with_len (a + 1) w ++ ns)) (all-append (λ m. nat_lt a m) (range_with_len (a + 1) w) ns (range-above a (a + 1) w (omega arith)) up) (range-rises (a + 1) w ns same r)

numbers-behind : (c : ComId) (e : Entry (Unit {0})) (es : Above) → same_com c e.peer ≡ true → stands_behind (name_of e) es ≡ true → list_all (λ n. nat_lt e.k n) (numbers_above es c) ≡ true
numbers-behind c e [] s h = refl
numbers-behind c e (f ∷ es) s h =
    let parts = and_parts (comes_before (name_of e) (name_of f)) (stands_behind (name_of e) es) h in
    by (same_com c f.peer) refl parts.0 (numbers-behind c e es s parts.1)
  where
    above : (c : ComId) (e f : Entry (Unit {0})) → same_com c e.peer ≡ true → same_com c f.peer ≡ true → comes_before (name_of e) (name_of f) ≡ true → nat_lt e.k f.k ≡ true
    above c e f s t b = grind (arith, nat_tests)

    by : (b : Bool) → same_com c f.peer ≡ b → comes_before (name_of e) (name_of f) ≡ true → list_all (λ n. nat_lt e.k n) (numbers_above es c) ≡ true → list_all (λ n. nat_lt e.k n) (map (λ z. z.k) (cond b (f ∷ filter (λ z. same_com c z.peer) es) (filter (λ z. same_com c z.peer) es))) ≡ true
    by true t p rest = and_from (nat_lt e.k f.k) (list_all (λ n. nat_lt e.k n) (numbers_above es c)) (above c e f s t p) rest
    by false t p rest = rest

pub numbers-rise : (c : ComId) (es : Above) → is_in_order es ≡ true → is_rising (numbers_above es c) ≡ true
numbers-rise c [] o = refl
numbers-rise c (e ∷ es) o =
    let parts = and_parts (stands_behind (name_of e) es) (is_in_order es) o in
    by (same_com c e.peer) refl parts.0 (numbers-rise c es parts.1)
  where
    by : (b : Bool) → same_com c e.peer ≡ b → stands_behind (name_of e) es ≡ true → is_rising (numbers_above es c) ≡ true → is_rising (map (λ z. z.k) (cond b (e ∷ filter (λ z. same_com c z.peer) es) (filter (λ z. same_com c z.peer) es))) ≡ true
    by true t h rest = and_from (list_all (λ n. nat_lt e.k n) (numbers_above es c)) (is_rising (numbers_above es c)) (numbers-behind c e es t h) rest
    by false t h rest = rest

-- what holds of each identity that is kept holds of a sender's numbers
pub numbers-all : (q : ℕ → Bool) (c : ComId) (es : Above) → ((k : ℕ) → is_some (value_of es (record { peer = c; k = k })) ≡ true → q k ≡ true) → list_all q (numbers_above es c) ≡ true
numbers-all q c [] h = refl
numbers-all q c (e ∷ es) h = by (same_com c e.peer) refl (h e.k) (numbers-all q c es (λ k s. h k (more k s)))
  where
    more : (k : ℕ) → is_some (value_of es (record { peer = c; k = k })) ≡ true → is_some (value_of (e ∷ es) (record { peer = c; k = k })) ≡ true
    more k s = cond_both (same_identity (record { peer = c; k = k }) (name_of e)) (Some e.value) (value_of es (record { peer = c; k = k })) (λ o. is_some o ≡ true) (λ _. refl) (λ _. s)

    by : (b : Bool) → same_com c e.peer ≡ b → (is_some (value_of (e ∷ es) (record { peer = c; k = e.k })) ≡ true → q e.k ≡ true) → list_all q (numbers_above es c) ≡ true → list_all q (map (λ z. z.k) (cond b (e ∷ filter (λ z. same_com c z.peer) es) (filter (λ z. same_com c z.peer) es))) ≡ true
    by true t here rest = and_from (q e.k) (list_all q (numbers_above es c)) (here (there t)) rest
      where
        there : same_com c e.peer ≡ true → is_some (value_of (e ∷ es) (record { peer = c; k = e.k })) ≡ true
        there t = ap (λ b. is_some (cond b (Some e.value) (value_of es (record { peer = c; k = e.k })))) (and_from (same_com c e.peer) (e.k == e.k) t (eq-eqb e.k e.k refl))
    by false t here rest = rest

-- each sender's identities come before those of the higher ones
peers-higher : (c : ComId) (ss : Numbers) (above : Above) → are_higher c ss ≡ true → list_all (λ (y : Identity). nat_lt c.0 y.peer.0) (taken_of ss above) ≡ true
peers-higher c [] above h = refl
peers-higher c (s ∷ ss) above h =
    let parts = and_parts (nat_lt c.0 s.0.0) (are_higher c ss) h in
    all-append (λ (y : Identity). nat_lt c.0 y.peer.0) (identities s.0 s.1 (numbers_above above s.0)) (taken_of ss above) (each s.0 (range_with_len 1 s.1 ++ numbers_above above s.0) parts.0) (peers-higher c ss above parts.1)
  where
    each : (d : ComId) (ns : List ℕ) → nat_lt c.0 d.0 ≡ true → list_all (λ (y : Identity). nat_lt c.0 y.peer.0) (map (λ k. record { peer = d; k = k }) ns) ≡ true
    each d [] h = refl
    each d (n ∷ ns) h = and_from (nat_lt c.0 d.0) (list_all (λ (y : Identity). nat_lt c.0 y.peer.0) (map (λ k. record { peer = d; k = k }) ns)) h (each d ns h)

chunk-before : (c : ComId) (ns : List ℕ) (ys : List Identity) → list_all (λ (y : Identity). nat_lt c.0 y.peer.0) ys ≡ true → each_before (map (λ k. record { peer = c; k = k }) ns) ys ≡ true
chunk-before c [] ys h = refl
chunk-before c (n ∷ ns) ys h =
    and_from (all_behind (record { peer = c; k = n }) ys) (each_before (map (λ k. record { peer = c; k = k }) ns) ys)
    (all-weaker (λ (y : Identity). nat_lt c.0 y.peer.0) (comes_before (record { peer = c; k = n })) (λ y l. or_true (nat_lt c.0 y.peer.0) _ l) ys h)
    (chunk-before c ns ys h)
  where
    or_true : (a b : Bool) → a ≡ true → (a || b) ≡ true
    or_true a b e = ap (λ z. z || b) e

-- for each sender, its numbers above stand above its bound
abbrev pub are_above : Numbers → Above → Bool
are_above ss above = list_all (λ s. list_all (λ n. nat_lt (1 + s.1) (n + 1)) (numbers_above above s.0)) ss

pub taken-rises : (ss : Numbers) (above : Above) → is_rising (map (λ s. s.0.0) ss) ≡ true → is_in_order above ≡ true → are_above ss above ≡ true → rises (taken_of ss above) ≡ true
taken-rises [] above r o h = refl
taken-rises (s ∷ ss) above r o h =
    let rp = and_parts (are_higher s.0 ss) (is_rising (map (λ s. s.0.0) ss)) r in
    let hp = and_parts (list_all (λ n. nat_lt (1 + s.1) (n + 1)) (numbers_above above s.0)) (are_above ss above) h in
    rises-append (identities s.0 s.1 (numbers_above above s.0)) (taken_of ss above)
    (named-rises s.0 (range_with_len 1 s.1 ++ numbers_above above s.0) (range-rises 1 s.1 (numbers_above above s.0) hp.0 (numbers-rise s.0 above o)))
    (taken-rises ss above rp.1 o hp.1)
    (chunk-before s.0 (range_with_len 1 s.1 ++ numbers_above above s.0) (taken_of ss above) (peers-higher s.0 ss above rp.0))

-- what holds of each sender's bound holds of the pairs
pub bounds-all : (q : ComId → ℕ → Bool) (ss : Numbers) → is_rising (map (λ s. s.0.0) ss) ≡ true → ((c : ComId) → is_sender ss c ≡ true → q c (number_of 0 ss c) ≡ true) → list_all (λ s. q s.0 s.1) ss ≡ true
bounds-all q [] r h = refl
bounds-all q (s ∷ ss) r h =
    let rp = and_parts (are_higher s.0 ss) (is_rising (map (λ s. s.0.0) ss)) r in
    let self : same_com s.0 s.0 ≡ true = eq-eqb s.0.0 s.0.0 refl in
    let here : q s.0 s.1 ≡ true = sym (ap (λ b. q s.0 (cond b s.1 (number_of 0 ss s.0))) self) ∙ h s.0 (ap (λ b. b || is_sender ss s.0) self) in
    and_from (q s.0 s.1) (list_all (λ s. q s.0 s.1) ss) here (bounds-all q ss rp.1 (λ c e. by c (same_com c s.0) refl e rp.0 (h c)))
  where
    by : (c : ComId) (b : Bool) → same_com c s.0 ≡ b → is_sender ss c ≡ true → are_higher s.0 ss ≡ true → ((same_com c s.0 || is_sender ss c) ≡ true → q c (cond (same_com c s.0) s.1 (number_of 0 ss c)) ≡ true) → q c (number_of 0 ss c) ≡ true
    by c true e there up h =
        let absent : is_sender ss c ≡ false = not-behind c ss (ap (λ d. are_higher d ss) (com-is c s.0 e) ∙ up) in
        absurd (both_ways (is_sender ss c) absent there)
    by c false e there up h = sym (ap (λ b. q c (cond b s.1 (number_of 0 ss c))) e) ∙ h (ap (λ b. b || is_sender ss c) e ∙ there)

pub kept-rises : (bounds : Numbers) (above : Above) → IsTaken bounds above → rises (taken_of bounds above) ≡ true
kept-rises bounds above h =
    taken-rises bounds above h.senders h.ordered (
    bounds-all (λ c w. list_all (λ n. nat_lt (1 + w) (n + 1)) (numbers_above above c)) bounds h.senders (λ c _.
    numbers-all (λ n. nat_lt (1 + number_of 0 bounds c) (n + 1)) c above (λ k s. let up = h.higher (record { peer = c; k = k }) s in lt-ltb (1 + number_of 0 bounds c) (k + 1) (omega arith))))
