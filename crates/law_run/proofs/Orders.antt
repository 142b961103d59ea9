-- The taken identities stand in order, and the numbers of links rise.
use Rattle.std.proofs.Common.{◌≡◌, refl, ◌∙◌, ap, sym, subst, ℕ, suc, ◌+◌, ◌<◌, ◌≤◌, ◌^◌, ◌==◌, nat_lt, Bool, true, false, cond, ◌&&◌, ◌||◌, List, [], ◌∷◌, ◌++◌, fold, length, arith}
use Rattle.std.specs.Prelude.{⊤}
use Rattle.std.proofs.lemmas.List.Sums.{fold-append}
use Rattle.std.specs.List.{AllByRecursion, list_any, list_all}
use Rattle.ic_base.specs.declared.messages.ComId.{ComId}
use Rattle.ic_base.specs.declared.messages.Msg.{Msg}
use Rattle.def_log.specs.Spelling.{IsCom}
use Rattle.ic_base.specs.declared.messages.Send.{Send}
use Rattle.ic_base.specs.Programs.{same_com}
use Rattle.def_state.specs.Hist.{links_of, stamp_all}
use Rattle.def_state.specs.Inbox.{comes_before, insert_identity}
use Rattle.def_state.specs.Names.{Identity, Numbers, same_identity, number_of, put_number, count_up}
use Rattle.law_image.specs.Readable.{is_ordered}
use Rattle.law_replay.proofs.Lists.{true-false, front, back, both-true}

-- identities --------------------------------------------------------------------------------------

before-numbers : (a i b j d k : ℕ) → nat_lt a b || ((a == b) && nat_lt i j) ≡ true → nat_lt b d || ((b == d) && nat_lt j k) ≡ true → nat_lt a d || ((a == d) && nat_lt i k) ≡ true
before-numbers a i b j d k x y = grind arith

apart-numbers : (a i b j : ℕ) → nat_lt a b || ((a == b) && nat_lt i j) ≡ false → (a == b) && (i == j) ≡ false → nat_lt b a || ((b == a) && nat_lt j i) ≡ true
apart-numbers a i b j x y = grind arith

before-all : (x y : Identity) (ys : List Identity) → comes_before x y ≡ true → list_all (comes_before y) ys ≡ true → list_all (comes_before x) ys ≡ true
before-all x y [] e h = refl
before-all x y (z ∷ zs) e h =
    both-true (comes_before x z) (list_all (comes_before x) zs) (before-numbers x.peer.0 x.k y.peer.0 y.k z.peer.0 z.k e (front (comes_before y z) (list_all (comes_before y) zs) h)) (before-all x y zs e (back (comes_before y z) (list_all (comes_before y) zs) h))

insert-all : (test : Identity → Bool) (x : Identity) (ys : List Identity) → test x ≡ true → list_all test ys ≡ true → list_all test (insert_identity x ys) ≡ true
insert-all test x [] e h = both-true (test x) true e refl
insert-all test x (y ∷ ys) e h = at (comes_before x y) (insert-all test x ys e (back (test y) (list_all test ys) h))
  where
    at : (b : Bool) → list_all test (insert_identity x ys) ≡ true → list_all test (cond b (x ∷ y ∷ ys) (y ∷ insert_identity x ys)) ≡ true
    at true more = both-true (test x) (test y && list_all test ys) e h
    at false more = both-true (test y) (list_all test (insert_identity x ys)) (front (test y) (list_all test ys) h) more

pub insert-ordered : (x : Identity) (ys : List Identity) → list_any (same_identity x) ys ≡ false → is_ordered ys ≡ true → is_ordered (insert_identity x ys) ≡ true
insert-ordered x [] new h = refl
insert-ordered x (y ∷ ys) new h = at (comes_before x y) refl (insert-ordered x ys (second (same_identity x y) (list_any (same_identity x) ys) new) (back (list_all (comes_before y) ys) (is_ordered ys) h))
  where
    first : (a b : Bool) → a || b ≡ false → a ≡ false
    first true b e = e
    first false b e = refl

    second : (a b : Bool) → a || b ≡ false → b ≡ false
    second true b e = true-false (sym e)
    second false b e = e

    all : list_all (comes_before y) ys ≡ true
    all = front (list_all (comes_before y) ys) (is_ordered ys) h

    at : (b : Bool) → comes_before x y ≡ b → is_ordered (insert_identity x ys) ≡ true → is_ordered (cond b (x ∷ y ∷ ys) (y ∷ insert_identity x ys)) ≡ true
    at true e more = both-true (comes_before x y && list_all (comes_before x) ys) (list_all (comes_before y) ys && is_ordered ys) (both-true (comes_before x y) (list_all (comes_before x) ys) e (before-all x y ys e (front (list_all (comes_before y) ys) (is_ordered ys) h))) h
    at false e more =
        both-true (list_all (comes_before y) (insert_identity x ys)) (is_ordered (insert_identity x ys))
        (insert-all (comes_before y) x ys (apart-numbers x.peer.0 x.k y.peer.0 y.k e (first (same_identity x y) (list_any (same_identity x) ys) new)) (front (list_all (comes_before y) ys) (is_ordered ys) h)) more

-- what is in a list that is put in order was in it
insert-any : (test : Identity → Bool) (x : Identity) (ys : List Identity) → list_any test (insert_identity x ys) ≡ test x || list_any test ys
insert-any test x [] = refl
insert-any test x (y ∷ ys) = at (comes_before x y) (insert-any test x ys)
  where
    turn : (a b d : Bool) → a || (b || d) ≡ b || (a || d)
    turn true true d = refl
    turn true false d = refl
    turn false b d = refl

    at : (b : Bool) → list_any test (insert_identity x ys) ≡ test x || list_any test ys → list_any test (cond b (x ∷ y ∷ ys) (y ∷ insert_identity x ys)) ≡ test x || (test y || list_any test ys)
    at true more = refl
    at false more = ap (λ b. test y || b) more ∙ turn (test y) (test x) (list_any test ys)

abbrev inserted : List Identity → List Identity → List Identity
inserted start xs = fold (λ ys x. insert_identity x ys) start xs

inserted-any : (test : Identity → Bool) (start xs : List Identity) → list_any test (inserted start xs) ≡ list_any test xs || list_any test start
inserted-any test start [] = refl
inserted-any test start (x ∷ xs) = inserted-any test (insert_identity x start) xs ∙ ap (λ b. list_any test xs || b) (insert-any test x start) ∙ turn (list_any test xs) (test x) (list_any test start)
  where
    turn : (a b d : Bool) → a || (b || d) ≡ (b || a) || d
    turn true true d = refl
    turn true false d = refl
    turn false true d = refl
    turn false false d = refl

or-none : (b : Bool) → b || false ≡ b
or-none true = refl
or-none false = refl

pub taken-any : (test : Identity → Bool) (xs : List Identity) → list_any test (inserted [] xs) ≡ list_any test xs
taken-any test xs = inserted-any test [] xs ∙ or-none (list_any test xs)

inserted-all : (P : Identity → Type 0) (start xs : List Identity) → AllByRecursion P start → AllByRecursion P xs → AllByRecursion P (inserted start xs)
inserted-all P start [] h x = h
inserted-all P start (y ∷ ys) h x = inserted-all P (insert_identity y start) ys (put P y start x.0 h) x.1
  where
    put : (P : Identity → Type 0) (y : Identity) (zs : List Identity) → P y → AllByRecursion P zs → AllByRecursion P (insert_identity y zs)
    put P y [] k h = (k, tt)
    put P y (z ∷ zs) k h = at (comes_before y z) (put P y zs k h.1)
      where
        at : (b : Bool) → AllByRecursion P (insert_identity y zs) → AllByRecursion P (cond b (y ∷ z ∷ zs) (z ∷ insert_identity y zs))
        at true more = (k, h)
        at false more = (h.0, more)

pub taken-all : (P : Identity → Type 0) (xs : List Identity) → AllByRecursion P xs → AllByRecursion P (inserted [] xs)
taken-all P xs h = inserted-all P [] xs tt h

-- links -------------------------------------------------------------------------------------------

-- each is of a higher component than those before it
abbrev Above : ComId → Numbers → Type 0
Above c xs = AllByRecursion (λ x. c.0 < x.0.0) xs

Rising : Numbers → Type 0
Rising [] = ⊤
Rising (x ∷ xs) = Above x.0 xs × Rising xs

put-above : (d c : ComId) (n : ℕ) (xs : Numbers) → d.0 < c.0 → Above d xs → Above d (put_number c n xs)
put-above d c n [] lt h = (lt, tt)
put-above d c n (x ∷ xs) lt h = at (same_com c x.0) (nat_lt c.0 x.0.0) (put-above d c n xs lt h.1)
  where
    at : (a b : Bool) → Above d (put_number c n xs) → Above d (cond a ((c, n) ∷ xs) (cond b ((c, n) ∷ x ∷ xs) (x ∷ put_number c n xs)))
    at true b more = (lt, h.1)
    at false true more = (lt, h)
    at false false more = (h.0, more)

above-more : (c d : ComId) (xs : Numbers) → c.0 < d.0 → Above d xs → Above c xs
above-more c d [] lt h = tt
above-more c d (x ∷ xs) lt h = (further c.0 d.0 x.0.0 lt h.0, above-more c d xs lt h.1)
  where
    further : (a b e : ℕ) → a < b → b < e → a < e
    further a b e p q = omega (arith, p, q)

put-rising : (c : ComId) (n : ℕ) (xs : Numbers) → Rising xs → Rising (put_number c n xs)
unfolding Rising
put-rising c n [] h = (tt, tt)
put-rising c n (x ∷ xs) h = at (same_com c x.0) refl (nat_lt c.0 x.0.0) refl (put-rising c n xs h.1)
  where
    equal : (a b : ℕ) → (a == b) ≡ true → a ≡ b
    equal a b e = grind arith

    lower : (a b : ℕ) → nat_lt a b ≡ true → a < b
    lower a b e = grind arith

    higher : (a b : ℕ) → (a == b) ≡ false → nat_lt a b ≡ false → b < a
    higher a b e f = grind arith

    at : (a : Bool) → same_com c x.0 ≡ a → (b : Bool) → nat_lt c.0 x.0.0 ≡ b → Rising (put_number c n xs) → Rising (cond a ((c, n) ∷ xs) (cond b ((c, n) ∷ x ∷ xs) (x ∷ put_number c n xs)))
    at true e b f more = (subst (λ i. AllByRecursion (λ (y : ComId × ℕ). i < y.0.0) xs) (sym (equal c.0 x.0.0 e)) h.0, h.1)
    at false e true f more = ((lower c.0 x.0.0 f, above-more c x.0 xs (lower c.0 x.0.0 f) h.0), h)
    at false e false f more = (put-above x.0 c n xs (higher c.0 x.0.0 e f) h.0, more)

few-above : (a : ℕ) (xs : Numbers) → a ≤ 32 → AllByRecursion (λ x. IsCom x.0) xs → AllByRecursion (λ x. a ≤ x.0.0) xs → Rising xs → length xs + a ≤ 32
unfolding Rising
few-above a [] le coms low rises = omega (arith, le)
few-above a (x ∷ xs) le coms low rises = step (length xs) a x.0.0 (few-above (x.0.0 + 1) xs (next x.0.0 coms.0) coms.1 (lift xs rises.0) rises.1) low.0
  where
    next : (n : ℕ) → n < 32 → n + 1 ≤ 32
    next n h = omega (arith, h)

    step : (n b m : ℕ) → n + (m + 1) ≤ 32 → b ≤ m → suc n + b ≤ 32
    step n b m h k = omega (arith, h, k)

    one : (m n : ℕ) → m < n → m + 1 ≤ n
    one m n h = omega (arith, h)

    lift : (ys : Numbers) → Above x.0 ys → AllByRecursion (λ (y : ComId × ℕ). x.0.0 + 1 ≤ y.0.0) ys
    lift [] h = tt
    lift (y ∷ ys) h = (one x.0.0 y.0.0 h.0, lift ys h.1)

put-all : (P : ComId × ℕ → Type 0) (c : ComId) (n : ℕ) (xs : Numbers) → P (c, n) → AllByRecursion P xs → AllByRecursion P (put_number c n xs)
put-all P c n [] k h = (k, tt)
put-all P c n (x ∷ xs) k h = at (same_com c x.0) (nat_lt c.0 x.0.0) (put-all P c n xs k h.1)
  where
    at : (a b : Bool) → AllByRecursion P (put_number c n xs) → AllByRecursion P (cond a ((c, n) ∷ xs) (cond b ((c, n) ∷ x ∷ xs) (x ∷ put_number c n xs)))
    at true b more = (k, h.1)
    at false true more = (k, h)
    at false false more = (h.0, more)

-- the links of messages are of their receivers
abbrev pub linked : Numbers → List Msg → Numbers
linked start ms = fold (λ links m. count_up m.to links) start ms

linked-all : (P : ComId × ℕ → Type 0) (start : Numbers) (ms : List Msg) → ((c : ComId) (xs : Numbers) → P (c, number_of 0 xs c + 1)) → AllByRecursion P start → AllByRecursion P (linked start ms)
linked-all P start [] k h = h
linked-all P start (m ∷ ms) k h = linked-all P (count_up m.to start) ms k (put-all P m.to (number_of 0 start m.to + 1) start (k m.to start) h)

linked-coms : (start : Numbers) (ms : List Msg) → AllByRecursion (λ m. IsCom m.to) ms → AllByRecursion (λ x. IsCom x.0) start → AllByRecursion (λ x. IsCom x.0) (linked start ms)
linked-coms start [] k h = h
linked-coms start (m ∷ ms) k h = linked-coms (count_up m.to start) ms k.1 (put-all (λ x. IsCom x.0) m.to (number_of 0 start m.to + 1) start k.0 h)

linked-rising : (start : Numbers) (ms : List Msg) → Rising start → Rising (linked start ms)
linked-rising start [] h = h
linked-rising start (m ∷ ms) h = linked-rising (count_up m.to start) ms (put-rising m.to (number_of 0 start m.to + 1) start h)

nothing-rises : Rising []
unfolding Rising
nothing-rises = tt

pub links-few : (ms : List Msg) → AllByRecursion (λ m. IsCom m.to) ms → length (links_of ms) < 2 ^ 8
links-few ms h =
    let le = few-above 0 (links_of ms) (omega arith) (linked-coms [] ms h tt) (low (links_of ms)) (linked-rising [] ms nothing-rises) in
    omega (arith, le)
  where
    low : (xs : Numbers) → AllByRecursion (λ (x : ComId × ℕ). 0 ≤ x.0.0) xs
    low [] = tt
    low (x ∷ xs) = (least x.0.0, low xs)
      where
        least : (n : ℕ) → 0 ≤ n
        least n = omega arith

pub links-coms : (ms : List Msg) → AllByRecursion (λ m. IsCom m.to) ms → AllByRecursion (λ x. IsCom x.0) (links_of ms)
links-coms ms h = linked-coms [] ms h tt

pub links-counted : (ms : List Msg) → AllByRecursion (λ x. 1 ≤ x.1) (links_of ms)
links-counted ms = linked-all (λ x. 1 ≤ x.1) [] ms (λ c xs. least (number_of 0 xs c)) tt
  where
    least : (n : ℕ) → 1 ≤ n + 1
    least n = omega arith

-- no link passes what no message of it passes
pub stamped-low : (limit : ℕ) (c : ComId) (stamp : ℕ) (start : Numbers) (ss : List Send) → AllByRecursion (λ x. x.1 ≤ limit) start → AllByRecursion (λ m. m.k ≤ limit) (stamp_all c stamp start ss) → AllByRecursion (λ x. x.1 ≤ limit) (linked start (stamp_all c stamp start ss))
stamped-low limit c stamp start [] h k = h
stamped-low limit c stamp start (s ∷ ss) h k = stamped-low limit c stamp (count_up s.to start) ss (put-all (λ x. x.1 ≤ limit) s.to (number_of 0 start s.to + 1) start k.0 h) k.1

pub links-more : (ms ns : List Msg) → links_of (ms ++ ns) ≡ linked (links_of ms) ns
links-more ms ns = fold-append (λ links m. count_up m.to links) [] ms ns
