-- Numbers that rise: of the links of messages, of the messages on a link, and of outputs.
use Rattle.std.proofs.Common.{◌≡◌, refl, ◌∙◌, ap, sym, subst, ℕ, ◌+◌, ◌<◌, ◌==◌, nat_le, nat_lt, Bool, true, false, cond, ◌&&◌, List, [], ◌∷◌, ◌++◌, map, filter, arith}
use Rattle.std.specs.List.{AllByRecursion, list_all}
use Rattle.std.proofs.lemmas.List.{append-nil, append_assoc, map-append}
use Rattle.std.proofs.lemmas.List.Elements.{filter-append}
use Rattle.std.proofs.lemmas.List.Folds.{list_all-append}
use Rattle.ic_base.specs.declared.messages.ComId.{ComId}
use Rattle.ic_base.specs.declared.messages.Msg.{Msg}
use Rattle.ic_base.specs.declared.messages.Out.{Out}
use Rattle.ic_base.specs.declared.messages.Send.{Send}
use Rattle.ic_base.specs.Programs.{same_com}
use Rattle.def_state.specs.Hist.{links_of, number_outputs, stamp_all}
use Rattle.def_state.specs.Image.{is_rising}
use Rattle.def_state.specs.Names.{Numbers, number_of, put_number, count_up}
use Rattle.law_run.proofs.Orders.{linked}
use Rattle.law_replay.proofs.Lists.{front, back, both-true, same-com}
use Rattle.law_replay.proofs.Numbers.{put-same, put-other}

-- tests -------------------------------------------------------------------------------------------

further : (test other : ℕ → Bool) → ((n : ℕ) → test n ≡ true → other n ≡ true) → (ns : List ℕ) → list_all test ns ≡ true → list_all other ns ≡ true
further test other f [] h = refl
further test other f (n ∷ ns) h = both-true (other n) (list_all other ns) (f n (front (test n) (list_all test ns) h)) (further test other f ns (back (test n) (list_all test ns) h))

all-push : (test : ℕ → Bool) (ns : List ℕ) (n : ℕ) → list_all test ns ≡ true → test n ≡ true → list_all test (ns ++ n ∷ []) ≡ true
all-push test ns n h k = list_all-append test ns (n ∷ []) ∙ both-true (list_all test ns) (test n && true) h (both-true (test n) true k refl)

-- one more, above all
rising-push : (ns : List ℕ) (n : ℕ) → is_rising ns ≡ true → list_all (λ m. nat_lt m n) ns ≡ true → is_rising (ns ++ n ∷ []) ≡ true
rising-push [] n h k = refl
rising-push (m ∷ ns) n h k =
    both-true (list_all (λ j. nat_lt m j) (ns ++ n ∷ [])) (is_rising (ns ++ n ∷ [])) (all-push (λ j. nat_lt m j) ns n (front (list_all (λ j. nat_lt m j) ns) (is_rising ns) h) (front (nat_lt m n) (list_all (λ j. nat_lt j n) ns) k))
    (rising-push ns n (back (list_all (λ j. nat_lt m j) ns) (is_rising ns) h) (back (nat_lt m n) (list_all (λ j. nat_lt j n) ns) k))

-- outputs -----------------------------------------------------------------------------------------

numbers-above : (b a : ℕ) (os : List Out) → b < a → list_all (λ m. nat_lt b m) (map (λ o. o.m) (number_outputs a os)) ≡ true
numbers-above b a [] lt = refl
numbers-above b a (o ∷ os) lt = both-true (nat_lt b a) _ (less b a lt) (numbers-above b (a + 1) os (omega (arith, lt)))
  where
    less : (m n : ℕ) → m < n → nat_lt m n ≡ true
    less m n h = grind arith

pub outputs-rise : (a : ℕ) (os : List Out) → is_rising (map (λ o. o.m) (number_outputs a os)) ≡ true
outputs-rise a [] = refl
outputs-rise a (o ∷ os) = both-true (list_all (λ m. nat_lt a m) (map (λ x. x.m) (number_outputs (a + 1) os))) _ (numbers-above a (a + 1) os (omega arith)) (outputs-rise (a + 1) os)

-- links -------------------------------------------------------------------------------------------

abbrev coms_of : Numbers → List ℕ
coms_of xs = map (λ x. x.0.0) xs

put-tested : (test : ComId → Bool) (c : ComId) (n : ℕ) (xs : Numbers) → test c ≡ true → list_all (λ x. test x.0) xs ≡ true → list_all (λ x. test x.0) (put_number c n xs) ≡ true
put-tested test c n [] k h = both-true (test c) true k refl
put-tested test c n (x ∷ xs) k h = at (same_com c x.0) (nat_lt c.0 x.0.0) (put-tested test c n xs k rest)
  where
    rest : list_all (λ y. test y.0) xs ≡ true
    rest = back (test x.0) (list_all (λ y. test y.0) xs) h

    at : (a b : Bool) → list_all (λ y. test y.0) (put_number c n xs) ≡ true → list_all (λ y. test y.0) (cond a ((c, n) ∷ xs) (cond b ((c, n) ∷ x ∷ xs) (x ∷ put_number c n xs))) ≡ true
    at true b more = both-true (test c) (list_all (λ y. test y.0) xs) k rest
    at false true more = both-true (test c) (test x.0 && list_all (λ y. test y.0) xs) k h
    at false false more = both-true (test x.0) (list_all (λ y. test y.0) (put_number c n xs)) (front (test x.0) (list_all (λ y. test y.0) xs) h) more

linked-tested : (test : ComId → Bool) (start : Numbers) (ms : List Msg) → AllByRecursion (λ m. test m.to ≡ true) ms → list_all (λ x. test x.0) start ≡ true → list_all (λ x. test x.0) (linked start ms) ≡ true
linked-tested test start [] k h = h
linked-tested test start (m ∷ ms) k h = linked-tested test (count_up m.to start) ms k.1 (put-tested test m.to (number_of 0 start m.to + 1) start k.0 h)

-- each link is to the receiver of a message
pub links-tested : (test : ComId → Bool) (ms : List Msg) → AllByRecursion (λ m. test m.to ≡ true) ms → list_all (λ x. test x.0) (links_of ms) ≡ true
links-tested test ms k = linked-tested test [] ms k refl

put-over : (b : ℕ) (c : ComId) (n : ℕ) (xs : Numbers) → nat_lt b c.0 ≡ true → list_all (λ m. nat_lt b m) (coms_of xs) ≡ true → list_all (λ m. nat_lt b m) (coms_of (put_number c n xs)) ≡ true
put-over b c n [] k h = both-true (nat_lt b c.0) true k refl
put-over b c n (x ∷ xs) k h = at (same_com c x.0) (nat_lt c.0 x.0.0) (put-over b c n xs k rest)
  where
    rest : list_all (λ m. nat_lt b m) (coms_of xs) ≡ true
    rest = back (nat_lt b x.0.0) (list_all (λ m. nat_lt b m) (coms_of xs)) h

    at : (a d : Bool) → list_all (λ m. nat_lt b m) (coms_of (put_number c n xs)) ≡ true → list_all (λ m. nat_lt b m) (coms_of (cond a ((c, n) ∷ xs) (cond d ((c, n) ∷ x ∷ xs) (x ∷ put_number c n xs)))) ≡ true
    at true d more = both-true (nat_lt b c.0) (list_all (λ m. nat_lt b m) (coms_of xs)) k rest
    at false true more = both-true (nat_lt b c.0) (nat_lt b x.0.0 && list_all (λ m. nat_lt b m) (coms_of xs)) k h
    at false false more = both-true (nat_lt b x.0.0) (list_all (λ m. nat_lt b m) (coms_of (put_number c n xs))) (front (nat_lt b x.0.0) (list_all (λ m. nat_lt b m) (coms_of xs)) h) more

put-rises : (c : ComId) (n : ℕ) (xs : Numbers) → is_rising (coms_of xs) ≡ true → is_rising (coms_of (put_number c n xs)) ≡ true
put-rises c n [] h = refl
put-rises c n (x ∷ xs) h = at (same_com c x.0) refl (nat_lt c.0 x.0.0) refl (put-rises c n xs rest)
  where
    over : list_all (λ m. nat_lt x.0.0 m) (coms_of xs) ≡ true
    over = front (list_all (λ m. nat_lt x.0.0 m) (coms_of xs)) (is_rising (coms_of xs)) h

    rest : is_rising (coms_of xs) ≡ true
    rest = back (list_all (λ m. nat_lt x.0.0 m) (coms_of xs)) (is_rising (coms_of xs)) h

    higher : (a b : ℕ) → (a == b) ≡ false → nat_lt a b ≡ false → nat_lt b a ≡ true
    higher a b e f = grind arith

    lower : (a b m : ℕ) → nat_lt a b ≡ true → nat_lt b m ≡ true → nat_lt a m ≡ true
    lower a b m e f = grind arith

    at : (a : Bool) → same_com c x.0 ≡ a → (b : Bool) → nat_lt c.0 x.0.0 ≡ b → is_rising (coms_of (put_number c n xs)) ≡ true → is_rising (coms_of (cond a ((c, n) ∷ xs) (cond b ((c, n) ∷ x ∷ xs) (x ∷ put_number c n xs)))) ≡ true
    at true e b f more = both-true (list_all (λ m. nat_lt c.0 m) (coms_of xs)) (is_rising (coms_of xs)) (subst (λ (d : ComId). list_all (λ m. nat_lt d.0 m) (coms_of xs) ≡ true) (sym (same-com c x.0 e)) over) rest
    at false e true f more =
        both-true (nat_lt c.0 x.0.0 && list_all (λ m. nat_lt c.0 m) (coms_of xs)) (is_rising (coms_of (x ∷ xs))) (both-true (nat_lt c.0 x.0.0) (list_all (λ m. nat_lt c.0 m) (coms_of xs)) f (further (λ m. nat_lt x.0.0 m) (λ m. nat_lt c.0 m) (λ m y. lower c.0 x.0.0 m f y) (coms_of xs) over)) h
    at false e false f more = both-true (list_all (λ m. nat_lt x.0.0 m) (coms_of (put_number c n xs))) (is_rising (coms_of (put_number c n xs))) (put-over x.0.0 c n xs (higher c.0 x.0.0 e f) over) more

linked-rises : (start : Numbers) (ms : List Msg) → is_rising (coms_of start) ≡ true → is_rising (coms_of (linked start ms)) ≡ true
linked-rises start [] h = h
linked-rises start (m ∷ ms) h = linked-rises (count_up m.to start) ms (put-rises m.to (number_of 0 start m.to + 1) start h)

pub links-rise : (ms : List Msg) → is_rising (coms_of (links_of ms)) ≡ true
links-rise ms = linked-rises [] ms refl

-- messages ----------------------------------------------------------------------------------------

-- the numbers of the messages to a component
abbrev pub numbers_on : ComId → List Msg → List ℕ
numbers_on to ms = map (λ m. m.k) (filter (λ m. same_com to m.to) ms)

-- on each link they rise, up to its count
abbrev pub RiseOn : Numbers → List Msg → Type 0
RiseOn links ms = (to : ComId) → (is_rising (numbers_on to ms) ≡ true) × (list_all (λ k. nat_le k (number_of 0 links to)) (numbers_on to ms) ≡ true)

push-on : (to : ComId) (ms : List Msg) (m : Msg) → numbers_on to (ms ++ m ∷ []) ≡ numbers_on to ms ++ map (λ x. x.k) (cond (same_com to m.to) (m ∷ []) [])
push-on to ms m = ap (map (λ x. x.k)) (filter-append (λ x. same_com to x.to) ms (m ∷ [])) ∙ map-append (λ x. x.k) (filter (λ x. same_com to x.to) ms) (filter (λ x. same_com to x.to) (m ∷ []))

rise-one : (links : Numbers) (ms : List Msg) (m : Msg) → m.k ≡ number_of 0 links m.to + 1 → RiseOn links ms → RiseOn (count_up m.to links) (ms ++ m ∷ [])
rise-one links ms m next x to = at (same_com to m.to) refl (push-on to ms m)
  where
    ns : List ℕ
    ns = numbers_on to ms

    below : (k n j : ℕ) → j ≡ n + 1 → nat_le k n ≡ true → nat_lt k j ≡ true
    below k n j e f = grind (arith, e)

    within : (k n : ℕ) → nat_le k n ≡ true → nat_le k (n + 1) ≡ true
    within k n f = grind arith

    exact : (k n : ℕ) → k ≡ n → nat_le k n ≡ true
    exact k n e = grind (arith, e)

    both : ℕ → List ℕ → Type 0
    both n l = (is_rising l ≡ true) × (list_all (λ k. nat_le k n) l ≡ true)

    at : (b : Bool) → same_com to m.to ≡ b → numbers_on to (ms ++ m ∷ []) ≡ ns ++ map (λ y. y.k) (cond b (m ∷ []) []) → both (number_of 0 (count_up m.to links) to) (numbers_on to (ms ++ m ∷ []))
    at true is e =
        let same = same-com to m.to is in
        let count : number_of 0 (count_up m.to links) to ≡ number_of 0 links to + 1 = ap (λ d. number_of 0 (count_up d links) to) (sym same) ∙ put-same to (number_of 0 links to + 1) links in
        let own : m.k ≡ number_of 0 links to + 1 = next ∙ ap (λ d. number_of 0 links d + 1) (sym same) in
        subst (both (number_of 0 (count_up m.to links) to)) (sym e) (subst (λ n. both n (ns ++ m.k ∷ [])) (sym count) (
          rising-push ns m.k (x to).0 (further (λ k. nat_le k (number_of 0 links to)) (λ k. nat_lt k m.k) (λ k f. below k (number_of 0 links to) m.k own f) ns (x to).1),
          all-push (λ k. nat_le k (number_of 0 links to + 1)) ns m.k (further (λ k. nat_le k (number_of 0 links to)) (λ k. nat_le k (number_of 0 links to + 1)) (λ k f. within k (number_of 0 links to) f) ns (x to).1) (exact m.k (number_of 0 links to + 1) own),
        ))
    at false is e =
        subst (both (number_of 0 (count_up m.to links) to)) (sym (e ∙ append-nil ns)) (subst (λ n. both n ns) (sym (put-other to m.to (number_of 0 links m.to + 1) links is)) (x to))

-- so it stays where more are sent
pub rise-more : (c : ComId) (stamp : ℕ) (links : Numbers) (ms : List Msg) (ss : List Send) → RiseOn links ms → RiseOn (linked links (stamp_all c stamp links ss)) (ms ++ stamp_all c stamp links ss)
rise-more c stamp links ms [] x = subst (RiseOn links) (sym (append-nil ms)) x
rise-more c stamp links ms (s ∷ ss) x =
    let m : Msg = record { from = c; to = s.to; k = number_of 0 links s.to + 1; stamp = stamp; handler = s.handler; args = s.args } in
    subst (RiseOn (linked (count_up s.to links) (stamp_all c stamp (count_up s.to links) ss))) (append_assoc ms (m ∷ []) (stamp_all c stamp (count_up s.to links) ss))
    (rise-more c stamp (count_up s.to links) (ms ++ m ∷ []) ss (rise-one links ms m refl x))

-- the first message is to the component, or isn't
abbrev first_on : ComId → Msg → Bool → List Msg → List ℕ
first_on to m b ms = map (λ x. x.k) (cond b (m ∷ filter (λ x. same_com to x.to) ms) (filter (λ x. same_com to x.to) ms))

less-tested : (kept : Msg → Bool) (test : ℕ → Bool) (to : ComId) (ms : List Msg) → list_all test (numbers_on to ms) ≡ true → list_all test (numbers_on to (filter kept ms)) ≡ true
less-tested kept test to [] h = refl
less-tested kept test to (m ∷ ms) h = at (kept m) (less-tested kept test to ms (rest (same_com to m.to) h))
  where
    rest : (b : Bool) → list_all test (first_on to m b ms) ≡ true → list_all test (numbers_on to ms) ≡ true
    rest true k = back (test m.k) (list_all test (numbers_on to ms)) k
    rest false k = k

    by : (b : Bool) → list_all test (first_on to m b ms) ≡ true → list_all test (numbers_on to (filter kept ms)) ≡ true → list_all test (first_on to m b (filter kept ms)) ≡ true
    by true k more = both-true (test m.k) (list_all test (numbers_on to (filter kept ms))) (front (test m.k) (list_all test (numbers_on to ms)) k) more
    by false k more = more

    at : (a : Bool) → list_all test (numbers_on to (filter kept ms)) ≡ true → list_all test (numbers_on to (cond a (m ∷ filter kept ms) (filter kept ms))) ≡ true
    at true more = by (same_com to m.to) h more
    at false more = more

less-rising : (kept : Msg → Bool) (to : ComId) (ms : List Msg) → is_rising (numbers_on to ms) ≡ true → is_rising (numbers_on to (filter kept ms)) ≡ true
less-rising kept to [] h = refl
less-rising kept to (m ∷ ms) h = at (kept m) (less-rising kept to ms (rest (same_com to m.to) h))
  where
    rest : (b : Bool) → is_rising (first_on to m b ms) ≡ true → is_rising (numbers_on to ms) ≡ true
    rest true k = back (list_all (λ j. nat_lt m.k j) (numbers_on to ms)) (is_rising (numbers_on to ms)) k
    rest false k = k

    by : (b : Bool) → is_rising (first_on to m b ms) ≡ true → is_rising (numbers_on to (filter kept ms)) ≡ true → is_rising (first_on to m b (filter kept ms)) ≡ true
    by true k more =
        both-true (list_all (λ j. nat_lt m.k j) (numbers_on to (filter kept ms))) (is_rising (numbers_on to (filter kept ms)))
        (less-tested kept (λ j. nat_lt m.k j) to ms (front (list_all (λ j. nat_lt m.k j) (numbers_on to ms)) (is_rising (numbers_on to ms)) k)) more
    by false k more = more

    at : (a : Bool) → is_rising (numbers_on to (filter kept ms)) ≡ true → is_rising (numbers_on to (cond a (m ∷ filter kept ms) (filter kept ms))) ≡ true
    at true more = by (same_com to m.to) h more
    at false more = more

-- and where some are left out
pub rise-less : (kept : Msg → Bool) (links : Numbers) (ms : List Msg) → RiseOn links ms → RiseOn links (filter kept ms)
rise-less kept links ms x to = (less-rising kept to ms (x to).0, less-tested kept (λ k. nat_le k (number_of 0 links to)) to ms (x to).1)
