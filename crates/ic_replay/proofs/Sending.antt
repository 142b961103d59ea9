-- The numbers of what is sent and put out, and when they stay within their limit.
use Rattle.std.proofs.Common.{◌≡◌, ◌∙◌, ◌≤◌, ◌<◌, ◌+◌, ◌&&◌, ℕ, Bool, true, false, cond, leb, ltb, List, [], ◌∷◌, ◌++◌, length, take, drop, get_or, ap, sym, refl, arith}
use Rattle.std.proofs.Math.Bool.{and-true, and_comm, and_assoc}
use Rattle.std.proofs.lemmas.Bool.{false≢true, leb-true, le-leb, eqb-true, and_parts, false_from_ne_true, both_ways}
use Rattle.std.specs.List.{count_by}
use Rattle.std.proofs.lemmas.List.Sums.{sum_by-cons}
use Rattle.std.proofs.lemmas.List.{take_more, drop_more, take-append-drop}
use Rattle.ic_base.specs.declared.limits.TheConstants.{GREATEST_NUMBER}
use Rattle.ic_base.specs.declared.messages.ComId.{ComId}
use Rattle.ic_base.specs.declared.messages.Send.{Send}
use Rattle.ic_base.specs.declared.messages.Out.{Out}
use Rattle.ic_base.specs.Programs.{same_com}
use Rattle.def_state.specs.Names.{Numbers, number_of, put_number, count_up}
use Rattle.def_state.specs.Outbox.{Outbox, send_all, add, next_message}
use Rattle.def_state.specs.Shelf as shelf
use Rattle.def_state.specs.Shelf.{Shelf}
use Rattle.ic_index.proofs.Counting.{number-put_same, number-put_other}
use Rattle.ic_replay.specs.Limits.{are_within, links_behind}

abbrev pub is_within : ℕ → Bool
is_within n = leb n GREATEST_NUMBER

-- where n gives a, a says nothing beside it
and_absorb : (a b n : Bool) → (n ≡ true → a ≡ true) → (n && b) ≡ ((a && b) && n)
and_absorb true b n le = and_comm n b
and_absorb false b true le = absurd (false≢true (le refl))
and_absorb false b false le = refl

below_within : (m n : ℕ) → m ≤ n → is_within n ≡ true → is_within m ≡ true
below_within m n le h = let k : n ≤ GREATEST_NUMBER = leb-true n GREATEST_NUMBER h in le-leb m GREATEST_NUMBER (omega arith)

put_step : (b l : Bool) (c : ComId) (n : ℕ) (x : ComId × ℕ) (xs : Numbers) → (number_of 0 xs c ≤ n → are_within (put_number c n xs) ≡ (are_within xs && is_within n)) → cond b x.1 (number_of 0 xs c) ≤ n
    → are_within (cond b ((c, n) ∷ xs) (cond l ((c, n) ∷ x ∷ xs) (x ∷ put_number c n xs))) ≡ ((is_within x.1 && are_within xs) && is_within n)
put_step true l c n x xs ih le = and_absorb (is_within x.1) (are_within xs) (is_within n) (below_within x.1 n le)
put_step false true c n x xs ih le = and_comm (is_within n) (is_within x.1 && are_within xs)
put_step false false c n x xs ih le = ap (λ b. is_within x.1 && b) (ih le) ∙ sym (and_assoc (is_within x.1) (are_within xs) (is_within n))

-- a number that is put for a component, which isn't less than the one that it had
put_within : (c : ComId) (n : ℕ) (xs : Numbers) → number_of 0 xs c ≤ n → are_within (put_number c n xs) ≡ (are_within xs && is_within n)
put_within c n [] le = and-true (is_within n)
put_within c n (x ∷ xs) le = put_step (same_com c x.0) (ltb c.0 x.0.0) c n x xs (put_within c n xs) le

-- one more for a component
pub up_within : (c : ComId) (xs : Numbers) → are_within (count_up c xs) ≡ (are_within xs && is_within (number_of 0 xs c + 1))
up_within c xs = put_within c (number_of 0 xs c + 1) xs (omega arith)

-- the links behind what is sent
pub links_sent : (c : ComId) (clock at : ℕ) (o : Outbox) (ss : List Send) → (send_all c clock at o ss).links ≡ links_behind o.links ss
links_sent c clock at o [] = refl
links_sent c clock at o (s ∷ ss) = links_sent c clock at (add o (next_message c clock o s) at) ss

-- where they are within the limit, they were so before
pub first_within : (xs : Numbers) (ss : List Send) → are_within (links_behind xs ss) ≡ true → are_within xs ≡ true
first_within xs [] h = h
first_within xs (s ∷ ss) h = (and_parts _ _ (sym (up_within s.to xs) ∙ first_within (count_up s.to xs) ss h)).0

-- and the next number is
next_within : (xs : Numbers) (s : Send) (ss : List Send) → are_within (links_behind xs (s ∷ ss)) ≡ true → number_of 0 xs s.to + 1 ≤ GREATEST_NUMBER
next_within xs s ss h = leb-true _ _ (and_parts _ _ (sym (up_within s.to xs) ∙ first_within (count_up s.to xs) ss h)).1

-- the same at a place of the list
pub next_at : (c : ComId) (clock at : ℕ) (o : Outbox) (ss : List Send) (i : ℕ) (s : Send) → i < length ss → s ≡ get_or ss i s → are_within (send_all c clock at o (drop i ss)).links ≡ true → number_of 0 o.links s.to + 1 ≤ GREATEST_NUMBER
next_at c clock at o ss i s within read h =
    let rest : drop i ss ≡ s ∷ drop (i + 1) ss = drop_more ss i s within ∙ ap (λ x. x ∷ drop (i + 1) ss) (sym read) in
    next_within o.links s (drop (i + 1) ss) (ap (λ xs. are_within (links_behind o.links xs)) (sym rest) ∙ ap are_within (sym (links_sent c clock at o (drop i ss))) ∙ h)

-- what is still to be sent, once one more is
pub send_more : (c : ComId) (clock at : ℕ) (o : Outbox) (ss : List Send) (i : ℕ) (s : Send) → i < length ss → s ≡ get_or ss i s → send_all c clock at o (drop i ss) ≡ send_all c clock at (add o (next_message c clock o s) at) (drop (i + 1) ss)
send_more c clock at o ss i s within read = ap (send_all c clock at o) (drop_more ss i s within ∙ ap (λ x. x ∷ drop (i + 1) ss) (sym read))

-- the number of outputs behind those that are put out
pub made_behind : (at : ℕ) (x : Shelf) (os : List Out) → (shelf.add_all at x os).made ≡ x.made + length os
made_behind at x [] = omega arith
made_behind at x (o ∷ os) = omega (arith, made_behind at (shelf.add x o at) os)

pub add_more : (at : ℕ) (x : Shelf) (os : List Out) (i : ℕ) (o : Out) → i < length os → o ≡ get_or os i o → shelf.add_all at x (drop i os) ≡ shelf.add_all at (shelf.add x o at) (drop (i + 1) os)
add_more at x os i o within read = ap (shelf.add_all at x) (drop_more os i o within ∙ ap (λ y. y ∷ drop (i + 1) os) (sym read))

-- the number of a component's link behind sends -------------------------------------------

same_is : (c d : ComId) → same_com c d ≡ true → c ≡ d
same_is c d h = let f : ℕ → ComId = λ n. record { 0 = n } in ap f (eqb-true c.0 d.0 h)

number_up : (d : ComId) (xs : Numbers) (c : ComId) → number_of 0 (count_up d xs) c ≡ cond (same_com c d) 1 0 + number_of 0 xs c
number_up d xs c = at (same_com c d) refl
  where
    at : (b : Bool) → same_com c d ≡ b → number_of 0 (count_up d xs) c ≡ cond b 1 0 + number_of 0 xs c
    at true is =
        let e : c ≡ d = same_is c d is in
        let put : number_of 0 (count_up d xs) c ≡ number_of 0 xs d + 1 = ap (number_of 0 (count_up d xs)) e ∙ number-put_same d (number_of 0 xs d + 1) xs in
        let same : number_of 0 xs c ≡ number_of 0 xs d = ap (number_of 0 xs) e in
        omega arith
    at false is = let put : number_of 0 (count_up d xs) c ≡ number_of 0 xs c = number-put_other d c (number_of 0 xs d + 1) xs is in omega arith

number_behind : (xs : Numbers) (ss : List Send) (c : ComId) → number_of 0 (links_behind xs ss) c ≡ number_of 0 xs c + count_by (λ (s : Send). same_com c s.to) ss
number_behind xs [] c = omega arith
number_behind xs (s ∷ ss) c = omega (arith, number_behind (count_up s.to xs) ss c, number_up s.to xs c, sum_by-cons (λ (x : Send). cond (same_com c x.to) 1 0) s ss)

links_push : (xs : Numbers) (ss : List Send) (s : Send) → links_behind xs (ss ++ s ∷ []) ≡ count_up s.to (links_behind xs ss)
links_push xs [] s = refl
links_push xs (x ∷ ss) s = links_push (count_up x.to xs) ss s

links_append : (xs : Numbers) (ss more : List Send) → links_behind xs (ss ++ more) ≡ links_behind (links_behind xs ss) more
links_append xs [] more = refl
links_append xs (x ∷ ss) more = links_append (count_up x.to xs) ss more

-- one more send of a list
pub within_more : (xs : Numbers) (ss : List Send) (i : ℕ) (s : Send) → i < length ss → s ≡ get_or ss i s
    → are_within (links_behind xs (take (i + 1) ss)) ≡ (are_within (links_behind xs (take i ss)) && is_within (number_of 0 xs s.to + count_by (λ (x : Send). same_com s.to x.to) (take i ss) + 1))
within_more xs ss i s within read =
    ap (λ x. are_within (links_behind xs x)) (take_more ss i s within ∙ ap (λ x. take i ss ++ x ∷ []) (sym read))
    ∙ ap are_within (links_push xs (take i ss) s)
    ∙ up_within s.to (links_behind xs (take i ss))
    ∙ ap (λ n. are_within (links_behind xs (take i ss)) && is_within (n + 1)) (number_behind xs (take i ss) s.to)

-- where the first of them pass the limit, all do
pub pass_all : (xs : Numbers) (ss : List Send) (i : ℕ) → are_within (links_behind xs (take i ss)) ≡ false → are_within (links_behind xs ss) ≡ false
pass_all xs ss i past =
    ap (λ x. are_within (links_behind xs x)) (sym (take-append-drop i ss)) ∙ ap are_within (links_append xs (take i ss) (drop i ss))
    ∙ false_from_ne_true _ (λ e. both_ways _ past (first_within (links_behind xs (take i ss)) (drop i ss) e))
