-- The taken messages of an image's senders.
use Rattle.std.proofs.Common.{◌≡◌, ◌∙◌, sym, ap, subst, refl, ℕ, zero, suc, ◌+◌, ◌<◌, ◌≤◌, Bool, true, false, cond, List, [], ◌∷◌, ◌++◌, length, map, take, get_or, arith, ◌⊎◌, inl, inr}
use Rattle.std.specs.Prelude.{◌&&◌, ◌||◌, ◌==◌, nat_lt, nat_le, is_some}
use Rattle.std.specs.List.{All, list_any, list_all}
use Rattle.std.proofs.lemmas.Bool.{and_parts, and_from, or_cases, or_left, or_right, or_from, ltb-true, lt-ltb, le-leb, leb-true, eqb-true, eq-eqb, ne_eqb, both_ways, false_from_ne_true}
use Rattle.std.proofs.lemmas.List.{take_more}
use Rattle.ic_base.specs.declared.messages.ComId.{ComId}
use Rattle.def_state.specs.Names.{Identity, Numbers, number_of, same_identity}
use Rattle.ic_base.specs.declared.limits.TheConstants.{GREATEST_NUMBER}
use Rattle.ic_base.specs.Programs.{same_com}
use Rattle.def_state.specs.Image.{identities, is_rising, rises_above}
use Rattle.ic_index.specs.declared.sorted.Entry.{Entry}
use Rattle.ic_index.specs.Entries.{name_of, value_of, put_entry, is_in_order}
use Rattle.ic_index.proofs.Identities.{same-is}
use Rattle.ic_index.proofs.Keeping.{value_of-put, value_of-put_other}
use Rattle.ic_in.specs.Taken.{numbers_above, taken_of, is_recorded, is_sender, IsTaken}
use Rattle.ic_in.specs.Senders.{Part, taken_in, AreParts, is_listed}
use Rattle.ic_in.proofs.Absorbing.{Above}
use Rattle.ic_in.proofs.Recorded.{any-append, any-named, any-above, com-is}
use Rattle.ic_in.proofs.Ordering.{same-rising, named-rises, numbers-rise}

-- one number more ------------------------------------------------------------------------

or-false : (b : Bool) → (b || false) ≡ b
or-false true = refl
or-false false = refl

or-true : (b : Bool) → (b || true) ≡ true
or-true true = refl
or-true false = refl

pub put-some : (e : Entry (Unit {0})) (es : Above) (x : Identity) → is_some (value_of (put_entry e es) x) ≡ (is_some (value_of es x) || same_identity x (name_of e))
put-some e es x = by (same_identity x (name_of e)) refl
  where
    by : (b : Bool) → same_identity x (name_of e) ≡ b → is_some (value_of (put_entry e es) x) ≡ (is_some (value_of es x) || b)
    by true s = ap is_some (ap (value_of (put_entry e es)) (same-is x (name_of e) s) ∙ value_of-put e es) ∙ sym (or-true (is_some (value_of es x)))
    by false s = ap is_some (value_of-put_other x e es s) ∙ sym (or-false (is_some (value_of es x)))

regroup : (o s t u : Bool) → ((o || (s && t)) || (s && u)) ≡ (o || (s && (t || (u || false))))
regroup true s t u = refl
regroup false true true u = refl
regroup false true false true = refl
regroup false true false false = refl
regroup false false t u = refl

pub add-next : (old now : Above) (c : ComId) (ns : List ℕ) (i : ℕ) (k : ℕ) → i < length ns → k ≡ get_or ns i 0 → ((x : Identity) → is_some (value_of now x) ≡ (is_some (value_of old x) || (same_com x.peer c && list_any (λ n. x.k == n) (take i ns)))) → (x : Identity) → is_some (value_of (put_entry (record { peer = c; k = k; value = tt }) now) x) ≡ (is_some (value_of old x) || (same_com x.peer c && list_any (λ n. x.k == n) (take (i + 1) ns)))
add-next old now c ns i k l at h x =
    let more : take (i + 1) ns ≡ take i ns ++ k ∷ [] = take_more ns i 0 l ∙ ap (λ n. take i ns ++ n ∷ []) (sym at) in
    put-some (record { peer = c; k = k; value = tt }) now x
    ∙ ap (λ b. b || (same_com x.peer c && (x.k == k))) (h x)
    ∙ regroup (is_some (value_of old x)) (same_com x.peer c) (list_any (λ n. x.k == n) (take i ns)) (x.k == k)
    ∙ sym (ap (λ b. is_some (value_of old x) || (same_com x.peer c && b)) (ap (list_any (λ n. x.k == n)) more ∙ any-append (λ n. x.k == n) (take i ns) (k ∷ [])))

-- the senders' bounds --------------------------------------------------------------------

abbrev pub bounds_in : List Part → Numbers
bounds_in parts = map (λ (s : Part). (s.0, s.1)) parts

abbrev pub higher_parts : ComId → List Part → Bool
higher_parts c parts = list_all (λ n. nat_lt c.0 n) (map (λ (s : Part). s.0.0) parts)

senders-are : (parts : List Part) → map (λ (s : ComId × ℕ). s.0.0) (bounds_in parts) ≡ map (λ (s : Part). s.0.0) parts
senders-are [] = refl
senders-are (s ∷ ss) = ap (λ l. s.0.0 ∷ l) (senders-are ss)

rising-parts : (s : Part) (ss : List Part) → is_rising (map (λ (s : Part). s.0.0) (s ∷ ss)) ≡ true → (higher_parts s.0 ss ≡ true) × (is_rising (map (λ (s : Part). s.0.0) ss) ≡ true)
rising-parts s ss h = and_parts (higher_parts s.0 ss) (is_rising (map (λ (s : Part). s.0.0) ss)) h

listed-sender : (parts : List Part) (x : Identity) → is_listed parts x ≡ true → is_sender (bounds_in parts) x.peer ≡ true
listed-sender [] x h = absurd (cc)
listed-sender (s ∷ ss) x h = by (or_cases (same_com x.peer s.0 && list_any (λ k. x.k == k) s.2) (is_listed ss x) h) (λ e. listed-sender ss x e)
  where
    by : ((same_com x.peer s.0 && list_any (λ k. x.k == k) s.2) ≡ true) ⊎ (is_listed ss x ≡ true) → (is_listed ss x ≡ true → is_sender (bounds_in ss) x.peer ≡ true) → (same_com x.peer s.0 || is_sender (bounds_in ss) x.peer) ≡ true
    by (inl e) rest = or_left (same_com x.peer s.0) (is_sender (bounds_in ss) x.peer) (and_parts (same_com x.peer s.0) (list_any (λ k. x.k == k) s.2) e).0
    by (inr e) rest = or_right (same_com x.peer s.0) (is_sender (bounds_in ss) x.peer) (rest e)

-- none behind a sender is the sender's
not-behind : (c : ComId) (parts : List Part) → higher_parts c parts ≡ true → is_sender (bounds_in parts) c ≡ false
not-behind c [] h = refl
not-behind c (s ∷ ss) h =
    let parts = and_parts (nat_lt c.0 s.0.0) (higher_parts c ss) h in
    or_from (same_com c s.0) (is_sender (bounds_in ss) c) (ne_eqb c.0 s.0.0 (λ e. let l = ltb-true c.0 s.0.0 parts.0 in omega arith)) (not-behind c ss parts.1)

not-listed : (x : Identity) (parts : List Part) → higher_parts x.peer parts ≡ true → is_listed parts x ≡ false
not-listed x parts h = false_from_ne_true (is_listed parts x) (λ e. both_ways (is_sender (bounds_in parts) x.peer) (not-behind x.peer parts h) (listed-sender parts x e))

-- numbers that rise above one
pub above-parts : (n : ℕ) (ks : List ℕ) → rises_above n ks ≡ true → (list_all (λ k. nat_lt n k) ks ≡ true) × (is_rising ks ≡ true)
above-parts n [] h = (refl, refl)
above-parts n (k ∷ ks) h =
    let parts = and_parts (nat_lt n k) (rises_above k ks) h in
    let rest = above-parts k ks parts.1 in
    let l = ltb-true n k parts.0 in
    (and_from (nat_lt n k) (list_all (λ k. nat_lt n k) ks) parts.0 (weaker n k ks l rest.0), and_from (list_all (λ j. nat_lt k j) ks) (is_rising ks) rest.0 rest.1)
  where
    weaker : (n k : ℕ) (ks : List ℕ) → n < k → list_all (λ j. nat_lt k j) ks ≡ true → list_all (λ j. nat_lt n j) ks ≡ true
    weaker n k [] l h = refl
    weaker n k (j ∷ js) l h =
        let parts = and_parts (nat_lt k j) (list_all (λ j. nat_lt k j) js) h in
        let up = ltb-true k j parts.0 in
        and_from (nat_lt n j) (list_all (λ j. nat_lt n j) js) (lt-ltb n j (omega arith)) (weaker n k js l parts.1)

-- one of the numbers passes what all pass
passes-one : (q : ℕ → Bool) (k : ℕ) (ks : List ℕ) → list_any (λ j. k == j) ks ≡ true → list_all q ks ≡ true → q k ≡ true
passes-one q k [] h a = absurd (cc)
passes-one q k (j ∷ js) h a =
    let parts = and_parts (q j) (list_all q js) a in
    by (or_cases (k == j) (list_any (λ j. k == j) js) h) parts.0 (λ e. passes-one q k js e parts.1)
  where
    by : ((k == j) ≡ true) ⊎ (list_any (λ j. k == j) js ≡ true) → q j ≡ true → (list_any (λ j. k == j) js ≡ true → q k ≡ true) → q k ≡ true
    by (inl e) here rest = ap q (eqb-true k j e) ∙ here
    by (inr e) here rest = rest e

-- what holds of the pairs holds of each listed one: its sender's bound and its number
listed-holds : (q : ComId → ℕ → ℕ → Type 0) (parts : List Part) → is_rising (map (λ (s : Part). s.0.0) parts) ≡ true → ((s : Part) (k : ℕ) (i : ℕ) → i < length parts → s ≡ get_or parts i s → list_any (λ j. k == j) s.2 ≡ true → q s.0 s.1 k) → (x : Identity) → is_listed parts x ≡ true → q x.peer (number_of 0 (bounds_in parts) x.peer) x.k
listed-holds q [] r h x e = absurd (cc)
listed-holds q (s ∷ ss) r h x e =
    let rp = rising-parts s ss r in
    by (same_com x.peer s.0) refl e rp.0 (h s x.k 0 (omega arith) refl) (listed-holds q ss rp.1 (λ t k i l g. h t k (suc i) (omega arith) g) x)
  where
    by : (b : Bool) → same_com x.peer s.0 ≡ b → ((b && list_any (λ j. x.k == j) s.2) || is_listed ss x) ≡ true → higher_parts s.0 ss ≡ true → (list_any (λ j. x.k == j) s.2 ≡ true → q s.0 s.1 x.k) → (is_listed ss x ≡ true → q x.peer (number_of 0 (bounds_in ss) x.peer) x.k) → q x.peer (cond b s.1 (number_of 0 (bounds_in ss) x.peer)) x.k
    by true same e up here rest =
        let is = com-is x.peer s.0 same in
        let absent = not-listed x ss (ap (λ c. higher_parts c ss) is ∙ up) in
        let mine : list_any (λ j. x.k == j) s.2 ≡ true = sym (or-false (list_any (λ j. x.k == j) s.2)) ∙ ap (λ b. list_any (λ j. x.k == j) s.2 || b) (sym absent) ∙ e in
        let P : ComId → Type 0 = λ c. q c s.1 x.k in
        subst P (sym is) (here mine)
    by false same e up here rest = rest e

low-all : (parts : List Part) → All (λ s. s.1 ≤ GREATEST_NUMBER) parts → (c : ComId) → number_of 0 (bounds_in parts) c ≤ GREATEST_NUMBER
low-all [] h c = omega arith
low-all (s ∷ ss) h c = by (same_com c s.0) (h 0 s (omega arith)) (low-all ss (λ k d l. h (suc k) d (omega arith)) c)
  where
    by : (b : Bool) → s.1 ≤ GREATEST_NUMBER → number_of 0 (bounds_in ss) c ≤ GREATEST_NUMBER → cond b s.1 (number_of 0 (bounds_in ss) c) ≤ GREATEST_NUMBER
    by true here rest = here
    by false here rest = rest

-- of each sender one number is up to its bound, or listed
some-number : (parts : List Part) → All (λ s. 0 < s.1 + length s.2) parts → (c : ComId) → is_sender (bounds_in parts) c ≡ true → (k : ℕ) × (((1 ≤ k) × (k ≤ number_of 0 (bounds_in parts) c)) ⊎ (is_listed parts (record { peer = c; k = k }) ≡ true))
some-number [] h c e = absurd (cc)
some-number (s ∷ ss) h c e = by (same_com c s.0) s.1 s.2 refl e (h 0 s (omega arith)) (some-number ss (λ k d l. h (suc k) d (omega arith)) c)
  where
    by : (b : Bool) (w : ℕ) (ns : List ℕ) → same_com c s.0 ≡ b → (b || is_sender (bounds_in ss) c) ≡ true → 0 < w + length ns → (is_sender (bounds_in ss) c ≡ true → (k : ℕ) × (((1 ≤ k) × (k ≤ number_of 0 (bounds_in ss) c)) ⊎ (is_listed ss (record { peer = c; k = k }) ≡ true))) → (k : ℕ) × (((1 ≤ k) × (k ≤ cond b w (number_of 0 (bounds_in ss) c))) ⊎ (((b && list_any (λ j. k == j) ns) || is_listed ss (record { peer = c; k = k })) ≡ true))
    by true zero [] same e l rest = absurd (omega arith)
    by true zero (n ∷ ns) same e l rest = (n, inr (ap (λ b. (b || list_any (λ j. n == j) ns) || is_listed ss (record { peer = c; k = n })) (eq-eqb n n refl)))
    by true (suc w) ns same e l rest = (1, inl (omega arith, omega arith))
    by false w ns same e l rest = rest e

pub parts-taken : (parts : List Part) (above : Above) → AreParts parts → is_in_order above ≡ true → ((x : Identity) → is_some (value_of above x) ≡ is_listed parts x) → IsTaken (bounds_in parts) above
parts-taken parts above h order members = record {
  senders = ap is_rising (senders-are parts) ∙ h.rising;
  ordered = order;
  listed = λ x s. listed-sender parts x (sym (members x) ∙ s);
  higher = λ x s. listed-holds (λ c w k. w + 1 < k) parts h.rising (λ p k i l g e. let up = above_get p i l g in ltb-true (p.1 + 1) k (passes-one (λ n. nat_lt (p.1 + 1) n) k p.2 e up)) x (sym (members x) ∙ s);
  low = low-all parts h.low;
  limited = λ x s. listed-holds (λ c w k. k ≤ GREATEST_NUMBER) parts h.rising (λ p k i l g e. leb-true k GREATEST_NUMBER (passes-one (λ n. nat_le n GREATEST_NUMBER) k p.2 e (limited_get p i l g))) x (sym (members x) ∙ s);
  filled = λ c e. filled c (some-number parts h.filled c e);
}
  where
    above_get : (p : Part) (i : ℕ) → i < length parts → p ≡ get_or parts i p → list_all (λ n. nat_lt (p.1 + 1) n) p.2 ≡ true
    above_get p i l g =
        let P : Part → Type 0 = λ z. rises_above (z.1 + 1) z.2 ≡ true in
        (above-parts (p.1 + 1) p.2 (subst P (sym g) (h.above i p l))).0

    limited_get : (p : Part) (i : ℕ) → i < length parts → p ≡ get_or parts i p → list_all (λ n. nat_le n GREATEST_NUMBER) p.2 ≡ true
    limited_get p i l g =
        let P : Part → Type 0 = λ z. list_all (λ n. nat_le n GREATEST_NUMBER) z.2 ≡ true in
        subst P (sym g) (h.limited i p l)

    filled : (c : ComId) → (k : ℕ) × (((1 ≤ k) × (k ≤ number_of 0 (bounds_in parts) c)) ⊎ (is_listed parts (record { peer = c; k = k }) ≡ true)) → (k : ℕ) × (is_recorded (bounds_in parts) above (record { peer = c; k = k }) ≡ true)
    filled c one = (one.0, by one.0 one.1)
      where
        by : (k : ℕ) → ((1 ≤ k) × (k ≤ number_of 0 (bounds_in parts) c)) ⊎ (is_listed parts (record { peer = c; k = k }) ≡ true) → is_recorded (bounds_in parts) above (record { peer = c; k = k }) ≡ true
        by k (inl low) = or_left (nat_le 1 k && nat_le k (number_of 0 (bounds_in parts) c)) (is_some (value_of above (record { peer = c; k = k }))) (and_from (nat_le 1 k) (nat_le k (number_of 0 (bounds_in parts) c)) (le-leb 1 k low.0) (le-leb k (number_of 0 (bounds_in parts) c) low.1))
        by k (inr listed) = or_right (nat_le 1 k && nat_le k (number_of 0 (bounds_in parts) c)) (is_some (value_of above (record { peer = c; k = k }))) (members (record { peer = c; k = k }) ∙ listed)

-- the numbers above a bound are those of the image -------------------------------------------

-- lists of numbers that rise and have the same members are one
numbers-same : (xs ys : List ℕ) → is_rising xs ≡ true → is_rising ys ≡ true → ((k : ℕ) → list_any (λ n. k == n) xs ≡ list_any (λ n. k == n) ys) → xs ≡ ys
numbers-same xs ys r s h =
    sym (unnamed xs) ∙ ap (map (λ (x : Identity). x.k)) (same-rising (map (λ k. record { peer = record { 0 = 0 }; k = k }) xs) (map (λ k. record { peer = record { 0 = 0 }; k = k }) ys) (named-rises (record { 0 = 0 }) xs r) (named-rises (record { 0 = 0 }) ys s) (λ z. any z xs ∙ ap (λ b. same_com z.peer (record { 0 = 0 }) && b) (h z.k) ∙ sym (any z ys))) ∙ unnamed ys
  where
    unnamed : (ns : List ℕ) → map (λ (x : Identity). x.k) (map (λ k. record { peer = record { 0 = 0 }; k = k }) ns) ≡ ns
    unnamed [] = refl
    unnamed (n ∷ ns) = ap (λ l. n ∷ l) (unnamed ns)

    any : (z : Identity) (ns : List ℕ) → list_any (same_identity z) (map (λ k. record { peer = record { 0 = 0 }; k = k }) ns) ≡ (same_com z.peer (record { 0 = 0 }) && list_any (λ n. z.k == n) ns)
    any z ns = any-named (record { 0 = 0 }) z ns

higher-get : (c : ComId) (ss : List Part) → higher_parts c ss ≡ true → (k : ℕ) (d : Part) → k < length ss → c.0 < (get_or ss k d).0.0
higher-get c [] h k d l = absurd (omega arith)
higher-get c (s ∷ ss) h zero d l = ltb-true c.0 s.0.0 (and_parts (nat_lt c.0 s.0.0) (higher_parts c ss) h).0
higher-get c (s ∷ ss) h (suc k) d l = higher-get c ss (and_parts (nat_lt c.0 s.0.0) (higher_parts c ss) h).1 k d (omega arith)

-- of a sender's numbers those are listed that are its own
listed-own : (parts : List Part) → is_rising (map (λ (s : Part). s.0.0) parts) ≡ true → (i : ℕ) (d : Part) → i < length parts → (k : ℕ) → is_listed parts (record { peer = (get_or parts i d).0; k = k }) ≡ list_any (λ j. k == j) (get_or parts i d).2
listed-own [] r i d l k = absurd (omega arith)
listed-own (s ∷ ss) r zero d l k =
    let rp = rising-parts s ss r in
    ap (λ b. (b && list_any (λ j. k == j) s.2) || is_listed ss (record { peer = s.0; k = k })) (eq-eqb s.0.0 s.0.0 refl)
    ∙ ap (λ b. list_any (λ j. k == j) s.2 || b) (not-listed (record { peer = s.0; k = k }) ss rp.0)
    ∙ or-false (list_any (λ j. k == j) s.2)
listed-own (s ∷ ss) r (suc i) d l k =
    let rp = rising-parts s ss r in
    let up = higher-get s.0 ss rp.0 i d (omega arith) in
    ap (λ b. (b && list_any (λ j. k == j) s.2) || is_listed ss (record { peer = (get_or ss i d).0; k = k })) (ne_eqb (get_or ss i d).0.0 s.0.0 (λ e. omega arith))
    ∙ listed-own ss rp.1 i d (omega arith) k

numbers-are : (parts : List Part) (above : Above) → AreParts parts → is_in_order above ≡ true → ((x : Identity) → is_some (value_of above x) ≡ is_listed parts x) → All (λ s. numbers_above above s.0 ≡ s.2) parts
numbers-are parts above h order members i d l =
    numbers-same (numbers_above above (get_or parts i d).0) (get_or parts i d).2 (numbers-rise (get_or parts i d).0 above order) (above-parts ((get_or parts i d).1 + 1) (get_or parts i d).2 (h.above i d l)).1 (λ k.
    any-above above (get_or parts i d).0 k ∙ members (record { peer = (get_or parts i d).0; k = k }) ∙ listed-own parts h.rising i d l k)

taken-each : (parts : List Part) (above : Above) → All (λ s. numbers_above above s.0 ≡ s.2) parts → taken_of (bounds_in parts) above ≡ taken_in parts
taken-each [] above h = refl
taken-each (s ∷ ss) above h =
    ap (λ ns. identities s.0 s.1 ns ++ taken_of (bounds_in ss) above) (h 0 s (omega arith))
    ∙ ap (λ l. identities s.0 s.1 s.2 ++ l) (taken-each ss above (λ k d l. h (suc k) d (omega arith)))

pub taken-are : (parts : List Part) (above : Above) → AreParts parts → is_in_order above ≡ true → ((x : Identity) → is_some (value_of above x) ≡ is_listed parts x) → taken_of (bounds_in parts) above ≡ taken_in parts
taken-are parts above h order members = taken-each parts above (numbers-are parts above h order members)
