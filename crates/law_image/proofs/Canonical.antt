-- The senders of an inbox whose taken identities are in order: what an image has of them gives the identities again.
use Rattle.std.proofs.Common.{◌≡◌, ◌∙◌, sym, ap, subst, refl, ℕ, zero, suc, ◌+◌, ◌-◌, ◌*◌, ◌^◌, ◌<◌, ◌≤◌, Bool, true, false, cond, List, [], ◌∷◌, ◌++◌, length, map, arith, append_assoc, ◌⊎◌, inl, inr}
use Rattle.std.specs.Prelude.{◌&&◌, ◌||◌, ◌==◌, not, nat_lt, nat_le, filter}
use Rattle.std.specs.List.{list_all, range_with_len, flat_map, AllByRecursion}
use Rattle.std.proofs.lemmas.Bool.{and_parts, and_from, ltb-true, lt-ltb, le-ltb, le-leb, leb-true, ltb-false, eqb-true, eq-eqb, ne_eqb, cases_eq}
use Rattle.std.proofs.lemmas.Bool.Decides.{nat_tests}
use Rattle.ic_base.specs.declared.limits.TheConstants.{GREATEST_NUMBER}
use Rattle.ic_base.specs.declared.messages.ComId.{ComId}
use Rattle.ic_base.specs.Programs.{same_com}
use Rattle.def_log.specs.Spelling.{IsCount, IsCom}
use Rattle.def_state.specs.Names.{Identity}
use Rattle.def_state.specs.Inbox.{Inbox, comes_before}
use Rattle.def_state.specs.Image.{is_rising, rises_above, run_from, taken_from, senders_of}
use Rattle.law_image.specs.Readable.{TakenFits, is_ordered}
use Rattle.law_image.proofs.Items.{Part}
use Rattle.law_image.proofs.Whole.{taken_by, all_rise}
use Rattle.law_image.proofs.Tests.{rises_from}
use Rattle.law_image.proofs.Spelled.{PartFits}
use Rattle.law_image.proofs.Grouped.{numbers_from, only_taken, part_of}

-- what holds of each group holds of those that have a number ------------------------------------------------

abbrev has_some : ℕ × List ℕ → Bool
has_some x = nat_lt 0 (length x.1)

abbrev pub groups : (ℕ → List ℕ) → ℕ → ℕ → List (ℕ × List ℕ)
groups f a n = filter has_some (map (λ c. (c, f c)) (range_with_len a n))

abbrev pair : ℕ → List ℕ → ℕ × List ℕ
pair c l = (c, l)

pub groups_all : (P : ℕ × List ℕ → Type 0) (f : ℕ → List ℕ) (a n : ℕ) → ((c : ℕ) → a ≤ c → c < a + n → has_some (c, f c) ≡ true → P (c, f c)) → AllByRecursion P (groups f a n)
groups_all P f a zero h = tt
groups_all P f a (suc n) h = by (has_some (a, f a)) refl (groups_all P f (a + 1) n (λ c l m s. h c (omega arith) (omega arith) s)) (λ s. h a (omega arith) (omega arith) s)
  where
    by : (b : Bool) → has_some (a, f a) ≡ b → AllByRecursion P (groups f (a + 1) n) → (has_some (a, f a) ≡ true → P (a, f a)) → AllByRecursion P (cond b (pair a (f a) ∷ groups f (a + 1) n) (groups f (a + 1) n))
    by true e rest here = (here e, rest)
    by false e rest here = rest

-- they rise
groups_above : (f : ℕ → List ℕ) (b a n : ℕ) → b < a → list_all (λ m. nat_lt b m) (map (λ x. x.0) (groups f a n)) ≡ true
groups_above f b a zero l = refl
groups_above f b a (suc n) l = by (has_some (a, f a)) (groups_above f b (a + 1) n (omega arith))
  where
    by : (t : Bool) → list_all (λ m. nat_lt b m) (map (λ x. x.0) (groups f (a + 1) n)) ≡ true → list_all (λ m. nat_lt b m) (map (λ (x : ℕ × List ℕ). x.0) (cond t (pair a (f a) ∷ groups f (a + 1) n) (groups f (a + 1) n))) ≡ true
    by true rest = and_from (nat_lt b a) _ (lt-ltb b a l) rest
    by false rest = rest

pub groups_rise : (f : ℕ → List ℕ) (a n : ℕ) → is_rising (map (λ x. x.0) (groups f a n)) ≡ true
groups_rise f a zero = refl
groups_rise f a (suc n) = by (has_some (a, f a)) (groups_above f a (a + 1) n (omega arith)) (groups_rise f (a + 1) n)
  where
    by : (t : Bool) → list_all (λ m. nat_lt a m) (map (λ x. x.0) (groups f (a + 1) n)) ≡ true → is_rising (map (λ x. x.0) (groups f (a + 1) n)) ≡ true → is_rising (map (λ (x : ℕ × List ℕ). x.0) (cond t (pair a (f a) ∷ groups f (a + 1) n) (groups f (a + 1) n))) ≡ true
    by true above rest = and_from (list_all (λ m. nat_lt a m) (map (λ x. x.0) (groups f (a + 1) n))) _ above rest
    by false above rest = rest

-- rising numbers, and the run at their front --------------------------------------------------------------------

pub run_low : (w limit : ℕ) (ks : List ℕ) → w ≤ limit → AllByRecursion (λ k. k ≤ limit) ks → run_from w ks ≤ limit
run_low w limit [] l h = l
run_low w limit (k ∷ ks) l h = by (k == w + 1) (run_low k limit ks h.0 h.1)
  where
    by : (b : Bool) → run_from k ks ≤ limit → cond b (run_from k ks) w ≤ limit
    by true r = r
    by false r = l

all_above : (w : ℕ) (ks : List ℕ) → rises_above w ks ≡ true → (v : ℕ) → v ≤ w → filter (λ k. nat_lt v k) ks ≡ ks
all_above w [] h v l = refl
all_above w (k ∷ ks) h v l =
    let parts = and_parts (nat_lt w k) (rises_above k ks) h in
    let up = ltb-true w k parts.0 in
    ap (λ b. cond b (k ∷ filter (λ k. nat_lt v k) ks) (filter (λ k. nat_lt v k) ks)) (lt-ltb v k (omega arith)) ∙ ap (λ l. k ∷ l) (all_above k ks parts.1 v (omega arith))

run_up : (w : ℕ) (ks : List ℕ) → w ≤ run_from w ks
run_up w [] = omega arith
run_up w (k ∷ ks) = by (cases_eq k (w + 1)) (run_up k ks)
  where
    by : (k ≡ w + 1) ⊎ (k ≡ w + 1 → ⊥) → k ≤ run_from k ks → w ≤ cond (k == w + 1) (run_from k ks) w
    by (inl e) r = subst (λ b. w ≤ cond b (run_from k ks) w) (sym (eq-eqb k (w + 1) e)) (omega (arith, r, e))
    by (inr o) r = subst (λ b. w ≤ cond b (run_from k ks) w) (sym (ne_eqb k (w + 1) o)) (omega arith)

-- the run and what stands above it are all numbers
pub run_split : (w : ℕ) (ks : List ℕ) → rises_above w ks ≡ true → range_with_len (w + 1) (run_from w ks - w) ++ filter (λ k. nat_lt (run_from w ks) k) ks ≡ ks
run_split w [] h = let none : w - w ≡ 0 = omega arith in ap (λ n. range_with_len (w + 1) n ++ []) none
run_split w (k ∷ ks) h = by (cases_eq k (w + 1)) (and_parts (nat_lt w k) (rises_above k ks) h) (λ e. run_split k ks e)
  where
    by : (k ≡ w + 1) ⊎ (k ≡ w + 1 → ⊥) → (nat_lt w k ≡ true) × (rises_above k ks ≡ true) → (rises_above k ks ≡ true → range_with_len (k + 1) (run_from k ks - k) ++ filter (λ j. nat_lt (run_from k ks) j) ks ≡ ks)
        → range_with_len (w + 1) (cond (k == w + 1) (run_from k ks) w - w) ++ filter (λ j. nat_lt (cond (k == w + 1) (run_from k ks) w) j) (k ∷ ks) ≡ k ∷ ks
    by (inl e) parts rest =
        let r = run_from k ks in
        let up = run_up k ks in
        let n : r - w ≡ suc (r - k) = omega (arith, up, e) in
        let out : nat_lt r k ≡ false = le-ltb r k up in
        let first : w + 1 ≡ k = omega (arith, e) in
        ap (λ b. range_with_len (w + 1) (cond b r w - w) ++ filter (λ j. nat_lt (cond b r w) j) (k ∷ ks)) (eq-eqb k (w + 1) e)
        ∙ ap (λ m. range_with_len (w + 1) m ++ filter (λ j. nat_lt r j) (k ∷ ks)) n
        ∙ ap (λ z. (z ∷ range_with_len (z + 1) (r - k)) ++ filter (λ j. nat_lt r j) (k ∷ ks)) first
        ∙ ap (λ b. k ∷ (range_with_len (k + 1) (r - k) ++ cond b (k ∷ filter (λ j. nat_lt r j) ks) (filter (λ j. nat_lt r j) ks))) out
        ∙ ap (λ l. k ∷ l) (rest parts.1)
    by (inr o) parts rest =
        let none : w - w ≡ 0 = omega arith in
        ap (λ b. range_with_len (w + 1) (cond b (run_from k ks) w - w) ++ filter (λ j. nat_lt (cond b (run_from k ks) w) j) (k ∷ ks)) (ne_eqb k (w + 1) o)
        ∙ ap (λ n. range_with_len (w + 1) n ++ filter (λ j. nat_lt w j) (k ∷ ks)) none
        ∙ all_above w (k ∷ ks) (and_from (nat_lt w k) (rises_above k ks) parts.0 parts.1) w (omega arith)

-- the numbers above the run rise above the one behind it
pub run_rises : (w : ℕ) (ks : List ℕ) → rises_above w ks ≡ true → rises_above (run_from w ks + 1) (filter (λ k. nat_lt (run_from w ks) k) ks) ≡ true
run_rises w [] h = refl
run_rises w (k ∷ ks) h = by (cases_eq k (w + 1)) (and_parts (nat_lt w k) (rises_above k ks) h) (λ e. run_rises k ks e)
  where
    by : (k ≡ w + 1) ⊎ (k ≡ w + 1 → ⊥) → (nat_lt w k ≡ true) × (rises_above k ks ≡ true) → (rises_above k ks ≡ true → rises_above (run_from k ks + 1) (filter (λ j. nat_lt (run_from k ks) j) ks) ≡ true)
        → rises_above (cond (k == w + 1) (run_from k ks) w + 1) (filter (λ j. nat_lt (cond (k == w + 1) (run_from k ks) w) j) (k ∷ ks)) ≡ true
    by (inl e) parts rest =
        let out : nat_lt (run_from k ks) k ≡ false = le-ltb (run_from k ks) k (run_up k ks) in
        ap (λ b. rises_above (cond b (run_from k ks) w + 1) (filter (λ j. nat_lt (cond b (run_from k ks) w) j) (k ∷ ks))) (eq-eqb k (w + 1) e)
        ∙ ap (λ b. rises_above (run_from k ks + 1) (cond b (k ∷ filter (λ j. nat_lt (run_from k ks) j) ks) (filter (λ j. nat_lt (run_from k ks) j) ks))) out
        ∙ rest parts.1
    by (inr o) parts rest =
        let up = ltb-true w k parts.0 in
        ap (λ b. rises_above (cond b (run_from k ks) w + 1) (filter (λ j. nat_lt (cond b (run_from k ks) w) j) (k ∷ ks))) (ne_eqb k (w + 1) o)
        ∙ ap (λ l. rises_above (w + 1) l) (all_above w (k ∷ ks) (and_from (nat_lt w k) (rises_above k ks) parts.0 parts.1) w (omega arith))
        ∙ and_from (nat_lt (w + 1) k) (rises_above k ks) (lt-ltb (w + 1) k (omega (arith, up, o))) parts.1

-- identities in order --------------------------------------------------------------------------------------------

abbrev from_com : ℕ → Identity → Bool
from_com c x = x.peer.0 == c

-- the numbers of a component rise
numbers_above : (c : ℕ) (x : Identity) (xs : List Identity) → x.peer.0 ≡ c → list_all (comes_before x) xs ≡ true → list_all (λ k. nat_lt x.k k) (numbers_from xs c) ≡ true
numbers_above c x [] e h = refl
numbers_above c x (y ∷ ys) e h =
    let parts = and_parts (comes_before x y) (list_all (comes_before x) ys) h in
    by (y.peer.0 == c) refl parts.0 (numbers_above c x ys e parts.1)
  where
    up : (y.peer.0 == c) ≡ true → comes_before x y ≡ true → nat_lt x.k y.k ≡ true
    up p b = grind (arith, nat_tests)

    by : (b : Bool) → (y.peer.0 == c) ≡ b → comes_before x y ≡ true → list_all (λ k. nat_lt x.k k) (numbers_from ys c) ≡ true → list_all (λ k. nat_lt x.k k) (map (λ (z : Identity). z.k) (cond b (y ∷ filter (from_com c) ys) (filter (from_com c) ys))) ≡ true
    by true p b rest = and_from (nat_lt x.k y.k) _ (up p b) rest
    by false p b rest = rest

pub numbers_rise : (c : ℕ) (xs : List Identity) → is_ordered xs ≡ true → is_rising (numbers_from xs c) ≡ true
numbers_rise c [] h = refl
numbers_rise c (x ∷ xs) h =
    let parts = and_parts (list_all (comes_before x) xs) (is_ordered xs) h in
    by (x.peer.0 == c) refl parts.0 (numbers_rise c xs parts.1)
  where
    by : (b : Bool) → (x.peer.0 == c) ≡ b → list_all (comes_before x) xs ≡ true → is_rising (numbers_from xs c) ≡ true → is_rising (map (λ (z : Identity). z.k) (cond b (x ∷ filter (from_com c) xs) (filter (from_com c) xs))) ≡ true
    by true e above rest = and_from (list_all (λ k. nat_lt x.k k) (numbers_from xs c)) _ (numbers_above c x xs (eqb-true x.peer.0 c e) above) rest
    by false e above rest = rest

pub numbers_count : (c : ℕ) (xs : List Identity) → AllByRecursion TakenFits xs → AllByRecursion IsCount (numbers_from xs c)
numbers_count c [] h = tt
numbers_count c (x ∷ xs) h = by (x.peer.0 == c) (numbers_count c xs h.1)
  where
    by : (b : Bool) → AllByRecursion IsCount (numbers_from xs c) → AllByRecursion IsCount (map (λ (z : Identity). z.k) (cond b (x ∷ filter (from_com c) xs) (filter (from_com c) xs)))
    by true rest = (h.0.k, rest)
    by false rest = rest

-- rising counts rise above 0
pub counts_rise : (ks : List ℕ) → AllByRecursion IsCount ks → is_rising ks ≡ true → rises_above 0 ks ≡ true
counts_rise ks h r = rises_from 0 ks (some ks h) r
  where
    some : (ks : List ℕ) → AllByRecursion IsCount ks → list_all (λ k. nat_lt 0 k) ks ≡ true
    some [] h = refl
    some (k ∷ ks) h = and_from (nat_lt 0 k) _ (lt-ltb 0 k (omega (arith, h.0.0))) (some ks h.1)

filter_each : (P : ℕ → Type 0) (p : ℕ → Bool) (ks : List ℕ) → AllByRecursion P ks → AllByRecursion P (filter p ks)
filter_each P p [] h = tt
filter_each P p (k ∷ ks) h = by (p k) (filter_each P p ks h.1)
  where
    by : (b : Bool) → AllByRecursion P (filter p ks) → AllByRecursion P (cond b (k ∷ filter p ks) (filter p ks))
    by true rest = (h.0, rest)
    by false rest = rest

counts_low : (ks : List ℕ) → AllByRecursion IsCount ks → AllByRecursion (λ k. k ≤ GREATEST_NUMBER) ks
counts_low [] h = tt
counts_low (k ∷ ks) h = (h.0.1, counts_low ks h.1)

-- each sender's part fits
abbrev pub IsFew : ℕ × List ℕ → Type 0
IsFew x = length (filter (λ k. nat_lt (run_from 0 x.1) k) x.1) < 2 ^ 32

pub part_fits : (c : ℕ) (ks : List ℕ) → c < 32 → AllByRecursion IsCount ks → IsFew (c, ks) → PartFits (part_of (c, ks))
part_fits c ks l h few = record { from = l; bound = run_low 0 GREATEST_NUMBER ks (omega arith) (counts_low ks h); few = few; above = filter_each IsCount (λ k. nat_lt (run_from 0 ks) k) ks h }

zip_parts : (xs : List (ℕ × List ℕ)) → AllByRecursion (λ x. IsFew x → PartFits (part_of x)) xs → AllByRecursion IsFew xs → AllByRecursion PartFits (map part_of xs)
zip_parts [] h f = tt
zip_parts (x ∷ xs) h f = (h.0 f.0, zip_parts xs h.1 f.1)

pub senders_fit : (taken : List Identity) → AllByRecursion TakenFits taken → AllByRecursion IsFew (senders_of (only_taken taken)) → AllByRecursion PartFits (map part_of (senders_of (only_taken taken)))
senders_fit taken h few = zip_parts (senders_of (only_taken taken)) (groups_all (λ x. IsFew x → PartFits (part_of x)) (numbers_from taken) 0 32 (λ c l m s f. part_fits c (numbers_from taken c) (omega (arith, m)) (numbers_count c taken h) f)) few

rise_all : (xs : List (ℕ × List ℕ)) → AllByRecursion (λ x. rises_above (run_from 0 x.1 + 1) (filter (λ k. nat_lt (run_from 0 x.1) k) x.1) ≡ true) xs → all_rise (map part_of xs) ≡ true
rise_all [] h = refl
rise_all (x ∷ xs) h = and_from (rises_above (run_from 0 x.1 + 1) (filter (λ k. nat_lt (run_from 0 x.1) k) x.1)) _ h.0 (rise_all xs h.1)

pub senders_rise : (taken : List Identity) → AllByRecursion TakenFits taken → is_ordered taken ≡ true → all_rise (map part_of (senders_of (only_taken taken))) ≡ true
senders_rise taken h o =
    rise_all (senders_of (only_taken taken))
    (groups_all (λ x. rises_above (run_from 0 x.1 + 1) (filter (λ k. nat_lt (run_from 0 x.1) k) x.1) ≡ true) (numbers_from taken) 0 32 (λ c l m s. run_rises 0 (numbers_from taken c) (counts_rise (numbers_from taken c) (numbers_count c taken h) (numbers_rise c taken o))))

-- the identities again ----------------------------------------------------------------------------------------------

abbrev named : ℕ → List ℕ → List Identity
named c ns = map (λ k. record { peer = record { 0 = c }; k = k }) ns

part_taken : (c : ℕ) (ks : List ℕ) → rises_above 0 ks ≡ true → taken_by (part_of (c, ks)) ≡ named c ks
part_taken c ks h =
    let r = run_from 0 ks in
    let n : r ≡ r - 0 = omega arith in
    ap (λ m. named c (range_with_len 1 m ++ filter (λ k. nat_lt r k) ks)) n ∙ ap (named c) (run_split 0 ks h)

groups_taken : (f : ℕ → List ℕ) (a n : ℕ) → ((c : ℕ) → rises_above 0 (f c) ≡ true) → flat_map taken_by (map part_of (groups f a n)) ≡ flat_map (λ c. named c (f c)) (range_with_len a n)
groups_taken f a zero h = refl
groups_taken f a (suc n) h = by (f a) refl (groups_taken f (a + 1) n h)
  where
    by : (l : List ℕ) → f a ≡ l → flat_map taken_by (map part_of (groups f (a + 1) n)) ≡ flat_map (λ c. named c (f c)) (range_with_len (a + 1) n)
        → flat_map taken_by (map part_of (cond (nat_lt 0 (length (f a))) (pair a (f a) ∷ groups f (a + 1) n) (groups f (a + 1) n))) ≡ named a (f a) ++ flat_map (λ c. named c (f c)) (range_with_len (a + 1) n)
    by [] e rest =
        ap (λ l. flat_map taken_by (map part_of (cond (nat_lt 0 (length l)) (pair a l ∷ groups f (a + 1) n) (groups f (a + 1) n)))) e
        ∙ rest ∙ sym (ap (λ l. named a l ++ flat_map (λ c. named c (f c)) (range_with_len (a + 1) n)) e)
    by (k ∷ ks) e rest =
        let some : nat_lt 0 (length (f a)) ≡ true = ap (λ l. nat_lt 0 (length l)) e ∙ lt-ltb 0 (suc (length ks)) (omega arith) in
        ap (λ b. flat_map taken_by (map part_of (cond b (pair a (f a) ∷ groups f (a + 1) n) (groups f (a + 1) n)))) some
        ∙ ap (λ l. l ++ flat_map taken_by (map part_of (groups f (a + 1) n))) (part_taken a (f a) (h a))
        ∙ ap (λ l. named a (f a) ++ l) rest

-- the identities of a component, by their numbers
named_again : (c : ℕ) (xs : List Identity) → named c (numbers_from xs c) ≡ filter (from_com c) xs
named_again c [] = refl
named_again c (x ∷ xs) = by (x.peer.0 == c) refl (named_again c xs)
  where
    by : (b : Bool) → (x.peer.0 == c) ≡ b → named c (numbers_from xs c) ≡ filter (from_com c) xs → named c (map (λ (z : Identity). z.k) (cond b (x ∷ filter (from_com c) xs) (filter (from_com c) xs))) ≡ cond b (x ∷ filter (from_com c) xs) (filter (from_com c) xs)
    by true e rest = ap (λ (n : ℕ). record { peer = record { 0 = n }; k = x.k } ∷ named c (numbers_from xs c)) (sym (eqb-true x.peer.0 c e)) ∙ ap (λ l. x ∷ l) rest
    by false e rest = rest

abbrev above_com : ℕ → Identity → Bool
above_com a x = nat_lt a x.peer.0

abbrev in_range : ℕ → ℕ → Identity → Bool
in_range a n x = nat_le a x.peer.0 && nat_lt x.peer.0 (a + n)

nothing_from : (a : ℕ) (xs : List Identity) → list_all (above_com a) xs ≡ true → filter (from_com a) xs ≡ []
nothing_from a [] h = refl
nothing_from a (x ∷ xs) h =
    let parts = and_parts (above_com a x) (list_all (above_com a) xs) h in
    ap (λ b. cond b (x ∷ filter (from_com a) xs) (filter (from_com a) xs)) (ne_eqb x.peer.0 a (λ e. let l = ltb-true a x.peer.0 parts.0 in omega arith)) ∙ nothing_from a xs parts.1

all_kept : (a : ℕ) (xs : List Identity) → list_all (above_com a) xs ≡ true → filter (above_com a) xs ≡ xs
all_kept a [] h = refl
all_kept a (x ∷ xs) h = let parts = and_parts (above_com a x) (list_all (above_com a) xs) h in ap (λ b. cond b (x ∷ filter (above_com a) xs) (filter (above_com a) xs)) parts.0 ∙ ap (λ l. x ∷ l) (all_kept a xs parts.1)

-- behind one of a higher component all are of higher ones
higher_behind : (a : ℕ) (x : Identity) (xs : List Identity) → nat_lt a x.peer.0 ≡ true → list_all (comes_before x) xs ≡ true → list_all (above_com a) xs ≡ true
higher_behind a x [] l h = refl
higher_behind a x (y ∷ ys) l h =
    let parts = and_parts (comes_before x y) (list_all (comes_before x) ys) h in
    and_from (above_com a y) _ (up y parts.0) (higher_behind a x ys l parts.1)
  where
    up : (y : Identity) → comes_before x y ≡ true → nat_lt a y.peer.0 ≡ true
    up y b = grind (arith, nat_tests)

split_com : (a : ℕ) (xs : List Identity) → is_ordered xs ≡ true → list_all (λ (x : Identity). nat_le a x.peer.0) xs ≡ true → xs ≡ filter (from_com a) xs ++ filter (above_com a) xs
split_com a [] o h = refl
split_com a (x ∷ xs) o h =
    let op = and_parts (list_all (comes_before x) xs) (is_ordered xs) o in
    let hp = and_parts (nat_le a x.peer.0) (list_all (λ (x : Identity). nat_le a x.peer.0) xs) h in
    by (cases_eq x.peer.0 a) op.0 (leb-true a x.peer.0 hp.0) (split_com a xs op.1 hp.1)
  where
    by : (x.peer.0 ≡ a) ⊎ (x.peer.0 ≡ a → ⊥) → list_all (comes_before x) xs ≡ true → a ≤ x.peer.0 → xs ≡ filter (from_com a) xs ++ filter (above_com a) xs
        → x ∷ xs ≡ cond (x.peer.0 == a) (x ∷ filter (from_com a) xs) (filter (from_com a) xs) ++ cond (nat_lt a x.peer.0) (x ∷ filter (above_com a) xs) (filter (above_com a) xs)
    by (inl e) above low rest =
        ap (λ l. x ∷ l) rest
        ∙ sym (ap (λ b. cond b (x ∷ filter (from_com a) xs) (filter (from_com a) xs) ++ cond (nat_lt a x.peer.0) (x ∷ filter (above_com a) xs) (filter (above_com a) xs)) (eq-eqb x.peer.0 a e)
        ∙ ap (λ b. (x ∷ filter (from_com a) xs) ++ cond b (x ∷ filter (above_com a) xs) (filter (above_com a) xs)) (le-ltb a x.peer.0 (omega (arith, e))))
    by (inr o) above low rest =
        let up : nat_lt a x.peer.0 ≡ true = lt-ltb a x.peer.0 (omega (arith, low, o)) in
        let all = higher_behind a x xs up above in
        sym (ap (λ b. cond b (x ∷ filter (from_com a) xs) (filter (from_com a) xs) ++ cond (nat_lt a x.peer.0) (x ∷ filter (above_com a) xs) (filter (above_com a) xs)) (ne_eqb x.peer.0 a o)
        ∙ ap (λ b. filter (from_com a) xs ++ cond b (x ∷ filter (above_com a) xs) (filter (above_com a) xs)) up
        ∙ ap (λ l. l ++ (x ∷ filter (above_com a) xs)) (nothing_from a xs all)
        ∙ ap (λ l. x ∷ l) (all_kept a xs all))

filter_all_of : (p q : Identity → Bool) (xs : List Identity) → list_all p xs ≡ true → list_all p (filter q xs) ≡ true
filter_all_of p q [] h = refl
filter_all_of p q (x ∷ xs) h = by (q x) (filter_all_of p q xs (and_parts (p x) (list_all p xs) h).1)
  where
    by : (b : Bool) → list_all p (filter q xs) ≡ true → list_all p (cond b (x ∷ filter q xs) (filter q xs)) ≡ true
    by true rest = and_from (p x) _ (and_parts (p x) (list_all p xs) h).0 rest
    by false rest = rest

filter_ordered : (q : Identity → Bool) (xs : List Identity) → is_ordered xs ≡ true → is_ordered (filter q xs) ≡ true
filter_ordered q [] o = refl
filter_ordered q (x ∷ xs) o =
    let op = and_parts (list_all (comes_before x) xs) (is_ordered xs) o in
    by (q x) (filter_all_of (comes_before x) q xs op.0) (filter_ordered q xs op.1)
  where
    by : (b : Bool) → list_all (comes_before x) (filter q xs) ≡ true → is_ordered (filter q xs) ≡ true → is_ordered (cond b (x ∷ filter q xs) (filter q xs)) ≡ true
    by true all rest = and_from (list_all (comes_before x) (filter q xs)) _ all rest
    by false all rest = rest

-- those of a higher component stand among the higher ones
among_higher : (a c : ℕ) (xs : List Identity) → a < c → filter (from_com c) (filter (above_com a) xs) ≡ filter (from_com c) xs
among_higher a c [] l = refl
among_higher a c (x ∷ xs) l = by (nat_lt a x.peer.0) refl (among_higher a c xs l)
  where
    by : (b : Bool) → nat_lt a x.peer.0 ≡ b → filter (from_com c) (filter (above_com a) xs) ≡ filter (from_com c) xs → filter (from_com c) (cond b (x ∷ filter (above_com a) xs) (filter (above_com a) xs)) ≡ cond (x.peer.0 == c) (x ∷ filter (from_com c) xs) (filter (from_com c) xs)
    by true e rest = ap (λ l. cond (x.peer.0 == c) (x ∷ l) l) rest
    by false e rest = rest ∙ sym (ap (λ b. cond b (x ∷ filter (from_com c) xs) (filter (from_com c) xs)) (ne_eqb x.peer.0 c (λ q. let low = ltb-false a x.peer.0 e in omega arith)))

in_next : (a n : ℕ) (xs : List Identity) → list_all (in_range a (suc n)) xs ≡ true → list_all (in_range (a + 1) n) (filter (above_com a) xs) ≡ true
in_next a n [] h = refl
in_next a n (x ∷ xs) h =
    let parts = and_parts (in_range a (suc n) x) (list_all (in_range a (suc n)) xs) h in
    by (nat_lt a x.peer.0) refl parts.0 (in_next a n xs parts.1)
  where
    by : (b : Bool) → nat_lt a x.peer.0 ≡ b → in_range a (suc n) x ≡ true → list_all (in_range (a + 1) n) (filter (above_com a) xs) ≡ true → list_all (in_range (a + 1) n) (cond b (x ∷ filter (above_com a) xs) (filter (above_com a) xs)) ≡ true
    by true e r rest =
        let both = and_parts (nat_le a x.peer.0) (nat_lt x.peer.0 (a + suc n)) r in
        let up = ltb-true a x.peer.0 e in
        let high = ltb-true x.peer.0 (a + suc n) both.1 in
        and_from (in_range (a + 1) n x) _ (and_from (nat_le (a + 1) x.peer.0) (nat_lt x.peer.0 (a + 1 + n)) (le-leb (a + 1) x.peer.0 (omega arith)) (lt-ltb x.peer.0 (a + 1 + n) (omega arith))) rest
    by false e r rest = rest

low_all : (a n : ℕ) (xs : List Identity) → list_all (in_range a n) xs ≡ true → list_all (λ (x : Identity). nat_le a x.peer.0) xs ≡ true
low_all a n [] h = refl
low_all a n (x ∷ xs) h =
    let parts = and_parts (in_range a n x) (list_all (in_range a n) xs) h in
    and_from (nat_le a x.peer.0) _ (and_parts (nat_le a x.peer.0) (nat_lt x.peer.0 (a + n)) parts.0).0 (low_all a n xs parts.1)

none_in : (a : ℕ) (xs : List Identity) → list_all (in_range a 0) xs ≡ true → xs ≡ []
none_in a [] h = refl
none_in a (x ∷ xs) h =
    let parts = and_parts (in_range a 0 x) (list_all (in_range a 0) xs) h in
    let both = and_parts (nat_le a x.peer.0) (nat_lt x.peer.0 (a + 0)) parts.0 in
    let low = leb-true a x.peer.0 both.0 in
    let high = ltb-true x.peer.0 (a + 0) both.1 in
    absurd (omega arith)

same_map : (f g : ℕ → List Identity) (a n : ℕ) → ((c : ℕ) → a ≤ c → f c ≡ g c) → flat_map f (range_with_len a n) ≡ flat_map g (range_with_len a n)
same_map f g a zero h = refl
same_map f g a (suc n) h = ap (λ l. l ++ flat_map f (range_with_len (a + 1) n)) (h a (omega arith)) ∙ ap (λ l. g a ++ l) (same_map f g (a + 1) n (λ c l. h c (omega arith)))

together : (a n : ℕ) (xs : List Identity) → is_ordered xs ≡ true → list_all (in_range a n) xs ≡ true → flat_map (λ c. filter (from_com c) xs) (range_with_len a n) ≡ xs
together a zero xs o h = sym (none_in a xs h)
together a (suc n) xs o h =
    let rest = together (a + 1) n (filter (above_com a) xs) (filter_ordered (above_com a) xs o) (in_next a n xs h) in
    ap (λ l. filter (from_com a) xs ++ l) (same_map (λ c. filter (from_com c) xs) (λ c. filter (from_com c) (filter (above_com a) xs)) (a + 1) n (λ c l. sym (among_higher a c xs (omega arith))) ∙ rest)
    ∙ sym (split_com a xs o (low_all a (suc n) xs h))

in_all : (xs : List Identity) → AllByRecursion TakenFits xs → list_all (in_range 0 32) xs ≡ true
in_all [] h = refl
in_all (x ∷ xs) h = and_from (in_range 0 32 x) _ (and_from (nat_le 0 x.peer.0) (nat_lt x.peer.0 32) (le-leb 0 x.peer.0 (omega arith)) (lt-ltb x.peer.0 32 h.0.peer)) (in_all xs h.1)

pub taken_again : (taken : List Identity) → AllByRecursion TakenFits taken → is_ordered taken ≡ true → flat_map taken_by (map part_of (senders_of (only_taken taken))) ≡ taken
taken_again taken h o =
    groups_taken (numbers_from taken) 0 32 (λ c. counts_rise (numbers_from taken c) (numbers_count c taken h) (numbers_rise c taken o))
    ∙ same_map (λ c. named c (numbers_from taken c)) (λ c. filter (from_com c) taken) 0 32 (λ c l. named_again c taken)
    ∙ together 0 32 taken o (in_all taken h)

filter_few : {X : Type 0} (p : X → Bool) (xs : List X) → length (filter p xs) ≤ length xs
filter_few p [] = omega arith
filter_few p (x ∷ xs) = by (p x) (filter_few p xs)
  where
    by : (b : Bool) → length (filter p xs) ≤ length xs → length (cond b (x ∷ filter p xs) (filter p xs)) ≤ suc (length xs)
    by true l = omega (arith, l)
    by false l = omega (arith, l)

-- there are no more senders than components
pub senders_few : (i : Inbox) → length (senders_of i) ≤ 32
senders_few i = filter_few has_some (map (λ c. (c, taken_from i c)) (range_with_len 0 32))
