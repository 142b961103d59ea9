-- Bytes that are read as a state pass every test.
use Rattle.std.proofs.Common.{◌≡◌, ◌∙◌, sym, ap, subst, refl, ℕ, zero, suc, ◌+◌, ◌^◌, ◌<◌, ◌≤◌, Bool, true, false, cond, List, [], ◌∷◌, ◌++◌, length, map, arith, Option, Some, None, length-append, ◌⊎◌, inl, inr, ℤ}
use Rattle.std.specs.Prelude.{◌&&◌, ◌||◌, ◌==◌, nat_lt, nat_le, filter, Result, Ok, option_and_then}
use Rattle.std.specs.List.{list_all, range_with_len, flat_map, AllByRecursion}
use Rattle.std.specs.Int.{w8, w32, to_be_bytes}
use Rattle.std.proofs.lemmas.Bool.{and_parts, and_from, eqb-true, lt-ltb, ltb-true, le-leb, ne_eqb, cases_lt, cases_eq}
use Rattle.ic_base.specs.declared.limits.TheConstants.{GREATEST_NUMBER, VALUES}
use Rattle.ic_base.specs.declared.messages.ComId.{ComId}
use Rattle.ic_base.specs.declared.scenario.Program.{Program}
use Rattle.ic_base.specs.Programs.{same_com, is_other_pcom}
use Rattle.def_log.specs.Spelling.{number, value, IsCount}
use Rattle.def_log.specs.Reading.{number_at, time_at, value_at, values_at}
use Rattle.def_log.proofs.Takes.{IsBytes}
use Rattle.def_log.proofs.Takes.{came as some_came, some_is}
use Rattle.def_state.specs.Names.{Identity, number_of}
use Rattle.def_state.specs.Outbox.{Held}
use Rattle.def_state.specs.Shelf.{Waiting}
use Rattle.def_state.specs.Inbox.{Inbox}
use Rattle.def_state.specs.Vol.{Vol, first_vol}
use Rattle.def_state.specs.Image.{many_at, last_at, output_at, link_at, message_at, part_at, sender_at, rises_above, is_rising, run_from, senders_of, sender_bytes, counted, listed, image_of, image_fits, last_fits, output_fits, link_fits, message_fits, numbers_to, all_coms, last_bytes, output_bytes, message_bytes, link_bytes, same_bytes, if_image, read_image, fields_at}
use Rattle.def_state.specs.ImagePlaces.{image}
use Rattle.law_image.specs.Readable.{TakenFits}
use Rattle.law_image.proofs.Items.{Part, many_values, are_numbers}
use Rattle.law_image.proofs.Places.{Parts, vol_of, IsListed, IsRead, PassesTests}
use Rattle.law_image.proofs.Whole.{taken_by, all_rise, all_together, image_goes}
use Rattle.law_image.proofs.Tests.{last_is, rises_from, outputs_go, links_go, sender_fits, senders_go, messages_go, numbers_in, have_few}
use Rattle.law_image.proofs.Spelled.{part_bytes, PartFits, parts_spell, many_again, WaitingFits, HeldFits}
use Rattle.law_image.proofs.Texts.{AreSpelled, text_of, senders_text, read_text}
use Rattle.law_image.proofs.Grouped.{numbers_of, taken_in, numbers_from, only_taken, part_of, is_filled, filled_is}
use Rattle.law_image.proofs.Exact.{with_senders, taken_fits, image_text}
use Rattle.law_image.proofs.Canonical.{groups, groups_all, groups_rise, numbers_count, IsFew, senders_fit}

-- the fields from which a state was read -------------------------------------------------------------------

then_some : {A B R : Type 0} (o : Option A) (f : A → Option B) (y : B) → option_and_then f o ≡ Some y → ((x : A) → o ≡ Some x → f x ≡ Some y → R) → R
then_some None f y e k = absurd cc
then_some (Some x) f y e k = k x refl e

abbrev some : {A : Type 0} → A → Option A
some x = Some x

met : {A : Type 0} (b : Bool) (x y : A) → cond b (Some x) None ≡ some y → (b ≡ true) × (x ≡ y)
met true x y e = (refl, some_is x y e)
met false x y e = absurd cc

sender_came : (bytes : List ℕ) (x : List Identity × List ℕ) → sender_at bytes ≡ Some x → (s : Part × List ℕ) × (part_at bytes ≡ Some s) × (rises_above (s.0.1 + 1) s.0.2 ≡ true) × (x ≡ (taken_by s.0, s.1))
unfolding sender_at
sender_came bytes x e =
    let s = some_came _ (part_at bytes) x e in
    let m = met (rises_above (s.0.0.1 + 1) s.0.0.2) (taken_by s.0.0, s.0.1) x s.2 in
    (s.0, s.1, m.0, sym m.1)

senders_came : (n : ℕ) (bytes : List ℕ) (xs : List (List Identity) × List ℕ) → many_at sender_at n bytes ≡ Some xs → (ps : List Part × List ℕ) × (many_at part_at n bytes ≡ Some ps) × (all_rise ps.0 ≡ true) × (xs ≡ (map taken_by ps.0, ps.1))
unfolding many_at
senders_came zero bytes xs e =
    let none : List Part × List ℕ = ([], bytes) in
    let nothing : List (List Identity) × List ℕ = ([], bytes) in
    (none, refl, refl, sym (some_is nothing xs e))
senders_came (suc n) bytes xs e =
    let x = some_came _ (sender_at bytes) xs e in
    let ys = some_came _ (many_at sender_at n x.0.1) xs x.2 in
    let s = sender_came bytes x.0 x.1 in
    let behind : x.0.1 ≡ s.0.1 = ap (λ (z : List Identity × List ℕ). z.1) s.3 in
    let ss = senders_came n s.0.1 ys.0 (ap (many_at sender_at n) (sym behind) ∙ ys.1) in
    let whole : List (List Identity) × List ℕ = (x.0.0 ∷ ys.0.0, ys.0.1) in (
      (s.0.0 ∷ ss.0.0, ss.0.1),
      ap (option_and_then (λ (z : Part × List ℕ). option_and_then (λ (zs : List Part × List ℕ). joined z.0 zs) (many_at part_at n z.1))) s.1 ∙ ap (option_and_then (λ (zs : List Part × List ℕ). joined s.0.0 zs)) ss.1,
      and_from (rises_above (s.0.0.1 + 1) s.0.0.2) _ s.2 ss.2,
      sym (some_is whole xs ys.2) ∙ ap (λ (z : List Identity × List ℕ). both z.0 ys.0) s.3 ∙ ap (λ (zs : List (List Identity) × List ℕ). both (taken_by s.0.0) zs) ss.3,
    )
  where
    joined : Part → List Part × List ℕ → Option (List Part × List ℕ)
    joined z zs = Some (z ∷ zs.0, zs.1)

    both : List Identity → List (List Identity) × List ℕ → List (List Identity) × List ℕ
    both z zs = (z ∷ zs.0, zs.1)

record FieldsRead (c : ComId) (bytes : List ℕ) (y : Vol × List ℕ) : Type 0 where
  parts : Parts
  read : IsRead c bytes parts y.1
  rise : all_rise parts.senders ≡ true
  is : y.0 ≡ vol_of parts

abbrev with_taken : Parts → List Identity → List ℕ → Vol × List ℕ
with_taken p taken rest = (record (vol_of p) { inbox = record { taken = taken; receipts = [] } }, rest)

gathered : (c : ComId) (bytes : List ℕ) (p : Parts) (rest : List ℕ) (xs : List (List Identity)) (y : Vol × List ℕ) → IsRead c bytes p rest → all_rise p.senders ≡ true → xs ≡ map taken_by p.senders → with_taken p (flat_map (λ (x : List Identity). x) xs) rest ≡ y → FieldsRead c bytes y
gathered c bytes p rest xs y r rise e g =
    let same : (vol_of p, rest) ≡ y = ap (λ l. with_taken p l rest) (sym (ap (flat_map (λ (x : List Identity). x)) e ∙ all_together p.senders)) ∙ g in
    record { parts = p; read = subst (λ (z : Vol × List ℕ). IsRead c bytes p z.1) same r; rise = rise; is = sym (ap (λ (z : Vol × List ℕ). z.0) same) }

fields_came : (program : Program) (c : ComId) (bytes : List ℕ) (y : Vol × List ℕ) → fields_at program c bytes ≡ Some y → FieldsRead c bytes y
unfolding fields_at
fields_came program c bytes y e =
    then_some (time_at bytes) _ y e (λ clock e1 k1.
    then_some (number_at w8 clock.1) _ y k1 (λ n2 e2 k2.
    then_some (values_at n2.0 n2.1) _ y k2 (λ vars e3 k3.
    then_some (time_at vars.1) _ y k3 (λ begun e4 k4.
    then_some (last_at begun.1) _ y k4 (λ last e5 k5.
    then_some (time_at last.1) _ y k5 (λ made e6 k6.
    then_some (number_at w32 made.1) _ y k6 (λ n7 e7 k7.
    then_some (many_at output_at n7.0 n7.1) _ y k7 (λ waiting e8 k8.
    then_some (number_at w8 waiting.1) _ y k8 (λ n9 e9 k9.
    then_some (many_at link_at n9.0 n9.1) _ y k9 (λ links e10 k10.
    then_some (number_at w32 links.1) _ y k10 (λ n11 e11 k11.
    then_some (many_at (message_at c) n11.0 n11.1) _ y k11 (λ held e12 k12.
    then_some (number_at w8 held.1) _ y k12 (λ n13 e13 k13.
    then_some (many_at sender_at n13.0 n13.1) _ y k13 (λ taken e14 k14.
    ended clock n2 vars begun last made n7 waiting n9 links n11 held n13 taken (senders_came n13.0 n13.1 taken e14) e1 e2 e3 e4 e5 e6 e7 e8 e9 e10 e11 e12 e13 (some_is (with_taken (parts_in clock.0 vars.0 begun.0 last.0 made.0 waiting.0 links.0 held.0 []) (flat_map (λ xs. xs) taken.0) taken.1) y k14)))))))))))))))
  where
    parts_in : ℕ → List ℤ → ℕ → Option (ComId × ℕ) → ℕ → List Waiting → List (ComId × ℕ) → List Held → List Part → Parts
    parts_in clock vars begun last made waiting links held senders = record { clock = clock; vars = vars; begun = begun; last = last; made = made; waiting = waiting; links = links; held = held; senders = senders }

    only : List Part → List ℕ → Option (List Part × List ℕ)
    only xs rest = Some (xs, rest)

    ended : (clock : ℕ × List ℕ) (n2 : ℕ × List ℕ) (vars : List ℤ × List ℕ) (begun : ℕ × List ℕ) (last : Option (ComId × ℕ) × List ℕ) (made n7 : ℕ × List ℕ) (waiting : List Waiting × List ℕ) (n9 : ℕ × List ℕ) (links : List (ComId × ℕ) × List ℕ) (n11 : ℕ × List ℕ) (held : List Held × List ℕ) (n13 : ℕ × List ℕ) (taken : List (List Identity) × List ℕ)
        → (ps : List Part × List ℕ) × (many_at part_at n13.0 n13.1 ≡ Some ps) × (all_rise ps.0 ≡ true) × (taken ≡ (map taken_by ps.0, ps.1))
        → time_at bytes ≡ Some clock → number_at w8 clock.1 ≡ Some n2 → values_at n2.0 n2.1 ≡ Some vars → time_at vars.1 ≡ Some begun → last_at begun.1 ≡ Some last → time_at last.1 ≡ Some made → number_at w32 made.1 ≡ Some n7 → many_at output_at n7.0 n7.1 ≡ Some waiting → number_at w8 waiting.1 ≡ Some n9 → many_at link_at n9.0 n9.1 ≡ Some links → number_at w32 links.1 ≡ Some n11 → many_at (message_at c) n11.0 n11.1 ≡ Some held → number_at w8 held.1 ≡ Some n13
        → with_taken (parts_in clock.0 vars.0 begun.0 last.0 made.0 waiting.0 links.0 held.0 []) (flat_map (λ (xs : List Identity). xs) taken.0) taken.1 ≡ y → FieldsRead c bytes y
    ended clock n2 vars begun last made n7 waiting n9 links n11 held n13 taken ps e1 e2 e3 e4 e5 e6 e7 e8 e9 e10 e11 e12 e13 g =
        let p = parts_in clock.0 vars.0 begun.0 last.0 made.0 waiting.0 links.0 held.0 ps.0.0 in
        gathered c bytes p taken.1 taken.0 y
        (record {
          b1 = clock.1;
          clock = e1;
          b2 = vars.1;
          vars = record { n = n2.0; front = n2.1; count_is = e2; items_are = many_values n2.0 n2.1 ∙ e3 };
          b3 = begun.1;
          begun = e4;
          b4 = last.1;
          last = e5;
          b5 = made.1;
          made = e6;
          b6 = waiting.1;
          waiting = record { n = n7.0; front = n7.1; count_is = e7; items_are = e8 };
          b7 = links.1;
          links = record { n = n9.0; front = n9.1; count_is = e9; items_are = e10 };
          b8 = held.1;
          held = record { n = n11.0; front = n11.1; count_is = e11; items_are = e12 };
          senders = record { n = n13.0; front = n13.1; count_is = e13; items_are = ps.1 ∙ ap (λ (z : List ℕ). only ps.0.0 z) (sym (ap (λ (z : List (List Identity) × List ℕ). z.1) ps.3)) };
        })
        ps.2 (ap (λ (z : List (List Identity) × List ℕ). z.0) ps.3) g

-- the senders -------------------------------------------------------------------------------------------------

abbrev rest_of : List ℕ → List ℕ
rest_of [] = []
rest_of (x ∷ xs) = xs

cancel : (xs : List ℕ) {ys zs : List ℕ} → xs ++ ys ≡ xs ++ zs → ys ≡ zs
cancel [] e = e
cancel (x ∷ xs) {ys} {zs} e = cancel xs (ap tail e)
  where
    tail : List ℕ → List ℕ
    tail [] = []
    tail (x ∷ xs) = xs

-- what follows the same fields is the same
same_end : (p : Parts) (qs : List Part) (rest : List ℕ) → text_of (with_senders p qs) [] ≡ text_of p rest → senders_text (with_senders p qs) [] ≡ senders_text p rest
same_end p qs rest e =
    cancel (flat_map (λ h. message_bytes h.msg) p.held)
    (cancel (to_be_bytes w32 (length p.held))
    (cancel (flat_map link_bytes p.links)
    (cancel (length p.links ∷ [])
    (cancel (flat_map (λ w. output_bytes w.output) p.waiting)
    (cancel (to_be_bytes w32 (length p.waiting))
    (cancel (number p.made)
    (cancel (last_bytes p.last)
    (cancel (number p.begun)
    (cancel (flat_map value p.vars)
    (cancel (length p.vars ∷ [])
    (cancel (number p.clock) e)))))))))))

-- the same senders are read, with nothing behind
same_senders : (qs ps : List Part) (rest : List ℕ) → AllByRecursion PartFits qs → AllByRecursion PartFits ps → (length qs ∷ flat_map part_bytes qs) ++ [] ≡ (length ps ∷ flat_map part_bytes ps) ++ rest → (qs ≡ ps) × ([] ≡ rest)
same_senders qs ps rest f g e =
    let count : length qs ≡ length ps = ap head e in
    let bytes : flat_map part_bytes qs ++ [] ≡ flat_map part_bytes ps ++ rest = ap rest_of e in
    let both : (qs, []) ≡ (ps, rest) = some_is (qs, []) (ps, rest) (sym (many_again parts_spell qs [] f) ∙ ap (λ n. many_at part_at n (flat_map part_bytes qs ++ [])) count ∙ ap (many_at part_at (length ps)) bytes ∙ many_again parts_spell ps rest g) in
    (ap (λ (z : List Part × List ℕ). z.0) both, ap (λ (z : List Part × List ℕ). z.1) both)
  where
    head : List ℕ → ℕ
    head [] = 0
    head (x ∷ xs) = x

taken_all : (ss : List Part) → AllByRecursion PartFits ss → AllByRecursion TakenFits (taken_in ss)
taken_all [] h = tt
taken_all (s ∷ ss) h = both (taken_by s) (taken_in ss) (one s.0 (numbers_of s) h.0.from (joined (range_with_len 1 s.1) s.2 (ranged 1 s.1 (omega arith) (omega (arith, h.0.bound))) h.0.above)) (taken_all ss h.1)
  where
    both : (xs ys : List Identity) → AllByRecursion TakenFits xs → AllByRecursion TakenFits ys → AllByRecursion TakenFits (xs ++ ys)
    both [] ys f g = g
    both (x ∷ xs) ys f g = (f.0, both xs ys f.1 g)

    one : (c : ComId) (ns : List ℕ) → c.0 < 32 → AllByRecursion IsCount ns → AllByRecursion TakenFits (map (λ k. record { peer = c; k = k }) ns)
    one c [] l f = tt
    one c (n ∷ ns) l f = (record { peer = l; k = f.0 }, one c ns l f.1)

    joined : (xs ys : List ℕ) → AllByRecursion IsCount xs → AllByRecursion IsCount ys → AllByRecursion IsCount (xs ++ ys)
    joined [] ys f g = g
    joined (x ∷ xs) ys f g = (f.0, joined xs ys f.1 g)

    ranged : (a n : ℕ) → 1 ≤ a → a + n ≤ GREATEST_NUMBER + 1 → AllByRecursion IsCount (range_with_len a n)
    ranged a zero l m = tt
    ranged a (suc n) l m = ((l, omega (arith, m)), ranged (a + 1) n (omega (arith, l)) (omega (arith, m)))

-- a sender has no more numbers than bytes
numbers_length : (ks : List ℕ) → length ks ≤ length (flat_map number ks)
numbers_length [] = omega arith
numbers_length (k ∷ ks) = omega (arith, length-append (number k) (flat_map number ks), numbers_length ks)

abbrev above_of : ℕ × List ℕ → List ℕ
above_of x = filter (λ k. nat_lt (run_from 0 x.1) k) x.1

pub few_each : (xs : List (ℕ × List ℕ)) (limit : ℕ) → length (flat_map sender_bytes xs) < limit → AllByRecursion (λ x. length (filter (λ k. nat_lt (run_from 0 x.1) k) x.1) < limit) xs
few_each [] limit l = tt
few_each (x ∷ xs) limit l =
    let whole = length-append (sender_bytes x) (flat_map sender_bytes xs) in
    let one = length-append (number (run_from 0 x.1)) (listed number (above_of x)) in
    let two = length-append (to_be_bytes w32 (length (above_of x))) (flat_map number (above_of x)) in
    let numbers = numbers_length (above_of x) in
    (omega (arith, whole, one, two, numbers, l), few_each xs limit (omega (arith, whole, l)))

-- each sender has a number
or_none : (ks : List ℕ) → AllByRecursion IsCount ks → nat_lt 0 (length ks) ≡ true → (nat_lt 0 (run_from 0 ks) || nat_lt 0 (length (filter (λ k. nat_lt (run_from 0 ks) k) ks))) ≡ true
or_none [] h s = absurd (let l = ltb-true 0 0 s in omega arith)
or_none (k ∷ ks) h s = by (run_from 0 (k ∷ ks))
  where
    by : (r : ℕ) → (nat_lt 0 r || nat_lt 0 (length (filter (λ j. nat_lt r j) (k ∷ ks)))) ≡ true
    by zero = ap (λ b. nat_lt 0 0 || nat_lt 0 (length (cond b (k ∷ filter (λ j. nat_lt 0 j) ks) (filter (λ j. nat_lt 0 j) ks)))) (lt-ltb 0 k (omega (arith, h.0.0))) ∙ lt-ltb 0 (suc (length (filter (λ j. nat_lt 0 j) ks))) (omega arith)
    by (suc r) = ap (λ b. b || nat_lt 0 (length (filter (λ j. nat_lt (suc r) j) (k ∷ ks)))) (lt-ltb 0 (suc r) (omega arith))

filled_all : (xs : List (ℕ × List ℕ)) → AllByRecursion (λ x. (nat_lt 0 (run_from 0 x.1) || nat_lt 0 (length (filter (λ k. nat_lt (run_from 0 x.1) k) x.1))) ≡ true) xs → list_all (λ (s : Part). nat_lt 0 s.1 || nat_lt 0 (length s.2)) (map part_of xs) ≡ true
filled_all [] h = refl
filled_all (x ∷ xs) h = and_from (nat_lt 0 (run_from 0 x.1) || nat_lt 0 (length (filter (λ k. nat_lt (run_from 0 x.1) k) x.1))) _ h.0 (filled_all xs h.1)

coms_of : (xs : List (ℕ × List ℕ)) → map (λ (s : Part). s.0.0) (map part_of xs) ≡ map (λ (x : ℕ × List ℕ). x.0) xs
coms_of [] = refl
coms_of (x ∷ xs) = ap (λ l. x.0 ∷ l) (coms_of xs)

-- parts whose identities fit and that have numbers are of other Pcoms
parts_pass : (program : Program) (c : ComId) (ss : List Part) → list_all (taken_fits program c) (taken_in ss) ≡ true → list_all (λ (s : Part). nat_lt 0 s.1 || nat_lt 0 (length s.2)) ss ≡ true → all_rise ss ≡ true → list_all (sender_fits program c) ss ≡ true
parts_pass program c [] h f r = refl
parts_pass program c (s ∷ ss) h f r =
    let fp = and_parts (nat_lt 0 s.1 || nat_lt 0 (length s.2)) _ f in
    let rp = and_parts (rises_above (s.1 + 1) s.2) (all_rise ss) r in
    let hp = split (taken_by s) (taken_in ss) h in
    and_from (sender_fits program c s) _ (and_from (is_other_pcom program c s.0) (are_numbers s.1 s.2) (first (numbers_of s) (filled_is s fp.0) hp.0) (and_from (nat_lt 0 s.1 || nat_lt 0 (length s.2)) _ fp.0 rp.0)) (parts_pass program c ss hp.1 fp.1 rp.1)
  where
    split : (xs ys : List Identity) → list_all (taken_fits program c) (xs ++ ys) ≡ true → (list_all (taken_fits program c) xs ≡ true) × (list_all (taken_fits program c) ys ≡ true)
    split [] ys h = (refl, h)
    split (x ∷ xs) ys h =
        let parts = and_parts (taken_fits program c x) (list_all (taken_fits program c) (xs ++ ys)) h in
        let rest = split xs ys parts.1 in (and_from (taken_fits program c x) _ parts.0 rest.0, rest.1)

    first : (ns : List ℕ) → nat_lt 0 (length ns) ≡ true → list_all (taken_fits program c) (map (λ k. record { peer = s.0; k = k }) ns) ≡ true → is_other_pcom program c s.0 ≡ true
    first [] l h = absurd (let m = ltb-true 0 0 l in omega arith)
    first (n ∷ ns) l h = (and_parts (is_other_pcom program c s.0) (nat_le n GREATEST_NUMBER) (and_parts (taken_fits program c (record { peer = s.0; k = n })) _ h).0).0

-- the other tests --------------------------------------------------------------------------------------------

outputs_count : (ws : List Waiting) → AllByRecursion WaitingFits ws → list_all (λ k. nat_lt 0 k) (map (λ (w : Waiting). w.output.m) ws) ≡ true
outputs_count [] h = refl
outputs_count (w ∷ ws) h = and_from (nat_lt 0 w.output.m) _ (lt-ltb 0 w.output.m (omega (arith, h.0.fits.m.0))) (outputs_count ws h.1)

messages_few : (c : ComId) (hs : List Held) → AllByRecursion (HeldFits c) hs → have_few hs ≡ true
messages_few c [] f = refl
messages_few c (h ∷ hs) f = and_from (nat_le (length h.msg.args) VALUES) _ (le-leb (length h.msg.args) VALUES f.0.fits.few) (messages_few c hs f.1)

messages_count : (c to : ComId) (hs : List Held) → AllByRecursion (HeldFits c) hs → list_all (λ k. nat_lt 0 k) (numbers_in hs to) ≡ true
messages_count c to [] f = refl
messages_count c to (h ∷ hs) f = by (same_com to h.msg.to) (messages_count c to hs f.1)
  where
    by : (b : Bool) → list_all (λ k. nat_lt 0 k) (numbers_in hs to) ≡ true → list_all (λ k. nat_lt 0 k) (map (λ (h : Held). h.msg.k) (cond b (h ∷ filter (λ h. same_com to h.msg.to) hs) (filter (λ h. same_com to h.msg.to) hs))) ≡ true
    by true rest = and_from (nat_lt 0 h.msg.k) _ (lt-ltb 0 h.msg.k (omega (arith, f.0.fits.k.0))) rest
    by false rest = rest

no_messages : (c to : ComId) (hs : List Held) → 32 ≤ to.0 → AllByRecursion (HeldFits c) hs → numbers_in hs to ≡ []
no_messages c to [] l f = refl
no_messages c to (h ∷ hs) l f =
    ap (λ b. map (λ (h : Held). h.msg.k) (cond b (h ∷ filter (λ h. same_com to h.msg.to) hs) (filter (λ h. same_com to h.msg.to) hs))) (ne_eqb to.0 h.msg.to.0 (λ e. omega (arith, e, f.0.fits.to))) ∙ no_messages c to hs l f.1

range_each : (p : ComId → Bool) (a n i : ℕ) → list_all p (map (λ i. record { 0 = i }) (range_with_len a n)) ≡ true → a ≤ i → i < a + n → p (record { 0 = i }) ≡ true
range_each p a zero i h l m = absurd (omega arith)
range_each p a (suc n) i h l m = by (cases_eq i a) (and_parts (p (record { 0 = a })) _ h) (λ up. range_each p (a + 1) n i (and_parts (p (record { 0 = a })) _ h).1 up (omega (arith, m)))
  where
    by : (i ≡ a) ⊎ (i ≡ a → ⊥) → (p (record { 0 = a }) ≡ true) × (list_all p (map (λ i. record { 0 = i }) (range_with_len (a + 1) n)) ≡ true) → (a + 1 ≤ i → p (record { 0 = i }) ≡ true) → p (record { 0 = i }) ≡ true
    by (inl e) parts rest = ap (λ (z : ℕ). p (record { 0 = z })) e ∙ parts.0
    by (inr o) parts rest = rest (omega (arith, l, o))

messages_rise : (c : ComId) (p : Parts) → AllByRecursion (HeldFits c) p.held → list_all (λ to. is_rising (numbers_to (vol_of p).outbox to)) all_coms ≡ true → (to : ComId) → rises_above 0 (numbers_in p.held to) ≡ true
messages_rise c p f h to = by (cases_lt to.0 32)
  where
    by : (to.0 < 32) ⊎ (32 ≤ to.0) → rises_above 0 (numbers_in p.held to) ≡ true
    by (inl l) = rises_from 0 (numbers_in p.held to) (messages_count c to p.held f) (range_each (λ to. is_rising (numbers_to (vol_of p).outbox to)) 0 32 to.0 h (omega arith) (omega (arith, l)))
    by (inr l) = ap (rises_above 0) (no_messages c to p.held l f)

same_eq : (xs ys : List ℕ) → same_bytes xs ys ≡ true → xs ≡ ys
same_eq [] [] e = refl
same_eq [] (y ∷ ys) e = absurd cc
same_eq (x ∷ xs) [] e = absurd cc
same_eq (x ∷ xs) (y ∷ ys) e =
    let parts = and_parts (x == y) (same_bytes xs ys) e in
    ap (λ z. z ∷ xs) (eqb-true x y parts.0) ∙ ap (λ l. y ∷ l) (same_eq xs ys parts.1)

-- the senders of a state that was read from its image, by its bytes
record SendersPass (program : Program) (c : ComId) (p : Parts) (rest : List ℕ) : Type 0 where
  fits : list_all (sender_fits program c) p.senders ≡ true
  rising : is_rising (map (λ (s : Part). s.0.0) p.senders) ≡ true
  none : [] ≡ rest

senders_pass : (program : Program) (c : ComId) (p : Parts) (rest : List ℕ) → AreSpelled c p → all_rise p.senders ≡ true → list_all (taken_fits program c) (taken_in p.senders) ≡ true → length (image_of (vol_of p)) < 2 ^ 32 → image_of (vol_of p) ≡ text_of p rest → SendersPass program c p rest
senders_pass program c p rest f rise taken small e =
    let i = only_taken (taken_in p.senders) in
    let qs = map part_of (senders_of i) in
    let fit = taken_all p.senders f.senders in
    let whole = image_text (vol_of p) in
    let front = length-append (front_of (vol_of p)) (counted sender_bytes (senders_of i)) in
    let few : AllByRecursion IsFew (senders_of i) = few_each (senders_of i) (2 ^ 32) (omega (arith, front, small)) in
    let same = same_senders qs p.senders rest (senders_fit (taken_in p.senders) fit few) f.senders (same_end p qs rest (sym whole ∙ e)) in
    let filled = filled_all (senders_of i) (groups_all (λ x. (nat_lt 0 (run_from 0 x.1) || nat_lt 0 (length (filter (λ k. nat_lt (run_from 0 x.1) k) x.1))) ≡ true) (numbers_from (taken_in p.senders)) 0 32 (λ c l m s. or_none (numbers_from (taken_in p.senders) c) (numbers_count c (taken_in p.senders) fit) s)) in
    record {
      fits = parts_pass program c p.senders taken (ap (list_all (λ (s : Part). nat_lt 0 s.1 || nat_lt 0 (length s.2))) (sym same.0) ∙ filled) rise;
      rising = ap (λ ss. is_rising (map (λ (s : Part). s.0.0) ss)) (sym same.0) ∙ ap is_rising (coms_of (senders_of i)) ∙ groups_rise (numbers_from (taken_in p.senders)) 0 32;
      none = same.1;
    }
  where
    front_of : Vol → List ℕ
    front_of v = number v.clock ++ counted value v.vars ++ number v.txn.begun ++ last_bytes v.txn.last ++ number v.shelf.made ++ listed (λ w. output_bytes w.output) v.shelf.waiting ++ counted link_bytes v.outbox.links ++ listed (λ h. message_bytes h.msg) v.outbox.held

-- bytes that are read as a state are an image
pub read_passes : (program : Program) (c : ComId) (bytes : List ℕ) (v : Vol) → IsBytes bytes → length bytes < 2 ^ 32 → read_image program c bytes ≡ Some v → image program c bytes ≡ Ok (0, [])
unfolding read_image
read_passes program c bytes v fits small e =
    let y = some_came (if_image program c bytes) (fields_at program c bytes) v e in
    let m = met (image_fits program c y.0.0 && same_bytes (image_of y.0.0) bytes) y.0.0 v y.2 in
    let b = and_parts (image_fits program c y.0.0) (same_bytes (image_of y.0.0) bytes) m.0 in
    let r = fields_came program c bytes y.0 y.1 in
    passes r.parts y.0.1 r.read r.rise (subst (λ z. image_fits program c z ≡ true) r.is b.0) (ap image_of (sym r.is) ∙ same_eq (image_of y.0.0) bytes b.1)
  where
    passes : (p : Parts) (rest : List ℕ) → IsRead c bytes p rest → all_rise p.senders ≡ true → image_fits program c (vol_of p) ≡ true → image_of (vol_of p) ≡ bytes → image program c bytes ≡ Ok (0, [])
    passes p rest r rise h same =
        let u = vol_of p in
        let text = read_text c bytes p rest fits r in
        let a1 = and_parts (length p.vars == length (first_vol program c).vars) _ h in
        let a2 = and_parts (last_fits program u.txn p.last) _ a1.1 in
        let a3 = and_parts (list_all (output_fits program u.shelf) p.waiting) _ a2.1 in
        let a4 = and_parts (is_rising (map (λ w. w.output.m) p.waiting)) _ a3.1 in
        let a5 = and_parts (list_all (link_fits program c) p.links) _ a4.1 in
        let a6 = and_parts (is_rising (map (λ x. x.0.0) p.links)) _ a5.1 in
        let a7 = and_parts (list_all (message_fits program c u) p.held) _ a6.1 in
        let a8 = and_parts (list_all (λ to. is_rising (numbers_to u.outbox to)) all_coms) (list_all (taken_fits program c) (taken_in p.senders)) a7.1 in
        let s = senders_pass program c p rest text.1 rise a8.1 (subst (λ z. length z < 2 ^ 32) (sym same) small) (same ∙ text.0) in
        image_goes program c bytes p (subst (λ z. IsRead c bytes p z) (sym s.none) r) (record {
          vars = a1.0;
          last = last_is program u.txn p.last ∙ a2.0;
          waiting = outputs_go program u.shelf 0 p.waiting a3.0 (rises_from 0 (map (λ w. w.output.m) p.waiting) (outputs_count p.waiting text.1.outputs) a4.0);
          links = links_go program c p.links a5.0 a6.0;
          held = messages_go program c u [] p.held a7.0 (messages_few c p.held text.1.held) (messages_rise c p text.1.held a8.0);
          senders = senders_go program c p.senders s.fits s.rising;
        })
