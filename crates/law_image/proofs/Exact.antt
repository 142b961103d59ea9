-- Bytes whose fields pass their tests are the image of the state that they give.
use Rattle.std.proofs.Common.{◌≡◌, ◌∙◌, ◌^◌, sym, ap, subst, refl, ℕ, zero, suc, ◌+◌, ◌<◌, ◌≤◌, Bool, true, false, cond, List, [], ◌∷◌, ◌++◌, length, map, arith, Option, Some, None, append_assoc}
use Rattle.std.specs.Prelude.{◌&&◌, ◌||◌, ◌==◌, nat_lt, nat_le, Result, Ok, Err, option_and_then, filter}
use Rattle.std.specs.List.{All, list_all, range_with_len, flat_map, AllByRecursion}
use Rattle.std.specs.Int.{w32, to_be_bytes}
use Rattle.std.proofs.lemmas.Bool.{and_parts, and_from, eq-eqb, le-leb, lt-ltb}
use Rattle.std.proofs.lemmas.List.{append-nil}
use Rattle.ic_base.specs.declared.limits.TheConstants.{GREATEST_NUMBER}
use Rattle.ic_base.specs.declared.messages.ComId.{ComId}
use Rattle.ic_base.specs.declared.scenario.Program.{Program}
use Rattle.ic_base.specs.Programs.{is_other_pcom}
use Rattle.def_log.specs.Spelling.{number, value, IsCount}
use Rattle.def_log.proofs.Takes.{IsBytes}
use Rattle.def_log.proofs.Again.{goes_on as some_goes_on}
use Rattle.def_state.specs.Names.{Identity}
use Rattle.def_state.specs.Outbox.{Held}
use Rattle.def_state.specs.Shelf.{Waiting}
use Rattle.def_state.specs.Vol.{Vol, first_vol}
use Rattle.def_state.specs.Image.{HasCounts, rises_above, run_from, image_of, counted, listed, last_bytes, output_bytes, message_bytes, link_bytes, sender_bytes, senders_of, image_fits, last_fits, output_fits, link_fits, message_fits, is_rising, numbers_to, all_coms, same_bytes, if_image, read_image, fields_at}
use Rattle.law_image.proofs.Items.{Part, are_numbers}
use Rattle.law_image.proofs.Places.{Parts, vol_of, IsRead, PassesTests}
use Rattle.law_image.proofs.Whole.{taken_by, all_rise, passed_rise, fields_go}
use Rattle.law_image.proofs.Tests.{rises_parts, last_is, outputs_came, links_came, sender_fits, senders_came, messages_came}
use Rattle.law_image.proofs.Spelled.{part_bytes, PartFits}
use Rattle.law_image.proofs.Texts.{AreSpelled, text_of, read_text}
use Rattle.law_image.proofs.Grouped.{numbers_of, group_of, taken_in, part_of, part_again, parts_again, is_filled, filled_is, are_coms, only_taken, senders_are}

-- the fields of a state's image
abbrev pub parts_of : Vol → Parts
parts_of v = record {
  clock = v.clock;
  vars = v.vars;
  begun = v.txn.begun;
  last = v.txn.last;
  made = v.shelf.made;
  waiting = v.shelf.waiting;
  links = v.outbox.links;
  held = v.outbox.held;
  senders = map part_of (senders_of v.inbox);
}

pub flat_mapped : {A B : Type 0} (f : B → List ℕ) (g : A → B) (xs : List A) → flat_map f (map g xs) ≡ flat_map (λ x. f (g x)) xs
flat_mapped f g [] = refl
flat_mapped f g (x ∷ xs) = ap (λ l. f (g x) ++ l) (flat_mapped f g xs)

pub length_mapped : {A B : Type 0} (g : A → B) (xs : List A) → length (map g xs) ≡ length xs
length_mapped g [] = refl
length_mapped g (x ∷ xs) = ap suc (length_mapped g xs)

parts_text : (xs : List (ℕ × List ℕ)) → counted sender_bytes xs ≡ counted part_bytes (map part_of xs)
parts_text xs = ap (λ n. n ∷ flat_map sender_bytes xs) (sym (length_mapped part_of xs)) ∙ ap (λ l. length (map part_of xs) ∷ l) (sym (flat_mapped part_bytes part_of xs))

regrouped : (a b d e m s l h i : List ℕ) → a ++ b ++ d ++ e ++ m ++ s ++ l ++ h ++ i ≡ a ++ (b ++ (d ++ (e ++ (m ++ (s ++ (l ++ (h ++ i)))))))
regrouped a b d e m s l h i =
    append_assoc (a ++ b ++ d ++ e ++ m ++ s ++ l) h i
    ∙ append_assoc (a ++ b ++ d ++ e ++ m ++ s) l (h ++ i)
    ∙ append_assoc (a ++ b ++ d ++ e ++ m) s (l ++ (h ++ i))
    ∙ append_assoc (a ++ b ++ d ++ e) m (s ++ (l ++ (h ++ i)))
    ∙ append_assoc (a ++ b ++ d) e (m ++ (s ++ (l ++ (h ++ i))))
    ∙ append_assoc (a ++ b) d (e ++ (m ++ (s ++ (l ++ (h ++ i)))))
    ∙ append_assoc a b (d ++ (e ++ (m ++ (s ++ (l ++ (h ++ i))))))

split_lists : (a b d e m s1 s2 l h1 h2 i : List ℕ) → a ++ (b ++ (d ++ (e ++ (m ++ ((s1 ++ s2) ++ (l ++ ((h1 ++ h2) ++ i))))))) ≡ a ++ (b ++ (d ++ (e ++ (m ++ (s1 ++ (s2 ++ (l ++ (h1 ++ (h2 ++ i)))))))))
split_lists a b d e m s1 s2 l h1 h2 i =
    ap (λ z. a ++ (b ++ (d ++ (e ++ (m ++ z))))) (append_assoc s1 s2 (l ++ ((h1 ++ h2) ++ i)) ∙ ap (λ z. s1 ++ (s2 ++ (l ++ z))) (append_assoc h1 h2 i))

-- the image of a state, field after field
pub image_text : (v : Vol) → image_of v ≡ text_of (parts_of v) []
image_text v =
    let a = number v.clock in
    let vars = counted value v.vars in
    let begun = number v.txn.begun in
    let last = last_bytes v.txn.last in
    let made = number v.shelf.made in
    let s1 = to_be_bytes w32 (length v.shelf.waiting) in
    let s2 = flat_map (λ (w : Waiting). output_bytes w.output) v.shelf.waiting in
    let links = counted link_bytes v.outbox.links in
    let h1 = to_be_bytes w32 (length v.outbox.held) in
    let h2 = flat_map (λ (h : Held). message_bytes h.msg) v.outbox.held in
    let senders = counted part_bytes (map part_of (senders_of v.inbox)) in
    regrouped a vars begun last made (s1 ++ s2) links (h1 ++ h2) (counted sender_bytes (senders_of v.inbox))
    ∙ ap (λ (l : List ℕ). a ++ (vars ++ (begun ++ (last ++ (made ++ ((s1 ++ s2) ++ (links ++ ((h1 ++ h2) ++ l)))))))) (parts_text (senders_of v.inbox) ∙ sym (append-nil senders))
    ∙ split_lists a vars begun last made s1 s2 links h1 h2 (senders ++ [])

-- the senders are those that were read
pub own_senders : (program : Program) (c : ComId) (p : Parts) → PassesTests program c p → AreSpelled c p → senders_of (vol_of p).inbox ≡ map group_of p.senders
own_senders program c p t f =
    let s = senders_came program c p.senders t.senders in
    senders_are p.senders s.1 (coms p.senders f.senders) (filled p.senders s.0)
  where
    coms : (ss : List Part) → AllByRecursion PartFits ss → are_coms ss ≡ true
    coms [] h = refl
    coms (s ∷ ss) h = and_from (nat_lt s.0.0 32) (are_coms ss) (lt-ltb s.0.0 32 h.0.from) (coms ss h.1)

    filled : (ss : List Part) → list_all (sender_fits program c) ss ≡ true → list_all is_filled ss ≡ true
    filled [] h = refl
    filled (s ∷ ss) h =
        let a = and_parts (sender_fits program c s) (list_all (sender_fits program c) ss) h in
        let b = and_parts (is_other_pcom program c s.0) (are_numbers s.1 s.2) a.0 in
        let d = and_parts (nat_lt 0 s.1 || nat_lt 0 (length s.2)) _ b.1 in
        and_from (is_filled s) (list_all is_filled ss) (filled_is s d.0) (filled ss a.1)

-- and so are their parts
pub own_parts : (program : Program) (c : ComId) (p : Parts) → PassesTests program c p → AreSpelled c p → map part_of (senders_of (vol_of p).inbox) ≡ p.senders
own_parts program c p t f = ap (map part_of) (own_senders program c p t f) ∙ parts_again p.senders (passed_rise program c [] p.senders t.senders)

abbrev pub with_senders : Parts → List Part → Parts
with_senders p ss = record p { senders = ss }

pub image_again : (program : Program) (c : ComId) (bytes : List ℕ) (p : Parts) → IsBytes bytes → IsRead c bytes p [] → PassesTests program c p → image_of (vol_of p) ≡ bytes
image_again program c bytes p fits r t =
    let text = read_text c bytes p [] fits r in
    image_text (vol_of p) ∙ ap (λ ss. text_of (with_senders p ss) []) (own_parts program c p t text.1) ∙ sym text.0

-- the tests of the whole state ------------------------------------------------------------------------------

every : {X : Type 0} (p : X → Bool) (xs : List X) → ((x : X) → p x ≡ true) → list_all p xs ≡ true
every p [] h = refl
every p (x ∷ xs) h = and_from (p x) (list_all p xs) (h x) (every p xs h)

abbrev pub taken_fits : Program → ComId → Identity → Bool
taken_fits program c x = is_other_pcom program c x.peer && nat_le x.k GREATEST_NUMBER

all_taken : (program : Program) (c : ComId) (ss : List Part) → list_all (sender_fits program c) ss ≡ true → AllByRecursion PartFits ss → list_all (taken_fits program c) (taken_in ss) ≡ true
all_taken program c [] h f = refl
all_taken program c (s ∷ ss) h f =
    let a = and_parts (sender_fits program c s) (list_all (sender_fits program c) ss) h in
    let b = and_parts (is_other_pcom program c s.0) (are_numbers s.1 s.2) a.0 in
    both (taken_by s) (taken_in ss) (one s.0 (numbers_of s) b.0 (joined (range_with_len 1 s.1) s.2 (ranged 1 s.1 (omega (arith, f.0.bound))) (low s.2 f.0.above))) (all_taken program c ss a.1 f.1)
  where
    both : (xs ys : List Identity) → list_all (taken_fits program c) xs ≡ true → list_all (taken_fits program c) ys ≡ true → list_all (taken_fits program c) (xs ++ ys) ≡ true
    both [] ys h g = g
    both (x ∷ xs) ys h g = let parts = and_parts (taken_fits program c x) (list_all (taken_fits program c) xs) h in and_from (taken_fits program c x) (list_all (taken_fits program c) (xs ++ ys)) parts.0 (both xs ys parts.1 g)

    one : (d : ComId) (ns : List ℕ) → is_other_pcom program c d ≡ true → list_all (λ k. nat_le k GREATEST_NUMBER) ns ≡ true → list_all (taken_fits program c) (map (λ k. record { peer = d; k = k }) ns) ≡ true
    one d [] e h = refl
    one d (n ∷ ns) e h = let parts = and_parts (nat_le n GREATEST_NUMBER) (list_all (λ k. nat_le k GREATEST_NUMBER) ns) h in and_from (taken_fits program c (record { peer = d; k = n })) _ (and_from (is_other_pcom program c d) (nat_le n GREATEST_NUMBER) e parts.0) (one d ns e parts.1)

    joined : (xs ys : List ℕ) → list_all (λ k. nat_le k GREATEST_NUMBER) xs ≡ true → list_all (λ k. nat_le k GREATEST_NUMBER) ys ≡ true → list_all (λ k. nat_le k GREATEST_NUMBER) (xs ++ ys) ≡ true
    joined [] ys h g = g
    joined (x ∷ xs) ys h g = let parts = and_parts (nat_le x GREATEST_NUMBER) (list_all (λ k. nat_le k GREATEST_NUMBER) xs) h in and_from (nat_le x GREATEST_NUMBER) _ parts.0 (joined xs ys parts.1 g)

    ranged : (a n : ℕ) → a + n ≤ GREATEST_NUMBER + 1 → list_all (λ k. nat_le k GREATEST_NUMBER) (range_with_len a n) ≡ true
    ranged a zero l = refl
    ranged a (suc n) l = and_from (nat_le a GREATEST_NUMBER) _ (le-leb a GREATEST_NUMBER (omega (arith, l))) (ranged (a + 1) n (omega (arith, l)))

    low : (ks : List ℕ) → AllByRecursion IsCount ks → list_all (λ k. nat_le k GREATEST_NUMBER) ks ≡ true
    low [] h = refl
    low (k ∷ ks) h = and_from (nat_le k GREATEST_NUMBER) _ (le-leb k GREATEST_NUMBER h.0.1) (low ks h.1)

pub fits_of_tests : (program : Program) (c : ComId) (p : Parts) → PassesTests program c p → AreSpelled c p → image_fits program c (vol_of p) ≡ true
fits_of_tests program c p t f =
    let v = vol_of p in
    let outputs = outputs_came program v.shelf 0 p.waiting t.waiting in
    let links = links_came program c p.links t.links in
    let messages = messages_came program c v [] p.held t.held in
    let senders = senders_came program c p.senders t.senders in
    and_from (length p.vars == length (first_vol program c).vars) _ t.vars
    (and_from (last_fits program v.txn p.last) _ (sym (last_is program v.txn p.last) ∙ t.last)
    (and_from (list_all (output_fits program v.shelf) p.waiting) _ outputs.0
    (and_from (is_rising (map (λ w. w.output.m) p.waiting)) _ (rises_parts 0 (map (λ w. w.output.m) p.waiting) outputs.1).1
    (and_from (list_all (link_fits program c) p.links) _ links.0
    (and_from (is_rising (map (λ x. x.0.0) p.links)) _ links.1
    (and_from (list_all (message_fits program c v) p.held) _ messages.0
    (and_from (list_all (λ to. is_rising (numbers_to v.outbox to)) all_coms) _ (every (λ to. is_rising (numbers_to v.outbox to)) all_coms (λ to. (rises_parts 0 (numbers_to v.outbox to) (messages.1 to)).1))
    (all_taken program c p.senders senders.0 f.senders))))))))

pub same_is : (xs : List ℕ) → same_bytes xs xs ≡ true
same_is [] = refl
same_is (x ∷ xs) = and_from (x == x) (same_bytes xs xs) (eq-eqb x x refl) (same_is xs)

-- the bytes are the image of the state
pub reads_as : (program : Program) (c : ComId) (bytes : List ℕ) (p : Parts) → IsBytes bytes → IsRead c bytes p [] → PassesTests program c p → read_image program c bytes ≡ Some (vol_of p)
unfolding read_image
reads_as program c bytes p fits r t =
    let v = vol_of p in
    let spelled = (read_text c bytes p [] fits r).1 in
    let fields = fields_go program c bytes p [] r (passed_rise program c [] p.senders t.senders) in
    let same : same_bytes (image_of v) bytes ≡ true = ap (λ z. same_bytes z bytes) (image_again program c bytes p fits r t) ∙ same_is bytes in
    some_goes_on (if_image program c bytes) (fields_at program c bytes) (v, []) fields
    ∙ ap (λ b. cond b (some v) None) (and_from (image_fits program c v) (same_bytes (image_of v) bytes) (fits_of_tests program c p t spelled) same)
  where
    some : Vol → Option Vol
    some v = Some v

-- the counts of what was read go into their bytes -----------------------------------------------------------

coms_taken : (ss : List Part) → AllByRecursion PartFits ss → list_all (λ (x : Identity). nat_lt x.peer.0 32) (taken_in ss) ≡ true
coms_taken [] h = refl
coms_taken (s ∷ ss) h = both (numbers_of s) (lt-ltb s.0.0 32 h.0.from) (coms_taken ss h.1)
  where
    both : (ns : List ℕ) → nat_lt s.0.0 32 ≡ true → list_all (λ (x : Identity). nat_lt x.peer.0 32) (taken_in ss) ≡ true → list_all (λ (x : Identity). nat_lt x.peer.0 32) (map (λ k. record { peer = s.0; k = k }) ns ++ taken_in ss) ≡ true
    both [] l g = g
    both (n ∷ ns) l g = and_from (nat_lt s.0.0 32) _ l (both ns l g)

above_few : (ss : List Part) → all_rise ss ≡ true → AllByRecursion PartFits ss → All (λ (x : ℕ × List ℕ). length (filter (λ k. nat_lt (run_from 0 x.1) k) x.1) < 2 ^ 32) (map group_of ss)
above_few [] r h k d l = absurd (omega arith)
above_few (s ∷ ss) r h zero d l =
    let rises = and_parts (rises_above (s.1 + 1) s.2) (all_rise ss) r in
    let same = ap (λ (z : Part). length z.2) (part_again s rises.0) in
    omega (arith, same, h.0.few)
above_few (s ∷ ss) r h (suc k) d l = above_few ss (and_parts (rises_above (s.1 + 1) s.2) (all_rise ss) r).1 h.1 k d (omega arith)

pub counts_fit : (program : Program) (c : ComId) (p : Parts) → PassesTests program c p → AreSpelled c p → HasCounts (vol_of p)
counts_fit program c p t f = record {
  vars = f.few_vars;
  waiting = f.few_outputs;
  links = f.few_links;
  held = f.few_held;
  peers = coms_taken p.senders f.senders;
  above = subst (λ xs. All (λ (x : ℕ × List ℕ). length (filter (λ k. nat_lt (run_from 0 x.1) k) x.1) < 2 ^ 32) xs) (sym (own_senders program c p t f)) (above_few p.senders (passed_rise program c [] p.senders t.senders) f.senders);
}
