-- The tests in the order of the bytes are those of the whole state.
use Rattle.std.proofs.Common.{◌≡◌, ℕ, zero, suc, ◌+◌, ◌<◌, ◌≤◌, Bool, true, false, cond, List, [], ◌∷◌, ◌++◌, length, map, Option, Some, None, refl, ap, sym, subst, ◌∙◌, ℤ, arith, ◌⊎◌, inl, inr}
use Rattle.std.specs.Prelude.{◌&&◌, ◌||◌, ◌==◌, nat_lt, nat_le, filter, slice_get, option_map, unwrap_or}
use Rattle.std.specs.List.{list_all, flat_map}
use Rattle.std.proofs.lemmas.Bool.{and_parts, and_from, ltb-true, lt-ltb, le-ltb, eqb-true, eq-eqb, cases_eq, ne_eqb}
use Rattle.std.proofs.lemmas.Bool.Decides.{nat_tests}
use Rattle.ic_base.specs.declared.limits.TheConstants.{VALUES}
use Rattle.ic_base.specs.declared.messages.ComId.{ComId}
use Rattle.ic_base.specs.declared.scenario.Program.{Program}
use Rattle.ic_base.specs.declared.scenario.Component.{Component}
use Rattle.ic_base.specs.declared.scenario.Handler.{Handler}
use Rattle.ic_base.specs.Programs.{same_com, is_other_pcom, is_an_xcom, has_handler, declares, takes_args}
use Rattle.def_state.specs.Names.{Numbers, number_of, put_number}
use Rattle.def_state.specs.Outbox.{Outbox, Held}
use Rattle.def_state.specs.Shelf.{Shelf, Waiting}
use Rattle.def_state.specs.Txn.{Txn}
use Rattle.def_state.specs.Vol.{Vol}
use Rattle.def_state.specs.Image.{rises_above, is_rising, last_fits, output_fits, link_fits, message_fits, numbers_to}
use Rattle.def_state.specs.ImagePlaces.{handlers_of, params_of}
use Rattle.law_image.proofs.Fields.{all_pass}
use Rattle.law_image.proofs.Items.{Part, is_last, is_next_output, is_next_link, is_content, is_next_message, is_next_sender, are_numbers}
use Rattle.law_image.proofs.Places.{links_next, held_next, senders_next}

-- lists of numbers that rise --------------------------------------------------------------------

all_weaker : {X : Type 0} (p q : X → Bool) → ((x : X) → p x ≡ true → q x ≡ true) → (xs : List X) → list_all p xs ≡ true → list_all q xs ≡ true
all_weaker p q w [] h = refl
all_weaker p q w (x ∷ xs) h = let parts = and_parts (p x) (list_all p xs) h in and_from (q x) (list_all q xs) (w x parts.0) (all_weaker p q w xs parts.1)

all_both : {X : Type 0} (p q : X → Bool) (xs : List X) → list_all p xs ≡ true → list_all q xs ≡ true → list_all (λ x. p x && q x) xs ≡ true
all_both p q [] h g = refl
all_both p q (x ∷ xs) h g =
    let a = and_parts (p x) (list_all p xs) h in
    let b = and_parts (q x) (list_all q xs) g in
    and_from (p x && q x) (list_all (λ x. p x && q x) xs) (and_from (p x) (q x) a.0 b.0) (all_both p q xs a.1 b.1)

all_append : {X : Type 0} (p : X → Bool) (xs ys : List X) → list_all p xs ≡ true → list_all p ys ≡ true → list_all p (xs ++ ys) ≡ true
all_append p [] ys h g = g
all_append p (x ∷ xs) ys h g = let parts = and_parts (p x) (list_all p xs) h in and_from (p x) (list_all p (xs ++ ys)) parts.0 (all_append p xs ys parts.1 g)

all_split : {X : Type 0} (p : X → Bool) (xs ys : List X) → list_all p (xs ++ ys) ≡ true → (list_all p xs ≡ true) × (list_all p ys ≡ true)
all_split p [] ys h = (refl, h)
all_split p (x ∷ xs) ys h =
    let parts = and_parts (p x) (list_all p (xs ++ ys)) h in
    let rest = all_split p xs ys parts.1 in (and_from (p x) (list_all p xs) parts.0 rest.0, rest.1)

-- numbers that rise above one are all above it
pub rises_parts : (n : ℕ) (ks : List ℕ) → rises_above n ks ≡ true → (list_all (λ k. nat_lt n k) ks ≡ true) × (is_rising ks ≡ true)
rises_parts n [] h = (refl, refl)
rises_parts n (k ∷ ks) h =
    let parts = and_parts (nat_lt n k) (rises_above k ks) h in
    let rest = rises_parts k ks parts.1 in
    let l = ltb-true n k parts.0 in (
      and_from (nat_lt n k) (list_all (λ k. nat_lt n k) ks) parts.0 (all_weaker (λ j. nat_lt k j) (λ j. nat_lt n j) (λ j up. let m = ltb-true k j up in lt-ltb n j (omega arith)) ks rest.0),
      and_from (list_all (λ j. nat_lt k j) ks) (is_rising ks) rest.0 rest.1,
    )

pub rises_from : (n : ℕ) (ks : List ℕ) → list_all (λ k. nat_lt n k) ks ≡ true → is_rising ks ≡ true → rises_above n ks ≡ true
rises_from n [] h r = refl
rises_from n (k ∷ ks) h r =
    let a = and_parts (nat_lt n k) (list_all (λ k. nat_lt n k) ks) h in
    let b = and_parts (list_all (λ j. nat_lt k j) ks) (is_rising ks) r in
    and_from (nat_lt n k) (rises_above k ks) a.0 (rises_from k ks b.0 b.1)

-- each number above all those before it
abbrev is_above_all : List ℕ → ℕ → Bool
is_above_all seen n = list_all (λ s. nat_lt s n) seen

abbrev are_above_all : List ℕ → List ℕ → Bool
are_above_all seen [] = true
are_above_all seen (n ∷ ns) = is_above_all seen n && are_above_all (seen ++ n ∷ []) ns

above_all_came : (seen ns : List ℕ) → are_above_all seen ns ≡ true → (is_rising ns ≡ true) × (list_all (λ s. list_all (λ n. nat_lt s n) ns) seen ≡ true)
above_all_came seen [] h = (refl, nothing seen)
  where
    nothing : (seen : List ℕ) → list_all (λ (s : ℕ). list_all (λ n. nat_lt s n) []) seen ≡ true
    nothing [] = refl
    nothing (s ∷ ss) = nothing ss
above_all_came seen (n ∷ ns) h =
    let parts = and_parts (is_above_all seen n) (are_above_all (seen ++ n ∷ []) ns) h in
    let rest = above_all_came (seen ++ n ∷ []) ns parts.1 in
    let split = all_split (λ s. list_all (λ n. nat_lt s n) ns) seen (n ∷ []) rest.1 in
    let mine = and_parts (list_all (λ m. nat_lt n m) ns) true split.1 in (
      and_from (list_all (λ m. nat_lt n m) ns) (is_rising ns) mine.0 rest.0,
      all_both (λ s. nat_lt s n) (λ s. list_all (λ n. nat_lt s n) ns) seen parts.0 split.0,
    )

above_all_goes : (seen ns : List ℕ) → is_rising ns ≡ true → list_all (λ s. list_all (λ n. nat_lt s n) ns) seen ≡ true → are_above_all seen ns ≡ true
above_all_goes seen [] r h = refl
above_all_goes seen (n ∷ ns) r h =
    let parts = and_parts (list_all (λ m. nat_lt n m) ns) (is_rising ns) r in
    let first = all_weaker (λ s. nat_lt s n && list_all (λ n. nat_lt s n) ns) (λ s. nat_lt s n) (λ s e. (and_parts (nat_lt s n) (list_all (λ n. nat_lt s n) ns) e).0) seen h in
    let others = all_weaker (λ s. nat_lt s n && list_all (λ n. nat_lt s n) ns) (λ s. list_all (λ n. nat_lt s n) ns) (λ s e. (and_parts (nat_lt s n) (list_all (λ n. nat_lt s n) ns) e).1) seen h in
    and_from (is_above_all seen n) (are_above_all (seen ++ n ∷ []) ns) first
    (above_all_goes (seen ++ n ∷ []) ns parts.1 (all_append (λ s. list_all (λ n. nat_lt s n) ns) seen (n ∷ []) others (and_from (list_all (λ m. nat_lt n m) ns) true parts.0 refl)))

-- the last ended transaction -----------------------------------------------------------------------

pub last_is : (program : Program) (x : Txn) (o : Option (ComId × ℕ)) → is_last program x.begun o ≡ last_fits program x o
last_is program x None = refl
last_is program x (Some e) = refl

-- outputs ---------------------------------------------------------------------------------------------

abbrev output_next : ℕ → Waiting → ℕ
output_next last w = w.output.m

pub outputs_came : (program : Program) (s : Shelf) (last : ℕ) (ws : List Waiting) → all_pass (is_next_output program s.made) output_next last ws ≡ true → (list_all (output_fits program s) ws ≡ true) × (rises_above last (map (λ w. w.output.m) ws) ≡ true)
outputs_came program s last [] h = (refl, refl)
outputs_came program s last (w ∷ ws) h =
    let parts = and_parts (is_next_output program s.made last w) (all_pass (is_next_output program s.made) output_next w.output.m ws) h in
    let one = and_parts (nat_lt last w.output.m && nat_le w.output.m s.made) (is_an_xcom program w.output.to) parts.0 in
    let number = and_parts (nat_lt last w.output.m) (nat_le w.output.m s.made) one.0 in
    let rest = outputs_came program s w.output.m ws parts.1 in (
      and_from (output_fits program s w) (list_all (output_fits program s) ws) (and_from (is_an_xcom program w.output.to) (nat_le w.output.m s.made) one.1 number.1) rest.0,
      and_from (nat_lt last w.output.m) (rises_above w.output.m (map (λ w. w.output.m) ws)) number.0 rest.1,
    )

pub outputs_go : (program : Program) (s : Shelf) (last : ℕ) (ws : List Waiting) → list_all (output_fits program s) ws ≡ true → rises_above last (map (λ w. w.output.m) ws) ≡ true → all_pass (is_next_output program s.made) output_next last ws ≡ true
outputs_go program s last [] h r = refl
outputs_go program s last (w ∷ ws) h r =
    let a = and_parts (output_fits program s w) (list_all (output_fits program s) ws) h in
    let fits = and_parts (is_an_xcom program w.output.to) (nat_le w.output.m s.made) a.0 in
    let b = and_parts (nat_lt last w.output.m) (rises_above w.output.m (map (λ w. w.output.m) ws)) r in
    and_from (is_next_output program s.made last w) (all_pass (is_next_output program s.made) output_next w.output.m ws)
    (and_from (nat_lt last w.output.m && nat_le w.output.m s.made) (is_an_xcom program w.output.to) (and_from (nat_lt last w.output.m) (nat_le w.output.m s.made) b.0 fits.1) fits.0)
    (outputs_go program s w.output.m ws a.1 b.1)

-- links -------------------------------------------------------------------------------------------------

ends_of : Numbers → List ℕ
ends_of xs = map (λ x. x.0.0) xs

ends_below : (n : ℕ) (xs : Numbers) → list_all (λ (y : ComId × ℕ). nat_lt y.0.0 n) xs ≡ is_above_all (map (λ x. x.0.0) xs) n
ends_below n [] = refl
ends_below n (x ∷ xs) = ap (λ b. nat_lt x.0.0 n && b) (ends_below n xs)

ends_append : (links : Numbers) (x : ComId × ℕ) → map (λ (x : ComId × ℕ). x.0.0) (links ++ x ∷ []) ≡ map (λ (x : ComId × ℕ). x.0.0) links ++ x.0.0 ∷ []
ends_append [] x = refl
ends_append (y ∷ ys) x = ap (λ l. y.0.0 ∷ l) (ends_append ys x)

links_above : (program : Program) (c : ComId) (links xs : Numbers) → all_pass (is_next_link program c) links_next links xs ≡ true → (list_all (link_fits program c) xs ≡ true) × (are_above_all (map (λ x. x.0.0) links) (map (λ x. x.0.0) xs) ≡ true)
links_above program c links [] h = (refl, refl)
links_above program c links (x ∷ xs) h =
    let parts = and_parts (is_next_link program c links x) (all_pass (is_next_link program c) links_next (links_next links x) xs) h in
    let one = and_parts (is_other_pcom program c x.0) (list_all (λ y. nat_lt y.0.0 x.0.0) links) parts.0 in
    let rest = links_above program c (links_next links x) xs parts.1 in (
      and_from (link_fits program c x) (list_all (link_fits program c) xs) one.0 rest.0,
      and_from (is_above_all (map (λ x. x.0.0) links) x.0.0) _ (sym (ends_below x.0.0 links) ∙ one.1) (ap (λ l. are_above_all l (map (λ x. x.0.0) xs)) (sym (ends_append links x)) ∙ rest.1),
    )

links_below : (program : Program) (c : ComId) (links xs : Numbers) → list_all (link_fits program c) xs ≡ true → are_above_all (map (λ x. x.0.0) links) (map (λ x. x.0.0) xs) ≡ true → all_pass (is_next_link program c) links_next links xs ≡ true
links_below program c links [] h r = refl
links_below program c links (x ∷ xs) h r =
    let a = and_parts (link_fits program c x) (list_all (link_fits program c) xs) h in
    let b = and_parts (is_above_all (map (λ x. x.0.0) links) x.0.0) (are_above_all (map (λ x. x.0.0) links ++ x.0.0 ∷ []) (map (λ x. x.0.0) xs)) r in
    and_from (is_next_link program c links x) (all_pass (is_next_link program c) links_next (links_next links x) xs)
    (and_from (is_other_pcom program c x.0) (list_all (λ y. nat_lt y.0.0 x.0.0) links) a.0 (ends_below x.0.0 links ∙ b.0))
    (links_below program c (links_next links x) xs a.1 (ap (λ l. are_above_all l (map (λ x. x.0.0) xs)) (ends_append links x) ∙ b.1))

pub links_came : (program : Program) (c : ComId) (xs : Numbers) → all_pass (is_next_link program c) links_next [] xs ≡ true → (list_all (link_fits program c) xs ≡ true) × (is_rising (map (λ x. x.0.0) xs) ≡ true)
links_came program c xs h =
    let a = links_above program c [] xs h in
    let b = above_all_came [] (map (λ x. x.0.0) xs) a.1 in (a.0, b.0)

pub links_go : (program : Program) (c : ComId) (xs : Numbers) → list_all (link_fits program c) xs ≡ true → is_rising (map (λ x. x.0.0) xs) ≡ true → all_pass (is_next_link program c) links_next [] xs ≡ true
links_go program c xs h r = links_below program c [] xs h (above_all_goes [] (map (λ x. x.0.0) xs) r refl)

-- senders -----------------------------------------------------------------------------------------------

abbrev pub sender_fits : Program → ComId → Part → Bool
sender_fits program c s = is_other_pcom program c s.0 && are_numbers s.1 s.2

pub senders_above : (program : Program) (c : ComId) (seen : List ℕ) (ss : List Part) → all_pass (is_next_sender program c) senders_next seen ss ≡ true → (list_all (sender_fits program c) ss ≡ true) × (are_above_all seen (map (λ s. s.0.0) ss) ≡ true)
senders_above program c seen [] h = (refl, refl)
senders_above program c seen (s ∷ ss) h =
    let parts = and_parts (is_next_sender program c seen s) (all_pass (is_next_sender program c) senders_next (senders_next seen s) ss) h in
    let one = and_parts (is_other_pcom program c s.0 && list_all (λ x. nat_lt x s.0.0) seen) (are_numbers s.1 s.2) parts.0 in
    let com_is = and_parts (is_other_pcom program c s.0) (list_all (λ x. nat_lt x s.0.0) seen) one.0 in
    let rest = senders_above program c (senders_next seen s) ss parts.1 in (
      and_from (sender_fits program c s) (list_all (sender_fits program c) ss) (and_from (is_other_pcom program c s.0) (are_numbers s.1 s.2) com_is.0 one.1) rest.0,
      and_from (is_above_all seen s.0.0) _ com_is.1 rest.1,
    )

senders_below : (program : Program) (c : ComId) (seen : List ℕ) (ss : List Part) → list_all (sender_fits program c) ss ≡ true → are_above_all seen (map (λ s. s.0.0) ss) ≡ true → all_pass (is_next_sender program c) senders_next seen ss ≡ true
senders_below program c seen [] h r = refl
senders_below program c seen (s ∷ ss) h r =
    let a = and_parts (sender_fits program c s) (list_all (sender_fits program c) ss) h in
    let fits = and_parts (is_other_pcom program c s.0) (are_numbers s.1 s.2) a.0 in
    let b = and_parts (is_above_all seen s.0.0) (are_above_all (senders_next seen s) (map (λ s. s.0.0) ss)) r in
    and_from (is_next_sender program c seen s) (all_pass (is_next_sender program c) senders_next (senders_next seen s) ss)
    (and_from (is_other_pcom program c s.0 && list_all (λ x. nat_lt x s.0.0) seen) (are_numbers s.1 s.2) (and_from (is_other_pcom program c s.0) (list_all (λ x. nat_lt x s.0.0) seen) fits.0 b.0) fits.1)
    (senders_below program c (senders_next seen s) ss a.1 b.1)

pub senders_came : (program : Program) (c : ComId) (ss : List Part) → all_pass (is_next_sender program c) senders_next [] ss ≡ true → (list_all (sender_fits program c) ss ≡ true) × (is_rising (map (λ s. s.0.0) ss) ≡ true)
senders_came program c ss h =
    let a = senders_above program c [] ss h in
    let b = above_all_came [] (map (λ s. s.0.0) ss) a.1 in (a.0, b.0)

pub senders_go : (program : Program) (c : ComId) (ss : List Part) → list_all (sender_fits program c) ss ≡ true → is_rising (map (λ s. s.0.0) ss) ≡ true → all_pass (is_next_sender program c) senders_next [] ss ≡ true
senders_go program c ss h r = senders_below program c [] ss h (above_all_goes [] (map (λ s. s.0.0) ss) r refl)

-- held messages -------------------------------------------------------------------------------------------

number_put : (c : ComId) (n : ℕ) (xs : Numbers) (d : ComId) → number_of 0 (put_number c n xs) d ≡ cond (same_com d c) n (number_of 0 xs d)
number_put c n [] d = refl
number_put c n (x ∷ xs) d = by (same_com c x.0) refl (number_put c n xs d)
  where
    swapped : (b e : Bool) → same_com c x.0 ≡ b → same_com d c ≡ e → same_com d x.0 ≡ cond b e (same_com d x.0)
    swapped true e p q = grind (arith, nat_tests)
    swapped false e p q = refl

    apart : same_com c x.0 ≡ false → same_com d c ≡ true → same_com d x.0 ≡ false
    apart p q = grind (arith, nat_tests)

    other : (b : Bool) → same_com d c ≡ b → same_com c x.0 ≡ false → cond (same_com d x.0) x.1 (cond b n (number_of 0 xs d)) ≡ cond b n (cond (same_com d x.0) x.1 (number_of 0 xs d))
    other true q p = ap (λ z. cond z x.1 n) (apart p q)
    other false q p = refl

    by : (b : Bool) → same_com c x.0 ≡ b → number_of 0 (put_number c n xs) d ≡ cond (same_com d c) n (number_of 0 xs d) → number_of 0 (cond b ((c, n) ∷ xs) (cond (nat_lt c.0 x.0.0) ((c, n) ∷ x ∷ xs) (x ∷ put_number c n xs))) d ≡ cond (same_com d c) n (cond (same_com d x.0) x.1 (number_of 0 xs d))
    by true p rest = here (same_com d c) refl
      where
        here : (e : Bool) → same_com d c ≡ e → cond e n (number_of 0 xs d) ≡ cond e n (cond (same_com d x.0) x.1 (number_of 0 xs d))
        here true q = refl
        here false q = sym (ap (λ z. cond z x.1 (number_of 0 xs d)) (swapped true false p q))
    by false p rest = below (nat_lt c.0 x.0.0)
      where
        below : (e : Bool) → number_of 0 (cond e ((c, n) ∷ x ∷ xs) (x ∷ put_number c n xs)) d ≡ cond (same_com d c) n (cond (same_com d x.0) x.1 (number_of 0 xs d))
        below true = refl
        below false = ap (λ z. cond (same_com d x.0) x.1 z) rest ∙ other (same_com d c) refl p

-- the handler is there, with that number of arguments
content_is : (program : Program) (to : ComId) (handler : ℕ) (xs : List ℤ) → has_handler program to handler xs ≡ (nat_lt handler (length (handlers_of program to)) && (length xs == params_of program to handler))
content_is program to handler xs = by (slice_get program.components to.0)
  where
    within : (hs : List Handler) (h : ℕ) → takes_args (slice_get hs h) xs ≡ (nat_lt h (length hs) && (length xs == unwrap_or (option_map (λ (x : Handler). x.params) (slice_get hs h)) 0))
    within [] h = sym (ap (λ b. b && (length xs == 0)) (le-ltb h 0 (omega arith)))
    within (x ∷ hs) zero = flipped x.params (length xs) ∙ sym (ap (λ b. b && (length xs == x.params)) (lt-ltb 0 (suc (length hs)) (omega arith)))
      where
        flipped : (m n : ℕ) → (m == n) ≡ (n == m)
        flipped m n = grind (arith, nat_tests)
    within (x ∷ hs) (suc h) = within hs h ∙ ap (λ b. b && (length xs == unwrap_or (option_map (λ (x : Handler). x.params) (slice_get hs h)) 0)) (one_less h (length hs))
      where
        one_less : (m n : ℕ) → nat_lt m n ≡ nat_lt (suc m) (suc n)
        one_less m n = grind (arith, nat_tests)

    by : (d : Option Component) → declares (λ d. takes_args (slice_get d.handlers handler) xs) d ≡ (nat_lt handler (length (unwrap_or (option_map (λ (d : Component). d.handlers) d) [])) && (length xs == unwrap_or (option_map (λ (x : Handler). x.params) (slice_get (unwrap_or (option_map (λ (d : Component). d.handlers) d) []) handler)) 0))
    by None = sym (ap (λ b. b && (length xs == 0)) (le-ltb handler 0 (omega arith)))
    by (Some d) = within d.handlers handler

-- the numbers of the messages to a component
abbrev pub numbers_in : List Held → ComId → List ℕ
numbers_in hs to = map (λ h. h.msg.k) (filter (λ h. same_com to h.msg.to) hs)

message_is : (program : Program) (c : ComId) (v : Vol) (last : Numbers) (h : Held) → is_next_message program c v.clock v.outbox.links last h ≡ true → (message_fits program c v h ≡ true) × (nat_lt (number_of 0 last h.msg.to) h.msg.k ≡ true)
message_is program c v last h e =
    let p1 = and_parts (is_other_pcom program c h.msg.to) _ e in
    let p2 = and_parts (nat_lt (number_of 0 last h.msg.to) h.msg.k && nat_le h.msg.k (number_of 0 v.outbox.links h.msg.to)) _ p1.1 in
    let p3 = and_parts (nat_le h.msg.stamp v.clock) (is_content program h.msg.to h.msg.handler h.msg.args) p2.1 in
    let p4 = and_parts (nat_lt h.msg.handler (length (handlers_of program h.msg.to))) _ p3.1 in
    let p5 = and_parts (nat_le (length h.msg.args) VALUES) (length h.msg.args == params_of program h.msg.to h.msg.handler) p4.1 in
    let k = and_parts (nat_lt (number_of 0 last h.msg.to) h.msg.k) (nat_le h.msg.k (number_of 0 v.outbox.links h.msg.to)) p2.0 in
    let content : has_handler program h.msg.to h.msg.handler h.msg.args ≡ true = content_is program h.msg.to h.msg.handler h.msg.args ∙ and_from (nat_lt h.msg.handler (length (handlers_of program h.msg.to))) (length h.msg.args == params_of program h.msg.to h.msg.handler) p4.0 p5.1 in (
      and_from (is_other_pcom program c h.msg.to) _ p1.0 (and_from (has_handler program h.msg.to h.msg.handler h.msg.args) _ content (and_from (nat_le h.msg.k (number_of 0 v.outbox.links h.msg.to)) (nat_le h.msg.stamp v.clock) k.1 p3.0)),
      k.0,
    )

is_message : (program : Program) (c : ComId) (v : Vol) (last : Numbers) (h : Held) → message_fits program c v h ≡ true → nat_le (length h.msg.args) VALUES ≡ true → nat_lt (number_of 0 last h.msg.to) h.msg.k ≡ true → is_next_message program c v.clock v.outbox.links last h ≡ true
is_message program c v last h e few up =
    let p1 = and_parts (is_other_pcom program c h.msg.to) _ e in
    let p2 = and_parts (has_handler program h.msg.to h.msg.handler h.msg.args) _ p1.1 in
    let p3 = and_parts (nat_le h.msg.k (number_of 0 v.outbox.links h.msg.to)) (nat_le h.msg.stamp v.clock) p2.1 in
    let content = and_parts (nat_lt h.msg.handler (length (handlers_of program h.msg.to))) (length h.msg.args == params_of program h.msg.to h.msg.handler) (sym (content_is program h.msg.to h.msg.handler h.msg.args) ∙ p2.0) in
    and_from (is_other_pcom program c h.msg.to) _ p1.0
    (and_from (nat_lt (number_of 0 last h.msg.to) h.msg.k && nat_le h.msg.k (number_of 0 v.outbox.links h.msg.to)) _ (and_from (nat_lt (number_of 0 last h.msg.to) h.msg.k) _ up p3.0)
    (and_from (nat_le h.msg.stamp v.clock) _ p3.1
    (and_from (nat_lt h.msg.handler (length (handlers_of program h.msg.to))) _ content.0
    (and_from (nat_le (length h.msg.args) VALUES) _ few content.1))))

pub messages_came : (program : Program) (c : ComId) (v : Vol) (last : Numbers) (hs : List Held) → all_pass (is_next_message program c v.clock v.outbox.links) held_next last hs ≡ true → (list_all (message_fits program c v) hs ≡ true) × ((to : ComId) → rises_above (number_of 0 last to) (numbers_in hs to) ≡ true)
messages_came program c v last [] e = (refl, λ to. refl)
messages_came program c v last (h ∷ hs) e =
    let parts = and_parts (is_next_message program c v.clock v.outbox.links last h) (all_pass (is_next_message program c v.clock v.outbox.links) held_next (held_next last h) hs) e in
    let one = message_is program c v last h parts.0 in
    let rest = messages_came program c v (held_next last h) hs parts.1 in (
      and_from (message_fits program c v h) (list_all (message_fits program c v) hs) one.0 rest.0,
      λ to. by to (same_com to h.msg.to) refl one.1 (ap (λ n. rises_above n (numbers_in hs to)) (sym (number_put h.msg.to h.msg.k last to)) ∙ rest.1 to),
    )
  where
    same : (to : ComId) → same_com to h.msg.to ≡ true → number_of 0 last to ≡ number_of 0 last h.msg.to
    same to e = let eq : to.0 ≡ h.msg.to.0 = eqb-true to.0 h.msg.to.0 e in ap (λ (n : ℕ). number_of 0 last (record { 0 = n })) eq

    by : (to : ComId) (b : Bool) → same_com to h.msg.to ≡ b → nat_lt (number_of 0 last h.msg.to) h.msg.k ≡ true → rises_above (cond b h.msg.k (number_of 0 last to)) (numbers_in hs to) ≡ true → rises_above (number_of 0 last to) (map (λ (h : Held). h.msg.k) (cond b (h ∷ filter (λ h. same_com to h.msg.to) hs) (filter (λ h. same_com to h.msg.to) hs))) ≡ true
    by to true e up rest = and_from (nat_lt (number_of 0 last to) h.msg.k) (rises_above h.msg.k (numbers_in hs to)) (ap (λ n. nat_lt n h.msg.k) (same to e) ∙ up) rest
    by to false e up rest = rest

-- no message has more values than it may
abbrev pub have_few : List Held → Bool
have_few hs = list_all (λ (h : Held). nat_le (length h.msg.args) VALUES) hs

pub messages_go : (program : Program) (c : ComId) (v : Vol) (last : Numbers) (hs : List Held) → list_all (message_fits program c v) hs ≡ true → have_few hs ≡ true → ((to : ComId) → rises_above (number_of 0 last to) (numbers_in hs to) ≡ true) → all_pass (is_next_message program c v.clock v.outbox.links) held_next last hs ≡ true
messages_go program c v last [] e few r = refl
messages_go program c v last (h ∷ hs) e few r =
    let a = and_parts (message_fits program c v h) (list_all (message_fits program c v) hs) e in
    let f = and_parts (nat_le (length h.msg.args) VALUES) (have_few hs) few in
    let first = here h.msg.to (same_com h.msg.to h.msg.to) (eq-eqb h.msg.to.0 h.msg.to.0 refl) (r h.msg.to) in
    and_from (is_next_message program c v.clock v.outbox.links last h) _ (is_message program c v last h a.0 f.0 first)
    (messages_go program c v (held_next last h) hs a.1 f.1 (λ to. ap (λ n. rises_above n (numbers_in hs to)) (number_put h.msg.to h.msg.k last to) ∙ by to (same_com to h.msg.to) (r to)))
  where
    here : (to : ComId) (b : Bool) → b ≡ true → rises_above (number_of 0 last to) (map (λ (h : Held). h.msg.k) (cond b (h ∷ filter (λ h. same_com to h.msg.to) hs) (filter (λ h. same_com to h.msg.to) hs))) ≡ true → nat_lt (number_of 0 last to) h.msg.k ≡ true
    here to true e r = (and_parts (nat_lt (number_of 0 last to) h.msg.k) (rises_above h.msg.k (numbers_in hs to)) r).0
    here to false e r = absurd cc

    by : (to : ComId) (b : Bool) → rises_above (number_of 0 last to) (map (λ (h : Held). h.msg.k) (cond b (h ∷ filter (λ h. same_com to h.msg.to) hs) (filter (λ h. same_com to h.msg.to) hs))) ≡ true → rises_above (cond b h.msg.k (number_of 0 last to)) (numbers_in hs to) ≡ true
    by to true r = (and_parts (nat_lt (number_of 0 last to) h.msg.k) (rises_above h.msg.k (numbers_in hs to)) r).1
    by to false r = r
