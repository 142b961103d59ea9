-- The messages of an image: their identities differ, and their rows stand as they must.
use Rattle.std.proofs.Common.{◌≡◌, ◌∙◌, sym, ap, refl, ℕ, zero, suc, ◌+◌, ◌<◌, ◌≤◌, Bool, true, false, cond, List, [], ◌∷◌, ◌++◌, length, map, take, drop, get_or, arith}
use Rattle.std.specs.Prelude.{◌==◌, nat_lt, filter}
use Rattle.std.specs.List.{All, list_any, list_all}
use Rattle.std.proofs.lemmas.Bool.{and_parts, and_left, and_right, or_from, ltb-true, ne_eqb, eq-eqb}
use Rattle.std.proofs.lemmas.List.{length-map, take-append-drop, drop_more}
use Rattle.ic_base.specs.declared.messages.ComId.{ComId}
use Rattle.ic_base.specs.declared.messages.Msg.{Msg}
use Rattle.ic_base.specs.Programs.{same_com}
use Rattle.def_state.specs.Names.{Numbers, number_of, same_identity}
use Rattle.def_state.specs.Image.{is_rising, numbers_to}
use Rattle.ic_out.specs.declared.outbox.Row.{Row}
use Rattle.ic_out.specs.Views.{held_of, name_of, held_in_image, outbox_of, row_in_image, message_name, numbers_among, IsKept}

-- the numbers to a component are those that the outbox of the image has
pub numbers-are : (links : Numbers) (ms : List Msg) (to : ComId) → numbers_to (outbox_of links ms) to ≡ numbers_among ms to
numbers-are links [] to = refl
numbers-are links (m ∷ ms) to = by (same_com to m.to) (numbers-are links ms to)
  where
    by : (b : Bool) → numbers_to (outbox_of links ms) to ≡ numbers_among ms to → map (λ h. h.msg.k) (cond b (held_in_image m ∷ filter (λ h. same_com to h.msg.to) (map held_in_image ms)) (filter (λ h. same_com to h.msg.to) (map held_in_image ms))) ≡ map (λ z. z.k) (cond b (m ∷ filter (λ z. same_com to z.to) ms) (filter (λ z. same_com to z.to) ms))
    by true e = ap (λ l. m.k ∷ l) e
    by false e = e

-- one of the numbers
passes-among : (ps : List Msg) (m : Msg) (post : List Msg) (q : ℕ → Bool) → list_all q (numbers_among (ps ++ m ∷ post) m.to) ≡ true → q m.k ≡ true
passes-among [] m post q h = (and_parts (q m.k) (list_all q (numbers_among post m.to)) (sym (ap (λ b. list_all q (map (λ z. z.k) (cond b (m ∷ filter (λ z. same_com m.to z.to) post) (filter (λ z. same_com m.to z.to) post)))) (same-self m.to)) ∙ h)).0
  where
    same-self : (c : ComId) → same_com c c ≡ true
    same-self c = eq-eqb c.0 c.0 refl
passes-among (p ∷ ps) m post q h = by (same_com m.to p.to) h (passes-among ps m post q)
  where
    by : (b : Bool) → list_all q (map (λ z. z.k) (cond b (p ∷ filter (λ z. same_com m.to z.to) (ps ++ m ∷ post)) (filter (λ z. same_com m.to z.to) (ps ++ m ∷ post)))) ≡ true → (list_all q (numbers_among (ps ++ m ∷ post) m.to) ≡ true → q m.k ≡ true) → q m.k ≡ true
    by true h rest = rest (and_parts (q p.k) (list_all q (numbers_among (ps ++ m ∷ post) m.to)) h).1
    by false h rest = rest h

rising-tail : (p : Msg) (ms : List Msg) (to : ComId) → is_rising (numbers_among (p ∷ ms) to) ≡ true → is_rising (numbers_among ms to) ≡ true
rising-tail p ms to h = by (same_com to p.to) h
  where
    by : (b : Bool) → is_rising (map (λ z. z.k) (cond b (p ∷ filter (λ z. same_com to z.to) ms) (filter (λ z. same_com to z.to) ms))) ≡ true → is_rising (numbers_among ms to) ≡ true
    by true h = (and_parts (list_all (λ n. nat_lt p.k n) (numbers_among ms to)) (is_rising (numbers_among ms to)) h).1
    by false h = h

-- where the numbers to each component rise, none stands twice
pub rising-new : (pre : List Msg) (m : Msg) (post : List Msg) → ((to : ComId) → is_rising (numbers_among (pre ++ m ∷ post) to) ≡ true) → list_any (same_identity (message_name m)) (map message_name pre) ≡ false
rising-new [] m post h = refl
rising-new (p ∷ ps) m post h =
    or_from (same_identity (message_name m) (message_name p)) (list_any (same_identity (message_name m)) (map message_name ps))
    (by (same_com m.to p.to) refl (h m.to))
    (rising-new ps m post (λ to. rising-tail p (ps ++ m ∷ post) to (h to)))
  where
    by : (b : Bool) → same_com m.to p.to ≡ b → is_rising (map (λ z. z.k) (cond b (p ∷ filter (λ z. same_com m.to z.to) (ps ++ m ∷ post)) (filter (λ z. same_com m.to z.to) (ps ++ m ∷ post)))) ≡ true → same_identity (message_name m) (message_name p) ≡ false
    by true e r =
        let above = (and_parts (list_all (λ n. nat_lt p.k n) (numbers_among (ps ++ m ∷ post) m.to)) (is_rising (numbers_among (ps ++ m ∷ post) m.to)) r).0 in
        let less = ltb-true p.k m.k (passes-among ps m post (λ n. nat_lt p.k n) above) in
        and_right (same_com m.to p.to) (m.k == p.k) (ne_eqb m.k p.k (λ same. omega arith))
    by false e r = and_left (same_com m.to p.to) (m.k == p.k) e

-- at a place of the list
pub rising-new_at : (ms : List Msg) (i : ℕ) (m : Msg) → ((to : ComId) → is_rising (numbers_among ms to) ≡ true) → i < length ms → m ≡ get_or ms i m → list_any (same_identity (message_name m)) (map message_name (take i ms)) ≡ false
rising-new_at ms i m h l read =
    let whole : take i ms ++ m ∷ drop (i + 1) ms ≡ ms = ap (λ z. take i ms ++ z ∷ drop (i + 1) ms) read ∙ ap (λ r. take i ms ++ r) (sym (drop_more ms i m l)) ∙ take-append-drop i ms in
    rising-new (take i ms) m (drop (i + 1) ms) (λ to. ap (λ l. is_rising (numbers_among l to)) whole ∙ h to)

-- the rows of the image
all-rows : (P : Row → Type 0) (ms : List Msg) → All (λ m. P (row_in_image m)) ms → All P (map row_in_image ms)
all-rows P [] h k d b = absurd (omega arith)
all-rows P (m ∷ ms) h zero d b = h 0 m (omega arith)
all-rows P (m ∷ ms) h (suc k) d b = all-rows P ms (λ j e l. h (suc j) e (omega arith)) k d (omega arith)

names-are : (ms : List Msg) → map name_of (map row_in_image ms) ≡ map message_name ms
names-are [] = refl
names-are (m ∷ ms) = ap (λ l. message_name m ∷ l) (names-are ms)

pub held-are : (ms : List Msg) → map held_of (map row_in_image ms) ≡ map held_in_image ms
held-are [] = refl
held-are (m ∷ ms) = ap (λ l. held_in_image m ∷ l) (held-are ms)

pub image-kept : (ms : List Msg) (links : Numbers) → All (λ m. m.k ≤ number_of 0 links m.to) ms → IsKept (map row_in_image ms) (map message_name ms) links (length ms) 0
image-kept ms links h =
    let long = length-map ms row_in_image in
    record {
      named = names-are ms;
      sent = all-rows (λ r. r.msg.k ≤ number_of 0 links r.msg.to) ms h;
      within = omega arith;
      put = λ k d a b. all-rows (λ r. r.put ≡ true) ms (λ j e l. refl) k d (omega arith);
      later = λ k d b u. omega arith;
    }
