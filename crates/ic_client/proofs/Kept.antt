-- The requests that were taken, as they are kept under their numbers.
use Rattle.std.proofs.Common.{◌≡◌, ◌∙◌, ap, sym, refl, subst, ℕ, ℤ, Bool, true, false, cond, List, [], ◌∷◌, ◌++◌, map, Option, None, Some, option_map, is_some, if◌then◌else◌, true≢false, length, take, replicate}
use Rattle.std.proofs.Math.Seq.{take-append_seam}
use Rattle.std.specs.Prelude.{◌==◌, ◌&&◌, is_none, ◌-◌, pos, not}
use Rattle.std.specs.Bool.{Decides, one_answer}
use Rattle.std.specs.Cmp.{signed_Decides, unsigned_Decides}
use Rattle.std.specs.Cmp.Rules.{signed_items}
use Rattle.std.specs.Cmp.Lexicographic.{pointwise}
use Rattle.std.specs.List.{AllByRecursion, IsDistinct}
use Rattle.std.specs.Map.{keys_of, lookup}
use Rattle.std.specs.Ordering.{int_eq}
use Rattle.std.proofs.lemmas.Bool.{and_parts}
use Rattle.std.proofs.lemmas.Option.{same_Some, none-some}
use Rattle.indexmap.specs.IndexMap.{insert_entry}
use Rattle.ic_base.specs.declared.messages.ComId.{ComId}
use Rattle.ic_base.specs.declared.messages.Output.{Output}
use Rattle.ic_base.specs.Programs.{same_com}
use Rattle.ic_base.specs.declared.limits.TheConstants.{VALUES}
use Rattle.def_client.specs.declared.asked.Asked.{Asked}
use Rattle.def_client.specs.declared.asked.Asked.TheVariants.{Differs}
use Rattle.def_client.specs.Fronts.{Request, Taken, Front, same_numbers, same_values, is_numbered, is_under, taken_under, asked_of, ask, replied as answered, replies_to}
use Rattle.ic_client.specs.Fronts.{same, taken_of, numbers_in, IsNumbered}
use Rattle.ic_client.specs.declared.front.Numbers.{Numbers}
use Rattle.ic_client.specs.declared.front.Row.{Row}

pub same-is : (x y : Numbers) → same x y ≡ true → x ≡ y
same-is x y h =
    let p = and_parts (x.who == y.who) (int_eq x.client y.client && int_eq x.request y.request) h in
    let q = and_parts (int_eq x.client y.client) (int_eq x.request y.request) p.1 in
    let P : ℕ → ℤ → ℤ → Numbers = λ w c r. record { who = w; client = c; request = r } in
    ap (λ w. P w x.client x.request) ((unsigned_Decides x.who y.who).0 p.0)
    ∙ ap (λ c. P y.who c x.request) ((signed_Decides x.client y.client).0 q.0)
    ∙ ap (λ r. P y.who y.client r) ((signed_Decides x.request y.request).0 q.1)

and-false : (b : Bool) → (b && false) ≡ false
and-false true = refl
and-false false = refl

-- values with no numbers -------------------------------------------------------------------------------

none-under : (c : ComId) (args : List ℤ) (r : Request) → numbers_in c args ≡ None → is_under c args r ≡ false
none-under c [] r none = and-false (same_com c r.who)
none-under c (u ∷ []) r none = and-false (same_com c r.who)
none-under c (u ∷ q ∷ rest) r none = absurd (cc)

pub none-taken : (c : ComId) (args : List ℤ) (front : Front) → numbers_in c args ≡ None → taken_under front c args ≡ None
none-taken c args [] none = refl
none-taken c args (t ∷ ts) none = ap (λ b. cond b (Some t) (taken_under ts c args)) (none-under c args t.request none) ∙ none-taken c args ts none

pub none-shows : (c : ComId) (o : Output) (front : Front) → numbers_in c o.args ≡ None → map (replies_to c o) front ≡ front
none-shows c o [] none = refl
none-shows c o (t ∷ ts) none =
    ap (λ b. cond (b && is_none t.reply) (record t { reply = Some (o.m, o.args) }) t ∷ map (replies_to c o) ts) (none-under c o.args t.request none)
    ∙ ap (λ l. t ∷ l) (none-shows c o ts none)

pub none-numbered : (c : ComId) (args : List ℤ) → numbers_in c args ≡ None → is_numbered args ≡ false
none-numbered c [] none = refl
none-numbered c (u ∷ []) none = refl
none-numbered c (u ∷ q ∷ rest) none = absurd (cc)

pub some-numbered : (c : ComId) (args : List ℤ) (n : Numbers) → numbers_in c args ≡ Some n → is_numbered args ≡ true
some-numbered c [] n some = absurd (none-some n some)
some-numbered c (u ∷ []) n some = absurd (none-some n some)
some-numbered c (u ∷ q ∷ rest) n some = refl

pub who-numbered : (c : ComId) (args : List ℤ) (n : Numbers) → numbers_in c args ≡ Some n → n.who ≡ c.0
who-numbered c [] n some = absurd (none-some n some)
who-numbered c (u ∷ []) n some = absurd (none-some n some)
who-numbered c (u ∷ q ∷ rest) n some = ap (λ (x : Numbers). x.who) (sym (same_Some (record { who = c.0; client = u; request = q }) n some))

-- values with numbers ----------------------------------------------------------------------------------

under-same : (c : ComId) (n : Numbers) (e : Numbers × Row) (xs ys : List ℤ) → numbers_in c xs ≡ Some n → numbers_in (record { 0 = e.0.who }) ys ≡ Some e.0 → (same_com c (record { 0 = e.0.who }) && same_numbers xs ys) ≡ same n e.0
under-same c n e [] ys h k = absurd (none-some n h)
under-same c n e (u ∷ []) ys h k = absurd (none-some n h)
under-same c n e (u ∷ q ∷ rest) [] h k = absurd (none-some e.0 k)
under-same c n e (u ∷ q ∷ rest) (v ∷ []) h k = absurd (none-some e.0 k)
under-same c n e (u ∷ q ∷ rest) (v ∷ s ∷ more) h k =
    let mine : record { who = c.0; client = u; request = q } ≡ n = same_Some (record { who = c.0; client = u; request = q }) n h in
    let its : record { who = e.0.who; client = v; request = s } ≡ e.0 = same_Some (record { who = e.0.who; client = v; request = s }) e.0 k in
    ap (λ (x : Numbers). same x (record { who = e.0.who; client = v; request = s })) mine ∙ ap (same n) its

module _ (c : ComId) (args : List ℤ) (n : Numbers) (numbers : numbers_in c args ≡ Some n) where
  under-is : (e : Numbers × Row) → IsNumbered e → is_under c args (taken_of e).request ≡ same n e.0
  under-is e k = under-same c n e args e.1.args numbers k

  -- a request is found under its numbers
  pub found-taken : (es : List (Numbers × Row)) → AllByRecursion IsNumbered es → taken_under (map taken_of es) c args ≡ option_map (λ (row : Row). taken_of (n, row)) (lookup (same n) es)
  found-taken [] all = refl
  found-taken (e ∷ es) all =
      ap (λ b. cond b (Some (taken_of e)) (taken_under (map taken_of es) c args)) (under-is e all.0)
      ∙ ap (cond (same n e.0) (Some (taken_of e))) (found-taken es all.1)
      ∙ by (same n e.0) (same-is n e.0)
    where
      by : (b : Bool) → (b ≡ true → n ≡ e.0) → cond b (Some (taken_of e)) (option_map (λ (row : Row). taken_of (n, row)) (lookup (same n) es)) ≡ option_map (λ (row : Row). taken_of (n, row)) (cond b (Some e.1) (lookup (same n) es))
      by true is = ap (λ (x : Numbers). Some (taken_of (x, e.1))) (sym (is refl))
      by false is = refl

-- what is kept behind an insertion has its numbers
pub inserted-numbered : (n : Numbers) (row : Row) (es : List (Numbers × Row)) → IsNumbered (n, row) → AllByRecursion IsNumbered es → AllByRecursion IsNumbered (insert_entry same es n row)
inserted-numbered n row [] is all = (is, tt)
inserted-numbered n row (e ∷ es) is all = by (same n e.0) (same-is n e.0) (inserted-numbered n row es is all.1)
  where
    by : (b : Bool) → (b ≡ true → n ≡ e.0) → AllByRecursion IsNumbered (insert_entry same es n row) → AllByRecursion IsNumbered (if b then (e.0, row) ∷ es else e ∷ insert_entry same es n row)
    by true own rest = let P : Numbers → Type 0 = λ x. IsNumbered (x, row) in (subst P (own refl) is, all.1)
    by false own rest = (all.0, rest)

-- the reply of an output -----------------------------------------------------------------------------

absent-apart : (n : Numbers) (es : List (Numbers × Row)) → lookup (same n) es ≡ None → AllByRecursion (λ y. same n y ≡ false) (keys_of es)
absent-apart n [] none = tt
absent-apart n (e ∷ es) none = by (same n e.0) refl none (absent-apart n es)
  where
    by : (b : Bool) → same n e.0 ≡ b → cond b (Some e.1) (lookup (same n) es) ≡ None → (lookup (same n) es ≡ None → AllByRecursion (λ y. same n y ≡ false) (keys_of es)) → AllByRecursion (λ y. same n y ≡ false) (keys_of (e ∷ es))
    by true is none rest = absurd (none-some e.1 (sym none))
    by false is none rest = (is, rest none)

module _ (c : ComId) (o : Output) (n : Numbers) (numbers : numbers_in c o.args ≡ Some n) where
  replied : (e : Numbers × Row) → IsNumbered e → replies_to c o (taken_of e) ≡ cond (same n e.0 && is_none e.1.reply) (record (taken_of e) { reply = Some (o.m, o.args) }) (taken_of e)
  replied e k = ap (λ b. cond (b && is_none e.1.reply) (record (taken_of e) { reply = Some (o.m, o.args) }) (taken_of e)) (under-is c o.args n numbers e k)

  apart-stays : (es : List (Numbers × Row)) → AllByRecursion IsNumbered es → AllByRecursion (λ y. same n y ≡ false) (keys_of es) → map (replies_to c o) (map taken_of es) ≡ map taken_of es
  apart-stays [] all apart = refl
  apart-stays (e ∷ es) all apart =
      ap (λ t. t ∷ map (replies_to c o) (map taken_of es)) (replied e all.0 ∙ ap (λ b. cond (b && is_none e.1.reply) (record (taken_of e) { reply = Some (o.m, o.args) }) (taken_of e)) apart.0)
      ∙ ap (λ l. taken_of e ∷ l) (apart-stays es all.1 apart.1)

  -- none of its numbers was taken
  pub absent-stays : (es : List (Numbers × Row)) → AllByRecursion IsNumbered es → lookup (same n) es ≡ None → map (replies_to c o) (map taken_of es) ≡ map taken_of es
  absent-stays es all none = apart-stays es all (absent-apart n es none)

  module _ (row : Row) where
    apart-behind : (e : Numbers × Row) (ks : List Numbers) → n ≡ e.0 → AllByRecursion (λ y. same e.0 y ≡ false) ks → AllByRecursion (λ y. same n y ≡ false) ks
    apart-behind e ks is apart = let P : Numbers → Type 0 = λ x. AllByRecursion (λ y. same x y ≡ false) ks in subst P (sym is) apart

    -- the one that was taken has a reply
    pub replied-stays : (es : List (Numbers × Row)) → AllByRecursion IsNumbered es → IsDistinct same (keys_of es) → lookup (same n) es ≡ Some row → is_some row.reply ≡ true → map (replies_to c o) (map taken_of es) ≡ map taken_of es
    unfolding IsDistinct
    replied-stays [] all apart some has = absurd (none-some row some)
    replied-stays (e ∷ es) all apart some has = by (same n e.0) (same-is n e.0) refl some (λ f. replied-stays es all.1 apart.1 f has)
      where
        kept : (r : Option (ℕ × List ℤ)) (b : Bool) → is_some r ≡ true → (b && is_none r) ≡ false
        kept None b h = absurd (true≢false (sym h))
        kept (Some x) b h = and-false b

        by : (b : Bool) → (b ≡ true → n ≡ e.0) → same n e.0 ≡ b → cond b (Some e.1) (lookup (same n) es) ≡ Some row → (lookup (same n) es ≡ Some row → map (replies_to c o) (map taken_of es) ≡ map taken_of es) → map (replies_to c o) (map taken_of (e ∷ es)) ≡ map taken_of (e ∷ es)
        by true is b some rest =
            let here : is_some e.1.reply ≡ true = ap (λ (r : Row). is_some r.reply) (same_Some e.1 row some) ∙ has in
            ap (λ t. t ∷ map (replies_to c o) (map taken_of es)) (replied e all.0 ∙ ap (λ x. cond x (record (taken_of e) { reply = Some (o.m, o.args) }) (taken_of e)) (kept e.1.reply (same n e.0) here))
            ∙ ap (λ l. taken_of e ∷ l) (apart-stays es all.1 (apart-behind e (keys_of es) (is refl) apart.0))
        by false is b some rest =
            ap (λ t. t ∷ map (replies_to c o) (map taken_of es)) (replied e all.0 ∙ ap (λ x. cond (x && is_none e.1.reply) (record (taken_of e) { reply = Some (o.m, o.args) }) (taken_of e)) b)
            ∙ ap (λ l. taken_of e ∷ l) (rest some)

    -- it has none, and the output is kept as its reply
    pub reply-kept : (es : List (Numbers × Row)) → AllByRecursion IsNumbered es → IsDistinct same (keys_of es) → lookup (same n) es ≡ Some row → is_some row.reply ≡ false → map taken_of (insert_entry same es n (record row { reply = Some (o.m, o.args) })) ≡ map (replies_to c o) (map taken_of es)
    unfolding IsDistinct
    reply-kept [] all apart some has = absurd (none-some row some)
    reply-kept (e ∷ es) all apart some has = by (same n e.0) (same-is n e.0) refl some (λ f. reply-kept es all.1 apart.1 f has)
      where
        open-reply : (r : Option (ℕ × List ℤ)) → is_some r ≡ false → is_none r ≡ true
        open-reply None h = refl
        open-reply (Some x) h = absurd (true≢false h)

        by : (b : Bool) → (b ≡ true → n ≡ e.0) → same n e.0 ≡ b → cond b (Some e.1) (lookup (same n) es) ≡ Some row → (lookup (same n) es ≡ Some row → map taken_of (insert_entry same es n (record row { reply = Some (o.m, o.args) })) ≡ map (replies_to c o) (map taken_of es)) → map taken_of (if b then (e.0, record row { reply = Some (o.m, o.args) }) ∷ es else e ∷ insert_entry same es n (record row { reply = Some (o.m, o.args) })) ≡ map (replies_to c o) (map taken_of (e ∷ es))
        by true is b some rest =
            let its = same_Some e.1 row some in
            let none : is_none e.1.reply ≡ true = open-reply e.1.reply (ap (λ (r : Row). is_some r.reply) its ∙ has) in
            let first : replies_to c o (taken_of e) ≡ record (taken_of e) { reply = Some (o.m, o.args) } =
            replied e all.0
            ∙ ap (λ x. cond (x && is_none e.1.reply) (record (taken_of e) { reply = Some (o.m, o.args) }) (taken_of e)) b
            ∙ ap (λ x. cond x (record (taken_of e) { reply = Some (o.m, o.args) }) (taken_of e)) none in
            ap (λ (r : Row). taken_of (e.0, record r { reply = Some (o.m, o.args) }) ∷ map taken_of es) (sym its)
            ∙ ap (λ t. t ∷ map taken_of es) (sym first)
            ∙ ap (λ l. replies_to c o (taken_of e) ∷ l) (sym (apart-stays es all.1 (apart-behind e (keys_of es) (is refl) apart.0)))
        by false is b some rest =
            ap (λ t. t ∷ map taken_of (insert_entry same es n (record row { reply = Some (o.m, o.args) }))) (sym (replied e all.0 ∙ ap (λ x. cond (x && is_none e.1.reply) (record (taken_of e) { reply = Some (o.m, o.args) }) (taken_of e)) b))
            ∙ ap (λ l. replies_to c o (taken_of e) ∷ l) (rest some)

-- values --------------------------------------------------------------------------------------------

pub values-decided : (xs ys : List ℤ) → Decides (same_values xs ys) (xs ≡ ys)
values-decided [] [] = (λ h. refl, λ e. refl)
values-decided [] (y ∷ ys) = (λ h. absurd (true≢false (sym h)), λ e. absurd (cc))
values-decided (x ∷ xs) [] = (λ h. absurd (true≢false (sym h)), λ e. absurd (cc))
values-decided (x ∷ xs) (y ∷ ys) = (there (values-decided xs ys).0, back (values-decided xs ys).1)
  where
    there : (same_values xs ys ≡ true → xs ≡ ys) → (int_eq x y && same_values xs ys) ≡ true → (x ∷ xs) ≡ (y ∷ ys)
    there rest h =
        let p = and_parts (int_eq x y) (same_values xs ys) h in
        ap (λ z. z ∷ xs) ((signed_Decides x y).0 p.0) ∙ ap (λ l. y ∷ l) (rest p.1)

    back : (xs ≡ ys → same_values xs ys ≡ true) → (x ∷ xs) ≡ (y ∷ ys) → (int_eq x y && same_values xs ys) ≡ true
    back rest e =
        let first : x ≡ y = cc in
        let others : xs ≡ ys = cc in
        ap (λ b. b && same_values xs ys) ((signed_Decides x y).1 first) ∙ rest others

-- it is kept under them
pub own-numbered : (c : ComId) (n : Numbers) (row : Row) → numbers_in c row.args ≡ Some n → IsNumbered (n, row)
own-numbered c n row numbers = ap (λ w. numbers_in (record { 0 = w }) row.args) (who-numbered c row.args n numbers) ∙ numbers

-- nothing is found where it leads to nothing
pub not-found : {A B : Type 0} (f : A → B) (o : Option A) → option_map f o ≡ None → o ≡ None
not-found f None e = refl
not-found f (Some x) e = absurd (none-some (f x) (sym e))

-- what is found under numbers has them
pub found-numbered : (n : Numbers) (row : Row) (es : List (Numbers × Row)) → AllByRecursion IsNumbered es → lookup (same n) es ≡ Some row → IsNumbered (n, row)
found-numbered n row [] all some = absurd (none-some row some)
found-numbered n row (e ∷ es) all some = by (same n e.0) (same-is n e.0) some (λ f. found-numbered n row es all.1 f)
  where
    by : (b : Bool) → (b ≡ true → n ≡ e.0) → cond b (Some e.1) (lookup (same n) es) ≡ Some row → (lookup (same n) es ≡ Some row → IsNumbered (n, row)) → IsNumbered (n, row)
    by true own some rest = let P : Numbers → Row → Type 0 = λ x r. IsNumbered (x, r) in subst (P n) (same_Some e.1 row some) (subst (λ x. P x e.1) (sym (own refl)) all.0)
    by false own some rest = rest some

-- the answer to a request that is found -----------------------------------------------------------

-- what is answered to a request with this handler and these values, where that one was taken under its numbers
abbrev pub answer_by : ℕ → List ℤ → Row → Asked
answer_by handler args row = cond ((handler == row.handler) && same_values args row.args) (answered row.reply) Differs

pub ask-found : (front : Front) (es : List (Numbers × Row)) (c : ComId) (handler : ℕ) (args : List ℤ) (n : Numbers) (row : Row) → front ≡ map taken_of es → AllByRecursion IsNumbered es → numbers_in c args ≡ Some n → lookup (same n) es ≡ Some row → ask front (record { who = c; handler = handler; args = args }) ≡ answer_by handler args row
ask-found front es c handler args n row view all numbers some =
    ap (λ (o : Option Taken). asked_of o (record { who = c; handler = handler; args = args }))
    (ap (λ (f : Front). taken_under f c args) view ∙ found-taken c args n numbers es all ∙ ap (option_map (λ (r : Row). taken_of (n, r))) some)

other-handler : (a b : ℕ) → (b ≡ a → ⊥) → (a == b) ≡ false
other-handler a b differs = by (a == b) (unsigned_Decides a b).0
  where
    by : (t : Bool) → (t ≡ true → a ≡ b) → t ≡ false
    by true is = absurd (differs (sym (is refl)))
    by false is = refl

pub differs-by-handler : (handler : ℕ) (args : List ℤ) (row : Row) → (row.handler ≡ handler → ⊥) → answer_by handler args row ≡ Differs
differs-by-handler handler args row differs = ap (λ b. cond (b && same_values args row.args) (answered row.reply) Differs) (other-handler handler row.handler differs)

-- values of a request are equal where these are
abbrev pub values_eq : List ℤ → List ℤ → Bool
values_eq xs ys = (length xs == length ys) && pointwise int_eq (xs ++ replicate (VALUES - length xs) (pos 0)) (ys ++ replicate (VALUES - length ys) (pos 0))

eq-decides : (xs ys : List ℤ) → Decides (values_eq xs ys) (xs ≡ ys)
eq-decides xs ys = (there, back)
  where
    pad : List ℤ → List ℤ
    pad zs = replicate (VALUES - length zs) (pos 0)

    there : values_eq xs ys ≡ true → xs ≡ ys
    there h =
        let p = and_parts (length xs == length ys) (pointwise int_eq (xs ++ pad xs) (ys ++ pad ys)) h in
        sym (take-append_seam xs (pad xs)) ∙ ap (take (length xs)) ((signed_items (xs ++ pad xs) (ys ++ pad ys)).0 p.1) ∙ ap (λ n. take n (ys ++ pad ys)) ((unsigned_Decides (length xs) (length ys)).0 p.0) ∙ take-append_seam ys (pad ys)

    itself : values_eq xs xs ≡ true
    itself = ap (λ b. b && pointwise int_eq (xs ++ pad xs) (xs ++ pad xs)) ((unsigned_Decides (length xs) (length xs)).1 refl) ∙ (signed_items (xs ++ pad xs) (xs ++ pad xs)).1 refl

    back : xs ≡ ys → values_eq xs ys ≡ true
    back e = ap (values_eq xs) (sym e) ∙ itself

pub eq-same : (xs ys : List ℤ) → values_eq xs ys ≡ same_values ys xs
eq-same xs ys =
    let d = values-decided ys xs in
    one_answer (values_eq xs ys) (same_values ys xs) (eq-decides xs ys) (λ h. sym (d.0 h), λ e. d.1 (sym e))

pub differs-by-values : (handler : ℕ) (args : List ℤ) (row : Row) → true ≡ not (values_eq row.args args) → answer_by handler args row ≡ Differs
differs-by-values handler args row differs =
    ap (λ b. cond ((handler == row.handler) && b) (answered row.reply) Differs) (sym (eq-same row.args args) ∙ is-false (values_eq row.args args) differs)
    ∙ ap (λ b. cond b (answered row.reply) Differs) (and-false (handler == row.handler))
  where
    is-false : (b : Bool) → true ≡ not b → b ≡ false
    is-false true e = e
    is-false false e = refl

pub answer-same : (handler : ℕ) (args : List ℤ) (row : Row) → row.handler ≡ handler → false ≡ not (values_eq row.args args) → answer_by handler args row ≡ answered row.reply
answer-same handler args row is values =
    ap (λ b. cond (b && same_values args row.args) (answered row.reply) Differs) ((unsigned_Decides handler row.handler).1 (sym is))
    ∙ ap (λ b. cond b (answered row.reply) Differs) (sym (eq-same row.args args) ∙ is-true (values_eq row.args args) values)
  where
    is-true : (b : Bool) → false ≡ not b → b ≡ true
    is-true true e = refl
    is-true false e = e
