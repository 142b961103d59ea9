-- One message more is taken or sent.
use Rattle.std.proofs.Common.{◌≡◌, ◌∙◌, ap, sym, refl, ℕ, zero, suc, ◌+◌, ◌<◌, ◌==◌, Bool, true, false, cond, List, [], ◌∷◌, ◌++◌, map, slice_get, slice_set, length, take, get_or, ◌≤◌, subst, option_and_then, append-nil, length-append, ◌⊎◌, inl, inr, arith}
use Rattle.std.specs.Prelude.{◌&&◌, ◌||◌, unwrap_or, Some, None}
use Rattle.std.specs.List.{AllByRecursion}
use Rattle.std.proofs.lemmas.Option.{same_Some, slice_get-get_or, slice_get_within, get_or_from_slice_get}
use Rattle.std.proofs.Math.Seq.{take-append_seam}
use Rattle.std.proofs.lemmas.Bool.{cases_eq, eq-eqb, ne_eqb}
use Rattle.std.proofs.lemmas.List.Folds.{list_any-append}
use Rattle.std.proofs.lemmas.List.Elements.{filter-append}
use Rattle.ic_base.specs.declared.messages.ComId.{ComId}
use Rattle.ic_base.specs.declared.messages.Kind.{Kind}
use Rattle.ic_base.specs.declared.messages.Kind.TheVariants as kinds
use Rattle.ic_base.specs.declared.messages.Send.{Send}
use Rattle.ic_base.specs.declared.played.Played.{Played}
use Rattle.ic_base.specs.declared.played.Played.TheVariants.{Asks, Ready, NeedFails, Ends}
use Rattle.ic_base.specs.declared.scenario.Component.{Component}
use Rattle.def_plain.specs.declared.world.PlainPcom.{PlainPcom}
use Rattle.def_plain.specs.Cell.{is_com, come_to, first_pcom}
use Rattle.def_plain.specs.declared.world.PlainCom.{PlainCom}
use Rattle.def_plain.specs.Plain.{PlainWorld, as_pcom, pcom_at, on_link, first_of_kind}
use Rattle.ic_model.specs.declared.index.MessageIndex.{MessageIndex}
use Rattle.ic_model.specs.Index.{is_among, same_key, IsIndexOf, AreIndexed, HasNoMessages}

either-way : (b other : Bool) → cond b true other ≡ (other || (b || false))
either-way true true = refl
either-way true false = refl
either-way false true = refl
either-way false false = refl

pub among-added : (receipts : List (ComId × ℕ)) (c : ComId) (n : ℕ) (s : ComId) (k : ℕ) → cond (same_key (c.0, n) (s.0, k)) true (is_among receipts s k) ≡ is_among (receipts ++ (c, n) ∷ []) s k
among-added receipts c n s k = either-way (same_key (c.0, n) (s.0, k)) (is_among receipts s k) ∙ sym (list_any-append (λ (r : ComId × ℕ). is_com r.0 s && (r.1 == k)) receipts ((c, n) ∷ []))

-- one place more, with nothing in it
pub empty-pushed : {X : Type 0} (xs : List (List X)) (i : ℕ) → unwrap_or (slice_get (xs ++ [] ∷ []) i) [] ≡ unwrap_or (slice_get xs i) []
empty-pushed [] zero = refl
empty-pushed [] (suc i) = refl
empty-pushed (x ∷ xs) zero = refl
empty-pushed (x ∷ xs) (suc i) = empty-pushed xs i

-- a list with another item in one place
pub set-here : {X : Type 0} (xs : List X) (i : ℕ) (x : X) → i < length xs → slice_get (slice_set xs i x) i ≡ Some x
set-here [] i x lt = absurd (omega (arith, lt))
set-here (y ∷ ys) zero x lt = refl
set-here (y ∷ ys) (suc i) x lt = set-here ys i x (omega (arith, lt))

pub set-other : {X : Type 0} (xs : List X) (i j : ℕ) (x : X) → (i ≡ j → ⊥) → slice_get (slice_set xs i x) j ≡ slice_get xs j
set-other [] i j x apart = refl
set-other (y ∷ ys) zero zero x apart = absurd (apart refl)
set-other (y ∷ ys) zero (suc j) x apart = refl
set-other (y ∷ ys) (suc i) zero x apart = refl
set-other (y ∷ ys) (suc i) (suc j) x apart = set-other ys i j x (λ e. apart (ap suc e))

-- one message more on its link
pub link-put : (xs : List (List Send)) (sent there : List Send) (m : Send) (i : ℕ) (c : ComId) → i ≡ m.to.0 → i < length xs → there ≡ get_or xs i there → ((d : ComId) → unwrap_or (slice_get xs d.0) [] ≡ on_link d sent) → unwrap_or (slice_get (slice_set xs i (there ++ m ∷ [])) c.0) [] ≡ on_link c (sent ++ m ∷ [])
link-put xs sent there m i c same lt read is = by (cases_eq i c.0)
  where
    put : List Send → Type 0
    put l = l ≡ on_link c (sent ++ m ∷ [])

    by : (i ≡ c.0) ⊎ (i ≡ c.0 → ⊥) → put (unwrap_or (slice_get (slice_set xs i (there ++ m ∷ [])) c.0) [])
    by (inl e) =
        ap (λ j. unwrap_or (slice_get (slice_set xs i (there ++ m ∷ [])) j) []) (sym e)
        ∙ ap (λ o. unwrap_or o []) (set-here xs i (there ++ m ∷ []) lt)
        ∙ ap (λ o. unwrap_or o [] ++ m ∷ []) (ap Some read ∙ sym (slice_get-get_or xs i there lt))
        ∙ ap (λ j. unwrap_or (slice_get xs j) [] ++ m ∷ []) e
        ∙ ap (λ l. l ++ m ∷ []) (is c)
        ∙ ap (λ b. on_link c sent ++ cond b (m ∷ []) []) (sym (eq-eqb m.to.0 c.0 (sym same ∙ e)))
        ∙ sym (filter-append (λ (s : Send). is_com s.to c) sent (m ∷ []))
    by (inr apart) =
        ap (λ o. unwrap_or o []) (set-other xs i c.0 (there ++ m ∷ []) apart)
        ∙ is c
        ∙ sym (append-nil (on_link c sent))
        ∙ ap (λ b. on_link c sent ++ cond b (m ∷ []) []) (sym (ne_eqb m.to.0 c.0 (λ e. apart (same ∙ e))))
        ∙ sym (filter-append (λ (s : Send). is_com s.to c) sent (m ∷ []))

-- what a handling comes to leaves the receipts, and sends behind what was sent
pub came-receipts : (p : PlainPcom) (r : Played) → (come_to p r).receipts ≡ p.receipts
came-receipts p (Ends vars sends outs) = refl
came-receipts p (Asks t q) = refl
came-receipts p (Ready t) = refl
came-receipts p (NeedFails t line) = refl

pub came-sent : (p : PlainPcom) (r : Played) → (more : List Send) × ((come_to p r).sent ≡ p.sent ++ more)
came-sent p (Ends vars sends outs) = (sends, refl)
came-sent p (Asks t q) = ([], sym (append-nil p.sent))
came-sent p (Ready t) = ([], sym (append-nil p.sent))
came-sent p (NeedFails t line) = ([], sym (append-nil p.sent))

pub sent-behind : (p : PlainPcom) (r : Played) (q : PlainPcom) → q ≡ come_to p r → length p.sent ≤ length q.sent
sent-behind p r q is = let y = came-sent p r in let e : length q.sent ≡ length p.sent + length y.0 = ap (λ (z : PlainPcom). length z.sent) is ∙ ap length y.1 ∙ length-append p.sent y.0 in omega (arith, e)

pub index-behind : (p : PlainPcom) (r : Played) (q : PlainPcom) (x : MessageIndex) → q ≡ come_to p r → IsIndexOf p.receipts p.sent x → IsIndexOf q.receipts (take (length p.sent) q.sent) x
index-behind p r q x is h =
    let y = came-sent p r in
    subst (λ (z : PlainPcom). IsIndexOf z.receipts (take (length p.sent) z.sent) x) (sym is)
    (subst (λ l. IsIndexOf l (take (length p.sent) (come_to p r).sent) x) (sym (came-receipts p r))
    (subst (λ l. IsIndexOf p.receipts l x) (sym (ap (take (length p.sent)) y.1 ∙ take-append_seam p.sent y.0)) h))

-- worlds ----------------------------------------------------------------------------------------------------------

pub set-there : (w : PlainWorld) (i : ℕ) (v : PlainCom) (p : PlainPcom) → option_and_then as_pcom (slice_get (slice_set w i v) i) ≡ Some p → as_pcom v ≡ Some p
set-there [] i v p e = absurd (cc e)
set-there (x ∷ xs) zero v p e = e
set-there (x ∷ xs) (suc i) v p e = set-there xs i v p e

pub set-rest : (w : PlainWorld) (i j : ℕ) (v : PlainCom) (p : PlainPcom) → as_pcom v ≡ None → option_and_then as_pcom (slice_get (slice_set w i v) j) ≡ Some p → option_and_then as_pcom (slice_get w j) ≡ Some p
set-rest [] i j v p none e = e
set-rest (x ∷ xs) zero zero v p none e = absurd (cc (none, e))
set-rest (x ∷ xs) zero (suc j) v p none e = e
set-rest (x ∷ xs) (suc i) zero v p none e = e
set-rest (x ∷ xs) (suc i) (suc j) v p none e = set-rest xs i j v p none e

pub pcom-within : (w : PlainWorld) (i : ℕ) (p : PlainPcom) → option_and_then as_pcom (slice_get w i) ≡ Some p → i < length w
pcom-within [] i p e = absurd (cc e)
pcom-within (x ∷ xs) zero p e = omega arith
pcom-within (x ∷ xs) (suc i) p e = let lt = pcom-within xs i p e in omega (arith, lt)

-- one component and its index are others
pub indexed-set : (w : PlainWorld) (xs : List MessageIndex) (i : ℕ) (v : PlainCom) (x : MessageIndex) → AreIndexed w xs → i < length xs → ((p : PlainPcom) → as_pcom v ≡ Some p → IsIndexOf p.receipts p.sent x) → AreIndexed (slice_set w i v) (slice_set xs i x)
indexed-set w xs i v x h lt own = λ c p e. by c p e (cases_eq i c.0)
  where
    by : (c : ComId) (p : PlainPcom) → pcom_at (slice_set w i v) c ≡ Some p → (i ≡ c.0) ⊎ (i ≡ c.0 → ⊥) → (y : MessageIndex) × (slice_get (slice_set xs i x) c.0 ≡ Some y) × IsIndexOf p.receipts p.sent y
    by c p e (inl same) =
        (x, ap (slice_get (slice_set xs i x)) (sym same) ∙ set-here xs i x lt, own p (set-there w i v p (ap (λ j. option_and_then as_pcom (slice_get (slice_set w i v) j)) same ∙ e)))
    by c p e (inr apart) =
        let y = h c p (ap (option_and_then as_pcom) (sym (set-other w i c.0 v apart)) ∙ e) in (y.0, set-other xs i c.0 x apart ∙ y.1, y.2)

-- the index of a Pcom in its place
pub index-is : (w : PlainWorld) (xs : List MessageIndex) (s : ComId) (i : ℕ) (p : PlainPcom) (x : MessageIndex) → AreIndexed w xs → pcom_at w s ≡ Some p → i ≡ s.0 → x ≡ get_or xs i x → IsIndexOf p.receipts p.sent x
index-is w xs s i p x h at same read =
    let y = h s p at in
    let there : get_or xs i x ≡ y.0 = ap (λ j. get_or xs j x) same ∙ get_or_from_slice_get xs s.0 y.0 x y.1 in subst (IsIndexOf p.receipts p.sent) (sym there ∙ sym read) y.2

pub index-within : (w : PlainWorld) (xs : List MessageIndex) (s : ComId) (i : ℕ) (p : PlainPcom) → AreIndexed w xs → pcom_at w s ≡ Some p → i ≡ s.0 → i < length xs
index-within w xs s i p h at same = let y = h s p at in let lt = slice_get_within xs s.0 y.0 y.1 in omega (arith, lt, same)

-- where nothing was taken or sent each place has the index of nothing
pub all-pushed : {X : Type 0} (P : X → Type 0) (xs : List X) (x : X) → AllByRecursion P xs → P x → AllByRecursion P (xs ++ x ∷ [])
all-pushed P [] x all h = (h, tt)
all-pushed P (y ∷ ys) x all h = (all.0, all-pushed P ys x all.1 h)

pub indexed-first : (w : PlainWorld) (xs : List MessageIndex) → ((c : ComId) (p : PlainPcom) → pcom_at w c ≡ Some p → HasNoMessages p) → AllByRecursion (IsIndexOf [] []) xs → length w ≤ length xs → AreIndexed w xs
indexed-first w xs none empty many = λ c p at. let lt = pcom-within w c.0 p at in there c.0 xs empty (omega (arith, lt, many)) p (none c p at)
  where
    own : (x : MessageIndex) (p : PlainPcom) → HasNoMessages p → IsIndexOf [] [] x → IsIndexOf p.receipts p.sent x
    own x p n h = subst (λ l. IsIndexOf p.receipts l x) (sym n.1) (subst (λ l. IsIndexOf l [] x) (sym n.0) h)

    there : (i : ℕ) (ys : List MessageIndex) → AllByRecursion (IsIndexOf [] []) ys → i < length ys → (p : PlainPcom) → HasNoMessages p → (y : MessageIndex) × (slice_get ys i ≡ Some y) × IsIndexOf p.receipts p.sent y
    there i [] all lt p n = absurd (omega (arith, lt))
    there zero (y ∷ ys) all lt p n = (y, refl, own y p n all.0)
    there (suc i) (y ∷ ys) all lt p n = there i ys all.1 (omega (arith, lt)) p n

-- a world before its first entry
pub first-empty : (xs : List Component) (c : ComId) (p : PlainPcom) → pcom_at (map (λ x. first_of_kind x.kind x) xs) c ≡ Some p → HasNoMessages p
first-empty xs c p at = by xs c.0 at
  where
    of : (k : Kind) (x : Component) → as_pcom (first_of_kind k x) ≡ Some p → HasNoMessages p
    of kinds.Pcom x e = let same = same_Some (first_pcom x) p e in (ap (λ (q : PlainPcom). q.receipts) (sym same), ap (λ (q : PlainPcom). q.sent) (sym same))
    of kinds.Tcom x e = absurd (cc e)
    of kinds.Xcom x e = absurd (cc e)

    by : (ys : List Component) (i : ℕ) → option_and_then as_pcom (slice_get (map (λ x. first_of_kind x.kind x) ys) i) ≡ Some p → HasNoMessages p
    by [] i e = absurd (cc e)
    by (y ∷ ys) zero e = of y.kind y e
    by (y ∷ ys) (suc i) e = by ys i e
