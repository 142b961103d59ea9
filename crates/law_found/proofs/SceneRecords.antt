-- What holds of each item of a list, and at each place of a log.
use Rattle.std.proofs.Common.{◌≡◌, ap, sym, subst, List, [], ◌∷◌, ◌++◌, ◌⊎◌, inl, inr}
use Rattle.std.specs.Prelude.{⊤, Contains}
use Rattle.std.specs.List.{AllByRecursion}
use Rattle.std.proofs.lemmas.List.{append_assoc, append-nil}
use Rattle.ic_base.specs.declared.record.Record.{Record}
use Rattle.law_replay.proofs.Lists.{empty, head-or-tail}

pub each : {A : Type 0} (P : A → Type 0) (xs : List A) → AllByRecursion P xs → (x : A) → Contains xs x → P x
each P [] h x has = empty x has
each P (y ∷ ys) h x has = at (head-or-tail y x ys has) (λ t. each P ys h.1 x t)
  where
    at : (y ≡ x) ⊎ Contains ys x → (Contains ys x → P x) → P x
    at (inl e) more = subst P e h.0
    at (inr t) more = more t

-- what holds of each record, with those before and behind it
abbrev pub Splits : (List Record → Record → List Record → Type 0) → List Record → List Record → Type 0
Splits P pre [] = ⊤
Splits P pre (r ∷ rs) = P pre r rs × Splits P (pre ++ r ∷ []) rs

pub at-split : (P : List Record → Record → List Record → Type 0) (pre rs : List Record) → Splits P pre rs → (front : List Record) (r : Record) (post : List Record) → rs ≡ front ++ r ∷ post → P (pre ++ front) r post
at-split P pre [] h [] r post e = absurd (cc)
at-split P pre [] h (f ∷ front) r post e = absurd (cc)
at-split P pre (x ∷ xs) h [] r post e =
    let head : x ≡ r = ap (first x) e in
    let tail : xs ≡ post = ap rest e in subst (λ l. P l r post) (sym (append-nil pre)) (subst (λ l. P pre r l) tail (subst (λ y. P pre y xs) head h.0))
  where
    first : Record → List Record → Record
    first d [] = d
    first d (y ∷ ys) = y

    rest : List Record → List Record
    rest [] = []
    rest (y ∷ ys) = ys
at-split P pre (x ∷ xs) h (f ∷ front) r post e =
    let head : x ≡ f = ap (first x) e in
    let tail : xs ≡ front ++ r ∷ post = ap rest e in
    subst (λ y. P (pre ++ y ∷ front) r post) head (subst (λ l. P l r post) (append_assoc pre (x ∷ []) front) (at-split P (pre ++ x ∷ []) xs h.1 front r post tail))
  where
    first : Record → List Record → Record
    first d [] = d
    first d (y ∷ ys) = y

    rest : List Record → List Record
    rest [] = []
    rest (y ∷ ys) = ys
