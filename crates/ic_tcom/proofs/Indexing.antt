-- The look-up of a decision by its transaction.
use Rattle.std.proofs.Common.{◌≡◌, ◌∙◌, ◌++◌, ℕ, Bool, true, false, cond, List, [], ◌∷◌, Option, Some, None, find, ap, refl, sym, inl, inr, arith}
use Rattle.std.specs.Option.{option_map}
use Rattle.std.proofs.lemmas.Bool.{cases_Bool}
use Rattle.std.proofs.lemmas.Bool.Decides.{nat_tests}
use Rattle.def_step.specs.Tcom.{Verdict, is_of}
use Rattle.ic_tcom.specs.Index.{same_key}

abbrev pub or_else : {X : Type 0} → Option X → Option X → Option X
or_else None o = o
or_else (Some x) o = Some x

or_behind : {X : Type 0} (b : Bool) (x : X) (o p : Option X) → cond b (Some x) (or_else o p) ≡ or_else (cond b (Some x) o) p
or_behind true x o p = refl
or_behind false x o p = refl

pub find_push : {X : Type 0} (p : X → Bool) (xs : List X) (y : X) → find p (xs ++ y ∷ []) ≡ or_else (find p xs) (cond (p y) (Some y) None)
find_push p [] y = refl
find_push p (x ∷ xs) y = ap (cond (p x) (Some x)) (find_push p xs y) ∙ or_behind (p x) x (find p xs) (cond (p y) (Some y) None)

-- the stamp of a transaction among decisions
abbrev pub stamp_in : List Verdict → ℕ → ℕ → Option ℕ
stamp_in vs c n = option_map (λ (v : Verdict). v.stamp) (find (is_of (record { 0 = c }) n) vs)

abbrev pub last_stamp : Option Verdict → Bool → Verdict → Option ℕ
last_stamp o b v = option_map (λ (v : Verdict). v.stamp) (or_else o (cond b (Some v) None))

pub stamp_first : (o : Option Verdict) (v : Verdict) (s : Option ℕ) → option_map (λ (v : Verdict). v.stamp) o ≡ s → last_stamp o false v ≡ s
stamp_first None v s is = is
stamp_first (Some w) v s is = is

pub stamp_last : (o : Option Verdict) (v : Verdict) → option_map (λ (v : Verdict). v.stamp) o ≡ None → last_stamp o true v ≡ Some v.stamp
stamp_last None v none = refl
stamp_last (Some w) v none = cc

-- one more decision, on a transaction that isn't decided
pub stamp_push : (vs : List Verdict) (v : Verdict) (c n : ℕ) (f : Option ℕ) → stamp_in vs v.peer.0 v.n ≡ None → f ≡ stamp_in vs c n → cond (same_key (v.peer.0, v.n) (c, n)) (Some v.stamp) f ≡ stamp_in (vs ++ v ∷ []) c n
stamp_push vs v c n f new old = elim (cases_Bool (same_key (v.peer.0, v.n) (c, n))) [
  | inl same ↦
      let e : v.peer.0 ≡ c = grind (arith, nat_tests) in
      let m : v.n ≡ n = grind (arith, nat_tests) in
      let t : is_of (record { 0 = c }) n v ≡ true = grind (arith, nat_tests) in
      let none : stamp_in vs c n ≡ None = rw (← e, ← m) new in
      ap (λ b. cond b (Some v.stamp) f) same
      ∙ sym (ap (option_map (λ (v : Verdict). v.stamp)) (find_push (is_of (record { 0 = c }) n) vs v) ∙ ap (λ b. last_stamp (find (is_of (record { 0 = c }) n) vs) b v) t ∙ stamp_last _ v none)
  | inr differs ↦
      let t : is_of (record { 0 = c }) n v ≡ false = grind (arith, nat_tests) in
      ap (λ b. cond b (Some v.stamp) f) differs
      ∙ sym (ap (option_map (λ (v : Verdict). v.stamp)) (find_push (is_of (record { 0 = c }) n) vs v) ∙ ap (λ b. last_stamp (find (is_of (record { 0 = c }) n) vs) b v) t ∙ stamp_first _ v f (sym old))
]
