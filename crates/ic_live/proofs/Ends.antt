-- The end to a peer, and a list of ends in which one is changed.
use Rattle.std.proofs.Common.{◌≡◌, refl, sym, ap, subst, ◌∙◌, ℕ, zero, suc, ◌==◌, Bool, true, false, cond, ◌||◌, List, [], ◌∷◌, ◌++◌, map, arith, Some}
use Rattle.std.specs.Prelude.{slice_get, slice_set}
use Rattle.std.proofs.Math.Seq.{map-set_same}
use Rattle.std.proofs.lemmas.Bool.{eqb-true, both_ways}
use Rattle.std.proofs.lemmas.Bool.Decides.{nat_tests}
use Rattle.std.proofs.lemmas.Option.{same_Some, get_or_from_slice_get}
use Rattle.ic_base.specs.declared.messages.ComId.{ComId}
use Rattle.ic_base.specs.Programs.{same_com}
use Rattle.ic_live.specs.Ends.{is_among, AreApart, at_peer}

pub same-com : (c d : ComId) → same_com c d ≡ true → c ≡ d
same-com c d e = let P : ℕ → ComId = λ n. record { 0 = n } in ap P (eqb-true c.0 d.0 e)

self : (n : ℕ) → (n == n) ≡ true
self n = grind (arith, nat_tests)

pub self-com : (c : ComId) → same_com c c ≡ true
self-com c = self c.0

-- of two tests of which one is true, both
or-left : (a b : Bool) → (a || b) ≡ false → a ≡ false
or-left false b e = refl
or-left true b e = e

or-right : (a b : Bool) → (a || b) ≡ false → b ≡ false
or-right false b e = e
or-right true b e = absurd (both_ways true e refl)

-- one that is none of these isn't the one in a place
pub among-not : (peers : List ComId) (at : ℕ) (d p : ComId) → slice_get peers at ≡ Some d → is_among peers p ≡ false → same_com p d ≡ false
among-not [] at d p e none = absurd (cc e)
among-not (q ∷ peers) zero d p e none = subst (λ z. same_com p z ≡ false) (same_Some q d e) (or-left (same_com p q) (is_among peers p) none)
among-not (q ∷ peers) (suc at) d p e none = among-not peers at d p e (or-right (same_com p q) (is_among peers p) none)

-- the one in a place is one of these
pub among-there : (peers : List ComId) (at : ℕ) (d : ComId) → slice_get peers at ≡ Some d → is_among peers d ≡ true
among-there [] at d e = absurd (cc e)
among-there (q ∷ peers) zero d e = ap (λ b. b || is_among peers d) (subst (λ z. same_com d z ≡ true) (sym (same_Some q d e)) (self-com d))
among-there (q ∷ peers) (suc at) d e = by (same_com d q) (among-there peers at d e)
  where
    by : (b : Bool) → is_among peers d ≡ true → (b || is_among peers d) ≡ true
    by true h = refl
    by false h = h

module _ {A B : Type 0} (none : B) (read : A → B) where
  -- what is read of the end in the place of a peer
  pub peer-read : (peers : List ComId) (ends : List A) (at : ℕ) (d e : ComId) (v : A) → AreApart peers → slice_get peers at ≡ Some d → slice_get ends at ≡ Some v → same_com e d ≡ true → at_peer none read peers ends e ≡ read v
  peer-read [] ends at d e v apart p x is = absurd (cc p)
  peer-read (q ∷ peers) [] at d e v apart p x is = absurd (cc x)
  peer-read (q ∷ peers) (y ∷ ends) zero d e v apart p x is =
      ap (λ b. cond b (read y) (at_peer none read peers ends e)) (subst (λ z. same_com e z ≡ true) (sym (same_Some q d p)) is) ∙ ap read (same_Some y v x)
  peer-read (q ∷ peers) (y ∷ ends) (suc at) d e v apart p x is =
      ap (λ b. cond b (read y) (at_peer none read peers ends e)) (other (same_com e q) refl) ∙ peer-read peers ends at d e v apart.1 p x is
    where
      other : (b : Bool) → same_com e q ≡ b → same_com e q ≡ false
      other false k = k
      other true k = absurd (both_ways (same_com q d) (among-not peers at d q p apart.0) (subst (λ z. same_com z d ≡ true) (same-com e q k) is))

  -- what is read once the end in the place of a peer is another
  pub peer-set : (peers : List ComId) (ends : List A) (at : ℕ) (d : ComId) (v w : A) → AreApart peers → slice_get peers at ≡ Some d → slice_get ends at ≡ Some v → (e : ComId) → at_peer none read peers (slice_set ends at w) e ≡ cond (same_com e d) (read w) (at_peer none read peers ends e)
  peer-set [] ends at d v w apart p x e = absurd (cc p)
  peer-set (q ∷ peers) [] at d v w apart p x e = absurd (cc x)
  peer-set (q ∷ peers) (y ∷ ends) zero d v w apart p x e =
      ap (λ z. cond (same_com e z) (read w) (at_peer none read peers ends e)) (same_Some q d p) ∙ by (same_com e d) (same_com e q) (ap (same_com e) (same_Some q d p))
    where
      by : (a b : Bool) → b ≡ a → cond a (read w) (at_peer none read peers ends e) ≡ cond a (read w) (cond b (read y) (at_peer none read peers ends e))
      by true b s = refl
      by false b s = ap (λ z. cond z (read y) (at_peer none read peers ends e)) (sym s)
  peer-set (q ∷ peers) (y ∷ ends) (suc at) d v w apart p x e = by (same_com e q) refl (peer-set peers ends at d v w apart.1 p x e)
    where
      by : (b : Bool) → same_com e q ≡ b → at_peer none read peers (slice_set ends at w) e ≡ cond (same_com e d) (read w) (at_peer none read peers ends e)
          → cond b (read y) (at_peer none read peers (slice_set ends at w) e) ≡ cond (same_com e d) (read w) (cond b (read y) (at_peer none read peers ends e))
      by false k more = more
      by true k more = ap (λ b. cond b (read w) (read y)) (sym (ap (λ z. same_com z d) (same-com e q k) ∙ among-not peers at d q p apart.0))

-- ends that can't be told from those before by what is read
pub set-same : {A B : Type 0} (read : A → B) (ends : List A) (at : ℕ) (v w : A) → slice_get ends at ≡ Some v → read w ≡ read v → map read (slice_set ends at w) ≡ map read ends
set-same read ends at v w x same = map-set_same read ends at w w (same ∙ ap read (sym (get_or_from_slice_get ends at v w x)))

-- one more in the last place
pub among-push : (peers : List ComId) (d e : ComId) → is_among peers e ≡ false → same_com e d ≡ false → is_among (peers ++ d ∷ []) e ≡ false
among-push [] d e none other = ap (λ b. b || false) other
among-push (q ∷ peers) d e none other = ap (λ b. b || is_among (peers ++ d ∷ []) e) (or-left (same_com e q) (is_among peers e) none) ∙ among-push peers d e (or-right (same_com e q) (is_among peers e) none) other

-- components compared by their numbers
pub com-is : (c d : ComId) → c.0 ≡ d.0 → same_com c d ≡ true
com-is c d e = same c.0 d.0 e
  where
    same : (m n : ℕ) → m ≡ n → (m == n) ≡ true
    same m n e = grind (arith, nat_tests, e)

pub com-not : (c d : ComId) → (c.0 ≡ d.0 → ⊥) → same_com c d ≡ false
com-not c d e = other c.0 d.0 e
  where
    other : (m n : ℕ) → (m ≡ n → ⊥) → (m == n) ≡ false
    other m n e = grind (arith, nat_tests, e)
