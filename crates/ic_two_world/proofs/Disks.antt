-- Lists of disks: how each is kept, and the first that isn't blank.
use Rattle.std.proofs.Common.{◌≡◌, ◌∙◌, sym, ap, subst, refl, ◌⊎◌, inl, inr, ℕ, zero, suc, ◌+◌, ◌<◌, ◌≤◌, List, [], ◌∷◌, ◌++◌, length, reverse, arith, Option, Some, None, option_map}
use Rattle.std.specs.Prelude.{slice_get, slice_set, option_to_list}
use Rattle.std.proofs.lemmas.List.{reverse-append}
use Rattle.std.proofs.lemmas.Option.{slice_get-map}
use Rattle.def_two.specs.declared.script.TwoWhy.{TwoWhy}
use Rattle.def_two.specs.declared.script.TwoWhy.TheVariants as starts
use Rattle.def_two.specs.Refusals.{first_not_blank}
use Rattle.ic_disk.specs.Disk.{Keeps}
use Rattle.ic_disk.specs.declared.disk.Disk.{Ghosts}
use Rattle.ic_disk.proofs.Disks.{Keeps-refl, Keeps-trans}
use Rattle.ic_two_world.specs.Opening.{AllTell, files_on, IsBlank, AreBlank, AreKept, IsNoBlank, IsNotStarted}
use Rattle.ic_two_world.proofs.Lists.{none-some, some-is, get-there, get-within, get-set_same, get-set_other, length-set}
use Rattle.ic_two_world.proofs.Lifting.{same-or-not}

pub append-twice : {X : Type 0} (xs ys zs : List X) → (xs ++ ys) ++ zs ≡ xs ++ (ys ++ zs)
append-twice [] ys zs = refl
append-twice (x ∷ xs) ys zs = ap (λ l. x ∷ l) (append-twice xs ys zs)

pub reverse-twice : {X : Type 0} (xs : List X) → reverse (reverse xs) ≡ xs
reverse-twice [] = refl
reverse-twice (x ∷ xs) = ap reverse (reverse-append (x ∷ []) xs) ∙ reverse-append (reverse xs) (x ∷ []) ∙ ap (λ l. x ∷ l) (reverse-twice xs)

pub popped : {X : Type 0} (all left : List X) (o : Option X) (x : X) → all ≡ left ++ option_to_list o → o ≡ Some x → all ≡ left ++ x ∷ []
popped all left o x e is = e ∙ ap (λ p. left ++ option_to_list p) is

pub nil-of : {X : Type 0} (xs : List X) → length xs ≡ 0 → xs ≡ []
nil-of [] e = refl
nil-of (x ∷ xs) e = absurd (omega (arith, e))

nat-cases : (k i : ℕ) → (k < i) ⊎ (i ≤ k)
nat-cases zero zero = inr (omega arith)
nat-cases zero (suc i) = inl (omega arith)
nat-cases (suc k) zero = inr (omega arith)
nat-cases (suc k) (suc i) = by (nat-cases k i)
  where
    by : (k < i) ⊎ (i ≤ k) → (suc k < suc i) ⊎ (suc i ≤ suc k)
    by (inl l) = inl (omega (arith, l))
    by (inr l) = inr (omega (arith, l))

nothing-more : (i : ℕ) → 0 + i ≡ i
nothing-more i = omega arith

pub below : (k i : ℕ) → k < i + 1 → (k ≡ i → ⊥) → k < i
below zero zero l unlike = absurd (unlike refl)
below zero (suc i) l unlike = omega arith
below (suc k) zero l unlike = absurd (omega (arith, l))
below (suc k) (suc i) l unlike = let m = below k i (omega (arith, l)) (λ e. unlike (ap suc e)) in omega (arith, m)

-- the first of these files that isn't blank
first-from : (i k : ℕ) (files : List (List ℕ)) (file : List ℕ) → ((j : ℕ) (f : List ℕ) → j < k → slice_get files j ≡ Some f → f ≡ []) → slice_get files k ≡ Some file → (file ≡ [] → ⊥) → first_not_blank i files ≡ Some (starts.NotBlank (i + k))
first-from i k [] file blank at some = none-some file at
first-from i zero (f ∷ files) file blank at some = by f (some-is f file at)
  where
    here : starts.NotBlank i ≡ starts.NotBlank (i + 0)
    here = ap starts.NotBlank (omega arith)

    by : (g : List ℕ) → g ≡ file → first_not_blank i (g ∷ files) ≡ Some (starts.NotBlank (i + 0))
    by [] e = absurd (some (sym e))
    by (b ∷ bs) e = ap Some here
first-from i (suc k) (f ∷ files) file blank at some =
    ap (λ g. first_not_blank i (g ∷ files)) (blank 0 f (omega arith) refl)
    ∙ first-from (i + 1) k files file (λ j g l e. blank (suc j) g (omega (arith, l)) e) at some
    ∙ ap (λ n. Some (starts.NotBlank n)) (omega arith)

-- the component that a refusal names
abbrev named : Option TwoWhy → ℕ
named (Some (starts.NotBlank k)) = k
named o = 0

from-here : (i n : ℕ) (files : List (List ℕ)) → first_not_blank i files ≡ Some (starts.NotBlank n) → i ≤ n
from-here i n [] e = none-some (starts.NotBlank n) e
from-here i n ([] ∷ files) e = let l = from-here (i + 1) n files e in omega (arith, l)
from-here i n ((x ∷ xs) ∷ files) e =
    let same : i ≡ n = ap named e in
    omega (arith, same)

-- of files of which the first are blank none below is told
not-below : (i k n : ℕ) (files : List (List ℕ)) → ((j : ℕ) (f : List ℕ) → j < k → slice_get files j ≡ Some f → f ≡ []) → first_not_blank i files ≡ Some (starts.NotBlank n) → i + k ≤ n
not-below i zero n files blank e = let l = from-here i n files e in omega (arith, l)
not-below i (suc k) n [] blank e = none-some (starts.NotBlank n) e
not-below i (suc k) n (f ∷ files) blank e =
    let l = not-below (i + 1) k n files (λ j g m at. blank (suc j) g (omega (arith, m)) at) (sym (ap (λ g. first_not_blank i (g ∷ files)) (blank 0 f (omega arith) refl)) ∙ e) in
    omega (arith, l)

module _ {D : Type 0} (b : Ghosts D) where
  -- where the disks before this place are blank none of them is told
  pub blank-before : (disks : List D) (k n : ℕ) → AllTell b disks → ((j : ℕ) (disk : D) → j < k → slice_get disks j ≡ Some disk → IsBlank b disk) → first_not_blank 0 (files_on b disks) ≡ Some (starts.NotBlank n) → k ≤ n
  blank-before disks k n tells blank e =
      let l = not-below 0 k n (files_on b disks) (λ j f m at. by j f m (slice_get disks j) refl (sym (slice_get-map (λ d. b.seen d) disks j) ∙ at)) e in
      omega (arith, l)
    where
      by : (j : ℕ) (f : List ℕ) → j < k → (o : Option D) → slice_get disks j ≡ o → option_map (λ d. b.seen d) o ≡ Some f → f ≡ []
      by j f m None at none = none-some f none
      by j f m (Some disk) at some = sym (some-is (b.seen disk) f some) ∙ blank j disk m at (tells j disk at)

  pub kept-self : (xs : List D) → AreKept b xs xs
  kept-self xs = record { count = refl; each = λ k x y e f. subst (Keeps b x) (some-is x y (sym e ∙ f)) (Keeps-refl x) }

  pub kept-trans : (xs ys zs : List D) → AreKept b xs ys → AreKept b ys zs → AreKept b xs zs
  kept-trans xs ys zs p q = record {
    count = q.count ∙ p.count;
    each = λ k x z e f.
        let y = get-there ys k (omega (arith, get-within xs k x e, p.count)) in
        Keeps-trans (p.each k x y.0 e y.1) (q.each k y.0 z y.1 f);
  }

  pub kept-set : (xs ys : List D) (i : ℕ) (y z : D) → AreKept b xs ys → slice_get ys i ≡ Some y → Keeps b y z → AreKept b xs (slice_set ys i z)
  kept-set xs ys i y z p at new = record {
    count = length-set ys i z ∙ p.count;
    each = λ k x v e f. by k x v e f (same-or-not k i);
  }
    where
      by : (k : ℕ) (x v : D) → slice_get xs k ≡ Some x → slice_get (slice_set ys i z) k ≡ Some v → (k ≡ i) ⊎ (k ≡ i → ⊥) → Keeps b x v
      by k x v e f (inl same) =
          let is : z ≡ v = some-is z v (sym (get-set_same ys i y z at) ∙ ap (slice_get (slice_set ys i z)) (sym same) ∙ f) in
          subst (Keeps b x) is (Keeps-trans (p.each k x y e (ap (slice_get ys) same ∙ at)) new)
      by k x v e f (inr unlike) = p.each k x v e (sym (get-set_other ys i k z unlike) ∙ f)

  -- the disks before this place were asked, and are blank
  pub record AreAsked (olds : List D) (i : ℕ) (now : List D) : Type 0 where
    pub kept : AreKept b olds now
    pub was : (k : ℕ) (disk : D) → k < i → slice_get olds k ≡ Some disk → IsBlank b disk
    pub is : (k : ℕ) (disk : D) → k < i → slice_get now k ≡ Some disk → IsBlank b disk
    pub later : (k : ℕ) → i ≤ k → slice_get now k ≡ slice_get olds k

  pub asked-first : (olds : List D) → AreAsked olds 0 olds
  asked-first olds = record { kept = kept-self olds; was = λ k disk l e. absurd (omega (arith, l)); is = λ k disk l e. absurd (omega (arith, l)); later = λ k l. refl }

  module _ (olds : List D) (i : ℕ) (now : List D) (so-far : AreAsked olds i now) (x y : D) (at : slice_get now i ≡ Some x) (new : Keeps b x y) where
    at-old : slice_get olds i ≡ Some x
    at-old = sym (so-far.later i (omega arith)) ∙ at

    pub asked-kept : AreKept b olds (slice_set now i y)
    asked-kept = kept-set olds now i x y so-far.kept at new

    pub asked-step : IsBlank b x → IsBlank b y → AreAsked olds (i + 1) (slice_set now i y)
    asked-step was is = record {
      kept = asked-kept;
      was = λ k disk l e. before k disk e (same-or-not k i) l;
      is = λ k disk l e. behind k disk e (same-or-not k i) l;
      later = λ k l. get-set_other now i k y (λ same. omega (arith, l, same)) ∙ so-far.later k (omega (arith, l));
    }
      where
        before : (k : ℕ) (disk : D) → slice_get olds k ≡ Some disk → (k ≡ i) ⊎ (k ≡ i → ⊥) → k < i + 1 → IsBlank b disk
        before k disk e (inl same) l = subst (IsBlank b) (some-is x disk (sym at-old ∙ ap (slice_get olds) (sym same) ∙ e)) was
        before k disk e (inr unlike) l = so-far.was k disk (below k i l unlike) e

        behind : (k : ℕ) (disk : D) → slice_get (slice_set now i y) k ≡ Some disk → (k ≡ i) ⊎ (k ≡ i → ⊥) → k < i + 1 → IsBlank b disk
        behind k disk e (inl same) l = subst (IsBlank b) (some-is y disk (sym (get-set_same now i x y at) ∙ ap (slice_get (slice_set now i y)) (sym same) ∙ e)) is
        behind k disk e (inr unlike) l = so-far.is k disk (below k i l unlike) (sym (get-set_other now i k y unlike) ∙ e)

    -- each reads as before
    stays : (b.tells x → b.seen y ≡ b.seen x) → (k : ℕ) (old now' : D) → slice_get olds k ≡ Some old → slice_get (slice_set now i y) k ≡ Some now' → b.tells old → b.seen now' ≡ b.seen old
    stays same k old now' e f told = by (same-or-not k i)
      where
        by : (k ≡ i) ⊎ (k ≡ i → ⊥) → b.seen now' ≡ b.seen old
        by (inl it) =
            let was : x ≡ old = some-is x old (sym at-old ∙ ap (slice_get olds) (sym it) ∙ e) in
            let is : y ≡ now' = some-is y now' (sym (get-set_same now i x y at) ∙ ap (slice_get (slice_set now i y)) (sym it) ∙ f) in
            ap (λ z. b.seen z) (sym is) ∙ same (subst (λ z. b.tells z) (sym was) told) ∙ ap (λ z. b.seen z) was
        by (inr unlike) = apart (nat-cases k i)
          where
            here : slice_get now k ≡ Some now'
            here = sym (get-set_other now i k y unlike) ∙ f

            apart : (k < i) ⊎ (i ≤ k) → b.seen now' ≡ b.seen old
            apart (inl l) = so-far.is k now' l here ((so-far.kept.each k old now' e here).tells.0 told) ∙ sym (so-far.was k old l e told)
            apart (inr l) = ap (λ z. b.seen z) (some-is now' old (sym here ∙ so-far.later k l ∙ e))

    pub asked-refused : (why : TwoWhy) → IsNoBlank b i x y why → IsNotStarted b olds (slice_set now i y) why
    asked-refused (starts.NotBlank k) unlike = record {
      refused = λ tells.
          first-from 0 i (files_on b olds) (b.seen x)
          (λ j f l e. let z = get-there olds j (omega (arith, l, get-within olds i x at-old)) in sym (some-is (b.seen z.0) f (sym (slice_get-map (λ d. b.seen d) olds j ∙ ap (option_map (λ d. b.seen d)) z.1) ∙ e)) ∙ so-far.was j z.0 l z.1 (tells j z.0 z.1))
          (slice_get-map (λ d. b.seen d) olds i ∙ ap (option_map (λ d. b.seen d)) at-old) (unlike.1 (tells i x at-old))
          ∙ ap (λ n. Some (starts.NotBlank n)) (nothing-more i ∙ sym unlike.0);
      failed = tt;
      stay = stays unlike.2;
    }
    asked-refused (starts.Failed k) unlike = record { refused = λ tells n met. let l = blank-before olds i n tells so-far.was met in omega (arith, l, unlike.0); failed = (x, y, ap (slice_get olds) unlike.0 ∙ at-old, ap (slice_get (slice_set now i y)) unlike.0 ∙ get-set_same now i x y at, unlike.1); stay = tt }
    asked-refused starts.Memory unlike = absurd unlike

  pub asked-all : (olds : List D) (i : ℕ) (now : List D) → length olds ≤ i → AreAsked olds i now → AreBlank b olds × AreBlank b now
  asked-all olds i now all so-far =
      (λ k disk e. so-far.was k disk (omega (arith, get-within olds k disk e, all)) e, λ k disk e. so-far.is k disk (omega (arith, get-within now k disk e, so-far.kept.count, all)) e)
