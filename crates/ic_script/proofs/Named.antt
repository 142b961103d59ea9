-- The book that a name stands for.
use Rattle.std.proofs.Common.{◌≡◌, ◌∙◌, ap, sym, refl, arith, ℕ, suc, ◌+◌, ◌-◌, ◌<◌, ◌≤◌, Bool, true, false, List, [], ◌∷◌, length, map, get_or}
use Rattle.std.specs.Prelude.{Option, Some, bytes_eq, if◌then◌else◌}
use Rattle.std.proofs.lemmas.Slice.Eq.{bytes_eq-Decides}
use Rattle.def_two.specs.Script.{NamedBook, named_from}

abbrev names : List NamedBook → List (List ℕ)
names books = map (λ (b : NamedBook). b.0) books

abbrev rows : List NamedBook → List (List ℕ)
rows books = map (λ (b : NamedBook). b.1) books

-- the book stands at its place, with this name and these values
pub record StandsAt (k : ℕ) (name : List ℕ) (books : List NamedBook) (i : ℕ) (row : List ℕ) : Type 0 where
  pub low : k ≤ i
  pub high : i < k + length books
  pub values : get_or (rows books) (i - k) [] ≡ row
  pub own : get_or (names books) (i - k) [] ≡ name

some_is : {A : Type 0} (a b : A) → ◌≡◌ {A = Option A} (Some a) (Some b) → a ≡ b
some_is a b e = cc

here : (k : ℕ) (name : List ℕ) (b : NamedBook) (bs : List NamedBook) (i : ℕ) (values : List ℕ) → name ≡ b.0 → k ≡ i → b.1 ≡ values → StandsAt k name (b ∷ bs) i values
here k name b bs i values own at is =
    let first : i - k ≡ 0 = omega (arith, at) in
    record {
      low = omega (arith, at);
      high = omega (arith, at);
      values = ap (λ n. get_or (rows (b ∷ bs)) n []) first ∙ is;
      own = ap (λ n. get_or (names (b ∷ bs)) n []) first ∙ sym own;
    }

behind : (k : ℕ) (name : List ℕ) (b : NamedBook) (bs : List NamedBook) (i : ℕ) (values : List ℕ) → StandsAt (suc k) name bs i values → StandsAt k name (b ∷ bs) i values
behind k name b bs i values s =
    let low = s.low in
    let high = s.high in
    let next : i - k ≡ suc (i - suc k) = omega (arith, low) in
    record {
      low = omega (arith, low);
      high = omega (arith, high);
      values = ap (λ n. get_or (rows (b ∷ bs)) n []) next ∙ s.values;
      own = ap (λ n. get_or (names (b ∷ bs)) n []) next ∙ s.own;
    }

found_at : (k : ℕ) (name : List ℕ) (b : NamedBook) (bs : List NamedBook) (i : ℕ) (row : List ℕ) (c : Bool) → bytes_eq name b.0 ≡ c → (named_from (suc k) name bs ≡ Some (i, row) → StandsAt (suc k) name bs i row)
    → ◌≡◌ {A = Option (ℕ × List ℕ)} (if c then Some (k, b.1) else named_from (suc k) name bs) (Some (i, row)) → StandsAt k name (b ∷ bs) i row
found_at k name b bs i row true is more e =
    let same = some_is (k, b.1) (i, row) e in
    here k name b bs i row ((bytes_eq-Decides name b.0).0 is) (ap (λ (x : ℕ × List ℕ). x.0) same) (ap (λ (x : ℕ × List ℕ). x.1) same)
found_at k name b bs i row false is more e = behind k name b bs i row (more e)

pub stands_at : (k : ℕ) (name : List ℕ) (books : List NamedBook) (i : ℕ) (row : List ℕ) → named_from k name books ≡ Some (i, row) → StandsAt k name books i row
stands_at k name [] i row e = absurd (cc)
stands_at k name (b ∷ bs) i row e = found_at k name b bs i row (bytes_eq name b.0) refl (stands_at (suc k) name bs i row) e

-- two names of one book are the same
pub same_name : (k : ℕ) (a b : List ℕ) (books : List NamedBook) (i : ℕ) (values others : List ℕ) → StandsAt k a books i values → StandsAt k b books i others → a ≡ b
same_name k a b books i values others s t = sym s.own ∙ t.own
