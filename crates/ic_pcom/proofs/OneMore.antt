-- One item more is put of those that are left.
use Rattle.std.proofs.Common.{◌≡◌, ℕ, suc, ◌+◌, ◌≤◌, ◌<◌, List, [], ◌∷◌, ◌++◌, map, length, ap, sym, ◌∙◌, append_assoc, arith}
use Rattle.std.proofs.lemmas.List.{length-append, append-nil}

module _ {A B : Type 0} (f : A → B) (before : List B) (x : A) (left rest : List A) (new : List B) (is-left : left ≡ x ∷ rest) (is-new : new ≡ before ++ f x ∷ []) where
  pub one-more : (whole : List B) → before ++ map f left ≡ whole → new ++ map f rest ≡ whole
  one-more whole is-whole =
      ap (λ n. n ++ map f rest) is-new
      ∙ append_assoc before (f x ∷ []) (map f rest)
      ∙ sym (ap (λ l. before ++ map f l) is-left)
      ∙ is-whole

  long-left : length left ≡ suc (length rest)
  long-left = ap length is-left

  long-new : length new ≡ length before + 1
  long-new = ap length is-new ∙ length-append before (f x ∷ [])

  pub one-fits : (room : ℕ) → length before + length left ≤ room → length before < room
  one-fits room fits = let e : length left ≡ suc (length rest) = long-left in omega arith

  pub rest-fits : (room : ℕ) → length before + length left ≤ room → length new + length rest ≤ room
  rest-fits room fits =
      let e : length left ≡ suc (length rest) = long-left in
      let n : length new ≡ length before + 1 = long-new in
      omega arith

  pub less-left : length rest < length left
  less-left = let e : length left ≡ suc (length rest) = long-left in omega arith

-- nothing is left
pub none-more : {A B : Type 0} (f : A → B) (before : List B) (left : List A) (whole : List B) → left ≡ [] → before ++ map f left ≡ whole → before ≡ whole
none-more f before left whole none is-whole = sym (append-nil before) ∙ sym (ap (λ l. before ++ map f l) none) ∙ is-whole
