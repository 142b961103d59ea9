-- Which disk stands where, among disks that were taken out and put back.
use Rattle.std.proofs.Common.{◌≡◌, ◌∙◌, sym, ap, refl, ℕ, zero, suc, ◌+◌, ◌-◌, ◌≤◌, Bool, true, false, List, [], ◌∷◌, length, take, arith, le_refl, Some, None}
use Rattle.std.specs.Prelude.{slice_get, cond}
use Rattle.ic_base.specs.declared.scenario.Component.{Component}
use Rattle.ic_world.specs.Opening.{is_outside, disks_in, places}
use Rattle.ic_world.proofs.Places.{same-some}
use Rattle.ic_run.specs.Lending.{lent, left_over, first_before, merged}

pub disks_few : (xs : List Component) → disks_in xs ≤ length xs
disks_few [] = le_refl 0
disks_few (x ∷ xs) = by (disks_few xs) (is_outside x.kind)
  where
    by : disks_in xs ≤ length xs → (o : Bool) → cond o (disks_in xs) (1 + disks_in xs) ≤ suc (length xs)
    by few true = omega (arith, few)
    by few false = omega (arith, few)

pub count_outside : (x : Component) (xs : List Component) → is_outside x.kind ≡ true → disks_in (x ∷ xs) ≡ disks_in xs
count_outside x xs is = ap (λ o. cond o (disks_in xs) (1 + disks_in xs)) is

pub count_inside : (x : Component) (xs : List Component) → is_outside x.kind ≡ false → disks_in (x ∷ xs) ≡ suc (disks_in xs)
count_inside x xs is = let e : 1 + disks_in xs ≡ suc (disks_in xs) = omega arith in ap (λ o. cond o (disks_in xs) (1 + disks_in xs)) is ∙ e

-- it isn't both
inside_not : {A : Type 0} (x : Component) → is_outside x.kind ≡ true → is_outside x.kind ≡ false → A
inside_not x t f = absurd (let e : true ≡ false = sym t ∙ f in cc)

kind_of : (y x : Component) (b : Bool) → Some y ≡ Some x → is_outside x.kind ≡ b → is_outside y.kind ≡ b
kind_of y x b e is = ap (λ (z : Component). is_outside z.kind) (same-some y x e) ∙ is

before_few : (k : ℕ) (xs : List Component) → disks_in (take k xs) ≤ k
before_few zero xs = le_refl 0
before_few (suc k) [] = omega arith
before_few (suc k) (x ∷ xs) = by (before_few k xs) (is_outside x.kind)
  where
    by : disks_in (take k xs) ≤ k → (o : Bool) → cond o (disks_in (take k xs)) (1 + disks_in (take k xs)) ≤ suc k
    by few true = omega (arith, few)
    by few false = omega (arith, few)

module _ {D : Type 0} where
  pub lent_outside : (x : Component) (xs : List Component) (d : D) (disks : List D) → is_outside x.kind ≡ true → lent (x ∷ xs) (d ∷ disks) ≡ lent xs disks
  lent_outside x xs d disks is = ap (λ o. cond o (lent xs disks) (d ∷ lent xs disks)) is

  pub lent_inside : (x : Component) (xs : List Component) (d : D) (disks : List D) → is_outside x.kind ≡ false → lent (x ∷ xs) (d ∷ disks) ≡ d ∷ lent xs disks
  lent_inside x xs d disks is = ap (λ o. cond o (lent xs disks) (d ∷ lent xs disks)) is

  pub left_outside : (x : Component) (xs : List Component) (d : D) (disks : List D) → is_outside x.kind ≡ true → left_over (x ∷ xs) (d ∷ disks) ≡ d ∷ left_over xs disks
  left_outside x xs d disks is = ap (λ o. cond o (d ∷ left_over xs disks) (left_over xs disks)) is

  pub left_inside : (x : Component) (xs : List Component) (d : D) (disks : List D) → is_outside x.kind ≡ false → left_over (x ∷ xs) (d ∷ disks) ≡ left_over xs disks
  left_inside x xs d disks is = ap (λ o. cond o (d ∷ left_over xs disks) (left_over xs disks)) is

  pub merged_outside : (x : Component) (xs : List Component) (r : D) (others disks : List D) → is_outside x.kind ≡ true → merged (x ∷ xs) (r ∷ others) disks ≡ r ∷ merged xs others disks
  merged_outside x xs r others disks is = ap (λ o. cond o (r ∷ merged xs others disks) (first_before disks (λ more. merged xs (r ∷ others) more))) is

  pub merged_inside : (x : Component) (xs : List Component) (others : List D) (t : D) (disks : List D) → is_outside x.kind ≡ false → merged (x ∷ xs) others (t ∷ disks) ≡ t ∷ merged xs others disks
  merged_inside x xs others t disks is = ap (λ o. cond o (first_before others (λ more. merged xs more (t ∷ disks))) (t ∷ merged xs others disks)) is

  -- what holds where all are put, and with each component before others, holds of as many disks as the components have
  pub each_fits : (P : List Component → List D → List D → Type 0)
      → ((others : List D) → P [] others [])
      → ((x : Component) (xs : List Component) (r : D) (others disks : List D) → is_outside x.kind ≡ true → P xs others disks → P (x ∷ xs) (r ∷ others) disks)
      → ((x : Component) (xs : List Component) (others : List D) (t : D) (disks : List D) → is_outside x.kind ≡ false → P xs others disks → P (x ∷ xs) others (t ∷ disks))
      → (xs : List Component) (others disks : List D) → length disks ≡ disks_in xs → length xs ≤ length others + length disks → P xs others disks
  each_fits P z o i [] others [] count enough = z others
  each_fits P z o i [] others (t ∷ disks) count enough = absurd (omega (arith, count))
  each_fits P z o i (x ∷ xs) others disks count enough = by (each_fits P z o i xs) (is_outside x.kind) refl others disks count enough
    where
      by : ((others disks : List D) → length disks ≡ disks_in xs → length xs ≤ length others + length disks → P xs others disks) → (b : Bool) → is_outside x.kind ≡ b → (others disks : List D) → length disks ≡ cond b (disks_in xs) (1 + disks_in xs) → suc (length xs) ≤ length others + length disks → P (x ∷ xs) others disks
      by more true is [] disks c e = absurd (omega (arith, c, e, disks_few xs))
      by more true is (r ∷ others) disks c e = o x xs r others disks is (more others disks c (omega (arith, e)))
      by more false is others [] c e = absurd (omega (arith, c))
      by more false is others (t ∷ disks) c e = i x xs others t disks is (more others disks (omega (arith, c)) (omega (arith, e)))

  pub lent_merged : (xs : List Component) (others disks : List D) → length disks ≡ disks_in xs → length xs ≤ length others + length disks → lent xs (merged xs others disks) ≡ disks
  lent_merged = each_fits (λ xs others disks. lent xs (merged xs others disks) ≡ disks)
      (λ others. refl)
      (λ x xs r others disks is more. ap (lent (x ∷ xs)) (merged_outside x xs r others disks is) ∙ lent_outside x xs r (merged xs others disks) is ∙ more)
      (λ x xs others t disks is more. ap (lent (x ∷ xs)) (merged_inside x xs others t disks is) ∙ lent_inside x xs t (merged xs others disks) is ∙ ap (λ l. t ∷ l) more)

  pub left_merged : (xs : List Component) (others disks : List D) → length disks ≡ disks_in xs → length xs ≤ length others + length disks → left_over xs (merged xs others disks) ≡ others
  left_merged = each_fits (λ xs others disks. left_over xs (merged xs others disks) ≡ others)
      (λ others. refl)
      (λ x xs r others disks is more. ap (left_over (x ∷ xs)) (merged_outside x xs r others disks is) ∙ left_outside x xs r (merged xs others disks) is ∙ ap (λ l. r ∷ l) more)
      (λ x xs others t disks is more. ap (left_over (x ∷ xs)) (merged_inside x xs others t disks is) ∙ left_inside x xs t (merged xs others disks) is ∙ more)

  pub merged_count : (xs : List Component) (others disks : List D) → length disks ≡ disks_in xs → length xs ≤ length others + length disks → length (merged xs others disks) ≡ length others + length disks
  merged_count = each_fits (λ xs others disks. length (merged xs others disks) ≡ length others + length disks)
      (λ others. omega arith)
      (λ x xs r others disks is more. let e : length (merged (x ∷ xs) (r ∷ others) disks) ≡ suc (length (merged xs others disks)) = ap length (merged_outside x xs r others disks is) in omega (arith, e, more))
      (λ x xs others t disks is more. let e : length (merged (x ∷ xs) others (t ∷ disks)) ≡ suc (length (merged xs others disks)) = ap length (merged_inside x xs others t disks is) in omega (arith, e, more))

  pub lent_count : (xs : List Component) (disks : List D) → length xs ≤ length disks → length (lent xs disks) ≡ disks_in xs
  lent_count [] disks h = refl
  lent_count (x ∷ xs) [] h = absurd (omega (arith, h))
  lent_count (x ∷ xs) (d ∷ disks) h = by (lent_count xs disks (omega (arith, h))) (is_outside x.kind)
    where
      by : length (lent xs disks) ≡ disks_in xs → (o : Bool) → length (cond o (lent xs disks) (d ∷ lent xs disks)) ≡ cond o (disks_in xs) (1 + disks_in xs)
      by more true = more
      by more false = let e : suc (length (lent xs disks)) ≡ 1 + disks_in xs = omega (arith, more) in e

  -- none is lost
  pub all_count : (xs : List Component) (disks : List D) → length xs ≤ length disks → length (left_over xs disks) + length (lent xs disks) ≡ length disks
  all_count [] disks h = omega arith
  all_count (x ∷ xs) [] h = absurd (omega (arith, h))
  all_count (x ∷ xs) (d ∷ disks) h = by (all_count xs disks (omega (arith, h))) (is_outside x.kind)
    where
      by : length (left_over xs disks) + length (lent xs disks) ≡ length disks → (o : Bool) → length (cond o (d ∷ left_over xs disks) (left_over xs disks)) + length (cond o (lent xs disks) (d ∷ lent xs disks)) ≡ suc (length disks)
      by more true = let e : suc (length (left_over xs disks)) + length (lent xs disks) ≡ suc (length disks) = omega (arith, more) in e
      by more false = let e : length (left_over xs disks) + suc (length (lent xs disks)) ≡ suc (length disks) = omega (arith, more) in e

  -- there are enough to put back
  pub lent_enough : (xs : List Component) (disks : List D) → length xs ≤ length disks → length xs ≤ length (left_over xs disks) + length (lent xs disks)
  lent_enough xs disks h = omega (arith, h, all_count xs disks h)

  -- what was taken out and is put back unchanged stands as before
  pub merged_same : (xs : List Component) (disks : List D) → length xs ≤ length disks → merged xs (left_over xs disks) (lent xs disks) ≡ disks
  merged_same [] disks h = refl
  merged_same (x ∷ xs) [] h = absurd (omega (arith, h))
  merged_same (x ∷ xs) (d ∷ disks) h = by (merged_same xs disks (omega (arith, h))) (is_outside x.kind) refl
    where
      by : merged xs (left_over xs disks) (lent xs disks) ≡ disks → (o : Bool) → is_outside x.kind ≡ o → merged (x ∷ xs) (cond o (d ∷ left_over xs disks) (left_over xs disks)) (cond o (lent xs disks) (d ∷ lent xs disks)) ≡ d ∷ disks
      by more true is = merged_outside x xs d (left_over xs disks) (lent xs disks) is ∙ ap (λ l. d ∷ l) more
      by more false is = merged_inside x xs (left_over xs disks) d (lent xs disks) is ∙ ap (λ l. d ∷ l) more

  -- a disk that was taken out was one of them
  pub lent_in : (xs : List Component) (disks : List D) (k : ℕ) (d : D) → slice_get (lent xs disks) k ≡ Some d → (j : ℕ) × (slice_get disks j ≡ Some d)
  lent_in [] disks k d e = absurd (cc)
  lent_in (x ∷ xs) [] k d e = absurd (cc)
  lent_in (x ∷ xs) (f ∷ disks) k d e = by (lent_in xs disks) (is_outside x.kind) k e
    where
      by : ((i : ℕ) (z : D) → slice_get (lent xs disks) i ≡ Some z → (j : ℕ) × (slice_get disks j ≡ Some z)) → (o : Bool) (i : ℕ) → slice_get (cond o (lent xs disks) (f ∷ lent xs disks)) i ≡ Some d → (j : ℕ) × (slice_get (f ∷ disks) j ≡ Some d)
      by more true i g = let r = more i d g in (suc r.0, r.1)
      by more false zero g = (zero, g)
      by more false (suc i) g = let r = more i d g in (suc r.0, r.1)

  -- the place of a component with a disk has the disk that is its own of those put back
  pub own_place : (xs : List Component) (others disks : List D) → length disks ≡ disks_in xs → length xs ≤ length others + length disks → (k : ℕ) (x : Component) → slice_get xs k ≡ Some x → is_outside x.kind ≡ false → slice_get (merged xs others disks) k ≡ slice_get disks (disks_in (take k xs))
  own_place = each_fits (λ xs others disks. (k : ℕ) (x : Component) → slice_get xs k ≡ Some x → is_outside x.kind ≡ false → slice_get (merged xs others disks) k ≡ slice_get disks (disks_in (take k xs))) none outside inside
    where
      none : (others : List D) (k : ℕ) (x : Component) → slice_get [] k ≡ Some x → is_outside x.kind ≡ false → slice_get others k ≡ slice_get [] (disks_in (take k []))
      none others k x e is = absurd (cc)

      outside : (x : Component) (xs : List Component) (r : D) (others disks : List D) → is_outside x.kind ≡ true
          → ((k : ℕ) (y : Component) → slice_get xs k ≡ Some y → is_outside y.kind ≡ false → slice_get (merged xs others disks) k ≡ slice_get disks (disks_in (take k xs)))
          → (k : ℕ) (y : Component) → slice_get (x ∷ xs) k ≡ Some y → is_outside y.kind ≡ false → slice_get (merged (x ∷ xs) (r ∷ others) disks) k ≡ slice_get disks (disks_in (take k (x ∷ xs)))
      outside x xs r others disks is more zero y e own = inside_not x is (kind_of x y false e own)
      outside x xs r others disks is more (suc k) y e own =
          ap (λ l. slice_get l (suc k)) (merged_outside x xs r others disks is) ∙ more k y e own ∙ ap (slice_get disks) (sym (count_outside x (take k xs) is))

      inside : (x : Component) (xs : List Component) (others : List D) (t : D) (disks : List D) → is_outside x.kind ≡ false
          → ((k : ℕ) (y : Component) → slice_get xs k ≡ Some y → is_outside y.kind ≡ false → slice_get (merged xs others disks) k ≡ slice_get disks (disks_in (take k xs)))
          → (k : ℕ) (y : Component) → slice_get (x ∷ xs) k ≡ Some y → is_outside y.kind ≡ false → slice_get (merged (x ∷ xs) others (t ∷ disks)) k ≡ slice_get (t ∷ disks) (disks_in (take k (x ∷ xs)))
      inside x xs others t disks is more zero y e own = ap (λ l. slice_get l 0) (merged_inside x xs others t disks is)
      inside x xs others t disks is more (suc k) y e own =
          ap (λ l. slice_get l (suc k)) (merged_inside x xs others t disks is) ∙ more k y e own ∙ ap (slice_get (t ∷ disks)) (sym (count_inside x (take k xs) is))

  -- every other place has one of the other disks
  pub other_place : (xs : List Component) (others disks : List D) → length disks ≡ disks_in xs → length xs ≤ length others + length disks → (k : ℕ) → ((x : Component) → slice_get xs k ≡ Some x → is_outside x.kind ≡ true) → slice_get (merged xs others disks) k ≡ slice_get others (k - disks_in (take k xs))
  other_place = each_fits (λ xs others disks. (k : ℕ) → ((x : Component) → slice_get xs k ≡ Some x → is_outside x.kind ≡ true) → slice_get (merged xs others disks) k ≡ slice_get others (k - disks_in (take k xs))) none outside inside
    where
      none : (others : List D) (k : ℕ) → ((x : Component) → slice_get [] k ≡ Some x → is_outside x.kind ≡ true) → slice_get others k ≡ slice_get others (k - disks_in (take k []))
      none others zero out = refl
      none others (suc k) out = let e : suc k ≡ suc k - 0 = omega arith in ap (slice_get others) e

      outside : (x : Component) (xs : List Component) (r : D) (others disks : List D) → is_outside x.kind ≡ true
          → ((k : ℕ) → ((y : Component) → slice_get xs k ≡ Some y → is_outside y.kind ≡ true) → slice_get (merged xs others disks) k ≡ slice_get others (k - disks_in (take k xs)))
          → (k : ℕ) → ((y : Component) → slice_get (x ∷ xs) k ≡ Some y → is_outside y.kind ≡ true) → slice_get (merged (x ∷ xs) (r ∷ others) disks) k ≡ slice_get (r ∷ others) (k - disks_in (take k (x ∷ xs)))
      outside x xs r others disks is more zero out = ap (λ l. slice_get l 0) (merged_outside x xs r others disks is)
      outside x xs r others disks is more (suc k) out =
          let e : suc (k - disks_in (take k xs)) ≡ suc k - disks_in (x ∷ take k xs) = omega (arith, before_few k xs, count_outside x (take k xs) is) in
          ap (λ l. slice_get l (suc k)) (merged_outside x xs r others disks is) ∙ more k out ∙ ap (slice_get (r ∷ others)) e

      inside : (x : Component) (xs : List Component) (others : List D) (t : D) (disks : List D) → is_outside x.kind ≡ false
          → ((k : ℕ) → ((y : Component) → slice_get xs k ≡ Some y → is_outside y.kind ≡ true) → slice_get (merged xs others disks) k ≡ slice_get others (k - disks_in (take k xs)))
          → (k : ℕ) → ((y : Component) → slice_get (x ∷ xs) k ≡ Some y → is_outside y.kind ≡ true) → slice_get (merged (x ∷ xs) others (t ∷ disks)) k ≡ slice_get others (k - disks_in (take k (x ∷ xs)))
      inside x xs others t disks is more zero out = inside_not x (out x refl) is
      inside x xs others t disks is more (suc k) out =
          let e : k - disks_in (take k xs) ≡ suc k - disks_in (x ∷ take k xs) = omega (arith, count_inside x (take k xs) is) in
          ap (λ l. slice_get l (suc k)) (merged_inside x xs others t disks is) ∙ more k out ∙ ap (slice_get others) e

  places_outside : (x : Component) (xs : List Component) (disks : List D) → is_outside x.kind ≡ true → places (x ∷ xs) disks ≡ None ∷ places xs disks
  places_outside x xs [] is = refl
  places_outside x xs (d ∷ disks) is = ap (λ o. cond o (None ∷ places xs (d ∷ disks)) (Some d ∷ places xs disks)) is

  places_inside : (x : Component) (xs : List Component) (d : D) (disks : List D) → is_outside x.kind ≡ false → places (x ∷ xs) (d ∷ disks) ≡ Some d ∷ places xs disks
  places_inside x xs d disks is = ap (λ o. cond o (None ∷ places xs (d ∷ disks)) (Some d ∷ places xs disks)) is

  -- the disk that is taken out of the place of a component is the one that it has of them
  pub lent_place : (xs : List Component) (disks : List D) (k : ℕ) (x : Component) (d : D) → slice_get xs k ≡ Some x → is_outside x.kind ≡ false → slice_get disks k ≡ Some d → slice_get (places xs (lent xs disks)) k ≡ Some (Some d)
  lent_place [] disks k x d e is f = absurd (cc)
  lent_place (y ∷ ys) [] k x d e is f = absurd (cc)
  lent_place (y ∷ ys) (c ∷ disks) k x d e is f = by (lent_place ys disks) (is_outside y.kind) refl k e f
    where
      by : ((i : ℕ) (z : Component) (g : D) → slice_get ys i ≡ Some z → is_outside z.kind ≡ false → slice_get disks i ≡ Some g → slice_get (places ys (lent ys disks)) i ≡ Some (Some g))
          → (o : Bool) → is_outside y.kind ≡ o → (i : ℕ) → slice_get (y ∷ ys) i ≡ Some x → slice_get (c ∷ disks) i ≡ Some d → slice_get (places (y ∷ ys) (cond o (lent ys disks) (c ∷ lent ys disks))) i ≡ Some (Some d)
      by more true out zero g h = inside_not y out (kind_of y x false g is)
      by more true out (suc i) g h = ap (λ l. slice_get l (suc i)) (places_outside y ys (lent ys disks) out) ∙ more i x d g is h
      by more false out zero g h = ap (λ l. slice_get l 0) (places_inside y ys c (lent ys disks) out) ∙ ap Some h
      by more false out (suc i) g h = ap (λ l. slice_get l (suc i)) (places_inside y ys c (lent ys disks) out) ∙ more i x d g is h
