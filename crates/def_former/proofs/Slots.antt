-- The slots of the first batches that pass a test name these batches.
use Rattle.std.proofs.Common.{◌≡◌, ℕ, zero, suc, ◌+◌, ◌-◌, ◌≤◌, Bool, true, false, cond, List, [], ◌∷◌, length, take, None, refl, arith}
use Rattle.std.specs.Prelude.{map, ◌==◌}
use Rattle.std.specs.List.{AllByRecursion, filter}
use Rattle.std.specs.Int.{w32, to_be_bytes}
use Rattle.std.proofs.lemmas.Bool.Decides.{nat_tests}
use Rattle.std.proofs.lemmas.List.{length-append}
use Rattle.ic_base.specs.declared.record.Batch.{Batch}
use Rattle.def_log.specs.Directory.{first_bad_slot}
use Rattle.def_log.specs.Frame.{batch, batches, placed}

-- the offsets of the gates of the batches that pass the test
abbrev pub gates : (Batch → Bool) → List Batch → List ℕ
gates test bs = map (λ b. b.at - 5) (filter test bs)

-- they stand among the batches
pub within : (test : Batch → Bool) (low gate top : ℕ) (ps : List (List ℕ)) → low ≤ gate → gate + length (batches ps) ≤ top → AllByRecursion (λ o. (low ≤ o) × (o ≤ top)) (gates test (placed gate ps))
within test low gate top [] le fits = tt
within test low gate top (p ∷ ps) le fits =
    at (test b) (within test low (gate + 5 + length p) top ps (omega (arith, le)) (omega (arith, fits, len)))
  where
    b : Batch
    b = record { at = gate + 5; payload = p }

    len : length (batches (p ∷ ps)) ≡ 5 + length p + length (batches ps)
    len = omega (arith, length-append (1 ∷ batch p) (batches ps), length-append (to_be_bytes w32 (length p)) p)

    rest : List Batch
    rest = placed (gate + 5 + length p) ps

    at : (t : Bool) → AllByRecursion (λ o. (low ≤ o) × (o ≤ top)) (gates test rest) → AllByRecursion (λ o. (low ≤ o) × (o ≤ top)) (map (λ b. b.at - 5) (cond t (b ∷ filter test rest) (filter test rest)))
    at true all = ((omega (arith, le), omega (arith, fits, len)), all)
    at false all = all

-- what holds of all holds of the first ones, and what follows from it
pub all_take : (P Q : ℕ → Type 0) → ((o : ℕ) → P o → Q o) → (n : ℕ) (xs : List ℕ) → AllByRecursion P xs → AllByRecursion Q (take n xs)
all_take P Q f zero xs all = tt
all_take P Q f (suc n) [] all = tt
all_take P Q f (suc n) (x ∷ xs) all = (f x all.0, all_take P Q f n xs all.1)

-- a batch before those that the slots name
passed_over : (test : Batch → Bool) (place gate top : ℕ) (p : List ℕ) (bs : List Batch) (slots : List ℕ) → AllByRecursion (λ o. (gate + 1 ≤ o) × (o ≤ top)) slots
    → first_bad_slot test place slots bs ≡ None → first_bad_slot test place slots (record { at = gate + 5; payload = p } ∷ bs) ≡ None
passed_over test place gate top p bs [] all e = refl
passed_over test place gate top p bs (o ∷ os) all e =
    let le : gate + 1 ≤ o = all.0.0 in
    let other : (gate + 5 == o + 5) ≡ false = grind (arith, nat_tests) in
    rw other e

-- the first ones name batches that pass each test that follows
module _ (chosen test : Batch → Bool) (follows : (b : Batch) → chosen b ≡ true → test b ≡ true) where
  pub named : (n place gate : ℕ) (ps : List (List ℕ)) → first_bad_slot test place (take n (gates chosen (placed gate ps))) (placed gate ps) ≡ None
  named zero place gate ps = refl
  named (suc n) place gate [] = refl
  named (suc n) place gate (p ∷ ps) = at (named n (place + 9) (gate + 5 + length p) ps) (named (suc n) place (gate + 5 + length p) ps) (chosen b) refl
    where
      b : Batch
      b = record { at = gate + 5; payload = p }

      next : ℕ
      next = gate + 5 + length p

      rest : List Batch
      rest = placed next ps

      at : first_bad_slot test (place + 9) (take n (gates chosen rest)) rest ≡ None → first_bad_slot test place (take (suc n) (gates chosen rest)) rest ≡ None → (t : Bool) → chosen b ≡ t → first_bad_slot test place (take (suc n) (map (λ b. b.at - 5) (cond t (b ∷ filter chosen rest) (filter chosen rest)))) (b ∷ rest) ≡ None
      at fewer same true is =
          let here : (gate + 5 == gate + 5 - 5 + 5) ≡ true = grind (arith, nat_tests) in
          let passes : test b ≡ true = follows b is in
          rw (here, passes) fewer
      at fewer same false is =
          let top : ℕ = next + length (batches ps) in
          let high = all_take (λ o. (gate + 1 ≤ o) × (o ≤ top)) (λ o. (gate + 1 ≤ o) × (o ≤ top)) (λ o is. is) (suc n) (gates chosen rest) (within chosen (gate + 1) next top ps (omega arith) (omega arith)) in
          passed_over test place gate top p rest (take (suc n) (gates chosen rest)) high same
