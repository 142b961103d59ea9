-- Numbers kept for components stand in the order of these.
use Rattle.std.proofs.Common.{◌≡◌, ◌<◌, ℕ, ltb, suc, [], ◌∷◌, All, inl, inr, arith}
use Rattle.std.proofs.lemmas.Bool.{cases_Bool}
use Rattle.std.proofs.lemmas.Bool.Decides.{nat_tests}
use Rattle.std.proofs.lemmas.List.Elements.{All-nil, All-cons, All-head, All-tail}
use Rattle.std.proofs.lemmas.List.Kept.{AllPairs-cons}
use Rattle.ic_base.specs.declared.messages.ComId.{ComId}
use Rattle.ic_base.specs.Programs.{same_com}
use Rattle.def_state.specs.Names.{Numbers, put_number}
use Rattle.ic_tcom.specs.Served.{AreInOrder}

-- what holds of each component holds of each, with one more
all_put : (P : ComId → Type 0) (c : ComId) (n : ℕ) (xs : Numbers) → P c → All (λ (x : ComId × ℕ). P x.0) xs → All (λ (x : ComId × ℕ). P x.0) (put_number c n xs)
all_put P c n [] h all = All-cons (λ (x : ComId × ℕ). P x.0) (c, n) [] h all
all_put P c n (x ∷ xs) h all = elim (cases_Bool (same_com c x.0)) [
  | inl same ↦ rw same (All-cons (λ (x : ComId × ℕ). P x.0) (c, n) xs h (All-tail (λ (x : ComId × ℕ). P x.0) x xs all))
  | inr apart ↦ elim (cases_Bool (ltb c.0 x.0.0)) [
    | inl before ↦ rw (apart, before) (All-cons (λ (x : ComId × ℕ). P x.0) (c, n) (x ∷ xs) h all)
    | inr behind ↦ rw (apart, behind) (All-cons (λ (x : ComId × ℕ). P x.0) x (put_number c n xs) (All-head (λ (x : ComId × ℕ). P x.0) x xs all) (all_put P c n xs h (All-tail (λ (x : ComId × ℕ). P x.0) x xs all)))
  ]
]

abbrev ComesBefore : ComId × ℕ → ComId × ℕ → Type 0
ComesBefore x y = x.0.0 < y.0.0

-- a number is put in its place
pub rising_put : (c : ComId) (n : ℕ) (xs : Numbers) → AreInOrder xs → AreInOrder (put_number c n xs)
rising_put c n [] rises = AllPairs-cons ComesBefore (c, n) [] (All-nil (ComesBefore (c, n))) rises
rising_put c n (x ∷ xs) rises =
    let first : All (ComesBefore x) xs = λ k d within. rises 0 (suc k) d (omega arith) (omega arith) in
    let rest : AreInOrder xs = λ i j d lt within. rises (suc i) (suc j) d (omega arith) (omega arith) in
    elim (cases_Bool (same_com c x.0)) [
      | inl same ↦
          let it : c.0 ≡ x.0.0 = grind (arith, nat_tests) in
          rw same (AllPairs-cons ComesBefore (c, n) xs (λ k d within. let h = first k d within in omega arith) rest)
      | inr apart ↦ elim (cases_Bool (ltb c.0 x.0.0)) [
        | inl before ↦
            let lt : c.0 < x.0.0 = grind (arith, nat_tests) in
            rw (apart, before) (AllPairs-cons ComesBefore (c, n) (x ∷ xs) (All-cons (ComesBefore (c, n)) x xs lt (λ k d within. let h = first k d within in omega arith)) rises)
        | inr behind ↦
            let lt : x.0.0 < c.0 = grind (arith, nat_tests) in
            rw (apart, behind) (AllPairs-cons ComesBefore x (put_number c n xs) (all_put (λ d. x.0.0 < d.0) c n xs lt first) (rising_put c n xs rest))
      ]
    ]
