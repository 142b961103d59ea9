-- A Pcom has at most one session.
use Rattle.std.proofs.Common.{◌≡◌, ◌==◌, ◌∙◌, ◌<◌, ◌≤◌, ◌++◌, ◌∷◌, [], ℕ, Bool, true, false, cond, eqb, ltb, not, List, find, filter, length, slice_get, get_or, None, Some, ap, refl, sym, arith, inl, inr}
use Rattle.std.specs.List.{AllPairs}
use Rattle.std.proofs.lemmas.Bool.{cases_Bool}
use Rattle.std.proofs.lemmas.Option.{get_or_from_slice_get}
use Rattle.std.proofs.lemmas.Bool.Decides.{nat_tests}
use Rattle.std.proofs.lemmas.List.Elements.{All-head, All-tail, All-filter, All-push, All-map}
use Rattle.ic_base.specs.declared.messages.ComId.{ComId}
use Rattle.ic_base.specs.Programs.{same_com}
use Rattle.def_state.specs.Names.{Numbers, number_of, put_number}
use Rattle.def_step.specs.Tcom.{Sitting, sits_for, is_below}
use Rattle.ic_tcom.specs.Served.{AreOneEach, AreServed}
use Rattle.ic_tcom.specs.Sittings.{with_sitting}
use Rattle.ic_tcom.proofs.Found.{same_number, serves_it}

-- the number of a component once one is put
pub number_put : (c d : ComId) (n other : ℕ) (xs : Numbers) → number_of other (put_number c n xs) d ≡ cond (same_com d c) n (number_of other xs d)
number_put c d n other [] = refl
number_put c d n other (x ∷ xs) = elim (cases_Bool (same_com c x.0)) [
  | inl same ↦
      let e : c.0 ≡ x.0.0 = grind (arith, nat_tests) in
      rw (same, e) (elim (cases_Bool (eqb d.0 x.0.0)) [
        | inl it ↦ rw it refl
        | inr differs ↦ rw differs refl
      ])
  | inr apart ↦ elim (cases_Bool (ltb c.0 x.0.0)) [
    | inl before ↦ rw (apart, before) refl
    | inr behind ↦
        rw (apart, behind) (elim (cases_Bool (eqb d.0 x.0.0)) [
          | inl it ↦
              let other' : same_com d c ≡ false = grind (arith, nat_tests) in
              rw (it, other') refl
          | inr differs ↦ rw differs (number_put c d n other xs)
        ])
  ]
]

-- a number that isn't put below the one before lets no number fall
pub number_rises : (c d : ComId) (n : ℕ) (xs : Numbers) → number_of 1 xs c ≤ n → number_of 1 xs d ≤ number_of 1 (put_number c n xs) d
number_rises c d n xs le = elim (cases_Bool (same_com d c)) [
  | inl same ↦
      let e : number_of 1 (put_number c n xs) d ≡ n = number_put c d n 1 xs ∙ ap (λ b. cond b n (number_of 1 xs d)) same in
      let f : number_of 1 xs d ≡ number_of 1 xs c = ap (λ (e : ComId). number_of 1 xs e) (same_number d c same) in
      omega arith
  | inr differs ↦
      let e : number_of 1 (put_number c n xs) d ≡ number_of 1 xs d = number_put c d n 1 xs ∙ ap (λ b. cond b n (number_of 1 xs d)) differs in
      omega arith
]

pub number_itself : (c : ComId) (n : ℕ) (xs : Numbers) → number_of 1 (put_number c n xs) c ≡ n
number_itself c n xs =
    let same : same_com c c ≡ true = grind (arith, nat_tests) in
    number_put c c n 1 xs ∙ ap (λ b. cond b n (number_of 1 xs c)) same

module _ (c : ComId) (n : ℕ) (least : Numbers) (ss : List Sitting) (le : number_of 1 least c ≤ n) (served : AreServed least ss) where
  -- the sessions stay served where their numbers rise, and some end
  pub served_on : (kept : Sitting → Bool) → AreServed (put_number c n least) (filter kept ss)
  served_on kept = All-filter kept (λ s. s.n ≤ number_of 1 (put_number c n least) s.peer) ss (λ k d within. let h = served k d within in let r = number_rises c (get_or ss k d).peer n least le in omega arith)

  -- and where one is opened at that number
  pub served_new : (kept : Sitting → Bool) (s : Sitting) → s.peer ≡ c → s.n ≡ n → AreServed (put_number c n least) (filter kept ss ++ s ∷ [])
  served_new kept s peer number =
      let at : number_of 1 (put_number c n least) s.peer ≡ n = ap (λ (d : ComId). number_of 1 (put_number c n least) d) peer ∙ number_itself c n least in
      All-push (λ s. s.n ≤ number_of 1 (put_number c n least) s.peer) (filter kept ss) s (served_on kept) (omega arith)

-- a session that is there for a number that is still served is of the least one
pub least_is : (least : Numbers) (ss : List Sitting) (i : ℕ) (s : Sitting) (c : ComId) (n : ℕ) → AreServed least ss → i < length ss → slice_get ss i ≡ Some s → s.peer ≡ c → s.n ≡ n → number_of 1 least c ≤ n → n ≡ number_of 1 least c
least_is least ss i s c n served within is peer number le =
    let at : get_or ss i s ≡ s = get_or_from_slice_get ss i s s is in
    let h : s.n ≤ number_of 1 least s.peer = rw at at (served i s within) in
    let same : number_of 1 least s.peer ≡ number_of 1 least c = ap (λ (d : ComId). number_of 1 least d) peer in
    omega arith

none_parts : {X : Type 0} (p : X → Bool) (x : X) (xs : List X) → find p (x ∷ xs) ≡ None → (p x ≡ false) × (find p xs ≡ None)
none_parts p x xs none = elim (cases_Bool (p x)) [
  | inl passes ↦ absurd (let e : Some x ≡ None = rw passes at none in cc)
  | inr fails ↦ (fails, rw fails at none)
]

-- a Pcom of which nothing is served below n has no session from n on, where the n-th has none
pub none_of_it : (c : ComId) (n : ℕ) (least : Numbers) (ss : List Sitting) → number_of 1 least c ≤ n → AreServed least ss → find (sits_for c n) ss ≡ None → find (λ (s : Sitting). same_com c s.peer) (filter (λ (s : Sitting). not (is_below c n s)) ss) ≡ None
none_of_it c n least [] le served none = refl
none_of_it c n least (s ∷ ss) le served none =
    let here : s.n ≤ number_of 1 least s.peer = All-head (λ s. s.n ≤ number_of 1 least s.peer) s ss served in
    let parts = none_parts (sits_for c n) s ss none in
    let rest = none_of_it c n least ss le (All-tail (λ s. s.n ≤ number_of 1 least s.peer) s ss served) parts.1 in
    elim (cases_Bool (same_com c s.peer)) [
      | inl same ↦
          let at : number_of 1 least s.peer ≡ number_of 1 least c = ap (λ (d : ComId). number_of 1 least d) (sym (same_number c s.peer same)) in
          let sits : (n == s.n) ≡ false = rw same at parts.0 in
          let below : is_below c n s ≡ true = grind (arith, nat_tests) in
          rw below rest
      | inr other ↦
          let below : is_below c n s ≡ false = rw other refl in
          rw (below, other) rest
    ]

stays_served : (least : Numbers) (t r : Sitting) (b : Bool) → sits_for t.peer t.n r ≡ b → r.n ≤ number_of 1 least r.peer → (cond b t r).n ≤ number_of 1 least (cond b t r).peer
stays_served least t r true sits h =
    let its = serves_it t.peer t.n r sits in
    rw (its.0, its.1) at h
stays_served least t r false sits h = h

-- a session keeps its Pcom and number where it is changed
pub served_changed : (least : Numbers) (t : Sitting) (ss : List Sitting) → AreServed least ss → AreServed least (with_sitting t ss)
served_changed least t ss served = All-map (λ (s : Sitting). s.n ≤ number_of 1 least s.peer) (λ r. cond (sits_for t.peer t.n r) t r) ss (λ k d within. stays_served least t (get_or ss k d) _ refl (served k d within))

-- sessions of different Pcoms serve different transactions
pub apart_sits : (ss : List Sitting) → AreOneEach ss → AllPairs (λ r t. sits_for r.peer r.n t ≡ false) ss
apart_sits ss apart = λ i j d lt within. let h = apart i j d lt within in rw h refl
