-- What a search among sessions finds.
use Rattle.std.proofs.Common.{◌≡◌, ◌∙◌, ℕ, Bool, true, cond, List, [], ◌∷◌, Some, find, ap, sym, inl, inr, arith, slice_get}
use Rattle.std.specs.Prelude.{◌&&◌}
use Rattle.std.specs.Option.{option_map}
use Rattle.std.proofs.lemmas.Bool.{cases_Bool}
use Rattle.std.proofs.lemmas.Bool.Decides.{nat_tests}
use Rattle.std.proofs.lemmas.Option.{slice_get-map}
use Rattle.ic_base.specs.declared.messages.ComId.{ComId}
use Rattle.ic_base.specs.declared.messages.Session.{Session}
use Rattle.ic_base.specs.Programs.{same_com}
use Rattle.def_state.specs.Names.{same_session}
use Rattle.def_step.specs.Tcom.{Sitting, sits_for}
use Rattle.ic_tcom.specs.Sittings.{with_sitting}
use Rattle.ic_tcom.proofs.Among.{sits_itself}

-- what is found passes
pub find_passes : {X : Type 0} (p : X → Bool) (xs : List X) (y : X) → find p xs ≡ Some y → p y ≡ true
find_passes p [] y found = cc
find_passes p (x ∷ xs) y found = elim (cases_Bool (p x)) [
  | inl passes ↦ let e : Some x ≡ Some y = rw passes at found in let f : x ≡ y = cc in rw (← f) passes
  | inr fails ↦ find_passes p xs y (rw fails at found)
]

pub same_number : (c d : ComId) → same_com c d ≡ true → c ≡ d
same_number c d same = let e : c.0 ≡ d.0 = grind (arith, nat_tests) in ap (λ n. record { 0 = n }) e

-- a session that is found for a transaction serves it
pub serves_it : (c : ComId) (n : ℕ) (s : Sitting) → sits_for c n s ≡ true → (s.peer ≡ c) × (s.n ≡ n)
serves_it c n s sits =
    let e : same_com c s.peer ≡ true = grind (arith, nat_tests) in
    let f : n ≡ s.n = grind (arith, nat_tests) in
    (sym (same_number c s.peer e), sym f)

serves_in : (session : Session) (c : ComId) (n : ℕ) (s : Sitting) → (same_session session s.session && sits_for c n s) ≡ true → (s.peer ≡ c) × (s.n ≡ n)
serves_in session c n s sits = serves_it c n s (grind (arith, nat_tests))

-- what stands in the place of a session that is changed
pub changed_at : (xs : List Sitting) (i : ℕ) (s t r : Sitting) → slice_get xs i ≡ Some s → t.peer ≡ s.peer → t.n ≡ s.n → slice_get (with_sitting t xs) i ≡ Some r → r ≡ t
changed_at xs i s t r is peer number now =
    let itself : sits_for t.peer t.n s ≡ true = rw (peer, number) (sits_itself s) in
    let e : slice_get (with_sitting t xs) i ≡ Some t = slice_get-map (λ q. cond (sits_for t.peer t.n q) t q) xs i ∙ ap (option_map (λ q. cond (sits_for t.peer t.n q) t q)) is ∙ ap (λ b. Some (cond b t s)) itself in
    let f : Some r ≡ Some t = sym now ∙ e in
    cc

pub serves_found : (session : Session) (c : ComId) (n : ℕ) (xs : List Sitting) (s : Sitting) → find (λ (s : Sitting). same_session session s.session && sits_for c n s) xs ≡ Some s → (s.peer ≡ c) × (s.n ≡ n)
serves_found session c n xs s found = serves_in session c n s (find_passes (λ (s : Sitting). same_session session s.session && sits_for c n s) xs s found)
