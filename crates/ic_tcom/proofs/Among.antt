-- Sessions among others.
use Rattle.std.proofs.Common.{◌≡◌, ◌∙◌, ◌<◌, ℕ, true, false, eqb, List, length, get_or, set, Some, slice_get, refl, arith, inl, inr, ℤ, IfSome}
use Rattle.std.specs.List.{AllPairs}
use Rattle.std.proofs.lemmas.Bool.{cases_lt}
use Rattle.std.proofs.lemmas.Bool.Decides.{nat_tests}
use Rattle.std.proofs.lemmas.Option.{get_or_from_slice_get, slice_get_read}
use Rattle.ic_base.specs.declared.messages.ComId.{ComId}
use Rattle.ic_base.specs.declared.messages.Request.{Request}
use Rattle.ic_base.specs.Programs.{same_com}
use Rattle.def_step.specs.Tcom.{Sitting, sits_for, done}
use Rattle.ic_tcom.specs.Sittings.{with_sitting}
use Rattle.ic_tcom.proofs.Sessions.{set_where}

pub com_sym : (c d : ComId) → same_com c d ≡ same_com d c
com_sym c d = grind (arith, nat_tests)

-- two sessions serve one transaction, whichever is asked
pub sits_sym : (r s : Sitting) → sits_for r.peer r.n s ≡ sits_for s.peer s.n r
sits_sym r s =
    let e : eqb r.peer.0 s.peer.0 ≡ eqb s.peer.0 r.peer.0 = grind (arith, nat_tests) in
    let f : eqb r.n s.n ≡ eqb s.n r.n = grind (arith, nat_tests) in
    rw (e, f) refl

pub sits_itself : (s : Sitting) → sits_for s.peer s.n s ≡ true
sits_itself s =
    let e : eqb s.peer.0 s.peer.0 ≡ true = grind (arith, nat_tests) in
    let f : eqb s.n s.n ≡ true = grind (arith, nat_tests) in
    rw (e, f) refl

-- a session that is changed in its place, of the same transaction
pub changed_in_place : (xs : List Sitting) → AllPairs (λ r t. sits_for r.peer r.n t ≡ false) xs → (i : ℕ) (s t : Sitting) → i < length xs → slice_get xs i ≡ Some s → t.peer ≡ s.peer → t.n ≡ s.n → set xs i t ≡ with_sitting t xs
changed_in_place xs apart i s t within is peer number =
    let at : (d : Sitting) → get_or xs i d ≡ s = λ d. get_or_from_slice_get xs i s d is in
    set_where (sits_for t.peer t.n) xs i t within
    (λ d. rw (at d, peer, number) (sits_itself s))
    (λ k d in' differs. rw (peer, number) (elim (cases_lt i k) [
      | inl lt ↦ let h = apart i k d lt in' in rw (at d) at h
      | inr le ↦ let lt : k < i = grind arith in let h = apart k i d lt within in sits_sym s (get_or xs k d) ∙ (rw (at d) at h)
    ]))

-- a request that is done by the session at a place
pub done_in_place : (xs held : List Sitting) → AllPairs (λ r t. sits_for r.peer r.n t ≡ false) xs → xs ≡ held → (place n : ℕ) (s t : Sitting) (ledger : List ℤ) (request : Request) → n ≡ length xs → place < n → s ≡ get_or xs place s → t ≡ done ledger s request
    → IfSome (slice_get held place) (λ s. set xs place t ≡ with_sitting (done ledger s request) held)
done_in_place xs held apart same place n s t ledger request long within read is =
    let at = slice_get_read xs n place s long within read in
    let changed = changed_in_place xs apart place s (done ledger s request) (omega arith) at refl refl in
    rw (← same, at, is) changed
