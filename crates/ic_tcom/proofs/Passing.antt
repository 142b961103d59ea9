-- Packets that come past the first cases.
use Rattle.std.proofs.Common.{◌≡◌, ◌≢◌, ◌∙◌, ◌≤◌, ℕ, suc, true, false, cond, ltb, eqb, Option, None, List, ap, sym, arith, inl, inr}
use Rattle.std.proofs.lemmas.Bool.{cases_lt}
use Rattle.std.proofs.lemmas.Bool.Decides.{nat_tests}
use Rattle.ic_base.specs.declared.messages.ComId.{ComId}
use Rattle.ic_base.specs.declared.messages.Session.{Session}
use Rattle.ic_base.specs.declared.record.Record.{Record}
use Rattle.def_step.specs.Tcom.{Tcom, Served, unless_below, unless_decided, decided_at, kept_at, least_of, silent}
use Rattle.ic_tcom.specs.EngineState.{EngineState, over, Keeps}
use Rattle.ic_tcom.specs.Last.{stamp_at}

-- a number that is served no longer
pub passes_over : (c : ComId) (n : ℕ) (x : Tcom) (other : Served) → suc n ≤ least_of x c → unless_below c n x other ≡ silent x
passes_over c n x other below =
    let l : ltb n (least_of x c) ≡ true = grind (arith, nat_tests) in
    ap (λ b. cond b (silent x) other) l

-- one that is still served
pub still_served : (c : ComId) (n : ℕ) (x : Tcom) (other : Served) → least_of x c ≤ n → unless_below c n x other ≡ other
still_served c n x other least =
    let l : ltb n (least_of x c) ≡ false = grind (arith, nat_tests) in
    ap (λ b. cond b (silent x) other) l

-- and of which nothing is decided
pub passes_on : (t c : ComId) (n place : ℕ) (session : Option Session) (x : Tcom) (o : Option ℕ) (other : Served) → o ≡ None → least_of x c ≤ n → unless_below c n x (unless_decided t c n place session x o other) ≡ other
passes_on t c n place session x o other none least =
    still_served c n x (unless_decided t c n place session x o other) least ∙ ap (λ o. unless_decided t c n place session x o other) none

pub is_other_epoch : (a b : ℕ) (x y : Served) → a ≢ b → cond (eqb a b) x y ≡ y
is_other_epoch a b x y differs = let e : eqb a b ≡ false = grind (arith, nat_tests) in ap (λ b. cond b x y) e

module _ (log : List Record) (e : EngineState) (keeps : Keeps log e) (c : ComId) (n : ℕ) where
  -- what is told of a transaction is the same whether the decisions that are held are asked or those of the log
  pub same_told : (F : Option ℕ → Served) → unless_below c n (over log e) (F (stamp_at e.book.decided c n)) ≡ unless_below c n (over log e) (F (decided_at (over log e).book c n))
  same_told F = elim (cases_lt n (least_of (over log e) c)) [
    | inl below ↦ passes_over c n (over log e) (F (stamp_at e.book.decided c n)) below ∙ sym (passes_over c n (over log e) (F (decided_at (over log e).book c n)) below)
    | inr le ↦ ap (λ o. unless_below c n (over log e) (F o)) (keeps.0 c n le)
  ]

  pub is_forgotten : suc n ≤ least_of (over log e) c → None ≡ kept_at (over log e) c n
  is_forgotten below =
      let l : ltb n (least_of (over log e) c) ≡ true = grind (arith, nat_tests) in
      sym (ap (λ b. cond b None (decided_at (over log e).book c n)) l)

  pub is_kept : least_of (over log e) c ≤ n → stamp_at e.book.decided c n ≡ kept_at (over log e) c n
  is_kept le =
      let l : ltb n (least_of (over log e) c) ≡ false = grind (arith, nat_tests) in
      keeps.0 c n le ∙ sym (ap (λ b. cond b None (decided_at (over log e).book c n)) l)
