-- Requests at a later place, and commits, of a session that is there.
use Rattle.std.proofs.Common.{◌≡◌, ◌∙◌, ◌+◌, ◌++◌, ◌∷◌, [], ℕ, ℤ, true, false, cond, ltb, eqb, max, length, List, Option, Some, None, find, filter, not, ap, refl, sym, arith}
use Rattle.std.proofs.lemmas.Bool.Decides.{nat_tests}
use Rattle.ic_base.specs.declared.messages.ComId.{ComId}
use Rattle.ic_base.specs.declared.messages.Session.{Session}
use Rattle.ic_base.specs.declared.messages.Request.{Request}
use Rattle.ic_base.specs.declared.messages.Decision.TheVariants.{Committed}
use Rattle.ic_base.specs.declared.messages.Packet.{Packet}
use Rattle.ic_base.specs.declared.messages.Packet.TheVariants.{Outcome}
use Rattle.ic_base.specs.declared.record.Record.{Record}
use Rattle.ic_base.specs.declared.record.Record.TheVariants.{Decided}
use Rattle.def_step.specs.Packets.{key_of}
use Rattle.def_step.specs.Tcom.{Tcom, Sitting, holder, done, reply_at, answers_with, held_by, silent, does_unless, on_later, on_commit, Verdict, write_all, sits_for}
use Rattle.ic_tcom.specs.EngineState.{EngineState, over, entered}
use Rattle.ic_tcom.specs.Sittings.{with_sitting, holds_for_another}
use Rattle.ic_tcom.proofs.Decisions.{decided_more}

-- the next place of a session
next_place : (t : ComId) (place : ℕ) (session : Session) (request : Request) (x : Tcom) (o : Option Sitting) (s : Sitting) → o ≡ Some s → place ≡ length s.answers
    → on_later t place session request x o ≡ does_unless t place session request x s (holder x s.peer s.n (key_of request))
next_place t place session request x o s is next =
    let below : ltb place (length s.answers) ≡ false = grind (arith, nat_tests) in
    let at : eqb place (length s.answers) ≡ true = grind (arith, nat_tests) in
    let does = does_unless t place session request x s (holder x s.peer s.n (key_of request)) in
    ap (on_later t place session request x) is
    ∙ ap (λ b. cond b (answers_with x (reply_at t s place)) (cond (eqb place (length s.answers)) does (silent x))) below
    ∙ ap (λ b. cond b does (silent x)) at

module _ (t c : ComId) (n place : ℕ) (session : Session) (request : Request) (e : EngineState) (log : List Record) (s : Sitting) (peer : s.peer ≡ c) (number : s.n ≡ n) (o : Option Sitting) (is : o ≡ Some s) (next : place ≡ length s.answers) where
  sought : holder (over log e) s.peer s.n (key_of request) ≡ find (holds_for_another c n (key_of request)) e.sittings
  sought = rw (peer, number) refl

  -- the key is held by another session
  pub later_held : (other : Sitting) (answer : Packet) → find (holds_for_another c n (key_of request)) e.sittings ≡ Some other → ((x : Tcom) → held_by t c n place (Some session) x other ≡ answers_with x answer)
      → on_later t place session request (over log e) o ≡ record { tcom = over log e; adds = []; puts = answer ∷ [] }
  later_held other answer found held =
      next_place t place session request (over log e) o s is next
      ∙ ap (does_unless t place session request (over log e) s) (sought ∙ found)
      ∙ ap (λ d. held_by t d s.n place (Some session) (over log e) other) peer
      ∙ ap (λ m. held_by t c m place (Some session) (over log e) other) number
      ∙ held (over log e)

  -- the request is done
  pub later_done : (sittings : List Sitting) (answer : Packet) → find (holds_for_another c n (key_of request)) e.sittings ≡ None → sittings ≡ with_sitting (done e.book.ledger s request) e.sittings → answer ≡ reply_at t (done e.book.ledger s request) place
      → on_later t place session request (over log e) o ≡ record { tcom = over log (record e { sittings = sittings }); adds = []; puts = answer ∷ [] }
  later_done sittings answer none now is' =
      next_place t place session request (over log e) o s is next
      ∙ ap (does_unless t place session request (over log e) s) (sought ∙ none)
      ∙ ap (λ ss. answers_with (over log (record e { sittings = ss })) (reply_at t (done e.book.ledger s request) place)) (sym now)
      ∙ ap (answers_with (over log (record e { sittings = sittings }))) (sym is')

-- a commit of a session that is there
pub commit_decides : (t c : ComId) (n place stamp before : ℕ) (session : Session) (e : EngineState) (log : List Record) (o : Option Sitting) (s : Sitting) (writes : List (ℕ × ℤ)) (answer : Packet)
    → o ≡ Some s → s.peer ≡ c → s.n ≡ n → writes ≡ s.writes → before ≡ max e.book.clock stamp → answer ≡ Outcome t c n place (Some session) (Committed (before + 1))
    → on_commit t place stamp session (over log e) o
    ≡ record { tcom = over (log ++ Decided (before + 1) c n writes ∷ []) (entered e (Decided (before + 1) c n writes)); adds = Decided (before + 1) c n writes ∷ []; puts = answer ∷ [] }
commit_decides t c n place stamp before session e log o s writes answer is peer number same clock said =
    rw (said, is, ← peer, ← number, same, clock) (ap (λ (vs : List Verdict). record { tcom = record { records = log ++ Decided (max e.book.clock stamp + 1) s.peer s.n s.writes ∷ []; book = record { ledger = write_all e.book.ledger s.writes; decided = vs; epoch = e.book.epoch; clock = max e.book.clock stamp + 1 }; counter = e.counter; sittings = filter (λ r. not (sits_for s.peer s.n r)) e.sittings; least = e.least }; adds = Decided (max e.book.clock stamp + 1) s.peer s.n s.writes ∷ []; puts = Outcome t s.peer s.n place (Some session) (Committed (max e.book.clock stamp + 1)) ∷ [] }) (sym (decided_more log (max e.book.clock stamp + 1) s.peer s.n s.writes)))
