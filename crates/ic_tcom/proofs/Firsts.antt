-- First requests.
use Rattle.std.proofs.Common.{◌≡◌, ◌∙◌, ◌+◌, ◌++◌, ◌∷◌, [], ℕ, List, Some, None, find, filter, not, ap, refl, sym}
use Rattle.ic_base.specs.declared.messages.ComId.{ComId}
use Rattle.ic_base.specs.declared.messages.Request.{Request}
use Rattle.ic_base.specs.declared.messages.Packet.{Packet}
use Rattle.ic_base.specs.declared.record.Record.{Record}
use Rattle.def_state.specs.Names.{Numbers, put_number}
use Rattle.def_step.specs.Packets.{key_of}
use Rattle.def_step.specs.Tcom.{Tcom, Sitting, sits_for, is_below, done, reply_at, answers_with, held_by, first_again, opens_unless, on_first}
use Rattle.ic_tcom.specs.EngineState.{EngineState, over}
use Rattle.ic_tcom.specs.Sittings.{fresh_sitting, holds_for_another}

-- a Pcom's transactions are served from this one on
abbrev pub served_from : ComId → ℕ → EngineState → EngineState
served_from c n e = record e { sittings = filter (λ s. not (is_below c n s)) e.sittings; least = put_number c n e.least }

module _ (t c : ComId) (n : ℕ) (request : Request) (e : EngineState) (log : List Record) (none : find (sits_for c n) e.sittings ≡ None) where
  comes_first : on_first t c n request (over log e) ≡ opens_unless t c n request (over log (served_from c n e)) (find (holds_for_another c n (key_of request)) (filter (λ s. not (is_below c n s)) e.sittings))
  comes_first = ap (first_again t c n request (over log (served_from c n e))) none

  -- the key is held by another session
  pub first_held : (other : Sitting) (sittings : List Sitting) (least : Numbers) (answer : Packet) → find (holds_for_another c n (key_of request)) (filter (λ s. not (is_below c n s)) e.sittings) ≡ Some other
      → sittings ≡ filter (λ s. not (is_below c n s)) e.sittings → least ≡ put_number c n e.least
      → ((x : Tcom) → held_by t c n 0 None x other ≡ answers_with x answer)
      → on_first t c n request (over log e) ≡ record { tcom = over log (record e { sittings = sittings; least = least }); adds = []; puts = answer ∷ [] }
  first_held other sittings least answer found ss ls held =
      comes_first
      ∙ ap (opens_unless t c n request (over log (served_from c n e))) found
      ∙ held (over log (served_from c n e))
      ∙ ap (λ xs. answers_with (over log (record e { sittings = xs; least = put_number c n e.least })) answer) (sym ss)
      ∙ ap (λ xs. answers_with (over log (record e { sittings = sittings; least = xs })) answer) (sym ls)

  -- the session is opened
  pub first_opened : (s : Sitting) (sittings after : List Sitting) (least : Numbers) (answer : Packet) → find (holds_for_another c n (key_of request)) (filter (λ s. not (is_below c n s)) e.sittings) ≡ None
      → s ≡ done e.book.ledger (fresh_sitting (record { epoch = e.book.epoch; counter = e.counter + 1 }) c n) request
      → sittings ≡ filter (λ s. not (is_below c n s)) e.sittings → after ≡ sittings ++ s ∷ [] → least ≡ put_number c n e.least
      → answer ≡ reply_at t s 0
      → on_first t c n request (over log e) ≡ record { tcom = over log (record e { counter = e.counter + 1; sittings = after; least = least }); adds = []; puts = answer ∷ [] }
  first_opened s sittings after least answer free is ss added ls said =
      comes_first
      ∙ ap (opens_unless t c n request (over log (served_from c n e))) free
      ∙ rw (said, added, ss, ls, is) refl
