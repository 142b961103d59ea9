-- Taking the messages that are due one at a time.
use Rattle.std.specs.Prelude.{◌≡◌, ◌≤◌, ℕ, zero, suc, List, [], ◌∷◌, length, Option, Some, None}
use Rattle.ic_base.specs.declared.messages.Msg.{Msg}
use Rattle.def_state.specs.Outbox.{Outbox, next_due, after_next_due, due_messages, all_put}

-- what is put out, and the outbox behind it
abbrev pub put_out : Option Msg → List Msg → List Msg
put_out None ms = []
put_out (Some m) ms = m ∷ ms

abbrev pub behind : Option Msg → Outbox → Outbox → Outbox
behind None o new = o
behind (Some m) o new = new

-- taken one at a time until there is none, at most so many
abbrev pub taken_due : ℕ → Outbox → ℕ → List Msg
taken_due zero o forced = []
taken_due (suc n) o forced = put_out (next_due o forced) (taken_due n (after_next_due o forced) forced)

abbrev pub after_taken_due : ℕ → Outbox → ℕ → Outbox
after_taken_due zero o forced = o
after_taken_due (suc n) o forced = behind (next_due o forced) o (after_taken_due n (after_next_due o forced) forced)

-- one that is taken is the first of those that are due, the others stay due, and where there is none, none was due
pub record TakesTheFirst (o : Outbox) (forced : ℕ) : Type 0 where
  pub first : (m : Msg) → next_due o forced ≡ Some m → due_messages o forced ≡ m ∷ due_messages (after_next_due o forced) forced
  pub rest : all_put (after_next_due o forced) forced ≡ all_put o forced
  pub none : next_due o forced ≡ None → due_messages o forced ≡ []
  pub end : next_due o forced ≡ None → all_put o forced ≡ o

-- taken one at a time until there is none, they are all that are due, in order, and each has its put mark
pub record TakesAll (o : Outbox) (forced n : ℕ) : Type 0 where
  pub messages : length (due_messages o forced) ≤ n → taken_due n o forced ≡ due_messages o forced
  pub marks : length (due_messages o forced) ≤ n → after_taken_due n o forced ≡ all_put o forced
