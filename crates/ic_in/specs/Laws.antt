-- Telling the senders one at a time.
use Rattle.std.specs.Prelude.{◌≡◌, ◌≤◌, ℕ, zero, suc, List, [], ◌∷◌, length, Option, Some, None}
use Rattle.def_state.specs.Inbox as state

-- what is told, and the inbox behind it
abbrev pub told_out : Option state.Ack → List state.Ack → List state.Ack
told_out None acks = []
told_out (Some a) acks = a ∷ acks

abbrev pub behind : Option state.Ack → state.Inbox → state.Inbox → state.Inbox
behind None i new = i
behind (Some a) i new = new

-- told one at a time until there is none, at most so many
abbrev pub told_acks : ℕ → state.Inbox → ℕ → List state.Ack
told_acks zero i forced = []
told_acks (suc n) i forced = told_out (state.next_ack i forced) (told_acks n (state.after_next_ack i forced) forced)

abbrev pub after_told_acks : ℕ → state.Inbox → ℕ → state.Inbox
after_told_acks zero i forced = i
after_told_acks (suc n) i forced = behind (state.next_ack i forced) i (after_told_acks n (state.after_next_ack i forced) forced)

-- one that is told is the first of what is to be told, the others are still to be told, and where there is none, none was
pub record TellsTheFirst (i : state.Inbox) (forced : ℕ) : Type 0 where
  pub first : (a : state.Ack) → state.next_ack i forced ≡ Some a → state.acks i forced ≡ a ∷ state.acks (state.after_next_ack i forced) forced
  pub rest : state.all_told (state.after_next_ack i forced) forced ≡ state.all_told i forced
  pub none : state.next_ack i forced ≡ None → state.acks i forced ≡ []
  pub end : state.next_ack i forced ≡ None → state.all_told i forced ≡ i

-- told one at a time until there is none, it is all that is to be told, in order
pub record TellsAll (i : state.Inbox) (forced n : ℕ) : Type 0 where
  pub acks : length (state.acks i forced) ≤ n → told_acks n i forced ≡ state.acks i forced
  pub told : length (state.acks i forced) ≤ n → after_told_acks n i forced ≡ state.all_told i forced
