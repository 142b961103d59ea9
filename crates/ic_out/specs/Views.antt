-- How the messages that are held are seen.
use Rattle.std.specs.Prelude.{◌≡◌, ◌≤◌, ℕ, Bool, true, false, not, List, map, filter, length, Option, Some, None}
use Rattle.std.specs.List.{All, AllWithin}
use Rattle.ic_base.specs.declared.messages.Msg.{Msg}
use Rattle.ic_base.specs.declared.messages.ComId.{ComId}
use Rattle.ic_base.specs.Programs.{same_com}
use Rattle.def_state.specs.Names.{Identity, Numbers, number_of}
use Rattle.def_state.specs.Outbox.{Outbox, Held}
use Rattle.ic_out.specs.declared.outbox.Row.{Row}

-- a row as the held message that it is
abbrev pub held_of : Row → Held
held_of r = record { msg = r.msg; at = r.at; put = r.put; stable = r.stable }

-- the message has no put mark
abbrev pub is_unput : Held → Bool
is_unput h = not h.put

-- the row with its put mark
abbrev pub put_row : Row → Row
put_row r = record r { put = true }

-- the identity of a row's message at its sender
abbrev pub name_of : Row → Identity
name_of r = record { peer = r.msg.to; k = r.msg.k }

-- how the rows stand beside the identities, the numbers sent, and how far the rows with a put mark are known
pub record IsKept (rows : List Row) (names : List Identity) (links : Numbers) (first quiet : ℕ) : Type 0 where
  -- the rows have these identities, in order
  pub named : map name_of rows ≡ names
  -- none has a number that wasn't sent
  pub sent : All (λ r. r.msg.k ≤ number_of 0 links r.msg.to) rows
  pub within : first ≤ length rows
  -- the rows before the first have their put mark
  pub put : AllWithin (λ r. r.put ≡ true) rows 0 first
  -- one without it isn't due below this position of the log
  pub later : All (λ r. r.put ≡ false → quiet ≤ r.at) rows

-- the same message, with its marks or more
pub record IsMoreMarked (h new : Held) : Type 0 where
  pub msg : new.msg ≡ h.msg
  pub at : new.at ≡ h.at
  pub put : h.put ≡ true → new.put ≡ true

abbrev pub IsMarked : Option Held → Held → Type 0
IsMarked None new = ⊥
IsMarked (Some h) new = IsMoreMarked h new

-- a message of an image: due, with its put mark and no stable mark
abbrev pub held_in_image : Msg → Held
held_in_image m = record { msg = m; at = 0; put = true; stable = false }

-- the outbox that an image gives
abbrev pub outbox_of : Numbers → List Msg → Outbox
outbox_of links messages = record { held = map held_in_image messages; links = links }

-- the row of an image's message
abbrev pub row_in_image : Msg → Row
row_in_image m = record { msg = m; at = 0; put = true; stable = false }

abbrev pub message_name : Msg → Identity
message_name m = record { peer = m.to; k = m.k }

-- the numbers of the messages to a component
abbrev pub numbers_among : List Msg → ComId → List ℕ
numbers_among ms to = map (λ m. m.k) (filter (λ m. same_com to m.to) ms)
