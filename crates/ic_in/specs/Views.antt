-- How receipts are seen.
use Rattle.std.specs.Prelude.{◌≡◌, ◌≤◌, ℕ, nat_lt, nat_le, Bool, true, false, cond, List, map, length, Option, Some, None}
use Rattle.std.specs.List.{All, AllWithin, list_any}
use Rattle.def_state.specs.Names.{Identity, same_identity}
use Rattle.def_state.specs.Inbox as state
use Rattle.ic_in.specs.declared.inbox.Row.{Row}
use Rattle.ic_in.specs.declared.inbox.Ack.{Ack}

-- the identity of a row's message at its receiver
abbrev pub name_of : Row → Identity
name_of r = record { peer = r.from; k = r.k }

-- a row as the open receipt that it is
abbrev pub receipt_of : Row → state.Receipt
receipt_of r = record { name = name_of r; at = r.at; covered = r.covered; told = r.told }

abbrev pub seen_ack : Ack → state.Ack
seen_ack a = record { name = record { peer = a.to; k = a.k }; level = a.level }

-- the receipt has more to tell once it is forced
abbrev pub is_waiting : state.Receipt → Bool
is_waiting r = nat_lt (state.rank r.told) (cond r.covered 3 2)

-- the row as it is once every receipt up to `at` is covered
abbrev pub covered_row : ℕ → Row → Row
covered_row at r = record r { covered = cond (nat_le r.at at) true r.covered }

-- the same receipt, with nothing more to tell
pub record IsToldAll (r new : state.Receipt) : Type 0 where
  pub name : new.name ≡ r.name
  pub told : is_waiting new ≡ false

abbrev pub IsTold : Option state.Receipt → state.Receipt → Type 0
IsTold None new = ⊥
IsTold (Some r) new = IsToldAll r new

-- how the rows stand beside the identities, those taken, and how far the rows with nothing more to tell are known
pub record IsKept (taken : List Identity) (rows : List Row) (names : List Identity) (first quiet : ℕ) : Type 0 where
  -- the rows have these identities, in order, and each is taken
  pub named : map name_of rows ≡ names
  pub recorded : All (λ r. list_any (same_identity (name_of r)) taken ≡ true) rows
  pub within : first ≤ length rows
  -- the rows before the first have nothing more to tell, whatever is forced
  pub told : AllWithin (λ r. is_waiting (receipt_of r) ≡ false) rows 0 first
  -- one that has isn't forced below this position of the log
  pub later : All (λ r. is_waiting (receipt_of r) ≡ true → quiet ≤ r.at) rows
