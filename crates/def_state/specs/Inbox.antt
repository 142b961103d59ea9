-- Receipts: which messages are taken, and what their senders were told.
use Rattle.std.specs.Prelude.{ℕ, nat_le, nat_lt, Bool, true, false, ◌&&◌, ◌||◌, cond, List, [], ◌∷◌, ◌++◌, map, Option, Some, None, option_map, filter, filter_map, find}
use Rattle.std.specs.List.{list_any}
use Rattle.ic_base.specs.declared.messages.Level.{Level}
use Rattle.ic_base.specs.declared.messages.Level.TheVariants.{Nothing, Taken, Stable, Installed}
use Rattle.ic_base.specs.Programs.{same_com}
use Rattle.def_state.specs.Names.{Identity, same_identity}

-- a receipt of which Installed isn't told yet; told is the level that was last told
pub record Receipt : Type 0 where
  pub name : Identity
  pub at : ℕ
  pub covered : Bool
  pub told : Level

-- the taken identities in order of (from, k), and the open receipts in order of receipt
pub record Inbox : Type 0 where
  pub taken : List Identity
  pub receipts : List Receipt

pub record Ack : Type 0 where
  pub name : Identity
  pub level : Level

abbrev pub empty_inbox : Inbox
empty_inbox = record { taken = []; receipts = [] }

-- the levels in rising order
abbrev pub rank : Level → ℕ
rank Nothing = 0
rank Taken = 1
rank Stable = 2
rank Installed = 3

abbrev pub comes_before : Identity → Identity → Bool
comes_before x y = nat_lt x.peer.0 y.peer.0 || (same_com x.peer y.peer && nat_lt x.k y.k)

-- x among the taken ones, in its place
abbrev pub insert_identity : Identity → List Identity → List Identity
insert_identity x [] = x ∷ []
insert_identity x (y ∷ ys) = cond (comes_before x y) (x ∷ y ∷ ys) (y ∷ insert_identity x ys)

abbrev pub is_taken : Inbox → Identity → Bool
is_taken i x = list_any (same_identity x) i.taken

-- a new identity is taken, and its receipt is open; a whole one counts as covered
abbrev pub took : Inbox → Identity → ℕ → Bool → Inbox
took i x at whole = record {
  taken = insert_identity x i.taken;
  receipts = i.receipts ++ record { name = x; at = at; covered = whole; told = Nothing } ∷ [];
}

-- the level of an open receipt
abbrev pub level_of : ℕ → Receipt → Level
level_of forced r = cond (nat_le r.at forced) (cond r.covered Installed Stable) Taken

abbrev pub level_of_other : Bool → Level
level_of_other true = Installed
level_of_other false = Nothing

abbrev pub level_found : Option Level → Bool → Level
level_found (Some l) taken = l
level_found None taken = level_of_other taken

abbrev pub level : Inbox → Identity → ℕ → Level
level i x forced = level_found (option_map (level_of forced) (find (λ r. same_identity x r.name) i.receipts)) (is_taken i x)

abbrev pub cover_one : ℕ → Receipt → Receipt
cover_one at r = record r { covered = cond (nat_le r.at at) true r.covered }

-- every open receipt up to `at` is covered
abbrev pub cover : Inbox → ℕ → Inbox
cover i at = record i { receipts = map (cover_one at) i.receipts }

-- the receipt has something new to tell
abbrev pub is_loud : ℕ → Receipt → Bool
is_loud forced r = nat_le 2 (rank (level_of forced r)) && nat_lt (rank r.told) (rank (level_of forced r))

abbrev pub ack_of : ℕ → Receipt → Ack
ack_of forced r = record { name = r.name; level = level_of forced r }

-- a receipt once it is told; None where Installed was told, for it is no longer open
abbrev pub told_as : Receipt → Level → Option Receipt
told_as r Nothing = Some r
told_as r Taken = Some r
told_as r Stable = Some (record r { told = Stable })
told_as r Installed = None

abbrev pub after_ack : ℕ → Receipt → Option Receipt
after_ack forced r = cond (is_loud forced r) (told_as r (level_of forced r)) (Some r)

-- what is told to the senders, in order of receipt
abbrev pub acks : Inbox → ℕ → List Ack
acks i forced = map (ack_of forced) (filter (is_loud forced) i.receipts)

abbrev pub all_told : Inbox → ℕ → Inbox
all_told i forced = record i { receipts = filter_map (after_ack forced) i.receipts }

abbrev pub next_ack : Inbox → ℕ → Option Ack
next_ack i forced = option_map (ack_of forced) (find (is_loud forced) i.receipts)

abbrev pub keep_if_open : Option Receipt → List Receipt → List Receipt
keep_if_open None rs = rs
keep_if_open (Some r) rs = r ∷ rs

abbrev pub tell_first : ℕ → List Receipt → List Receipt
tell_first forced [] = []
tell_first forced (r ∷ rs) = cond (is_loud forced r) (keep_if_open (after_ack forced r) rs) (r ∷ tell_first forced rs)

abbrev pub after_next_ack : Inbox → ℕ → Inbox
after_next_ack i forced = record i { receipts = tell_first forced i.receipts }
