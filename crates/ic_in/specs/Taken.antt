-- How the taken identities are kept: for each sender the number up to which all are taken, and those above it.
use Rattle.std.specs.Prelude.{◌≡◌, ◌<◌, ◌≤◌, ◌+◌, ℕ, nat_le, Bool, true, ◌&&◌, ◌||◌, List, map, filter, is_some}
use Rattle.std.specs.List.{flat_map, list_any}
use Rattle.ic_base.specs.declared.messages.ComId.{ComId}
use Rattle.def_state.specs.Names.{Identity, Numbers, number_of}
use Rattle.ic_base.specs.declared.limits.TheConstants.{GREATEST_NUMBER}
use Rattle.ic_base.specs.Programs.{same_com}
use Rattle.def_state.specs.Image.{identities, is_rising}
use Rattle.ic_index.specs.declared.sorted.Entry.{Entry}
use Rattle.ic_index.specs.Entries.{value_of, is_in_order}

-- the taken numbers of a sender above its bound
abbrev pub numbers_above : List (Entry (Unit {0})) → ComId → List ℕ
numbers_above above c = map (λ e. e.k) (filter (λ e. same_com c e.peer) above)

-- the taken identities
abbrev pub taken_of : Numbers → List (Entry (Unit {0})) → List Identity
taken_of bounds above = flat_map (λ s. identities s.0 s.1 (numbers_above above s.0)) bounds

-- whether an identity is taken: its number is up to the bound, or kept above it
abbrev pub is_recorded : Numbers → List (Entry (Unit {0})) → Identity → Bool
is_recorded bounds above x = (nat_le 1 x.k && nat_le x.k (number_of 0 bounds x.peer)) || is_some (value_of above x)

abbrev pub is_sender : Numbers → ComId → Bool
is_sender bounds c = list_any (λ s. same_com c s.0) bounds

-- bounds and the numbers above them go together
pub record IsTaken (bounds : Numbers) (above : List (Entry (Unit {0}))) : Type 0 where
  -- the senders rise, and so do the numbers above
  pub senders : is_rising (map (λ s. s.0.0) bounds) ≡ true
  pub ordered : is_in_order above ≡ true
  -- a number above is of a sender that has a bound, and the one behind the bound isn't taken
  pub listed : (x : Identity) → is_some (value_of above x) ≡ true → is_sender bounds x.peer ≡ true
  pub higher : (x : Identity) → is_some (value_of above x) ≡ true → number_of 0 bounds x.peer + 1 < x.k
  -- no number passes its limit
  pub low : (c : ComId) → number_of 0 bounds c ≤ GREATEST_NUMBER
  pub limited : (x : Identity) → is_some (value_of above x) ≡ true → x.k ≤ GREATEST_NUMBER
  -- of each sender at least one is taken
  pub filled : (c : ComId) → is_sender bounds c ≡ true → (k : ℕ) × (is_recorded bounds above (record { peer = c; k = k }) ≡ true)
