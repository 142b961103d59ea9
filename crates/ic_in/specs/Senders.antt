-- The senders of the taken messages, as an image has them.
use Rattle.std.specs.Prelude.{◌≡◌, ◌<◌, ◌≤◌, ◌+◌, ◌==◌, ◌&&◌, ℕ, nat_lt, nat_le, Bool, true, List, [], map, length, filter, slice_get, Option, Some, None}
use Rattle.std.specs.List.{All, list_all, list_any, flat_map}
use Rattle.ic_base.specs.declared.messages.ComId.{ComId}
use Rattle.def_state.specs.Names.{Identity}
use Rattle.ic_base.specs.declared.limits.TheConstants.{COMPONENTS, GREATEST_NUMBER}
use Rattle.ic_base.specs.Programs.{same_com}
use Rattle.def_state.specs.Inbox as state
use Rattle.def_state.specs.Image.{run_from, senders_of, identities, is_rising, rises_above}

-- each sender is one of the components that a scenario may have
abbrev pub are_components : List Identity → Bool
are_components taken = list_all (λ (x : Identity). nat_lt x.peer.0 COMPONENTS) taken

-- an inbox with these taken and no open receipt
abbrev pub only_taken : List Identity → state.Inbox
only_taken taken = record { taken = taken; receipts = [] }

-- the i-th sender by rising component, with its taken numbers
unfoldable pub sender_of : List Identity → ℕ → Option (ℕ × List ℕ)
sender_of taken i = slice_get (senders_of (only_taken taken)) i

-- a sender with the greatest number up to which all are taken
abbrev pub with_bound : Option (ℕ × List ℕ) → Option (ℕ × ℕ)
with_bound None = None
with_bound (Some s) = Some (s.0, run_from 0 s.1)

abbrev pub with_number : Option (ComId × ℕ) → Option (ℕ × ℕ)
with_number None = None
with_number (Some s) = Some (s.0.0, s.1)

-- the taken numbers of a sender above the greatest up to which all are taken
abbrev pub above_bound : List ℕ → List ℕ
above_bound ks = filter (λ k. nat_lt (run_from 0 ks) k) ks

abbrev pub number_above : Option (ℕ × List ℕ) → ℕ → Option ℕ
number_above None j = None
number_above (Some s) j = slice_get (above_bound s.1) j

-- a sender of an image: the greatest number up to which all are taken, and the taken numbers above it
abbrev pub Part : Type 0
Part = ComId × ℕ × List ℕ

-- the taken identities that they give
abbrev pub taken_in : List Part → List Identity
taken_in parts = flat_map (λ s. identities s.0 s.1 s.2) parts

-- they are in order and distinct, no number passes its limit, and of each at least one is taken
pub record AreParts (parts : List Part) : Type 0 where
  pub rising : is_rising (map (λ s. s.0.0) parts) ≡ true
  pub above : All (λ s. rises_above (s.1 + 1) s.2 ≡ true) parts
  pub low : All (λ s. s.1 ≤ GREATEST_NUMBER) parts
  pub limited : All (λ s. list_all (λ k. nat_le k GREATEST_NUMBER) s.2 ≡ true) parts
  pub filled : All (λ s. 0 < s.1 + length s.2) parts

-- whether a number is among those above of its sender
abbrev pub is_listed : List Part → Identity → Bool
is_listed parts x = list_any (λ s. same_com x.peer s.0 && list_any (λ k. x.k == k) s.2) parts
