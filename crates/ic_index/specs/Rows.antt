-- How identities are kept in order of arrival.
use Rattle.std.specs.Prelude.{◌≡◌, ℕ, nat_lt, Bool, true, ◌&&◌, ◌==◌, List, [], ◌∷◌, map, Option, Some}
use Rattle.std.specs.List.{list_all, list_any}
use Rattle.def_state.specs.Names.{Identity, same_identity}
use Rattle.def_state.specs.Fits.{is_number_of}
use Rattle.ic_index.specs.declared.arrivals.Arrival.{Arrival}
use Rattle.std.specs.HashMap.{HashMap, get}

-- what arrived
abbrev pub arrived : Arrival → Identity
arrived a = record { peer = a.peer; k = a.k }

-- each number is below those behind it and below the next one
abbrev pub are_numbered : ℕ → List Arrival → Bool
are_numbered next [] = true
are_numbered next (a ∷ rest) = (nat_lt a.number next && list_all (λ b. nat_lt a.number b.number) rest) && are_numbered next rest

-- the number that is kept for each one is its own
abbrev pub are_indexed : (Identity → Option ℕ) → List Arrival → Bool
are_indexed look arrivals = list_all (λ a. is_number_of (look (arrived a)) a.number) arrivals

-- a number is kept for those that are there and for no other: what left is forgotten, so its number takes no memory
abbrev pub KeepsNoOther : (Identity → Option ℕ) → List Arrival → Type 0
KeepsNoOther look arrivals = (x : Identity) (n : ℕ) → look x ≡ Some n → list_any (same_identity x) (map arrived arrivals) ≡ true

abbrev pub same_key : ℕ × ℕ → ℕ × ℕ → Bool
same_key x y = (x.0 == y.0) && (x.1 == y.1)

-- the number kept for an identity
abbrev pub number_kept : {S : Type 0} → HashMap (ℕ × ℕ) ℕ S → Identity → Option ℕ
number_kept numbers x = get same_key numbers (x.peer.0, x.k)
