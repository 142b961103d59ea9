-- The writes that a disk in memory took, and what it held between them.
use Rattle.std.specs.Prelude.{◌≡◌, ◌⊎◌, ℕ, ◌<◌, ◌≤◌, ◌-◌, List, [], ◌∷◌, ◌++◌, length, take, drop, replicate}
use Rattle.def_log.specs.Torn.{Write, all_written}

-- what the disk held at first, the writes since, and how many bytes of writes it takes without memory
pub record TakenWrites : Type 0 where
  pub first : List ℕ
  pub writes : List Write
  pub spare : ℕ

-- writes in a list, and how many bytes of further ones it takes without memory
pub record ListedWrites : Type 0 where
  pub writes : List Write
  pub spare : ℕ

-- the writes with their first bytes, and this byte in place of each other one
abbrev pub filled : ℕ → ℕ → List Write → List Write
filled keep byte [] = []
filled keep byte (w ∷ writes) = (w.0, take keep w.1 ++ replicate (length w.1 - keep) byte) ∷ filled (keep - length w.1) byte writes

-- the writes at these places, of which each has an offset and a length, with these bytes in a row
abbrev pub writes_of : List (ℕ × ℕ) → List ℕ → List Write
writes_of [] bytes = []
writes_of (place ∷ places) bytes = (place.0, take place.1 bytes) ∷ writes_of places (drop place.1 bytes)

-- the disk held this at a time before now: after so many writes, counted from that time on
abbrev pub HeldSince : List ℕ → List Write → ℕ → List ℕ → Type 0
HeldSince first writes time image = (count : ℕ) × (time ≤ count) × (count < length writes) × (image ≡ all_written first (take count writes))

-- what a crash at some moment from that time on might have left: what is there now, or what the disk held since
abbrev pub LeftSince : List ℕ → List ℕ → List Write → ℕ → List ℕ → Type 0
LeftSince now first writes time image = (image ≡ now) ⊎ HeldSince first writes time image
