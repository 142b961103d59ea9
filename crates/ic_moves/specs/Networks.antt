-- What the network of a world is seen as, and what is kept so that no event passes all its packets.
use Rattle.std.specs.Prelude.{◌≡◌, ℕ, ◌+◌, ◌*◌, ◌<◌, ◌≤◌, ◌==◌, ◌&&◌, not, Bool, false, List, [], ◌++◌, length, get_or, slice_get, filter}
use Rattle.std.specs.List.{range_with_len}
use Rattle.ic_network.specs.Lanes.{is_waiting}
use Rattle.def_two.specs.declared.moves.Packet2.{Packet2}
use Rattle.def_two.specs.World.{goes}

-- every packet ever put out, number i in place i - 1; the numbers of those that wait, the oldest first
pub record Network : Type 0 where
  pub packets : List Packet2
  pub waiting : List ℕ

abbrev pub empty_network : Network
empty_network = record { packets = []; waiting = [] }

-- packets are numbered behind all earlier ones, and wait
abbrev pub with_puts : Network → List Packet2 → Network
with_puts n puts = record { packets = n.packets ++ puts; waiting = n.waiting ++ range_with_len (length n.packets + 1) (length puts) }

-- the packet waits no longer
abbrev pub without : Network → ℕ → Network
without n i = record n { waiting = filter (λ j. not (i == j)) n.waiting }

-- the packet in a place waits, and goes from the one to the other
abbrev pub waits_between : List Packet2 → List Bool → ℕ → ℕ → ℕ → Bool
waits_between packets waits from to k = is_waiting waits k && goes from to (slice_get packets k)

-- the place of a pair of components below 16 in a table
abbrev pub pair_of : ℕ → ℕ → ℕ
pair_of from to = from * 16 + to

-- No packet waits below the first place, and none between a pair of components below the place that is kept for the pair.
pub record IsKept (packets : List Packet2) (waits : List Bool) (passed : List ℕ) (first : ℕ) : Type 0 where
  pub waits_len : length waits ≡ length packets
  pub pairs : length passed ≡ 256
  pub first_within : first ≤ length waits
  pub first_passed : (k : ℕ) → k < first → is_waiting waits k ≡ false
  pub within : (pair : ℕ) → get_or passed pair 0 ≤ length waits
  pub pairs_passed : (from to k : ℕ) → from < 16 → to < 16 → k < get_or passed (pair_of from to) 0 → waits_between packets waits from to k ≡ false
