-- What the modelled network is seen as: the part of a world that holds its packets.
use Rattle.std.specs.Prelude.{◌≡◌, ℕ, ◌+◌, ◌*◌, nat_lt, Bool, ◌&&◌, cond, List, [], ◌∷◌, ◌++◌, map, length}
use Rattle.std.specs.List.{range_with_len}
use Rattle.ic_base.specs.declared.limits.TheConstants.{COMPONENTS}
use Rattle.ic_base.specs.declared.messages.ComId.{ComId}
use Rattle.ic_base.specs.declared.messages.Packet.{Packet}
use Rattle.def_step.specs.Packets.{sender_of, receiver_of}
use Rattle.def_step.specs.World.{World, no_longer}
use Rattle.ic_network.specs.Lanes.{numbers_from}

-- every packet ever put out, number i in place i - 1; the numbers of those that wait, the oldest first
pub record Network : Type 0 where
  pub packets : List Packet
  pub waiting : List ℕ

-- a network, and for how many more packets it has room
pub record RoomyNetwork : Type 0 where
  pub network : Network
  pub spare : ℕ

abbrev pub empty_network : Network
empty_network = record { packets = []; waiting = [] }

-- a world of this network alone
abbrev pub in_world : Network → World
in_world n = record { nodes = []; packets = n.packets; waiting = n.waiting; showings = [] }

-- packets are numbered behind all earlier ones, and wait
abbrev pub with_put : Network → Packet → Network
with_put n p = record { packets = n.packets ++ p ∷ []; waiting = n.waiting ++ (length n.packets + 1) ∷ [] }

abbrev pub with_puts : Network → List Packet → Network
with_puts n puts = record { packets = n.packets ++ puts; waiting = n.waiting ++ range_with_len (length n.packets + 1) (length puts) }

abbrev pub without_wait_in : Network → ℕ → Network
without_wait_in n i = record n { waiting = no_longer i n.waiting }

-- the two components of a packet
abbrev pub ends_of : Packet → ComId × ComId
ends_of p = (sender_of p, receiver_of p)

-- both are numbers of components that a scenario may have
abbrev pub are_components : ℕ → ℕ → Bool
are_components from to = nat_lt from COMPONENTS && nat_lt to COMPONENTS

-- the lane of two components: each pair that a scenario may have has its own, and all others have the last one
abbrev pub lane_between : ℕ → ℕ → ℕ
lane_between from to = cond (are_components from to) (from * COMPONENTS + to) (COMPONENTS * COMPONENTS)

-- the lane of a packet
abbrev pub lane_of : Packet → ℕ
lane_of p = lane_between (sender_of p).0 (receiver_of p).0

-- each packet is on its lane, and so many wait
pub record IsSorted (packets : List Packet) (lanes : List ℕ) (waits : List Bool) (waiting : ℕ) : Type 0 where
  pub on_lane : lanes ≡ map lane_of packets
  pub waits_len : length waits ≡ length packets
  pub counted : waiting ≡ length (numbers_from 1 waits)
