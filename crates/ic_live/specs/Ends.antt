-- The ends of the lanes of one component, each in the place of its peer: the component at the other end. Each component has a lane to
-- itself too, which is never used. What pops and pushes do to the ends.
use Rattle.std.specs.Prelude.{◌≡◌, ℕ, ◌+◌, Bool, true, false, not, ◌||◌, cond, List, [], ◌∷◌, ◌++◌, map, filter, length, Contains, slice_get, Some}
use Rattle.ic_base.specs.declared.messages.ComId.{ComId}
use Rattle.ic_base.specs.declared.messages.Msg.{Msg}
use Rattle.ic_base.specs.declared.messages.Packet.{Packet}
use Rattle.ic_base.specs.declared.messages.Packet.TheVariants.{Data}
use Rattle.ic_base.specs.Programs.{same_com}
use Rattle.def_live.specs.Lanes.{Lanes, HasOneContent, StandAmong, is_between}
use Rattle.def_live.specs.Turns.{Pop, popped_of}
use Rattle.ic_lane.specs.Lanes.{In, Out}

-- whether a component is one of these
abbrev pub is_among : List ComId → ComId → Bool
is_among [] d = false
is_among (p ∷ peers) d = same_com d p || is_among peers d

-- each comes once
abbrev pub AreApart : List ComId → Type 0
AreApart [] = Unit {0}
AreApart (p ∷ peers) = (is_among peers p ≡ false) × AreApart peers

abbrev pub others : ComId → List ComId → List ComId
others c peers = filter (λ d. not (same_com c d)) peers

-- what is read of the end to a peer; of one that is none, what is given
abbrev pub at_peer : {A B : Type 0} → B → (A → B) → List ComId → List A → ComId → B
at_peer none read [] ends d = none
at_peer none read (p ∷ peers) [] d = none
at_peer none read (p ∷ peers) (x ∷ ends) d = cond (same_com d p) (read x) (at_peer none read peers ends d)

abbrev pub received_from : List ComId → List In → ComId → List Packet
received_from peers ins from = at_peer [] (λ x. x.received) peers ins from

abbrev pub sent_to : List ComId → List Out → ComId → List Packet
sent_to peers outs to = at_peer [] (λ o. o.sent) peers outs to

-- how many pushes to a peer met a full lane
abbrev pub fulls_to : List ComId → List Out → ComId → ℕ
fulls_to peers outs to = at_peer 0 (λ o. o.fulls) peers outs to

-- the lanes of c, by its ends; all others are left out
abbrev pub lanes_at : ComId → List ComId → List In → List Out → Lanes
lanes_at c peers ins outs from to = record {
  sent = cond (same_com from c) (sent_to peers outs to) [];
  received = cond (same_com to c) (received_from peers ins from) [];
}

-- each end keeps the rule of its lane
abbrev pub HaveOneContent : List In → Type 0
HaveOneContent ins = (k : ℕ) (x : In) → slice_get ins k ≡ Some x → HasOneContent x.received

-- the ends are those of the same lanes, and each received what the pops gave of its lane
pub record ArePopped (peers : List ComId) (olds news : List In) (pops : List Pop) : Type 0 where
  pub lanes : map (λ x. x.lane) news ≡ map (λ x. x.lane) olds
  pub gains : (from : ComId) → received_from peers news from ≡ received_from peers olds from ++ popped_of from pops

-- the lane from c took some of these packets, in their order, and each other one of them that is its own met a full lane
pub record IsPushed (c to : ComId) (peers : List ComId) (olds news : List Out) (puts : List Packet) : Type 0 where
  pub taken : List Packet
  pub among : StandAmong taken (filter (is_between c to) puts)
  pub sent : sent_to peers news to ≡ sent_to peers olds to ++ taken
  pub lost : is_among peers to ≡ true → fulls_to peers news to + length taken ≡ fulls_to peers olds to + length (filter (is_between c to) puts)

-- the ends are those of the same lanes, and each packet that c put out for a peer was pushed to its lane
pub record ArePushed (c : ComId) (peers : List ComId) (olds news : List Out) (puts : List Packet) : Type 0 where
  pub lanes : map (λ o. o.lane) news ≡ map (λ o. o.lane) olds
  pub pushed : (to : ComId) → IsPushed c to peers olds news puts

-- Of all that c ever put out, these packets among it, two Data of one receiver and number are equal; and its lanes took no other packets,
-- each those of its pair. So each push keeps the rule of its lane.
pub record MayPush (c : ComId) (peers : List ComId) (outs : List Out) (puts : List Packet) : Type 0 where
  pub all : List Packet
  pub took : (to : ComId) (p : Packet) → Contains (sent_to peers outs to) p → Contains all p × (is_between c to p ≡ true)
  pub are_put : (p : Packet) → Contains puts p → Contains all p
  pub one_content : (m n : Msg) → Contains all (Data m) → Contains all (Data n) → m.to ≡ n.to → m.k ≡ n.k → m ≡ n
