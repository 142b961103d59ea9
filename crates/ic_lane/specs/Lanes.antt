-- What a lane keeps, and what contracts see of its ends.
use Rattle.std.specs.Prelude.{◌≡◌, ℕ, Bool, true, List, ◌++◌, Contains}
use mathlib.Core.Option.{some}
use lib.ListN.{get_elem?}
use Rattle.atomic_table.specs.Seated.{TableId}
use Rattle.ic_base.specs.declared.messages.Msg.{Msg}
use Rattle.ic_base.specs.declared.messages.Packet.{Packet}
use Rattle.ic_base.specs.declared.messages.Packet.TheVariants.{Data}
use Rattle.def_live.specs.Lanes.{HasOneContent}
use Rattle.ic_lane.specs.declared.line.Seen.{Seen}

-- an end that sends: its lane, what was pushed, and how many pushes found the lane full
pub record Out : Type 0 where
  pub lane : TableId
  pub capacity : ℕ
  pub sent : List Packet
  pub fulls : ℕ

-- an end that receives
pub record In : Type 0 where
  pub lane : TableId
  pub received : List Packet

abbrev pub seen : Bool → Bool → List Packet → List Packet → Seen
seen a b sent received = record { pushes = a; pops = b; sent = sent; received = received }

-- where p is a Data, each Data of its number among these equals it
abbrev pub IsFresh : List Packet → Packet → Type 0
IsFresh xs p = (m n : Msg) → p ≡ Data m → Contains xs (Data n) → n.k ≡ m.k → n ≡ m

abbrev pub Fits : ℕ → ℕ → List Packet → List Packet → ℕ → Seen → Type 0
Fits writer reader sent received pass v = (v.pushes ≡ true → (pass ≡ writer) × (v.sent ≡ sent)) × (v.pops ≡ true → (pass ≡ reader) × (v.received ≡ received))

-- What was received, and then what the queue holds, is what was sent. One pass at most may push, and it has what was sent; the same for pops.
abbrev pub Keeps : Type 0 → List Packet → List Seen → Type 0
Keeps honest items views = (writer : ℕ) × (reader : ℕ) × (sent : List Packet) × (received : List Packet) × (sent ≡ received ++ items)
    × ((pass : ℕ) (v : Seen) → get_elem? views pass ≡ some v → Fits writer reader sent received pass v)
    × (honest → HasOneContent sent)
