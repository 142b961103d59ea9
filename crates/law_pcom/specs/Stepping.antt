-- A step keeps the local facts of a Pcom.
use Rattle.std.specs.Prelude.{◌≡◌, ⊤, List, [], ◌∷◌, ◌++◌, IsSome}
use Rattle.ic_base.specs.declared.messages.ComId.{ComId}
use Rattle.ic_base.specs.declared.messages.Packet.{Packet}
use Rattle.ic_base.specs.declared.scenario.Program.{Program}
use Rattle.def_step.specs.Packets.{receiver_of}
use Rattle.def_step.specs.Pcom.{Pcom, Call, Gets, StepResult, all_of, decide}
use Rattle.def_facts.specs.Pcom.{state_after, PcomLogFacts, VolatileFacts}
use Rattle.law_pcom.specs.Tailing.{PendingIsTrue}
use Rattle.law_pcom.specs.Upkeep.{UpFacts}

-- the packet that a call brings
abbrev pub got : Call → List Packet
got (Gets packet) = packet ∷ []
got _ = []

-- it is for this component
abbrev pub IsFor : ComId → Call → Type 0
IsFor c (Gets packet) = receiver_of packet ≡ c
IsFor c _ = ⊤

-- the replay takes the records that the step adds
abbrev pub Replays : Program → ComId → List Packet → Pcom → Call → Type 0
Replays program c received p call = IsSome (state_after program c (received ++ got call) (all_of p.log ++ (decide program c p call).adds))

-- what is pending is true of the forced records
abbrev pub PendingsAreTrue : Program → ComId → Type 0
PendingsAreTrue program c = (sent received : List Packet) (q : Pcom) → UpFacts program c sent received q → PendingIsTrue program c received q.vol q.log.forced

-- the facts behind a step
abbrev pub StepKept : Program → ComId → List Packet → List Packet → StepResult → Type 0
StepKept program c sent received t = PcomLogFacts program c t.pcom.log.forced (all_of t.pcom.log) (sent ++ t.puts) received × VolatileFacts program c t.pcom received
