-- Where a step passes no limit, the replay takes the records that it adds.
use Rattle.std.specs.Prelude.{◌≡◌, ⊤, ℕ, true, false, List, ◌++◌}
use Rattle.ic_base.specs.declared.messages.ComId.{ComId}
use Rattle.ic_base.specs.declared.messages.Packet.{Packet}
use Rattle.ic_base.specs.declared.scenario.Program.{Program}
use Rattle.ic_base.specs.Programs.{has_handler}
use Rattle.def_step.specs.Pcom.{Pcom, Call, Gives, all_of, is_replaying, is_full}
use Rattle.def_facts.specs.Logs.{IsConsistent}
use Rattle.def_facts.specs.Pcom.{PcomLogFacts, VolatileFacts}
use Rattle.def_facts.specs.Playable.{IsPlayable}
use Rattle.law_pcom.specs.Stepping.{got, Replays}

-- an input is for a handler of the component, with as many arguments as it has
abbrev pub IsGiven : Program → ComId → Call → Type 0
IsGiven program c (Gives handler args) = has_handler program c handler args ≡ true
IsGiven program c _ = ⊤

-- the step passes no limit of a number, nor that of the log, whatever its size is
abbrev pub IsWithin : Program → ComId → Pcom → Call → Type 0
IsWithin program c p call = (size : ℕ) × (is_full program c size p call ≡ false)

-- the replay takes the records that such a step adds
abbrev pub StepsReplay : Type 0
StepsReplay = (program : Program) (c : ComId) (sent received : List Packet) (p : Pcom) (call : Call) →
    IsPlayable program → IsGiven program c call → IsWithin program c p call → IsConsistent (received ++ got call) → is_replaying p ≡ false →
    PcomLogFacts program c p.log.forced (all_of p.log) sent received → VolatileFacts program c p received → Replays program c received p call
