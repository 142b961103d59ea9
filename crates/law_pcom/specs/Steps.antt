-- The whole law: a step of a Pcom keeps its local facts, and a recovery gives them.
use Rattle.std.specs.Prelude.{◌≡◌, List, ◌++◌, Some}
use Rattle.ic_base.specs.declared.messages.ComId.{ComId}
use Rattle.ic_base.specs.declared.messages.Packet.{Packet}
use Rattle.ic_base.specs.declared.scenario.Program.{Program}
use Rattle.ic_base.specs.declared.record.Record.{Record}
use Rattle.def_step.specs.Pcom.{Pcom, Call, StepResult, all_of, pcom_step, recover_pcom}
use Rattle.def_facts.specs.Logs.{IsConsistent}
use Rattle.def_facts.specs.Pcom.{PcomLogFacts, VolatileFacts}
use Rattle.def_facts.specs.Playable.{IsPlayable}
use Rattle.law_pcom.specs.Pending.{PartsStay}
use Rattle.law_pcom.specs.Recovering.{ImagesRead}
use Rattle.law_pcom.specs.Stepping.{got, IsFor, StepKept}
use Rattle.law_pcom.specs.Within.{IsGiven, IsWithin}

-- any call that passes no limit, of a Pcom that replays or doesn't
abbrev pub PcomStepsKeep : Type 0
PcomStepsKeep = (program : Program) (c : ComId) (sent received : List Packet) (p : Pcom) (call : Call) (t : StepResult) →
    IsPlayable program → PartsStay program → IsGiven program c call → IsWithin program c p call → IsFor c call → IsConsistent (received ++ got call) →
    PcomLogFacts program c p.log.forced (all_of p.log) sent received → VolatileFacts program c p received → pcom_step program c p call ≡ Some t → StepKept program c sent (received ++ got call) t

-- what comes up over forced records whose images are read back
abbrev pub PcomsRecover : Type 0
PcomsRecover = (program : Program) (c : ComId) (sent received : List Packet) (records : List Record) (t : StepResult) →
    ImagesRead program c received records → PcomLogFacts program c records records sent received → recover_pcom program c records ≡ Some t → StepKept program c sent received t
