-- What a call comes to at a Pcom, whichever it is.
use Rattle.std.specs.Prelude.{◌≡◌, ℕ, ◌+◌, Result, Ok, Err, IfOk, IfErr, is_ok, length}
use Rattle.ic_base.specs.declared.scenario.Program.{Program}
use Rattle.def_step.specs.Pcom.{Call, Gets}
use Rattle.ic_disk.specs.Disk.{CrashLeaves, Makes}
use Rattle.ic_disk.specs.declared.disk.Disk.{Ghosts}
use Rattle.ic_gate.specs.declared.refusals.StepRefused.{StepRefused}
use Rattle.ic_gate.specs.declared.refusals.StepRefused.TheVariants as step
use Rattle.ic_pcom.specs.Stepping.{calls_of, Does, KeepsLog, IsBeforeOrStepped, FailsToStep, MeetsMisfit, packet_refusal}
use Rattle.ic_pcom.specs.Views.{component_of, disk_of, told_nothing}
use Rattle.ic_pcom.specs.declared.step.InputAnswer.{InputAnswer}
use Rattle.ic_pcom.specs.declared.step.InputAnswer.TheVariants.{Taken, NotTaken}
use Rattle.ic_pcom.specs.declared.pcom.Pcom.{Pcom}
use Rattle.ic_pcom.specs.declared.step.PacketRefused.{PacketRefused}
use Rattle.ic_pcom.specs.declared.step.PacketRefused.TheVariants as packet
use Rattle.ic_pcom.specs.declared.step.Step.{Step}

-- a step that is made or refused, as one of a packet
abbrev pub as_packets : Result Step StepRefused → Result Step PacketRefused
as_packets (Ok told) = Ok told
as_packets (Err why) = Err (packet_refusal why)

-- what is told of an input
abbrev pub as_step : Result InputAnswer StepRefused → Result Step StepRefused
as_step (Ok (Taken told)) = Ok told
as_step (Ok (NotTaken why)) = Ok told_nothing
as_step (Err why) = Err why

-- what is told of a step that wants memory alone
abbrev pub or_memory : {E : Type 0} → Result Step E → Result Step StepRefused
or_memory (Ok told) = Ok told
or_memory (Err e) = Err step.Memory

module _ {D : Type 0} {d : Ghosts D} where
  -- a packet alone feeds a replay, which may meet a misfit
  abbrev pub MeetsBad : Program → Pcom D d → Call → ℕ → Pcom D d → Type 0
  MeetsBad program old (Gets p) place new = MeetsMisfit program old p place new
  MeetsBad program old _ place new = ⊥

  -- why a call isn't made, and what then stands
  abbrev pub FailsToCall : Program → Pcom D d → Call → Pcom D d → PacketRefused → Type 0
  FailsToCall program old call new packet.Failed = FailsToStep program old call new step.Failed
  FailsToCall program old call new packet.Stopped = FailsToStep program old call new step.Stopped
  FailsToCall program old call new packet.Full = FailsToStep program old call new step.Full
  FailsToCall program old call new packet.Memory = FailsToStep program old call new step.Memory
  FailsToCall program old call new (packet.Bad place) = MeetsBad program old call place new

  -- the call is made or refused, and so many steps are counted
  pub record IsMade (program : Program) (old : Pcom D d) (call : Call) (new : Pcom D d) (before after : ℕ) (result : Result Step PacketRefused) : Type 0 where
    pub step : IfOk result (Does program old call new)
    pub log : KeepsLog old new
    pub crash : CrashLeaves d (disk_of old) (disk_of new) (IsBeforeOrStepped program old call)
    pub calls : Makes d (calls_of program old call) (is_ok result) (result ≡ Err packet.Failed) (disk_of old) (disk_of new)
    pub refused : IfErr result (FailsToCall program old call new)
    pub steps : IfOk result (λ told. after + length (component_of new).rest ≡ before + length (component_of old).rest)
    pub stopped : result ≡ Err packet.Stopped → after ≡ before
