-- What a call comes to at a Pcom over its log.
use Rattle.std.specs.Prelude.{◌≡◌, ℕ, ◌+◌, ◌-◌, Bool, true, false, ◌&&◌, cond, List, [], length, drop, Option, Some, None, Ok, option_map, ℤ}
use Rattle.ic_base.specs.declared.messages.ComId.{ComId}
use Rattle.ic_base.specs.declared.messages.Packet.{Packet}
use Rattle.ic_base.specs.declared.messages.Packet.TheVariants.{Data}
use Rattle.ic_base.specs.declared.record.Record.{Record}
use Rattle.ic_base.specs.declared.scenario.Program.{Program}
use Rattle.def_log.specs.Changes.{IsOfSame, gate_from}
use Rattle.def_log.specs.Directory.{slots_in}
use Rattle.def_log.specs.Sizes.{size_in}
use Rattle.def_run.specs.Refusals.{place_of}
use Rattle.def_step.specs.Packets.{fits_pcom}
use Rattle.def_step.specs.Pcom as step
use Rattle.def_step.specs.Pcom.{Call, Gives, StepResult, pcom_step, is_full, is_replaying, in_hand, misses_input, is_needed, all_of}
use Rattle.def_step.specs.Replay.{misfit_fed}
use Rattle.ic_disk.specs.Causes.{Rose}
use Rattle.ic_disk.specs.Disk.{Keeps}
use Rattle.ic_disk.specs.Stops.{DeviceCall}
use Rattle.ic_disk.specs.declared.disk.Disk.{Ghosts}
use Rattle.ic_gate.specs.Calls.{gated_calls}
use Rattle.ic_gate.specs.declared.refusals.StepRefused.{StepRefused}
use Rattle.ic_gate.specs.declared.refusals.StepRefused.TheVariants.{Failed, Stopped, Full, Memory}
use Rattle.ic_gate.specs.RecordCalls.{size_with, record_writes}
use Rattle.ic_gate.specs.RecordFiles.{placed_from, records_from, ReadsOn, IsBeforeOrBehindFrom, CanStand}
use Rattle.ic_pcom.specs.Logs.{placed_or_none}
use Rattle.ic_pcom.specs.Views.{component_of, com_of, disk_of, start_of, size_of, used_of, is_closed, played_of, told_of, told_nothing}
use Rattle.ic_pcom.specs.declared.pcom.Pcom.{Pcom}
use Rattle.ic_pcom.specs.declared.step.InputAnswer.{InputAnswer}
use Rattle.ic_pcom.specs.declared.step.InputAnswer.TheVariants.{Taken, NotTaken}
use Rattle.ic_pcom.specs.declared.step.Reason.TheVariants.{Replaying, InTransaction}
use Rattle.ic_pcom.specs.declared.step.Step.{Step}
use Rattle.ic_pcom.specs.declared.step.PacketRefused.{PacketRefused}
use Rattle.ic_pcom.specs.declared.step.PacketRefused.TheVariants as packet

-- the records that a step forces; none where a replay meets a misfit
abbrev pub forced_by : step.Pcom → Option StepResult → List Record
forced_by p None = []
forced_by p (Some t) = drop (length p.log.forced) t.pcom.log.forced

-- The place in the file of the misfit that a replay meets when it is fed over the records from a gate on; None where it meets none, or the
-- packet isn't the one that it waits for.
abbrev pub fed_place : Program → ComId → ℕ → List ℕ → step.Pcom → Packet → Option ℕ
fed_place program c start file p (Data m) =
    cond (fits_pcom program c (Data m) && is_needed p.rest m)
    (option_map (λ i. place_of (placed_or_none (placed_from start file)) (length (all_of p.log) - length p.rest + i)) (misfit_fed program c p.vol m p.rest))
    None
fed_place program c start file p _ = None

-- the same refusal, of a packet's step
abbrev pub packet_refusal : StepRefused → PacketRefused
packet_refusal Failed = packet.Failed
packet_refusal Stopped = packet.Stopped
packet_refusal Full = packet.Full
packet_refusal Memory = packet.Memory

module _ {D : Type 0} {d : Ghosts D} where
  -- the step that the definition makes of a call
  abbrev pub step_of : Program → Pcom D d → Call → Option StepResult
  step_of program p call = pcom_step program (com_of p) (component_of p) call

  -- the records that it forces
  abbrev pub batch_of : Program → Pcom D d → Call → List Record
  batch_of program p call = forced_by (component_of p) (step_of program p call)

  -- the device calls of the step: those of one force of these records, if there are any, and of a mark of a checkpoint
  abbrev pub calls_of : Program → Pcom D d → Call → List DeviceCall
  calls_of program p call = gated_calls (record_writes (size_of p) (used_of p) (batch_of program p call))

  -- the step would pass the limit of the log or of a number
  abbrev pub IsFull : Program → Pcom D d → Call → Bool → Type 0
  IsFull program p call is = is_full program (com_of p) (size_of p) (component_of p) call ≡ is

  -- the component and what is told are those of the step of the definition, and what that forces is forced
  pub record Does (program : Program) (old : Pcom D d) (call : Call) (new : Pcom D d) (told : Step) : Type 0 where
    pub result : StepResult
    pub step : step_of program old call ≡ Some result
    pub leads : component_of new ≡ result.pcom
    pub tells : told ≡ told_of result
    pub room : IsFull program old call false
    pub size : size_of new ≡ size_with (size_of old) (batch_of program old call)
    pub played : played_of new + length (component_of new).rest ≡ played_of old + length (component_of old).rest
    pub is_open : is_closed new ≡ false

  -- an input is taken, or missed for this reason
  abbrev pub Answers : Program → Pcom D d → ℕ → List ℤ → Pcom D d → InputAnswer → Type 0
  Answers program old handler args new (Taken told) = (misses_input (component_of old) ≡ false) × Does program old (Gives handler args) new told
  Answers program old handler args new (NotTaken Replaying) = (is_replaying (component_of old) ≡ true) × Does program old (Gives handler args) new told_nothing
  Answers program old handler args new (NotTaken InTransaction) =
      (is_replaying (component_of old) ≡ false) × (in_hand (component_of old) ≡ true) × Does program old (Gives handler args) new told_nothing

  -- It is the same component over the log from the same gate on, and its disk is kept. The old log has its closed gate, its directory and
  -- the forced records in the file; where the whole file has a size, it is the log's. While it is open the file is that of the same
  -- component, and the records that are then forced stand in place of those that were; where these are no more, it is as it was.
  pub record KeepsLog (old new : Pcom D d) : Type 0 where
    pub same : com_of new ≡ com_of old
    pub start : start_of new ≡ start_of old
    pub disk : Keeps d (disk_of old) (disk_of new)
    pub sized : d.tells (disk_of old) → option_map (λ gate. gate + 1) (gate_from (start_of old) (d.seen (disk_of old))) ≡ Some (size_of old)
    pub of_file : d.tells (disk_of old) → (size : ℕ) → size_in (d.seen (disk_of old)) ≡ Some size → size ≡ size_of old
    pub listed : d.tells (disk_of old) → used_of old ≡ length (slots_in (d.seen (disk_of old)))
    pub stood : d.tells (disk_of old) → records_from (start_of old) (d.seen (disk_of old)) ≡ Ok (component_of old).log.forced
    pub log : d.tells (disk_of old) → is_closed new ≡ false → ReadsOn (start_of old) (d.seen (disk_of old)) (component_of old).log.forced (d.seen (disk_of new)) (component_of new).log.forced
    pub whose : d.tells (disk_of old) → is_closed new ≡ false → IsOfSame (d.seen (disk_of old)) (d.seen (disk_of new))
    pub still : d.tells (disk_of old) → is_closed new ≡ false → (component_of new).log.forced ≡ (component_of old).log.forced → d.seen (disk_of new) ≡ d.seen (disk_of old)

  -- the Pcom is as it was, and so is its file
  pub record IsUnmoved (old new : Pcom D d) : Type 0 where
    pub same : component_of new ≡ component_of old
    pub size : size_of new ≡ size_of old
    pub played : played_of new ≡ played_of old
    pub bytes : d.tells (disk_of old) → d.seen (disk_of new) ≡ d.seen (disk_of old)
    pub is_open : is_closed new ≡ false

  -- why a step isn't done, and what then stands
  abbrev pub FailsToStep : Program → Pcom D d → Call → Pcom D d → StepRefused → Type 0
  FailsToStep program old call new Failed = (is_closed new ≡ true) × Rose (d.faults (disk_of old)) (d.faults (disk_of new)) × IsFull program old call false
  FailsToStep program old call new Stopped = (is_closed new ≡ true) × d.stopped (disk_of new) × IsFull program old call false × CanStand (size_of old) (batch_of program old call)
  FailsToStep program old call new Full = IsUnmoved old new × IsFull program old call true
  FailsToStep program old call new Memory = IsUnmoved old new

  -- a replay meets a misfit at this place of its file, which stays as it is
  pub record MeetsMisfit (program : Program) (old : Pcom D d) (p : Packet) (place : ℕ) (new : Pcom D d) : Type 0 where
    pub none : step_of program old (step.Gets p) ≡ None
    pub place_in : d.tells (disk_of old) → fed_place program (com_of old) (start_of old) (d.seen (disk_of old)) (component_of old) p ≡ Some place
    pub bytes : d.tells (disk_of old) → d.seen (disk_of new) ≡ d.seen (disk_of old)
    pub closes : is_closed new ≡ true

  -- why a packet's step isn't done, and what then stands
  abbrev pub FailsToGet : Program → Pcom D d → Packet → Pcom D d → PacketRefused → Type 0
  FailsToGet program old p new packet.Failed = FailsToStep program old (step.Gets p) new Failed
  FailsToGet program old p new packet.Stopped = FailsToStep program old (step.Gets p) new Stopped
  FailsToGet program old p new packet.Full = FailsToStep program old (step.Gets p) new Full
  FailsToGet program old p new packet.Memory = FailsToStep program old (step.Gets p) new Memory
  FailsToGet program old p new (packet.Bad place) = MeetsMisfit program old p place new

  -- the log holds the old records, or these and the batch of the step
  abbrev pub IsBeforeOrStepped : Program → Pcom D d → Call → List ℕ → Type 0
  IsBeforeOrStepped program p call image = IsBeforeOrBehindFrom (start_of p) (d.seen (disk_of p)) (component_of p).log.forced (batch_of program p call) image
