-- What a call comes to at a component that is up, whichever kind it is, over its disk.
use Rattle.std.specs.Prelude.{◌≡◌, ◌⊎◌, ℕ, ◌+◌, Bool, true, false, not, List, length, Option, Some, None, Result, Ok, Err, IfOk, IfErr, is_ok}
use Rattle.ic_base.specs.declared.events.Answer.{Answer}
use Rattle.ic_base.specs.declared.events.Answer.TheVariants as answers
use Rattle.ic_base.specs.declared.messages.ComId.{ComId}
use Rattle.ic_base.specs.declared.record.Record.{Record}
use Rattle.ic_base.specs.declared.refusals.WorldRefused.TheVariants as refused
use Rattle.ic_base.specs.declared.scenario.Program.{Program}
use Rattle.def_log.specs.Changes.{IsOfSame}
use Rattle.def_log.specs.Directory.{slots_in}
use Rattle.def_log.specs.Log.{log_of}
use Rattle.def_log.specs.Sizes.{size_in}
use Rattle.def_run.specs.CoreSteps.{forced_of}
use Rattle.def_run.specs.Refusals.{node_refusal}
use Rattle.def_run.specs.Reports.{played_by}
use Rattle.def_step.specs.Calls.{node_is_full}
use Rattle.def_step.specs.Pcom.{Call, Gets}
use Rattle.def_step.specs.World as world
use Rattle.def_step.specs.World.{Runs, Serves, Down, External, does}
use Rattle.ic_disk.specs.Causes.{Rose}
use Rattle.ic_disk.specs.Disk.{Keeps, CrashLeaves, Makes}
use Rattle.ic_disk.specs.Stops.{Script}
use Rattle.ic_disk.specs.TornDisks.{Torn, is_reached}
use Rattle.ic_disk.specs.declared.disk.Disk.{Ghosts}
use Rattle.ic_gate.specs.Calls.{gated_calls}
use Rattle.ic_gate.specs.RecordCalls.{record_writes}
use Rattle.ic_pcom.specs.Views as pcoms
use Rattle.ic_pcom.specs.declared.step.PacketRefused.{PacketRefused}
use Rattle.ic_pcom.specs.declared.step.PacketRefused.TheVariants as packet
use Rattle.ic_gate.specs.RecordFiles.{IsBeforeOrBehind, CanStand}
use Rattle.ic_tcom.specs.Views as tcoms
use Rattle.ic_node.specs.Calling.{done_with}
use Rattle.ic_node.specs.Loading.{Rests}
use Rattle.ic_node.specs.Meeting.{adds_in}
use Rattle.ic_node.specs.Nodes.{node_with}
use Rattle.ic_node.specs.Sittings.{AreWritable}
use Rattle.ic_node.specs.Standing.{com_in, is_begun}
use Rattle.ic_node.specs.declared.done.Done.{Done}
use Rattle.ic_node.specs.declared.node.Node.{Node}
use Rattle.ic_node.specs.declared.node.Node.TheVariants.{Per, Tra, Off, Ext}

-- the answer of a component that has nothing to do for a call: one that is down or outside, and a Tcom where no packet comes
abbrev pub idle_answer : world.Node → ℕ → Call → Option Answer
idle_answer (Runs p) number call = None
idle_answer (Serves t) number (Gets p) = None
idle_answer (Serves t) number call = Some answers.Idle
idle_answer (Down records) number call = Some (world.answer_down number call)
idle_answer External number call = Some answers.Idle

-- the component is as it was, and so is its file; a crash leaves just that
abbrev pub IsUnmoved : {D : Type 0} → Ghosts D → world.Node → D → world.Node → D → Type 0
IsUnmoved d before x after y = (after ≡ before) × (d.tells x → d.seen y ≡ d.seen x) × Rests d y

-- a step from this component over this disk
module _ {D : Type 0} (d : Ghosts D) (program : Program) (c : ComId) (before : world.Node) (x : D) (number : ℕ) (call : Call) where
  -- the step is that of the definition, and passes no limit of a log of this size or of a number
  pub record IsStep (size : ℕ) (after : world.Node) (y : D) (done : Done) : Type 0 where
    pub step : does program c before number call ≡ Some (done_with after done)
    pub room : node_is_full program c call size before ≡ false
    pub whose : d.tells x → IsOfSame (d.seen x) (d.seen y)
    pub reads : d.tells x → log_of (d.seen y) ≡ Ok (forced_of (Some after))
    pub played : done.played ≡ played_by before after

  -- why it isn't made, and what then stands
  abbrev pub FailsToStep : ℕ → world.Node → D → PacketRefused → Type 0
  FailsToStep size after y packet.Full = (node_is_full program c call size before ≡ true) × IsUnmoved d before x after y
  FailsToStep size after y packet.Memory = Rests d y
  FailsToStep size after y packet.Failed = Rose (d.faults x) (d.faults y)
  FailsToStep size after y packet.Stopped = d.stopped y × (node_is_full program c call size before ≡ false) × CanStand size (adds_in before (does program c before number call))
  FailsToStep size after y (packet.Bad place) = d.tells x → node_refusal program c (d.seen x) call before ≡ Some (refused.Bad c place)

  -- It is made or refused. Its device calls are those of one force of what it adds, behind a log of this size with so many open slots; a
  -- crash leaves the records before it, or these and all that it adds. Where it is refused it would pass no limit, or nothing is done.
  pub record StepsOver (after : world.Node) (y : D) (result : Result Done PacketRefused) : Type 0 where
    pub size : ℕ
    pub used : ℕ
    pub sized : d.tells x → size_in (d.seen x) ≡ Some size
    pub listed : d.tells x → used ≡ length (slots_in (d.seen x))
    pub disk : Keeps d x y
    pub crash : CrashLeaves d x y (IsBeforeOrBehind (d.seen x) (forced_of (Some before)) (adds_in before (does program c before number call)))
    pub calls : Makes d (gated_calls (record_writes size used (adds_in before (does program c before number call)))) (is_ok result) (result ≡ Err packet.Failed) x y
    pub step : IfOk result (IsStep size after y)
    pub refused : IfErr result (FailsToStep size after y)
    pub rests : IfErr result (λ why. (node_is_full program c call size before ≡ false) ⊎ IsUnmoved d before x after y)

-- the file holds the forced records
abbrev pub HasForced : {D : Type 0} → Ghosts D → world.Node → D → Type 0
HasForced d before x = d.tells x → log_of (d.seen x) ≡ Ok (forced_of (Some before))

-- the same of a disk that may be missing
abbrev pub StepsOn : {D : Type 0} → Ghosts D → Program → ComId → world.Node → Option D → ℕ → Call → world.Node → Option D → Result Done PacketRefused → Type 0
StepsOn d program c before (Some x) number call after (Some y) result = StepsOver d program c before x number call after y result
StepsOn d program c before None number call after y result = ⊥
StepsOn d program c before (Some x) number call after None result = ⊥

-- one step is counted for each record that is played, and none where the disk stands stopped
abbrev pub Counts : ℕ → ℕ → world.Node → world.Node → Result Done PacketRefused → Type 0
Counts old new before after (Ok done) = new ≡ old + played_by before after
Counts old new before after (Err packet.Stopped) = new ≡ old
Counts old new before after (Err _) = Unit {0}

module _ {D : Type 0} {d : Ghosts D} where
  -- it is up, and isn't closed
  abbrev pub is_live : Node D d → Bool
  is_live (Per p) = not (pcoms.is_closed p)
  is_live (Tra t) = not (tcoms.is_closed t)
  is_live (Off disk) = false
  is_live Ext = false

  -- it is the same component, and goes on
  pub record StaysLive (old new : Node D d) : Type 0 where
    pub live : is_live new ≡ true
    pub which : (c : ComId) → com_in c new ≡ com_in c old
    pub begun : (kept : List Record) → is_begun kept old ≡ true → is_begun kept new ≡ true
    pub fit : ∥ AreWritable new ∥₁

  -- it is as it was but for the stop of its disk
  pub record IsSameNode (old new : Node D d) : Type 0 where
    pub same : (kept : List Record) → node_with kept new ≡ node_with kept old
    pub which : (c : ComId) → com_in c new ≡ com_in c old
    pub live : is_live new ≡ is_live old
    pub begun : (kept : List Record) → is_begun kept new ≡ is_begun kept old
    pub fit : AreWritable old → AreWritable new

-- what stands on its disk, if there is one, are its forced records
abbrev pub HoldsForced : {D : Type 0} → Ghosts D → world.Node → Option D → Type 0
HoldsForced d before None = Unit {0}
HoldsForced d before (Some x) = HasForced d before x

-- the disk with this stop, if there is one
abbrev pub with_script : {D : Type 0} → Option Script → Option (Torn D) → Option (Torn D)
with_script script None = None
with_script script (Some x) = Some (record x { script = script })

-- its stop was reached
abbrev pub reached_on : {D : Type 0} → Option (Torn D) → Bool
reached_on None = false
reached_on (Some x) = is_reached x.script
