-- What an event comes to at a world with its disks.
use Rattle.std.specs.Prelude.{◌≡◌, ◌⊎◌, ◌<◌, ℕ, ◌+◌, min, nat_lt, Bool, false, true, cond, List, [], length, Option, Some, option_map, slice_get, unwrap_or}
use Rattle.ic_base.specs.declared.limits.TheConstants.{PACKETS, SLOTS}
use Rattle.ic_base.specs.declared.messages.ComId.{ComId}
use Rattle.ic_base.specs.declared.events.Event.{Event}
use Rattle.ic_base.specs.declared.events.Trace.{Trace}
use Rattle.ic_base.specs.declared.events.What.{What}
use Rattle.ic_base.specs.declared.events.What.TheVariants as whats
use Rattle.ic_base.specs.declared.record.Record.{Record}
use Rattle.ic_base.specs.declared.refusals.Which.{Which}
use Rattle.ic_base.specs.declared.refusals.Which.TheVariants.{Receipts, Packets}
use Rattle.ic_base.specs.declared.refusals.WorldRefused.{WorldRefused}
use Rattle.ic_base.specs.declared.refusals.WorldRefused.TheVariants.{Limit, LogFull, Failed, Memory}
use Rattle.ic_base.specs.declared.scenario.Program.{Program}
use Rattle.def_log.specs.Directory.{slots_in}
use Rattle.def_log.specs.Images.{LeavesJust}
use Rattle.def_log.specs.Sizes.{size_in}
use Rattle.def_run.specs.CoreSteps.{CoreStep, forced_of, is_full_at, would_force}
use Rattle.def_run.specs.Refusals.{IsRefused, is_past_receipts}
use Rattle.def_run.specs.Reports.{played_by_all}
use Rattle.def_run.specs.SystemStates.{SystemState, file_of, is_com}
use Rattle.def_step.specs.Calls.{call_of, receives}
use Rattle.def_step.specs.World as definition
use Rattle.def_step.specs.World.{DiskOutcome, node_at}
use Rattle.ic_disk.specs.TornDisks.{Torn}
use Rattle.ic_disk.specs.declared.disk.Disk.{Ghosts}
use Rattle.ic_node.specs.DeviceCalls as device
use Rattle.ic_node.specs.Faults.{HasFault}
use Rattle.ic_node.specs.Meeting.{KeepsDisk, CrashAdds}
use Rattle.ic_node.specs.Views.{disk_of}
use Rattle.ic_node.specs.declared.component.Component.{Component}
use Rattle.ic_world.specs.Acting.{GREATEST}
use Rattle.ic_world.specs.Allowing.{IsMadeFor}
use Rattle.ic_world.specs.Tasks.{event_calls}
use Rattle.ic_world.specs.Views.{components_of, world_of, state_of, print_of, received_of, played_of, is_over, Tells}
use Rattle.ic_world.specs.declared.world.World.{World}

-- what a load of the log of c reads: the records that are forced
abbrev pub read_by : SystemState → ComId → DiskOutcome
read_by p c = record { found = forced_of (node_at p.world c); size = unwrap_or (size_in (file_of p c)) 0; free = nat_lt (length (slots_in (file_of p c))) SLOTS; left = []; is_open = false }

-- the records that the event would force at c without its stop
abbrev pub adds_at : Program → SystemState → What → ComId → List Record
adds_at program p what c = would_force program p.world what (read_by p c) c

-- the component that an event asks to do something; a loss asks none
abbrev pub asked_by : definition.World → What → Option ComId
asked_by w (whats.Recover c) = Some c
asked_by w (whats.Crash c) = Some c
asked_by w what = option_map (λ x. x.who) (call_of w what)

-- Whatever the disks tell, a count is passed: one more receipt than may be would be received; or the event, by which no receipt is too
-- much, puts out more packets than may be.
abbrev pub IsPastCount : Program → definition.World → ℕ → Event → Which → Type 0
IsPastCount program w received e Receipts = is_past_receipts program w received e.what ≡ true
IsPastCount program w received e Packets =
    (is_past_receipts program w received e.what ≡ false) × ((x : DiskOutcome) × (a : definition.After) × (definition.happens program w e x ≡ Some a) × (PACKETS < length a.world.packets))

module _ {D : Type 0} {d : Ghosts D} where
  -- The world and the trace are those of the definition, given what the disk decided; where the disks tell their bytes it is a core
  -- step. It received one thing more, if the step did, and goes on.
  pub record Steps (program : Program) (old : World D d) (e : Event) (new : World D d) (t : Trace) : Type 0 where
    pub outcome : DiskOutcome
    pub happens : definition.happens program (world_of old) e outcome ≡ Some (record { world = world_of new; trace = t })
    pub core : Tells old → CoreStep program (print_of old) (state_of old) e t (state_of new)
    pub received : received_of new ≡ received_of old + cond (receives program (world_of old) e.what) 1 0
    pub played : played_of new ≡ min (played_of old + played_by_all (world_of old).nodes (world_of new).nodes) GREATEST
    pub made : IsMadeFor program (world_of new)
    pub going : is_over new ≡ false

  -- It is the world of the same scenario and components. Their disks are kept, and those of components that the event doesn't ask stay.
  pub record KeepsDisks (old : World D d) (what : What) (new : World D d) : Type 0 where
    pub print : print_of new ≡ print_of old
    pub count : length (components_of new) ≡ length (components_of old)
    pub kept : (k : ℕ) (x y : Component D d) → slice_get (components_of old) k ≡ Some x → slice_get (components_of new) k ≡ Some y → KeepsDisk x y
    pub others : (c : ComId) → is_com c (asked_by (world_of old) what) ≡ false → option_map (λ x. disk_of x) (slice_get (components_of new) c.0) ≡ option_map (λ x. disk_of x) (slice_get (components_of old) c.0)

  -- At the disk of the component that it asks, the event makes just the device calls of its step where it is done and its stop isn't
  -- reached; else at most these, and those of one load behind its stop.
  abbrev pub MakesCalls : Program → World D d → Event → Bool → World D d → Type 0
  MakesCalls program old e ok new =
      (c : ComId) (x y : Component D d) → asked_by (world_of old) e.what ≡ Some c → slice_get (components_of old) c.0 ≡ Some x → slice_get (components_of new) c.0 ≡ Some y
      → device.MakesCalls (event_calls program (world_of old) e.what) e.stop ok x y

  -- A crash at each moment of the event leaves the forced records of each component, or these with all that the event forces there.
  abbrev pub CrashLeavesLogs : Program → World D d → What → World D d → Type 0
  CrashLeavesLogs program old what new =
      (c : ComId) (x y : Component D d) → slice_get (components_of old) c.0 ≡ Some x → slice_get (components_of new) c.0 ≡ Some y → CrashAdds (adds_at program (state_of old) what c) x y

  -- A crash leaves of each disk just what a read gives.
  abbrev pub CrashLeavesFiles : World D d → Type 0
  CrashLeavesFiles w = (k : ℕ) (x : Component D d) (disk : D) → slice_get (components_of w) k ≡ Some x → disk_of x ≡ Some disk → d.keeps disk → LeavesJust (d.may_leave disk) (d.seen disk)

  -- each disk reads as before, and a crash leaves just that
  abbrev pub StayAtRest : World D d → World D d → Type 0
  StayAtRest old new = (Tells old → (state_of new).files ≡ (state_of old).files) × CrashLeavesFiles new

  -- an event that one more receipt than may be, or a full log, refuses: nothing is done. Behind a want of memory too a crash leaves of each
  -- disk just what it reads.
  abbrev pub StayBy : World D d → World D d → WorldRefused → Type 0
  StayBy old new (Limit Receipts) = components_of new ≡ components_of old
  StayBy old new (LogFull c) = StayAtRest old new
  StayBy old new Memory = CrashLeavesFiles new
  StayBy old new why = Unit {0}

module _ {D : Type 0} (b : Ghosts D) {d : Ghosts (Torn D)} where
  -- the disk of the component that failed has failed
  abbrev pub IsFailed : World (Torn D) d → World (Torn D) d → WorldRefused → Type 0
  IsFailed old new (Failed c) =
      (x : Component (Torn D) d) × (y : Component (Torn D) d) × (slice_get (components_of old) c.0 ≡ Some x) × (slice_get (components_of new) c.0 ≡ Some y) × HasFault b x y
  IsFailed old new why = Unit {0}

  -- why the event isn't done; the world then ends
  pub record FailsToStep (program : Program) (old : World (Torn D) d) (e : Event) (new : World (Torn D) d) (why : WorldRefused) : Type 0 where
    pub why_refused : Tells old → IsRefused program (print_of old) (state_of old) (received_of old) e why
    pub count : (which : Which) → why ≡ Limit which → IsPastCount program (world_of old) (received_of old) e which
    pub failed : IsFailed old new why
    pub stay : StayBy old new why
    -- whatever refuses it: it would pass no limit of a log or of a number, or nothing is done
    pub rests : (Tells old → is_full_at program (state_of old) e.what ≡ false) ⊎ StayAtRest old new
    pub ends : is_over new ≡ true
