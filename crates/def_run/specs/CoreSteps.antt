-- The core step: what one event makes of a world and of what its disks read.
use Rattle.std.specs.Prelude.{◌≡◌, ℕ, ◌-◌, Bool, true, false, List, [], Option, Some, None, Ok, drop, length, nat_lt}
use Rattle.ic_base.specs.declared.limits.TheConstants.{SLOTS}
use Rattle.ic_base.specs.declared.messages.ComId.{ComId}
use Rattle.ic_base.specs.declared.events.Answer.{Answer}
use Rattle.ic_base.specs.declared.events.Answer.TheVariants as answers
use Rattle.ic_base.specs.declared.events.Fate.{Fate}
use Rattle.ic_base.specs.declared.events.Fate.TheVariants as fates
use Rattle.ic_base.specs.declared.events.Event.{Event}
use Rattle.ic_base.specs.declared.events.What.{What}
use Rattle.ic_base.specs.declared.events.Stop.{Stop}
use Rattle.ic_base.specs.declared.events.Trace.{Trace}
use Rattle.ic_base.specs.declared.scenario.Program.{Program}
use Rattle.ic_base.specs.declared.record.Record.{Record}
use Rattle.def_log.specs.Directory.{slots_in}
use Rattle.def_log.specs.Log.{log_of}
use Rattle.def_log.specs.Sizes.{size_in}
use Rattle.def_log.specs.Gated.{log_writes}
use Rattle.def_log.specs.Stops.{stop_torn, is_open_at}
use Rattle.def_step.specs.World.{World, Node, Runs, Serves, Down, External, DiskOutcome, node_at, happens, load_calls}
use Rattle.def_step.specs.Calls.{Called, call_of, node_is_full}
use Rattle.def_run.specs.SystemStates.{SystemState, file_of, KeepsLogs, is_of, without_stop}

-- a stop cut off the step that was answered so
abbrev pub is_stopped_fate : Fate → Bool
is_stopped_fate fates.Stopped = true
is_stopped_fate _ = false

abbrev pub is_stopped : Answer → Bool
is_stopped answers.Kept = true
is_stopped answers.Lost = true
is_stopped answers.Stopped = true
is_stopped (answers.Packet number packet fate) = is_stopped_fate fate
is_stopped _ = false

-- the records that a component has on its disk
abbrev pub forced_of : Option Node → List Record
forced_of None = []
forced_of (Some (Runs p)) = p.log.forced
forced_of (Some (Serves t)) = t.records
forced_of (Some (Down records)) = records
forced_of (Some External) = []

-- the device calls of the load that comes first in a step of this component
abbrev pub loads_first : Program → ComId → Option Node → ℕ
loads_first program c (Some (Down records)) = load_calls program c
loads_first program c _ = 0

-- the records that the event would force at c without its stop
abbrev pub would_force : Program → World → What → DiskOutcome → ComId → List Record
would_force program w what x c = elim (happens program w (without_stop what) x) [
  | None ↦ []
  | Some a ↦ drop (length (forced_of (node_at w c))) (forced_of (node_at a.world c))
]

-- the step of this event would pass the limit of its component's log or of a number
abbrev pub is_call_full : Program → SystemState → Called → Bool
is_call_full program p x = elim (node_at p.world x.who) [
  | None ↦ false
  | Some node ↦ elim (size_in (file_of p x.who)) [ None ↦ false | Some size ↦ node_is_full program x.who x.call size node ]
]

abbrev pub is_full_at : Program → SystemState → What → Bool
is_full_at program p what = elim (call_of p.world what) [ None ↦ false | Some x ↦ is_call_full program p x ]

-- What a reached stop leaves: of the file, whose closed gate stood at `gate`, the torn image. It reads as some records, and the
-- gate's byte says whether the step's batch is one of them.
pub record IsTornAt (x : DiskOutcome) (stop : Stop) (loads gate : ℕ) (added : List Record) (old new : List ℕ) : Type 0 where
  pub image : new ≡ stop_torn stop loads old (log_writes old gate added)
  pub left : log_of new ≡ Ok x.left
  pub gate_byte : x.is_open ≡ is_open_at new gate

abbrev pub IsTornBy : Program → DiskOutcome → SystemState → Event → ComId → SystemState → Option Stop → Type 0
IsTornBy program x p e c q None = ⊥
IsTornBy program x p e c q (Some stop) =
    IsTornAt x stop (loads_first program c (node_at p.world c)) (x.size - 1) (would_force program p.world e.what x c) (file_of p c) (file_of q c)

-- What the disk of the event's component reads decides what a load reads and what a stop leaves. A step that forces nothing leaves it.
pub record MeetsDisk (program : Program) (x : DiskOutcome) (p : SystemState) (e : Event) (t : Trace) (c : ComId) (q : SystemState) : Type 0 where
  pub found : log_of (file_of p c) ≡ Ok x.found
  pub size : size_in (file_of p c) ≡ Some x.size
  pub free : x.free ≡ nat_lt (length (slots_in (file_of p c))) SLOTS
  pub torn : is_stopped t.answer ≡ true → IsTornBy program x p e c q e.stop
  pub same : is_stopped t.answer ≡ false → forced_of (node_at q.world c) ≡ forced_of (node_at p.world c) → file_of q c ≡ file_of p c

-- An event leads from one state to another, with this trace: the step of the definitions, which passes no limit of a log. The disks of
-- other components stay, and each disk holds what its component has forced.
pub record CoreStep (program : Program) (fingerprint : List ℕ) (p : SystemState) (e : Event) (t : Trace) (q : SystemState) : Type 0 where
  pub outcome : DiskOutcome
  pub happens : happens program p.world e outcome ≡ Some (record { world = q.world; trace = t })
  pub fits : is_full_at program p e.what ≡ false
  pub disk : (c : ComId) → is_of e t c ≡ true → MeetsDisk program outcome p e t c q
  pub others : (c : ComId) → is_of e t c ≡ false → file_of q c ≡ file_of p c
  pub logs : KeepsLogs fingerprint q
