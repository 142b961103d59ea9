-- How a call ends at a component whose disk has a stop set.
use Rattle.std.specs.Prelude.{◌≡◌, ◌⊎◌, ℕ, ◌+◌, ◌-◌, ◌<◌, nat_lt, length, Bool, true, false, Option, Some, Result, Ok, Err}
use Rattle.ic_base.specs.declared.events.Stop.{Stop}
use Rattle.ic_base.specs.declared.limits.TheConstants.{SLOTS}
use Rattle.ic_base.specs.declared.messages.ComId.{ComId}
use Rattle.ic_base.specs.declared.scenario.Program.{Program}
use Rattle.ic_base.specs.declared.refusals.WorldRefused.TheVariants as refused
use Rattle.def_log.specs.Changes.{IsOfSame}
use Rattle.def_log.specs.Directory.{slots_in}
use Rattle.def_log.specs.Sizes.{size_in}
use Rattle.def_log.specs.Gated.{log_writes}
use Rattle.def_log.specs.Stops.{stop_torn}
use Rattle.def_run.specs.CoreSteps.{forced_of}
use Rattle.def_run.specs.Refusals.{node_refusal}
use Rattle.def_run.specs.Reports.{played_by}
use Rattle.def_step.specs.Calls.{node_is_full}
use Rattle.def_step.specs.Pcom as step
use Rattle.def_step.specs.World as world
use Rattle.def_step.specs.World.{Node, does, device_calls, is_reached}
use Rattle.ic_disk.specs.Causes.{Rose}
use Rattle.ic_disk.specs.TornDisks.{Torn}
use Rattle.ic_disk.specs.declared.disk.Disk.{Ghosts}
use Rattle.ic_pcom.specs.declared.step.PacketRefused.{PacketRefused}
use Rattle.ic_pcom.specs.declared.step.PacketRefused.TheVariants as packet
use Rattle.ic_gate.specs.RecordFiles.{CanStand}
use Rattle.ic_node.specs.Calling.{done_with}
use Rattle.ic_node.specs.Loading.{Rests}
use Rattle.ic_node.specs.Meeting.{adds_in}
use Rattle.ic_node.specs.Steps.{IsUnmoved}
use Rattle.ic_disk.specs.Torns.{file, torn, is_working}
use Rattle.ic_node.specs.declared.done.Done.{Done}
use Rattle.ic_node.specs.declared.done.Ended.{Ended}
use Rattle.ic_node.specs.declared.done.Ended.TheVariants as ended
use Rattle.ic_node.specs.declared.done.NodeRefused.{NodeRefused}
use Rattle.ic_node.specs.declared.done.NodeRefused.TheVariants.{Full, Bad, Foreign, Failed, Memory}

module _ {D : Type 0} (b : Ghosts D) where
  -- the step would pass the limit of the log or of a number, or not
  abbrev pub IsFullAt : Program → ComId → Node → Torn D → step.Call → Bool → Type 0
  IsFullAt program c before old call is = b.tells old.inner → (size : ℕ) → size_in (file b old) ≡ Some size → node_is_full program c call size before ≡ is

  -- a slot of the log's directory is free, or not
  abbrev pub HasFree : Torn D → Bool → Type 0
  HasFree old free = b.tells old.inner → free ≡ nat_lt (length (slots_in (file b old))) SLOTS

  -- the call is done, and its stop isn't reached
  pub record IsDone (program : Program) (c : ComId) (before : Node) (old : Torn D) (stop : Option Stop) (number : ℕ) (call : step.Call) (after : Node) (new : Torn D) (done : Done) : Type 0 where
    pub free : Bool
    pub listed : HasFree old free
    pub step : does program c before number call ≡ Some (done_with after done)
    pub unreached : is_reached stop (device_calls free before after) ≡ false
    pub room : IsFullAt program c before old call false
    pub same : b.tells old.inner → forced_of (Some after) ≡ forced_of (Some before) → file b new ≡ file b old
    pub whose : b.tells old.inner → IsOfSame (file b old) (file b new)
    pub played : done.played ≡ played_by before after
    pub works : is_working (torn b) new ≡ true

  -- its stop cut it off, and left its image
  pub record IsCut (program : Program) (c : ComId) (before : Node) (old : Torn D) (stop : Option Stop) (number : ℕ) (call : step.Call) (new : Torn D) : Type 0 where
    pub free : Bool
    pub listed : HasFree old free
    pub would : world.Done
    pub step : does program c before number call ≡ Some would
    pub at : Stop
    pub is_stop : stop ≡ Some at
    pub reached : is_reached stop (device_calls free before would.node) ≡ true
    pub room : IsFullAt program c before old call false
    pub some : 0 < length (adds_in before (Some would))
    pub stands : b.tells old.inner → (size : ℕ) → size_in (file b old) ≡ Some size → CanStand size (adds_in before (Some would))
    pub image : b.tells old.inner → (size : ℕ) → size_in (file b old) ≡ Some size → file b new ≡ stop_torn at 0 (file b old) (log_writes (file b old) (size - 1) (adds_in before (Some would)))
    pub halted : (new.stopped ≡ true) ⊎ b.stopped new.inner

  -- why it is neither
  abbrev pub FailsBy : Program → ComId → Node → Torn D → step.Call → Node → Torn D → NodeRefused → Type 0
  FailsBy program c before old call after new Full = IsFullAt program c before old call true × IsUnmoved (torn b) before old after new
  FailsBy program c before old call after new (Bad place) = b.tells old.inner → node_refusal program c (file b old) call before ≡ Some (refused.Bad c place)
  FailsBy program c before old call after new (Foreign kept) = ⊥
  FailsBy program c before old call after new Failed = Rose (b.faults old.inner) (b.faults new.inner) ⊎ b.stopped new.inner
  FailsBy program c before old call after new Memory = Rests (torn b) new

  -- it would pass no limit, or nothing is done
  abbrev pub FitsOrRests : Program → ComId → Node → Torn D → step.Call → Node → Torn D → Type 0
  FitsOrRests program c before old call after new = IsFullAt program c before old call false ⊎ IsUnmoved (torn b) before old after new

-- one step is counted for each record that is played, and none where the stop cut the call off
abbrev pub CountsPlayed : ℕ → ℕ → Node → Node → Ended → Type 0
CountsPlayed old new before after (ended.Done done) = new ≡ old + played_by before after
CountsPlayed old new before after ended.Cut = new ≡ old

-- what a refused step comes to: nothing where a stop cut it off, else a refusal
abbrev pub refusal_of : PacketRefused → Bool → Result Ended NodeRefused
refusal_of packet.Full reached = Err Full
refusal_of packet.Memory reached = Err Memory
refusal_of packet.Failed reached = Err Failed
refusal_of (packet.Bad place) reached = Err (Bad place)
refusal_of packet.Stopped true = Ok ended.Cut
refusal_of packet.Stopped false = Err Failed
