-- What a stop leaves of a component, and how it lies down then.
use Rattle.std.specs.Prelude.{◌≡◌, ◌⊎◌, ◌<◌, nat_lt, ℕ, ◌-◌, Bool, true, false, List, length, Option, Some, None, Ok, Err}
use Rattle.ic_base.specs.declared.events.Stop.{Stop}
use Rattle.ic_base.specs.declared.limits.TheConstants.{SLOTS}
use Rattle.ic_base.specs.declared.scenario.Program.{Program}
use Rattle.def_log.specs.Directory.{slots_in}
use Rattle.def_log.specs.Frame.{fingerprint_in, owner_in, IsForeign}
use Rattle.def_log.specs.Loads.{placed_log_for}
use Rattle.def_log.specs.Log.{log_of}
use Rattle.def_log.specs.Sizes.{size_in}
use Rattle.def_log.specs.Gated.{log_writes}
use Rattle.def_log.specs.Stops.{stop_torn}
use Rattle.def_run.specs.CoreSteps.{loads_first}
use Rattle.def_step.specs.World as world
use Rattle.def_step.specs.World.{Down, does, device_calls, is_reached}
use Rattle.ic_disk.specs.TornDisks.{Torn}
use Rattle.ic_disk.specs.declared.disk.Disk.{Ghosts}
use Rattle.ic_gate.specs.RecordFiles.{CanStand}
use Rattle.ic_node.specs.Calling.{call_of}
use Rattle.ic_node.specs.Doing.{IsFull, Does}
use Rattle.ic_node.specs.Faults.{has_fault}
use Rattle.ic_node.specs.Meeting.{adds_in, rests_on}
use Rattle.ic_node.specs.Views.{node_of, disk_of, file_of, com_of, is_over, Tells}
use Rattle.ic_node.specs.declared.component.Component.{Component}
use Rattle.ic_node.specs.declared.done.Call.{Call}
use Rattle.ic_node.specs.declared.done.Ended.{Ended}
use Rattle.ic_node.specs.declared.done.Ended.TheVariants as ended
use Rattle.ic_node.specs.declared.done.NodeRefused.{NodeRefused}
use Rattle.ic_node.specs.declared.done.NodeRefused.TheVariants.{Full, Bad, Foreign, Failed, Memory}

module _ {D : Type 0} (b : Ghosts D) where
  -- the disk stands stopped
  abbrev pub is_halted : Option (Torn D) → Type 0
  is_halted None = ⊥
  is_halted (Some x) = (x.stopped ≡ true) ⊎ b.stopped x.inner

  module _ {d : Ghosts (Torn D)} where
    -- the call's stop cut it off, and left its image
    pub record IsCutOff (program : Program) (old : Component (Torn D) d) (stop : Option Stop) (number : ℕ) (call : Call) (mid : Component (Torn D) d) : Type 0 where
      pub free : Bool
      pub listed : Tells old → free ≡ nat_lt (length (slots_in (file_of old))) SLOTS
      pub would : world.Done
      pub step : does program (com_of old) (node_of old) number (call_of call) ≡ Some would
      pub at : Stop
      pub is_stop : stop ≡ Some at
      pub reached : is_reached stop (device_calls free (node_of old) would.node) ≡ true
      pub room : IsFull program old call false
      pub stands : Tells old → (size : ℕ) → size_in (file_of old) ≡ Some size → CanStand size (adds_in (node_of old) (Some would))
      pub image : Tells old → (size : ℕ) → size_in (file_of old) ≡ Some size → file_of mid ≡ stop_torn at (loads_first program (com_of old) (Some (node_of old))) (file_of old) (log_writes (file_of old) (size - 1) (adds_in (node_of old) (Some would)))
      pub first : loads_first program (com_of old) (Some (node_of old)) ≡ 0
      pub some : 0 < length (adds_in (node_of old) (Some would))
      pub same : com_of mid ≡ com_of old
      pub halted : is_halted (disk_of mid)

    -- it is done, or its stop cut it off
    abbrev pub EndsBy : Program → Component (Torn D) d → Option Stop → ℕ → Call → Component (Torn D) d → Ended → Type 0
    EndsBy program old stop number call new (ended.Done done) = Does program old stop number call new done
    EndsBy program old stop number call new ended.Cut = IsCutOff program old stop number call new

    -- its disk alone is left, with the records that it holds, which has the same bytes
    pub record LiesDown (given : List ℕ) (old new : Component (Torn D) d) : Type 0 where
      pub down : node_of new ≡ Down new.kept
      pub read : Tells old → log_of (file_of old) ≡ Ok new.kept
      pub bytes : Tells old → file_of new ≡ file_of old
      pub own : Tells old → fingerprint_in (file_of old) ≡ given
      pub owned : Tells old → owner_in (file_of old) ≡ (com_of old).0
      pub same : com_of new ≡ com_of old
      pub going : is_over new ≡ false

    -- why it doesn't, with its disk then
    abbrev pub FailsToLieDown : List ℕ → Component (Torn D) d → Option (Torn D) → NodeRefused → Type 0
    FailsToLieDown given old new Full = ⊥
    FailsToLieDown given old new (Bad place) = Tells old → placed_log_for (com_of old).0 (file_of old) ≡ Err place
    FailsToLieDown given old new (Foreign kept) = Tells old → IsForeign given (file_of old) kept
    FailsToLieDown given old new Failed = has_fault b (disk_of old) new
    FailsToLieDown given old new Memory = rests_on d new
