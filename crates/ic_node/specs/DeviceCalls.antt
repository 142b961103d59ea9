-- How many device calls an event makes at the disk of its component.
use Rattle.std.specs.Prelude.{◌≡◌, ◌≤◌, ◌+◌, ℕ, Bool, true, false, cond, nat_lt, length, Option, Some, None, Result, Ok, Err}
use Rattle.ic_base.specs.Programs.{is_a_tcom}
use Rattle.ic_base.specs.declared.events.Stop.{Stop}
use Rattle.ic_base.specs.declared.limits.TheConstants.{SLOTS}
use Rattle.ic_base.specs.declared.messages.ComId.{ComId}
use Rattle.ic_base.specs.declared.scenario.Program.{Program}
use Rattle.def_log.specs.Directory.{slots_in}
use Rattle.def_step.specs.World as world
use Rattle.def_step.specs.World.{Down, device_calls, does, is_reached}
use Rattle.ic_disk.specs.Torns.{or_never}
use Rattle.ic_disk.specs.declared.disk.Disk.{Ghosts}
use Rattle.ic_gate.specs.Reading.{load_calls, tail_calls}
use Rattle.ic_tcom.specs.Recovering.{calls_of_epoch}
use Rattle.ic_node.specs.Calling.{call_of}
use Rattle.ic_node.specs.Views.{node_of, disk_of, file_of, com_of, Tells}
use Rattle.ic_node.specs.declared.component.Component.{Component}
use Rattle.ic_node.specs.declared.done.Call.{Call}
use Rattle.ic_node.specs.declared.done.Ended.{Ended}
use Rattle.ic_node.specs.declared.done.Ended.TheVariants.{Done, Cut}
use Rattle.ic_node.specs.declared.done.NodeRefused.{NodeRefused}
use Rattle.ic_node.specs.declared.up.Recovery.{Recovery}
use Rattle.ic_node.specs.declared.up.Recovery.TheVariants as recovery

-- the device calls of a step of the definition, by whether a slot of the log's directory is free; a misfit makes none
abbrev pub done_calls : world.Node → Option world.Done → Bool → ℕ
done_calls node None free = 0
done_calls node (Some d) free = device_calls free node d.node

-- how many device calls the force of an epoch's record makes: as many for each epoch, behind each log
abbrev pub epoch_calls : ℕ
epoch_calls = length (calls_of_epoch 0 0)

-- the device calls of a recovery: a Pcom that is down loads the tail of its log, a Tcom loads its own whole and forces its next epoch
abbrev pub recovery_calls : Program → ComId → world.Node → ℕ
recovery_calls program c (Down records) = cond (is_a_tcom program c) (length load_calls + epoch_calls) (length tail_calls)
recovery_calls program c node = 0

-- the device calls of a step that makes so many: where its stop is reached, those up to it, and the log is loaded once behind it
abbrev pub with_load : Option Stop → ℕ → ℕ
with_load stop calls = cond (is_reached stop calls) ((or_never stop).call + length load_calls) calls

-- of so many device calls all are made where they are done, and else at most these, and none behind the call at which the stop is set
pub record AreMade (stop : Stop) (calls : ℕ) (ok : Bool) (old new : ℕ) : Type 0 where
  pub all : ok ≡ true → new ≡ old + calls
  pub most : new ≤ old + calls
  pub by_stop : 1 ≤ stop.call → new ≤ old + stop.call

-- of the device calls of one load of a log all are made where it is done, and else at most these
pub record MakesLoad (ok : Bool) (old new : ℕ) : Type 0 where
  pub all : ok ≡ true → new ≡ old + length load_calls
  pub most : new ≤ old + length load_calls

-- a call is done, and its stop didn't cut it off
abbrev pub is_done : Result Ended NodeRefused → Bool
is_done (Ok (Done done)) = true
is_done (Ok Cut) = false
is_done (Err why) = false

-- a Tcom came up, and its stop didn't cut it off
abbrev pub is_up : {D R : Type 0} {d : Ghosts D} → Result (Recovery D d) R → Bool
is_up (Ok (recovery.Up t)) = true
is_up (Ok (recovery.Cut disk)) = false
is_up (Err refused) = false

-- how many device calls were made at a disk, if there is one
abbrev pub made_on : {D : Type 0} → Ghosts D → Option D → ℕ
made_on d None = 0
made_on d (Some disk) = d.calls disk

module _ {D : Type 0} {d : Ghosts D} where
  -- how many device calls were made at its disk
  abbrev pub made_at : Component D d → ℕ
  made_at x = made_on d (disk_of x)

  -- the device calls of a call on it
  abbrev pub step_calls : Program → Component D d → ℕ → Call → Bool → ℕ
  step_calls program x number call = done_calls (node_of x) (does program (com_of x) (node_of x) number (call_of call))

  -- An event whose step makes so many device calls makes all of them where it is done and its stop isn't reached; else it makes at most
  -- these, and where its stop is reached at most those up to it and those of one load behind it.
  pub record MakesCalls (calls : Bool → ℕ) (stop : Option Stop) (ok : Bool) (old new : Component D d) : Type 0 where
    pub free : Bool
    pub listed : Tells old → free ≡ nat_lt (length (slots_in (file_of old))) SLOTS
    pub all : ok ≡ true → is_reached stop (calls free) ≡ false → made_at new ≡ made_at old + calls free
    pub most : made_at new ≤ made_at old + with_load stop (calls free)

  -- the same of a call whose stop is set, before the load behind the stop
  pub record EndsWith (program : Program) (old : Component D d) (stop : Option Stop) (number : ℕ) (call : Call) (new : Component D d) (result : Result Ended NodeRefused) : Type 0 where
    pub free : Bool
    pub listed : Tells old → free ≡ nat_lt (length (slots_in (file_of old))) SLOTS
    pub made : AreMade (or_never stop) (step_calls program old number call free) (is_done result) (made_at old) (made_at new)
    pub cut : result ≡ Ok Cut → is_reached stop (step_calls program old number call free) ≡ true
