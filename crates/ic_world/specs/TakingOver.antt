-- What a takeover comes to at a world with its disks.
use Rattle.std.specs.Prelude.{◌≡◌, ℕ, ◌+◌, min, Bool, true, false, List, [], ◌++◌, length, drop, Option, Some, slice_get, slice_set}
use Rattle.ic_base.specs.declared.messages.ComId.{ComId}
use Rattle.ic_base.specs.declared.record.Record.{Record}
use Rattle.ic_base.specs.declared.refusals.WorldRefused.{WorldRefused}
use Rattle.ic_base.specs.declared.scenario.Program.{Program}
use Rattle.def_facts.specs.Flat.{HasFlatParts}
use Rattle.def_facts.specs.Logs.{Logs}
use Rattle.def_facts.specs.Sound.{AreSound}
use Rattle.def_facts.specs.World.{Past, IsExplainedBy, forced_logs}
use Rattle.def_run.specs.Openings.{IsFound}
use Rattle.def_run.specs.SystemStates.{SystemState}
use Rattle.def_standby.specs.Standbys.{Standby, play_all}
use Rattle.def_standby.specs.TakeOvers.{TakesOver, taken_over, world_over}
use Rattle.def_state.specs.Hist.{Contents}
use Rattle.def_state.specs.Vol.{Vol}
use Rattle.def_step.specs.World.{Down, node_at}
use Rattle.ic_disk.specs.TornDisks.{Torn}
use Rattle.ic_disk.specs.declared.disk.Disk.{Ghosts}
use Rattle.ic_node.specs.DeviceCalls.{MakesLoad, made_at}
use Rattle.ic_node.specs.Meeting.{CrashAdds}
use Rattle.ic_node.specs.TakingOver as nodes
use Rattle.ic_node.specs.declared.component.Component.{Component}
use Rattle.ic_node.specs.declared.done.NodeRefused.{NodeRefused}
use Rattle.ic_work.specs.Components.{refusal_of}
use Rattle.law_pcom.specs.Replaying.{Plays}
use Rattle.law_run.specs.Executions.{IsExplainedInBytes}
use Rattle.law_run.specs.ProgramBytes.{HasBytes}
use Rattle.law_run.specs.WorldBytes.{WorldFits}
use Rattle.law_standby.specs.TakeOvers.{AreReceived}
use Rattle.ic_world.specs.Acting.{GREATEST}
use Rattle.ic_world.specs.Allowing.{IsMadeFor}
use Rattle.ic_world.specs.Explaining.{AreLeft}
use Rattle.ic_world.specs.Views.{components_of, world_of, state_of, print_of, received_of, played_of, is_over, Tells}
use Rattle.ic_world.specs.declared.world.World.{World}

abbrev pub standby_with : Vol → ℕ → Standby
standby_with v have = record { state = v; have = have }

module _ {D : Type 0} {d : Ghosts D} where
  -- The Pcom is up as its standby over the records that its disk gave, of which those behind the first `have` were played once each.
  -- Nothing is put out or shown, and the other components stay. Where the disks tell, it is the takeover of the definitions.
  pub record TakesOn (program : Program) (old : World D d) (c : ComId) (contents : Contents) (v : Vol) (have : ℕ) (new : World D d) (played : ℕ) : Type 0 where
    pub found : List Record
    pub state : Vol
    pub plays : play_all program c contents v (drop have found) ≡ Some state
    pub world : world_of new ≡ world_over (world_of old) c (taken_over found state)
    pub count : played + have ≡ length found
    pub told : Tells old → TakesOver program (print_of old) c contents (standby_with v have) played (state_of old) (state_of new)
    pub received : received_of new ≡ received_of old
    pub played_is : played_of new ≡ min (played_of old + played) GREATEST
    pub made : IsMadeFor program (world_of new)
    pub going : is_over new ≡ false

  -- a crash leaves of each component the records that are there
  abbrev pub CrashLeavesThem : World D d → World D d → Type 0
  CrashLeavesThem old new = (k : ℕ) (x y : Component D d) → slice_get (components_of old) k ≡ Some x → slice_get (components_of new) k ≡ Some y → CrashAdds [] x y

  -- at the disk of the component all the device calls of one load of its log are made where it is taken over, and else at most these
  abbrev pub MakesLoadAt : World D d → ComId → Bool → World D d → Type 0
  MakesLoadAt old c ok new = (x y : Component D d) → slice_get (components_of old) c.0 ≡ Some x → slice_get (components_of new) c.0 ≡ Some y → MakesLoad ok (made_at x) (made_at y)

  -- Where the disks tell, an explained world stays explained, if the standby's state is that of the first `have` records of the log, and
  -- the contents at hand are those that were received.
  abbrev pub StaysExplained : Program → World D d → ComId → Contents → Vol → ℕ → World D d → Type 0
  StaysExplained program old c contents v have new =
      (found : Logs) (here : ComId → ℕ) (past : Past) (log had rest : List Record) → Tells old → WorldFits (world_of old) → IsExplainedBy program found here (world_of old) past → node_at (world_of old) c ≡ Some (Down log) → log ≡ had ++ rest → length had ≡ have →
      AreReceived contents (past.received c) rest → Plays program c (past.received c) v had log → (lives : ComId → ℕ) × IsExplainedInBytes program found lives (world_of new)

  -- Whatever images a crash of the whole machine leaves of an explained world, within the takeover or behind it: the logs that are read
  -- from them are sound together.
  abbrev pub LeavesSound : Program → World D d → World D d → Type 0
  LeavesSound program old new =
      (found : Logs) (here : ComId → ℕ) (images : List (List ℕ)) (r : SystemState) → HasFlatParts program → HasBytes program → IsExplainedInBytes program found here (world_of old) → AreLeft old new images →
      IsFound program (print_of old) images r → AreSound program (forced_logs r.world)

module _ {D : Type 0} (b : Ghosts D) {d : Ghosts (Torn D)} where
  -- the component isn't taken over, and the world ends
  pub record FailsToTakeOver (program : Program) (old : World (Torn D) d) (c : ComId) (contents : Contents) (v : Vol) (have : ℕ) (new : World (Torn D) d) (why : WorldRefused) : Type 0 where
    pub before : Component (Torn D) d
    pub now : Component (Torn D) d
    pub node_why : NodeRefused
    pub at : slice_get (components_of old) c.0 ≡ Some before
    pub set : components_of new ≡ slice_set (components_of old) c.0 now
    pub is : why ≡ refusal_of c node_why
    pub fails : nodes.FailsToTakeOver b program (print_of old) before contents v have now node_why
    pub ends : is_over new ≡ true
