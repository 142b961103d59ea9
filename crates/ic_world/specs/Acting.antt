-- What an event comes to once its task is known.
use Rattle.std.specs.Prelude.{◌≡◌, ◌⊎◌, ◌<◌, ◌≤◌, ℕ, ◌+◌, min, Bool, true, false, cond, List, length, Option, Some, slice_get, slice_set}
use Rattle.ic_base.specs.declared.limits.TheConstants.{RECEIPTS, PACKETS}
use Rattle.ic_base.specs.declared.events.Event.{Event}
use Rattle.ic_base.specs.declared.events.Stop.{Stop}
use Rattle.ic_base.specs.declared.events.Trace.{Trace}
use Rattle.ic_base.specs.declared.messages.ComId.{ComId}
use Rattle.ic_base.specs.declared.refusals.Which.TheVariants.{Receipts, Packets}
use Rattle.ic_base.specs.declared.refusals.WorldRefused.{WorldRefused}
use Rattle.ic_base.specs.declared.refusals.WorldRefused.TheVariants as refused
use Rattle.ic_base.specs.declared.scenario.Program.{Program}
use Rattle.def_step.specs.World as definition
use Rattle.def_step.specs.World.{behind}
use Rattle.ic_disk.specs.TornDisks.{Torn}
use Rattle.ic_disk.specs.declared.disk.Disk.{Ghosts}
use Rattle.def_run.specs.Reports.{played_by}
use Rattle.ic_node.specs.Calling.{done_with}
use Rattle.ic_node.specs.DeviceCalls.{MakesCalls}
use Rattle.ic_node.specs.Meeting.{KeepsDisk, CrashAdds}
use Rattle.ic_node.specs.Views.{node_of, com_of}
use Rattle.ic_node.specs.declared.component.Component.{Component}
use Rattle.ic_node.specs.declared.done.Done.{Done}
use Rattle.ic_node.specs.declared.done.NodeRefused.{NodeRefused}
use Rattle.ic_world.specs.Allowing.{is_kept}
use Rattle.ic_work.specs.Components.{Works, FailsToWork, would_add, refusal_of}
use Rattle.ic_work.specs.Tasks.{work_calls}
use Rattle.ic_work.specs.Working.{work_of, work_receives}
use Rattle.ic_world.specs.Views.{components_of, world_of, print_of, received_of, played_of, is_over}
use Rattle.ic_work.specs.declared.work.Work.{Work}
use Rattle.ic_world.specs.declared.world.World.{World}

-- the greatest count
abbrev pub GREATEST : ℕ
GREATEST = 18446744073709551615

module _ {D : Type 0} {d : Ghosts D} where
  -- a component did its work, and what came of it is put out, shown and told; all else is as before
  pub record Acts (program : Program) (old : World D d) (e : Event) (c : ComId) (work : Work) (new : World D d) (t : Trace) : Type 0 where
    pub before : Component D d
    pub now : Component D d
    pub done : Done
    pub at : slice_get (components_of old) c.0 ≡ Some before
    pub set : components_of new ≡ slice_set (components_of old) c.0 now
    pub works : Works program before e.stop work now done
    pub kept : KeepsDisk before now
    pub told : definition.behind (world_of old) e c (done_with (node_of now) done) ≡ record { world = world_of new; trace = t }
    pub received : received_of new ≡ received_of old + cond (work_receives program c (work_of work) (node_of before)) 1 0
    pub played : played_of new ≡ min (played_of old + played_by (node_of before) (node_of now)) GREATEST
    pub going : is_over new ≡ false

  -- It is the same scenario. The disk of this component is kept, and the other components are the same.
  pub record KeepsOthers (old : World D d) (c : ComId) (new : World D d) : Type 0 where
    pub print : print_of new ≡ print_of old
    pub count : length (components_of new) ≡ length (components_of old)
    pub kept : (x y : Component D d) → slice_get (components_of old) c.0 ≡ Some x → slice_get (components_of new) c.0 ≡ Some y → KeepsDisk x y
    pub others : (k : ℕ) → (k ≡ c.0 → ⊥) → slice_get (components_of new) k ≡ slice_get (components_of old) k

  -- a crash at each moment leaves the forced records of this component, or these with all that its work adds
  abbrev pub CrashAddsAt : Program → World D d → ComId → Work → World D d → Type 0
  CrashAddsAt program old c work new =
      (x y : Component D d) → slice_get (components_of old) c.0 ≡ Some x → slice_get (components_of new) c.0 ≡ Some y → CrashAdds (would_add program x work) x y

  -- the work makes its device calls at the disk of this component
  abbrev pub MakesCallsAt : Program → World D d → ComId → Work → Option Stop → Bool → World D d → Type 0
  MakesCallsAt program old c work stop ok new =
      (x y : Component D d) → slice_get (components_of old) c.0 ≡ Some x → slice_get (components_of new) c.0 ≡ Some y → MakesCalls (work_calls program (com_of x) (node_of x) (work_of work)) stop ok x y

  -- what came of a component's work is put out, shown and told
  pub record IsTold (old : World D d) (e : Event) (c : ComId) (more : Bool) (done : Done) (new : World D d) (t : Trace) : Type 0 where
    pub told : (nodes : List definition.Node) (node : definition.Node) → behind (record (world_of old) { nodes = nodes }) e c (done_with node done) ≡ record { world = record (world_of new) { nodes = slice_set nodes c.0 node }; trace = t }
    pub received : received_of new ≡ received_of old + cond more 1 0
    pub played : played_of new ≡ min (played_of old + done.played) GREATEST
    pub going : is_over new ≡ false

  -- it isn't told, since more packets would be put out than may be, or for want of memory
  abbrev pub FailsToTell : World D d → Done → WorldRefused → Type 0
  FailsToTell old done (refused.Limit Packets) = PACKETS < length (world_of old).packets + length done.puts
  FailsToTell old done refused.Memory = Unit {0}
  FailsToTell old done why = ⊥

  -- a component did its work
  pub record DidWork (program : Program) (old : World D d) (e : Event) (c : ComId) (work : Work) (new : World D d) : Type 0 where
    pub before : Component D d
    pub now : Component D d
    pub done : Done
    pub at : slice_get (components_of old) c.0 ≡ Some before
    pub set : components_of new ≡ slice_set (components_of old) c.0 now
    pub works : Works program before e.stop work now done
    pub kept : KeepsDisk before now
    pub few : work_receives program c (work_of work) (node_of before) ≡ true → received_of old < RECEIPTS

  -- and more packets are put out than may be
  pub record PutsTooMany (program : Program) (old : World D d) (e : Event) (c : ComId) (work : Work) (new : World D d) : Type 0 where
    pub did : DidWork program old e c work new
    pub past : PACKETS < length (world_of old).packets + length did.done.puts

  -- the work would receive one thing more than may be
  pub record ReceivesTooMuch (program : Program) (old : World D d) (c : ComId) (work : Work) : Type 0 where
    pub before : Component D d
    pub at : slice_get (components_of old) c.0 ≡ Some before
    pub receives : work_receives program c (work_of work) (node_of before) ≡ true
    pub past : RECEIPTS ≤ received_of old

  -- the component may do the work: one thing more may be received, if the work receives something
  pub record Admits (program : Program) (w : World D d) (c : ComId) (work : Work) (more : Bool) : Type 0 where
    pub before : Component D d
    pub at : slice_get (components_of w) c.0 ≡ Some before
    pub receives : more ≡ work_receives program c (work_of work) (node_of before)
    pub few : more ≡ true → received_of w < RECEIPTS

module _ {D : Type 0} (b : Ghosts D) {d : Ghosts (Torn D)} where
  -- the work of the component isn't done
  pub record FailsAt (program : Program) (old : World (Torn D) d) (e : Event) (c : ComId) (work : Work) (new : World (Torn D) d) (why : WorldRefused) : Type 0 where
    pub before : Component (Torn D) d
    pub now : Component (Torn D) d
    pub node_why : NodeRefused
    pub at : slice_get (components_of old) c.0 ≡ Some before
    pub set : components_of new ≡ slice_set (components_of old) c.0 now
    pub has_disk : is_kept (Some (node_of before)) ≡ true
    pub is : why ≡ refusal_of c node_why
    pub fails : FailsToWork b program (print_of old) before e.stop work now node_why
    pub few : work_receives program c (work_of work) (node_of before) ≡ true → received_of old < RECEIPTS

  -- Where memory is wanted, the work isn't done, or it is done and not told.
  abbrev pub FailsToAct : Program → World (Torn D) d → Event → ComId → Work → World (Torn D) d → WorldRefused → Type 0
  FailsToAct program old e c work new (refused.Limit Receipts) = ReceivesTooMuch program old c work × (components_of new ≡ components_of old)
  FailsToAct program old e c work new (refused.Limit Packets) = PutsTooMany program old e c work new
  FailsToAct program old e c work new refused.Memory = FailsAt program old e c work new refused.Memory ⊎ DidWork program old e c work new
  FailsToAct program old e c work new why = FailsAt program old e c work new why
