-- Why the event of a choice isn't done, and what a crash leaves within it.
use Rattle.std.proofs.Common.{◌≡◌, ◌∙◌, refl, sym, ap, subst, ℕ, false, List, [], Option, Some, None, Result, Ok, Err, IfErr}
use Rattle.ic_base.specs.declared.events.Stop.{Stop}
use Rattle.ic_base.specs.declared.messages.ComId.{ComId}
use Rattle.ic_base.specs.declared.messages.Packet.{Packet}
use Rattle.ic_base.specs.declared.refusals.Which.TheVariants.{Receipts, Packets}
use Rattle.ic_base.specs.declared.refusals.WorldRefused.{WorldRefused}
use Rattle.ic_base.specs.declared.refusals.WorldRefused.TheVariants as refused
use Rattle.ic_base.specs.declared.scenario.Program.{Program}
use Rattle.def_live.specs.Turns.{Choice, event_of}
use Rattle.def_step.specs.World.{Node}
use Rattle.ic_disk.specs.TornDisks.{Torn}
use Rattle.ic_disk.specs.declared.disk.Disk.{Ghosts}
use Rattle.ic_node.specs.Views.{com_of}
use Rattle.ic_node.specs.declared.component.Component.{Component}
use Rattle.ic_node.specs.declared.done.Done.{Done}
use Rattle.ic_node.specs.declared.done.NodeRefused.{NodeRefused}
use Rattle.ic_node.specs.declared.done.NodeRefused.TheVariants.{Full, Bad, Foreign, Failed, Memory}
use Rattle.ic_work.specs.Components as works
use Rattle.ic_work.specs.Components.{Works, FailsToWork, refusal_of}
use Rattle.ic_work.specs.Working.{work_of, work_receives}
use Rattle.ic_work.specs.declared.work.Work.{Work}
use Rattle.ic_work.specs.declared.work.Work.TheVariants.{Calls, Crashes, Recovers}
use Rattle.ic_turn.specs.Doing.{FailsToDoChoice, FailsAt, choice_receives, choice_adds, would_add}
use Rattle.ic_turn.specs.Telling.{FailsToTell}
use Rattle.ic_turn.specs.Works as asked

-- what the work receives, the choice does
pub receives-is : (program : Program) (c : ComId) (x : Choice) (node : Node) (work : Work) → asked.work_of x ≡ Some (work_of work) → choice_receives program c x node ≡ work_receives program c (work_of work) node
receives-is program c x node work is = ap (λ o. elim o [ None ↦ false | Some w ↦ work_receives program c w node ]) is

module _ {D : Type 0} {d : Ghosts D} where
  adds-one : (program : Program) (x : Component D d) (work : Work) → would_add program x (work_of work) ≡ works.would_add program x work
  adds-one program x (Calls number call) = refl
  adds-one program x Crashes = refl
  adds-one program x Recovers = refl

  -- what the work adds, the choice does
  pub adds-are : (program : Program) (choice : Choice) (x : Component D d) (work : Work) → asked.work_of choice ≡ Some (work_of work) → works.would_add program x work ≡ choice_adds program (Some choice) x
  adds-are program choice x work is = sym (ap (λ o. elim o [ None ↦ [] | Some w ↦ would_add program x w ]) is ∙ adds-one program x work)

module _ {D : Type 0} (b : Ghosts D) {d : Ghosts (Torn D)} (program : Program) (print : List ℕ) (x : Choice) (old new : Component (Torn D) d) (work : Work) (is : asked.work_of x ≡ Some (work_of work)) (stop : Option Stop) (by_stop : stop ≡ (event_of (com_of old) x).stop) (received packets : ℕ) where
  -- the work isn't done
  pub fails-at_work : (why : NodeRefused) → FailsToWork b program print old stop work new why → FailsToDoChoice b program print x old received packets new (refusal_of (com_of old) why)
  fails-at_work why f = by why (subst (λ z. FailsToWork b program print old z work new why) by_stop f)
    where
      there : (w : NodeRefused) → FailsToWork b program print old (event_of (com_of old) x).stop work new w → FailsAt b program print x old new (refusal_of (com_of old) w)
      there w g = record { work = work; asks = is; node_why = w; is = refl; fails = g }

      by : (w : NodeRefused) → FailsToWork b program print old (event_of (com_of old) x).stop work new w → FailsToDoChoice b program print x old received packets new (refusal_of (com_of old) w)
      by Full g = there Full g
      by (Bad place) g = there (Bad place) g
      by (Foreign kept) g = there (Foreign kept) g
      by Failed g = there Failed g
      by Memory g = tt

  -- it is done, but not told
  pub fails-to_tell : (done : Done) → Works program old stop work new done → (r : Result (List Packet) WorldRefused) → IfErr r (FailsToTell packets done) → IfErr r (FailsToDoChoice b program print x old received packets new)
  fails-to_tell done w (Ok puts) f = tt
  fails-to_tell done w (Err (refused.Limit Receipts)) f = absurd f
  fails-to_tell done w (Err (refused.Limit Packets)) f = record { work = work; asks = is; done = done; works = subst (λ z. Works program old z work new done) by_stop w; past = f }
  fails-to_tell done w (Err (refused.LogFull z)) f = absurd f
  fails-to_tell done w (Err (refused.Bad z place)) f = absurd f
  fails-to_tell done w (Err (refused.Failed z)) f = absurd f
  fails-to_tell done w (Err refused.Memory) f = tt
  fails-to_tell done w (Err (refused.Foreign z kept)) f = absurd f
