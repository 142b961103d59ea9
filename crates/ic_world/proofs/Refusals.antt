-- Why a component's work isn't done, as the definitions say it of the event.
use Rattle.std.proofs.Common.{◌≡◌, ◌∙◌, ap, refl, ℕ, false, List, Option, Some, None, option_map}
use Rattle.std.specs.Prelude.{option_and_then}
use Rattle.ic_base.specs.declared.messages.ComId.{ComId}
use Rattle.ic_base.specs.declared.messages.Packet.{Packet}
use Rattle.ic_base.specs.declared.events.Answer.{Answer}
use Rattle.ic_base.specs.declared.events.Stop.{Stop}
use Rattle.ic_base.specs.declared.events.What.{What}
use Rattle.ic_base.specs.declared.events.What.TheVariants.{Input, Deliver, Lose, Packet as Numbered, Force, Checkpoint, Resend, Emit, Crash, Recover}
use Rattle.ic_base.specs.declared.refusals.WorldRefused.{WorldRefused}
use Rattle.ic_base.specs.declared.scenario.Program.{Program}
use Rattle.def_run.specs.CoreSteps.{is_full_at, is_call_full}
use Rattle.def_run.specs.Refusals.{IsCalled, met, call_refusal, node_refusal, down_refusal}
use Rattle.def_run.specs.SystemStates.{SystemState, file_of}
use Rattle.def_step.specs.Calls.{delivery_of, receives, call_receives, node_receives}
use Rattle.def_step.specs.Pcom.{Call}
use Rattle.def_step.specs.World.{World, Node, node_at, packet_at, oldest_of}
use Rattle.ic_work.specs.Working.{work_receives}
use Rattle.ic_world.specs.Tasks.{Task, Asks, Answers, task_of, delivered, oldest_delivered, lost, oldest_lost}
use Rattle.ic_work.specs.Tasks.{Work, Calls, Crashes, Recovers}
use Rattle.ic_world.proofs.Tasks.{call-task, called_in, called_by}

-- what an event meets on a disk, by its task
abbrev pub met_in : Program → List ℕ → SystemState → Option Stop → Task → Option WorldRefused
met_in program print p stop (Asks w c Recovers) = option_and_then (down_refusal program print c stop (file_of p c)) (node_at p.world c)
met_in program print p stop t = option_and_then (call_refusal program p) (called_in t)

module _ (program : Program) (print : List ℕ) (p : SystemState) (stop : Option Stop) where
  met-delivered : (i : ℕ) (o : Option Packet) → option_and_then (call_refusal program p) (option_map delivery_of o) ≡ met_in program print p stop (delivered p.world i o)
  met-delivered i None = refl
  met-delivered i (Some q) = refl

  met-oldest : (o : Option ℕ) → option_and_then (call_refusal program p) (option_map delivery_of (option_and_then (packet_at p.world) o)) ≡ met_in program print p stop (oldest_delivered p.world o)
  met-oldest None = refl
  met-oldest (Some i) = met-delivered i (packet_at p.world i)

  met-lost : (o : Option ℕ) → None ≡ met_in program print p stop (oldest_lost p.world o)
  met-lost None = refl
  met-lost (Some i) = by (packet_at p.world i)
    where
      by : (q : Option Packet) → None ≡ met_in program print p stop (lost p.world i q)
      by None = refl
      by (Some q) = refl

  met-task : (what : What) → met program print p stop what ≡ met_in program print p stop (task_of p.world what)
  met-task (Input c handler args) = refl
  met-task (Deliver from to) = met-oldest (oldest_of p.world from to)
  met-task (Lose from to) = met-lost (oldest_of p.world from to)
  met-task (Numbered i) = met-delivered i (packet_at p.world i)
  met-task (Force c) = refl
  met-task (Checkpoint c) = refl
  met-task (Resend c) = refl
  met-task (Emit c) = refl
  met-task (Crash c) = refl
  met-task (Recover c) = refl

module _ (program : Program) (print : List ℕ) (p : SystemState) (what : What) (stop : Option Stop) (w : World) (c : ComId) where
  module _ (work : Work) (task : task_of p.world what ≡ Asks w c work) (node : Node) (at : node_at p.world c ≡ Some node) where
    pub receives-is : receives program p.world what ≡ work_receives program c work node
    receives-is = ap (λ o. elim o [ None ↦ false | Some x ↦ call_receives program p.world x ]) (call-task p.world what ∙ ap called_in task) ∙ by work
      where
        by : (k : Work) → elim (called_by c k) [ None ↦ false | Some x ↦ call_receives program p.world x ] ≡ work_receives program c k node
        by (Calls number call) = ap (λ o. elim o [ None ↦ false | Some n ↦ node_receives program c call n ]) at
        by Crashes = refl
        by Recovers = refl

  module _ (number : ℕ) (call : Call) (task : task_of p.world what ≡ Asks w c (Calls number call)) where
    pub full-is : is_full_at program p what ≡ is_call_full program p (record { who = c; call = call })
    full-is = ap (λ o. elim o [ None ↦ false | Some x ↦ is_call_full program p x ]) (call-task p.world what ∙ ap called_in task)

    pub called-is : IsCalled p.world what c
    called-is = ap (option_map (λ x. x.who)) (call-task p.world what ∙ ap called_in task)

    pub met-call : (node : Node) → node_at p.world c ≡ Some node → met program print p stop what ≡ node_refusal program c (file_of p c) call node
    met-call node at = met-task program print p stop what ∙ ap (met_in program print p stop) task ∙ ap (option_and_then (node_refusal program c (file_of p c) call)) at

  pub met-recovery : task_of p.world what ≡ Asks w c Recovers → (node : Node) → node_at p.world c ≡ Some node → met program print p stop what ≡ down_refusal program print c stop (file_of p c) node
  met-recovery task node at = met-task program print p stop what ∙ ap (met_in program print p stop) task ∙ ap (option_and_then (down_refusal program print c stop (file_of p c))) at

-- work that is no call passes no limit
pub never-full : (program : Program) (p : SystemState) (what : What) (w : World) (c : ComId) (work : Work) → called_by c work ≡ None → task_of p.world what ≡ Asks w c work → is_full_at program p what ≡ false
never-full program p what w c work none task = ap (λ o. elim o [ None ↦ false | Some x ↦ is_call_full program p x ]) (call-task p.world what ∙ ap called_in task ∙ none)

-- an event that asks nothing receives nothing
pub receives-none : (program : Program) (p : SystemState) (what : What) (w : World) (a : Answer) → task_of p.world what ≡ Answers w a → receives program p.world what ≡ false
receives-none program p what w a task = ap (λ o. elim o [ None ↦ false | Some x ↦ call_receives program p.world x ]) (call-task p.world what ∙ ap called_in task)
