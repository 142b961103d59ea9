-- The trace of an event is of that event, and the component of which the policy is asked behind it has a disk.
use Rattle.std.proofs.Common.{◌≡◌, ◌∙◌, sym, ap, subst, refl, inl, inr, false, true, Option, Some, None, option_map}
use Rattle.std.specs.Prelude.{option_and_then, slice_get}
use Rattle.std.proofs.lemmas.Option.{same_Some}
use Rattle.ic_base.specs.declared.messages.ComId.{ComId}
use Rattle.ic_base.specs.declared.events.Answer.TheVariants as answers
use Rattle.ic_base.specs.declared.events.Event.{Event}
use Rattle.ic_base.specs.declared.events.What.TheVariants.{Packet as Numbered}
use Rattle.ic_base.specs.declared.scenario.Program.{Program}
use Rattle.def_run.specs.SystemStates.{has_disk}
use Rattle.def_step.specs.Packets.{receiver_of}
use Rattle.def_step.specs.Pcom.{Gets}
use Rattle.def_step.specs.Settle.{asked_of}
use Rattle.def_step.specs.World.{World, Node, DiskOutcome, Done, After, is_reached, node_at, behind, unchanged, happens}
use Rattle.ic_world.specs.Allowing.{is_kept, IsMadeFor, is_allowed}
use Rattle.ic_world.specs.Tasks.{Task, Asks, Answers, task_of, task_done}
use Rattle.ic_work.specs.Tasks.{Work, Calls, work_done}
use Rattle.ic_world.proofs.Answered.{AnswersAs, task-answers}
use Rattle.ic_world.proofs.Cores.{TellsPacket, work-tells}
use Rattle.ic_world.proofs.Tasks.{happens-task, task-same, task-names, world_in, Names, NamesIn, IsSameButWaiting}
use Rattle.law_replay.proofs.Lists.{none-some}

abbrev disk_where : Program → Option ComId → Type 0
disk_where program o = elim o [ None ↦ true | Some c ↦ has_disk program c ] ≡ true

-- a component did its work
record Did (program : Program) (w : World) (e : Event) (x : DiskOutcome) (c : ComId) (work : Work) (a : After) : Type 0 where
  pub node : Node
  pub done : Done
  pub at : node_at w c ≡ Some node
  pub works : work_done program c e.stop x node work ≡ Some done
  pub is : a ≡ behind w e c done

module _ (program : Program) (w : World) (e : Event) (x : DiskOutcome) (a : After) where
  did : (v : World) (c : ComId) (work : Work) (o : Option Node) → node_at v c ≡ o → option_map (behind v e c) (option_and_then (λ node. work_done program c e.stop x node work) o) ≡ Some a → Did program v e x c work a
  did v c work None at f = none-some a f
  did v c work (Some node) at f = by (work_done program c e.stop x node work) refl f
    where
      by : (d : Option Done) → work_done program c e.stop x node work ≡ d → option_map (behind v e c) d ≡ Some a → Did program v e x c work a
      by None works g = none-some a g
      by (Some d) works g = record { node = node; done = d; at = at; works = works; is = sym (same_Some (behind v e c d) a g) }

  module _ (happened : happens program w e x ≡ Some a) where
    task-did : (t : Task) → task_of w e.what ≡ t → task_done program e x t ≡ Some a
    task-did t is = sym (happens-task program w e x ∙ ap (task_done program e x) is) ∙ happened

    module _ (made : IsMadeFor program w) (allowed : is_allowed program e.what ≡ true) (unreached : is_reached e.stop 0 ≡ false) where
      -- whatever the event is answered, its component is one that it names
      named : (c : ComId) → asked_of e.what answers.Idle ≡ Some c → has_disk program c ≡ true
      named c is = let P : Option ComId → Type 0 = λ o. disk_where program o in subst P is allowed

      by_name : (v : World) (c : ComId) (work : Work) → IsSameButWaiting w v → Names w e.what c work → Did program v e x c work a → (b : ComId) → asked_of e.what a.trace.answer ≡ Some b → has_disk program b ≡ true
      by_name v c work same (inl n) d b asked = named b (n.1 answers.Idle ∙ sym (n.1 a.trace.answer) ∙ asked)
      by_name v c work same (inr n) d b asked = by told
        where
          told : TellsPacket (Calls n.0 (Gets n.1)) d.node d.done.answer
          told = let P : Work → Type 0 = λ k. TellsPacket k d.node d.done.answer in subst P n.3 (work-tells program c e.stop x d.node work d.done unreached d.works)

          asked-is : asked_of e.what a.trace.answer ≡ asked_of (Numbered n.0) d.done.answer
          asked-is = ap (λ y. asked_of y a.trace.answer) n.2 ∙ ap (λ (z : After). asked_of (Numbered n.0) z.trace.answer) d.is

          node-is : node_at w c ≡ Some d.node
          node-is = sym (ap (λ ns. slice_get ns c.0) same.nodes) ∙ d.at

          by : TellsPacket (Calls n.0 (Gets n.1)) d.node d.done.answer → has_disk program b ≡ true
          by (inl k) =
              let to : receiver_of n.1 ≡ b = same_Some (receiver_of n.1) b (sym (asked-is ∙ ap (asked_of (Numbered n.0)) k.2) ∙ asked) in
              sym (made.kept b) ∙ ap (λ z. is_kept (node_at w z)) (sym to ∙ sym n.4) ∙ ap is_kept node-is ∙ k.0
          by (inr k) = none-some b (sym k.1 ∙ sym asked-is ∙ asked)

      pub asked-disk : (b : ComId) → asked_of e.what a.trace.answer ≡ Some b → has_disk program b ≡ true
      asked-disk b asked = by (task_of w e.what) refl
        where
          by : (t : Task) → task_of w e.what ≡ t → has_disk program b ≡ true
          by (Asks v c work) is =
              let P : Task → Type 0 = λ t. NamesIn w e.what t in
              let Q : Task → Type 0 = λ t. IsSameButWaiting w (world_in t) in
              by_name v c work (subst Q is (task-same w e.what)) (subst P is (task-names w e.what)) (did v c work (node_at v c) refl (task-did (Asks v c work) is)) b asked
          by (Answers v answer) is =
              let P : Task → Type 0 = λ t. AnswersAs e.what t in
              let same : AnswersAs e.what (Answers v answer) = subst P is (task-answers w e.what) in
              named b (sym same.1 ∙ ap (λ (z : After). asked_of e.what z.trace.answer) (same_Some (unchanged v e answer) a (task-did (Answers v answer) is)) ∙ asked)
