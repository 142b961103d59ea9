-- A step of the world, once its task is done or refused.
use Rattle.std.proofs.Common.{◌≡◌, ap, subst, refl, ◌<◌, ◌≤◌, ◌^◌, true, false, arith, Option, Some, None, IfOk, IfErr, Result, Ok, Err}
use Rattle.std.specs.Prelude.{nat_le}
use Rattle.std.proofs.lemmas.Bool.{false_from_ne_true, leb-true}
use Rattle.ic_base.specs.declared.events.Answer.{Answer}
use Rattle.ic_base.specs.declared.events.Event.{Event}
use Rattle.ic_base.specs.declared.events.Stop.{Stop}
use Rattle.ic_base.specs.declared.events.Trace.{Trace}
use Rattle.ic_base.specs.declared.messages.ComId.{ComId}
use Rattle.ic_base.specs.declared.refusals.WorldRefused.{WorldRefused}
use Rattle.ic_base.specs.declared.scenario.Program.{Program}
use Rattle.def_step.specs.World.{After, unchanged, is_reached}
use Rattle.ic_disk.specs.TornDisks.{Torn}
use Rattle.ic_disk.specs.declared.disk.Disk.{Ghosts}
use Rattle.ic_node.specs.Doing.{IsAllowed}
use Rattle.ic_world.specs.Acting.{Acts, FailsToAct, GREATEST}
use Rattle.ic_world.specs.Allowing.{IsMadeFor, is_allowed}
use Rattle.ic_world.specs.Standing.{ArePlaced, HoldLogs}
use Rattle.ic_world.specs.Stepping.{Steps, FailsToStep}
use Rattle.ic_world.specs.Tasks as tasks
use Rattle.ic_world.specs.Views.{components_of, world_of, print_of, received_of, played_of, is_over}
use Rattle.ic_work.specs.Working.{work_of}
use Rattle.ic_work.specs.declared.work.Work.{Work}
use Rattle.ic_world.specs.declared.world.World.{World}
use Rattle.ic_world.proofs.Unmoved.{unmoved-where, rests-where}
use Rattle.ic_world.proofs.Answered.{answer-steps}
use Rattle.ic_world.proofs.Failing.{failed-where}
use Rattle.ic_world.proofs.Refusing.{past-count, act-refused}
use Rattle.ic_world.proofs.WorkSteps.{act-steps}

-- device calls are counted from 1
pub never-at_none : (s : Option Stop) → IsAllowed s → is_reached s 0 ≡ false
never-at_none None a = refl
never-at_none (Some s) a = false_from_ne_true (nat_le s.call 0) (λ e. let l = leb-true s.call 0 e in omega (arith, l, a))

pub steps-as_acted : {D : Type 0} {d : Ghosts D} (program : Program) (old mid new : World D d) (e : Event) (c : ComId) (work : Work) (r : Result Trace WorldRefused) → tasks.task_of (world_of old) e.what ≡ tasks.Asks (world_of mid) c (work_of work) → components_of mid ≡ components_of old → received_of mid ≡ received_of old → played_of mid ≡ played_of old
    → ArePlaced (components_of old) → HoldLogs (print_of old) (components_of old) → IsMadeFor program (world_of old) → is_allowed program e.what ≡ true → IsAllowed e.stop → IfOk r (Acts program mid e c work new) → IfOk r (Steps program old e new)
steps-as_acted program old mid new e c work (Ok t) task same received played placed logs made allowed stop a = act-steps program old mid new e c work t task same received played placed a (never-at_none e.stop stop) made allowed logs
steps-as_acted program old mid new e c work (Err why) task same received played placed logs made allowed stop a = tt

pub fails-as_acted : {D : Type 0} (b : Ghosts D) {d : Ghosts (Torn D)} (program : Program) (old mid new : World (Torn D) d) (e : Event) (c : ComId) (work : Work) (r : Result Trace WorldRefused) → tasks.task_of (world_of old) e.what ≡ tasks.Asks (world_of mid) c (work_of work) → components_of mid ≡ components_of old → received_of mid ≡ received_of old → print_of mid ≡ print_of old
    → ArePlaced (components_of old) → HoldLogs (print_of old) (components_of old) → IsMadeFor program (world_of old) → is_allowed program e.what ≡ true → IsAllowed e.stop → IfErr r (FailsToAct b program mid e c work new) → IfErr r (λ why. is_over new ≡ true) → IfErr r (FailsToStep b program old e new)
fails-as_acted b program old mid new e c work (Ok t) task same received print placed logs made allowed stop f ends = tt
fails-as_acted b program old mid new e c work (Err why) task same received print placed logs made allowed stop f ends = record {
  why_refused = λ tells. act-refused b program old mid new e c work task same received print placed logs tells (never-at_none e.stop stop) made allowed why f;
  count = λ which is. let P : WorldRefused → Type 0 = λ w. FailsToAct b program mid e c work new w in past-count b program old mid new e c work task same received placed which (subst P is f);
  failed = failed-where b program old mid new e c work same why f;
  stay = unmoved-where b program old mid new e c work task same received print placed logs why f;
  rests = rests-where b program old mid new e c work task same received print placed logs (never-at_none e.stop stop) made allowed why f;
  ends = ends;
}

pub steps-as_answered : {D : Type 0} {d : Ghosts D} (program : Program) (old new : World D d) (e : Event) (a : Answer) (t : Trace) → tasks.task_of (world_of old) e.what ≡ tasks.Answers (world_of new) a → components_of new ≡ components_of old → received_of new ≡ received_of old → played_of new ≡ played_of old → print_of new ≡ print_of old → is_over new ≡ false
    → HoldLogs (print_of old) (components_of old) → IsMadeFor program (world_of old) → is_allowed program e.what ≡ true → played_of old < 2 ^ 64 → unchanged (world_of new) e a ≡ record { world = world_of new; trace = t } → Steps program old e new t
steps-as_answered program old new e a t task same received played print going logs made allowed few told =
    let few_enough : played_of old ≤ GREATEST = omega arith in
    subst (Steps program old e new) (ap (λ (x : After). x.trace) told) (answer-steps program old new e a task same print made allowed logs received played few_enough going)
