-- The laws of executions, of the world with its disks.
use Rattle.std.proofs.Common.{◌≡◌, ◌∙◌, sym, ap, subst, refl, ℕ, true, false, ◌⊎◌, ⊎_elim, List, [], arith, Option, Some, None, option_map, Ok, Err}
use Rattle.std.specs.Prelude.{slice_get, is_some, Result, IfOk}
use Rattle.ic_base.specs.declared.events.Event.{Event}
use Rattle.ic_base.specs.declared.events.Trace.{Trace}
use Rattle.ic_base.specs.declared.refusals.WorldRefused.{WorldRefused}
use Rattle.ic_base.specs.declared.scenario.Program.{Program}
use Rattle.def_facts.specs.Playable.{IsPlayable}
use Rattle.def_facts.specs.World.{IsExplained}
use Rattle.def_run.specs.CoreSteps.{CoreStep, forced_of}
use Rattle.def_run.specs.SystemStates.{file_in}
use Rattle.def_step.specs.World.{node_at}
use Rattle.ic_disk.specs.TornDisks.{Torn}
use Rattle.ic_disk.specs.declared.disk.Disk.{Ghosts}
use Rattle.ic_node.specs.Meeting.{left_disk}
use Rattle.ic_node.specs.Views.{node_of, disk_of, file_of}
use Rattle.ic_node.specs.declared.component.Component.{Component}
use Rattle.ic_gate.specs.RecordFiles.{IsBeforeOrBehind}
use Rattle.law_run.proofs.WorldBytes.{first_world_fits}
use Rattle.law_run.specs.WorldBytes.{WorldFits}
use Rattle.law_run.proofs.Images.{images_are_sound}
use Rattle.law_run.proofs.Starts.{found_are_explained}
use Rattle.law_run.proofs.Steps.{core_steps_keep, without-event}
use Rattle.law_run.specs.Images.{ReadsAsOne, AreImages}
use Rattle.law_syntax.specs.Events.{IsEvent}
use Rattle.law_found.proofs.First.{first_world_is_explained}
use Rattle.ic_world.specs.Allowing.{is_kept, IsMadeFor}
use Rattle.ic_world.specs.Explaining.{BeginsExplained, IsFoundExplained, KeepsExplained, may_be_left, AreLeft, CrashLeavesSound}
use Rattle.ic_world.specs.Opening.{Starts, Finds, files_on}
use Rattle.ic_world.specs.Standing.{HoldLogs}
use Rattle.ic_world.specs.Stepping.{Steps, KeepsDisks, CrashLeavesLogs, adds_at, read_by}
use Rattle.ic_world.specs.Views.{components_of, world_of, state_of, print_of}
use Rattle.ic_world.specs.declared.opening.StartRefused.{StartRefused}
use Rattle.ic_world.specs.declared.world.World.{World}
use Rattle.ic_world.proofs.Lists.{get-map, get-within, get-there}
use Rattle.ic_world.proofs.Tasks.{event-told}
use Rattle.ic_world.proofs.WorkSteps.{kept-or-not, world-logs}

-- beginnings ----------------------------------------------------------------------------------

module _ {D : Type 0} (b : Ghosts D) (program : Program) (print : List ℕ) (disks : List D) {d : Ghosts (Torn D)} where
  pub starts-explained : IsPlayable program → (r : Result (World (Torn D) d) (StartRefused D)) → IfOk r (Starts b program print disks) → IfOk r (BeginsExplained program)
  starts-explained playable (Err refused) s = tt
  starts-explained playable (Ok new) s = λ bytes. record {
    explained = subst (IsExplained program [] (λ c. 0)) (sym s.world) (first_world_is_explained program playable);
    bytes = subst WorldFits (sym s.world) (first_world_fits program bytes);
  }

  pub found-explained : IsPlayable program → (r : Result (World (Torn D) d) (StartRefused D)) → IfOk r (Finds b program print disks) → IfOk r (IsFoundExplained b program disks)
  found-explained playable (Err refused) f = tt
  found-explained playable (Ok new) f = λ tell bytes sound. (found_are_explained program print (files_on b program disks) (state_of new) playable (f.state tell) bytes sound).0

-- steps ---------------------------------------------------------------------------------------

module _ {D : Type 0} {d : Ghosts D} (program : Program) (old new : World D d) (e : Event) (made : IsMadeFor program (world_of old)) where
  module _ (logs : HoldLogs (print_of old) (components_of old)) where
    pub step-explained : (t : Trace) → Steps program old e new t → KeepsExplained program old e new
    step-explained t s found here tell before =
        let of : t.event ≡ e = event-told program (world_of old) e s.outcome (record { world = world_of new; trace = t }) s.happens in
        core_steps_keep program (print_of old) found here (state_of old) (record { trace = t; state = state_of new }) made.playable before.flat before.bytes
        (subst (IsEvent program) (sym of) before.event) (world-logs old logs tell)
        (subst (λ z. CoreStep program (print_of old) (state_of old) z t (state_of new)) (sym of) (s.core tell)) before.explained

    pub steps-explained : (r : Result Trace WorldRefused) → IfOk r (Steps program old e new) → IfOk r (λ t. KeepsExplained program old e new)
    steps-explained (Ok t) s = step-explained t s
    steps-explained (Err why) s = tt

  -- what a crash leaves
  module _ (disks : KeepsDisks old e.what new) (crash : CrashLeavesLogs program old e.what new) where
    left-so : (o p : Option D) (P : List ℕ → Type 0) (image : List ℕ) → is_some o ≡ true → left_disk d o p P → may_be_left d o p image → P image
    left-so None p P image has leaves left = absurd (cc)
    left-so (Some x) None P image has leaves left = absurd leaves
    left-so (Some x) (Some y) P image has leaves left = ⊎_elim ((leaves.any_moment left.0).each image) (leaves.behind left.0 image) left.1

    pub are-images : (images : List (List ℕ)) → AreLeft old new images → AreImages program (state_of old) e.what (read_by (state_of old)) images
    are-images images are c has = by (slice_get (components_of old) c.0) refl
      where
        node : node_at (world_of old) c ≡ option_map (λ x. node_of x) (slice_get (components_of old) c.0)
        node = get-map (λ x. node_of x) (components_of old) c.0

        by : (o : Option (Component D d)) → slice_get (components_of old) c.0 ≡ o → ReadsAsOne (forced_of (node_at (world_of old) c)) (adds_at program (state_of old) e.what c) (file_in images c)
        by None is = absurd (let clash : false ≡ true = ap is_kept (sym (node ∙ ap (option_map (λ x. node_of x)) is)) ∙ made.kept c ∙ has in cc)
        by (Some x) is =
            let at : node_at (world_of old) c ≡ Some (node_of x) = node ∙ ap (option_map (λ z. node_of z)) is in
            let there : is_some (disk_of x) ≡ true = sym (kept-or-not x) ∙ ap is_kept (sym at) ∙ made.kept c ∙ has in
            let y = get-there (components_of new) c.0 (omega (arith, disks.count, get-within (components_of old) c.0 x is)) in
            let P : List ℕ → Type 0 = IsBeforeOrBehind (file_of x) (forced_of (Some (node_of x))) (adds_at program (state_of old) e.what c) in
            let reads = left-so (disk_of x) (disk_of y.0) P (file_in images c) there (crash c x y.0 is y.1) (are c x y.0 is y.1) in
            subst (λ o. ReadsAsOne (forced_of o) (adds_at program (state_of old) e.what c) (file_in images c)) (sym at) reads.1

    pub crash-sound : CrashLeavesSound program old e new
    crash-sound found here images r within before are start =
        images_are_sound program (print_of old) found here (state_of old) r e.what (read_by (state_of old)) images made.playable before.flat before.bytes (without-event program e before.event)
        within before.explained (λ c. refl) (are-images images are) start
