-- What an event leaves that is refused before anything is done.
use Rattle.std.proofs.Common.{◌≡◌, ◌∙◌, ◌⊎◌, inl, inr, ⊎_elim, true, false, sym, ap, refl, subst, ℕ, zero, suc, List, [], ◌∷◌, map, Option, Some}
use Rattle.std.specs.Prelude.{slice_get, slice_set}
use Rattle.ic_base.specs.declared.events.Event.{Event}
use Rattle.ic_base.specs.declared.messages.ComId.{ComId}
use Rattle.ic_base.specs.declared.refusals.Which.TheVariants.{Receipts, Packets}
use Rattle.ic_base.specs.declared.refusals.WorldRefused.{WorldRefused}
use Rattle.ic_base.specs.declared.refusals.WorldRefused.TheVariants as refused
use Rattle.ic_base.specs.declared.scenario.Program.{Program}
use Rattle.def_log.specs.Images.{LeavesJust}
use Rattle.def_run.specs.CoreSteps.{is_full_at}
use Rattle.def_step.specs.World.{is_reached}
use Rattle.ic_disk.specs.TornDisks.{Torn}
use Rattle.ic_disk.specs.declared.disk.Disk.{Ghosts}
use Rattle.ic_node.specs.Meeting.{rests_on, Rests, IsUnmoved}
use Rattle.ic_node.specs.Views as nodes
use Rattle.ic_node.specs.declared.component.Component.{Component}
use Rattle.ic_node.specs.declared.done.NodeRefused.{NodeRefused}
use Rattle.ic_node.specs.declared.done.NodeRefused.TheVariants.{Full, Bad, Foreign, Failed, Memory}
use Rattle.ic_world.specs.Acting.{FailsToAct, FailsAt, DidWork}
use Rattle.ic_world.specs.Allowing.{IsMadeFor, is_allowed}
use Rattle.ic_work.specs.Components.{FailsToWork, HasRoom, refusal_of}
use Rattle.ic_work.specs.Working.{work_of}
use Rattle.ic_world.specs.Standing.{ArePlaced, HoldLogs}
use Rattle.ic_world.specs.Stepping.{StayAtRest, StayBy, CrashLeavesFiles}
use Rattle.ic_world.specs.Tasks as tasks
use Rattle.ic_world.specs.Views.{components_of, world_of, state_of, print_of, received_of, Tells}
use Rattle.ic_work.specs.declared.work.Work.{Work}
use Rattle.ic_work.specs.declared.work.Work.TheVariants.{Calls, Crashes, Recovers}
use Rattle.ic_world.specs.declared.world.World.{World}
use Rattle.ic_world.proofs.Durable.{disk-durable}
use Rattle.ic_world.proofs.Places.{same-some}
use Rattle.ic_world.proofs.Refusing.{did-fit, would-fit}

-- an element is replaced by one of which the same is read
map-itself : {X Y : Type 0} (f : X → Y) (xs : List X) (i : ℕ) (x y : X) → slice_get xs i ≡ Some x → f y ≡ f x → map f (slice_set xs i y) ≡ map f xs
map-itself f [] i x y at e = refl
map-itself f (z ∷ xs) zero x y at e = ap (λ w. w ∷ map f xs) (e ∙ ap f (sym (same-some z x at)))
map-itself f (z ∷ xs) (suc i) x y at e = ap (λ l. f z ∷ l) (map-itself f xs i x y at e)

-- what stands in a list with one element replaced is the new one or stood there
set-or-there : {X : Type 0} (xs : List X) (i k : ℕ) (y z : X) → slice_get (slice_set xs i y) k ≡ Some z → (y ≡ z) ⊎ (slice_get xs k ≡ Some z)
set-or-there [] i k y z e = inr e
set-or-there (x ∷ xs) zero zero y z e = inl (same-some y z e)
set-or-there (x ∷ xs) zero (suc k) y z e = inr e
set-or-there (x ∷ xs) (suc i) zero y z e = inr e
set-or-there (x ∷ xs) (suc i) (suc k) y z e = set-or-there xs i k y z e

module _ {D : Type 0} (b : Ghosts D) {d : Ghosts (Torn D)} (program : Program) (old mid new : World (Torn D) d) (e : Event) (c : ComId) (work : Work) (task : tasks.task_of (world_of old) e.what ≡ tasks.Asks (world_of mid) c (work_of work)) (same : components_of mid ≡ components_of old) (received : received_of mid ≡ received_of old) (print : print_of mid ≡ print_of old) (placed : ArePlaced (components_of old)) (logs : HoldLogs (print_of old) (components_of old)) where
  -- where another component stands in its place, of whose disk a crash leaves just what it reads, it does so of all
  rest-all : (now : Component (Torn D) d) → components_of new ≡ slice_set (components_of mid) c.0 now → Rests now → CrashLeavesFiles new
  rest-all now set rests k y disk at has keeps = by (set-or-there (components_of mid) c.0 k now y (ap (λ xs. slice_get xs k) (sym set) ∙ at))
    where
      by : (now ≡ y) ⊎ (slice_get (components_of mid) k ≡ Some y) → LeavesJust (d.may_leave disk) (d.seen disk)
      by (inl is) = let rests-there : rests_on d (Some disk) = subst (rests_on d) (ap (λ z. nodes.disk_of z) is ∙ has) rests in rests-there keeps
      by (inr there) = disk-durable y disk (placed k y (ap (λ xs. slice_get xs k) (sym same) ∙ there)).1 has keeps

  -- the component that did nothing is as it was
  module _ (why : WorldRefused) (g : FailsAt b program mid e c work new why) (still : IsUnmoved g.before g.now) where
    files-same : Tells old → (state_of new).files ≡ (state_of old).files
    files-same tells =
        ap (map (λ z. nodes.file_of z)) (g.set ∙ ap (λ xs. slice_set xs c.0 g.now) same)
        ∙ map-itself (λ z. nodes.file_of z) (components_of old) c.0 g.before g.now there (still.file (tells c.0 g.before there))
      where
        there : slice_get (components_of old) c.0 ≡ Some g.before
        there = ap (λ xs. slice_get xs c.0) (sym same) ∙ g.at

    at-rest : StayAtRest old new
    at-rest = (files-same, rest-all g.now g.set still.rests)

  -- no component is another
  all-same : components_of new ≡ components_of old → StayAtRest old new
  all-same is = (
    λ tells. ap (map (λ z. nodes.file_of z)) is,
    λ k x disk at has keeps. disk-durable x disk (placed k x (ap (λ xs. slice_get xs k) (sym is) ∙ at)).1 has keeps,
  )

  -- a log is full
  log-full : (x : ComId) → FailsAt b program mid e c work new (refused.LogFull x) → StayAtRest old new
  log-full x g = at-rest (refused.LogFull x) g (by g.node_why work g.is g.fails)
    where
      by : (why : NodeRefused) (k : Work) → refused.LogFull x ≡ refusal_of c why → FailsToWork b program (print_of mid) g.before e.stop k g.now why → IsUnmoved g.before g.now
      by Full (Calls n call) is f = f.cause.1
      by Full Crashes is f = absurd (cc)
      by Full Recovers is f = absurd f
      by (Bad place) k is f = absurd (cc)
      by (Foreign kept) k is f = absurd (cc)
      by Failed k is f = absurd (cc)
      by Memory k is f = absurd (cc)

  -- memory is wanted in its work, or behind it
  wants-memory : FailsToAct b program mid e c work new refused.Memory → CrashLeavesFiles new
  wants-memory = ⊎_elim (λ g. rest-all g.now g.set (by g.node_why work g.before g.now g.is g.fails)) (λ p. rest-all p.now p.set (p.now.durable p.works.goes_on.open_still))
    where
      by : (why : NodeRefused) (k : Work) (before now : Component (Torn D) d) → refused.Memory ≡ refusal_of c why → FailsToWork b program (print_of mid) before e.stop k now why → Rests now
      by Memory (Calls n call) before now is f = f.cause
      by Memory Crashes before now is f = f.1
      by Memory Recovers before now is f = f
      by Full k before now is f = absurd (cc)
      by (Bad place) k before now is f = absurd (cc)
      by (Foreign kept) k before now is f = absurd (cc)
      by Failed k before now is f = absurd (cc)

  pub unmoved-where : (why : WorldRefused) → FailsToAct b program mid e c work new why → StayBy old new why
  unmoved-where (refused.Limit Receipts) f = f.1 ∙ same
  unmoved-where (refused.LogFull x) f = log-full x f
  unmoved-where (refused.Limit Packets) f = tt
  unmoved-where (refused.Bad x place) f = tt
  unmoved-where (refused.Foreign x kept) f = tt
  unmoved-where (refused.Failed x) f = tt
  unmoved-where refused.Memory f = wants-memory f

  -- the work isn't done
  undone : (why : WorldRefused) → FailsAt b program mid e c work new why → (Tells old → is_full_at program (state_of old) e.what ≡ false) ⊎ StayAtRest old new
  undone why g = ⊎_elim (λ room. inl (λ tells. would-fit b program old mid new e c work task same received print placed logs tells why g room)) (λ still. inr (at-rest why g still)) (by work g.fails)
    where
      by : (k : Work) → FailsToWork b program (print_of mid) g.before e.stop k g.now g.node_why → HasRoom program g.before k ⊎ IsUnmoved g.before g.now
      by (Calls n call) f = f.rests
      by Crashes f = inl tt
      by Recovers f = inl tt

  module _ (unreached : is_reached e.stop 0 ≡ false) (made : IsMadeFor program (world_of old)) (allowed : is_allowed program e.what ≡ true) where
    -- it is done, and isn't told
    untold : DidWork program mid e c work new → (Tells old → is_full_at program (state_of old) e.what ≡ false) ⊎ StayAtRest old new
    untold p = inl (λ tells. did-fit b program old mid new e c work task same received print placed logs tells unreached made allowed p)

    pub rests-where : (why : WorldRefused) → FailsToAct b program mid e c work new why → (Tells old → is_full_at program (state_of old) e.what ≡ false) ⊎ StayAtRest old new
    rests-where (refused.Limit Receipts) f = inr (all-same (f.1 ∙ same))
    rests-where (refused.Limit Packets) f = untold f.did
    rests-where refused.Memory f = ⊎_elim (undone refused.Memory) untold f
    rests-where (refused.LogFull x) f = undone (refused.LogFull x) f
    rests-where (refused.Bad x place) f = undone (refused.Bad x place) f
    rests-where (refused.Foreign x kept) f = undone (refused.Foreign x kept) f
    rests-where (refused.Failed x) f = undone (refused.Failed x) f
