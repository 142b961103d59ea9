-- Where a component's disk failed, the disk of that component of the world has.
use Rattle.std.proofs.Common.{◌≡◌, ◌∙◌, sym, ap, subst}
use Rattle.std.specs.Prelude.{slice_get}
use Rattle.ic_base.specs.declared.events.Event.{Event}
use Rattle.ic_base.specs.declared.messages.ComId.{ComId}
use Rattle.ic_base.specs.declared.refusals.WorldRefused.{WorldRefused}
use Rattle.ic_base.specs.declared.refusals.WorldRefused.TheVariants as refused
use Rattle.ic_base.specs.declared.scenario.Program.{Program}
use Rattle.ic_disk.specs.TornDisks.{Torn}
use Rattle.ic_disk.specs.declared.disk.Disk.{Ghosts}
use Rattle.ic_node.specs.Faults.{HasFault}
use Rattle.ic_node.specs.declared.done.NodeRefused.{NodeRefused}
use Rattle.ic_node.specs.declared.done.NodeRefused.TheVariants.{Full, Bad, Foreign, Failed, Memory}
use Rattle.ic_world.specs.Acting.{FailsToAct, FailsAt}
use Rattle.ic_work.specs.Components.{FailsToWork, refusal_of}
use Rattle.ic_world.specs.Stepping.{IsFailed}
use Rattle.ic_world.specs.Views.{components_of, print_of}
use Rattle.ic_work.specs.declared.work.Work.{Work}
use Rattle.ic_work.specs.declared.work.Work.TheVariants.{Calls, Crashes, Recovers}
use Rattle.ic_world.specs.declared.world.World.{World}
use Rattle.ic_world.proofs.Lists.{get-within, get-set_same}

module _ {D : Type 0} (b : Ghosts D) {d : Ghosts (Torn D)} (program : Program) (old mid new : World (Torn D) d) (e : Event) (c : ComId) (work : Work) (same : components_of mid ≡ components_of old) where
  disk-failed : (x : ComId) → FailsAt b program mid e c work new (refused.Failed x) → IsFailed b old new (refused.Failed x)
  disk-failed x g = by g.node_why work g.is g.fails
    where
      there : refused.Failed x ≡ refused.Failed c → HasFault b g.before g.now → IsFailed b old new (refused.Failed x)
      there is fault =
          let who : x ≡ c = cc in
          let P : ComId → Type 0 = λ z. IsFailed b old new (refused.Failed z) in
          subst P (sym who) (
            g.before,
            g.now,
            ap (λ xs. slice_get xs c.0) (sym same) ∙ g.at,
            ap (λ xs. slice_get xs c.0) g.set ∙ get-set_same (components_of mid) c.0 g.now (get-within (components_of mid) c.0 g.before g.at),
            fault,
          )

      by : (why : NodeRefused) (k : Work) → refused.Failed x ≡ refusal_of c why → FailsToWork b program (print_of mid) g.before e.stop k g.now why → IsFailed b old new (refused.Failed x)
      by Failed (Calls n call) is f = there is f.cause
      by Failed Crashes is f = absurd (cc)
      by Failed Recovers is f = there is f
      by Full k is f = absurd (cc)
      by (Bad place) k is f = absurd (cc)
      by (Foreign kept) k is f = absurd (cc)
      by Memory k is f = absurd (cc)

  pub failed-where : (why : WorldRefused) → FailsToAct b program mid e c work new why → IsFailed b old new why
  failed-where (refused.Failed x) f = disk-failed x f
  failed-where (refused.Limit w) f = tt
  failed-where (refused.LogFull x) f = tt
  failed-where (refused.Bad x place) f = tt
  failed-where (refused.Foreign x kept) f = tt
  failed-where refused.Memory f = tt
