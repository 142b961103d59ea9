-- A disk that is told as failed has failed since the call began, or stands stopped.
use Rattle.std.proofs.Common.{◌≡◌, ◌∙◌, sym, ap, subst, ℕ, true, ◌≤◌, List, [], ◌∷◌, length, ◌⊎◌, inl, inr}
use Rattle.std.specs.Prelude.{slice_get}
use Rattle.ic_base.specs.declared.refusals.WorldRefused.{WorldRefused}
use Rattle.ic_base.specs.declared.refusals.WorldRefused.TheVariants as refused
use Rattle.def_run.specs.Executions.{Agenda, whole_agenda}
use Rattle.def_run.specs.SystemStates.{Transition}
use Rattle.def_standby.specs.Standbys.{Standby, contents_to}
use Rattle.def_standby.specs.declared.orders.Order.{Order}
use Rattle.def_standby.specs.declared.orders.Order.TheVariants.{Ship, TakeOver, Run}
use Rattle.ic_disk.specs.TornDisks.{Torn}
use Rattle.ic_disk.specs.Torns.{torn}
use Rattle.ic_disk.specs.declared.disk.Disk as disk
use Rattle.ic_disk.specs.declared.sink.Sink as sink
use Rattle.ic_failover.proofs.Keeping.{keeps_both, others_keep}
use Rattle.ic_failover.proofs.Midway.{keeps-mid}
use Rattle.ic_failover.specs.Carrying.{Stage, CarriesAll, FailsToCarry, FailsToCarryAll, FailsToSettle, intervals_for, telling_for}
use Rattle.ic_failover.specs.Taking as taking
use Rattle.ic_failover.specs.Worlds.{as_texts, Begins, StopsShort}
use Rattle.ic_failover.specs.declared.texts.FailoverTexts.{FailoverTexts}
use Rattle.ic_node.specs.TakingOver as nodes
use Rattle.ic_node.specs.declared.done.NodeRefused.{NodeRefused}
use Rattle.ic_node.specs.declared.done.NodeRefused.TheVariants as node_refused
use Rattle.ic_run.proofs.Came.{fault-at}
use Rattle.ic_run.proofs.Worlds.{keeps-more}
use Rattle.ic_run.specs.Lending.{lent, left_over, merged}
use Rattle.ic_run.specs.Runs.{IsFault}
use Rattle.ic_run.specs.Running.{KeepsAll, WasRefused, lines_behind}
use Rattle.ic_run.specs.Worlds.{Opens}
use Rattle.ic_run.specs.declared.opening.Opening.TheVariants.{Anew}
use Rattle.ic_run.specs.declared.running.Cut.TheVariants as cuts
use Rattle.ic_work.specs.Components.{refusal_of}
use Rattle.ic_world.proofs.Lists.{get-set_same, get-within}
use Rattle.ic_world.specs.Opening.{disks_under}
use Rattle.ic_world.specs.Stepping.{IsFailed}
use Rattle.ic_world.specs.TakingOver.{FailsToTakeOver}
use Rattle.ic_world.specs.Acting.{KeepsOthers}
use Rattle.ic_world.specs.Views.{components_of, world_of, print_of}
use Rattle.ic_world.specs.declared.world.World.{World}

module _ {D : Type 0} (b : disk.Ghosts D) {K : Type 0} (k : sink.Ghosts K) (r : FailoverTexts) (disks : List D) (few : length r.program.components ≤ length disks) (old : World (Torn D) (torn b)) (opened : Opens b Anew r.program r.fingerprint (lent r.program.components disks) old) (before : K) (new : World (Torn D) (torn b)) (after : K) (why : WorldRefused) where
  -- the disks that are handed back
  abbrev now : List D
  now = merged r.program.components (left_over r.program.components disks) (disks_under (components_of new))

  -- in an event that was refused at a world on the way
  event-fault : (mid : World (Torn D) (torn b)) → KeepsAll old mid → KeepsAll old new → (w : WorldRefused) → IsFailed b mid new w → IsFault b disks now w
  event-fault mid kept keeps (refused.Failed c) f = fault-at b (as_texts r) Anew disks few old opened mid new kept keeps c f.0 f.1 f.2 f.3 f.4
  event-fault mid kept keeps (refused.Limit which) f = tt
  event-fault mid kept keeps (refused.LogFull c) f = tt
  event-fault mid kept keeps (refused.Bad c place) f = tt
  event-fault mid kept keeps (refused.Foreign c held) f = tt
  event-fault mid kept keeps refused.Memory f = tt

  cut-fault : (mid : World (Torn D) (torn b)) → KeepsAll old mid → (lines : List Transition → List (List ℕ)) (agenda : Agenda) (was-out : K) → WasRefused b k r.program (intervals_for r) lines agenda mid new was-out after why → IsFault b disks now why
  cut-fault mid kept lines agenda was-out was =
      event-fault was.now (keeps_both old mid was.now kept was.goes.disks) (keeps_both old mid new kept (keeps-more mid was.now new was.event.what was.goes.disks was.disks)) why was.fails.failed

  -- in a takeover
  take-fault : (mid : World (Torn D) (torn b)) → KeepsAll old mid → KeepsOthers mid r.who new → (standby : Standby) → FailsToTakeOver b r.program mid r.who (contents_to r.who (world_of mid).packets) standby.state standby.have new why → IsFault b disks now why
  take-fault mid kept others standby x = subst (IsFault b disks now) (sym x.is) (by x.node_why x.fails)
    where
      by : (w : NodeRefused) → nodes.FailsToTakeOver b r.program (print_of mid) x.before (contents_to r.who (world_of mid).packets) standby.state standby.have x.now w → IsFault b disks now (refusal_of r.who w)
      by node_refused.Failed f =
          fault-at b (as_texts r) Anew disks few old opened mid new kept (keeps_both old mid new kept (others_keep mid new r.who others)) r.who x.before x.now x.at
          (ap (λ l. slice_get l r.who.0) x.set ∙ get-set_same (components_of mid) r.who.0 x.now (get-within (components_of mid) r.who.0 x.before x.at)) f
      by node_refused.Full f = tt
      by (node_refused.Bad place) f = tt
      by (node_refused.Foreign held) f = tt
      by node_refused.Memory f = tt

  module _ (a : Stage (torn b) K) (begins : Begins r old before a) (os : List Order) (m : Stage (torn b) K) (carried : CarriesAll k r os a m) where
    kept-mid : KeepsAll old m.world
    kept-mid = keeps-mid b k r disks old opened before a begins os m carried

    order-fault : (o : Order) → FailsToCarry b k r o m new after (cuts.Refused why) → IsFault b disks now why
    order-fault (Run e) f = cut-fault m.world kept-mid (lines_behind (telling_for r) m.tally.events) (whole_agenda (e ∷ []) true) m.out f
    order-fault Ship (inl u) = absurd u.fails
    order-fault Ship (inr (out_is, same, f)) = subst (IsFault b disks now) (sym f.0) tt
    order-fault TakeOver (inl u) = absurd u.fails
    order-fault TakeOver (inr f) = by f.1
      where
        by : taking.FailsToTake b r.program r.who m.world new m.beside (cuts.Refused why) → IsFault b disks now why
        by (inl w) =
            take-fault m.world kept-mid w.others w.standby
            (subst (λ z. FailsToTakeOver b r.program m.world r.who (contents_to r.who (world_of m.world).packets) w.standby.state w.standby.have new z) (same w.why w.is) w.fails)
          where
            same : (v : WorldRefused) → cuts.Refused why ≡ cuts.Refused v → v ≡ why
            same v e = cc
        by (inr z) = absurd (cc (z.0))

  pub short-fault : StopsShort b k r old new before after (cuts.Refused why) → IsFault b disks now why
  short-fault s = by s.was
    where
      by : FailsToCarryAll b k r s.first new after (cuts.Refused why) ⊎ FailsToSettle b k r s.first new after (cuts.Refused why) → IsFault b disks now why
      by (inl f) = order-fault s.first s.begins f.first f.mid f.carried f.order f.fails
      by (inr f) = cut-fault f.mid.world (kept-mid s.first s.begins r.orders.orders f.mid f.carried) (lines_behind (telling_for r) f.mid.tally.events) (whole_agenda [] r.orders.halts) f.mid.out f.cut_off
