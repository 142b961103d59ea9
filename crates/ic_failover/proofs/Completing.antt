-- A run with a standby in which nothing goes wrong does all that was to be done, or reaches a limit.
use Rattle.std.proofs.Common.{◌≡◌, refl, ℕ, List, ◌++◌, Some, ◌⊎◌, inl, inr, ⊎_elim}
use Rattle.ic_base.specs.declared.refusals.WorldRefused.{WorldRefused}
use Rattle.ic_base.specs.declared.refusals.WorldRefused.TheVariants as refused
use Rattle.ic_base.specs.declared.report.Fault.{Fault}
use Rattle.def_standby.specs.declared.orders.Order.{Order}
use Rattle.def_standby.specs.declared.orders.Order.TheVariants.{Ship, TakeOver, Run}
use Rattle.ic_disk.specs.TornDisks.{Torn}
use Rattle.ic_disk.specs.Torns.{torn}
use Rattle.ic_disk.specs.declared.disk.Disk as disk
use Rattle.ic_disk.specs.declared.sink.Sink as sink
use Rattle.ic_failover.proofs.Midway.{told-mid}
use Rattle.ic_failover.specs.Carrying.{Stage, CarriesAll, FailsToCarry, FailsToCarryAll, FailsToSettle}
use Rattle.ic_failover.specs.Runs.{IsOfSoundLogs, EndsRefused, EndsUntold, Runs}
use Rattle.ic_failover.specs.Taking.{FailsToTake}
use Rattle.ic_failover.specs.Worlds.{as_texts, Begins, StopsShort, IsUnsummed, RunsUntold}
use Rattle.ic_failover.specs.declared.texts.FailoverTexts.{FailoverTexts}
use Rattle.ic_report.proofs.Outputs.{puts_then}
use Rattle.ic_report.specs.Ends.{EndsAs}
use Rattle.ic_report.specs.Outputs.{Puts}
use Rattle.ic_report.specs.declared.ending.Why.{Why}
use Rattle.ic_report.specs.declared.ending.Why.TheVariants.{Fault as AFault, Print, Memory}
use Rattle.ic_run.proofs.Completing.{opens-so, no-print, memory-ends}
use Rattle.ic_run.specs.Completing.{IsOfLimit, NothingFails}
use Rattle.ic_run.specs.Lending.{lent}
use Rattle.ic_run.specs.Running as running
use Rattle.ic_run.specs.Runs.{IsFault}
use Rattle.ic_run.specs.Worlds.{Opens}
use Rattle.ic_run.specs.declared.opening.Opening.TheVariants.{Anew}
use Rattle.ic_run.specs.declared.running.Cut.TheVariants as cuts
use Rattle.ic_world.specs.declared.world.World.{World}

module _ {D : Type 0} (b : disk.Ghosts D) {K : Type 0} (k : sink.Ghosts K) (tool : List ℕ) (r : FailoverTexts) (disks now : List D) (before after : K) (calm : NothingFails b k r.program r.fingerprint Anew disks now before after) where
  -- an order is refused for a limit, or for want of memory
  only-limits : (w : WorldRefused) → IsOfSoundLogs r.program w → IsFault b disks now w → IsOfLimit w ⊎ (w ≡ refused.Memory)
  only-limits (refused.Limit which) sound fault = inl tt
  only-limits (refused.LogFull c) sound fault = inl tt
  only-limits (refused.Bad c place) sound fault = inl sound.0
  only-limits (refused.Foreign c kept) sound fault = absurd sound
  only-limits (refused.Failed c) sound fault = absurd (calm.working c fault)
  only-limits refused.Memory sound fault = inr refl

  refused-at : (status : ℕ) (e : EndsRefused b k tool r disks now before after status) → (status ≡ 12) ⊎ IsOfLimit e.why
  refused-at status e =
      ⊎_elim (λ limit. inr limit) (λ memory. inl (memory-ends k tool (Some r.program) r.fingerprint e.why e.mid after status memory e.ends)) (only-limits e.why (e.sound calm.tell) e.fault)

  -- Of pieces that weren't printed the output is to blame: those before them were printed.
  module _ (mid : K) (same : after ≡ mid) (old new : World (Torn D) (torn b)) (opened : Opens b Anew r.program r.fingerprint (lent r.program.components disks) old) where
    blamed : (front back : List (List ℕ)) (told : K) → Puts k front before told → running.FailsToTell k back told mid cuts.Print → ⊥
    blamed front back told printed fails = no-print b k (as_texts r) Anew disks now before after calm front back told mid same printed fails

    module _ (a : Stage (torn b) K) (begins : Begins r old before a) (os : List Order) (m : Stage (torn b) K) (carried : CarriesAll k r os a m) where
      told : (pieces : List (List ℕ)) × Puts k pieces before m.out
      told = told-mid b k r disks old opened before a begins os m carried calm.tell

      untold-order : (o : Order) → FailsToCarry b k r o m new mid cuts.Print → ⊥
      untold-order (Run e) was = blamed (told.0 ++ _) _ was.now (puts_then k told.0 _ before m.out was.now told.1 was.printed) was.fails
      untold-order Ship (inl u) = blamed told.0 _ m.out told.1 u.fails
      untold-order Ship (inr (out_is, stays, f)) = f
      untold-order TakeOver (inl u) = blamed told.0 _ m.out told.1 u.fails
      untold-order TakeOver (inr f) = by f.1
        where
          by : FailsToTake b r.program r.who m.world new m.beside cuts.Print → ⊥
          by (inl w) = cc (w.is)
          by (inr z) = cc (z.0)

    untold-short : StopsShort b k r old new before mid cuts.Print → ⊥
    untold-short s = by s.was
      where
        by : FailsToCarryAll b k r s.first new mid cuts.Print ⊎ FailsToSettle b k r s.first new mid cuts.Print → ⊥
        by (inl f) = untold-order s.first s.begins f.first f.mid f.carried f.order f.fails
        by (inr f) =
            let y = told s.first s.begins r.orders.orders f.mid f.carried in
            let was = f.cut_off in
            blamed (y.0 ++ _) _ was.now (puts_then k y.0 _ before f.mid.out was.now y.1 was.printed) was.fails

    unsummed : IsUnsummed k r old new before mid Print → ⊥
    unsummed u =
        let w = u.through.went in
        let y = told u.through.first u.through.begins r.orders.orders w.mid w.carried in
        no-print b k (as_texts r) Anew disks now before after calm (y.0 ++ _) _ u.mid mid same (puts_then k y.0 _ before w.mid.out u.mid y.1 w.settled.printed) u.fails

    untold : RunsUntold b k r old new before mid Print → ⊥
    untold (inl s) = untold-short s.1
    untold (inr (inl s)) = cc (s.0)
    untold (inr (inr (inl u))) = unsummed u
    untold (inr (inr (inr z))) = cc (z.0)

  no-fault : (old new : World (Torn D) (torn b)) (mid : K) (fault : Fault) → RunsUntold b k r old new before mid (AFault fault) → ⊥
  no-fault old new mid fault (inl s) = cc (s.0)
  no-fault old new mid fault (inr (inl s)) = cc (s.0)
  no-fault old new mid fault (inr (inr (inl u))) = u.fails
  no-fault old new mid fault (inr (inr (inr z))) = cc (z.0)

  untold-at : (status : ℕ) → EndsUntold b k tool r disks now before after status → status ≡ 12
  untold-at status e = by e.why e.ran.ran e.ends
    where
      by : (why : Why) → RunsUntold b k r e.ran.old e.ran.new before e.mid why → EndsAs k tool (Some r.program) why e.mid after status → status ≡ 12
      by (AFault fault) u ends = absurd (no-fault e.ran.old e.ran.new e.mid fault u)
      by Print u ends = absurd (untold e.mid ends.1 e.ran.old e.ran.new e.ran.opens u)
      by Memory u ends = ends.0

  pub completes : (status : ℕ) → Runs b k tool r disks now before after status → (status ≡ 0) ⊎ ((status ≡ 12) ⊎ ((e : EndsRefused b k tool r disks now before after status) × IsOfLimit e.why))
  completes status (inl done) = inl done.0
  completes status (inr (inl e)) = inr (inl (opens-so b k (as_texts r) Anew disks now before after calm tool status e))
  completes status (inr (inr (inl e))) = inr (⊎_elim (λ memory. inl memory) (λ limit. inr (e, limit)) (refused-at status e))
  completes status (inr (inr (inr e))) = inr (inl (untold-at status e))
