-- Whatever orders do, the disks of the world are kept.
use Rattle.std.proofs.Common.{◌≡◌, ◌∙◌, refl, sym, subst, ℕ, true, List, [], ◌∷◌, inl, inr}
use Rattle.ic_base.specs.declared.events.What.TheVariants.{Crash}
use Rattle.ic_base.specs.declared.messages.ComId.{ComId}
use Rattle.def_failover.specs.declared.note.Note.{Note}
use Rattle.def_run.specs.Executions.{Agenda, whole_agenda}
use Rattle.def_standby.specs.declared.orders.Order.{Order}
use Rattle.def_standby.specs.declared.orders.Order.TheVariants.{Ship, TakeOver, Run}
use Rattle.ic_disk.specs.TornDisks.{Torn}
use Rattle.ic_disk.specs.declared.disk.Disk as disk
use Rattle.ic_disk.specs.declared.sink.Sink as sink
use Rattle.ic_failover.specs.Carrying.{Stage, Acts, Carries, CarriesAll, WentThrough, FailsToCarry, FailsToCarryAll, FailsToSettle, intervals_for, telling_for}
use Rattle.ic_failover.specs.Sides.{Beside}
use Rattle.ic_failover.specs.Taking.{Takes}
use Rattle.ic_failover.specs.declared.texts.FailoverTexts.{FailoverTexts}
use Rattle.ic_run.proofs.Lasting.{keeps-self}
use Rattle.ic_run.proofs.Ways.{kept-then}
use Rattle.ic_run.proofs.Worlds.{between, keeps-more}
use Rattle.ic_run.specs.Running.{KeepsAll, WasCut}
use Rattle.ic_run.specs.declared.tally.Tally.{Tally}
use Rattle.ic_run.specs.declared.running.Cut.{Cut}
use Rattle.ic_run.specs.declared.running.Cut.TheVariants as cuts
use Rattle.ic_work.specs.declared.work.Work.TheVariants.{Crashes}
use Rattle.ic_node.specs.Views.{disk_of}
use Rattle.ic_world.proofs.Crashes.{disks-asked}
use Rattle.ic_world.specs.Acting.{KeepsOthers}
use Rattle.ic_world.specs.declared.world.World.{World}

module _ {D : Type 0} {d : disk.Ghosts D} where
  pub keeps_both : (old mid new : World D d) → KeepsAll old mid → KeepsAll mid new → KeepsAll old new
  keeps_both old mid new first second = record {
    print = second.print ∙ first.print;
    count = second.count ∙ first.count;
    kept = λ k x y at now.
        let z = between old mid k x first.count at in
        kept-then d (disk_of x) (disk_of z.0) (disk_of y) (first.kept k x z.0 at z.1) (second.kept k z.0 y z.1 now);
  }

  -- all but one component stay
  pub others_keep : (old new : World D d) (c : ComId) → KeepsOthers old c new → KeepsAll old new
  others_keep old new c others =
      let s = disks-asked old old new (Crash c) c Crashes refl refl refl others in
      record { print = s.print; count = s.count; kept = s.kept }

  pub same-keep : (old new : World D d) → new ≡ old → KeepsAll old new
  same-keep old new same = subst (λ z. KeepsAll old z) (sym same) (keeps-self old)

  takes-keep : (r : FailoverTexts) (old : World D d) (a : Beside) (note : Note) (new : World D d) (b : Beside) → Takes r.program r.who old a note new b → KeepsAll old new
  takes-keep r old a note new b (inl t) = same-keep old new t.0
  takes-keep r old a note new b (inr t) = others_keep old new r.who t.2.others

  pub acts_keep : (r : FailoverTexts) (o : Order) (old : World D d) (a : Beside) (note : Note) (new : World D d) (b : Beside) → Acts r o old a note new b → KeepsAll old new
  acts_keep r (Run e) old a note new b t = absurd t
  acts_keep r Ship old a note new b t = same-keep old new t.0
  acts_keep r TakeOver old a note new b t = takes-keep r old a note new b t

  module _ {K : Type 0} (k : sink.Ghosts K) (r : FailoverTexts) where
    pub carries_keep : (o : Order) (a b : Stage d K) → Carries k r o a b → KeepsAll a.world b.world
    carries_keep (Run e) a b c = c.executed.goes.disks
    carries_keep Ship a b c = acts_keep r Ship a.world a.beside c.0 b.world b.beside c.1.acts
    carries_keep TakeOver a b c = acts_keep r TakeOver a.world a.beside c.0 b.world b.beside c.1.acts

    pub all_keep : (os : List Order) (a b : Stage d K) → CarriesAll k r os a b → KeepsAll a.world b.world
    all_keep [] a b same = subst (λ (z : Stage d K). KeepsAll a.world z.world) same (keeps-self a.world)
    all_keep (o ∷ os) a b c = keeps_both a.world c.0.world b.world (carries_keep o a c.0 c.1) (all_keep os c.0 b c.2)

module _ {D : Type 0} (b : disk.Ghosts D) {d : disk.Ghosts (Torn D)} {K : Type 0} (k : sink.Ghosts K) (r : FailoverTexts) where
  cut-keeps : (number : ℕ) (agenda : Agenda) (old new : World (Torn D) d) (before after : K) (cut : Cut) → WasCut b k r.program (intervals_for r) (telling_for r) number agenda old new before after cut → KeepsAll old new
  cut-keeps number agenda old new before after (cuts.Refused why) was = keeps-more old was.now new was.event.what was.goes.disks was.disks
  cut-keeps number agenda old new before after cuts.Print was = was.goes.disks
  cut-keeps number agenda old new before after cuts.Memory was = was.goes.disks

  fails-keep : (o : Order) (a : Stage d K) (new : World (Torn D) d) (after : K) (cut : Cut) → FailsToCarry b k r o a new after cut → KeepsAll a.world new
  fails-keep (Run e) a new after cut f = cut-keeps a.tally.events (whole_agenda (e ∷ []) true) a.world new a.out after cut f
  fails-keep Ship a new after cut (inl u) = acts_keep r Ship a.world a.beside u.note new u.beside u.acts
  fails-keep Ship a new after cut (inr u) = subst (λ z. KeepsAll a.world z) (sym u.1) (keeps-self a.world)
  fails-keep TakeOver a new after cut (inl u) = acts_keep r TakeOver a.world a.beside u.note new u.beside u.acts
  fails-keep TakeOver a new after cut (inr (after_is, inl w)) = others_keep a.world new r.who w.others
  fails-keep TakeOver a new after cut (inr (after_is, inr w)) = subst (λ z. KeepsAll a.world z) (sym w.1) (keeps-self a.world)

  pub carry_keeps : (a : Stage d K) (new : World (Torn D) d) (after : K) (cut : Cut) → FailsToCarryAll b k r a new after cut → KeepsAll a.world new
  carry_keeps a new after cut f = keeps_both a.world f.mid.world new (all_keep k r f.first a f.mid f.carried) (fails-keep f.order f.mid new after cut f.fails)

  pub settle_keeps : (a : Stage d K) (new : World (Torn D) d) (after : K) (cut : Cut) → FailsToSettle b k r a new after cut → KeepsAll a.world new
  settle_keeps a new after cut f = keeps_both a.world f.mid.world new (all_keep k r r.orders.orders a f.mid f.carried) (cut-keeps f.mid.tally.events (whole_agenda [] r.orders.halts) f.mid.world new f.mid.out after cut f.cut_off)

module _ {D : Type 0} {d : disk.Ghosts D} {K : Type 0} (k : sink.Ghosts K) (r : FailoverTexts) (a : Stage d K) (new : World D d) where
  pub through_keeps : (after : K) (shipped : ℕ) (tally : Tally) → WentThrough k r a new after shipped tally → KeepsAll a.world new
  through_keeps after shipped tally w = keeps_both a.world w.mid.world new (all_keep k r r.orders.orders a w.mid w.carried) w.settled.goes.disks
