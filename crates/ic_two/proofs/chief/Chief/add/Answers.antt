use Rattle.std.proofs.Common.{◌∙◌, refl, inl, sym, ap}
use Rattle.def_two.specs.Chief.{docket_of}
use Rattle.ic_two.specs.ChiefLogs.{records_of, disk_of}
use Rattle.ic_two.specs.RecordLogs.{IsBeforeOrBehind}
use Rattle.ic_two.specs.Views as views
use Rattle.ic_two.proofs.ChiefServing.{counted_same, entered}
use Rattle.ic_two.proofs.Committed.{standing}
use Rattle.ic_two.proofs.Pushing.{of_same, nothing_done}
use Rattle.ic_two.proofs.chief.Chief.add.Goals as goal

pub invariant_of-self : goal.invariant_of-self
invariant_of-self g c =
    let old = c.args.self.now in
    let same = c.reserve.ensures.same in
    record { state = same.docket ∙ old.state; counted = counted_same old.core c.reserve.new.self same old.counted }

pub returns-then-is_err-clause-crash : goal.returns-then-is_err-clause-crash
returns-then-is_err-clause-crash g c =
    let old = c.args.self.now in
    let law = g.met.D.Disk in
    nothing_done {D = g.row.D.Denot} {d = g.D.Disk} (disk_of old) (IsBeforeOrBehind (g.D.Disk.seen (disk_of old)) (records_of old) c.args.r) law.only_now (λ keeps. old.log.durable keeps c.requires.open)
    (λ keeps. (of_same refl, inl (standing {D = g.row.D.Denot} {d = g.D.Disk} old.log (law.keeping_tells (disk_of old) keeps) c.requires.open)))

pub invariant_of-self-in-Ok : goal.invariant_of-self-in-Ok
invariant_of-self-in-Ok g c =
    let old = c.args.self.now in
    let mid = c.reserve.new.self in
    let same = c.reserve.ensures.same in
    record {
      state = c.hear.ensures.docket ∙ entered mid c.enter.new.self (records_of old) (views.records_of c.commit.new.self) c.args.r (same.docket ∙ old.state) c.enter.ensures.docket (c.in-Ok.ensures {u = tt}).step.records;
      counted = c.hear.ensures.counted (c.enter.ensures.counted (counted_same old.core mid same old.counted) c.requires.counted);
    }

pub invariant_of-self-in-Err-1 : goal.invariant_of-self-in-Err-1
invariant_of-self-in-Err-1 g c =
    let old = c.args.self.now in
    let same = c.reserve.ensures.same in
    record { state = same.docket ∙ old.state ∙ ap docket_of (sym (c.in-Err.ensures {u = tt}).kept); counted = counted_same old.core c.reserve.new.self same old.counted }
