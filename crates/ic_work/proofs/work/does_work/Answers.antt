use Rattle.std.proofs.Common.{◌≡◌, refl, sym, subst, Result, Ok, Err, IfOk, IfErr, Option}
use Rattle.ic_disk.specs.declared.torn_disk.TornDisk.{TornDisk}
use Rattle.ic_node.specs.DeviceCalls.{MakesCalls}
use Rattle.ic_node.specs.Meeting.{CrashAdds, left_disk, rests_on}
use Rattle.ic_gate.specs.RecordFiles.{IsBeforeOrBehind}
use Rattle.def_run.specs.CoreSteps.{forced_of}
use Rattle.std.specs.Prelude.{Some, is_ok}
use Rattle.ic_disk.specs.Torns.{torn}
use Rattle.ic_node.specs.Views.{node_of, com_of, disk_of, file_of}
use Rattle.ic_node.specs.declared.done.NodeRefused.{NodeRefused}
use Rattle.ic_node.specs.declared.done.NodeRefused.TheVariants.{Memory}
use Rattle.ic_work.specs.Components.{Works, FailsToWork, would_add}
use Rattle.ic_work.specs.Tasks.{work_calls}
use Rattle.ic_work.specs.Working.{work_of}
use Rattle.ic_work.specs.declared.work.Work.{Work}
use Rattle.ic_work.proofs.Rests.{component-rests}
use Rattle.ic_work.proofs.Works.{calls-work, recovery-works, crash-works}
use Rattle.ic_node.proofs.DeviceCalls.{makes_none}
use Rattle.ic_work.proofs.work.does_work.Goals as goal

pub returns-in-Calls-clause-step : goal.returns-in-Calls-clause-step
returns-in-Calls-clause-step g c =
    let W : Work → Type 0 = λ w. IfOk c.does.result (Works c.args.program.now c.args.x.now c.args.stop w c.does.new.self) in
    subst W (sym c.in-Calls.is) (calls-work c.args.program.now c.args.x.now c.does.new.self c.args.stop c.in-Calls.number c.in-Calls.call c.does.result c.does.ensures.step)

pub returns-in-Calls-clause-crash : goal.returns-in-Calls-clause-crash
returns-in-Calls-clause-crash g c =
    let W : Work → Type 0 = λ w. CrashAdds (would_add c.args.program.now c.args.x.now w) c.args.x.now c.does.new.self in
    subst W (sym c.in-Calls.is) c.does.ensures.crash

pub returns-in-Calls-clause-refused : goal.returns-in-Calls-clause-refused
returns-in-Calls-clause-refused g c =
    let W : Work → Type 0 = λ w. IfErr c.does.result (FailsToWork g.D.Disk c.args.program.now c.args.fingerprint.now c.args.x.now c.args.stop w c.does.new.self) in
    subst W (sym c.in-Calls.is) c.does.ensures.refused

pub returns-in-Crashes-clause-step : goal.returns-in-Crashes-clause-step
returns-in-Crashes-clause-step g c =
    let W : Work → Type 0 = λ w. IfOk c.crashes.result (Works c.args.program.now c.args.x.now c.args.stop w c.crashes.new.self) in
    subst W (sym c.in-Crashes.is) (crash-works c.args.program.now c.args.x.now c.crashes.new.self c.args.stop c.crashes.result c.requires.ready.going c.crashes.ensures.step)

pub returns-in-Crashes-clause-crash : goal.returns-in-Crashes-clause-crash
returns-in-Crashes-clause-crash g c =
    let law = g.met.D.Disk in
    let x = c.args.x.now in
    let added = would_add c.args.program.now x c.args.work.now in
    let rests = component-rests g.D.Disk law.only_now law.keeping_tells x added c.requires.ready.going in
    let L : Option (TornDisk g.row.D.Denot) → Type 0 = λ o. left_disk (torn g.D.Disk) (disk_of x) o (IsBeforeOrBehind (file_of x) (forced_of (Some (node_of x))) added) in
    subst L (sym c.crashes.ensures.disk) rests

-- its disk is the same
at_rest : {A : Type 0} {P : Type 0} (r : Result A NodeRefused) → IfErr r (λ why. why ≡ Memory) → P → IfErr r (λ why. (why ≡ Memory) × P)
at_rest (Ok done) is rests = tt
at_rest (Err why) is rests = (is, rests)

pub returns-in-Crashes-clause-refused : goal.returns-in-Crashes-clause-refused
returns-in-Crashes-clause-refused g c =
    let x = c.args.x.now in
    let W : Work → Type 0 = λ w. IfErr c.crashes.result (FailsToWork g.D.Disk c.args.program.now c.args.fingerprint.now x c.args.stop w c.crashes.new.self) in
    subst W (sym c.in-Crashes.is) (at_rest c.crashes.result c.crashes.ensures.refused (subst (rests_on (torn g.D.Disk)) (sym c.crashes.ensures.disk) (x.durable c.requires.ready.going)))

pub returns-in-Recovers-clause-step : goal.returns-in-Recovers-clause-step
returns-in-Recovers-clause-step g c =
    let W : Work → Type 0 = λ w. IfOk c.recovers.result (Works c.args.program.now c.args.x.now c.args.stop w c.recovers.new.self) in
    subst W (sym c.in-Recovers.is) (recovery-works c.args.program.now c.args.x.now c.recovers.new.self c.args.stop c.recovers.result c.recovers.ensures.step)

pub returns-in-Recovers-clause-crash : goal.returns-in-Recovers-clause-crash
returns-in-Recovers-clause-crash g c =
    let W : Work → Type 0 = λ w. CrashAdds (would_add c.args.program.now c.args.x.now w) c.args.x.now c.recovers.new.self in
    subst W (sym c.in-Recovers.is) c.recovers.ensures.crash

pub returns-in-Calls-clause-calls : goal.returns-in-Calls-clause-calls
returns-in-Calls-clause-calls g c =
    let x = c.args.x.now in
    let W : Work → Type 0 = λ w. MakesCalls (work_calls c.args.program.now (com_of x) (node_of x) (work_of w)) c.args.stop (is_ok c.does.result) x c.does.new.self in
    subst W (sym c.in-Calls.is) c.does.ensures.calls

pub returns-in-Crashes-clause-calls : goal.returns-in-Crashes-clause-calls
returns-in-Crashes-clause-calls g c =
    let x = c.args.x.now in
    let W : Work → Type 0 = λ w. MakesCalls (work_calls c.args.program.now (com_of x) (node_of x) (work_of w)) c.args.stop (is_ok c.crashes.result) x c.crashes.new.self in
    subst W (sym c.in-Crashes.is) (makes_none (λ free. 0) c.args.stop x c.crashes.new.self (is_ok c.crashes.result) c.crashes.ensures.disk (λ is free. refl))

pub returns-in-Recovers-clause-calls : goal.returns-in-Recovers-clause-calls
returns-in-Recovers-clause-calls g c =
    let x = c.args.x.now in
    let W : Work → Type 0 = λ w. MakesCalls (work_calls c.args.program.now (com_of x) (node_of x) (work_of w)) c.args.stop (is_ok c.recovers.result) x c.recovers.new.self in
    subst W (sym c.in-Recovers.is) c.recovers.ensures.calls
