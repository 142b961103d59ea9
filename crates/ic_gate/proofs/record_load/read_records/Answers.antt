use Rattle.std.proofs.Common.{subst}
use Rattle.std.proofs.lemmas.Result.{err_from_is_err_and}
use Rattle.def_log.specs.Images.{LeavesJust}
use Rattle.ic_disk.proofs.Disks.{makes_refused}
use Rattle.ic_gate.proofs.ReadLogs.{refused, reads}
use Rattle.ic_gate.proofs.Headers.{read_refused, read_rests}
use Rattle.ic_gate.proofs.RecordLoads.{not_loaded}
use Rattle.ic_gate.proofs.record_load.read_records.Goals as goal

pub returns-in_err-bytes-clause-refused : goal.returns-in_err-bytes-clause-refused
returns-in_err-bytes-clause-refused g c =
    let p = err_from_is_err_and c.from_residual.result c.from_residual.ensures.1 in
    let d = g.D.Disk in
    let old = c.args.disk.now in
    let new = c.read_whole.new.disk in
    let given = c.args.fingerprint.now in
    let why = c.in_err-bytes.field-0.0 in
    rw (p.1, p.2) (not_loaded d old given c.args.owner new why (read_refused d old new given c.args.owner why (c.in_err-bytes.ensures {u = tt}).refused))

pub returns-in_err-closed-clause-calls : goal.returns-in_err-closed-clause-calls
returns-in_err-closed-clause-calls g c =
    let p = err_from_is_err_and c.from_residual-in_err-closed.result c.from_residual-in_err-closed.ensures.1 in
    rw (p.1, p.2) (makes_refused _ (c.in_ok-bytes.ensures {u = tt}).calls)

pub returns-in_err-closed-clause-refused : goal.returns-in_err-closed-clause-refused
returns-in_err-closed-clause-refused g c =
    let p = err_from_is_err_and c.from_residual-in_err-closed.result c.from_residual-in_err-closed.ensures.1 in
    let b = c.in_ok-bytes.ensures {u = tt} in
    let e = c.in_err-closed.ensures {u = tt} in
    rw (p.1, p.2) (refused g.D.Disk c.args.disk.now c.read_whole.new.disk c.args.fingerprint.now c.in_ok-bytes.bytes.items c.args.owner c.in_err-closed.field-0.0
    b.bytes (read_rests g.D.Disk g.met.D.Disk.keeping_tells c.args.disk.now c.read_whole.new.disk b.seen b.durable) e.bad e.not_foreign e.foreign e.why)

pub returns-in_err-buffered-clause-calls : goal.returns-in_err-buffered-clause-calls
returns-in_err-buffered-clause-calls g c =
    let p = err_from_is_err_and c.from_residual-in_err-buffered.result c.from_residual-in_err-buffered.ensures.1 in
    rw (p.1, p.2) (makes_refused _ (c.in_ok-bytes.ensures {u = tt}).calls)

pub returns-in_err-buffered-clause-refused : goal.returns-in_err-buffered-clause-refused
returns-in_err-buffered-clause-refused g c =
    let p = err_from_is_err_and c.from_residual-in_err-buffered.result c.from_residual-in_err-buffered.ensures.1 in
    let b = c.in_ok-bytes.ensures {u = tt} in
    rw (p.1, p.2) (read_rests g.D.Disk g.met.D.Disk.keeping_tells c.args.disk.now c.read_whole.new.disk b.seen b.durable)

pub returns-clause-step : goal.returns-clause-step
returns-clause-step g c =
    let b = c.in_ok-bytes.ensures {u = tt} in
    let e = c.in_ok-closed.ensures {u = tt} in
    let new = c.read_whole.new.disk in
    record {
      placed = e.step.placed;
      reads = reads g.D.Disk c.args.disk.now new c.args.fingerprint.now c.in_ok-bytes.bytes.items c.args.owner c.in_ok-closed.closed.at c.in_ok-closed.closed.forced c.in_ok-closed.directory e.step.placed
          b.bytes b.seen e.fingerprint e.owner
          (λ keeps. subst (LeavesJust (g.D.Disk.may_leave new)) (b.seen (g.met.D.Disk.keeping_tells c.args.disk.now keeps)) (b.durable keeps)) b.settled e.step.hold;
      same = e.step.same;
      placed_same = e.step.placed_same;
    }
