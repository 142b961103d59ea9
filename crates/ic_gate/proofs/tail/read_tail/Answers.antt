use Rattle.std.proofs.Common.{sym, subst, List, ℕ}
use Rattle.std.proofs.lemmas.Result.{err_from_is_err_and}
use Rattle.ic_disk.proofs.Disks.{makes_refused}
use Rattle.ic_gate.specs.Reading.{HoldsTail, ReadsTail}
use Rattle.ic_gate.proofs.TailReads.{reads_tail, batches_refused}
use Rattle.ic_gate.proofs.tail.read_tail.Goals as goal

pub returns-in_err-frame-clause-calls : goal.returns-in_err-frame-clause-calls
returns-in_err-frame-clause-calls g c =
    let p = err_from_is_err_and c.from_residual-in_err-frame.result c.from_residual-in_err-frame.ensures.1 in
    rw (p.1, p.2) (makes_refused _ (c.in_ok-tail.ensures {u = tt}).calls)

pub returns-in_err-frame-clause-refused : goal.returns-in_err-frame-clause-refused
returns-in_err-frame-clause-refused g c =
    let p = err_from_is_err_and c.from_residual-in_err-frame.result c.from_residual-in_err-frame.ensures.1 in
    let t = c.in_ok-tail.tail in
    let Holds : List ℕ → Type 0 = λ l. HoldsTail g.D.Disk c.args.disk.now c.args.fingerprint.now c.args.owner t.directory t.start t.slot l c.read_tail_bytes.new.disk in
    let f = c.in_err-frame.ensures {u = tt} in
    rw (p.1, p.2) (batches_refused g.D.Disk c.args.disk.now c.read_tail_bytes.new.disk c.args.fingerprint.now c.args.owner t.directory t.start t.slot c.deref.result.now
    (subst Holds (sym c.deref.ensures.value) (c.in_ok-tail.ensures {u = tt}).step) c.in_err-frame.field-0.0 f.bad f.why)

pub returns-in_err-buffered-clause-calls : goal.returns-in_err-buffered-clause-calls
returns-in_err-buffered-clause-calls g c =
    let p = err_from_is_err_and c.from_residual-in_err-buffered.result c.from_residual-in_err-buffered.ensures.1 in
    rw (p.1, p.2) (makes_refused _ (c.in_ok-tail.ensures {u = tt}).calls)

pub returns-clause-step : goal.returns-clause-step
returns-clause-step g c =
    let t = c.in_ok-tail.tail in
    let frame = c.in_ok-frame.frame in
    let Holds : List ℕ → Type 0 = λ l. HoldsTail g.D.Disk c.args.disk.now c.args.fingerprint.now c.args.owner t.directory t.start t.slot l c.read_tail_bytes.new.disk in
    let f = c.in_ok-frame.ensures {u = tt} in
    let Reads : ℕ → Type 0 = λ n. ReadsTail g.D.Disk c.args.disk.now c.args.fingerprint.now c.args.owner frame.batches t.directory n t.slot c.read_tail_bytes.new.disk in
    subst Reads (sym f.start)
    (reads_tail g.D.Disk c.args.disk.now c.read_tail_bytes.new.disk c.args.fingerprint.now c.args.owner t.directory t.start t.slot c.deref.result.now
    (subst Holds (sym c.deref.ensures.value) (c.in_ok-tail.ensures {u = tt}).step) frame.batches f.whole f.below)
