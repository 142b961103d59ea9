use Rattle.std.proofs.Common.{◌+◌, ◌≤◌, length}
use Rattle.std.proofs.lemmas.Result.{err_from_is_err_and}
use Rattle.ic_base.specs.declared.limits.TheConstants.{LOG_BYTES}
use Rattle.ic_disk.proofs.Disks.{makes_refused}
use Rattle.ic_gate.proofs.ReadBatches.{all_below}
use Rattle.ic_gate.proofs.TailLoads.{tail_not_loaded}
use Rattle.ic_gate.proofs.TailReads.{reads_tail, records_refused}
use Rattle.ic_gate.proofs.TailWalks.{walk_behind}
use Rattle.ic_gate.proofs.tail_load.read_tail_records.Goals as goal

pub returns-in_err-tail-clause-refused : goal.returns-in_err-tail-clause-refused
returns-in_err-tail-clause-refused g c =
    let p = err_from_is_err_and c.from_residual.result c.from_residual.ensures.1 in
    rw (p.1, p.2) (tail_not_loaded g.D.Disk c.args.disk.now c.args.fingerprint.now c.args.owner c.read_tail_bytes.new.disk c.in_err-tail.field-0.0 (c.in_err-tail.ensures {u = tt}).refused)

pub returns-in_err-closed-clause-calls : goal.returns-in_err-closed-clause-calls
returns-in_err-closed-clause-calls g c =
    let p = err_from_is_err_and c.from_residual-in_err-closed.result c.from_residual-in_err-closed.ensures.1 in
    rw (p.1, p.2) (makes_refused _ (c.in_ok-tail.ensures {u = tt}).calls)

pub returns-in_err-closed-clause-refused : goal.returns-in_err-closed-clause-refused
returns-in_err-closed-clause-refused g c =
    let p = err_from_is_err_and c.from_residual-in_err-closed.result c.from_residual-in_err-closed.ensures.1 in
    let t = c.in_ok-tail.tail in
    let e = c.in_err-closed.ensures {u = tt} in
    rw (p.1, p.2) (records_refused g.D.Disk c.args.disk.now c.read_tail_bytes.new.disk c.args.fingerprint.now c.args.owner t.directory t.start t.slot t.bytes.items
    ((c.in_ok-tail.ensures {u = tt}).step) c.in_err-closed.field-0.0 e.bad e.why)

pub returns-in_err-buffered-clause-calls : goal.returns-in_err-buffered-clause-calls
returns-in_err-buffered-clause-calls g c =
    let p = err_from_is_err_and c.from_residual-in_err-buffered.result c.from_residual-in_err-buffered.ensures.1 in
    rw (p.1, p.2) (makes_refused _ (c.in_ok-tail.ensures {u = tt}).calls)

pub returns-clause-step : goal.returns-clause-step
returns-clause-step g c =
    let t = c.in_ok-tail.tail in
    let bytes = t.bytes.items in
    let e = (c.in_ok-closed.ensures {u = tt}).step in
    let short : t.start + length bytes ≤ LOG_BYTES = (c.in_ok-tail.ensures {u = tt}).short in
    record {
      batches = e.batches;
      slot = t.slot;
      read = reads_tail g.D.Disk c.args.disk.now c.read_tail_bytes.new.disk c.args.fingerprint.now c.args.owner t.directory t.start t.slot bytes
          ((c.in_ok-tail.ensures {u = tt}).step) e.batches e.frame
          (all_below (length bytes) t.start LOG_BYTES bytes e.batches (walk_behind t.slot t.start bytes e.batches e.frame) short);
      gate_is = e.gate_is;
      forced_is = e.forced_is;
      are_read = e.are_read;
    }
