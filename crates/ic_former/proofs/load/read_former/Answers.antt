use Rattle.std.proofs.Common.{◌≡◌, ◌∙◌, sym, ap, refl, subst}
use Rattle.std.specs.Prelude.{Ok}
use Rattle.std.proofs.lemmas.Result.{err_from_is_err_and}
use Rattle.def_log.specs.Images.{LeavesJust}
use Rattle.def_log.specs.Frame.{fingerprint_in}
use Rattle.def_former.specs.Frame.{former_frame_of}
use Rattle.ic_disk.proofs.Disks.{makes_refused}
use Rattle.ic_former.proofs.Refusing.{file_refused, frame_refused, records_refused, placed_by_frame}
use Rattle.ic_former.proofs.load.read_former.Goals as goal

pub returns-in_err-bytes-clause-refused : goal.returns-in_err-bytes-clause-refused
returns-in_err-bytes-clause-refused g c =
    let p = err_from_is_err_and c.from_residual.result c.from_residual.ensures.1 in
    rw (p.1, p.2) (file_refused g.D.Disk c.args.disk.now c.read_whole.new.disk c.args.fingerprint.now c.in_err-bytes.field-0.0 (c.in_err-bytes.ensures {u = tt}).refused)

pub returns-in_err-frame-clause-calls : goal.returns-in_err-frame-clause-calls
returns-in_err-frame-clause-calls g c =
    let p = err_from_is_err_and c.from_residual-in_err-frame.result c.from_residual-in_err-frame.ensures.1 in
    rw (p.1, p.2) (makes_refused _ (c.in_ok-bytes.ensures {u = tt}).calls)

pub returns-in_err-frame-clause-refused : goal.returns-in_err-frame-clause-refused
returns-in_err-frame-clause-refused g c =
    let p = err_from_is_err_and c.from_residual-in_err-frame.result c.from_residual-in_err-frame.ensures.1 in
    let b = c.in_ok-bytes.ensures {u = tt} in
    let f = c.in_err-frame.ensures {u = tt} in
    rw (p.1, p.2) (frame_refused g.D.Disk c.args.disk.now c.read_whole.new.disk c.args.fingerprint.now c.deref.result.now (λ t. c.deref.ensures.value ∙ b.bytes t) b.seen (b.calls.all refl) c.in_err-frame.field-0.0 f.bad f.not_foreign f.foreign f.why)

pub returns-in_err-ends-clause-calls : goal.returns-in_err-ends-clause-calls
returns-in_err-ends-clause-calls g c =
    let p = err_from_is_err_and c.from_residual-in_err-ends.result c.from_residual-in_err-ends.ensures.1 in
    rw (p.1, p.2) (makes_refused _ (c.in_ok-bytes.ensures {u = tt}).calls)

pub returns-in_err-ends-clause-refused : goal.returns-in_err-ends-clause-refused
returns-in_err-ends-clause-refused g c =
    let p = err_from_is_err_and c.from_residual-in_err-ends.result c.from_residual-in_err-ends.ensures.1 in
    let b = c.in_ok-bytes.ensures {u = tt} in
    let f = c.in_ok-frame.ensures {u = tt} in
    let e = c.in_err-ends.ensures {u = tt} in
    rw (p.1, p.2) (records_refused g.D.Disk c.args.disk.now c.read_whole.new.disk c.args.fingerprint.now c.deref.result.now (λ t. c.deref.ensures.value ∙ b.bytes t) b.seen (b.calls.all refl) c.in_ok-frame.frame.batches f.frame f.fingerprint c.in_err-ends.field-0.0 e.refused)

pub returns-clause-step : goal.returns-clause-step
returns-clause-step g c =
    let b = c.in_ok-bytes.ensures {u = tt} in
    let f = c.in_ok-frame.ensures {u = tt} in
    let read = (c.in_ok-ends.ensures {u = tt}).read in
    let seen = g.D.Disk.seen c.args.disk.now in
    let told : g.D.Disk.tells c.args.disk.now → c.deref.result.now ≡ seen = λ t. c.deref.ensures.value ∙ b.bytes t in
    let frame : g.D.Disk.tells c.args.disk.now → former_frame_of seen ≡ Ok c.in_ok-frame.frame.batches = λ t. ap former_frame_of (sym (told t)) ∙ f.frame in
    record {
      bytes = b.seen;
      frame = frame;
      records = λ t. (read.0, placed_by_frame seen (Ok c.in_ok-frame.frame.batches) (frame t) ∙ read.1);
      fingerprint_same = λ t. ap fingerprint_in (sym (told t)) ∙ f.fingerprint;
      images = λ keeps. subst (LeavesJust (g.D.Disk.may_leave c.read_whole.new.disk)) (b.seen (g.met.D.Disk.keeping_tells c.args.disk.now keeps)) (b.durable keeps);
      settled = b.settled;
    }
