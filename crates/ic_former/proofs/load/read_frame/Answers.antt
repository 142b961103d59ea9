use Rattle.std.proofs.Common.{◌∙◌}
use Rattle.std.proofs.lemmas.Result.{err_from_is_err_and, IfOk-weaker, IfErr-weaker}
use Rattle.ic_former.proofs.Headers.{walk_slice, head_refused, frame_is}
use Rattle.ic_former.proofs.load.read_frame.Goals as goal

pub returns-in_err-check_header-clause-bad : goal.returns-in_err-check_header-clause-bad
returns-in_err-check_header-clause-bad c =
    let p = err_from_is_err_and c.from_residual.result c.from_residual.ensures.1 in
    rw (p.1, p.2) (λ place e. head_refused c.args.bytes.now place (c.in_err-check_header.ensures.bad place e))

pub returns-clause-frame : goal.returns-clause-frame
returns-clause-frame c =
    let h = c.in_ok-check_header.ensures in
    let bytes = c.args.bytes.now in
    IfOk-weaker c.read_batches.result _ _ (λ frame whole. frame_is bytes c.requires h.long h.letters ∙ walk_slice bytes _ whole) c.read_batches.ensures.whole

pub returns-clause-bad : goal.returns-clause-bad
returns-clause-bad c =
    let h = c.in_ok-check_header.ensures in
    let bytes = c.args.bytes.now in
    IfErr-weaker c.read_batches.result _ _ (λ why bad place e. frame_is bytes c.requires h.long h.letters ∙ walk_slice bytes _ (bad place e)) c.read_batches.ensures.bad
