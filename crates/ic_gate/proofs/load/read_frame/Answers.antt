use Rattle.std.proofs.Common.{◌∙◌, ap, sym, ℕ, Some}
use Rattle.std.proofs.lemmas.Result.{err_from_is_err_and}
use Rattle.def_log.specs.Directory.{first_slot, first_bad_slot}
use Rattle.def_log.specs.Frame.{any_batch}
use Rattle.ic_gate.proofs.Naming.{bad_same}
use Rattle.ic_gate.proofs.Headers.{head_refused, walk_slice, bad_walk, bad_slot, whole}
use Rattle.ic_gate.proofs.load.read_frame.Goals as goal

pub returns-in_err-check_header-clause-bad : goal.returns-in_err-check_header-clause-bad
returns-in_err-check_header-clause-bad c =
    let p = err_from_is_err_and c.from_residual.result c.from_residual.ensures.1 in
    rw (p.1, p.2) (λ place e. head_refused c.args.owner c.args.bytes.now place (c.in_err-check_header.ensures.bad place e))

pub returns-in_err-frame-clause-bad : goal.returns-in_err-frame-clause-bad
returns-in_err-frame-clause-bad c =
    let p = err_from_is_err_and c.from_residual-in_err-frame.result c.from_residual-in_err-frame.ensures.1 in
    let h = c.in_ok-check_header.ensures in
    let bytes = c.args.bytes.now in
    rw (p.1, p.2) (λ place e. bad_walk c.args.owner bytes c.requires h.long h.letters h.owner place (walk_slice bytes _ (c.in_err-frame.ensures.bad place e)))

pub returns-in-Some-clause-bad : goal.returns-in-Some-clause-bad
returns-in-Some-clause-bad c place e =
    let h = c.in_ok-check_header.ensures in
    let bytes = c.args.bytes.now in
    bad_slot c.args.owner bytes c.requires h.long h.letters h.owner c.in_ok-directory.directory c.in_ok-frame.frame.batches place c.in_ok-directory.ensures (walk_slice bytes _ c.in_ok-frame.ensures.whole)
    (ap (λ (n : ℕ). Some n) (bad_same place c.in-Some.place e) ∙ sym c.in-Some.is ∙ c.first_bad.ensures ∙ ap (first_bad_slot any_batch first_slot c.in_ok-directory.directory) c.as_slice.ensures)

pub returns-clause-frame : goal.returns-clause-frame
returns-clause-frame c =
    let h = c.in_ok-check_header.ensures in
    let bytes = c.args.bytes.now in
    whole c.args.owner bytes c.requires h.long h.letters h.owner c.in_ok-directory.directory c.in_ok-frame.frame.batches c.in_ok-directory.ensures (walk_slice bytes _ c.in_ok-frame.ensures.whole) (sym c.in_default.is ∙ c.first_bad.ensures ∙ ap (first_bad_slot any_batch first_slot c.in_ok-directory.directory) c.as_slice.ensures)
