use Rattle.std.proofs.Common.{subst, ℕ, List}
use Rattle.std.proofs.lemmas.Result.{err_from_is_err_and}
use Rattle.ic_report.specs.Outputs.{FailsToPut}
use Rattle.ic_clients.proofs.Moments.{told-items}
use Rattle.ic_clients.proofs.noting.tell.Goals as goal

pub returns-in_err-print-clause-cut : goal.returns-in_err-print-clause-cut
returns-in_err-print-clause-cut g c =
    let p = err_from_is_err_and c.from_residual-in_err-print.result c.from_residual-in_err-print.ensures.1 in
    let P : List (List ℕ) → Type 0 = λ ps. FailsToPut g.K.Sink ps c.args.out.now c.print.new.out in
    rw (p.1, p.2)
    (subst P (told-items c.args.program.now c.args.level c.args.trace.now c.in-Some.now.events _ c.as_slice.result.now c.in-Some.ensures.more.0 (cc (c.in_ok-lines.ensures.lines, c.as_slice.ensures))) c.in_err-print.ensures.failed)
