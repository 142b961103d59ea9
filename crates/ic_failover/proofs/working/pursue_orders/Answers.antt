use Rattle.std.proofs.Common.{inl, inr}
use Rattle.std.proofs.lemmas.Result.{err_from_is_err_and}
use Rattle.ic_failover.proofs.working.pursue_orders.Goals as goal

pub returns-in_err-side-clause-cut : goal.returns-in_err-side-clause-cut
returns-in_err-side-clause-cut g c =
    let p = err_from_is_err_and c.from_residual.result c.from_residual.ensures.1 in
    rw (p.1, p.2) (inl c.in_err-side.ensures.cut)

pub returns-in_err-tally-clause-cut : goal.returns-in_err-tally-clause-cut
returns-in_err-tally-clause-cut g c =
    let p = err_from_is_err_and c.from_residual-in_err-tally.result c.from_residual-in_err-tally.ensures.1 in
    rw (p.1, p.2) (inr (record { mid = _; carried = c.in_ok-side.ensures.done; cut_off = c.in_err-tally.ensures.cut }))

pub returns-clause-done : goal.returns-clause-done
returns-clause-done g c = record { mid = _; carried = c.in_ok-side.ensures.done; settled = c.in_ok-tally.ensures.done; all_shipped = c.shipped.ensures }
