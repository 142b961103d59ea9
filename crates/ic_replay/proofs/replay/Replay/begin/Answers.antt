use Rattle.std.proofs.lemmas.Result.{err_from_is_err_and}
use Rattle.ic_ckpt.specs.Views.{seen}
use Rattle.ic_replay.proofs.Refusing.{fails_to_begin}
use Rattle.ic_replay.proofs.replay.Replay.begin.Goals as goal

pub returns-in_err-next-clause-refused : goal.returns-in_err-next-clause-refused
returns-in_err-next-clause-refused g c =
    let p = err_from_is_err_and c.from_residual-in_err-next.result c.from_residual-in_err-next.ensures.1 in
    let starts = (c.in_ok-first.ensures {u = tt}).started in
    let stops = c.in_err-next.ensures.refused in
    rw (p.1, p.2) (fails_to_begin c.args.program.now c.args.«com» c.args.records c.in_ok-first.first (seen c.in_ok-first.state) _ starts stops)

pub invariant_of-result : goal.invariant_of-result
invariant_of-result g c =
    let p = c.in_ok-next.ensures.played in
    record { fields = c.requires; behind = p.behind; within = p.within; waiting = p.waiting; limits = p.limits; stored_is = c.in_ok-waiting.ensures {u = tt} }

pub returns-in_err-waiting-clause-refused : goal.returns-in_err-waiting-clause-refused
returns-in_err-waiting-clause-refused g c =
    let p = err_from_is_err_and c.from_residual-in_err-waiting.result c.from_residual-in_err-waiting.ensures.1 in
    rw (p.1, p.2) tt
