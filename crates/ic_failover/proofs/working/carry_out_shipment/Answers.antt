use Rattle.std.proofs.Common.{refl, inl, inr}
use Rattle.std.proofs.lemmas.Result.{err_from_is_err_and}
use Rattle.ic_failover.proofs.Gathered.{is_there}
use Rattle.ic_failover.proofs.working.carry_out_shipment.Goals as goal

pub ship-requires-clause-there : goal.ship-requires-clause-there
ship-requires-clause-there g c = is_there c.args.world.now c.args.texts.now.who c.args.texts.now.program c.requires.world.made c.requires.world.pcom

pub returns-in_err-side-clause-cut : goal.returns-in_err-side-clause-cut
returns-in_err-side-clause-cut g c =
    let p = err_from_is_err_and c.from_residual.result c.from_residual.ensures.1 in
    rw (p.1, p.2) (inr (refl, refl, c.in_err-side.ensures.cut))

pub returns-in_err-tally-clause-cut : goal.returns-in_err-tally-clause-cut
returns-in_err-tally-clause-cut g c =
    let p = err_from_is_err_and c.from_residual-in_err-tally.result c.from_residual-in_err-tally.ensures.1 in
    rw (p.1, p.2) (inl (record { note = _; beside = _; acts = (refl, c.in_ok-side.ensures.answered); fails = c.in_err-tally.ensures.cut }))

pub returns-clause-done : goal.returns-clause-done
returns-clause-done g c = (_, record { acts = (refl, c.in_ok-side.ensures.answered); counts = c.in_ok-tally.ensures.counts; numbered = c.in_ok-tally.ensures.more.0; printed = c.in_ok-tally.ensures.printed })
