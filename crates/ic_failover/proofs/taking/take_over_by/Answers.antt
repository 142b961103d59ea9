use Rattle.std.proofs.Common.{◌∙◌, refl, inl}
use Rattle.std.proofs.lemmas.Result.{err_from_is_err_and}
use Rattle.ic_standby.specs.Views.{standby_of}
use Rattle.ic_ckpt.specs.Views.{seen}
use Rattle.ic_failover.proofs.Takeovers.{takes_over_by, refuses_by}
use Rattle.ic_failover.proofs.taking.take_over_by.Goals as goal

pub returns-in_err-played-clause-cut : goal.returns-in_err-played-clause-cut
returns-in_err-played-clause-cut g c =
    let p = err_from_is_err_and c.from_residual-in_err-played.result c.from_residual-in_err-played.ensures.1 in
    rw (p.1, p.2)
    (inl (refuses_by g.D.Disk c.args.program.now c.args.com c.args.world.now c.take_over.new.self (standby_of c.args.standby) c.as_slice.result.now (seen c.into_state-state.result) c.have-have.result (c.as_slice.ensures ∙ c.in_ok-msgs.ensures) c.into_state-state.ensures c.have-have.ensures
    c.requires.goes_on c.requires.down c.take_over.ensures.others c.take_over.ensures.crash c.take_over.ensures.sound _ c.in_err-played.ensures.refused))

pub returns-clause-took : goal.returns-clause-took
returns-clause-took g c = (
  c.in_ok-played.played,
  refl,
  takes_over_by c.args.program.now c.args.com c.args.world.now c.take_over.new.self (standby_of c.args.standby) c.as_slice.result.now (seen c.into_state-state.result) c.have-have.result (c.as_slice.ensures ∙ c.in_ok-msgs.ensures) c.into_state-state.ensures c.have-have.ensures
      c.requires.goes_on c.requires.down c.take_over.ensures.others c.take_over.ensures.crash c.take_over.ensures.sound c.in_ok-played.played c.in_ok-played.ensures.step c.in_ok-played.ensures.durable,
)
