-- The open transaction as the program keeps it.
use Rattle.std.specs.Prelude.{◌≡◌, refl}
use Rattle.std.proofs.Common.{ap}
use Rattle.def_state.specs.Txn as state
use Rattle.ic_txn.specs.declared.stage.Stage.{Stage}
use Rattle.ic_txn.specs.declared.stage.Stage.TheVariants.{Idle, Waiting, Answered, Committing}
use Rattle.ic_txn.specs.declared.txn.Txn.TheInside.{Inside}

abbrev pub stage_seen : Stage → state.Stage
stage_seen Idle = state.Idle
stage_seen (Waiting t place session request) = state.Waiting t place session request
stage_seen (Answered t place session request) = state.Answered t place session request
stage_seen (Committing t place session) = state.Committing t place session

abbrev pub stage_kept : state.Stage → Stage
stage_kept state.Idle = Idle
stage_kept (state.Waiting t place session request) = Waiting t place session request
stage_kept (state.Answered t place session request) = Answered t place session request
stage_kept (state.Committing t place session) = Committing t place session

pub stage_again : (s : Stage) → stage_kept (stage_seen s) ≡ s
stage_again Idle = refl
stage_again (Waiting t place session request) = refl
stage_again (Answered t place session request) = refl
stage_again (Committing t place session) = refl

pub kept_again : (a : Inside) → record { begun = a.begun; last = a.last; stage = stage_kept (stage_seen a.stage) } ≡ a
kept_again a = ap (λ s. record a { stage = s }) (stage_again a.stage)
