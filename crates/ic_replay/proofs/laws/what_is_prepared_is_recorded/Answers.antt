use Rattle.ic_replay.proofs.Recording.{applied_is, need_is}
use Rattle.ic_replay.proofs.laws.what_is_prepared_is_recorded.Goals as goal

pub returns : goal.returns
returns c = record { applied = applied_is; need = need_is }
