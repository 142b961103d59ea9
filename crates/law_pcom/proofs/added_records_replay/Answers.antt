use Rattle.law_pcom.proofs.Within.{steps_replay}
use Rattle.law_pcom.proofs.added_records_replay.Goals as goal

pub returns : goal.returns
returns c = steps_replay
