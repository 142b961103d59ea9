use Rattle.law_replay.proofs.Narrowing.{logs_narrow, families_explained}
use Rattle.law_replay.proofs.families_are_explained.Goals as goal

pub returns : goal.returns
returns c = record { narrow = logs_narrow; families = families_explained }
