use Rattle.law_table.proofs.Rows.{replayings}
use Rattle.law_table.proofs.a_replay_records_nothing.Goals as goal

pub returns : goal.returns
returns c = replayings
