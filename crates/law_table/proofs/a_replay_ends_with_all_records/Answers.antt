use Rattle.law_table.proofs.States.{up_has_all_records}
use Rattle.law_table.proofs.a_replay_ends_with_all_records.Goals as goal

pub returns : goal.returns
returns c = up_has_all_records
