use Rattle.law_two_run.proofs.Again.{record2_again}
use Rattle.law_two_run.proofs.records_are_read_again.Goals as goal

pub returns : goal.returns
returns c = record2_again
