use Rattle.law_run.proofs.Opening.{left_logs_are_not_refused}
use Rattle.law_run.proofs.Resumed.{runs_are_taken_up}
use Rattle.law_run.proofs.runs_are_taken_up.Goals as goal

pub returns : goal.returns
returns c = record { sound = runs_are_taken_up; found = left_logs_are_not_refused }
