use Rattle.law_run.proofs.Complete.{executions_stand, runs_stand, text_runs_stand}
use Rattle.law_run.proofs.runs_stand_as_crash_free.Goals as goal

pub returns : goal.returns
returns c = record { explained = executions_stand; begun = runs_stand; texts = text_runs_stand }
