use Rattle.law_run.proofs.Complete.{complete_runs_end, runs_end, text_runs_end}
use Rattle.law_run.proofs.complete_runs_end_as_crash_free.Goals as goal

pub returns : goal.returns
returns c = record { explained = complete_runs_end; begun = runs_end; texts = text_runs_end }
