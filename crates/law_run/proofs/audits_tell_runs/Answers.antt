use Rattle.law_run.proofs.Audits.{sound_logs_have_audits, runs_have_audits, complete_runs_have_audits}
use Rattle.law_run.proofs.audits_tell_runs.Goals as goal

pub returns : goal.returns
returns c = record { sound = sound_logs_have_audits; begun = runs_have_audits; complete = complete_runs_have_audits }
