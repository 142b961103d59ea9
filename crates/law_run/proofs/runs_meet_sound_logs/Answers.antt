use Rattle.law_run.proofs.Meeting.{events_meet_sound_logs, runs_meet_sound_logs}
use Rattle.law_run.proofs.runs_meet_sound_logs.Goals as goal

pub returns : goal.returns
returns c = record { explained = events_meet_sound_logs; begun = runs_meet_sound_logs }
