use Rattle.law_live.proofs.Closing.{closed_runs_meet}
use Rattle.law_live.proofs.Meeting.{berths_meet_own_logs}
use Rattle.law_live.proofs.live_runs_meet_sound_logs.Goals as goal

pub returns : goal.returns
returns c = record { berths = berths_meet_own_logs; serial = closed_runs_meet }
