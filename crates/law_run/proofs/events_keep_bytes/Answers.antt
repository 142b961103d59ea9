use Rattle.law_run.proofs.WorldBytes as worlds
use Rattle.law_run.proofs.events_keep_bytes.Goals as goal

pub returns : goal.returns
returns c = worlds.events_keep_bytes
