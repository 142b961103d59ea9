use Rattle.law_run.proofs.WorldBytes.{first_world_fits, found_world_fits}
use Rattle.law_run.proofs.runs_begin_with_bytes.Goals as goal

pub returns : goal.returns
returns c = record { blank = first_world_fits; found = found_world_fits }
