use Rattle.law_run.proofs.Starts.{beginnings_are_explained}
use Rattle.law_run.proofs.runs_begin_explained.Goals as goal

pub returns : goal.returns
returns c = beginnings_are_explained
