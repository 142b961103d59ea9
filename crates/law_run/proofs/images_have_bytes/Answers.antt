use Rattle.law_run.proofs.Knowing as knowing
use Rattle.law_run.proofs.images_have_bytes.Goals as goal

pub returns : goal.returns
returns c = knowing.images_have_bytes
