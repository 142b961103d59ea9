use Rattle.law_found.proofs.First.{first_world_is_explained}
use Rattle.law_found.proofs.the_first_world_is_explained.Goals as goal

pub returns : goal.returns
returns c = first_world_is_explained
