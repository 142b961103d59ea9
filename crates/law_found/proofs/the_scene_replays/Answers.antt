use Rattle.law_found.proofs.SceneStates.{scene_replays}
use Rattle.law_found.proofs.the_scene_replays.Goals as goal

pub returns : goal.returns
returns c = scene_replays
