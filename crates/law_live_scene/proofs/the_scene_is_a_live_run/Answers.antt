use Rattle.law_live_scene.proofs.Serial.{the_scene_runs}
use Rattle.law_live_scene.proofs.the_scene_is_a_live_run.Goals as goal

pub returns : goal.returns
returns c = the_scene_runs
