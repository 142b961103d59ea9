use Rattle.law_found.proofs.Bank.{logs_are_explained, logs_are_sound}
use Rattle.law_found.proofs.SceneWorlds.{world_is_explained}
use Rattle.law_found.proofs.the_scene_is_explained.Goals as goal

pub returns : goal.returns
returns c = record { logs = logs_are_explained; sound = logs_are_sound; world = world_is_explained }
