use Rattle.law_found.proofs.Placed.{scene_is_playable, scene_has_flat_parts}
use Rattle.law_found.proofs.the_scene_is_playable.Goals as goal

pub returns : goal.returns
returns c = record { playable = scene_is_playable; flat = scene_has_flat_parts }
