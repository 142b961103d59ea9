use Rattle.law_syntax.proofs.FlatParts.{placed_have_flat_parts}
use Rattle.law_syntax.proofs.Playables.{placed_are_playable}
use Rattle.law_syntax.proofs.placed_programs_are_playable.Goals as goal

pub returns : goal.returns
returns c = record { playable = placed_are_playable; flat = placed_have_flat_parts }
