use Rattle.law_syntax.proofs.Scenarios.{scenarios_are_placed, scenarios_are_playable, scenarios_have_flat_parts}
use Rattle.law_syntax.proofs.scenarios_are_playable.Goals as goal

pub returns : goal.returns
returns c = record { placed = scenarios_are_placed; playable = scenarios_are_playable; flat = scenarios_have_flat_parts }
