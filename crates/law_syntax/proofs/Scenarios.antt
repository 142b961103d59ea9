-- What the grammar gives of the program of every scenario.
use Rattle.std.proofs.Common.{refl}
use Rattle.def_syntax.proofs.Limits.{is_written}
use Rattle.law_syntax.specs.Grammatical.{ScenariosArePlaced, ScenariosHaveFlatParts, ScenariosArePlayable}
use Rattle.law_syntax.proofs.Components.{beginning, lines-are-placed}
use Rattle.law_syntax.proofs.Declarations.{same-summaries}
use Rattle.law_syntax.proofs.FlatParts.{placed_have_flat_parts}
use Rattle.law_syntax.proofs.Playables.{placed_are_playable}
use Rattle.law_syntax.proofs.Standing.{components-back}

pub scenarios_are_placed : ScenariosArePlaced
scenarios_are_placed text program is =
    let d = is_written text program is in
    lines-are-placed program (components-back program d.all (same-summaries program d.all d.items d.components) d.components refl beginning refl 0)

pub scenarios_are_playable : ScenariosArePlayable
scenarios_are_playable text program is = placed_are_playable program (scenarios_are_placed text program is)

pub scenarios_have_flat_parts : ScenariosHaveFlatParts
scenarios_have_flat_parts text program is = placed_have_flat_parts program (scenarios_are_placed text program is)
