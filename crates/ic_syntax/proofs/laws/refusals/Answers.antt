use Rattle.std.proofs.Common.{refl}
use Rattle.def_syntax.specs.Text.{lines_of, pieces, token_with}
use Rattle.def_syntax.specs.SyntaxLines.{item_with, line_item}
use Rattle.def_syntax.specs.Blocks.{in_block}
use Rattle.def_syntax.specs.Scope.{move_of, is_twice, passes, noted, scope_with}
use Rattle.def_syntax.specs.Scenario.{scenario_of, checked, seen_behind}
use Rattle.ic_syntax.proofs.laws.refusals.Goals as goal

pub returns-clause-not_text : goal.returns-clause-not_text
unfolding scenario_of checked seen_behind scope_with noted passes is_twice move_of in_block line_item item_with token_with pieces lines_of
returns-clause-not_text c = refl

pub returns-clause-word : goal.returns-clause-word
unfolding scenario_of checked seen_behind scope_with noted passes is_twice move_of in_block line_item item_with token_with pieces lines_of
returns-clause-word c = refl

pub returns-clause-limit : goal.returns-clause-limit
unfolding scenario_of checked seen_behind scope_with noted passes is_twice move_of in_block line_item item_with token_with pieces lines_of
returns-clause-limit c = refl

pub returns-clause-first : goal.returns-clause-first
unfolding scenario_of checked seen_behind scope_with noted passes is_twice move_of in_block line_item item_with token_with pieces lines_of
returns-clause-first c = refl

pub returns-clause-least : goal.returns-clause-least
unfolding scenario_of checked seen_behind scope_with noted passes is_twice move_of in_block line_item item_with token_with pieces lines_of
returns-clause-least c = refl
