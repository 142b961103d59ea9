-- What the scene's texts stand for, and what is printed.
use Rattle.std.proofs.Common.{◌≡◌, refl, ◌∙◌, ap, sym, false, pos, List, [], ◌∷◌, ◌++◌, Ok}
use Rattle.std.specs.declared.alloc.Global.{Global}
use Rattle.std.specs.Fmt.{digits}
use Rattle.std.specs.Prelude.{codes}
use Rattle.ic_base.specs.declared.messages.Kind.TheVariants.{Pcom}
use Rattle.ic_base.specs.declared.scenario.Expr.TheVariants.{Two}
use Rattle.ic_base.specs.declared.scenario.Op.TheVariants.{Add}
use Rattle.ic_base.specs.declared.scenario.Operand.TheVariants as operands
use Rattle.def_play.specs.Scenes.{add}
use Rattle.def_syntax.specs.Blocks.{in_block}
use Rattle.def_syntax.specs.Lines.{Line, Head, Var, On, Set, End, joined, body_lines}
use Rattle.def_syntax.specs.Names.{resolved}
use Rattle.def_syntax.specs.Scenario.{scenario_of, checked, all_named, seen_behind, named}
use Rattle.def_syntax.specs.Schedule.{schedule_of, schedule_in, all_events, line_events, event_of, entry_of}
use Rattle.def_syntax.specs.Scope.{scope_with, noted, passes, is_twice, move_of}
use Rattle.def_syntax.specs.SyntaxLines.{line_item, item_with}
use Rattle.def_syntax.specs.Text.{lines_of, pieces, token_with}
use Rattle.def_syntax.proofs.StatementLines.{set_lines, alone}
use Rattle.law_scene.specs.Tally.{TextsAreRead, PrintsReport, program, events, scenario, schedule}

-- the program's lines around those of its handler's body
abbrev around : List Line → List Line
around ls = joined ((Head (codes "tally") Pcom false ∷ (Var (codes "total") (pos 0) ∷ [] ++ [] ++ joined ((On (codes "add") 1 ∷ (ls ++ End ∷ [])) ∷ []) ++ End ∷ [])) ∷ [])

abbrev adding : List Line
adding = Set 0 (Two (operands.Var 0) Add (operands.Param 0)) ∷ []

add-lines : body_lines add ≡ adding
add-lines = alone _ _ (set_lines 0 (Two (operands.Var 0) Add (operands.Param 0)))

read : scenario_of scenario ≡ Ok (around adding)
unfolding scenario_of checked all_named seen_behind named scope_with noted passes is_twice move_of in_block resolved line_item item_with lines_of pieces token_with
read = refl

scheduled : (a : Global) → schedule_of (program a) schedule ≡ Ok (events, false)
unfolding schedule_in all_events line_events event_of entry_of lines_of pieces token_with
scheduled a = refl

pub texts_are_read : TextsAreRead
texts_are_read a = (read ∙ sym (ap (λ ls. Ok (around ls)) add-lines), scheduled a)

pub prints_report : PrintsReport
unfolding digits
prints_report a f = refl
