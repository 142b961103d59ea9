-- The words that the program takes.
use Rattle.std.specs.Prelude.{ℕ, cond, List, Option, None}
use Rattle.std.specs.List.{list_any}
use Rattle.def_syntax.specs.Commands.{TextNames, is_dashed, names_in}

-- the names of a scenario, a plan and maybe a policy; no word begins with `-`
abbrev pub named_by : List (List ℕ) → Option TextNames
named_by words = cond (list_any is_dashed words) None (names_in words)
