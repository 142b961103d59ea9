-- The words that the program takes.
use Rattle.std.specs.Prelude.{ℕ, cond, List, [], ◌∷◌, Option, Some, None, option_map, bytes_eq, codes}
use Rattle.std.specs.List.{list_any}
use Rattle.def_syntax.specs.Commands.{TextNames, is_dashed, names_in, one_name_in}

-- what the words ask for: moves of the script with a name, a run with numbered clients, or one with a standby of the component of a name
pub data Command : Type 0 where
  Two : List ℕ → Command
  Clients : TextNames → Command
  Standby : List ℕ → TextNames → Command

-- a name, and those of a scenario, a schedule and maybe a policy behind it
abbrev pub standby_in : List (List ℕ) → Option Command
standby_in [] = None
standby_in (who ∷ words) = option_map (Standby who) (names_in words)

-- what the words behind the first one ask for
abbrev pub command_with : List ℕ → List (List ℕ) → Option Command
command_with verb words =
    cond (bytes_eq verb (codes "two")) (option_map Two (one_name_in words))
    (cond (bytes_eq verb (codes "clients")) (option_map Clients (names_in words))
    (cond (bytes_eq verb (codes "standby")) (standby_in words)
    None))

-- what words ask for, if they are a form that is there; no word begins with `-`
abbrev pub command_of : List (List ℕ) → Option Command
command_of [] = None
command_of (verb ∷ words) = cond (list_any is_dashed (verb ∷ words)) None (command_with verb words)
