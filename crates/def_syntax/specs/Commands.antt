-- The words that `icrun` takes.
use Rattle.std.specs.Prelude.{ℕ, ◌==◌, nat_le, Bool, false, cond, List, [], ◌∷◌, length, Option, Some, None, option_map, option_and_then, bytes_eq, codes}
use Rattle.std.specs.List.{list_any}
use Rattle.def_syntax.specs.Text.{natural, at_most}

-- the names of the texts of a run
pub record TextNames : Type 0 where
  pub scenario : List ℕ
  pub schedule : List ℕ
  pub policy : Option (List ℕ)

-- what the words ask for
pub data Command : Type 0 where
  Run : TextNames → Command
  Resume : TextNames → Command
  Audit : List ℕ → Command
  Make : ℕ → Command

-- a word begins with `-`
abbrev pub is_dashed : List ℕ → Bool
is_dashed [] = false
is_dashed (b ∷ bs) = b == 45

-- two names or three
abbrev pub names_in : List (List ℕ) → Option TextNames
names_in (scenario ∷ schedule ∷ []) = Some (record { scenario = scenario; schedule = schedule; policy = None })
names_in (scenario ∷ schedule ∷ policy ∷ []) = Some (record { scenario = scenario; schedule = schedule; policy = Some policy })
names_in _ = None

abbrev pub one_name_in : List (List ℕ) → Option (List ℕ)
one_name_in (name ∷ []) = Some name
one_name_in _ = None

-- one to ten digits, up to 2147483647
abbrev pub number_in_word : List ℕ → Option ℕ
number_in_word word = cond (nat_le (length word) 10) (at_most 2147483647 (natural word)) None

-- what the words behind the first one ask for
abbrev pub command_with : List ℕ → List (List ℕ) → Option Command
command_with verb words =
    cond (bytes_eq verb (codes "run")) (option_map Run (names_in words))
    (cond (bytes_eq verb (codes "resume")) (option_map Resume (names_in words))
    (cond (bytes_eq verb (codes "audit")) (option_map Audit (one_name_in words))
    (cond (bytes_eq verb (codes "make")) (option_map Make (option_and_then number_in_word (one_name_in words)))
    None)))

-- what words ask for, if they are a form that is there; no word begins with `-`
abbrev pub command_of : List (List ℕ) → Option Command
command_of [] = None
command_of (verb ∷ words) = cond (list_any is_dashed (verb ∷ words)) None (command_with verb words)

-- the words are those of a migration, if not always in its form
abbrev pub asks_to_migrate : List (List ℕ) → Bool
asks_to_migrate [] = false
asks_to_migrate (verb ∷ words) = bytes_eq verb (codes "migrate")

-- the name of the scenario whose logs are to be migrated, where the words ask for that; no word begins with `-`
abbrev pub migrated_in : List (List ℕ) → Option (List ℕ)
migrated_in [] = None
migrated_in (verb ∷ words) = cond (list_any is_dashed (verb ∷ words)) None (cond (bytes_eq verb (codes "migrate")) (one_name_in words) None)
