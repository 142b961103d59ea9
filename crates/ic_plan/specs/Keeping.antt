-- What reading does to texts, and which of them it asks for.
use Rattle.std.specs.Prelude.{◌≡◌, ◌↔◌, ◌≤◌, ℕ, List, [], ◌∷◌, ◌++◌, take, Option, Some, None}
use Rattle.ic_disk.specs.Causes.{Rose}
use Rattle.ic_disk.specs.declared.texts.Texts.{Ghosts}
use Rattle.def_syntax.specs.Commands.{TextNames}
use Rattle.ic_plan.specs.declared.run_texts.TextsRefused.{TextsRefused}
use Rattle.ic_plan.specs.declared.run_texts.TextsRefused.TheVariants.{Read}

-- the name of a text that may be absent
abbrev pub if_named : Option (List ℕ) → List (List ℕ)
if_named None = []
if_named (Some name) = name ∷ []

-- the names of all texts of a run, in the order in which they are read
abbrev pub each_name : TextNames → List (List ℕ)
each_name names = names.scenario ∷ names.schedule ∷ if_named names.policy

-- the names of all texts of a run that serves lines
abbrev pub served_names : List ℕ → Option (List ℕ) → List (List ℕ)
served_names scenario policy = scenario ∷ if_named policy

-- of the texts with these names the first ones were asked for, each once and in order
pub record AskFor (names old new : List (List ℕ)) : Type 0 where
  pub count : ℕ
  pub asked : new ≡ old ++ take count names

-- what the texts hold stays, they tell it just where they did, and their count of faults hasn't fallen
pub record KeepsTexts {T : Type 0} (t : Ghosts T) (old new : T) : Type 0 where
  pub tells : t.tells old ↔ t.tells new
  pub held : t.tells old → t.held new ≡ t.held old
  pub later : t.faults old ≤ t.faults new

-- a text is told as not read only where the count of faults rose
abbrev pub HasReadCause : {T : Type 0} → Ghosts T → T → T → TextsRefused → Type 0
HasReadCause t old new Read = Rose (t.faults old) (t.faults new)
HasReadCause t old new _ = Unit {0}
