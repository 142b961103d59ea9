-- What the grammar of scenarios gives of every program that a text stands for.
use Rattle.std.specs.Prelude.{ℕ, List}
use Rattle.ic_base.specs.declared.scenario.Program.{Program}
use Rattle.def_syntax.specs.Scenario.{IsScenario}
use Rattle.def_facts.specs.Flat.{HasFlatParts}
use Rattle.def_facts.specs.Playable.{IsPlayable}
use Rattle.law_syntax.specs.Placed.{IsPlaced}

-- each statement stands where it may
abbrev pub ScenariosArePlaced : Type 0
ScenariosArePlaced = (text : List ℕ) (program : Program) → IsScenario text program → IsPlaced program

-- no transaction stands within the part of another
abbrev pub ScenariosHaveFlatParts : Type 0
ScenariosHaveFlatParts = (text : List ℕ) (program : Program) → IsScenario text program → HasFlatParts program

-- the program is one of which the recovery theorem speaks
abbrev pub ScenariosArePlayable : Type 0
ScenariosArePlayable = (text : List ℕ) (program : Program) → IsScenario text program → IsPlayable program

-- so is every program whose statements stand where they may, whoever made it
abbrev pub PlacedArePlayable : Type 0
PlacedArePlayable = (program : Program) → IsPlaced program → IsPlayable program

abbrev pub PlacedHaveFlatParts : Type 0
PlacedHaveFlatParts = (program : Program) → IsPlaced program → HasFlatParts program
