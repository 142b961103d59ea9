-- Scenarios say programs whose numbers have their bytes.
use Rattle.std.specs.Prelude.{ℕ, List}
use Rattle.ic_base.specs.declared.scenario.Program.{Program}
use Rattle.def_syntax.specs.Scenario.{IsScenario}
use Rattle.law_run.specs.ProgramBytes.{HasBytes}

abbrev pub ScenariosHaveBytes : Type 0
ScenariosHaveBytes = (text : List ℕ) (program : Program) → IsScenario text program → HasBytes program
