-- The program of a scenario is one of which the recovery theorem speaks.
use Rattle.std.proofs.Common.{ℕ, List, IfOk, Result, Ok, Err}
use Rattle.ic_base.specs.declared.refusals.ScenarioRefused.{ScenarioRefused}
use Rattle.ic_base.specs.declared.scenario.Program.{Program}
use Rattle.def_facts.specs.Flat.{HasFlatParts}
use Rattle.def_facts.specs.Playable.{IsPlayable}
use Rattle.def_syntax.specs.Scenario.{IsScenario}
use Rattle.law_syntax.proofs.Scenarios.{scenarios_are_playable, scenarios_have_flat_parts}

pub playable : (text : List ℕ) (r : Result Program ScenarioRefused) → IfOk r (λ p. IsScenario text p) → IfOk r IsPlayable
playable text (Ok p) is = scenarios_are_playable text p is
playable text (Err e) is = tt

pub flat : (text : List ℕ) (r : Result Program ScenarioRefused) → IfOk r (λ p. IsScenario text p) → IfOk r HasFlatParts
flat text (Ok p) is = scenarios_have_flat_parts text p is
flat text (Err e) is = tt
