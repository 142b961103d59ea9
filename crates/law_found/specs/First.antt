-- All components up over empty logs: that world is explained.
use Rattle.std.specs.Prelude.{[]}
use Rattle.ic_base.specs.declared.scenario.Program.{Program}
use Rattle.def_step.specs.World.{first_world}
use Rattle.def_facts.specs.Playable.{IsPlayable}
use Rattle.def_facts.specs.World.{IsExplained}

-- all components up over empty logs
abbrev pub FirstWorldIsExplained : Type 0
FirstWorldIsExplained = (program : Program) → IsPlayable program → IsExplained program [] (λ c. 0) (first_world program)
