-- The program of the scene is one of which the recovery theorem speaks.
use Rattle.std.specs.declared.alloc.Global.{Global}
use Rattle.def_facts.specs.Flat.{HasFlatParts}
use Rattle.def_facts.specs.Playable.{IsPlayable}
use Rattle.law_found.specs.Trade.{trade}

-- the grammar's law gives it
abbrev pub SceneIsPlayable : Type 0
SceneIsPlayable = (a : Global) → IsPlayable (trade a)

abbrev pub SceneHasFlatParts : Type 0
SceneHasFlatParts = (a : Global) → HasFlatParts (trade a)
