-- The world in which all components are down over found logs.
use Rattle.std.specs.Prelude.{List, [], ◌∷◌}
use Rattle.ic_base.specs.declared.messages.Kind.{Kind}
use Rattle.ic_base.specs.declared.messages.Kind.TheVariants.{Pcom, Tcom, Xcom}
use Rattle.ic_base.specs.declared.scenario.Component.{Component}
use Rattle.ic_base.specs.declared.scenario.Program.{Program}
use Rattle.ic_base.specs.declared.record.Record.{Record}
use Rattle.def_plain.specs.Plain.{PlainWorld}
use Rattle.def_step.specs.World.{World, Node, Down, External}
use Rattle.def_facts.specs.Logs.{Logs}
use Rattle.def_facts.specs.Playable.{IsPlayable}
use Rattle.def_facts.specs.Sound.{IsSound}
use Rattle.def_facts.specs.World.{IsExplainedBy}
use Rattle.law_found.specs.Past.{IsLogList, past_of, packets_told}

abbrev pub down_node : Kind → List Record → Node
down_node Pcom log = Down log
down_node Tcom log = Down log
down_node Xcom log = External

abbrev pub down_nodes : List Component → Logs → List Node
down_nodes [] logs = []
down_nodes (x ∷ xs) [] = down_node x.kind [] ∷ down_nodes xs []
down_nodes (x ∷ xs) (log ∷ logs) = down_node x.kind log ∷ down_nodes xs logs

-- each log on its disk, nothing on its way, nothing shown yet
abbrev pub down_world : Program → Logs → World
down_world program logs = record { nodes = down_nodes program.components logs; packets = []; waiting = []; showings = [] }

-- that world is explained by the packets that its logs tell of, the logs being those that were found
abbrev pub FoundWorldIsExplained : Type 0
FoundWorldIsExplained = (program : Program) (logs : Logs) (w : PlainWorld) → IsPlayable program → IsLogList program logs → IsSound program logs w →
    IsExplainedBy program logs (λ c. 0) (down_world program logs) (past_of (packets_told program logs w))
