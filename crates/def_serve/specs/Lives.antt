-- A stretch of a served life: lines over one world.
use Rattle.std.specs.Prelude.{List}
use Rattle.def_run.specs.SystemStates.{SystemState, Transition, last_state}
use Rattle.def_rounds.specs.Rounds.{Round}
use Rattle.def_client.specs.Fronts.{Front}
use Rattle.def_serve.specs.Lines.{Line, Note}

-- lines over one world: where it opened, what settled it, and what became of each line
pub record Stretch : Type 0 where
  pub opened : SystemState
  pub settled : List Transition
  pub lines : List Line
  pub rounds : List (Round Front Note)

abbrev pub begins_at : Stretch → SystemState
begins_at s = last_state s.opened s.settled
