-- The counts of the summary of both phases.
use Rattle.std.specs.Prelude.{not, List, count_by}
use Rattle.ic_base.specs.declared.messages.ComId.{ComId}
use Rattle.ic_base.specs.declared.messages.Output.{Output}
use Rattle.ic_base.specs.declared.scenario.Program.{Program}
use Rattle.def_live_run.specs.Reports.{in_order}
use Rattle.ic_run.specs.declared.tally.Tally.{Tally}
use Rattle.ic_threads.specs.declared.outputs.Outputs.{Outputs}

-- with so many outputs shown for the first time and again
abbrev pub with_outputs : Tally → Outputs → Tally
with_outputs t outputs = record t { first = outputs.first; again = outputs.again }

-- with these outputs counted, in order of component and showing
abbrev pub shown_in : Program → Tally → List (ComId × Output) → Tally
shown_in program t showings = record t { first = count_by (λ x. not x.before) (in_order program showings); again = count_by (λ x. x.before) (in_order program showings) }
