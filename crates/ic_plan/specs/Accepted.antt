-- What is shown of each program whose text is accepted.
use Rattle.ic_base.specs.declared.scenario.Program.{Program}
use Rattle.def_syntax.specs.Allowed.{IsSmall}
use Rattle.law_run.specs.ProgramBytes.{IsFit}

-- It is within the limits of a scenario (no more components, handlers and parameters than one may have), and the laws speak of it.
pub record IsAccepted (program : Program) : Type 0 where
  pub small : IsSmall program
  pub fit : IsFit program
