-- In a settled world no input is missed.
use Rattle.std.specs.Prelude.{◌≡◌, ℕ, ℤ, true, List, Some}
use Rattle.ic_base.specs.declared.messages.ComId.{ComId}
use Rattle.ic_base.specs.declared.events.Answer.TheVariants as answers
use Rattle.ic_base.specs.declared.events.What.TheVariants as whats
use Rattle.ic_base.specs.declared.scenario.Program.{Program}
use Rattle.ic_base.specs.Programs.{is_a_pcom}
use Rattle.def_step.specs.Settle.{IsSettled}
use Rattle.def_step.specs.World.{World, DiskOutcome, After, happens}
use Rattle.def_facts.specs.Logs.{Logs}
use Rattle.def_facts.specs.World.{IsExplained}
use Rattle.def_run.specs.SystemStates.{without_stop}

abbrev pub SettledInputsAreTaken : Type 0
SettledInputsAreTaken = (program : Program) (found : Logs) (here : ComId → ℕ) (w : World) (c : ComId) (handler : ℕ) (args : List ℤ) (x : DiskOutcome) (a : After) → IsExplained program found here w → IsSettled w → is_a_pcom program c ≡ true →
    happens program w (without_stop (whats.Input c handler args)) x ≡ Some a → a.trace.answer ≡ answers.Taken
