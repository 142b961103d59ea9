-- What a reader of one log answers.
use Rattle.std.specs.Prelude.{ℕ, List}
use Rattle.ic_base.specs.declared.messages.ComId.{ComId}
use Rattle.ic_base.specs.declared.report.Fault.TheVariants as faults
use Rattle.ic_gate.specs.declared.refusals.LoadWhy.{LoadWhy}
use Rattle.ic_gate.specs.declared.refusals.LoadWhy.TheVariants as gate
use Rattle.ic_report.specs.declared.ending.Why.{Why}
use Rattle.ic_report.specs.declared.ending.Why.TheVariants.{Fault as AFault, Memory}

-- why a log isn't loaded, as the end of a call
abbrev pub why_of_load : ComId → LoadWhy → List ℕ → Why
why_of_load c (gate.Bad place) given = AFault (faults.Bad c place)
why_of_load c (gate.Foreign kept) given = AFault (faults.Foreign c kept given)
why_of_load c gate.Failed given = AFault (faults.Disk c)
why_of_load c gate.Stopped given = AFault (faults.Disk c)
why_of_load c gate.Memory given = Memory
