use Rattle.std.proofs.Common.{sym, subst, List}
use Rattle.ic_base.specs.declared.record.Record.{Record}
use Rattle.ic_tcom.specs.EngineState.{Keeps}
use Rattle.ic_tcom.proofs.tcom_core.Core.enter.Goals as goal

pub returns-clause-keeps : goal.returns-clause-keeps
returns-clause-keeps c = λ before last h.
    let P : List Record → Type 0 = λ log. Keeps log c.enter.new.self.held in
    subst P (sym last) (c.enter.ensures.keeps before h)
