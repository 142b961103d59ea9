-- Steps that are the same over the log do the same over it.
use Rattle.std.proofs.Common.{◌≡◌, ◌∙◌, List, Result, Ok, Err, IfOk, IsTrue, sym, subst}
use Rattle.ic_base.specs.declared.record.Record.{Record}
use Rattle.def_step.specs.Tcom.{Served}
use Rattle.ic_tcom.specs.declared.answers.Serving.{Serving}
use Rattle.ic_tcom.specs.declared.answers.Serving.TheVariants.{Answered, Decides, Full}
use Rattle.ic_tcom.specs.EngineState.{EngineState, Keeps}
use Rattle.ic_tcom.specs.CarriesOut.{CarriesOut, CarriesOutOverItsLog, is_past}

module _ (f g : List Record → Served) (old new : EngineState) (same : (log : List Record) → Keeps log old → f log ≡ g log) where
  does_same : (s : Serving) → CarriesOut f old new s → CarriesOutOverItsLog g old new s
  does_same (Answered puts) h = λ log keeps. sym (same log keeps) ∙ h log
  does_same (Decides r answer) h = (h.0, h.1, λ log keeps. sym (same log keeps) ∙ h.2 log)
  does_same Full h = (h.0, λ log keeps. subst (λ (s : Served). IsTrue (is_past s.tcom)) (same log keeps) (h.1 log))

  pub if_does_same : {E : Type 0} (r : Result Serving E) → IfOk r (CarriesOut f old new) → IfOk r (CarriesOutOverItsLog g old new)
  if_does_same (Ok s) h = does_same s h
  if_does_same (Err e) h = tt
