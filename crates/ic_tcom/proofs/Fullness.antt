-- A step is refused exactly where it would pass a limit.
use Rattle.std.proofs.Common.{◌≡◌, ◌∙◌, ◌≤◌, false, ltb, List, [], ◌∷◌, ◌++◌, Result, Ok, Err, IfOk, ap, sym, arith}
use Rattle.std.specs.Prelude.{◌||◌}
use Rattle.std.proofs.lemmas.Bool.Decides.{nat_tests}
use Rattle.ic_base.specs.declared.record.Record.{Record}
use Rattle.ic_base.specs.declared.record.Record.TheVariants.{Take, TakeWhole, Input, Value, Outcome, Released, Shown, Checkpoint, Epoch, Decided}
use Rattle.ic_base.specs.declared.limits.TheConstants.{GREATEST_NUMBER}
use Rattle.def_step.specs.Tcom.{Tcom, Served}
use Rattle.ic_tcom.specs.declared.answers.Serving.{Serving}
use Rattle.ic_tcom.specs.declared.answers.Serving.TheVariants.{Answered, Decides, Full}
use Rattle.ic_tcom.specs.EngineState.{EngineState, over, entered, Keeps, IsDecision, IsWithinLimits}
use Rattle.ic_tcom.specs.CarriesOut.{CarriesOutOverItsLog, is_past, is_full}

not_past : (x : Tcom) → x.book.clock ≤ GREATEST_NUMBER → x.counter ≤ GREATEST_NUMBER → is_past x ≡ false
not_past x clock counter =
    let a : ltb GREATEST_NUMBER x.book.clock ≡ false = grind (arith, nat_tests) in
    let b : ltb GREATEST_NUMBER x.counter ≡ false = grind (arith, nat_tests) in
    ap (λ a. a || ltb GREATEST_NUMBER x.counter) a ∙ b

-- a decision keeps within the limits
decided_within : (e : EngineState) (r : Record) (log : List Record) → IsDecision e r → e.counter ≤ GREATEST_NUMBER → is_past (over log (entered e r)) ≡ false
decided_within e (Decided stamp c n writes) log h counter = not_past (over log (entered e (Decided stamp c n writes))) h.2 counter
decided_within e (Take from k stamp) log h counter = absurd h
decided_within e (TakeWhole from k stamp handler args) log h counter = absurd h
decided_within e (Input stamp handler args) log h counter = absurd h
decided_within e (Value n place session value) log h counter = absurd h
decided_within e (Outcome stamp n abort) log h counter = absurd h
decided_within e (Released to k) log h counter = absurd h
decided_within e (Shown m) log h counter = absurd h
decided_within e (Checkpoint image) log h counter = absurd h
decided_within e (Epoch epoch) log h counter = absurd h

module _ (step : List Record → Served) (old new : EngineState) (within : IsWithinLimits new) where
  is_exact : (s : Serving) → CarriesOutOverItsLog step old new s → (log : List Record) → Keeps log old → is_full s ≡ is_past (step log).tcom
  is_exact (Answered puts) h = λ log keeps. sym (ap (λ (s : Served). is_past s.tcom) (h log keeps) ∙ not_past (over log new) within.0 within.1)
  is_exact (Decides r answer) h =
      let counter : old.counter ≤ GREATEST_NUMBER = omega (arith, ap (λ (e : EngineState). e.counter) h.0, within.1) in
      λ log keeps. sym (ap (λ (s : Served). is_past s.tcom) (h.2 log keeps) ∙ decided_within old r (log ++ r ∷ []) h.1 counter)
  is_exact Full h = λ log keeps. sym (h.1 log keeps)

  pub if_exact : {E : Type 0} (r : Result Serving E) → IfOk r (CarriesOutOverItsLog step old new) → IfOk r (λ s. (log : List Record) → Keeps log old → is_full s ≡ is_past (step log).tcom)
  if_exact (Ok s) h = is_exact s h
  if_exact (Err e) h = tt
