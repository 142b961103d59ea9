-- What the named texts of a run with a standby ask for, and why they are refused.
use Rattle.std.specs.Prelude.{◌≡◌, ⊤, ℕ, List, None, Some, Ok, Err, option_map}
use Rattle.ic_base.specs.declared.messages.ComId.{ComId}
use Rattle.ic_base.specs.declared.scenario.Program.{Program}
use Rattle.def_standby.specs.Reading.{orders_of}
use Rattle.def_standby.specs.declared.orders.Order.{Order}
use Rattle.def_standby.specs.declared.orders.Order.TheVariants.{Run}
use Rattle.def_standby.specs.declared.orders.Orders.{Orders}
use Rattle.def_syntax.specs.Commands.{TextNames}
use Rattle.def_syntax.specs.Scenario.{IsRefused}
use Rattle.def_syntax.specs.Schedule.{named_from, is_pcom}
use Rattle.ic_disk.specs.declared.texts.Texts.{Ghosts}
use Rattle.ic_failover.specs.declared.texts.FailoverRefused.{FailoverRefused}
use Rattle.ic_failover.specs.declared.texts.FailoverRefused.TheVariants.{NoPcom, Texts}
use Rattle.ic_failover.specs.declared.texts.FailoverTexts.{FailoverTexts}
use Rattle.ic_plan.specs.Asking.{Held, Holds, SaysProgram, IsPolicyOf}
use Rattle.ic_plan.specs.Keeping.{HasReadCause}
use Rattle.ic_plan.specs.Refusing.{BehindScenario, RefusesNamed}
use Rattle.ic_plan.specs.declared.run_texts.TextsRefused.{TextsRefused}
use Rattle.ic_plan.specs.declared.run_texts.TextsRefused.TheVariants as refused
use Rattle.ic_run.specs.Agendas.{MayCome}

-- an order that a schedule of the program may have
abbrev pub MayBeOrdered : Program → Order → Type 0
MayBeOrdered program (Run e) = MayCome program e
MayBeOrdered program o = ⊤

-- the component of this name is a Pcom, and has this number
abbrev pub IsPcomNamed : Program → List ℕ → ComId → Type 0
IsPcomNamed program name c = option_map (λ x. x.0) (named_from 0 is_pcom name program.components) ≡ Some c.0

abbrev pub NamesNoPcom : List ℕ → Program → Type 0
NamesNoPcom name program = option_map (λ x. x.0) (named_from 0 is_pcom name program.components) ≡ None

-- the text is this schedule of the program
abbrev pub SaysOrders : Program → Orders → List ℕ → Type 0
SaysOrders program s text = orders_of program text ≡ Ok (s.orders, s.halts)

-- what the text of such a schedule is refused for
abbrev pub RefusesOrders : Program → TextsRefused → List ℕ → Type 0
RefusesOrders program (refused.Schedule line cause) text = orders_of program text ≡ Err (line, cause)
RefusesOrders program _ text = ⊥

-- what the schedule and the policy of these names ask for, behind a scenario of this program
pub record IsRestOf (program : Program) (fingerprint : List ℕ) (who : ComId) (names : TextNames) (held : Held) (r : FailoverTexts) : Type 0 where
  pub program_is : r.program ≡ program
  pub print_is : r.fingerprint ≡ fingerprint
  pub who_is : r.who ≡ who
  pub schedule : Holds held names.schedule (SaysOrders program r.orders)
  pub policy : IsPolicyOf held names.policy r.policy

-- the texts with these names ask for this, with a standby of the Pcom of a name
pub record AreFailoverTexts (who : List ℕ) (names : TextNames) (held : Held) (r : FailoverTexts) : Type 0 where
  pub scenario : Holds held names.scenario (SaysProgram r.program r.fingerprint)
  pub pcom : IsPcomNamed r.program who r.who
  pub schedule : Holds held names.schedule (SaysOrders r.program r.orders)
  pub policy : IsPolicyOf held names.policy r.policy

-- the name is that of a Pcom of the program, and this holds
pub record BehindPcom (who : List ℕ) (program : Program) (P : Type 0) : Type 0 where
  pub c : ComId
  pub pcom : IsPcomNamed program who c
  pub refused : P

-- the schedule is one of the program, and this holds
pub record BehindOrders (held : Held) (name : List ℕ) (program : Program) (P : Type 0) : Type 0 where
  pub orders : Orders
  pub schedule : Holds held name (SaysOrders program orders)
  pub refused : P

-- The first that is refused is refused so: the scenario, the name of the component, the schedule, the policy. A text that wasn't read and
-- want of memory say nothing of them.
abbrev pub AreFailoverRefused : List ℕ → TextNames → Held → FailoverRefused → Type 0
AreFailoverRefused who names held NoPcom = BehindScenario held names.scenario (NamesNoPcom who)
AreFailoverRefused who names held (Texts (refused.Scenario line cause)) = Holds held names.scenario (λ text. IsRefused text line cause)
AreFailoverRefused who names held (Texts (refused.Schedule line cause)) =
    BehindScenario held names.scenario (λ program. BehindPcom who program (Holds held names.schedule (λ text. orders_of program text ≡ Err (line, cause))))
AreFailoverRefused who names held (Texts (refused.Policy e)) =
    BehindScenario held names.scenario (λ program. BehindPcom who program (BehindOrders held names.schedule program (RefusesNamed held names.policy (refused.Policy e))))
AreFailoverRefused who names held (Texts refused.Read) = ⊤
AreFailoverRefused who names held (Texts refused.Memory) = ⊤

-- what the schedule or the policy is refused for, behind a scenario of this program
abbrev pub RefusesRest : Program → TextNames → Held → TextsRefused → Type 0
RefusesRest program names held (refused.Scenario line cause) = ⊥
RefusesRest program names held (refused.Schedule line cause) = Holds held names.schedule (λ text. orders_of program text ≡ Err (line, cause))
RefusesRest program names held (refused.Policy e) = BehindOrders held names.schedule program (RefusesNamed held names.policy (refused.Policy e))
RefusesRest program names held refused.Read = ⊤
RefusesRest program names held refused.Memory = ⊤

-- a text is told as not read only where the count of faults rose
abbrev pub HasFailoverCause : {T : Type 0} → Ghosts T → T → T → FailoverRefused → Type 0
HasFailoverCause t old new NoPcom = ⊤
HasFailoverCause t old new (Texts e) = HasReadCause t old new e
