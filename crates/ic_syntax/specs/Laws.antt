-- What holds of every text.
use Rattle.std.specs.Prelude.{◌≡◌, ◌<◌, ◌≤◌, ◌↔◌, ◌⊎◌, ℕ, suc, List, [], ◌∷◌, length, Ok, Any}
use Rattle.ic_base.specs.declared.limits.TheConstants.{TEXT_BYTES}
use Rattle.ic_base.specs.declared.scenario.Component.{Component}
use Rattle.ic_base.specs.declared.scenario.Handler.{Handler}
use Rattle.ic_base.specs.declared.scenario.Program.{Program}
use Rattle.ic_base.specs.declared.refusals.Cause.{Cause}
use Rattle.ic_base.specs.declared.refusals.Cause.TheVariants.{Limit}
use Rattle.def_syntax.specs.Lines.{Line, Send, Out, If, Txn, program_lines}
use Rattle.def_syntax.specs.Scenario.{IsScenario, IsRefused, scenario_of}
use Rattle.def_syntax.specs.Bounds.{Count, nothing_counted, counted, KeepsLimits}
use Rattle.def_syntax.specs.Grammar.{IsWritten}
use Rattle.ic_syntax.specs.Faults.{HasFault}

abbrev pub IsNeverBoth : Type 0
IsNeverBoth = (text : List ℕ) (p : Program) (line : ℕ) (cause : Cause) → IsScenario text p → IsRefused text line cause → ⊥

-- every text is a scenario or refused
abbrev pub IsOneOrOther : Type 0
IsOneOrOther = (text : List ℕ) → ((p : Program) × IsScenario text p) ⊎ ((line : ℕ) × (cause : Cause) × IsRefused text line cause)

-- a text is refused for its length, or where the least of its lines that is at fault says so, and only there
abbrev pub IsLeastFault : Type 0
IsLeastFault = (text : List ℕ) (line : ℕ) (cause : Cause) → IsRefused text line cause ↔ HasFault text line cause

abbrev pub HasOneProgram : Type 0
HasOneProgram = (text : List ℕ) (p q : Program) → IsScenario text p → IsScenario text q → program_lines p ≡ program_lines q

abbrev pub IsRefusedTooLong : Type 0
IsRefusedTooLong = (text : List ℕ) → TEXT_BYTES < length text → IsRefused text 0 Limit

-- the grammar by relations gives a text the programs for which it stands, and no others
abbrev pub IsGrammatical : Type 0
IsGrammatical = (text : List ℕ) (p : Program) → IsScenario text p ↔ IsWritten text p

-- no program of a scenario passes a limit
abbrev pub HaveLimits : Type 0
HaveLimits = (text : List ℕ) (p : Program) → IsScenario text p → KeepsLimits p

-- a text may have any length up to the limit
abbrev pub HasAnyLength : Type 0
HasAnyLength = (n : ℕ) → n ≤ TEXT_BYTES → (text : List ℕ) × (length text ≡ n) × (scenario_of text ≡ Ok [])

-- some text is a scenario of a program of which this holds
abbrev pub IsReached : (Program → Type 0) → Type 0
IsReached holds = (text : List ℕ) × (p : Program) × IsScenario text p × holds p

-- this holds of some component, of some handler
abbrev pub SomeComponent : (Component → Type 0) → Program → Type 0
SomeComponent holds p = Any holds p.components

abbrev pub SomeHandler : (Handler → Type 0) → Program → Type 0
SomeHandler holds p = SomeComponent (λ c. Any holds c.handlers) p

-- this holds of some of these lines and what stands in front of it, the first of them behind what is counted
abbrev pub HoldsBehind : (Count → Line → Type 0) → Count → List Line → Type 0
HoldsBehind holds c [] = ⊥
HoldsBehind holds c (l ∷ ls) = holds c l ⊎ HoldsBehind holds (counted l c) ls

abbrev pub SomeLine : (Count → Line → Type 0) → Program → Type 0
SomeLine holds p = HoldsBehind holds nothing_counted (program_lines p)

-- an `if` at this nesting, a `txn` at this nesting
abbrev pub IsIf : ℕ → Count → Line → Type 0
IsIf nesting c (If e) = suc c.nesting ≡ nesting
IsIf nesting c _ = ⊥

abbrev pub IsTxn : ℕ → Count → Line → Type 0
IsTxn nesting c (Txn t) = suc c.nesting ≡ nesting
IsTxn nesting c _ = ⊥

-- a `send` with so many operands, an `out` with so many operands
abbrev pub IsSend : ℕ → Count → Line → Type 0
IsSend operands c (Send p h xs) = length xs ≡ operands
IsSend operands c _ = ⊥

abbrev pub IsOut : ℕ → Count → Line → Type 0
IsOut operands c (Out x xs) = length xs ≡ operands
IsOut operands c _ = ⊥
