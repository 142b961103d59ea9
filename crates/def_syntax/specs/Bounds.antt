-- The limits, at the lines of a program: how much stands in front of a line, and how much there may be.
use Rattle.std.specs.Prelude.{◌<◌, ◌≤◌, ℕ, suc, pred, List, [], ◌∷◌, length, All}
use Rattle.ic_base.specs.declared.limits.TheConstants.{COMPONENTS, HANDLERS, KEYS, NAME_CHARACTERS, NESTING, STATEMENTS, VALUES, VARIABLES}
use Rattle.ic_base.specs.declared.scenario.Component.{Component}
use Rattle.ic_base.specs.declared.scenario.Handler.{Handler}
use Rattle.ic_base.specs.declared.scenario.Program.{Program}
use Rattle.def_syntax.specs.Lines.{Line, Head, Var, Key, On, Set, Send, Out, If, Txn, Get, Put, Need, Else, End, program_lines}

-- what stands in front of a line: components; variables, keys and handlers of its component; statements of its handler, and open `if` and `txn`
pub record Count : Type 0 where
  pub components : ℕ
  pub vars : ℕ
  pub keys : ℕ
  pub handlers : ℕ
  pub statements : ℕ
  pub nesting : ℕ

abbrev pub nothing_counted : Count
nothing_counted = record { components = 0; vars = 0; keys = 0; handlers = 0; statements = 0; nesting = 0 }

-- behind the line
abbrev pub counted : Line → Count → Count
counted (Head n kind immediate) c = record c { components = suc c.components; vars = 0; keys = 0; handlers = 0 }
counted (Var n z) c = record c { vars = suc c.vars }
counted (Key n z) c = record c { keys = suc c.keys }
counted (On n params) c = record c { handlers = suc c.handlers; statements = 0; nesting = 0 }
counted (Set v e) c = record c { statements = suc c.statements }
counted (Send p h xs) c = record c { statements = suc c.statements }
counted (Out x xs) c = record c { statements = suc c.statements }
counted (If e) c = record c { statements = suc c.statements; nesting = suc c.nesting }
counted (Txn t) c = record c { statements = suc c.statements; nesting = suc c.nesting }
counted (Get n k) c = record c { statements = suc c.statements }
counted (Put k e) c = record c { statements = suc c.statements }
counted (Need line e) c = record c { statements = suc c.statements }
counted Else c = c
counted End c = record c { nesting = pred c.nesting }

-- the line passes no limit there
abbrev pub Fits : Count → Line → Type 0
Fits c (Head n kind immediate) = (c.components < COMPONENTS) × (length n ≤ NAME_CHARACTERS)
Fits c (Var n z) = (c.vars < VARIABLES) × (length n ≤ NAME_CHARACTERS)
Fits c (Key n z) = (c.keys < KEYS) × (length n ≤ NAME_CHARACTERS)
Fits c (On n params) = (c.handlers < HANDLERS) × (length n ≤ NAME_CHARACTERS) × (params ≤ VALUES)
Fits c (Set v e) = c.statements < STATEMENTS
Fits c (Send p h xs) = (c.statements < STATEMENTS) × (length xs ≤ VALUES)
Fits c (Out x xs) = (c.statements < STATEMENTS) × (length xs ≤ VALUES)
Fits c (If e) = (c.statements < STATEMENTS) × (c.nesting < NESTING)
Fits c (Txn t) = (c.statements < STATEMENTS) × (c.nesting < NESTING)
Fits c (Get n k) = c.statements < STATEMENTS
Fits c (Put k e) = c.statements < STATEMENTS
Fits c (Need line e) = c.statements < STATEMENTS
Fits c Else = Unit {0}
Fits c End = Unit {0}

-- no line passes a limit, the first of them behind these
abbrev pub AllFit : Count → List Line → Type 0
AllFit c [] = Unit {0}
AllFit c (l ∷ ls) = Fits c l × AllFit (counted l c) ls

-- a component has no more of anything than it may
pub record IsLimited (c : Component) : Type 0 where
  pub name : length c.name ≤ NAME_CHARACTERS
  pub vars : length c.vars ≤ VARIABLES
  pub keys : length c.keys ≤ KEYS
  pub handlers : length c.handlers ≤ HANDLERS
  pub names : All (λ (h : Handler). length h.name ≤ NAME_CHARACTERS) c.handlers
  pub params : All (λ (h : Handler). h.params ≤ VALUES) c.handlers

-- no line of the program passes a limit, nor do its lists
pub record KeepsLimits (p : Program) : Type 0 where
  pub lines : AllFit nothing_counted (program_lines p)
  pub components : length p.components ≤ COMPONENTS
  pub each : All IsLimited p.components
