-- Statements that send nothing, show nothing and begin no transaction.
use Rattle.std.specs.Prelude.{◌≡◌, ℕ, ℤ, Bool, true, false, ◌&&◌, List, map}
use Rattle.std.specs.List.{list_all}
use Rattle.ic_base.specs.declared.scenario.Stmt.{Stmt}
use Rattle.ic_base.specs.declared.scenario.Stmt.TheOpen.{Stmt-F, Body-F, Set, If}
use Rattle.ic_base.specs.declared.scenario.Stmt.TheFolds.{fold-Stmt}
use Rattle.def_play.specs.Playing.{Change, Evaluation, Part, Goes, turn, in_turn}

-- one statement, with what holds of each body in its place
abbrev pub silent_stmt : Stmt-F Bool Bool → Bool
silent_stmt (Set i e) = true
silent_stmt (If e then other) = then && other
silent_stmt _ = false

abbrev pub silent_body : Body-F Bool Bool → Bool
silent_body b = list_all (λ x. x) b.stmts.items

-- a statement is a `set`, or an `if` of such statements
abbrev pub is_silent : Stmt → Bool
is_silent = fold-Stmt Bool Bool silent_stmt silent_body

abbrev pub are_silent : List Stmt → Bool
are_silent ss = list_all is_silent ss

-- whatever it is played with, it goes on, and changes nothing but the variables
abbrev pub StaysSilent : Change → Type 0
StaysSilent change = (p : Part) (s : Evaluation) → (vars : List ℤ) × (change p s ≡ Goes (record s { vars = vars }))

-- the same of statements in order
abbrev pub StaySilent : List Stmt → Type 0
StaySilent ss = (args now : List ℤ) → StaysSilent (in_turn (map (turn args now) ss))
