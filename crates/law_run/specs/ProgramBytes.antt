-- Programs and plays whose numbers have their bytes.
use Rattle.std.specs.Prelude.{◌≡◌, ⊤, ℕ, ◌<◌, ◌≤◌, nat_lt, nat_le, ◌^◌, ℤ, pos, negsuc, Bool, true, ◌&&◌, List, [], ◌∷◌, map, length, FitsSigned}
use Rattle.std.specs.List.{AllByRecursion, All, list_all}
use Rattle.std.specs.Int.{w64}
use Rattle.ic_base.specs.declared.limits.TheConstants.{COMPONENTS, HANDLERS, KEYS, VALUES, VARIABLES}
use Rattle.ic_base.specs.declared.messages.ComId.{ComId}
use Rattle.ic_base.specs.declared.messages.Done.{Done}
use Rattle.ic_base.specs.declared.messages.Done.TheVariants.{Committed, Aborted}
use Rattle.ic_base.specs.declared.messages.Out.{Out as Shown}
use Rattle.ic_base.specs.declared.messages.Request.{Request}
use Rattle.ic_base.specs.declared.messages.Request.TheVariants.{Get as AGet, Put as APut}
use Rattle.ic_base.specs.declared.messages.Send.{Send as Sent}
use Rattle.ic_base.specs.declared.played.Played.{Played}
use Rattle.ic_base.specs.declared.played.Played.TheVariants.{Asks, Ready, NeedFails, Ends}
use Rattle.ic_base.specs.declared.scenario.Component.{Component}
use Rattle.ic_base.specs.declared.scenario.Expr.{Expr}
use Rattle.ic_base.specs.declared.scenario.Expr.TheVariants.{One, Two}
use Rattle.ic_base.specs.declared.scenario.Handler.{Handler}
use Rattle.ic_base.specs.declared.scenario.Operand.{Operand}
use Rattle.ic_base.specs.declared.scenario.Operand.TheVariants.{Number, Var, Param, Local}
use Rattle.ic_base.specs.declared.scenario.Program.{Program}
use Rattle.ic_base.specs.declared.scenario.Stmt.{Stmt}
use Rattle.ic_base.specs.declared.scenario.Stmt.TheOpen.{Stmt-F, Body-F, Set, Send, Out, If, Txn, Get, Put, Need}
use Rattle.ic_base.specs.declared.scenario.Stmt.TheFolds.{fold-Stmt}
use Rattle.def_play.specs.Playing.{stmts_of, handler_of}
use Rattle.def_facts.specs.Flat.{HasFlatParts}
use Rattle.def_facts.specs.Playable.{IsPlayable}

-- values ------------------------------------------------------------------------------------------

-- a value has 64 bits with a sign
abbrev pub IsWord : ℤ → Type 0
IsWord z = FitsSigned w64 z

abbrev pub AreWords : List ℤ → Type 0
AreWords zs = AllByRecursion IsWord zs

abbrev pub is_word : ℤ → Bool
is_word (pos n) = nat_lt n (2 ^ 63)
is_word (negsuc n) = nat_lt n (2 ^ 63)

-- programs ----------------------------------------------------------------------------------------

abbrev pub operand_fits : Operand → Bool
operand_fits (Number z) = is_word z
operand_fits (Var i) = true
operand_fits (Param i) = true
operand_fits (Local i) = true

abbrev pub expr_fits : Expr → Bool
expr_fits (One a) = operand_fits a
expr_fits (Two a op b) = operand_fits a && operand_fits b

-- of a statement: its numbers are values, an `out` has no more of them than it may, and the line of a `need` has 32 bits
abbrev pub stmt_fits : Stmt-F Bool Bool → Bool
stmt_fits (Set i e) = expr_fits e
stmt_fits (Send to h es) = list_all operand_fits es
stmt_fits (Out to es) = nat_le (length es) VALUES && list_all operand_fits es
stmt_fits (If e a b) = expr_fits e && (a && b)
stmt_fits (Txn t a b) = a && b
stmt_fits (Get i key) = true
stmt_fits (Put key e) = expr_fits e
stmt_fits (Need line e) = nat_lt line (2 ^ 32) && expr_fits e

abbrev pub both_fit : List Bool → Bool
both_fit [] = true
both_fit (b ∷ bs) = b && both_fit bs

abbrev pub body_fits : Body-F Bool Bool → Bool
body_fits b = both_fit b.stmts.items

abbrev pub fits_stmt : Stmt → Bool
fits_stmt = fold-Stmt Bool Bool stmt_fits body_fits

abbrev pub stmts_fit : List Stmt → Bool
stmts_fit ss = both_fit (map fits_stmt ss)

-- a component has no more of anything than it may, and its first values are values
pub record ComponentFits (d : Component) : Type 0 where
  pub vars : length d.vars ≤ VARIABLES
  pub keys : length d.keys ≤ KEYS
  pub handlers : length d.handlers ≤ HANDLERS
  pub params : All (λ (h : Handler). h.params ≤ VALUES) d.handlers
  pub first_vars : AllByRecursion (λ x. IsWord x.1) d.vars
  pub first_keys : AllByRecursion (λ x. IsWord x.1) d.keys

-- each number of the program has its bytes
pub record HasBytes (program : Program) : Type 0 where
  pub components : length program.components ≤ COMPONENTS
  pub each : AllByRecursion ComponentFits program.components
  pub handlers : (c : ComId) (handler : ℕ) → stmts_fit (stmts_of (handler_of program c handler)) ≡ true

-- a program of which the laws speak: its statements stand where the grammar lets them, no transaction stands within another, and its
-- numbers have their bytes
pub record IsFit (program : Program) : Type 0 where
  pub playable : IsPlayable program
  pub flat : HasFlatParts program
  pub bytes : HasBytes program

-- plays -------------------------------------------------------------------------------------------

abbrev pub RequestFits : Request → Type 0
RequestFits (AGet key) = ⊤
RequestFits (APut key z) = IsWord z

abbrev pub DoneFits : Done → Type 0
DoneFits (Committed answers) = AreWords answers
DoneFits Aborted = ⊤

abbrev pub SendFits : Sent → Type 0
SendFits s = AreWords s.args

pub record OutFits (o : Shown) : Type 0 where
  pub few : length o.args ≤ VALUES
  pub args : AreWords o.args

-- what a handling ends with
pub record EndFits (zs : List ℤ) (ms : List Sent) (os : List Shown) : Type 0 where
  pub vars : AreWords zs
  pub few : length zs < 2 ^ 8
  pub sends : AllByRecursion SendFits ms
  pub outs : AllByRecursion OutFits os

abbrev pub PlayedFits : Played → Type 0
PlayedFits (Ends vars sends outs) = EndFits vars sends outs
PlayedFits (Asks t q) = RequestFits q
PlayedFits (Ready t) = ⊤
PlayedFits (NeedFails t line) = line < 2 ^ 32
