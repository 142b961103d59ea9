-- The lines of statements, of variables and of keys.
use Rattle.std.proofs.Common.{◌≡◌, ◌∙◌, refl, sym, ap, ap₂, append-nil, ◌<◌, ◌^◌, ℕ, ℤ, List, [], ◌∷◌, ◌++◌, length, le_refl}
use Rattle.std.specs.Ptr.{null_ptr}
use Rattle.ic_base.specs.declared.messages.ComId.{ComId}
use Rattle.ic_base.specs.declared.scenario.Operand.{Operand}
use Rattle.ic_base.specs.declared.scenario.Expr.{Expr}
use Rattle.ic_base.specs.declared.scenario.Stmt.{Stmt}
use Rattle.ic_base.specs.declared.scenario.Stmt.TheVariants as stmt
use Rattle.ic_base.specs.declared.scenario.Stmt.TheVariants.{rolls-Set, rolls-Send, rolls-Out, rolls-If, rolls-Txn, rolls-Get, rolls-Put, rolls-Need}
use Rattle.ic_base.specs.declared.scenario.Stmt.TheOpen as open_stmt
use Rattle.ic_base.specs.declared.scenario.Stmt.TheFolds.{fold-roll-Stmt, fold_out-Body}
use Rattle.ic_base.specs.declared.scenario.Body.{Body}
use Rattle.def_syntax.specs.Lines.{Line, Var, Key, Set, Send, Out, If, Txn, Get, Put, Need, Else, End, stmt_step, body_step, stmt_lines, body_lines}

-- lines of a program
abbrev pub Lines : Type 0
Lines = List Line

-- a variable and a key with their first values
abbrev pub var_line : List ℕ × ℤ → Line
var_line x = Var x.0 x.1

abbrev pub key_line : List ℕ × ℤ → Line
key_line x = Key x.0 x.1

-- the lines of a statement
pub set_lines : (v : ℕ) (e : Expr) → stmt_lines (stmt.Set v e) ≡ Set v e ∷ []
set_lines v e = ap stmt_lines (sym (rolls-Set v e)) ∙ fold-roll-Stmt Lines Lines stmt_step body_step (open_stmt.Set v e)

pub get_lines : (n k : ℕ) → stmt_lines (stmt.Get n k) ≡ Get n k ∷ []
get_lines n k = ap stmt_lines (sym (rolls-Get n k)) ∙ fold-roll-Stmt Lines Lines stmt_step body_step (open_stmt.Get n k)

pub put_lines : (k : ℕ) (e : Expr) → stmt_lines (stmt.Put k e) ≡ Put k e ∷ []
put_lines k e = ap stmt_lines (sym (rolls-Put k e)) ∙ fold-roll-Stmt Lines Lines stmt_step body_step (open_stmt.Put k e)

pub need_lines : (n : ℕ) (e : Expr) → stmt_lines (stmt.Need n e) ≡ Need n e ∷ []
need_lines n e = ap stmt_lines (sym (rolls-Need n e)) ∙ fold-roll-Stmt Lines Lines stmt_step body_step (open_stmt.Need n e)

pub send_lines : (p : ComId) (h : ℕ) (xs : List Operand) → stmt_lines (stmt.Send p h xs) ≡ Send p h xs ∷ []
send_lines p h xs = ap stmt_lines (sym (rolls-Send p h xs)) ∙ fold-roll-Stmt Lines Lines stmt_step body_step (open_stmt.Send p h xs)

pub out_lines : (x : ComId) (xs : List Operand) → stmt_lines (stmt.Out x xs) ≡ Out x xs ∷ []
out_lines x xs = ap stmt_lines (sym (rolls-Out x xs)) ∙ fold-roll-Stmt Lines Lines stmt_step body_step (open_stmt.Out x xs)

pub if_lines : (e : Expr) (a b : Body) (ls ms : Lines) → body_lines a.stmts.items ≡ ls → body_lines b.stmts.items ≡ ms → stmt_lines (stmt.If e a b) ≡ If e ∷ (ls ++ Else ∷ (ms ++ End ∷ []))
if_lines e a b ls ms d f =
    ap stmt_lines (sym (rolls-If e a b))
    ∙ fold-roll-Stmt Lines Lines stmt_step body_step (open_stmt.If e a b)
    ∙ ap₂ (λ (x y : Lines). If e ∷ (x ++ Else ∷ (y ++ End ∷ []))) (fold_out-Body Lines Lines stmt_step body_step a ∙ d) (fold_out-Body Lines Lines stmt_step body_step b ∙ f)

pub txn_lines : (t : ComId) (a b : Body) (ls ms : Lines) → body_lines a.stmts.items ≡ ls → body_lines b.stmts.items ≡ ms → stmt_lines (stmt.Txn t a b) ≡ Txn t ∷ (ls ++ Else ∷ (ms ++ End ∷ []))
txn_lines t a b ls ms d f =
    ap stmt_lines (sym (rolls-Txn t a b))
    ∙ fold-roll-Stmt Lines Lines stmt_step body_step (open_stmt.Txn t a b)
    ∙ ap₂ (λ (x y : Lines). Txn t ∷ (x ++ Else ∷ (y ++ End ∷ []))) (fold_out-Body Lines Lines stmt_step body_step a ∙ d) (fold_out-Body Lines Lines stmt_step body_step b ∙ f)

-- one statement
pub alone : (s : Stmt) (ls : Lines) → stmt_lines s ≡ ls → body_lines (s ∷ []) ≡ ls
alone s ls e = append-nil (stmt_lines s) ∙ e

-- statements, as they lie in memory
abbrev pub body : (stmts : List Stmt) → length stmts < 2 ^ 63 → Body
body stmts small = record { stmts = record { ptr = null_ptr; len = length stmts; cap = length stmts; alloc = record { memory = record { seal = tt } }; items = stmts; ok = (refl, le_refl (length stmts)); small = small } }
