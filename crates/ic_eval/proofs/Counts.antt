-- How many statements each kind is.
use Rattle.std.proofs.Common.{◌≡◌, ◌∙◌, sym, ap, ℕ, ◌+◌, List}
use Rattle.ic_base.specs.declared.messages.ComId.{ComId}
use Rattle.ic_base.specs.declared.scenario.Operand.{Operand}
use Rattle.ic_base.specs.declared.scenario.Expr.{Expr}
use Rattle.ic_base.specs.declared.scenario.Body.{Body}
use Rattle.ic_base.specs.declared.scenario.Stmt.TheOpen.{Set, Send, Out, If, Txn, Get, Put, Need}
use Rattle.ic_base.specs.declared.scenario.Stmt as stmt
use Rattle.ic_base.specs.declared.scenario.Stmt.TheVariants.{rolls-Set, rolls-Send, rolls-Out, rolls-If, rolls-Txn, rolls-Get, rolls-Put, rolls-Need}
use Rattle.ic_base.specs.declared.scenario.Stmt.TheFolds.{fold-Body, fold-roll-Stmt, fold_out-Body}
use Rattle.ic_eval.specs.Counts.{stmt_count, body_count, count_of, count_of_all}

pub count_of-Set : (i : ℕ) (e : Expr) → count_of (stmt.Set i e) ≡ 1
count_of-Set i e = ap count_of (sym (rolls-Set i e)) ∙ fold-roll-Stmt ℕ ℕ stmt_count body_count (Set i e)

pub count_of-Send : (to : ComId) (h : ℕ) (es : List Operand) → count_of (stmt.Send to h es) ≡ 1
count_of-Send to h es = ap count_of (sym (rolls-Send to h es)) ∙ fold-roll-Stmt ℕ ℕ stmt_count body_count (Send to h es)

pub count_of-Out : (to : ComId) (es : List Operand) → count_of (stmt.Out to es) ≡ 1
count_of-Out to es = ap count_of (sym (rolls-Out to es)) ∙ fold-roll-Stmt ℕ ℕ stmt_count body_count (Out to es)

pub count_of-Get : (i key : ℕ) → count_of (stmt.Get i key) ≡ 1
count_of-Get i key = ap count_of (sym (rolls-Get i key)) ∙ fold-roll-Stmt ℕ ℕ stmt_count body_count (Get i key)

pub count_of-Put : (key : ℕ) (e : Expr) → count_of (stmt.Put key e) ≡ 1
count_of-Put key e = ap count_of (sym (rolls-Put key e)) ∙ fold-roll-Stmt ℕ ℕ stmt_count body_count (Put key e)

pub count_of-Need : (line : ℕ) (e : Expr) → count_of (stmt.Need line e) ≡ 1
count_of-Need line e = ap count_of (sym (rolls-Need line e)) ∙ fold-roll-Stmt ℕ ℕ stmt_count body_count (Need line e)

count-body : (b : Body) → fold-Body ℕ ℕ stmt_count body_count b ≡ count_of_all b.stmts.items
count-body b = fold_out-Body ℕ ℕ stmt_count body_count b

pub count_of-If : (e : Expr) (a b : Body) → count_of (stmt.If e a b) ≡ 1 + (count_of_all a.stmts.items + count_of_all b.stmts.items)
count_of-If e a b =
    ap count_of (sym (rolls-If e a b)) ∙ fold-roll-Stmt ℕ ℕ stmt_count body_count (If e a b)
    ∙ ap (λ n. 1 + (n + fold-Body ℕ ℕ stmt_count body_count b)) (count-body a)
    ∙ ap (λ n. 1 + (count_of_all a.stmts.items + n)) (count-body b)

pub count_of-Txn : (t : ComId) (a b : Body) → count_of (stmt.Txn t a b) ≡ 1 + (count_of_all a.stmts.items + count_of_all b.stmts.items)
count_of-Txn t a b =
    ap count_of (sym (rolls-Txn t a b)) ∙ fold-roll-Stmt ℕ ℕ stmt_count body_count (Txn t a b)
    ∙ ap (λ n. 1 + (n + fold-Body ℕ ℕ stmt_count body_count b)) (count-body a)
    ∙ ap (λ n. 1 + (count_of_all a.stmts.items + n)) (count-body b)
