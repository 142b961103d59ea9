-- Whether transactions stand in an `if`, and in a transaction.
use Rattle.std.proofs.Common.{◌≡◌, ◌∙◌, ap, sym, Bool}
use Rattle.ic_base.specs.declared.messages.ComId.{ComId}
use Rattle.ic_base.specs.declared.scenario.Body.{Body}
use Rattle.ic_base.specs.declared.scenario.Expr.{Expr}
use Rattle.ic_base.specs.declared.scenario.Stmt as stmt
use Rattle.ic_base.specs.declared.scenario.Stmt.TheOpen.{If, Txn}
use Rattle.ic_base.specs.declared.scenario.Stmt.TheVariants.{rolls-If, rolls-Txn}
use Rattle.ic_base.specs.declared.scenario.Stmt.TheFolds.{fold-Body, fold-roll-Stmt, fold_out-Body}
use Rattle.def_facts.specs.Flat.{flat_stmt, flat_body, flat, all_flat}

flat-body : (b : Body) → fold-Body (Bool × Bool) (Bool × Bool) flat_stmt flat_body b ≡ all_flat b.stmts.items
flat-body b = fold_out-Body (Bool × Bool) (Bool × Bool) flat_stmt flat_body b

pub flat-If : (e : Expr) (a b : Body) → flat (stmt.If e a b) ≡ flat_stmt (If e (all_flat a.stmts.items) (all_flat b.stmts.items))
flat-If e a b =
    ap flat (sym (rolls-If e a b)) ∙ fold-roll-Stmt (Bool × Bool) (Bool × Bool) flat_stmt flat_body (If e a b)
    ∙ ap (λ x. flat_stmt (If e x (fold-Body (Bool × Bool) (Bool × Bool) flat_stmt flat_body b))) (flat-body a)
    ∙ ap (λ x. flat_stmt (If e (all_flat a.stmts.items) x)) (flat-body b)

pub flat-Txn : (t : ComId) (a b : Body) → flat (stmt.Txn t a b) ≡ flat_stmt (Txn t (all_flat a.stmts.items) (all_flat b.stmts.items))
flat-Txn t a b =
    ap flat (sym (rolls-Txn t a b)) ∙ fold-roll-Stmt (Bool × Bool) (Bool × Bool) flat_stmt flat_body (Txn t a b)
    ∙ ap (λ x. flat_stmt (Txn t x (fold-Body (Bool × Bool) (Bool × Bool) flat_stmt flat_body b))) (flat-body a)
    ∙ ap (λ x. flat_stmt (Txn t (all_flat a.stmts.items) x)) (flat-body b)
