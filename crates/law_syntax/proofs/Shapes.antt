-- The shape of each kind of statement.
use Rattle.std.proofs.Common.{◌≡◌, ◌∙◌, sym, ap, ℕ, List}
use Rattle.ic_base.specs.declared.messages.ComId.{ComId}
use Rattle.ic_base.specs.declared.scenario.Operand.{Operand}
use Rattle.ic_base.specs.declared.scenario.Expr.{Expr}
use Rattle.ic_base.specs.declared.scenario.Body.{Body}
use Rattle.ic_base.specs.declared.scenario.Program.{Program}
use Rattle.ic_base.specs.declared.scenario.Stmt.TheOpen.{Set, Send, Out, If, Txn, Get, Put, Need}
use Rattle.ic_base.specs.declared.scenario.Stmt as stmt
use Rattle.ic_base.specs.declared.scenario.Stmt.TheVariants.{rolls-Set, rolls-Send, rolls-Out, rolls-If, rolls-Txn, rolls-Get, rolls-Put, rolls-Need}
use Rattle.ic_base.specs.declared.scenario.Stmt.TheFolds.{fold-Body, fold-roll-Stmt, fold_out-Body}
use Rattle.law_syntax.specs.Placed.{Shape, shape_stmt, shape_body, shape, shapes}

module _ (program : Program) (c : ComId) where
  pub shape-Set : (i : ℕ) (e : Expr) → shape program c (stmt.Set i e) ≡ shape_stmt program c (Set i e)
  shape-Set i e = ap (shape program c) (sym (rolls-Set i e)) ∙ fold-roll-Stmt Shape Shape (shape_stmt program c) shape_body (Set i e)

  pub shape-Send : (to : ComId) (h : ℕ) (es : List Operand) → shape program c (stmt.Send to h es) ≡ shape_stmt program c (Send to h es)
  shape-Send to h es = ap (shape program c) (sym (rolls-Send to h es)) ∙ fold-roll-Stmt Shape Shape (shape_stmt program c) shape_body (Send to h es)

  pub shape-Out : (to : ComId) (es : List Operand) → shape program c (stmt.Out to es) ≡ shape_stmt program c (Out to es)
  shape-Out to es = ap (shape program c) (sym (rolls-Out to es)) ∙ fold-roll-Stmt Shape Shape (shape_stmt program c) shape_body (Out to es)

  pub shape-Get : (i key : ℕ) → shape program c (stmt.Get i key) ≡ shape_stmt program c (Get i key)
  shape-Get i key = ap (shape program c) (sym (rolls-Get i key)) ∙ fold-roll-Stmt Shape Shape (shape_stmt program c) shape_body (Get i key)

  pub shape-Put : (key : ℕ) (e : Expr) → shape program c (stmt.Put key e) ≡ shape_stmt program c (Put key e)
  shape-Put key e = ap (shape program c) (sym (rolls-Put key e)) ∙ fold-roll-Stmt Shape Shape (shape_stmt program c) shape_body (Put key e)

  pub shape-Need : (line : ℕ) (e : Expr) → shape program c (stmt.Need line e) ≡ shape_stmt program c (Need line e)
  shape-Need line e = ap (shape program c) (sym (rolls-Need line e)) ∙ fold-roll-Stmt Shape Shape (shape_stmt program c) shape_body (Need line e)

  shape-body : (b : Body) → fold-Body Shape Shape (shape_stmt program c) shape_body b ≡ shapes program c b.stmts.items
  shape-body b = fold_out-Body Shape Shape (shape_stmt program c) shape_body b

  pub shape-If : (e : Expr) (a b : Body) → shape program c (stmt.If e a b) ≡ shape_stmt program c (If e (shapes program c a.stmts.items) (shapes program c b.stmts.items))
  shape-If e a b =
      ap (shape program c) (sym (rolls-If e a b)) ∙ fold-roll-Stmt Shape Shape (shape_stmt program c) shape_body (If e a b)
      ∙ ap (λ x. shape_stmt program c (If e x (fold-Body Shape Shape (shape_stmt program c) shape_body b))) (shape-body a)
      ∙ ap (λ x. shape_stmt program c (If e (shapes program c a.stmts.items) x)) (shape-body b)

  pub shape-Txn : (t : ComId) (a b : Body) → shape program c (stmt.Txn t a b) ≡ shape_stmt program c (Txn t (shapes program c a.stmts.items) (shapes program c b.stmts.items))
  shape-Txn t a b =
      ap (shape program c) (sym (rolls-Txn t a b)) ∙ fold-roll-Stmt Shape Shape (shape_stmt program c) shape_body (Txn t a b)
      ∙ ap (λ x. shape_stmt program c (Txn t x (fold-Body Shape Shape (shape_stmt program c) shape_body b))) (shape-body a)
      ∙ ap (λ x. shape_stmt program c (Txn t (shapes program c a.stmts.items) x)) (shape-body b)
