-- What the lines of statements leave as it is.
use Rattle.std.proofs.Common.{◌≡◌, ◌∙◌, sym, refl, subst, List, [], ◌∷◌, ◌++◌, map}
use Rattle.ic_base.specs.declared.scenario.Stmt.{Stmt, roll-Stmt, map-Stmt}
use Rattle.ic_base.specs.declared.scenario.Body.{Body, roll-Body, map-Body}
use Rattle.ic_base.specs.declared.scenario.Stmt.TheOpen as stmts
use Rattle.ic_base.specs.declared.scenario.Stmt.TheOpen.{Stmt-F, Body-F}
use Rattle.ic_base.specs.declared.scenario.Stmt.TheFolds.{ind-Stmt, fold-Body, fold-roll-Stmt, fold-roll-Body}
use Rattle.def_syntax.specs.Lines.{Line, stmt_step, body_step, stmt_lines, body_lines, joined}
use Rattle.def_syntax.specs.Lines as grammar
use Rattle.def_syntax.specs.Bounds.{Count, counted}

-- behind these lines
abbrev pub after : Count → List Line → Count
after c [] = c
after c (l ∷ ls) = after (counted l c) ls

-- the same components, variables, keys and handlers
pub record IsLike (c d : Count) : Type 0 where
  pub components : d.components ≡ c.components
  pub vars : d.vars ≡ c.vars
  pub keys : d.keys ≡ c.keys
  pub handlers : d.handlers ≡ c.handlers

like : (c : Count) → IsLike c c
like c = record { components = refl; vars = refl; keys = refl; handlers = refl }

likes : (c d e : Count) → IsLike c d → IsLike d e → IsLike c e
likes c d e x y = record { components = y.components ∙ x.components; vars = y.vars ∙ x.vars; keys = y.keys ∙ x.keys; handlers = y.handlers ∙ x.handlers }

abbrev pub Keeps : List Line → Type 0
Keeps ls = (c : Count) → IsLike c (after c ls)

pub after_append : (c : Count) (a b : List Line) → after c (a ++ b) ≡ after (after c a) b
after_append c [] b = refl
after_append c (l ∷ a) b = after_append (counted l c) a b

pub keep_both : (a b : List Line) → Keeps a → Keeps b → Keeps (a ++ b)
keep_both a b x y c = subst (IsLike c) (sym (after_append c a b)) (likes c (after c a) _ (x c) (y (after c a)))

keep_first : (l : Line) (ls : List Line) → ((c : Count) → IsLike c (counted l c)) → Keeps ls → Keeps (l ∷ ls)
keep_first l ls x y c = likes c (counted l c) _ (x c) (y (counted l c))

keep_none : Keeps []
keep_none c = like c

pub keep_end : Keeps (grammar.End ∷ [])
keep_end c = record { components = refl; vars = refl; keys = refl; handlers = refl }

abbrev KeepsStmt : Stmt → Type 0
KeepsStmt s = Keeps (stmt_lines s)

abbrev lines_in : Body → List Line
lines_in b = fold-Body (List Line) (List Line) stmt_step body_step b

abbrev KeepsBody : Body → Type 0
KeepsBody b = Keeps (lines_in b)

keep_parts : (l : Line) (a b : List Line) → ((c : Count) → IsLike c (counted l c)) → Keeps a → Keeps b → Keeps (l ∷ (a ++ grammar.Else ∷ (b ++ grammar.End ∷ [])))
keep_parts l a b x y z =
    keep_first l (a ++ grammar.Else ∷ (b ++ grammar.End ∷ [])) x
    (keep_both a (grammar.Else ∷ (b ++ grammar.End ∷ [])) y (keep_first grammar.Else (b ++ grammar.End ∷ []) like (keep_both b (grammar.End ∷ []) z keep_end)))

keep_one : (l : Line) → ((c : Count) → IsLike c (counted l c)) → Keeps (l ∷ [])
keep_one l x = keep_first l [] x keep_none

more_counted : (c d : Count) → d.components ≡ c.components → d.vars ≡ c.vars → d.keys ≡ c.keys → d.handlers ≡ c.handlers → IsLike c d
more_counted c d a b k h = record { components = a; vars = b; keys = k; handlers = h }

-- one statement, whose bodies do so
rolled : (x : Stmt-F Stmt Body) → Keeps (stmt_step (map-Stmt Stmt Body (List Line) (List Line) stmt_lines (fold-Body (List Line) (List Line) stmt_step body_step) x)) → Keeps (stmt_lines (roll-Stmt x))
rolled x k = subst Keeps (sym (fold-roll-Stmt (List Line) (List Line) stmt_step body_step x)) k

layer : (y : Stmt-F ((s : Stmt) × KeepsStmt s) ((b : Body) × KeepsBody b)) → Keeps (stmt_lines (roll-Stmt (map-Stmt ((s : Stmt) × KeepsStmt s) ((b : Body) × KeepsBody b) Stmt Body (λ e. e.0) (λ e. e.0) y)))
layer (stmts.Set v e) = rolled (stmts.Set v e) (keep_one (grammar.Set v e) (λ c. more_counted c _ refl refl refl refl))
layer (stmts.Send p h xs) = rolled (stmts.Send p h xs) (keep_one (grammar.Send p h xs) (λ c. more_counted c _ refl refl refl refl))
layer (stmts.Out x xs) = rolled (stmts.Out x xs) (keep_one (grammar.Out x xs) (λ c. more_counted c _ refl refl refl refl))
layer (stmts.If e a b) = rolled (stmts.If e a.0 b.0) (keep_parts (grammar.If e) (lines_in a.0) (lines_in b.0) (λ c. more_counted c _ refl refl refl refl) a.1 b.1)
layer (stmts.Txn t a b) = rolled (stmts.Txn t a.0 b.0) (keep_parts (grammar.Txn t) (lines_in a.0) (lines_in b.0) (λ c. more_counted c _ refl refl refl refl) a.1 b.1)
layer (stmts.Get n k) = rolled (stmts.Get n k) (keep_one (grammar.Get n k) (λ c. more_counted c _ refl refl refl refl))
layer (stmts.Put k e) = rolled (stmts.Put k e) (keep_one (grammar.Put k e) (λ c. more_counted c _ refl refl refl refl))
layer (stmts.Need n e) = rolled (stmts.Need n e) (keep_one (grammar.Need n e) (λ c. more_counted c _ refl refl refl refl))

keep_all : (ss : List ((s : Stmt) × KeepsStmt s)) → Keeps (joined (map stmt_lines (map (λ e. e.0) ss)))
keep_all [] = keep_none
keep_all (s ∷ ss) = keep_both (stmt_lines s.0) (joined (map stmt_lines (map (λ e. e.0) ss))) s.1 (keep_all ss)

layer_body : (y : Body-F ((s : Stmt) × KeepsStmt s) ((b : Body) × KeepsBody b))
    → Keeps (fold-Body (List Line) (List Line) stmt_step body_step (roll-Body (map-Body ((s : Stmt) × KeepsStmt s) ((b : Body) × KeepsBody b) Stmt Body (λ e. e.0) (λ e. e.0) y)))
layer_body y = subst Keeps (sym (fold-roll-Body (List Line) (List Line) stmt_step body_step _)) (keep_all y.stmts.items)

pub keep_stmt : (s : Stmt) → KeepsStmt s
keep_stmt = ind-Stmt KeepsStmt KeepsBody (λ x y is. subst (λ x. Keeps (stmt_lines (roll-Stmt x))) is (layer y)) (λ x y is. subst (λ x. Keeps (fold-Body (List Line) (List Line) stmt_step body_step (roll-Body x))) is (layer_body y))

pub keep_body : (ss : List Stmt) → Keeps (body_lines ss)
keep_body [] = keep_none
keep_body (s ∷ ss) = keep_both (stmt_lines s) (body_lines ss) (keep_stmt s) (keep_body ss)
